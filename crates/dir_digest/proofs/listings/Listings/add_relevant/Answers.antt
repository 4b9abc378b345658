use Rattle.std.proofs.Common.{rules, ◌≡◌, ◌∙◌, ◌++◌, subst, OnOk, true, false}
use Rattle.file_paths.specs.PathRef.{path_of}
use Rattle.path_subs.specs.Subs.{plain}
use Rattle.dir_digest.specs.Listings.{basis_in}
use Rattle.dir_digest.proofs.SpelledLemmas.{all_relevant, found_relevant}
use Rattle.dir_digest.proofs.listings.Listings.add_relevant.Goals as goal

pub returns-then-not-plain_at-clause-value : goal.returns-then-not-plain_at-clause-value
returns-then-not-plain_at-clause-value c =
    let t = basis_in c.args.self.now in
    let dir = path_of c.args.dir.now in
    let split : plain t.first t.second dir ≡ false = search rules in
    subst (λ bytes. OnOk c.add_all.result (c.add_all.new.to ≡ c.args.to.now ++ bytes))
    (all_relevant t c.as_slice-texts.result.now dir
    (c.as_slice-texts.ensures ∙ c.args.self.now.spelled.specs_are) split) c.add_all.ensures

pub returns-clause-value : goal.returns-clause-value
returns-clause-value c =
    let t = basis_in c.args.self.now in
    let dir = path_of c.args.dir.now in
    let whole : plain t.first t.second dir ≡ true = search rules in
    subst (λ bytes. OnOk c.add_found.result (c.add_found.new.to ≡ c.args.to.now ++ bytes))
    (found_relevant t c.as_slice-texts.result.now c.as_slice.result.now dir
    (path_of c.args.path.now) (c.as_slice-texts.ensures ∙ c.args.self.now.spelled.specs_are)
    whole c.requires.path (c.as_slice.ensures.value ∙ c.in_ok-found.ensures.value))
    c.add_found.ensures
