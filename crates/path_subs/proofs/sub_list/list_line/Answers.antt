use Rattle.std.proofs.Common.{◌≡◌, ◌∙◌, ap, refl, cond}
use Rattle.std.specs.Prelude.{Some}
use Rattle.indexmap.specs.IndexMap.{insert_entry}
use Rattle.label_base.specs.NumberUnder.{number_under}
use Rattle.label_base.specs.Text.{same_bytes}
use Rattle.file_paths.specs.Path.{path_text, with_slashes}
use Rattle.label_base.proofs.UnderLemmas.{under_more}
use Rattle.path_subs.specs.Listed.{has_text}
use Rattle.path_subs.proofs.ListedLemmas.{nonroot_text}
use Rattle.path_subs.proofs.sub_list.list_line.Goals as goal

pub returns : goal.returns
returns c = λ text.
    let source : c.in_ok-key.key.items ≡ with_slashes c.sub.inside.source =
    c.in_ok-key.ensures.items ∙ c.as_text.ensures.value ∙ ap path_text c.path.ensures
    ∙ nonroot_text c.sub.inside.source c.sub.invariant in
    ap (number_under text) c.in_ok-insert.ensures.entries
    ∙ under_more c.in_ok-key.key c.args.i
    (λ es. insert_entry (λ a b. same_bytes a.items b.items) es c.in_ok-key.key c.args.i) refl
    (λ first rest. refl) c.args.last.now.entries text
    ∙ ap (λ t. cond (same_bytes text t) (Some c.args.i) (number_under text c.args.last.now.entries))
    source
    ∙ ap (λ s. cond (has_text text s) (Some c.args.i) (number_under text c.args.last.now.entries))
    c.sub.view_is
