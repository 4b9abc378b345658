-- The context that is decided for an entry is told by what is decided on the terms of its listing.
use Rattle.std.proofs.Common.{◌≡◌, ◌∙◌, ap, refl, subst, ℕ, ◌+◌, Bool, true, false, cond, List, []}
use Rattle.std.proofs.Common.{◌∷◌, ◌++◌, length, filter, map, Option, Some, None, option_and_then}
use Rattle.std.proofs.Common.{option_map, slice_get, append_assoc, length-append, arith}
use Rattle.std.specs.List.{enumerate_from, last_or}
use Rattle.dir_digest.proofs.SpelledLemmas.{map_cond}
use Rattle.file_paths.specs.Path.{Path, path_text}
use Rattle.label_base.specs.declared.kind.Asked.{Asked}
use Rattle.label_base.specs.declared.kind.Asked.TheVariants.{Of}
use Rattle.label_base.specs.declared.kind.EntryKind.{EntryKind}
use Rattle.path_subs.specs.Subs.{substituted}
use Rattle.spec_reader.specs.SpecValue.{SpecValue}
use Rattle.spec_match.specs.LastMatch.{fits, last_index, last_match}
use Rattle.dir_digest.specs.Alike.{decided_at, decision_of}
use Rattle.relabel_core.specs.declared.options.Options.{Options}
use Rattle.relabel_core.specs.DigestBasis.{basis_by}
use Rattle.label_rules.specs.LookUp.{context_in, given_by, index_asked}
use Rattle.label_rules.specs.declared.rules.Rules.{Rules}
use Rattle.relabel_runs.proofs.WalkLemmas.{context_for}

seam : (done : List SpecValue) (s : SpecValue) (rest : List SpecValue)
    → slice_get (done ++ s ∷ rest) (length done) ≡ Some s
seam [] s rest = refl
seam (d ∷ done) s rest = seam done s rest

member_step : (all : List SpecValue) (n : ℕ) (s : SpecValue) (indices : List ℕ)
    (found : List SpecValue) (b : Bool) (o : Option ℕ) (p : Option SpecValue)
    → slice_get all n ≡ Some s → option_and_then (slice_get all) o ≡ p
    → ((o : Option ℕ) (p : Option SpecValue) → option_and_then (slice_get all) o ≡ p
    → option_and_then (slice_get all) (last_or o indices) ≡ last_or p found)
    → option_and_then (slice_get all) (last_or o (cond b (n ∷ indices) indices))
    ≡ last_or p (cond b (s ∷ found) found)
member_step all n s indices found true o p h e ih = ih (Some n) (Some s) h
member_step all n s indices found false o p h e ih = ih o p e

-- the last index is that of the last that passes
member_from : (q : SpecValue → Bool) (done specs : List SpecValue) (n : ℕ) → n ≡ length done
    → (o : Option ℕ) (p : Option SpecValue)
    → option_and_then (slice_get (done ++ specs)) o ≡ p
    → option_and_then (slice_get (done ++ specs))
    (last_or o (map (λ r. r.0) (filter (λ r. q r.1) (enumerate_from n specs))))
    ≡ last_or p (filter q specs)
member_from q done [] n l o p e = e
member_from q done (s ∷ specs) n l o p e =
    let all = done ++ s ∷ specs in
    let left = filter (λ r. q r.1) (enumerate_from (n + 1) specs) in
    let same = append_assoc done (s ∷ []) specs in
    let more : n + 1 ≡ length (done ++ s ∷ []) = omega (arith, l, length-append done (s ∷ [])) in
    ap (λ indices. option_and_then (slice_get all) (last_or o indices))
    (map_cond (λ r. r.0) (q s) (n, s) left)
    ∙ member_step all n s (map (λ r. r.0) left) (filter q specs) (q s) o p
    (ap (slice_get all) l ∙ seam done s specs) e
    (λ o p e. subst (λ all. option_and_then (slice_get all) o ≡ p
    → option_and_then (slice_get all) (last_or o (map (λ r. r.0) left))
    ≡ last_or p (filter q specs)) same
    (member_from q (done ++ s ∷ []) specs (n + 1) more o p) e)

member_is : (asked : Asked) (text : List ℕ) (specs : List SpecValue)
    → option_and_then (slice_get specs) (last_index asked text specs) ≡ last_match asked text specs
unfolding last_index last_match
member_is asked text specs = member_from (fits asked text) [] specs 0 refl None None refl

given_of : (o : Option SpecValue) → option_and_then given_by o ≡ option_and_then context_in
    (option_map decision_of o)
given_of None = refl
given_of (Some s) = refl

pub context_shown : (rules : Rules) (options : Options) (path : Path) (kind : EntryKind)
    → context_for rules path kind ≡ option_and_then context_in
    (decided_at (basis_by rules options) (Of kind) path)
unfolding index_asked decided_at
context_shown rules options path kind =
    let text = path_text (substituted rules.subs.first rules.subs.second path) in
    ap (option_and_then given_by) (member_is (Of kind) text rules.rules)
    ∙ given_of (last_match (Of kind) text rules.rules)
