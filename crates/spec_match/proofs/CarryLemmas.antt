-- Texts of the children of a path, and what is alive behind them.
use Rattle.std.proofs.Common.{◌≡◌, ◌∙◌, refl, sym, ap, subst, ℕ, true, false, List, [], ◌∷◌, ◌++◌}
use Rattle.std.proofs.Common.{append_assoc, append-nil}
use Rattle.std.proofs.lemmas.List.Concat.{flat_map-append}
use Rattle.file_paths.specs.Path.{Path, is_root_path, path_text, with_slashes}
use Rattle.label_base.specs.declared.kind.Asked.{Asked}
use Rattle.pattern_syntax.specs.Language.{Opens}
use Rattle.spec_match.specs.LastMatch.{fits}
use Rattle.spec_match.proofs.AnswerLemmas.{dead_behind}
use Rattle.spec_reader.specs.SpecValue.{SpecValue}

-- a name in the root
pub root_child : (path : Path) (name : List ℕ) → true ≡ is_root_path path → path_text path ++ name
    ≡ path_text (path ++ name ∷ [])
root_child [] name r = ap (λ w. 47 ∷ w) (sym (append-nil name))
root_child (first ∷ names) name r = cc

-- a name below another directory
pub other_child : (path : Path) (name : List ℕ) → false ≡ is_root_path path
    → (path_text path ++ 47 ∷ []) ++ name ≡ path_text (path ++ name ∷ [])
other_child [] name r = cc
other_child (first ∷ names) name r =
    append_assoc (with_slashes (first ∷ names)) (47 ∷ []) name
    ∙ ap (λ w. with_slashes (first ∷ names) ++ 47 ∷ w) (sym (append-nil name))
    ∙ sym (flat_map-append (λ n. 47 ∷ n) (first ∷ names) (name ∷ []))

-- a child's text begins with that of the path
pub child_begins : (path : Path) (name : List ℕ) → (more : List ℕ)
    × (path_text path ++ more ≡ path_text (path ++ name ∷ []))
child_begins [] name = (name, root_child [] name refl)
child_begins (first ∷ names) name = (
  47 ∷ name,
  sym (append_assoc (path_text (first ∷ names)) (47 ∷ []) name)
      ∙ other_child (first ∷ names) name refl,
)

-- what is dead behind the path's text doesn't fit that of a child
pub dead_child : (asked : Asked) (path : Path) (name : List ℕ) (spec : SpecValue)
    → (Opens spec.pattern (path_text path) → ⊥) → fits asked (path_text (path ++ name ∷ [])) spec
    ≡ false
dead_child asked path name spec h =
    let more = child_begins path name in
    subst (λ w. fits asked w spec ≡ false) more.1 (dead_behind asked (path_text path) more.0 spec h)
