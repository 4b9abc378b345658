-- What one walk leaves to the next.
use Rattle.std.proofs.Common.{◌≡◌, ◌∙◌, ap, refl, ℕ, Bool, true, false, not, List, get_or, Option}
use Rattle.std.proofs.Common.{Some, None, arith, inl, inr, if◌then◌else◌}
use Rattle.std.specs.Prelude.{◌&&◌, is_some}
use Rattle.std.proofs.lemmas.Bool.{cases_lt}
use Rattle.std.proofs.lemmas.List.{length-map}
use Rattle.std.proofs.Math.ListN.{get_or-eq_default}
use Rattle.label_base.specs.Bounded.{all_numbers}
use Rattle.label_base.proofs.BoundedLemmas.{count_numbers}
use Rattle.dir_digest.specs.Digest.{void_digest}
use Rattle.tree_model.specs.Extents.{is_directory}
use Rattle.tree_model.proofs.LabelledLemmas.{mapped_at}
use Rattle.relabel_core.specs.Walk.{Walk, walk_count, digest_after, digests, has_changed_name}
use Rattle.relabel_core.proofs.ChangeLemmas.{after_other}
use Rattle.relabel_core.proofs.SweptLemmas.{none_of_file}

none_void : (dry changed : Bool) (stored : Option (List ℕ)) → stored ≡ None
    → (if not dry && (is_some stored && changed) then Some void_digest else stored) ≡ None
none_void dry changed (Some digest) h = absurd cc
none_void true changed None h = refl
none_void false changed None h = refl

-- no digest comes to what is no directory, where none is stored
pub none_there : (w : Walk) (e : ℕ) → w.stored e ≡ None → is_directory w.entries e ≡ false
    → digest_after w e ≡ None
none_there w e none other =
    after_other w e (none_of_file w e other) ∙ none_void w.options.dry (has_changed_name w e)
    (w.stored e) none

pub only_directories : (w : Walk) → ((e : ℕ) → is_directory w.entries e ≡ false → w.stored e ≡ None)
    → (row : List (Option (List ℕ))) → row ≡ digests w → (e : ℕ) → is_directory w.entries e ≡ false
    → get_or row e None ≡ None
only_directories w none row is e other =
    ap (λ r. get_or r e None) is
    ∙ elim (cases_lt e (walk_count w)) as (λ _. get_or (digests w) e None ≡ None) [
      | inl lt ↦ mapped_at (digest_after w) (walk_count w) e None lt
          ∙ none_there w e (none e other) other
      | inr ge ↦ get_or-eq_default (digests w) None {n = e}
          (omega (
            arith,
            ge,
            length-map (all_numbers (walk_count w)) (digest_after w),
            count_numbers
                (walk_count w),
          ))
    ]
