-- The entries of a tree of records of a format are of it.
use Rattle.std.proofs.Common.{ℕ, zero, suc, ◌<◌, refl, sym, subst, List, [], ◌∷◌, length, arith}
use Rattle.std.specs.Prelude.{Contains, get_or}
use Rattle.std.specs.List.{AllByRecursion}
use Rattle.std.proofs.lemmas.List.Elements.{All-contains, All-from_recursion, Contains-append_right}
use Rattle.std.proofs.lemmas.List.Elements.{Contains-append_left}
use Rattle.find_records.specs.Record.{AreOfFormat, CountsBy, Record}
use Rattle.find_records.specs.declared.format.Format.{Format}
use Rattle.find_records.specs.Places.{no_record}
use Rattle.tree_model.specs.Labelled.{DifferInLabels}

all_within : {X : Type 0} (P : X → Type 0) → (xs : List X) → ((x : X) → Contains xs x → P x)
    → AllByRecursion P xs
all_within P [] h = tt
all_within P (x ∷ xs) h = (
  h x (Contains-append_left (x ∷ []) xs x (0, omega arith, refl)),
  all_within P xs
      (λ y m. h y (Contains-append_right (x ∷ []) xs y m)),
)

-- what is among records of a format is of it
pub within_format : (format : Format) (records entries : List Record)
    → ((r : Record) → Contains entries r → Contains records r) → AreOfFormat format records
    → AreOfFormat format entries
within_format format records entries h of_format =
    all_within (λ r. CountsBy format r.links) entries
    (λ r m. All-contains (λ r. CountsBy format r.links) records r
    (All-from_recursion (λ r. CountsBy format r.links) records of_format) (h r m))

at_each : {X : Type 0} (P : X → Type 0) (x0 : X) → (xs : List X)
    → ((e : ℕ) → e < length xs → P (get_or xs e x0)) → AllByRecursion P xs
at_each P x0 [] h = tt
at_each P x0 (x ∷ xs) h =
    (h 0 (omega arith), at_each P x0 xs (λ e inside. h (suc e) (omega (inside, arith))))

each_at : {X : Type 0} (P : X → Type 0) (x0 : X) → (xs : List X) → (e : ℕ) → e < length xs
    → AllByRecursion P xs → P (get_or xs e x0)
each_at P x0 [] e inside all = absurd (omega (inside, arith))
each_at P x0 (x ∷ xs) zero inside all = all.0
each_at P x0 (x ∷ xs) (suc e) inside all = each_at P x0 xs e (omega (inside, arith)) all.1

-- with other labels they stay of it
pub relabelled_of : (format : Format) (old new : List Record) → DifferInLabels old new
    → AreOfFormat format old → AreOfFormat format new
relabelled_of format old new same of_format = at_each (λ r. CountsBy format r.links) no_record new
    (λ e inside.
    subst (CountsBy format) (sym (same.links e))
    (each_at (λ r. CountsBy format r.links) no_record old e
    (subst (λ n. e < n) same.count inside) of_format))
