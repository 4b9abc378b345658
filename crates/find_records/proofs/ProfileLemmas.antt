-- Devices, link counts and labels that are kept as rows.
use Rattle.std.proofs.Common.{◌≡◌, ◌∙◌, ap, sym, refl, subst, ℕ, ◌<◌, List, [], ◌∷◌, ◌++◌, inl, inr}
use Rattle.std.proofs.Common.{length, drop, get_or}
use Rattle.std.specs.Prelude.{Some, slice_get}
use Rattle.std.specs.Option.{option_map}
use Rattle.std.proofs.lemmas.List.{get_or_append_left, map-append}
use Rattle.std.proofs.lemmas.Option.{get_or_from_slice_get, slice_get-map}
use Rattle.context_syntax.specs.declared.label.Label.{Label}
use Rattle.context_syntax.specs.declared.label.Label.TheVariants.{Absent}
use Rattle.find_records.specs.Labels.{Extends}
use Rattle.find_records.specs.Profiles.{AreLabelled, AreProfileRows, IsWithRow, profile_in}
use Rattle.find_records.specs.Profiles.{profile_of}
use Rattle.find_records.specs.Profiles.{profiles_in}
use Rattle.find_records.specs.declared.profile_row.ProfileRow.{ProfileRow}
use Rattle.find_records.proofs.LabelLemmas.{extends_by, extends_self, longer}

label_kept : (l m : List Label) (k : ℕ) → Extends l m → k < length l
    → get_or m k Absent ≡ get_or l k Absent
label_kept l m k e h = ap (λ x. get_or x k Absent) (longer l m e)
    ∙ get_or_append_left l (drop (length l) m) Absent k h

-- ---- labels that grow

profiles_kept : (l m : List Label) (rows : List ProfileRow) → Extends l m
    → AreLabelled (length l) rows
    → profiles_in m rows ≡ profiles_in l rows
profiles_kept l m [] e h = refl
profiles_kept l m (p ∷ ps) e h =
    λ i. profile_of p.device p.links (label_kept l m p.label e h.0 i) ∷ profiles_kept l m ps e h.1 i

known_with : (m : List Label) (row : ProfileRow) (rows : List ProfileRow)
    → AreLabelled (length m) rows
    → row.label < length m → AreLabelled (length m) (rows ++ row ∷ [])
known_with m row [] h k = (k, tt)
known_with m row (p ∷ ps) h k = (h.0, known_with m row ps h.1 k)

-- ---- a row more

pub known_by : (m : List Label) (row : ProfileRow) (old new : List ProfileRow)
    → AreLabelled (length m) old → row.label < length m → IsWithRow old row new
    → AreLabelled (length m) new
known_by m row old new h k (inl same) = subst (AreLabelled (length m)) (sym same) h
known_by m row old new h k (inr more) =
    subst (AreLabelled (length m)) (sym more) (known_with m row old h k)

pub extends_with : (m : List Label) (row : ProfileRow) (old new : List ProfileRow)
    → IsWithRow old row new
    → Extends (profiles_in m old) (profiles_in m new)
extends_with m row old new (inl same) = extends_self (profiles_in m old) (profiles_in m new)
    (ap (profiles_in m) same)
extends_with m row old new (inr more) =
    extends_by (profiles_in m old) (profiles_in m new) (profile_in m row ∷ [])
    (ap (profiles_in m) more ∙ map-append (profile_in m) old (row ∷ []))

pub profiles_same : (l m : List Label) (rows : List ProfileRow) → Extends l m
    → AreProfileRows l rows
    → profiles_in m rows ≡ profiles_in l rows
profiles_same l m rows e a = profiles_kept l m rows e a.known

pub profiles_longer : (l m : List Label) (row : ProfileRow) (old new : List ProfileRow)
    → Extends l m
    → AreProfileRows l old → IsWithRow old row new → Extends (profiles_in l old) (profiles_in m new)
profiles_longer l m row old new e a w = subst (λ profiles. Extends profiles (profiles_in m new))
    (profiles_kept l m old e a.known) (extends_with m row old new w)

-- what a number tells
pub profile_at : (m : List Label) (rows : List ProfileRow) (number : ℕ) (row : ProfileRow)
    (label : Label)
    → slice_get rows number ≡ Some row → slice_get m row.label ≡ Some label
    → slice_get (profiles_in m rows) number ≡ Some (profile_of row.device row.links label)
profile_at m rows number row label h e =
    slice_get-map (profile_in m) rows number ∙ ap (option_map (profile_in m)) h
    ∙ ap (λ l. Some (profile_of row.device row.links l))
    (get_or_from_slice_get m row.label label Absent e)
