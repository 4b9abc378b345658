-- What the files of a list have at a name, and what they have after one was set or added.
use Rattle.std.proofs.Common.{◌≡◌, ◌∙◌, sym, refl, ap, ℕ, zero, suc, ◌<◌, Bool, true, false, cond}
use Rattle.std.proofs.Common.{List, [], ◌∷◌, ◌++◌, length, get_or, set, arith}
use Rattle.std.specs.Prelude.{Option, Some, None, map as list_map}
use Rattle.std.specs.Ordering.{is_eq, nat_cmp}
use Rattle.std.specs.Str.{bytes_eq}
use Rattle.std.specs.Cmp.Lexicographic.{slice_cmp, texts_ties, nat_list_cmp_total}
use Rattle.std.specs.FinMap as map
use Rattle.std.specs.FinMap.{get-from_entries, get-insert, same_map, from_entries_push}
use Rattle.std.specs.FinMap.{nat_cmp-IsAntisymmetric, slice_cmp-IsAntisymmetric, IsAntisymmetric}
use Rattle.std.specs.Cmp.{eq_by_cmp_equiv}
use Rattle.std.proofs.lemmas.Slice.Eq.{bytes_eq-Decides}
use Rattle.std.proofs.lemmas.Bool.{false≢true}
use Rattle.input_output.specs.Store.{files_of, file_found_in, content, pair_of, file_has_name}
use Rattle.input_output.specs.Store.{IsFirstPlace}
use Rattle.input_output.specs.declared.mem_store.MemFile.{MemFile}

same_name : (name other : List ℕ) → is_eq (slice_cmp nat_cmp name other) ≡ bytes_eq other name
same_name name other = (eq_by_cmp_equiv nat_list_cmp_total).symm name other
    ∙ sym (texts_ties other name)

found : (files : List MemFile) (name : List ℕ)
    → map.find (slice_cmp nat_cmp) name (list_map pair_of files) ≡ file_found_in files name
found [] name = refl
found (file ∷ files) name =
    ap (λ b. cond b (Some file.bytes) (map.find (slice_cmp nat_cmp) name (list_map pair_of files)))
    (same_name name file.name)
    ∙ ap (cond (bytes_eq file.name name) (Some file.bytes)) (found files name)

pub content_is : (files : List MemFile) (name : List ℕ) → content (files_of files) name
    ≡ file_found_in files name
content_is files name = get-from_entries nat_list_cmp_total (list_map pair_of files) name
    ∙ found files name

apart : IsAntisymmetric (slice_cmp nat_cmp)
apart = slice_cmp-IsAntisymmetric nat_cmp-IsAntisymmetric

twice : (a : Bool) (x y z : Option (List ℕ)) → cond a x z ≡ cond a x (cond a y z)
twice true x y z = refl
twice false x y z = refl

swapped : (a b : Bool) (x y z : Option (List ℕ)) → (a ≡ true → b ≡ true → ⊥) → cond b y (cond a x z)
    ≡ cond a x (cond b y z)
swapped true true x y z h = absurd (h refl refl)
swapped true false x y z h = refl
swapped false b x y z h = refl

found_after_set : (files : List MemFile) (file : MemFile) (k : ℕ) (q : List ℕ) → k < length files
    → ((d : MemFile) → file_has_name file.name (get_or files k d) ≡ true)
    → ((j : ℕ) (d : MemFile) → j < k → file_has_name file.name (get_or files j d) ≡ false)
    → file_found_in (set files k file) q ≡ cond (bytes_eq file.name q) (Some file.bytes)
    (file_found_in files q)
found_after_set [] file k q h named before = absurd (omega arith)
found_after_set (f ∷ fs) file zero q h named before =
    let same : f.name ≡ file.name = (bytes_eq-Decides f.name file.name).0 (named f) in
    twice (bytes_eq file.name q) (Some file.bytes) (Some f.bytes) (file_found_in fs q)
    ∙ ap (λ n. cond (bytes_eq file.name q) (Some file.bytes)
    (cond (bytes_eq n q) (Some f.bytes) (file_found_in fs q))) (sym same)
found_after_set (f ∷ fs) file (suc k) q h named before =
    ap (cond (bytes_eq f.name q) (Some f.bytes))
    (found_after_set fs file k q (omega arith) named
    (λ j d low. before (suc j) d (omega arith)))
    ∙ swapped (bytes_eq file.name q) (bytes_eq f.name q) (Some file.bytes) (Some f.bytes)
    (file_found_in fs q)
    (λ is has. false≢true (sym (before 0 f (omega arith))
    ∙ (bytes_eq-Decides f.name file.name).1 ((bytes_eq-Decides f.name q).0 has
    ∙ sym ((bytes_eq-Decides file.name q).0 is))))

pub files_after_set : (files : List MemFile) (file : MemFile) (k : ℕ)
    → IsFirstPlace files file.name k → files_of (set files k file) ≡ map.insert (files_of files)
    file.name file.bytes
files_after_set files file k h =
    same_map nat_list_cmp_total apart _ _ (λ q. content_is (set files k file) q
    ∙ found_after_set files file k q h.inside h.named h.before
    ∙ ap (cond (bytes_eq file.name q) (Some file.bytes)) (sym (content_is files q))
    ∙ ap (λ b. cond b (Some file.bytes) (content (files_of files) q)) (sym (same_name q file.name))
    ∙ sym (get-insert nat_list_cmp_total (files_of files) file.name file.bytes q))

pairs_of-push : (files : List MemFile) (file : MemFile) → list_map pair_of (files ++ file ∷ [])
    ≡ list_map pair_of files ++ (file.name, file.bytes) ∷ []
pairs_of-push [] file = refl
pairs_of-push (f ∷ fs) file = ap (λ es. pair_of f ∷ es) (pairs_of-push fs file)

pub files_after_push : (files : List MemFile) (file : MemFile) → file_found_in files file.name
    ≡ None → files_of (files ++ file ∷ []) ≡ map.insert (files_of files) file.name file.bytes
files_after_push files file h =
    ap map.from_entries (pairs_of-push files file) ∙ from_entries_push nat_list_cmp_total apart
    (list_map pair_of files) file.name file.bytes (found files file.name ∙ h)
