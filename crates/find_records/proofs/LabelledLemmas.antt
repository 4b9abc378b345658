-- Labels behind others, and rows with other labels.
use Rattle.std.proofs.Common.{◌≡◌, ◌∙◌, ap, sym, refl, subst, ℕ, zero, suc, ◌+◌, ◌<◌, ◌^◌, List, []}
use Rattle.std.proofs.Common.{◌∷◌, ◌++◌, length, take, drop, get_or, append_assoc, arith}
use Rattle.std.specs.Prelude.{Some, slice_get}
use Rattle.std.specs.List.{AllByRecursion}
use Rattle.std.proofs.lemmas.List.{length-append, length-map, length-take-le, map-append, take_more}
use Rattle.std.proofs.lemmas.Option.{get_or_from_slice_get, slice_get_within}
use Rattle.file_paths.specs.Path.{path_names}
use Rattle.context_syntax.specs.declared.label.Label.{Label}
use Rattle.context_syntax.specs.declared.label.Label.TheVariants.{Absent}
use Rattle.find_records.specs.Labelled.{ArePaired, with_label, with_labels}
use Rattle.find_records.specs.Labels.{Extends}
use Rattle.find_records.specs.Profiles.{AreProfileRows, IsWithRow, Profile, profile_of, profiles_in}
use Rattle.find_records.specs.Profiles.{no_profile}
use Rattle.find_records.specs.Places.{ArePlaces}
use Rattle.find_records.specs.Record.{Record}
use Rattle.find_records.specs.Rows.{AreRecordRows, AreWithin, IsRowWithin, record_in, records_in}
use Rattle.find_records.specs.Rows.{row_text}
use Rattle.find_records.specs.declared.profile_row.ProfileRow.{ProfileRow}
use Rattle.find_records.specs.declared.row.RecordRow.{RecordRow}
use Rattle.find_records.proofs.LabelLemmas.{extends_by, extends_self, longer}
use Rattle.find_records.proofs.LayLemmas.{place_at}
use Rattle.find_records.proofs.ProfileLemmas.{extends_with, known_by, profile_at}
use Rattle.find_records.proofs.RowLemmas.{all_kept, one_more_within, records_kept, within_at}

-- what grows behind the same grows
pub extends_behind : (front old new : List Label) → Extends old new
    → Extends (front ++ old) (front ++ new)
extends_behind front old new e =
    extends_by (front ++ old) (front ++ new) (drop (length old) new)
    (ap (λ x. front ++ x) (longer old new e) ∙ sym (append_assoc front old (drop (length old) new)))

-- one copy more
pub copied_more : (labels copies new : List Label) (i : ℕ) (x y : Label) → i < length labels
    → new ≡ copies ++ x ∷ [] → x ≡ y → slice_get labels i ≡ Some y → copies ≡ take i labels
    → new ≡ take (i + 1) labels
copied_more labels copies new i x y l e f h same =
    e ∙ (λ j. same j ++ (f ∙ sym (get_or_from_slice_get labels i y Absent h)) j ∷ [])
    ∙ sym (take_more labels i Absent l)

-- the profiles of rows that are there
pub profiles_known : (t : List ℕ) (l : List Profile) (rows : List RecordRow) → AreWithin t l rows
    → AllByRecursion (λ row. row.profile < length l) rows
profiles_known t l [] w = tt
profiles_known t l (r ∷ rs) w = (w.0.known, profiles_known t l rs w.1)

-- one record more
labelled_more : (labels : List Label) (ns : List ℕ) (n : ℕ) (rs : List Record) (r : Record)
    → length ns ≡ length rs
    → with_labels labels (ns ++ n ∷ []) (rs ++ r ∷ []) ≡ with_labels labels ns rs ++ with_label
    (get_or labels n Absent) r ∷ []
labelled_more labels [] n [] r e = refl
labelled_more labels [] n (x ∷ rs) r e = absurd (omega (arith, e))
labelled_more labels (m ∷ ns) n [] r e = absurd (omega (arith, e))
labelled_more labels (m ∷ ns) n (x ∷ rs) r e = ap (λ xs. with_label (get_or labels m Absent) x ∷ xs)
    (labelled_more labels ns n rs r (omega (arith, e)))

-- the row with another profile
abbrev pub profiled : ℕ → RecordRow → RecordRow
profiled profile row = record row { profile = profile }

module _ (t : List ℕ) (profiles : List Profile) (rows : List RecordRow) (numbers : List ℕ)
    (labels : List Label) (i : ℕ) (row : RecordRow) (old new : List ProfileRow) (profile : ℕ)
    (before after : List RecordRow)
    (counted : length numbers ≡ length rows) (places : ArePlaces (length labels) numbers)
    (within : AreWithin t profiles rows) (l : i < length rows) (is : slice_get rows i ≡ Some row)
  where
    -- the row of a profile that gets the label of this place
    abbrev made_of : Profile → ProfileRow
    made_of given =
        record { device = given.device; links = given.links; label = get_or numbers i 0 }

    abbrev made : ProfileRow
    made = made_of (get_or profiles row.profile no_profile)

    known_here : get_or numbers i 0 < length labels
    known_here = place_at (length labels) numbers i places (omega (arith, l, counted))

    own : IsRowWithin t profiles row
    own = within_at t profiles rows i row within is

    -- the profile that was found is that of the row
    found : slice_get new profile ≡ Some made → slice_get (profiles_in labels new) profile
        ≡ Some (profile_of (get_or profiles row.profile no_profile).device
        (get_or profiles row.profile no_profile).links
        (get_or labels (get_or numbers i 0) Absent))
    found at = profile_at labels new profile made (get_or labels (get_or numbers i 0) Absent) at
        (there labels (get_or numbers i 0) known_here)
      where
        there : (xs : List Label) (n : ℕ) → n < length xs
            → slice_get xs n ≡ Some (get_or xs n Absent)
        there [] n h = absurd (omega (arith, h))
        there (x ∷ xs) zero h = refl
        there (x ∷ xs) (suc n) h = there xs n (omega (arith, h))

    one_record : slice_get new profile ≡ Some made
        → record_in t (profiles_in labels new) (profiled profile row)
        ≡ with_label (get_or labels (get_or numbers i 0) Absent) (record_in t profiles row)
    one_record at =
        let m = get_or_from_slice_get (profiles_in labels new) profile _ no_profile (found at) in
        λ j. record {
          kind = row.kind;
          device = (m j).device;
          inode = row.inode;
          links = (m j).links;
          label = (m j).label;
          path = path_names (row_text t row);
        }

    rows_so_far : take (i + 1) rows ≡ take i rows ++ row ∷ []
    rows_so_far = take_more rows i row l
        ∙ ap (λ r. take i rows ++ r ∷ []) (get_or_from_slice_get rows i row row is)

    pub paired_more : slice_get new profile ≡ Some made → IsWithRow old made new
        → length new < 2 ^ 32
        → after ≡ before ++ profiled profile row ∷ []
        → ArePaired t profiles (take i rows) (take i numbers) labels old before
        → ArePaired t profiles (take (i + 1) rows) (take (i + 1) numbers) labels new after
    paired_more at with few e p =
        let grown : Extends (profiles_in labels old) (profiles_in labels new) =
        extends_with labels made old new with in
        let kept : records_in t (profiles_in labels new) before
        ≡ records_in t (profiles_in labels old)
        before =
        records_kept t t (profiles_in labels old) (profiles_in labels new) before
        (extends_self t t refl)
        grown p.within in
        let all : AreWithin t (profiles_in labels new) before =
        all_kept t t (profiles_in labels old) (profiles_in labels new) before
        (extends_self t t refl)
        grown p.within in
        let here : profile < length (profiles_in labels new) =
        slice_get_within (profiles_in labels new) profile _
        (found at) in
        let sizes : length (take i numbers) ≡ length (records_in t profiles (take i rows)) =
        length-take-le i numbers (omega (arith, l, counted))
        ∙ sym (length-take-le i rows (omega (arith, l)))
        ∙ sym (length-map (take i rows) (record_in t profiles)) in
        record {
          known = known_by labels made old new p.known known_here with;
          few = few;
          counted = (
              ap length e ∙ length-append before (profiled profile row ∷ [])
              ∙ ap (λ n. n + 1) p.counted
              ∙ sym (length-append (take i rows) (row ∷ [])) ∙ ap length (sym rows_so_far)
              );
          same = (
              ap (records_in t (profiles_in labels new)) e
              ∙ map-append (record_in t (profiles_in labels new)) before (profiled profile row ∷ [])
              ∙ (λ j. (kept ∙ p.same) j ++ one_record at j ∷ [])
              ∙ sym (labelled_more labels (take i numbers) (get_or numbers i 0)
              (records_in t profiles (take i rows)) (record_in t profiles row) sizes)
              ∙ (λ j. with_labels labels (sym (take_more numbers i 0 (omega (arith, l, counted))) j)
              (sym (map-append (record_in t profiles) (take i rows) (row ∷ [])) j))
              ∙ ap (λ rs. with_labels labels (take (i + 1) numbers) (records_in t profiles rs))
              (sym rows_so_far)
              );
          within = subst (AreWithin t (profiles_in labels new)) (sym e)
              (one_more_within t (profiles_in labels new) before (profiled profile row) all
              (record { fits = own.fits; normal = own.normal; known = here }));
        }

    -- by the profile that was read
    pub paired_by : (given : Profile) → slice_get profiles row.profile ≡ Some given
        → slice_get new profile ≡ Some (made_of given)
        → IsWithRow old (made_of given) new → length new < 2 ^ 32
        → after ≡ before ++ profiled profile row ∷ []
        → ArePaired t profiles (take i rows) (take i numbers) labels old before
        → ArePaired t profiles (take (i + 1) rows) (take (i + 1) numbers) labels new after
    paired_by given got at with =
        let same : given ≡ get_or profiles row.profile no_profile =
        sym (get_or_from_slice_get profiles row.profile given no_profile got) in
        paired_more (subst (λ m. slice_get new profile ≡ Some (made_of m)) same at)
        (subst (λ m. IsWithRow old (made_of m) new) same with)

-- ---- as they are kept

module _ (t u : List ℕ) (profiles m : List Profile) (rows : List RecordRow) (numbers : List ℕ)
    (labels copies : List Label) (own : List ProfileRow) (new : List RecordRow)
    (texts_are : u ≡ t) (labels_are : copies ≡ labels) (few : length labels < 2 ^ 32)
    (paired : ArePaired t profiles rows numbers labels own new) where
  pub own_are_profiles : AreProfileRows copies own
  own_are_profiles = subst (λ ls. AreProfileRows ls own) (sym labels_are)
      (record { known = paired.known; few_labels = few; few = paired.few })

  pub own_are_rows : m ≡ profiles_in copies own → AreRecordRows t profiles rows
      → AreRecordRows u m new
  own_are_rows e a =
      let same : m ≡ profiles_in labels own = e ∙ ap (λ ls. profiles_in ls own) labels_are in
      subst (λ v. AreRecordRows v m new) (sym texts_are)
      (subst (λ v. AreRecordRows t v new) (sym same)
      (record { within = paired.within; numbered = omega (arith, paired.counted, a.numbered) }))

  pub own_are_records : (seen : List Record) → m ≡ profiles_in copies own
      → records_in t profiles rows
      ≡ seen → records_in u m new ≡ with_labels labels numbers seen
  own_are_records seen e v =
      let same : m ≡ profiles_in labels own = e ∙ ap (λ ls. profiles_in ls own) labels_are in
      (λ j. records_in (texts_are j) (same j) new) ∙ paired.same ∙ ap (with_labels labels numbers) v
