-- Rows and the texts of their paths, laid anew in another order.
use Rattle.std.proofs.Common.{◌≡◌, ◌∙◌, ap, sym, refl, subst, ℕ, zero, suc, ◌+◌, ◌<◌, ◌≤◌, List, []}
use Rattle.std.proofs.Common.{◌∷◌, ◌++◌, length, take, drop, get_or, arith}
use Rattle.std.specs.Prelude.{Some, slice_get}
use Rattle.std.proofs.lemmas.List.{length-append, length-drop, length-map, length-take-le}
use Rattle.std.proofs.lemmas.List.{map-append, take_more}
use Rattle.std.proofs.lemmas.Option.{get_or_from_slice_get}
use Rattle.file_paths.specs.Path.{path_names}
use Rattle.file_paths.specs.PathText.{IsNormal}
use Rattle.find_records.specs.Labels.{Extends}
use Rattle.find_records.specs.Profiles.{Profile, no_profile}
use Rattle.find_records.specs.Places.{ArePlaces, no_record, records_at}
use Rattle.find_records.specs.Record.{Record}
use Rattle.find_records.specs.Rows.{AreLaid, AreWithin, Fit, moved_to, record_in, records_in}
use Rattle.find_records.specs.Rows.{row_text}
use Rattle.find_records.specs.declared.row.RecordRow.{RecordRow}
use Rattle.find_records.proofs.LabelLemmas.{extends_by, extends_self}
use Rattle.find_records.proofs.RowLemmas.{all_kept, one_more_within, record_at, records_kept}
use Rattle.find_records.proofs.RowLemmas.{text_added, within_at}

-- a place that is read is one of theirs
pub place_at : (count : ℕ) (places : List ℕ) (i : ℕ) → ArePlaces count places → i < length places
    → get_or places i 0 < count
place_at count [] i a l = absurd (omega arith)
place_at count (p ∷ ps) zero a l = a.0
place_at count (p ∷ ps) (suc i) a l = place_at count ps i a.1 (omega arith)

pub all_fit : (t : List ℕ) (l : List Profile) (rows : List RecordRow) → AreWithin t l rows
    → Fit t rows
all_fit t l [] w = tt
all_fit t l (r ∷ rs) w = (w.0.fits, all_fit t l rs w.1)

-- one place more
at_more : (records : List Record) (places : List ℕ) (i : ℕ) → i < length places
    → records_at records (take (i + 1) places) ≡ records_at records (take i places)
    ++ get_or records (get_or places i 0) no_record ∷ []
at_more records places i l =
    ap (records_at records) (take_more places i 0 l)
    ∙ map-append (λ p. get_or records p no_record) (take i places) (get_or places i 0 ∷ [])

-- ---- one row more

text_size : (t : List ℕ) (row : RecordRow) → row.at + row.size ≤ length t → length (row_text t row)
    ≡ row.size
text_size t row h = length-take-le row.size (drop row.at t) (omega (arith, h, length-drop row.at t))

pub laid_more : (t u v : List ℕ) (l : List Profile) (rows new newer : List RecordRow)
    (places : List ℕ)
    (i : ℕ) (row : RecordRow)
    → i < length places → slice_get rows (get_or places i 0) ≡ Some row → AreWithin t l rows
    → v ≡ u ++ row_text t row → newer ≡ new ++ moved_to (length u) row ∷ []
    → AreLaid t l rows (take i places) u new → AreLaid t l rows (take (i + 1) places) v newer
laid_more t u v l rows new newer places i row m r w e f laid =
    let place = get_or places i 0 in
    let own = within_at t l rows place row w r in
    let longer : Extends u v = extends_by u v (row_text t row) e in
    let size : length (row_text t row) ≡ row.size = text_size t row own.fits in
    let total : length v ≡ length u + row.size =
    omega (arith, ap length e, length-append u (row_text t row), size) in
    let text : row_text v (moved_to (length u) row) ≡ row_text t row =
    text_added u v (row_text t row) (length u) row.size e refl (omega (arith, total)) in
    let one : record_in v l (moved_to (length u) row) ≡ record_in t l row =
    (λ j. record {
      kind = row.kind;
      device = (get_or l row.profile no_profile).device;
      inode = row.inode;
      links = (get_or l row.profile no_profile).links;
      label = (get_or l row.profile no_profile).label;
      path =
          path_names (text j);
    }) in
    let there : get_or (records_in t l rows) place no_record ≡ record_in t l row =
    get_or_from_slice_get (records_in t l rows) place (record_in t l row) no_record
    (record_at t l rows place row r) in
    let before : records_in v l new ≡ records_at (records_in t l rows) (take i places) =
    records_kept u v l l new longer (extends_self l l refl) laid.within ∙ laid.same in
    let all : AreWithin v l (new ++ moved_to (length u) row ∷ []) =
    one_more_within v l new (moved_to (length u) row)
    (all_kept u v l l new longer (extends_self l l refl) laid.within)
    (record {
      fits = omega (arith, total);
      normal = subst IsNormal (sym text) own.normal;
      known = own.known;
    }) in
    record {
      same =
          ap (records_in v l) f
          ∙ map-append (record_in v l) new (moved_to (length u) row ∷ [])
          ∙ (λ j. before j ++ (one ∙ sym there) j ∷ [])
          ∙ sym (at_more (records_in t l rows) places i m);
      within = subst (AreWithin v l) (sym f) all;
    }

-- there are as many as places
pub laid_count : (t u : List ℕ) (l : List Profile) (rows new : List RecordRow) (places : List ℕ)
    → AreLaid t l rows places u new → length new ≡ length places
laid_count t u l rows new places laid =
    omega (
      arith,
      ap length laid.same,
      length-map new (record_in u l),
      length-map places
          (λ p. get_or (records_in t l rows) p no_record),
    )
