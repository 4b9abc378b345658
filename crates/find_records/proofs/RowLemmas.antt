-- Rows and the records for which they stand.
use Rattle.std.proofs.Common.{◌≡◌, ◌∙◌, ap, sym, refl, subst, ℕ, ◌+◌, ◌-◌, ◌<◌, ◌≤◌, ◌^◌, zero, suc}
use Rattle.std.proofs.Common.{List, [], ◌∷◌, ◌++◌, length, take, drop, get_or, arith}
use Rattle.std.specs.Prelude.{Some, slice_get, Result, Ok, Err, OnErr}
use Rattle.std.specs.Option.{option_map}
use Rattle.std.proofs.lemmas.List.{take-append-le, drop-append-le, length-append, length-drop}
use Rattle.std.proofs.lemmas.List.{length-map, map-append, get_or_append_left}
use Rattle.std.proofs.Math.Seq.{drop-append_seam, take-length}
use Rattle.std.proofs.lemmas.Option.{slice_get-map, get_or_from_slice_get, slice_get_read}
use Rattle.std.proofs.lemmas.Option.{same_Some, slice_get_within}
use Rattle.file_paths.specs.Path.{Path, path_names}
use Rattle.file_paths.specs.PathText.{IsNormal}
use Rattle.find_records.specs.Profiles.{Profile, no_profile}
use Rattle.find_records.specs.Record.{Record}
use Rattle.find_records.specs.declared.row.RecordRow.{RecordRow}
use Rattle.find_records.specs.Labels.{Extends}
use Rattle.find_records.specs.Rows.{row_text, record_in, records_in, IsRowWithin, AreWithin}
use Rattle.find_records.specs.Rows.{AreRecordRows}
use Rattle.find_records.proofs.LabelLemmas.{longer, extends_self}

-- ---- one row read

pub within_at : (t : List ℕ) (l : List Profile) (rows : List RecordRow) (i : ℕ) (row : RecordRow)
    → AreWithin t l rows → slice_get rows i ≡ Some row → IsRowWithin t l row
within_at t l [] i row w h = cc
within_at t l (r ∷ rs) zero row w h = subst (IsRowWithin t l) (same_Some r row h) w.0
within_at t l (r ∷ rs) (suc i) row w h = within_at t l rs i row w.1 h

pub record_at : (t : List ℕ) (l : List Profile) (rows : List RecordRow) (i : ℕ) (row : RecordRow)
    → slice_get rows i ≡ Some row → slice_get (records_in t l rows) i ≡ Some (record_in t l row)
record_at t l rows i row h = slice_get-map (record_in t l) rows i
    ∙ ap (option_map (record_in t l)) h

-- ---- texts and labels that grow

drop_room : (t : List ℕ) (at size : ℕ) → at + size ≤ length t → size ≤ length (drop at t)
drop_room t at size h = omega (arith, h, length-drop at t)

text_kept : (t u : List ℕ) (at size : ℕ) → Extends t u → at + size ≤ length t
    → take size (drop at u) ≡ take size (drop at t)
text_kept t u at size e h =
    ap (λ x. take size (drop at x)) (longer t u e)
    ∙ ap (take size) (drop-append-le at t (drop (length t) u) (omega (arith, h)))
    ∙ take-append-le size (drop at t) (drop (length t) u) (drop_room t at size h)

profile_kept : (l m : List Profile) (k : ℕ) → Extends l m → k < length l
    → get_or m k no_profile ≡ get_or l k no_profile
profile_kept l m k e h = ap (λ x. get_or x k no_profile) (longer l m e)
    ∙ get_or_append_left l (drop (length l) m) no_profile k h

pub no_shorter : {X : Type 0} (xs ys : List X) → Extends xs ys → length xs ≤ length ys
no_shorter xs ys e =
    omega (arith, ap length (longer xs ys e), length-append xs (drop (length xs) ys))

pub record_kept : (t u : List ℕ) (l m : List Profile) (row : RecordRow) → Extends t u → Extends l m
    → IsRowWithin t l row → record_in u m row ≡ record_in t l row
record_kept t u l m row e f w =
    let same_text = text_kept t u row.at row.size e w.fits in
    let same_profile = profile_kept l m row.profile f w.known in
    λ i. record {
      kind = row.kind;
      device = (same_profile i).device;
      inode = row.inode;
      links = (same_profile i).links;
      label = (same_profile i).label;
      path = path_names (same_text i);
    }

pub within_kept : (t u : List ℕ) (l m : List Profile) (row : RecordRow) → Extends t u → Extends l m
    → IsRowWithin t l row → IsRowWithin u m row
within_kept t u l m row e f w = record {
  fits = omega (arith, w.fits, no_shorter t u e);
  normal = subst IsNormal (sym (text_kept t u row.at row.size e w.fits)) w.normal;
  known = omega (arith, w.known, no_shorter l m f);
}

pub records_kept : (t u : List ℕ) (l m : List Profile) (rows : List RecordRow) → Extends t u
    → Extends l m → AreWithin t l rows → records_in u m rows ≡ records_in t l rows
records_kept t u l m [] e f w = refl
records_kept t u l m (r ∷ rs) e f w = λ i. record_kept t u l m r e f w.0 i ∷ records_kept t u l m rs
    e f w.1 i

pub all_kept : (t u : List ℕ) (l m : List Profile) (rows : List RecordRow) → Extends t u
    → Extends l m
    → AreWithin t l rows → AreWithin u m rows
all_kept t u l m [] e f w = tt
all_kept t u l m (r ∷ rs) e f w = (within_kept t u l m r e f w.0, all_kept t u l m rs e f w.1)

-- ---- one row more

pub one_more_within : (t : List ℕ) (l : List Profile) (rows : List RecordRow) (row : RecordRow)
    → AreWithin t l rows → IsRowWithin t l row → AreWithin t l (rows ++ row ∷ [])
one_more_within t l [] row w h = (h, tt)
one_more_within t l (r ∷ rs) row w h = (w.0, one_more_within t l rs row w.1 h)

pub rows_kept : (t u : List ℕ) (l m : List Profile) (rows rows' : List RecordRow) → Extends t u → m
    ≡ l
    → rows' ≡ rows → AreRecordRows t l rows → AreRecordRows u m rows'
rows_kept t u l m rows rows' e f s a =
    subst (λ k. AreRecordRows u k rows') (sym f)
    (subst (AreRecordRows u l) (sym s)
    (record {
      within = all_kept t u l l rows e (extends_self l l refl) a.within;
      numbered = a.numbered;
    }))

pub records_same : (t u : List ℕ) (l m : List Profile) (rows rows' : List RecordRow) → Extends t u
    → m ≡ l → rows' ≡ rows → AreRecordRows t l rows → records_in u m rows' ≡ records_in t l rows
records_same t u l m rows rows' e f s a = (λ i. records_in u (f i) (s i))
    ∙ records_kept t u l l rows e (extends_self l l refl) a.within

pub on_err : {A E : Type 0} (r : Result A E) (P : Type 0) → P → OnErr r P
on_err (Ok x) P h = tt
on_err (Err e) P h = h

pub rows_more : (t u : List ℕ) (l m : List Profile) (rows rows' : List RecordRow) (row : RecordRow)
    → Extends t u → Extends l m → rows' ≡ rows ++ row ∷ [] → length rows < 2 ^ 32 - 1
    → IsRowWithin u m row → AreRecordRows t l rows → AreRecordRows u m rows'
rows_more t u l m rows rows' row e f s n w a =
    let size : length (rows ++ row ∷ []) ≡ length rows + 1 = length-append rows (row ∷ []) in
    subst (AreRecordRows u m) (sym s) (record {
      within = one_more_within u m rows row (all_kept t u l m rows e f a.within) w;
      numbered = omega (arith, size, n);
    })

pub records_more : (t u : List ℕ) (l m : List Profile) (rows rows' : List RecordRow)
    (row : RecordRow)
    (r : Record) → Extends t u → Extends l m → rows' ≡ rows ++ row ∷ [] → record_in u m row ≡ r
    → AreRecordRows t l rows → records_in u m rows' ≡ records_in t l rows ++ r ∷ []
records_more t u l m rows rows' row r e f s q a =
    ap (records_in u m) s
    ∙ map-append (record_in u m) rows (row ∷ [])
    ∙ λ i. records_kept t u l m rows e f a.within i ++ q i ∷ []

-- ---- a row that is made

pub text_added : (t u more : List ℕ) (at size : ℕ) → u ≡ t ++ more → at ≡ length t
    → size ≡ length u - at → take size (drop at u) ≡ more
text_added t u more at size e a s =
    let n : size ≡ length more = omega (arith, a, s, ap length e, length-append t more) in
    let d : drop at u ≡ more = (λ i. drop (a i) (e i)) ∙ drop-append_seam t more in
    (λ i. take (n i) (d i)) ∙ take-length more

-- ---- the row at a place

pub row_read : (t : List ℕ) (l : List Profile) (seen : List Record) (rows : List RecordRow) (i : ℕ)
    (row : RecordRow) → records_in t l rows ≡ seen → i < length seen → row ≡ get_or rows i row
    → slice_get rows i ≡ Some row
row_read t l seen rows i row v h r =
    let same : length seen ≡ length rows = ap length (sym v) ∙ length-map rows (record_in t l) in
    slice_get_read rows (length rows) i row refl (omega (arith, h, same)) r

pub entry_is : (t : List ℕ) (l : List Profile) (seen : List Record) (rows : List RecordRow) (i : ℕ)
    (row : RecordRow) (profile : Profile) (text : List ℕ) (path : Path) → records_in t l rows ≡ seen
    → slice_get rows i ≡ Some row
    → slice_get l row.profile ≡ Some profile → text ≡ row_text t row → path ≡ path_names text
    → slice_get seen i
    ≡ Some (record {
      kind = row.kind;
      device = profile.device;
      inode = row.inode;
      links = profile.links;
      label = profile.label;
      path = path;
    })
entry_is t l seen rows i row profile text path v r known same names =
    let path_is : path_names (row_text t row) ≡ path = sym (names ∙ ap path_names same) in
    let profile_is = get_or_from_slice_get l row.profile profile no_profile known in
    ap (λ s. slice_get s i) (sym v)
    ∙ record_at t l rows i row r
    ∙ λ i. Some (record {
      kind = row.kind;
      device = (profile_is i).device;
      inode = row.inode;
      links = (profile_is i).links;
      label = (profile_is i).label;
      path = path_is i;
    })

-- the label of a record, by the number of its profile
pub label_is : (t : List ℕ) (l : List Profile) (seen : List Record) (rows : List RecordRow) (i : ℕ)
    (row : RecordRow) (a : Record) → records_in t l rows ≡ seen → slice_get rows i ≡ Some row
    → slice_get seen i ≡ Some a → (get_or l row.profile no_profile).label ≡ a.label
label_is t l seen rows i row a v r h =
    ap (λ x. x.label)
    (same_Some (record_in t l row) a (sym (record_at t l rows i row r)
    ∙ ap (λ s. slice_get s i) v ∙ h))

-- ---- the row of what is told

pub shown_is : (t u more : List ℕ) (l : List Profile) (row : RecordRow) (profile : Profile)
    (names : Path)
    → u ≡ t ++ more → row.at ≡ length t → row.size ≡ length u - row.at → slice_get l row.profile
    ≡ Some profile → path_names more ≡ names
    → record_in u l row
    ≡ record {
      kind = row.kind;
      device = profile.device;
      inode = row.inode;
      links = profile.links;
      label = profile.label;
      path = names;
    }
shown_is t u more l row profile names e a s known n =
    let profile_is = get_or_from_slice_get l row.profile profile no_profile known in
    let path_is = ap path_names (text_added t u more row.at row.size e a s) ∙ n in
    λ i. record {
      kind = row.kind;
      device = (profile_is i).device;
      inode = row.inode;
      links = (profile_is i).links;
      label = (profile_is i).label;
      path = path_is i;
    }

pub shown_within : (t u more : List ℕ) (l : List Profile) (row : RecordRow) (profile : Profile)
    → u ≡ t ++ more → row.at ≡ length t → row.size ≡ length u - row.at → slice_get l row.profile
    ≡ Some profile → IsNormal more → IsRowWithin u l row
shown_within t u more l row profile e a s known n = record {
  fits = omega (arith, a, s, ap length e, length-append t more);
  normal = subst IsNormal (sym (text_added t u more row.at row.size e a s)) n;
  known = slice_get_within l row.profile profile known;
}
