-- What the bytes of one record mean is what its grammar says.
use Rattle.std.proofs.Common.{◌≡◌, ◌∙◌, ap, sym, refl, subst, ℕ, ◌+◌, ◌<◌, ◌≤◌, List, ◌∷◌, ◌++◌}
use Rattle.std.proofs.Common.{append_assoc, inl, inr, arith}
use Rattle.std.specs.Prelude.{◌⊎◌, Contains, count_by, Option, Some, None, IsSome, Result, Ok, Err}
use Rattle.std.specs.Option.{option_map}
use Rattle.label_base.specs.Cut.{front, behind}
use Rattle.label_base.specs.Number.{number_of}
use Rattle.file_paths.specs.Path.{Path, path_read}
use Rattle.file_paths.specs.declared.path_fault.PathWhy.{PathWhy}
use Rattle.label_base.specs.declared.kind.EntryKind.{EntryKind}
use Rattle.context_syntax.specs.Label.{label_of}
use Rattle.context_syntax.specs.declared.label.Label.{Label}
use Rattle.find_records.specs.Record.{CountsBy, Record}
use Rattle.find_records.specs.declared.format.Format.{Format}
use Rattle.find_records.specs.declared.format.Format.TheVariants.{One, Two}
use Rattle.find_records.specs.declared.record.TheConstants.{SPACE}
use Rattle.find_records.specs.declared.fault.RecordWhy.{RecordWhy}
use Rattle.find_records.specs.declared.fault.RecordWhy.TheVariants.{MissingField, BadType}
use Rattle.find_records.specs.declared.fault.RecordWhy.TheVariants.{BadNumber, BadPath}
use Rattle.find_records.specs.Grammar.{Fields, HasFields, HasLinks, SpellsRecord, IsBadRecord}
use Rattle.find_records.specs.Grammar.{behind_links, is_field_space, kind_of, links_of, path_from}
use Rattle.find_records.specs.Grammar.{record_from, spaces_in, with_path, with_links, with_rest}
use Rattle.find_records.specs.Grammar.{inode_then, with_device, record_of}
use Rattle.label_base.proofs.FirstCut.{IsCut, cut, front_at, behind_at, behind_none, count_lacking}
use Rattle.label_base.proofs.FirstCut.{count_at}

abbrev of_fields : Fields → Result Record RecordWhy
of_fields f = with_path f.letter f.device f.inode f.links f.label f.path

-- ---- the fields

spread : (a b c rest : List ℕ) → a ++ SPACE ∷ b ++ SPACE ∷ c ++ SPACE ∷ rest ≡ a
    ++ SPACE ∷ (b ++ SPACE ∷ (c ++ SPACE ∷ rest))
spread a b c rest = simp append_assoc

letter_read : (format : Format) (a rest : List ℕ) → ¬ Contains a SPACE
    → record_of format (a ++ SPACE ∷ rest) ≡ with_device format a (front is_field_space rest)
    (behind is_field_space rest)
unfolding record_of
letter_read format a rest h = rw (front_at SPACE a rest h, behind_at SPACE a rest h) refl

device_read : (format : Format) (a b rest : List ℕ) → ¬ Contains b SPACE
    → with_device format a (front is_field_space (b ++ SPACE ∷ rest))
    (behind is_field_space (b ++ SPACE ∷ rest)) ≡ inode_then format a b (front is_field_space rest)
    (behind is_field_space rest)
device_read format a b rest h = rw (front_at SPACE b rest h, behind_at SPACE b rest h) refl

inode_read : (format : Format) (a b c rest : List ℕ) → ¬ Contains c SPACE
    → inode_then format a b (front is_field_space (c ++ SPACE ∷ rest))
    (behind is_field_space (c ++ SPACE ∷ rest)) ≡ with_rest format a b c rest
inode_read format a b c rest h = rw (front_at SPACE c rest h, behind_at SPACE c rest h) refl

count_read : (a b c l rest : List ℕ) → ¬ Contains l SPACE → with_rest Two a b c (l ++ SPACE ∷ rest)
    ≡ with_links a b c (Some l) rest
count_read a b c l rest h = rw (front_at SPACE l rest h, behind_at SPACE l rest h) refl

label_read : (a b c : List ℕ) (links : Option (List ℕ)) (d rest : List ℕ) → ¬ Contains d SPACE
    → with_links a b c links (d ++ SPACE ∷ rest) ≡ with_path a b c links d rest
label_read a b c links d rest h = rw (front_at SPACE d rest h, behind_at SPACE d rest h) refl

rest_read : (format : Format) (a b c : List ℕ) (links : Option (List ℕ)) (d e : List ℕ)
    → HasLinks format links → ¬ Contains d SPACE
    → with_rest format a b c (behind_links links (d ++ SPACE ∷ e)) ≡ with_path a b c links d e
rest_read One a b c None d e h k = label_read a b c None d e k
rest_read One a b c (Some l) d e h k = absurd h
rest_read Two a b c None d e h k = absurd h
rest_read Two a b c (Some l) d e h k = count_read a b c l (d ++ SPACE ∷ e) h
    ∙ label_read a b c (Some l) d e k

-- the front of a record is read
front_read : (format : Format) (bytes a b c rest : List ℕ)
    → bytes ≡ a ++ SPACE ∷ (b ++ SPACE ∷ (c ++ SPACE ∷ rest)) → ¬ Contains a SPACE
    → ¬ Contains b SPACE → ¬ Contains c SPACE → record_of format bytes ≡ with_rest format a b c rest
front_read format bytes a b c rest e h k l =
    ap (record_of format) e
    ∙ letter_read format a (b ++ SPACE ∷ (c ++ SPACE ∷ rest)) h
    ∙ device_read format a b (c ++ SPACE ∷ rest) k
    ∙ inode_read format a b c rest l

-- its spaces stand before those of the rest
front_spaces : (bytes a b c rest : List ℕ) → bytes ≡ a ++ SPACE ∷ (b ++ SPACE ∷ (c ++ SPACE ∷ rest))
    → ¬ Contains a SPACE → ¬ Contains b SPACE → ¬ Contains c SPACE → count_by is_field_space bytes
    ≡ 3 + count_by is_field_space rest
front_spaces bytes a b c rest e h k l =
    let first = count_at SPACE a (b ++ SPACE ∷ (c ++ SPACE ∷ rest)) h in
    let second = count_at SPACE b (c ++ SPACE ∷ rest) k in
    let third = count_at SPACE c rest l in
    omega (arith, ap (count_by is_field_space) e, first, second, third)

fields_read : (format : Format) (bytes : List ℕ) (f : Fields) → HasFields format bytes f
    → record_of format bytes ≡ of_fields f
fields_read format bytes f h =
    let rest = behind_links f.links (f.label ++ SPACE ∷ f.path) in
    front_read format bytes f.letter f.device f.inode rest
    (h.text ∙ spread f.letter f.device f.inode rest) h.letter h.device h.inode
    ∙ rest_read format f.letter f.device f.inode f.links f.label f.path h.links h.label

-- bytes that have fields have enough spaces
rest_spaces : (format : Format) (links : Option (List ℕ)) (d e : List ℕ) → HasLinks format links
    → ¬ Contains d SPACE → spaces_in format ≤ 3 + count_by is_field_space
    (behind_links links (d ++ SPACE ∷ e))
rest_spaces One None d e h k = omega (arith, count_at SPACE d e k)
rest_spaces One (Some l) d e h k = absurd h
rest_spaces Two None d e h k = absurd h
rest_spaces Two (Some l) d e h k =
    omega (arith, count_at SPACE l (d ++ SPACE ∷ e) h, count_at SPACE d e k)

spaces_of : (format : Format) (bytes : List ℕ) (f : Fields) → HasFields format bytes f
    → spaces_in format ≤ count_by is_field_space bytes
spaces_of format bytes f h =
    let rest = behind_links f.links (f.label ++ SPACE ∷ f.path) in
    let all = front_spaces bytes f.letter f.device f.inode rest
    (h.text ∙ spread f.letter f.device f.inode rest) h.letter h.device h.inode in
    omega (arith, all, rest_spaces format f.links f.label f.path h.links h.label)

-- bytes have a field too few, or they have fields
abbrev Missing : Format → List ℕ → Type 0
Missing format bytes = (record_of format bytes ≡ Err MissingField)
    × (count_by is_field_space bytes < spaces_in format)

abbrev Divided : Format → List ℕ → Type 0
Divided format bytes = Missing format bytes ⊎ ((f : Fields) × HasFields format bytes f)

four : (format : Format) → 4 ≤ spaces_in format
four One = omega arith
four Two = omega arith

no_letter : (format : Format) (bytes : List ℕ) → ¬ Contains bytes SPACE → Missing format bytes
unfolding record_of
no_letter format bytes h =
    (rw (behind_none SPACE bytes h) refl, omega (arith, count_lacking SPACE bytes h, four format))

no_device : (format : Format) (bytes a rest : List ℕ) → bytes ≡ a ++ SPACE ∷ rest
    → ¬ Contains a SPACE → ¬ Contains rest SPACE → Missing format bytes
no_device format bytes a rest e h k = (
  ap (record_of format) e ∙ letter_read format a rest h ∙ rw (behind_none SPACE rest k) refl,
  omega (
    arith,
    ap (count_by is_field_space) e,
    count_at SPACE a rest h,
    count_lacking SPACE rest k,
    four format,
  ),
)

no_inode : (format : Format) (bytes a b rest : List ℕ) → bytes ≡ a ++ SPACE ∷ (b ++ SPACE ∷ rest)
    → ¬ Contains a SPACE → ¬ Contains b SPACE → ¬ Contains rest SPACE → Missing format bytes
no_inode format bytes a b rest e h k l = (
  ap (record_of format) e ∙ letter_read format a (b ++ SPACE ∷ rest) h
      ∙ device_read format a b rest k ∙ rw (behind_none SPACE rest l) refl,
  omega (
    arith,
    ap (count_by is_field_space) e,
    count_at SPACE a (b ++ SPACE ∷ rest) h,
    count_at
        SPACE b rest k,
    count_lacking SPACE rest l,
    four format,
  ),
)

rest_missing : (format : Format) (a b c rest : List ℕ) → ¬ Contains rest SPACE
    → with_rest format a b c rest ≡ Err MissingField
rest_missing One a b c rest h = rw (behind_none SPACE rest h) refl
rest_missing Two a b c rest h = rw (behind_none SPACE rest h) refl

no_rest : (format : Format) (bytes a b c rest : List ℕ)
    → bytes ≡ a ++ SPACE ∷ (b ++ SPACE ∷ (c ++ SPACE ∷ rest)) → ¬ Contains a SPACE
    → ¬ Contains b SPACE → ¬ Contains c SPACE → ¬ Contains rest SPACE → Missing format bytes
no_rest format bytes a b c rest e h k l m = (
  front_read format bytes a b c rest e h k l ∙ rest_missing format a b c rest m,
  omega (arith, front_spaces bytes a b c rest e h k l, count_lacking SPACE rest m, four format),
)

no_label : (bytes a b c l rest : List ℕ)
    → bytes ≡ a ++ SPACE ∷ (b ++ SPACE ∷ (c ++ SPACE ∷ (l ++ SPACE ∷ rest))) → ¬ Contains a SPACE
    → ¬ Contains b SPACE → ¬ Contains c SPACE → ¬ Contains l SPACE → ¬ Contains rest SPACE
    → Missing Two bytes
no_label bytes a b c l rest e h k m n o = (
  front_read Two bytes a b c (l ++ SPACE ∷ rest) e h k m ∙ count_read a b c l rest n
      ∙ rw (behind_none SPACE rest o) refl,
  omega (
    arith,
    front_spaces bytes a b c (l ++ SPACE ∷ rest) e h k m,
    count_at SPACE l rest n,
    count_lacking SPACE rest o,
  ),
)

counted_divided : (bytes a b c l rest : List ℕ)
    → bytes ≡ a ++ SPACE ∷ (b ++ SPACE ∷ (c ++ SPACE ∷ (l ++ SPACE ∷ rest))) → ¬ Contains a SPACE
    → ¬ Contains b SPACE → ¬ Contains c SPACE → ¬ Contains l SPACE
    → (¬ Contains rest SPACE) ⊎ IsCut SPACE rest → Divided Two bytes
counted_divided bytes a b c l rest e h k m n (inl o) = inl (no_label bytes a b c l rest e h k m n o)
counted_divided bytes a b c l rest e h k m n (inr d) =
    inr (
      record { letter = a; device = b; inode = c; links = Some l; label = d.first; path = d.rest },
      record {
        text = e ∙ ap (λ t. a ++ SPACE ∷ (b ++ SPACE ∷ (c ++ SPACE ∷ (l ++ SPACE ∷ t)))) d.text
            ∙ sym (spread a b c (l ++ SPACE ∷ (d.first ++ SPACE ∷ d.rest)));
        letter = h;
        device = k;
        inode = m;
        links = n;
        label = d.lacks;
      },
    )

rest_divided : (format : Format) (bytes a b c rest : List ℕ)
    → bytes ≡ a ++ SPACE ∷ (b ++ SPACE ∷ (c ++ SPACE ∷ rest)) → ¬ Contains a SPACE
    → ¬ Contains b SPACE → ¬ Contains c SPACE → (¬ Contains rest SPACE) ⊎ IsCut SPACE rest
    → Divided format bytes
rest_divided format bytes a b c rest e h k l (inl m) =
    inl (no_rest format bytes a b c rest e h k l m)
rest_divided One bytes a b c rest e h k l (inr d) =
    inr (
      record { letter = a; device = b; inode = c; links = None; label = d.first; path = d.rest },
      record {
        text = e ∙ ap (λ t. a ++ SPACE ∷ (b ++ SPACE ∷ (c ++ SPACE ∷ t))) d.text
            ∙ sym (spread a b c (d.first ++ SPACE ∷ d.rest));
        letter = h;
        device = k;
        inode = l;
        links = tt;
        label = d.lacks;
      },
    )
rest_divided Two bytes a b c rest e h k l (inr d) =
    counted_divided bytes a b c d.first d.rest
    (e ∙ ap (λ t. a ++ SPACE ∷ (b ++ SPACE ∷ (c ++ SPACE ∷ t))) d.text) h k l d.lacks
    (cut SPACE d.rest)

inode_divided : (format : Format) (bytes a b rest : List ℕ)
    → bytes ≡ a ++ SPACE ∷ (b ++ SPACE ∷ rest) → ¬ Contains a SPACE → ¬ Contains b SPACE
    → (¬ Contains rest SPACE) ⊎ IsCut SPACE rest → Divided format bytes
inode_divided format bytes a b rest e h k (inl l) = inl (no_inode format bytes a b rest e h k l)
inode_divided format bytes a b rest e h k (inr c) =
    rest_divided format bytes a b c.first c.rest
    (e ∙ ap (λ t. a ++ SPACE ∷ (b ++ SPACE ∷ t)) c.text) h k c.lacks (cut SPACE c.rest)

device_divided : (format : Format) (bytes a rest : List ℕ) → bytes ≡ a ++ SPACE ∷ rest
    → ¬ Contains a SPACE → (¬ Contains rest SPACE) ⊎ IsCut SPACE rest → Divided format bytes
device_divided format bytes a rest e h (inl k) = inl (no_device format bytes a rest e h k)
device_divided format bytes a rest e h (inr b) =
    inode_divided format bytes a b.first b.rest (e ∙ ap (λ t. a ++ SPACE ∷ t) b.text) h b.lacks
    (cut SPACE b.rest)

letter_divided : (format : Format) (bytes : List ℕ) → (¬ Contains bytes SPACE) ⊎ IsCut SPACE bytes
    → Divided format bytes
letter_divided format bytes (inl h) = inl (no_letter format bytes h)
letter_divided format bytes (inr a) = device_divided format bytes a.first a.rest a.text a.lacks
    (cut SPACE a.rest)

divided : (format : Format) (bytes : List ℕ) → Divided format bytes
divided format bytes = letter_divided format bytes (cut SPACE bytes)

-- ---- the values of the fields

-- what the values of the fields mean
abbrev ValuesMean : Option EntryKind → Option ℕ → Option ℕ → Option (Option ℕ) → Label
    → Result Path PathWhy → Result Record RecordWhy → Type 0
ValuesMean kind device inode links label path (Ok found) = (kind ≡ Some found.kind)
    × (device ≡ Some found.device) × (inode ≡ Some found.inode) × (links ≡ Some found.links)
    × (label ≡ found.label) × (path ≡ Ok found.path)
ValuesMean kind device inode links label path (Err MissingField) = ⊥
ValuesMean kind device inode links label path (Err BadType) = kind ≡ None
ValuesMean kind device inode links label path (Err BadNumber) = IsSome kind
    × ((device ≡ None) ⊎ ((inode ≡ None) ⊎ (links ≡ None)))
ValuesMean kind device inode links label path (Err (BadPath why)) =
    (IsSome kind × IsSome device × IsSome inode × IsSome links) × (path ≡ Err why)

values_sound : (kind : Option EntryKind) (device inode : Option ℕ) (links : Option (Option ℕ))
    (label : Label) (path : Result Path PathWhy) → ValuesMean kind device inode links label path
    (record_from kind device inode links label (path_from path))
values_sound None device inode links label path = refl
values_sound (Some kind) None inode links label path = (refl, inl refl)
values_sound (Some kind) (Some device) None links label path = (refl, inr (inl refl))
values_sound (Some kind) (Some device) (Some inode) None label path = (refl, inr (inr refl))
values_sound (Some kind) (Some device) (Some inode) (Some links) label (Err why) =
    ((refl, refl, refl, refl), refl)
values_sound (Some kind) (Some device) (Some inode) (Some links) label (Ok path) =
    (refl, refl, refl, refl, refl, refl)

values_complete : (kind : Option EntryKind) (device inode : Option ℕ) (links : Option (Option ℕ))
    (label : Label) (path : Result Path PathWhy) (meant : Result Record RecordWhy)
    → ValuesMean kind device inode links label path meant → record_from kind device inode links
    label (path_from path) ≡ meant
values_complete kind device inode links label path (Ok found) h =
    rw (h.0, h.1, h.2, h.3, h.4, h.5) refl
values_complete kind device inode links label path (Err MissingField) h = absurd h
values_complete kind device inode links label path (Err BadType) h = rw h refl
values_complete None device inode links label path (Err BadNumber) h = cc
values_complete (Some kind) None inode links label path (Err BadNumber) h = refl
values_complete (Some kind) (Some device) None links label path (Err BadNumber) h = refl
values_complete (Some kind) (Some device) (Some inode) None label path (Err BadNumber) h = refl
values_complete (Some kind) (Some device) (Some inode) (Some links) label path (Err BadNumber)
    (some, inl e) = cc
values_complete (Some kind) (Some device) (Some inode) (Some links) label path (Err BadNumber)
    (some, inr (inl e)) = cc
values_complete (Some kind) (Some device) (Some inode) (Some links) label path (Err BadNumber)
    (some, inr (inr e)) = cc
values_complete None device inode links label path (Err (BadPath why)) h = cc
values_complete (Some kind) None inode links label path (Err (BadPath why)) h = cc
values_complete (Some kind) (Some device) None links label path (Err (BadPath why)) h = cc
values_complete (Some kind) (Some device) (Some inode) None label path (Err (BadPath why)) h = cc
values_complete (Some kind) (Some device) (Some inode) (Some links) label path (Err (BadPath why))
    h = rw h.1 refl

-- ---- a record

abbrev pub RecordMeans : Format → List ℕ → Result Record RecordWhy → Type 0
RecordMeans format bytes (Ok found) = SpellsRecord format bytes found
RecordMeans format bytes (Err why) = IsBadRecord format bytes why

abbrev FieldsMean : Fields → Result Record RecordWhy → Type 0
FieldsMean f meant = ValuesMean (kind_of f.letter) (number_of f.device) (number_of f.inode)
    (links_of f.links) (label_of f.label) (path_read f.path) meant

from_values : (format : Format) (bytes : List ℕ) (f : Fields) (meant : Result Record RecordWhy)
    → HasFields format bytes f → FieldsMean f meant → RecordMeans format bytes meant
from_values format bytes f (Ok found) h m = record {
  fields = f;
  cut = h;
  record_is = record
      { kind = m.0; device = m.1; inode = m.2; links = m.3; label = m.4; path = m.5 };
}
from_values format bytes f (Err MissingField) h m = absurd m
from_values format bytes f (Err BadType) h m = (f, h, m)
from_values format bytes f (Err BadNumber) h m = (f, h, m)
from_values format bytes f (Err (BadPath why)) h m =
    (f, h, (record { kind = m.0.0; device = m.0.1; inode = m.0.2; links = m.0.3 }, m.1))

sound_in : (format : Format) (bytes : List ℕ) → Divided format bytes
    → RecordMeans format bytes (record_of format bytes)
sound_in format bytes (inl missing) = subst (RecordMeans format bytes) (sym missing.0) missing.1
sound_in format bytes (inr (f, h)) =
    subst (RecordMeans format bytes) (sym (fields_read format bytes f h))
    (from_values format bytes f (of_fields f) h
    (values_sound (kind_of f.letter) (number_of f.device) (number_of f.inode) (links_of f.links)
    (label_of f.label) (path_read f.path)))

-- what is read of the bytes is what they mean
pub record_sound : (format : Format) (bytes : List ℕ)
    → RecordMeans format bytes (record_of format bytes)
record_sound format bytes = sound_in format bytes (divided format bytes)

read_as : (format : Format) (bytes : List ℕ) (f : Fields) (meant : Result Record RecordWhy)
    → HasFields format bytes f → FieldsMean f meant → record_of format bytes ≡ meant
read_as format bytes f meant h m =
    fields_read format bytes f h ∙ values_complete (kind_of f.letter) (number_of f.device)
    (number_of f.inode) (links_of f.links) (label_of f.label) (path_read f.path) meant m

missing_in : (format : Format) (bytes : List ℕ) → count_by is_field_space bytes < spaces_in format
    → Divided format bytes → record_of format bytes ≡ Err MissingField
missing_in format bytes few (inl missing) = missing.0
missing_in format bytes few (inr (f, h)) = absurd (omega (arith, few, spaces_of format bytes f h))

-- what the bytes mean is what is read of them
pub record_complete : (format : Format) (bytes : List ℕ) (meant : Result Record RecordWhy)
    → RecordMeans format bytes meant → record_of format bytes ≡ meant
record_complete format bytes (Ok found) m =
    read_as format bytes m.fields (Ok found) m.cut (
      m.record_is.kind,
      m.record_is.device,
      m.record_is.inode,
      m.record_is.links,
      m.record_is.label,
      m.record_is.path,
    )
record_complete format bytes (Err MissingField) m = missing_in format bytes m (divided format bytes)
record_complete format bytes (Err BadType) (f, h, m) = read_as format bytes f (Err BadType) h m
record_complete format bytes (Err BadNumber) (f, h, m) = read_as format bytes f (Err BadNumber) h m
record_complete format bytes (Err (BadPath why)) (f, h, m) =
    read_as format bytes f (Err (BadPath why)) h ((m.0.kind, m.0.device, m.0.inode, m.0.links), m.1)

-- ---- its link count

counts_by : (format : Format) (field : Option (List ℕ)) (found : Option ℕ) → HasLinks format field
    → links_of field ≡ Some found → CountsBy format found
counts_by One None found h e = cc
counts_by One (Some field) found h e = absurd h
counts_by Two None found h e = absurd h
counts_by Two (Some field) found h e = some_counted (number_of field) found e
  where
    some_counted : (number : Option ℕ) (found : Option ℕ) → option_map (λ count. Some count) number
        ≡ Some found → IsSome found
    some_counted None found e = cc
    some_counted (Some n) None e = cc
    some_counted (Some n) (Some m) e = refl

-- a record that the bytes spell has a link count exactly where the format has one
pub spelled_counts : (format : Format) (bytes : List ℕ) (found : Record)
    → SpellsRecord format bytes found → CountsBy format found.links
spelled_counts format bytes found s = counts_by format s.fields.links found.links s.cut.links
    s.record_is.links
