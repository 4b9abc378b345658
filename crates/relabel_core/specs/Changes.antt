-- What a walk changes, as a dump of attributes.
use Rattle.std.specs.Prelude.{ℕ, Bool, true, not, ◌&&◌, List, [], ◌∷◌, ◌++◌, Option, Some, None}
use Rattle.std.specs.Prelude.{is_some, option_and_then, if◌then◌else◌}
use Rattle.std.specs.List.{filter_map}
use Rattle.label_base.specs.Bounded.{all_numbers}
use Rattle.file_paths.specs.Path.{Path}
use Rattle.context_syntax.specs.Context.{ContextValue, context_text, same_option}
use Rattle.context_syntax.specs.Label.{same_label}
use Rattle.context_syntax.specs.declared.label.Label.{Label}
use Rattle.context_syntax.specs.declared.label.Label.TheVariants as label
use Rattle.setfattr_dump.specs.Texts.{section_text}
use Rattle.setfattr_dump.specs.declared.dump.Attr.{Attr}
use Rattle.setfattr_dump.specs.declared.dump.Section.{Section}
use Rattle.setfattr_dump.specs.declared.marks.TheConstants.{DIGEST_KEY, LABEL_KEY}
use Rattle.tree_model.specs.Groups.{group_of, label_in}
use Rattle.label_rules.specs.Decide.{given_in}
use Rattle.relabel_core.specs.Walk.{Walk, walk_count, digest_after, group_winner, is_found_at}
use Rattle.relabel_core.specs.Walk.{is_outdated, label_after, path_at, verdict_where, wanted}

-- ---- labels and digests that change

-- the label of an entry before the walk
abbrev pub label_before : Walk → ℕ → Label
label_before w e = label_in w.entries (group_of w.entries e)

-- the entry has another label after the walk
abbrev pub label_changes : Walk → ℕ → Bool
label_changes w e = not (same_label (label_after w e) (label_before w e))

-- the entry has another digest after the walk
abbrev pub digest_changes : Walk → ℕ → Bool
digest_changes w e = not (same_option (digest_after w e) (w.stored e))

-- ---- the dump

-- what the attribute of a label holds
abbrev pub label_bytes : Label → List ℕ
label_bytes label.Absent = []
label_bytes (label.Odd bytes) = bytes
label_bytes (label.Is context) = context_text context

-- what the attribute of a digest holds
abbrev pub digest_bytes : Option (List ℕ) → List ℕ
digest_bytes None = []
digest_bytes (Some digest) = digest

abbrev pub label_attr : List ℕ → Attr
label_attr value = record { key = LABEL_KEY.now; value = value }

abbrev pub digest_attr : List ℕ → Attr
digest_attr value = record { key = DIGEST_KEY.now; value = value }

-- the attribute of a label that changes
abbrev pub label_attrs : Walk → ℕ → List Attr
label_attrs w e =
    if label_changes w e then label_attr (label_bytes (label_after w e)) ∷ [] else []

-- the attribute of a digest that changes
abbrev pub digest_attrs : Walk → ℕ → List Attr
digest_attrs w e =
    if digest_changes w e then digest_attr (digest_bytes (digest_after w e)) ∷ [] else []

-- a section, unless it has no attributes
abbrev pub section_with : Path → List Attr → Option Section
section_with path [] = None
section_with path (attr ∷ attrs) = Some (record { name = path; attrs = attr ∷ attrs })

-- the section of an entry whose label or digest changes, the label before the digest
unfoldable pub section_at : Walk → ℕ → Option Section
section_at w e = section_with (path_at w e) (label_attrs w e ++ digest_attrs w e)

-- the sections of all entries that change, in the order of the entries
abbrev pub changes : Walk → List Section
changes w = filter_map (section_at w) (all_numbers (walk_count w))

-- ---- how it is computed

-- twenty zero bytes stand for the digest, if it isn't made anew
abbrev pub is_void : Walk → ℕ → Bool
is_void w d = not w.options.dry && is_outdated w d

-- the digest that an entry's changes to
abbrev pub digest_change : Walk → ℕ → Option (List ℕ)
digest_change w d = if digest_changes w d then digest_after w d else None

-- the digest, unless it is the stored one
abbrev pub unless_stored : List ℕ → Option (List ℕ) → Option (List ℕ)
unless_stored digest stored = if same_option (Some digest) stored then None else Some digest

-- the context that the label of a group changes to for which this one is wanted
abbrev pub context_change : Walk → ℕ → Option ContextValue → Option ContextValue
context_change w g wants = if w.options.dry then None else given_in (verdict_where w g wants)

-- the same by its winner
abbrev pub group_change : Walk → ℕ → Option ℕ → Option ContextValue
group_change w g found = context_change w g (option_and_then (wanted w) found)

-- the context that the label of an entry changes to, by the winner of its group
abbrev pub change_with : Walk → ℕ → Option ℕ → Option ContextValue
change_with w e found = if is_found_at found e then group_change w (group_of w.entries e)
    found else None

unfoldable pub change_at : Walk → ℕ → Option ContextValue
change_at w e = change_with w e (group_winner w e)

abbrev pub given_attrs : Option ContextValue → List Attr
given_attrs None = []
given_attrs (Some context) = label_attr (context_text context) ∷ []

abbrev pub renewed_attrs : Option (List ℕ) → List Attr
renewed_attrs None = []
renewed_attrs (Some digest) = digest_attr digest ∷ []

-- the label changes to a context, or the digest changes
abbrev pub does_change : Option ContextValue → Option (List ℕ) → Bool
does_change None digest = is_some digest
does_change (Some context) digest = true

-- the section of an entry whose label changes to this context, and whose digest to this one
abbrev pub section_by : Path → Option ContextValue → Option (List ℕ) → Option Section
section_by path change digest = section_with path (given_attrs change ++ renewed_attrs digest)

-- the text of a section, where there is one
abbrev pub optional_section : Option Section → List ℕ
optional_section None = []
optional_section (Some section) = section_text section
