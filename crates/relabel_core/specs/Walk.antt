-- What one walk over a tree means. There is no running state: each definition speaks of one entry,
-- e, or of one directory, d, by its index, or of one group, g, which are the names of one inode.
use Rattle.std.specs.Prelude.{ℕ, ◌+◌, Bool, false, not, ◌&&◌, ◌||◌, ◌==◌, List, [], ◌++◌, length}
use Rattle.std.specs.Prelude.{filter, map, get_or, slice_get, Option, Some, None, is_some}
use Rattle.std.specs.Prelude.{option_and_then, if◌then◌else◌}
use Rattle.std.specs.List.{filter_map}
use Rattle.label_base.specs.Bounded.{all_numbers, any_below, least_below}
use Rattle.label_base.specs.Text.{same_bytes}
use Rattle.file_paths.specs.Path.{Path}
use Rattle.context_syntax.specs.Context.{ContextValue}
use Rattle.context_syntax.specs.Label.{same_label}
use Rattle.context_syntax.specs.TypeNames.{names_in_order}
use Rattle.context_syntax.specs.declared.label.Label.{Label}
use Rattle.spec_reader.specs.SpecValue.{SpecValue}
use Rattle.dir_digest.specs.Digest.{digest_at, void_digest}
use Rattle.find_records.specs.Record.{Record}
use Rattle.tree_model.specs.Extents.{entry_at, in_extent, is_directory}
use Rattle.tree_model.specs.Groups.{group_of, label_in}
use Rattle.tree_model.specs.Selection.{whole_at}
use Rattle.relabel_core.specs.declared.options.Options.{Options}
use Rattle.report_text.specs.Message.{MessageValue, NoDefault, Skipped, Absent, NoMatches}
use Rattle.label_rules.specs.LookUp.{given_at, given_by, index_for}
use Rattle.label_rules.specs.Lines.{conflict_line, verdict_line}
use Rattle.label_rules.specs.Decide as verdicts
use Rattle.label_rules.specs.Decide.{VerdictValue, label_by, verdict_for}
use Rattle.label_rules.specs.declared.rules.Rules.{Rules}

-- the digest that is stored for each directory that has one
abbrev pub StoredDigests : Type 0
StoredDigests = ℕ → Option (List ℕ)

-- What is walked. entries: the entries of the tree, in the order of their paths. live: for each
-- entry whether the run is asked for it. absent: the operands without an entry, in their order.
-- stored: the digests before the walk.
pub record Walk : Type 0 where
  pub entries : List Record
  pub live : List Bool
  pub absent : List Path
  pub rules : Rules
  pub options : Options
  pub stored : StoredDigests

-- how many entries the tree has
abbrev pub walk_count : Walk → ℕ
walk_count w = length w.entries

abbrev pub path_at : Walk → ℕ → Path
path_at w e = (entry_at w.entries e).path

-- the run is asked for the entry
abbrev pub is_live : Walk → ℕ → Bool
is_live w e = get_or w.live e false

-- ---- which directories are skipped

-- the digest of a directory, from what can decide the labels at or below it
unfoldable pub digest_now : Walk → ℕ → List ℕ
digest_now w d =
    digest_at w.options.format w.options.force (names_in_order w.rules.types) w.rules.subs.first
    w.rules.subs.second w.rules.rules (path_at w d)

-- a directory with all names of its inodes at or below it, and all that lies there asked for
abbrev pub is_whole : Walk → ℕ → Bool
is_whole w d = is_directory w.entries d && whole_at w.entries w.live d

-- what is stored is a digest other than twenty zero bytes, and this one
abbrev pub is_current : Option (List ℕ) → List ℕ → Bool
is_current None digest = false
is_current (Some stored) digest =
    not (same_bytes stored void_digest) && same_bytes stored digest

-- directories may be skipped
abbrev pub skips : Walk → Bool
skips w = w.options.digests && not w.options.ignore_digests

-- the directory may be passed over with all that lies below it: its stored digest is the one that
-- it has
unfoldable pub skippable : Walk → ℕ → Bool
skippable w d = skips w && is_whole w d && is_current (w.stored d) (digest_now w d)

-- the entry is at or below such a directory
unfoldable pub is_skipped : Walk → ℕ → Bool
is_skipped w e = any_below (walk_count w) (λ d. skippable w d && in_extent w.entries d e)

-- the directory is such a one, and lies below no other
unfoldable pub is_skipped_first : Walk → ℕ → Bool
is_skipped_first w e =
    skippable w e
    && not (any_below (walk_count w)
    (λ d. skippable w d && in_extent w.entries d e && not (d == e)))

-- the entry is looked at
unfoldable pub walked : Walk → ℕ → Bool
walked w e = is_live w e && not (is_skipped w e)

-- ---- what is decided

-- the index of the specification that decides an entry
unfoldable pub deciding : Walk → ℕ → Option ℕ
deciding w e = if walked w e then index_for w.rules (entry_at w.entries e) else None

-- the context that is decided for an entry; none where nothing decides it, nor where its
-- specification says <<none>>
unfoldable pub wanted : Walk → ℕ → Option ContextValue
wanted w e = given_at w.rules.rules (deciding w e)

-- a context is decided for the entry, which was looked at then
abbrev pub is_wanted : Walk → ℕ → Bool
is_wanted w e = is_some (wanted w e)

-- ---- which name of a group decides

-- the entry is a name of the group, and a context is decided for it
abbrev pub can_win : Walk → ℕ → ℕ → Bool
can_win w g e = (group_of w.entries e == g) && is_some (wanted w e)

-- the winner of a group: the first of its entries for which a context is decided
unfoldable pub winner : Walk → ℕ → Option ℕ
winner w g = least_below (walk_count w) (can_win w g)

-- ---- what follows from the winner of a group, where there is one: `found` is its index

-- the verdict on the label of a group for which this context is wanted
abbrev pub verdict_where : Walk → ℕ → Option ContextValue → VerdictValue
verdict_where w g None = verdicts.Keep
verdict_where w g (Some context) =
    verdict_for (label_in w.entries g) context w.options.force w.rules.types

-- the verdict on the label of a group
abbrev pub verdict_with : Walk → ℕ → Option ℕ → VerdictValue
verdict_with w g found = verdict_where w g (option_and_then (wanted w) found)

-- the label after the walk of a group for which this context is wanted
abbrev pub label_where : Walk → ℕ → Option ContextValue → Label
label_where w g wants =
    if w.options.dry
    then label_in w.entries g
    else label_by (verdict_where w g wants) (label_in w.entries g)

-- the label of a group after the walk
abbrev pub new_label_with : Walk → ℕ → Option ℕ → Label
new_label_with w g found = label_where w g (option_and_then (wanted w) found)

-- there is an index, and it is this one
abbrev pub is_found_at : Option ℕ → ℕ → Bool
is_found_at None e = false
is_found_at (Some k) e = k == e

-- the label of an entry after the walk: its group's, which changes at the winner
abbrev pub label_with : Walk → ℕ → Option ℕ → Label
label_with w e found =
    if is_found_at found e
    then new_label_with w (group_of w.entries e) found
    else label_in w.entries (group_of w.entries e)

-- the line of a group's winner
abbrev pub winner_line : Walk → ℕ → Option ℕ → Option MessageValue
winner_line w e found =
    if w.options.verbose
    then verdict_line (path_at w e) (label_in w.entries (group_of w.entries e)) w.options.dry
    (verdict_with w (group_of w.entries e) found)
    else None

-- the conflict of an entry with the winner of its group
abbrev pub conflict_with : Walk → ℕ → Option ℕ → Option MessageValue
conflict_with w e None = None
conflict_with w e (Some k) = conflict_line (path_at w k) (path_at w e) (wanted w e) (wanted w k)

-- the line of an entry that no specification decides: it was looked at, or skipped
abbrev pub undecided_line : Walk → ℕ → Option MessageValue
undecided_line w e =
    if not w.options.verbose then None
    else if walked w e then Some (NoDefault (path_at w e))
    else if is_skipped_first w e then Some (Skipped (path_at w e))
    else None

-- the line of an entry that a specification decides
abbrev pub decided_line : Walk → ℕ → Option ℕ → Option MessageValue
decided_line w e found = if is_found_at found e then winner_line w e found else conflict_with w e
    found

-- the line of an entry that the specification at this index decides
abbrev pub line_where : Walk → ℕ → Option ℕ → Option ℕ → Option MessageValue
line_where w e found None = undecided_line w e
line_where w e found (Some index) = decided_line w e found

-- the line of an entry
abbrev pub line_with : Walk → ℕ → Option ℕ → Option MessageValue
line_with w e found = line_where w e found (deciding w e)

-- ---- what the walk answers

-- the winner of the group of an entry
abbrev pub group_winner : Walk → ℕ → Option ℕ
group_winner w e = winner w (group_of w.entries e)

-- the verdict on the label of a group, by its winner
abbrev pub verdict : Walk → ℕ → VerdictValue
verdict w g = verdict_with w g (winner w g)

-- the label of a group after the walk, by its winner
abbrev pub new_label : Walk → ℕ → Label
new_label w g = new_label_with w g (winner w g)

-- the label of an entry after the walk
unfoldable pub label_after : Walk → ℕ → Label
label_after w e = label_with w e (group_winner w e)

-- the labels of the entries after the walk
abbrev pub labels : Walk → List Label
labels w = map (label_after w) (all_numbers (walk_count w))

-- the label of the group is another one after the walk
abbrev pub is_changed : Walk → ℕ → Bool
is_changed w g = not (same_label (new_label w g) (label_in w.entries g))

-- the entry is a name of a group whose label changes
abbrev pub is_changed_name : Walk → ℕ → Bool
is_changed_name w e = is_changed w (group_of w.entries e)

-- some entry at or below d is a name of such a group
unfoldable pub has_changed_name : Walk → ℕ → Bool
has_changed_name w d =
    any_below (walk_count w) (λ e. in_extent w.entries d e && is_changed_name w e)

-- a digest is stored, and no longer tells of the labels at or below d
abbrev pub is_outdated : Walk → ℕ → Bool
is_outdated w d = is_some (w.stored d) && has_changed_name w d

-- the directory gets its digest anew: it was looked at, and nothing hides what lies below it
unfoldable pub is_renewed : Walk → ℕ → Bool
is_renewed w d =
    (w.options.digests || w.options.ignore_digests) && walked w d && is_whole w d

-- the digest after the walk: with -n all digests stay; else a digest is made anew, or twenty zero
-- bytes stand for one that is outdated
unfoldable pub digest_after : Walk → ℕ → Option (List ℕ)
digest_after w d =
    if w.options.dry then w.stored d
    else if is_renewed w d then Some (digest_now w d)
    else if is_outdated w d then Some void_digest
    else w.stored d

-- the digests of the entries after the walk
abbrev pub digests : Walk → List (Option (List ℕ))
digests w = map (digest_after w) (all_numbers (walk_count w))

-- the line of an entry
unfoldable pub line : Walk → ℕ → Option MessageValue
line w e = line_with w e (group_winner w e)

-- the lines of the entries, in the order of the entries
abbrev pub entry_lines : Walk → List MessageValue
entry_lines w = filter_map (line w) (all_numbers (walk_count w))

-- the lines of the operands without an entry
abbrev pub absent_lines : Walk → List MessageValue
absent_lines w = if w.options.ignore_absent then [] else map Absent w.absent

-- the specification at the index decides some entry
abbrev pub has_decided : Walk → ℕ → Bool
has_decided w i = any_below (walk_count w) (λ e. is_found_at (deciding w e) i)

abbrev pub no_matches : SpecValue → MessageValue
no_matches spec = NoMatches spec.text spec.kind (given_by spec)

abbrev pub line_of_spec : Option SpecValue → Option MessageValue
line_of_spec None = None
line_of_spec (Some spec) = Some (no_matches spec)

-- the line of a specification that decides no entry
abbrev pub unmatched_line : Walk → ℕ → Option MessageValue
unmatched_line w i = if has_decided w i then None else line_of_spec (slice_get w.rules.rules i)

-- the lines of the specifications that decide no entry, in the order of the list
abbrev pub unmatched_lines : Walk → List MessageValue
unmatched_lines w =
    if w.options.warn_unmatched
    then filter_map (unmatched_line w) (all_numbers (length w.rules.rules))
    else []

-- the messages of the walk
abbrev pub messages : Walk → List MessageValue
messages w = absent_lines w ++ entry_lines w ++ unmatched_lines w

-- the entry is decided to another context than its group's winner
abbrev pub has_conflict : Walk → ℕ → Bool
has_conflict w e = is_some (conflict_with w e (group_winner w e))

-- how many entries below n have a conflict
abbrev pub conflicts_below : Walk → ℕ → ℕ
conflicts_below w n = length (filter (has_conflict w) (all_numbers n))

-- the operands without an entry count, unless they are ignored
abbrev pub absent_errors : Walk → ℕ
absent_errors w = if w.options.ignore_absent then 0 else length w.absent

-- conflicts count where links are strict
abbrev pub conflict_errors : Walk → ℕ
conflict_errors w = if w.options.strict_links then conflicts_below w (walk_count w) else 0

-- how many errors the walk met
abbrev pub errors : Walk → ℕ
errors w = absent_errors w + conflict_errors w

-- ---- what is counted

-- a test as a number
abbrev pub one_if : Bool → ℕ
one_if b = if b then 1 else 0

-- how many entries below n are looked at
abbrev pub walked_below : Walk → ℕ → ℕ
walked_below w n = length (filter (walked w) (all_numbers n))

-- how many of the entries below n are decided to a context
abbrev pub wanted_below : Walk → ℕ → ℕ
wanted_below w n = length (filter (is_wanted w) (all_numbers n))

-- how many entries are decided to a context
abbrev pub count_wanted : Walk → ℕ
count_wanted w = wanted_below w (walk_count w)
