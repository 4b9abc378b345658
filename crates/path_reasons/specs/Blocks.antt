-- What is reported of a path.
use Rattle.std.specs.Prelude.{ℕ, Bool, false, ◌||◌, List, [], ◌∷◌, ◌++◌, Option, Some, None}
use Rattle.std.specs.Prelude.{is_some, if◌then◌else◌}
use Rattle.std.specs.List.{flat_map}
use Rattle.label_base.specs.declared.kind.EntryKind.{EntryKind}
use Rattle.file_paths.specs.Path.{Path}
use Rattle.file_roles.specs.declared.list.NamedFile.{NamedFile}
use Rattle.file_roles.specs.declared.role.Part.TheVariants.{Subs, SubsDist}
use Rattle.pattern_syntax.specs.Exact.{is_exact_text}
use Rattle.spec_reader.specs.SpecValue.{SpecValue}
use Rattle.report_text.specs.Texts.{shown_path}
use Rattle.path_reasons.specs.Kinds.{begins_with, kind_letter, letters_alike}
use Rattle.path_reasons.specs.Members.{decided_in, others_in, specs_seen}
use Rattle.path_reasons.specs.Routes.{RouteValue, route_seen}
use Rattle.path_reasons.specs.Texts.{brief_end, decided_line, loser_line, stage_line}
use Rattle.path_reasons.specs.declared.blocks.Told.{Told}
use Rattle.path_reasons.specs.declared.naming.TheConstants.{TOLD_KINDS}
use Rattle.path_reasons.specs.declared.texts.TheConstants as texts

-- what is known of a path, and how it is reported
pub record ToldValue : Type 0 where
  pub names : List NamedFile
  pub path : Path
  pub route : RouteValue
  pub found : List SpecValue
  pub brief : Bool

abbrev pub told_of : Told → ToldValue
told_of told = record {
  names = told.names.now;
  path = told.path.now;
  route = route_seen told.route.now;
  found = specs_seen told.members.now;
  brief = told.brief;
}

-- the path and the letters of the kinds
abbrev pub heading : ToldValue → List ℕ → List ℕ
heading told letters = shown_path told.path ++ texts.BLANK.now ++ letters

abbrev pub brief_block : ToldValue → EntryKind → List ℕ → List ℕ
brief_block told kind letters =
    heading told letters ++ texts.MARK.now ++ brief_end told.names (decided_in kind told.found)
    ++ texts.LINE_FEED.now

-- the path that is looked up, where some line of substitutions applied
abbrev pub looked_up : RouteValue → List ℕ
looked_up route =
    if is_some route.first || is_some route.second
    then texts.LOOKED_UP.now ++ shown_path route.path ++ texts.LINE_FEED.now else []

abbrev pub route_lines : List NamedFile → RouteValue → List ℕ
route_lines names route =
    stage_line names Subs route.first ++ stage_line names SubsDist route.second
    ++ looked_up route

-- a line decides that has no metacharacter
abbrev pub is_decided_exactly : Option SpecValue → Bool
is_decided_exactly None = false
is_decided_exactly (Some spec) = is_exact_text spec.text

abbrev pub loser_lines : ToldValue → EntryKind → List ℕ
loser_lines told kind =
    flat_map (loser_line told.names kind (is_decided_exactly (decided_in kind told.found)))
    (others_in kind told.found)

-- what stands before the line that decides
abbrev pub block_top : ToldValue → List ℕ → List ℕ
block_top told letters =
    heading told letters ++ texts.COLON.now ++ texts.LINE_FEED.now
    ++ route_lines told.names told.route

abbrev pub full_block : ToldValue → EntryKind → List ℕ → List ℕ
full_block told kind letters =
    block_top told letters ++ decided_line told.names (decided_in kind told.found)
    ++ loser_lines told kind

-- what is reported for a kind, and for all that have the same answer
unfoldable pub block : ToldValue → EntryKind → List ℕ → List ℕ
block told kind letters =
    if told.brief then brief_block told kind letters else full_block told kind letters

-- the same, where no kind before it has the same answer
unfoldable pub block_if_told : ToldValue → EntryKind → List ℕ
block_if_told told kind =
    if begins_with (kind_letter kind) (letters_alike told.found kind)
    then block told kind (letters_alike told.found kind) else []

-- for one kind, or for each whose answer differs
abbrev pub path_block : ToldValue → Option EntryKind → List ℕ
path_block told None = flat_map (block_if_told told) TOLD_KINDS
path_block told (Some kind) = block told kind (kind_letter kind ∷ [])
