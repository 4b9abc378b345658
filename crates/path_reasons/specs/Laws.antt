-- What an explanation is, in terms of look-ups.
use Rattle.std.specs.Prelude.{◌≡◌, ℕ, false, List, ◌++◌, ◌∷◌, map, Some, Result, Ok, Err}
use Rattle.std.specs.List.{AllByRecursion}
use Rattle.label_base.specs.declared.kind.Asked.TheVariants.{Of}
use Rattle.label_base.specs.declared.kind.EntryKind.{EntryKind}
use Rattle.label_base.specs.declared.lines.RefusedLine.{RefusedLine}
use Rattle.file_paths.specs.Path.{Path}
use Rattle.path_subs.specs.Subs.{SubValue, substituted}
use Rattle.path_subs.specs.declared.sub_fault.NoSub.{NoSub}
use Rattle.spec_match.specs.LastMatch.{last_match}
use Rattle.spec_reader.specs.SpecValue.{SpecValue}
use Rattle.path_reasons.specs.Members.{decided_in, applies_to, members, others_in}
use Rattle.path_reasons.specs.Routes.{route_through}
use Rattle.path_reasons.specs.SubLines.{sub_of}
use Rattle.path_reasons.specs.declared.sub_line.SubLine.{SubLine}

-- the line that is reported is the last that fits
abbrev pub LineDecides : Type 0
LineDecides =
    (text : List ℕ) (specs : List SpecValue) (asked : EntryKind)
    → decided_in asked (members text specs) ≡ last_match (Of asked) text specs

-- all that match, the latest first, are the one that decides among the others, and none before it
-- applies
pub record ArePartedAt (asked : EntryKind) (all : List SpecValue) (decided : SpecValue)
    (others : List SpecValue) : Type 0 where
  pub before : List SpecValue
  pub behind : List SpecValue
  pub all_are : all ≡ before ++ decided ∷ behind
  pub others_are : others ≡ before ++ behind
  pub none_applies : AllByRecursion (λ spec. applies_to asked spec ≡ false) before

abbrev pub OthersFollow : Type 0
OthersFollow =
    (text : List ℕ) (specs : List SpecValue) (asked : EntryKind) (decided : SpecValue)
    → last_match (Of asked) text specs ≡ Some decided
    → ArePartedAt asked (members text specs) decided (others_in asked (members text specs))

-- the path that is looked up is the substituted one
abbrev pub PathIsSubstituted : Type 0
PathIsSubstituted =
    (first second : List SubLine) (path : Path)
    → (route_through first second path).path
    ≡ substituted (map sub_of first) (map sub_of second) path

abbrev pub without_numbers : Result (List SubLine) (RefusedLine NoSub)
    → Result (List SubValue) (RefusedLine NoSub)
without_numbers (Ok lines) = Ok (map sub_of lines)
without_numbers (Err line) = Err line
