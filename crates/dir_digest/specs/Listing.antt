-- What decides the labels at and below a directory, as far as it can be told without the tree: the
-- path that is looked up, the options, the substitutions and the specifications; and the format of
-- the records, which says what is known of names outside them.
use Rattle.std.specs.Prelude.{ℕ, Bool, List, [], Option, filter, map, if◌then◌else◌}
use Rattle.file_paths.specs.Path.{Path}
use Rattle.label_base.specs.declared.kind.EntryKind.{EntryKind}
use Rattle.find_records.specs.declared.format.Format.{Format}
use Rattle.path_subs.specs.Subs.{SubValue, plain, substituted}
use Rattle.spec_reader.specs.SpecValue.{SpecValue}
use Rattle.spec_reader.specs.declared.spec.Decision.{Decision}
use Rattle.spec_match.specs.Relevant.{can_decide}

-- what a listing has of a specification
pub record Line : Type 0 where
  pub text : List ℕ
  pub kind : Option EntryKind
  pub decision : Decision

-- format: that of the records. path: the substituted path of the directory. force: labels are given
-- whole, so that customizable types count for nothing and aren't listed. first, second: the lines
-- of the substitution files.
pub record Listing : Type 0 where
  pub format : Format
  pub path : Path
  pub force : Bool
  pub types : List (List ℕ)
  pub first : List SubValue
  pub second : List SubValue
  pub lines : List Line

abbrev pub listing_line : SpecValue → Line
listing_line spec = record { text = spec.text; kind = spec.kind; decision = spec.decision }

-- the specifications that can decide an entry at or below the directory: where every path below it
-- is substituted as it is, those whose language holds the substituted path or a text below it; else
-- all
unfoldable pub relevant : (first second : List SubValue) → List SpecValue → Path → List SpecValue
relevant first second specs path =
    if plain first second path
    then filter (can_decide (substituted first second path)) specs
    else specs

-- the listing of a directory
abbrev pub listing_of : Format → (force : Bool) → (types : List (List ℕ))
    → (first second : List SubValue) → (specs : List SpecValue) → Path → Listing
listing_of format force types first second specs path =
    record {
      format = format;
      path = substituted first second path;
      force = force;
      types = if force then [] else types;
      first = first;
      second = second;
      lines = map listing_line (relevant first second specs path);
    }
