-- What finds the last line that covers a path.
use Rattle.std.specs.Prelude.{◌≡◌, ℕ, ◌<◌, ◌≤◌, ◌+◌, ◌*◌, ◌-◌, ◌%◌, Bool, true, false, ◌&&◌}
use Rattle.std.specs.Prelude.{List, [], length, take, drop, get_or, Option}
use Rattle.std.specs.declared.vec.Vec.{Vec}
use Rattle.label_base.specs.Bounded.{greatest_below}
use Rattle.label_base.specs.NumberUnder.{number_under}
use Rattle.label_base.specs.Text.{same_bytes}
use Rattle.file_paths.specs.Path.{Path, are_names, with_slashes}
use Rattle.file_paths.specs.PathText.{ends_name}
use Rattle.path_subs.specs.declared.sub_list.TheConstants.{BYTES, LENGTHS}
use Rattle.path_subs.specs.Subs.{SubValue, covers}

-- what stands where there is no line
abbrev pub sub_by_default : SubValue
sub_by_default = record { source = []; target = [] }

abbrev pub sub_at : List SubValue → ℕ → SubValue
sub_at subs i = get_or subs i sub_by_default

-- the line's source has this text
abbrev pub has_text : List ℕ → SubValue → Bool
has_text text sub = same_bytes text (with_slashes sub.source)

-- the last of the first n lines whose source has this text
abbrev pub last_sub_with : List SubValue → ℕ → List ℕ → Option ℕ
last_sub_with subs n text = greatest_below n (λ i. has_text text (sub_at subs i))

-- what a text's length and last byte are told apart by
abbrev pub mark_by : ℕ → ℕ → ℕ
mark_by length byte = (length % LENGTHS) * BYTES + byte % BYTES

abbrev pub mark : List ℕ → ℕ
mark text = mark_by (length text) (get_or text (length text - 1) 0)

-- under the text of each source of the first n lines stands the last line of that source, each
-- source's text is marked, and none is longer than the longest
pub record AreSubsListed {A : Type 0} (subs : List SubValue) (n : ℕ) (entries : List (Vec ℕ A × ℕ))
    (marks : List Bool) (longest : ℕ) : Type 0 where
  pub last : (text : List ℕ) → number_under text entries ≡ last_sub_with subs n text
  pub some : (i : ℕ) → i < n → 0 < length (sub_at subs i).source
  pub named : (i : ℕ) → i < n → are_names (sub_at subs i).source ≡ true
  pub marked : (i : ℕ) → i < n → get_or marks (mark (with_slashes (sub_at subs i).source)) false
      ≡ true
  pub short : (i : ℕ) → i < n → length (with_slashes (sub_at subs i).source) ≤ longest

-- what stands before a place where a name ends is the text of the line's source
abbrev pub sub_fits_at : List ℕ → ℕ → SubValue → Bool
sub_fits_at text end sub = ends_name (drop end text) && has_text (take end text) sub

-- the last line that covers the path, by its index
abbrev pub last_covering : List SubValue → Path → Option ℕ
last_covering subs path = greatest_below (length subs) (λ i. covers path (sub_at subs i))
