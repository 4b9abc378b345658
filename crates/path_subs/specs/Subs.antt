-- The substitution of the front of a path.
use Rattle.std.specs.Prelude.{◌≡◌, Bool, true, ◌&&◌, ◌||◌, not, List, ◌++◌, length, drop, Option}
use Rattle.std.specs.Prelude.{Some, None, filter}
use Rattle.std.specs.List.{last_or, list_any}
use Rattle.file_paths.specs.Path.{Path, at_or_below, strictly_below}

pub record SubValue : Type 0 where
  pub source : Path
  pub target : Path

-- a line covers the paths at or below its source
abbrev pub covers : Path → SubValue → Bool
covers path sub = at_or_below path sub.source

-- the last line that covers the path
abbrev pub covering : List SubValue → Path → Option SubValue
covering subs path = last_or None (filter (covers path) subs)

-- the names of the source give place to those of the target
abbrev pub by_sub : Path → Option SubValue → Path
by_sub path None = path
by_sub path (Some sub) = sub.target ++ drop (length sub.source) path

-- one stage: the path changed by the last line that covers it
abbrev pub by_last : List SubValue → Path → Path
by_last subs path = by_sub path (covering subs path)

-- both stages, one after the other
abbrev pub substituted : List SubValue → List SubValue → Path → Path
substituted first second path = by_last second (by_last first path)

-- some line of the first stage covers the path, or some line of the second does
abbrev pub is_path_covered : List SubValue → List SubValue → Path → Bool
is_path_covered first second path = list_any (covers path) first || list_any (covers path) second

-- the source of some line lies strictly below the path
abbrev pub has_below : List SubValue → Path → Bool
has_below subs path = list_any (λ sub. strictly_below sub.source path) subs

-- no line changes only some of the paths below this one
abbrev pub plain : List SubValue → List SubValue → Path → Bool
plain first second path = not (has_below first path) && not (has_below second (by_last first path))

-- names that are added to the path are added to its substitution
abbrev pub KeepsBelow : List SubValue → List SubValue → Path → Type 0
KeepsBelow first second path =
    (names : Path)
    → substituted first second (path ++ names) ≡ substituted first second path ++ names
