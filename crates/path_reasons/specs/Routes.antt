-- How a path is substituted, and by which lines.
use Rattle.std.specs.Prelude.{Bool, List, Option, Some, None, filter}
use Rattle.std.specs.List.{last_or}
use Rattle.std.specs.Option.{option_copied}
use Rattle.file_paths.specs.Path.{Path}
use Rattle.path_subs.specs.Subs.{by_sub, covers}
use Rattle.path_reasons.specs.declared.covering.Route as lent
use Rattle.path_reasons.specs.declared.sub_line.SubLine.{SubLine}

-- the line of each stage that applied, and the path behind both
pub record RouteValue : Type 0 where
  pub first : Option SubLine
  pub second : Option SubLine
  pub path : Path

abbrev pub is_covered_by : Path → SubLine → Bool
is_covered_by path line = covers path line.sub

-- the last line that covers the path
abbrev pub covering_line : List SubLine → Path → Option SubLine
covering_line lines path = last_or None (filter (is_covered_by path) lines)

-- the path as a line changes it, if there is one
abbrev pub changed_by : Path → Option SubLine → Path
changed_by path None = path
changed_by path (Some line) = by_sub path (Some line.sub)

-- one stage
abbrev pub changed_in : List SubLine → Path → Path
changed_in lines path = changed_by path (covering_line lines path)

-- both stages, one after the other
abbrev pub route_through : (first second : List SubLine) → Path → RouteValue
route_through first second path = record {
  first = covering_line first path;
  second = covering_line second (changed_in first path);
  path = changed_in second (changed_in first path);
}

-- what contracts see of a route that is lent
abbrev pub route_seen : lent.Route → RouteValue
route_seen route = record {
  first = option_copied route.first;
  second = option_copied route.second;
  path = route.path;
}
