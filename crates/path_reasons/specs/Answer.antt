-- What explain writes.
use Rattle.std.specs.Prelude.{ℕ, Bool, List, Option, None}
use Rattle.std.specs.List.{flat_map}
use Rattle.label_base.specs.declared.kind.EntryKind.{EntryKind}
use Rattle.file_paths.specs.Path.{Path, path_text}
use Rattle.file_roles.specs.declared.list.NamedFile.{NamedFile}
use Rattle.run_endings.specs.declared.ending.End.TheVariants.{Done}
use Rattle.run_endings.specs.declared.ending.Ending.{Ending}
use Rattle.path_reasons.specs.Blocks.{ToldValue, path_block}
use Rattle.path_reasons.specs.Members.{members}
use Rattle.path_reasons.specs.Routes.{RouteValue, route_through}
use Rattle.path_reasons.specs.declared.policy.PolicyLines.{PolicyLines}
use Rattle.path_reasons.specs.declared.words.ExplainWords.{ExplainWords}

-- what is known of a path, once it is substituted
abbrev pub told_behind : List NamedFile → PolicyLines → (brief : Bool) → Path → RouteValue
    → ToldValue
told_behind names lines brief path route = record {
  names = names;
  path = path;
  route = route;
  found = members (path_text route.path) lines.specs;
  brief = brief;
}

-- what is reported of a path
unfoldable pub path_report : List NamedFile → PolicyLines → Option EntryKind → (brief : Bool)
    → Path → List ℕ
path_report names lines asked brief path =
    path_block (told_behind names lines brief path (route_through lines.first lines.second path))
    asked

abbrev pub explained_ending : List NamedFile → ExplainWords → PolicyLines → Ending
explained_ending names words lines = record {
  report = flat_map (path_report names lines words.asked words.brief) words.paths;
  end = Done;
  saved = None;
}
