use Rattle.std.proofs.Common.{◌≡◌, ◌++◌, drop}
use Rattle.std.specs.List.{flat_map}
use Rattle.path_reasons.specs.Answer.{path_report}
use Rattle.path_reasons.proofs.answer.add_explanations.Given as goal

-- the parts so far, and those of what is left
abbrev pub invariant-paths : goal.invariant-paths
invariant-paths l =
    l.text ++ flat_map (path_report l.by.names.now l.by.lines.now l.by.asked l.by.brief)
    (drop l.path-index l.paths)
    ≡ l.initial.text ++ flat_map (path_report l.by.names.now l.by.lines.now l.by.asked l.by.brief)
    l.paths
