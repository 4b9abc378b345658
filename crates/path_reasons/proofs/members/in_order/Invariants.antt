use Rattle.std.proofs.Common.{◌≡◌, ◌++◌, drop}
use Rattle.std.specs.Prelude.{filter}
use Rattle.file_paths.specs.Path.{path_text}
use Rattle.file_paths.specs.PathRef.{path_of}
use Rattle.path_reasons.specs.Members.{does_speak, specs_seen}
use Rattle.path_reasons.proofs.members.in_order.Given as goal

-- those so far, and those that are left
abbrev pub invariant-specs : goal.invariant-specs
invariant-specs l =
    specs_seen l.found.items
    ++ filter (does_speak (path_text (path_of l.path))) (drop l.spec-index l.specs)
    ≡ filter (does_speak (path_text (path_of l.path))) l.specs
