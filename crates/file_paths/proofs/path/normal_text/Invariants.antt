use Rattle.std.proofs.Common.{◌≡◌, ◌++◌}
use Rattle.std.specs.Prelude.{filter}
use Rattle.std.specs.Option.{option_copied}
use Rattle.label_base.specs.Text.{is_nonempty}
use Rattle.file_paths.specs.Path.{path_names, is_slash, with_slashes}
use Rattle.label_base.specs.Cut.{pieces_left}
use Rattle.label_base.specs.Pieces.{turns_left}
use Rattle.file_paths.proofs.path.normal_text.Given as goal

-- the names so far, and those of what is left
abbrev pub invariant-loop-left : goal.invariant-loop-left
invariant-loop-left l =
    l.text.items ++ with_slashes (filter is_nonempty (pieces_left is_slash (option_copied l.left)))
    ≡ with_slashes (path_names l.bytes)

abbrev pub decreases-loop-left : goal.decreases-loop-left
decreases-loop-left l = turns_left (option_copied l.left)
