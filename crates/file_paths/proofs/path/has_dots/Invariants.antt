use Rattle.std.proofs.Common.{◌≡◌}
use Rattle.std.specs.Prelude.{filter}
use Rattle.std.specs.List.{list_any}
use Rattle.std.specs.Option.{option_copied}
use Rattle.label_base.specs.Text.{is_nonempty}
use Rattle.file_paths.specs.Path.{path_names, is_dot_part, is_slash}
use Rattle.label_base.specs.Cut.{pieces_left}
use Rattle.label_base.specs.Pieces.{turns_left}
use Rattle.file_paths.proofs.path.has_dots.Given as goal

-- the names before what is left are no dots
abbrev pub invariant-loop-left : goal.invariant-loop-left
invariant-loop-left l =
    list_any is_dot_part (path_names l.bytes) ≡ list_any is_dot_part
    (filter is_nonempty (pieces_left is_slash (option_copied l.left)))

abbrev pub decreases-loop-left : goal.decreases-loop-left
decreases-loop-left l = turns_left (option_copied l.left)
