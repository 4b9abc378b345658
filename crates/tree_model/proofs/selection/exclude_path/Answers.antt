use Rattle.std.proofs.Common.{◌∙◌, ◌+◌, ap, sym, length, take}
use Rattle.std.specs.Prelude.{◌&&◌, not}
use Rattle.file_paths.specs.Path.{at_or_below}
use Rattle.file_paths.specs.PathRef.{path_of}
use Rattle.tree_model.specs.Extents.{entry_at}
use Rattle.tree_model.specs.Selection.{is_admitted, is_excluded}
use Rattle.tree_model.proofs.SelectLemmas.{excluded_more, flags_cleared}
use Rattle.tree_model.proofs.selection.exclude_path.Goals as goal

pub returns : goal.returns
returns c =
    flags_cleared (length c.args.sorted.now)
    (λ e. is_admitted c.args.choice.now c.args.sorted.now c.args.choice.now.operands e && not
    (is_excluded c.args.sorted.now (take c.args.index c.args.choice.now.excluded) e))
    (λ e. at_or_below (entry_at c.args.sorted.now e).path (path_of c.path-path.result))
    (λ e. is_admitted c.args.choice.now c.args.sorted.now c.args.choice.now.operands e && not
    (is_excluded c.args.sorted.now (take (c.args.index + 1) c.args.choice.now.excluded) e))
    c.args.live.now.items c.clear_below.new.live.items c.requires.flags c.clear_below.ensures
    (λ e. excluded_more (is_admitted c.args.choice.now c.args.sorted.now c.args.choice.now.operands
    e) c.args.sorted.now c.args.choice.now.excluded c.args.index c.get.result.now c.get.ensures
    e
    ∙ ap (λ p. (is_admitted c.args.choice.now c.args.sorted.now c.args.choice.now.operands e && not
    (is_excluded c.args.sorted.now (take c.args.index c.args.choice.now.excluded) e)) && not
    (at_or_below (entry_at c.args.sorted.now e).path p)) (sym c.path-path.ensures))
