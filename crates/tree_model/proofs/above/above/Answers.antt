use Rattle.std.proofs.Common.{sym, subst, arith}
use Rattle.file_paths.specs.PathRef.{path_of}
use Rattle.tree_model.specs.Fronts.{IsOneBelow}
use Rattle.tree_model.proofs.FrontTexts.{HasFront, has_front}
use Rattle.tree_model.proofs.above.above.Goals as goal

front : (c : goal.After-name) → HasFront (path_of c.args.path.now) c.as_text-text.result.now
    c.name.result.now
front c =
    has_front (path_of c.args.path.now) c.as_text-text.result.now c.name.result.now
    c.names-count.result c.args.path.now.normal.1 c.names-count.ensures
    (omega arith) c.name.ensures.value c.as_text-text.ensures.value

pub overflow_sub-end : goal.overflow_sub-end
overflow_sub-end c = let f = front c in omega (arith, f.fits)

pub overflow_sub-end-2 : goal.overflow_sub-end-2
overflow_sub-end-2 c = let f = front c in omega (arith, f.fits)

pub of_text-requires : goal.of_text-requires
of_text-requires c = (front c).normal

pub returns : goal.returns
returns c =
    let f = has_front (path_of c.args.path.now) c.as_text-text.result.now c.name.result.now
    c.names-count.result c.args.path.now.normal.1 c.names-count.ensures
    (omega arith) c.name.ensures.value c.as_text-text.ensures.value in
    subst (IsOneBelow (path_of c.args.path.now)) (sym c.of_text.ensures) f.below
