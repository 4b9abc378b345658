use Rattle.std.proofs.Common.{sym, ◌∙◌, arith}
use Rattle.file_paths.proofs.PathTexts.{cmp_ended}
use Rattle.file_paths.proofs.path.cmp_bytes.Goals as goal

pub returns : goal.returns
returns c =
    c.cmp-2.ensures
    ∙ sym (c.loop-i.invariant ∙ cmp_ended c.args.text.now c.args.other.now c.loop-i.i
    (omega arith) (omega arith))
