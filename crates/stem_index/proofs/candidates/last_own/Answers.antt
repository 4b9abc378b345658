use Rattle.std.proofs.Common.{sym, true, false}
use Rattle.stem_index.proofs.StemLemmas.{empty_none, heads_named, heads_root}
use Rattle.stem_index.proofs.candidates.last_own.Goals as goal

pub returns-then-is_empty : goal.returns-then-is_empty
returns-then-is_empty c = λ free h. heads_root c.args.index.now c.args.name.now free
    (empty_none c.args.name.now true (sym c.if-is_empty.ensures)) h

pub returns : goal.returns
returns c = λ free h. heads_named c.args.index.now c.args.name.now free c.last_with.result
    (empty_none c.args.name.now false (sym c.if-is_empty.ensures)) h c.last_with.ensures
