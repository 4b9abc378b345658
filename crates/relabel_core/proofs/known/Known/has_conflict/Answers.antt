use Rattle.std.proofs.Common.{◌∙◌, ap, sym}
use Rattle.std.specs.Prelude.{is_some}
use Rattle.report_text.specs.Message.{message_of}
use Rattle.relabel_core.specs.Walk.{conflict_with}
use Rattle.relabel_core.specs.Walked.{walk_of}
use Rattle.relabel_core.proofs.CountLemmas.{some_shown}
use Rattle.relabel_core.proofs.known.Known.has_conflict.Goals as goal

pub returns : goal.returns
returns c =
    let known = c.args.self.now in
    let w = walk_of known.input in
    c.is_some.ensures ∙ sym (some_shown message_of c.conflict.result)
    ∙ ap is_some c.conflict.ensures
    ∙ ap (λ found. is_some (conflict_with w known.index found)) known.known.winner_is
