use Rattle.std.proofs.lemmas.Result.{IfOk-weaker}
use Rattle.relabel_core.specs.Answer.{walk_in}
use Rattle.threaded_relabelling.proofs.TextLemmas.{lines_made}
use Rattle.threaded_relabelling.proofs.entry_texts.add_lines.Goals as goal

pub returns : goal.returns
returns g c =
    IfOk-weaker _ _ _ (λ made m. lines_made (walk_in c.args.walked.now) c.args.to made c.len.result
    c.len.ensures m)
    c.add_texts.ensures
