use Rattle.std.proofs.Common.{◌∙◌, ap, arith, sym}
use Rattle.std.specs.List.{list_all}
use Rattle.std.proofs.lemmas.List.{length-take, take-take}
use Rattle.pattern_syntax.specs.Exact.{is_itself}
use Rattle.pattern_syntax.specs.Shape.{are_text_bytes}
use Rattle.pattern_syntax.proofs.placed.run_length.Goals as goal

pub returns-clause-plain : goal.returns-clause-plain
returns-clause-plain c =
    let within = c.plain_run.ensures.within in
    ap (list_all is_itself) (sym (take-take c.plain_run.result c.min-most.result c.args.text.now
    (omega (arith, within, length-take c.min-most.result c.args.text.now))))
    ∙ c.plain_run.ensures.plain

pub returns-clause-proper : goal.returns-clause-proper
returns-clause-proper c =
    let within = c.plain_run.ensures.within in
    ap are_text_bytes (sym (take-take c.plain_run.result c.min-most.result c.args.text.now
    (omega (arith, within, length-take c.min-most.result c.args.text.now))))
    ∙ c.plain_run.ensures.proper
