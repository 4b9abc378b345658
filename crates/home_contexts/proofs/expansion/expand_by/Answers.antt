use Rattle.std.proofs.Common.{[], ◌∙◌, sym}
use Rattle.home_contexts.specs.Homes.{given_lines}
use Rattle.home_contexts.proofs.TemplateLines.{answers_back, answers_text}
use Rattle.home_contexts.proofs.expansion.expand_by.Goals as goal

pub returns-clause-text : goal.returns-clause-text
returns-clause-text c =
    let given = given_lines c.args.template.now c.args.by.now.users.now in
    let adds = c.in_ok-give_all.ensures in
    answers_text given c.finish.result (sym c.gives_long.ensures ∙ c.if-gives_long.false) adds.fine
    (c.finish.ensures given (adds.made [] c.new-made.ensures))

pub returns-clause-read_back : goal.returns-clause-read_back
returns-clause-read_back c =
    let given = given_lines c.args.template.now c.args.by.now.users.now in
    let adds = c.in_ok-give_all.ensures in
    answers_back given c.finish.result adds.parts adds.fine (c.finish.ensures given (adds.made []
    c.new-made.ensures))
