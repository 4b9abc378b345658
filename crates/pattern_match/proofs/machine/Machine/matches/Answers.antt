use Rattle.std.proofs.Common.{◌∙◌, ap, sym}
use Rattle.pattern_match.specs.States.{is_bare}
use Rattle.pattern_match.proofs.Ready.{bare_matches}
use Rattle.pattern_match.proofs.machine.Machine.matches.Goals as goal

pub returns-then-tables-clause-language : goal.returns-then-tables-clause-language
returns-then-tables-clause-language c =
    bare_matches c.args.self.now c.args.text.now c.is_empty.result
    (ap is_bare (sym c.self.view_is) ∙ sym c.self.invariant.behind.bare_is ∙ c.if-tables.true)
    c.is_empty.ensures
