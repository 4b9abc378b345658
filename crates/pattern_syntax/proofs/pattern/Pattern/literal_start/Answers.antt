use Rattle.std.proofs.Common.{◌∙◌}
use Rattle.pattern_syntax.proofs.BehindLemmas.{text_begins}
use Rattle.pattern_syntax.proofs.pattern.Pattern.literal_start.Goals as goal

pub returns-clause-begins : goal.returns-clause-begins
returns-clause-begins c = text_begins c.args.self.now.tree c.in_ok-start.start
    (c.in_ok-start.ensures ∙ c.start.ensures)
