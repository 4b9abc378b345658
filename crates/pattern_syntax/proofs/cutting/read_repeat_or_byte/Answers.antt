use Rattle.std.proofs.Common.{ap, ◌∙◌, ℕ, Bool}
use Rattle.pattern_syntax.specs.ByteSet.{bytes_with}
use Rattle.pattern_syntax.specs.Shape.{is_proper_set}
use Rattle.pattern_syntax.proofs.ShapeLemmas.{text_proper}
use Rattle.pattern_syntax.proofs.cutting.read_repeat_or_byte.Goals as goal

pub returns-in-46-clause-proper : goal.returns-in-46-clause-proper
returns-in-46-clause-proper c = ap (λ (p : ℕ → Bool). is_proper_set (bytes_with p))
    c.text_bytes.ensures ∙ text_proper
