use Rattle.std.proofs.Common.{refl}
use Rattle.pattern_match.proofs.OneText.{no_states, text_begun}
use Rattle.pattern_match.proofs.states.States.restart_text.Goals as goal

pub returns-clause-made : goal.returns-clause-made
returns-clause-made c = no_states _ c.empty.ensures.words

pub returns-clause-stands : goal.returns-clause-stands
returns-clause-stands c = text_begun _ refl
