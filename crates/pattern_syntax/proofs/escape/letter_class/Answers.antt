use Rattle.std.proofs.Common.{ap, ◌∙◌, ℕ, Bool}
use Rattle.pattern_syntax.specs.ByteSet.{bytes_with}
use Rattle.pattern_syntax.specs.Shape.{is_proper_set}
use Rattle.pattern_syntax.proofs.ShapeLemmas.{digits_proper, words_proper, spaces_proper}
use Rattle.pattern_syntax.proofs.ShapeLemmas.{no_digits_proper, no_words_proper, no_spaces_proper}
use Rattle.pattern_syntax.specs.Classes.{all_but}
use Rattle.pattern_syntax.proofs.escape.letter_class.Goals as goal

pub returns-in-100-clause-proper : goal.returns-in-100-clause-proper
returns-in-100-clause-proper c = ap (λ (p : ℕ → Bool). is_proper_set (bytes_with p))
    c.digits.ensures ∙ digits_proper

pub returns-in-119-clause-proper : goal.returns-in-119-clause-proper
returns-in-119-clause-proper c = ap (λ (p : ℕ → Bool). is_proper_set (bytes_with p)) c.words.ensures
    ∙ words_proper

pub returns-in-115-clause-proper : goal.returns-in-115-clause-proper
returns-in-115-clause-proper c = ap (λ (p : ℕ → Bool). is_proper_set (bytes_with p))
    c.spaces.ensures ∙ spaces_proper

pub returns-in-68-clause-proper : goal.returns-in-68-clause-proper
returns-in-68-clause-proper c = ap (λ (p : ℕ → Bool). is_proper_set (bytes_with p))
    (c.complement.ensures ∙ ap all_but c.digits-in-68.ensures) ∙ no_digits_proper

pub returns-in-87-clause-proper : goal.returns-in-87-clause-proper
returns-in-87-clause-proper c = ap (λ (p : ℕ → Bool). is_proper_set (bytes_with p))
    (c.complement-in-87.ensures ∙ ap all_but c.words-in-87.ensures) ∙ no_words_proper

pub returns-in-83-clause-proper : goal.returns-in-83-clause-proper
returns-in-83-clause-proper c = ap (λ (p : ℕ → Bool). is_proper_set (bytes_with p))
    (c.complement-in-83.ensures ∙ ap all_but c.spaces-in-83.ensures) ∙ no_spaces_proper
