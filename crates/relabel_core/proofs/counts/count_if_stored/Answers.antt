use Rattle.std.proofs.Common.{◌∙◌, ap, inl, inr, sym}
use Rattle.std.specs.Prelude.{is_some}
use Rattle.context_syntax.specs.Equal.{never}
use Rattle.relabel_core.proofs.counts.count_if_stored.Goals as goal

pub returns-then-is_empty-clause-needed : goal.returns-then-is_empty-clause-needed
returns-then-is_empty-clause-needed c = record {
  counted = λ d wet has. absurd
      (never (sym (ap (λ digests. is_some (digests d)) (c.is_empty.ensures.0 c.if-is_empty.true))
      ∙ has));
}

pub returns-clause-spared : goal.returns-clause-spared
returns-clause-spared c = λ spared. elim spared [
  | inl dry ↦ absurd (never (sym c.if-walked.false ∙ dry))
  | inr none ↦ absurd (never (sym c.if-is_empty.false ∙ c.is_empty.ensures.1 none))
]
