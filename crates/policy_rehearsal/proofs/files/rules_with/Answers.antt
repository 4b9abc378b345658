use Rattle.policy_rehearsal.proofs.FileLemmas.{counted_by, typed_more}
use Rattle.policy_rehearsal.proofs.files.rules_with.Goals as goal

pub returns-in_err-types_in-clause-counts : goal.returns-in_err-types_in-clause-counts
returns-in_err-types_in-clause-counts c =
    counted_by _ _ c.from_residual.ensures.1 c.in_err-types_in.ensures.counts

pub returns-in_err-types_in-2-clause-counts : goal.returns-in_err-types_in-2-clause-counts
returns-in_err-types_in-2-clause-counts c =
    counted_by _ _ c.from_residual-in_err-types_in-2.ensures.1 c.in_err-types_in-2.ensures.counts

pub policies-preserved : goal.policies-preserved
policies-preserved c = λ types is.
    typed_more _ c.policies.yielded _ _ types c.policies.rules _ _
    c.in_ok-types_in-2.ensures.answer c.in_ok-push.ensures.ok c.rules_of.ensures
    (c.policies.invariant types) is
