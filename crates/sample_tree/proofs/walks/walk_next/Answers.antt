use Rattle.std.proofs.Common.{◌≡◌, subst, IfOk}
use Rattle.relabel_core.specs.Walk.{StoredDigests}
use Rattle.sample_tree.specs.Walks.{lines_of_kind, sample_walk}
use Rattle.sample_tree.specs.declared.walks.LineKind.TheVariants as kinds
use Rattle.sample_tree.proofs.walks.walk_next.Goals as goal

pub returns-clause-skipped : goal.returns-clause-skipped
returns-clause-skipped c =
    subst (λ (stored : StoredDigests). IfOk c.walk_again.result
    (λ lines. lines.0 ≡ lines_of_kind kinds.Skipping
    (sample_walk c.args.rules.now c.args.next.now stored)))
    c.in_ok-stored.ensures c.walk_again.ensures.skipped

pub returns-clause-relabelled : goal.returns-clause-relabelled
returns-clause-relabelled c =
    subst (λ (stored : StoredDigests). IfOk c.walk_again.result
    (λ lines. lines.1 ≡ lines_of_kind kinds.Relabelled
    (sample_walk c.args.rules.now c.args.next.now stored)))
    c.in_ok-stored.ensures c.walk_again.ensures.relabelled
