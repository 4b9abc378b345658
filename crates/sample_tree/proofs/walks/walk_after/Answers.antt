use Rattle.std.proofs.Common.{◌≡◌, subst, sym, IfOk, arith}
use Rattle.relabel_core.specs.Answer.{walk_in}
use Rattle.tree_model.specs.Labelled.{DifferInLabels}
use Rattle.sample_tree.specs.Walks.{lines_of_kind}
use Rattle.sample_tree.specs.declared.walks.LineKind.TheVariants as kinds
use Rattle.sample_tree.proofs.WalkLemmas.{after_is}
use Rattle.sample_tree.proofs.walks.walk_after.Goals as goal

pub walk_next-requires-clause-tree : goal.walk_next-requires-clause-tree
walk_next-requires-clause-tree c = omega (arith, c.in_ok-next.ensures.same.count)

pub walk_next-requires-clause-same : goal.walk_next-requires-clause-same
walk_next-requires-clause-same c =
    subst (λ entries. DifferInLabels entries c.in_ok-next.next) (sym c.requires.walk)
    c.in_ok-next.ensures.same

pub returns-clause-skipped : goal.returns-clause-skipped
returns-clause-skipped c =
    subst (λ v. IfOk c.walk_next.result (λ lines. lines.0 ≡ lines_of_kind kinds.Skipping v))
    (after_is c.args.rules.now (walk_in c.args.first.now) c.args.tree.now c.in_ok-next.next
    c.requires.walk c.in_ok-next.ensures.value)
    c.walk_next.ensures.skipped

pub returns-clause-relabelled : goal.returns-clause-relabelled
returns-clause-relabelled c =
    subst (λ v. IfOk c.walk_next.result (λ lines. lines.1 ≡ lines_of_kind kinds.Relabelled v))
    (after_is c.args.rules.now (walk_in c.args.first.now) c.args.tree.now c.in_ok-next.next
    c.requires.walk c.in_ok-next.ensures.value)
    c.walk_next.ensures.relabelled
