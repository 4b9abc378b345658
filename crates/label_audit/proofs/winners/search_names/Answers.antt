use Rattle.std.proofs.Common.{◌∙◌, sym, arith}
use Rattle.tree_model.specs.Groups.{group_of}
use Rattle.relabel_core.specs.Walked.{walk_of}
use Rattle.label_audit.proofs.GroupLemmas.{name_fails, name_left, name_wins, name_within}
use Rattle.label_audit.proofs.GroupLemmas.{no_name_wins}
use Rattle.label_audit.proofs.winners.search_names.Goals as goal

pub decide_name-requires-clause-entry : goal.decide_name-requires-clause-entry
decide_name-requires-clause-entry c =
    name_within (walk_of c.args.input.now) (group_of c.args.input.now.tree.now c.args.e)
    c.args.names.now c.names.name-index c.requires.names
    (omega (arith, c.names-test.true))

pub decide_name-requires-clause-left : goal.decide_name-requires-clause-left
decide_name-requires-clause-left c =
    name_left (walk_of c.args.input.now) c.args.e c.args.names.now c.names.name-index
    c.requires.names
    (omega (arith, c.names-test.true)) c.requires.entry c.requires.left

pub returns-then-is_some-clause-found : goal.returns-then-is_some-clause-found
returns-then-is_some-clause-found c =
    name_wins (walk_of c.args.input.now) (group_of c.args.input.now.tree.now c.args.e)
    c.args.names.now c.names.name-index _ c.requires.names
    (omega (arith, c.names-test.true)) c.names.invariant.first c.in_ok-found.ensures.found
    (sym c.is_some.ensures ∙ c.if-is_some.true)

pub names-preserved : goal.names-preserved
names-preserved c = record {
  own = c.decide_name.ensures.own;
  first = name_fails (walk_of c.args.input.now) c.args.names.now c.names.name-index _
      (omega (arith, c.names-test.true)) c.names.invariant.first c.in_ok-found.ensures.found
      (sym c.is_some.ensures ∙ c.if-is_some.false);
}

pub returns-clause-found : goal.returns-clause-found
returns-clause-found c =
    no_name_wins (walk_of c.args.input.now) (group_of c.args.input.now.tree.now c.args.e)
    c.args.names.now c.names.name-index c.requires.names
    (omega (arith, c.names-test.false)) c.names.invariant.first
