use Rattle.std.proofs.Common.{arith, rules}
use Rattle.tree_model.proofs.NameLemmas.{names_pushed, own_next, names_over}
use Rattle.tree_model.proofs.groups.push_names.Goals as goal

pub names-preserved : goal.names-preserved
names-preserved c = record {
  names = names_pushed c.args.groups.now c.args.next.now c.names.e c.args.group c.requires.next
      c.names-test.true c.names.invariant.own c.names.names.items _ _ (search rules)
      c.names.invariant.names;
  own = own_next c.args.groups.now c.args.next.now c.names.e c.args.group c.requires.next
      c.names-test.true c.names.invariant.own;
}

pub returns : goal.returns
returns c = names_over c.args.groups.now c.names.names.items _ c.names.e c.args.group
    (omega (arith, c.requires.next.sized)) c.names.invariant.names
