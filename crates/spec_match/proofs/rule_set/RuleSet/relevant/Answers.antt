use Rattle.std.proofs.Common.{subst, sym}
use Rattle.spec_match.specs.Scratches.{IsScratchOf}
use Rattle.spec_match.specs.Workspaces.{room_in}
use Rattle.spec_match.specs.declared.workspace.Workspace.{Workspace}
use Rattle.spec_match.proofs.ScratchLemmas.{ready_in, scratch_of}
use Rattle.spec_match.proofs.rule_set.RuleSet.relevant.Goals as goal

pub relevant-requires-clause-ready : goal.relevant-requires-clause-ready
relevant-requires-clause-ready c =
    let own = subst (IsScratchOf c.args.self.now) (sym c.scratch.view_is) c.requires in
    let lent = subst (λ (w : Workspace). IsScratchOf c.args.self.now (room_in w))
    (sym c.deref_mut.ensures.value) own in
    rw c.as_slice.ensures.value (ready_in c.self.inside.rules.items c.args.self.now c.self.view_is
    c.deref_mut.result.now lent)

pub returns-clause-own : goal.returns-clause-own
returns-clause-own c =
    scratch_of c.self.inside.rules.items c.args.self.now c.self.view_is c.relevant.new.self
    (rw c.as_slice.ensures.value at c.relevant.ensures.ready)

pub relevant-requires-clause-starts : goal.relevant-requires-clause-starts
relevant-requires-clause-starts c = rw c.as_slice.ensures.value c.self.invariant.starts
