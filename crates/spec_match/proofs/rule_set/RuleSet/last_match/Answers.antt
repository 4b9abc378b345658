use Rattle.std.proofs.Common.{subst, sym}
use Rattle.spec_match.specs.Scratches.{IsScratchOf}
use Rattle.spec_match.specs.Workspaces.{room_in}
use Rattle.spec_match.specs.declared.workspace.Workspace.{Workspace}
use Rattle.spec_match.proofs.ScratchLemmas.{ready_in, scratch_of}
use Rattle.spec_match.proofs.rule_set.RuleSet.last_match.Goals as goal

pub look_up-requires-clause-ready : goal.look_up-requires-clause-ready
look_up-requires-clause-ready g c =
    let own = subst (IsScratchOf c.args.self.now) (sym c.scratch.view_is) c.requires in
    let lent = subst (λ (w : Workspace). IsScratchOf c.args.self.now (room_in w))
    (sym c.deref_mut.ensures.value) own in
    rw c.as_slice.ensures.value (ready_in c.self.inside.rules.items c.args.self.now c.self.view_is
    c.deref_mut.result.now lent)

pub returns-clause-own : goal.returns-clause-own
returns-clause-own g c =
    scratch_of c.self.inside.rules.items c.args.self.now c.self.view_is c.look_up.new.self
    (rw c.as_slice.ensures.value at c.look_up.ensures.ready)

pub look_up-requires-clause-starts : goal.look_up-requires-clause-starts
look_up-requires-clause-starts g c = rw c.as_slice.ensures.value c.self.invariant.starts
