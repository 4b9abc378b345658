use Rattle.std.proofs.Common.{◌≡◌, ◌∙◌, ◌∷◌, ◌++◌, [], map, subst, sym}
use Rattle.file_paths.specs.Path.{path_text}
use Rattle.spec_match.specs.Carrying.{Carrying, IsCarriedOf, StandsAt}
use Rattle.spec_match.specs.Remembering.{IsAnswer}
use Rattle.spec_match.specs.Scratches.{IsScratchOf}
use Rattle.spec_match.specs.StatesFor.{spec_in}
use Rattle.spec_match.specs.Workspaces.{room_in}
use Rattle.spec_match.specs.declared.workspace.Workspace.{Workspace}
use Rattle.spec_match.proofs.ScratchLemmas.{carried_by, ready_in, scratch_of, stands_by}
use Rattle.spec_match.proofs.carried.Carried.last_match.Goals as goal
use Rattle.spec_match.proofs.carried.Carried.last_match.Goals.{in-Some, in-None}

pub look_up_child-requires-clause-ready : goal.look_up_child-requires-clause-ready
look_up_child-requires-clause-ready g c =
    let own = subst (IsScratchOf c.args.rules.now) (sym c.scratch.view_is) c.requires.scratch in
    let lent = subst (λ (w : Workspace). IsScratchOf c.args.rules.now (room_in w))
    (sym c.deref_mut.ensures.value) own in
    rw c.as_slice.ensures.value
    (ready_in c.rules.inside.rules.items c.args.rules.now c.rules.view_is c.deref_mut.result.now
    lent)

pub look_up_child-requires-clause-own : goal.look_up_child-requires-clause-own
look_up_child-requires-clause-own g c =
    let own = subst (IsCarriedOf c.args.rules.now) (sym c.self.view_is) c.requires.own in
    rw c.as_slice.ensures.value
    (carried_by c.rules.inside.rules.items c.args.rules.now c.rules.view_is
    (record { alive = c.self.inside.alive; is_root = c.self.inside.is_root }) own)

pub returns-clause-own : goal.returns-clause-own
returns-clause-own g c =
    scratch_of c.rules.inside.rules.items c.args.rules.now c.rules.view_is c.look_up_child.new.self
    (rw c.as_slice.ensures.value at c.look_up_child.ensures.ready)

pub returns-clause-answer : goal.returns-clause-answer
returns-clause-answer g c = λ path at.
    let rules = c.rules.inside.rules.items in
    let text = path_text (path ++ c.args.name.now ∷ []) in
    let here = stands_by rules c.args.rules.now c.rules.view_is
    (record { alive = c.self.inside.alive; is_root = c.self.inside.is_root }) path
    (subst (λ (w : Carrying). StandsAt c.args.rules.now w path) (sym c.self.view_is) at) in
    let answer = (rw c.as_slice.ensures.value at c.look_up_child.ensures.answer) path here in
    let same : c.match-look_up_child.result ≡ c.look_up_child.result =
    elim c.match-look_up_child.branch
    [ in-Some w ↦ w.result-is ∙ sym w.in-Some.is | in-None w ↦ w.result-is ∙ sym w.in-None.is ]
    in
    subst (λ ss. IsAnswer c.args.asked text ss c.match-look_up_child.result) c.rules.view_is
    (subst (λ r. IsAnswer c.args.asked text (map spec_in rules) r) (sym same) answer)
