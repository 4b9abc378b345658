use Rattle.std.proofs.Common.{arith, subst, ◌<◌, ◌*◌}
use Rattle.pattern_match.proofs.Ready.{ready_by, restart_made, restart_starts, words_are}
use Rattle.pattern_match.proofs.machine.Machine.marks.Goals as goal

pub returns-clause-made : goal.returns-clause-made
returns-clause-made c =
    let r = ready_by c.self.inside c.args.self.now c.self.view_is c.self.invariant in
    restart_made c.args.self.now c.self.inside.tables.now r c.restart.new.self.marks
    c.restart.ensures.words
    (λ k l. c.restart.ensures.bits k (subst (λ n. k < 64 * n) c.restart.ensures.words l))

pub returns-clause-starts : goal.returns-clause-starts
returns-clause-starts c =
    let r = ready_by c.self.inside c.args.self.now c.self.view_is c.self.invariant in
    restart_starts c.args.self.now c.self.inside.tables.now r c.restart.new.self.marks
    c.restart.ensures.words
    (λ k l. c.restart.ensures.bits k (subst (λ n. k < 64 * n) c.restart.ensures.words l))

pub returns-clause-room : goal.returns-clause-room
returns-clause-room c =
    let r = ready_by c.self.inside c.args.self.now c.self.view_is c.self.invariant in
    let e = words_are c.args.self.now c.self.inside.tables.now r in
    omega arith
