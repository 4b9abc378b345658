use Rattle.std.proofs.Common.{◌≡◌, ◌<◌, ◌+◌, ◌∙◌, ℕ, List, ap, length, arith}
use Rattle.std.proofs.lemmas.List.{get_or_default}
use Rattle.pattern_match.specs.Class.{takes_at}
use Rattle.pattern_match.proofs.Rooms.{held_is, written}
use Rattle.pattern_match.proofs.WordBits.{step_bits}
use Rattle.pattern_match.proofs.LowestBits.{step_word, marked_row}
use Rattle.pattern_match.proofs.marks.Marks.step.Goals as goal

pub gathered-requires : goal.gathered-requires
gathered-requires c = λ j l b. marked_row c.args.self.now.marks c.self.inside.marks.items
    c.index.result.now (length c.args.follow.now) j (held_is c.self.view_is)
    (c.index.ensures ∙ get_or_default c.self.inside.marks.items 0 c.index.result.now 0
    (omega arith)) (omega arith) c.requires.rows l b

pub returns-then-len-eq1-clause-bits : goal.returns-then-len-eq1-clause-bits
returns-then-len-eq1-clause-bits c = λ k l.
    let v : length c.self.inside.marks.items ≡ length c.args.self.now.marks =
    ap (λ (m : List ℕ). length m) (held_is c.self.view_is) in
    let u : k < 64 = omega arith in
    step_word c.args.self.now.marks c.self.inside.marks.items c.args.follow.now
    (λ i. takes_at c.args.classes.now i c.args.byte) c.index.result.now c.gathered.result
    c.taking.result k (held_is c.self.view_is)
    (c.index.ensures ∙ get_or_default c.self.inside.marks.items 0 c.index.result.now 0
    (omega arith)) (omega arith) l c.gathered.ensures (let z : 0 + k ≡ k = omega arith in
    rw z at (c.taking.ensures k u))

pub returns-clause-bits : goal.returns-clause-bits
returns-clause-bits c = λ k l.
    let v : length c.self.inside.marks.items ≡ length c.args.self.now.marks =
    ap (λ (m : List ℕ). length m) (held_is c.self.view_is) in
    let n : length c.self.inside.reached.items ≡ length c.self.inside.marks.items =
    c.self.invariant.even in
    let d : length c.deref_mut.result.now ≡ length c.self.inside.reached.items =
    ap (λ (m : List ℕ). length m) c.deref_mut.ensures.value in
    let e : length c.deref_mut-2.result.now ≡ length c.self.inside.marks.items =
    ap (λ (m : List ℕ). length m) c.deref_mut-2.ensures.value in
    let reached = written c.gather.new.to c.self.inside.reached.items c.self.inside.reached.len
    (c.gather.ensures.words ∙ d) (omega arith) in
    let marks = written c.keep_taking.new.to c.self.inside.marks.items c.self.inside.marks.len
    (c.keep_taking.ensures.words ∙ e) (omega arith) in
    rw marks (step_bits c.args.self.now.marks c.gather.new.to c.keep_taking.new.to
    c.as_slice.result.now c.as_slice-2.result.now c.args.follow.now
    (λ i. takes_at c.args.classes.now i c.args.byte) (length c.deref_mut.result.now) k (d ∙ n ∙ v)
    (c.as_slice.ensures.value ∙ held_is c.self.view_is)
    (c.as_slice-2.ensures.value ∙ reached) (c.gather.ensures.bits k (omega arith))
    (c.keep_taking.ensures.bits k (omega arith)))
