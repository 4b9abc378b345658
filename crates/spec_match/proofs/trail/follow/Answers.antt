use Rattle.std.proofs.Common.{◌≡◌, ◌∙◌, ◌<◌, ◌*◌, ◌+◌, ◌-◌, arith, drop, get_or, length, nat_lt}
use Rattle.std.proofs.Common.{subst, sym, take}
use Rattle.spec_match.specs.Listed.{IsListed}
use Rattle.spec_match.proofs.TrailLemmas.{column_at, read_known, room_for}
use Rattle.spec_match.proofs.trail.follow.Goals as goal

pub text-preserved : goal.text-preserved
text-preserved c =
    let text = c.args.text.now in
    let next = c.args.next.now in
    let i = c.text.i in
    let from = c.text.list in
    let old = c.text.lists.items in
    let byte = get_or text i 0 in
    let known = get_or (take (length next - byte) (drop byte next)) (256 * from) 0 in
    let same = column_at next byte from in record {
      within = subst (λ n. n < c.args.count) (sym same) (c.requires.numbers (256 * from + byte));
      read = λ cuts ps specs all count steps begun.
          let there : from < length all =
          subst (λ n. from < n) (sym count) c.text.invariant.within in
          let rows : length next ≡ 256 * length all = subst (λ n. length next ≡ 256 * n) (sym count)
          c.requires.rows in
          let small : byte < 256 = (let b = c.type_inv.text i in omega (arith, b)) in
          read_known (IsListed cuts ps specs) all next text old c.note.new.lists.items i from known
          (nat_lt i (length old)) (room_for i (length old)) (omega arith) small there rows same
          (omega arith) c.note.ensures steps
          (c.text.invariant.read cuts ps specs all count steps begun);
    }

pub returns-then-known-eq0-clause-stop : goal.returns-then-known-eq0-clause-stop
returns-then-known-eq0-clause-stop c = λ _.
    sym (column_at c.args.next.now (get_or c.args.text.now c.text.i 0) c.text.list)
    ∙ c.if-known-eq0.true
