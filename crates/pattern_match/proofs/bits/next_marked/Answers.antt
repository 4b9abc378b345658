use Rattle.std.proofs.Common.{◌≡◌, ◌<◌, ◌+◌, ◌*◌, ◌^◌, inl, inr, true, subst}
use Rattle.std.proofs.Common.{get_or, arith}
use Rattle.std.proofs.lemmas.Bool.{cases_lt}
use Rattle.std.proofs.lemmas.Nat.{shr_le}
use Rattle.pattern_match.specs.States.{bit}
use Rattle.pattern_match.proofs.NextMarks.{first_in, none_in}
use Rattle.pattern_match.proofs.bits.next_marked.Goals as goal

pub overflow_add-i-then-left-ne0 : goal.overflow_add-i-then-left-ne0
overflow_add-i-then-left-ne0 c =
    let w = get_or c.args.words.now c.words.i 0 in
    let l : w < 2 ^ 64 = omega (arith, c.type_inv.words c.words.i) in
    let h = shr_le w c.words.skipped in
    let f = first_in c.args.words.now c.words.i c.words.skipped l (omega arith) (omega arith) in
    omega (arith, f.within)

pub returns-then-left-ne0-clause-none : goal.returns-then-left-ne0-clause-none
returns-then-left-ne0-clause-none c =
    let w = get_or c.args.words.now c.words.i 0 in
    let l : w < 2 ^ 64 = omega (arith, c.type_inv.words c.words.i) in
    let h = shr_le w c.words.skipped in
    let f = first_in c.args.words.now c.words.i c.words.skipped l (omega arith) (omega arith) in
    λ k a b. elim (cases_lt k (64 * c.words.i + c.words.skipped)) [
      | inl u ↦ c.words.invariant.none k a u
      | inr u ↦ f.none k u (omega arith)
    ]

pub returns-then-left-ne0-clause-marked : goal.returns-then-left-ne0-clause-marked
returns-then-left-ne0-clause-marked c =
    let w = get_or c.args.words.now c.words.i 0 in
    let l : w < 2 ^ 64 = omega (arith, c.type_inv.words c.words.i) in
    let h = shr_le w c.words.skipped in
    let f = first_in c.args.words.now c.words.i c.words.skipped l (omega arith) (omega arith) in
    λ b. subst (λ n. bit c.args.words.now n ≡ true) (omega arith) f.marked

pub words-preserved : goal.words-preserved
words-preserved c = record {
  few = omega arith;
  from = omega arith;
  none = λ k a b. elim (cases_lt k (64 * c.words.i + c.words.skipped)) [
    | inl u ↦ c.words.invariant.none k a u
    | inr u ↦ none_in c.args.words.now c.words.i c.words.skipped k (omega arith) u (omega arith)
  ];
}
