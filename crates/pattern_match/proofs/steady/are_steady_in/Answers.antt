use Rattle.std.proofs.Common.{◌≡◌, ◌≢◌, ◌+◌, ◌*◌, ◌-◌, ◌⊎◌, ◌∙◌, sym, ℕ, inl, inr, refl, length}
use Rattle.std.proofs.Common.{subst, arith, w64}
use Rattle.std.specs.Prelude.{bit_and}
use Rattle.std.specs.Int.{bit_at, trailing_zeros}
use Rattle.std.proofs.lemmas.Nat.Bits.{bit_at-trailing_zeros, bit_at-zero}
use Rattle.std.proofs.lemmas.Bool.{cases_eq}
use Rattle.pattern_match.specs.Loops.{IsSteady}
use Rattle.pattern_match.proofs.WordBits.{bit_of_word, word_of_bit}
use Rattle.pattern_match.proofs.LowestBits.{still_marked, others_stay}
use Rattle.pattern_match.proofs.Sweeps.{lowest_row}
use Rattle.pattern_match.proofs.steady.are_steady_in.Goals as goal

pub states-init : goal.states-init
states-init c = record {
  marked = λ j l b. bit_of_word c.args.marks.now c.args.i j l b;
  steady = λ j l h. inl (word_of_bit c.args.marks.now c.args.i j l h);
}

pub overflow_mul-state : goal.overflow_mul-state
overflow_mul-state c =
    let r = lowest_row c.states.left c.args.i (length c.args.marks.now) (length c.args.follow.now)
    (omega arith) (omega arith) (omega arith)
    (λ j l b. c.requires.rows _ (c.states.invariant.marked j l b)) in
    omega arith

pub overflow_add-state : goal.overflow_add-state
overflow_add-state c =
    let r = lowest_row c.states.left c.args.i (length c.args.marks.now) (length c.args.follow.now)
    (omega arith) (omega arith) (omega arith)
    (λ j l b. c.requires.rows _ (c.states.invariant.marked j l b)) in
    omega arith

pub is_steady-requires : goal.is_steady-requires
is_steady-requires c =
    let r = lowest_row c.states.left c.args.i (length c.args.marks.now) (length c.args.follow.now)
    (omega arith) (omega arith) (omega arith)
    (λ j l b. c.requires.rows _ (c.states.invariant.marked j l b)) in
    r.row

pub returns-then-not-is_steady : goal.returns-then-not-is_steady
returns-then-not-is_steady c =
    let t = bit_at-trailing_zeros w64 c.states.left (omega arith) (omega arith) in
    let m = c.states.invariant.marked (trailing_zeros w64 c.states.left) t.0 t.1 in (
      λ e. cc,
      λ h. sym c.if-not-is_steady.true
          ∙ c.is_steady.ensures.1 (h (trailing_zeros w64 c.states.left) t.0 m),
    )

pub states-preserved : goal.states-preserved
states-preserved c = record {
  marked = λ j l b. c.states.invariant.marked j l
      (still_marked c.states.left j (omega arith) (omega arith) b);
  steady = λ j l h. at j (c.states.invariant.steady j l h)
      (cases_eq j (trailing_zeros w64 c.states.left));
}
  where
    at : (j : ℕ) → (bit_at c.states.left j ≡ 1) ⊎ IsSteady c.args.marks.now c.args.follow.now
        c.args.classes.now (64 * c.args.i + j) → (j ≡ trailing_zeros w64 c.states.left) ⊎
        (j ≢ trailing_zeros w64 c.states.left)
        → (bit_at (bit_and c.states.left (c.states.left - 1)) j ≡ 1) ⊎ IsSteady c.args.marks.now
        c.args.follow.now c.args.classes.now (64 * c.args.i + j)
    at j (inr s) d = inr s
    at j (inl b) (inl e) =
        inr (subst (λ k. IsSteady c.args.marks.now c.args.follow.now c.args.classes.now
        (64 * c.args.i + k)) (sym e) (c.is_steady.ensures.0 c.if-not-is_steady.false))
    at j (inl b) (inr d) = inl (others_stay c.states.left j (omega arith) (omega arith) d ∙ b)

pub returns : goal.returns
returns c = (λ _ j l h. at j (c.states.invariant.steady j l h), λ _. refl)
  where
    at : (j : ℕ) → (bit_at c.states.left j ≡ 1) ⊎ IsSteady c.args.marks.now c.args.follow.now
        c.args.classes.now (64 * c.args.i + j) → IsSteady c.args.marks.now c.args.follow.now
        c.args.classes.now (64 * c.args.i + j)
    at j (inr s) = s
    at j (inl b) = let z : c.states.left ≡ 0 = omega arith in let o : bit_at 0 j ≡ 1 = rw z at b in
        absurd (let q = bit_at-zero j in omega arith)
