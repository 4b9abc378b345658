-- A part that isn't entered and has no marked place: it leads nowhere, and nothing ends it.
use Rattle.std.proofs.Common.{◌≡◌, refl, sym, ◌∙◌, ap, ℕ, zero, suc, ◌+◌, ◌*◌, ◌<◌, ◌≤◌, Bool}
use Rattle.std.proofs.Common.{false, arith}
use Rattle.std.specs.Prelude.{pred, ◌-◌, ◌||◌, ◌&&◌, ◌==◌}
use Rattle.std.proofs.Math.Nat.{mul-le-mul_left}
use Rattle.std.proofs.lemmas.Bool.{or_from, and_right}
use Rattle.pattern_syntax.specs.Reading.{positions, factor}
use Rattle.pattern_syntax.specs.Tree.{Tree, Set, Nothing, Both, Either, Repeat}
use Rattle.pattern_match.specs.Passes.{copies_end, copies_move, ends_marked, has_no_most}
use Rattle.pattern_match.specs.Passes.{holds_nothing, moves_to, copies_needed}
use Rattle.pattern_match.specs.declared.entry.EnteredPlaces.{EnteredPlaces}

-- no place is marked from one on, before another
pub record AreUnmarked (marked : ℕ → Bool) (from to : ℕ) : Type 0 where
  pub none : (k : ℕ) → from ≤ k → k < to → marked k ≡ false

pub unmarked_within : (marked : ℕ → Bool) (from to a b : ℕ) → AreUnmarked marked from to
    → from ≤ a → b ≤ to → AreUnmarked marked a b
unmarked_within marked from to a b u l m =
    record { none = λ k h i. u.none k (omega arith) (omega arith) }

-- ---- copies none of which is ended

module _ (ends : ℕ → Bool) (size : ℕ) (nothing : Bool) where
  pub ends_skipped : (d n m least start next : ℕ) → m ≡ d + n → next ≡ start + size * d
      → ((j : ℕ) → j < d → ends (start + size * j) ≡ false)
      → copies_end ends size nothing least m start
      ≡ copies_end ends size nothing (least - d) n next
  ends_skipped zero n m least start next e f idle =
      let p : m ≡ n = omega arith in
      let q : next ≡ start = omega arith in
      let r : least - 0 ≡ least = omega arith in
      rw (p, q, r) refl
  ends_skipped (suc d) n m least start next e f idle =
      let p : m ≡ suc (d + n) = omega arith in
      let q : start + size * 0 ≡ start = omega arith in
      let z : ends start ≡ false = ap ends (sym q) ∙ idle 0 (omega arith) in
      let r : pred least - d ≡ least - suc d = omega arith in
      let i : copies_end ends size nothing (pred least) (d + n) (start + size)
      ≡ copies_end ends size nothing (pred least - d) n next =
      ends_skipped d n (d + n) (pred least) (start + size) next refl (omega arith)
      (λ j l. ap ends (let s : start + size + size * j ≡ start + size * suc j = omega arith in s)
      ∙ idle (suc j) (omega arith)) in
      ap (λ k. copies_end ends size nothing least k start) p
      ∙ ap (λ v. v || copies_end ends size nothing (pred least) (d + n) (start + size))
      (and_right ((pred least == 0) || nothing) (ends start) z)
      ∙ i ∙ ap (λ k. copies_end ends size nothing k n next) r

  pub none_ended : (n least start : ℕ)
      → ((j : ℕ) → j < n → ends (start + size * j) ≡ false)
      → copies_end ends size nothing least n start ≡ false
  none_ended n least start idle =
      ends_skipped n 0 n least start (start + size * n) (omega arith) refl idle

-- ---- and none of which leads to a place

module _ (ends : ℕ → Bool) (moves : Bool → ℕ → Bool) (size : ℕ) (endless : Bool) where
  pub moves_skipped : (d n m start next : ℕ) → m ≡ d + n → next ≡ start + size * d
      → ((j : ℕ) → j < d → ends (start + size * j) ≡ false)
      → ((j : ℕ) → j < d → moves false (start + size * j) ≡ false)
      → copies_move ends moves size endless m false start
      ≡ copies_move ends moves size endless n false next
  moves_skipped zero n m start next e f idle still =
      let p : m ≡ n = omega arith in
      let q : next ≡ start = omega arith in
      rw (p, q) refl
  moves_skipped (suc d) n m start next e f idle still =
      let p : m ≡ suc (d + n) = omega arith in
      let q : start + size * 0 ≡ start = omega arith in
      let z : ends start ≡ false = ap ends (sym q) ∙ idle 0 (omega arith) in
      let w : moves false start ≡ false = ap (moves false) (sym q) ∙ still 0 (omega arith) in
      let i : copies_move ends moves size endless (d + n) false (start + size)
      ≡ copies_move ends moves size endless n false next =
      moves_skipped d n (d + n) (start + size) next refl (omega arith)
      (λ j l. ap ends (let s : start + size + size * j ≡ start + size * suc j = omega arith in s)
      ∙ idle (suc j) (omega arith))
      (λ j l. ap (moves false)
      (let s : start + size + size * j ≡ start + size * suc j = omega arith in s)
      ∙ still (suc j) (omega arith)) in
      ap (λ k. copies_move ends moves size endless k false start) p
      ∙ ap (λ v. moves v start
      || copies_move ends moves size endless (d + n) (ends start) (start + size))
      (and_right (endless && (d + n == 0)) (ends start) z)
      ∙ ap (λ v. v || copies_move ends moves size endless (d + n) (ends start) (start + size)) w
      ∙ ap (λ v. copies_move ends moves size endless (d + n) v (start + size)) z
      ∙ i

  pub none_moved : (n start : ℕ)
      → ((j : ℕ) → j < n → ends (start + size * j) ≡ false)
      → ((j : ℕ) → j < n → moves false (start + size * j) ≡ false)
      → copies_move ends moves size endless n false start ≡ false
  none_moved n start idle still =
      moves_skipped n 0 n start (start + size * n) (omega arith) refl idle still

-- ---- parts

-- a copy of so many
pub copy_unmarked : (marked : ℕ → Bool) (start size n j : ℕ)
    → AreUnmarked marked start (start + size * n) → j < n
    → AreUnmarked marked (start + size * j) (start + size * j + size)
copy_unmarked marked start size n j u l =
    let h : size * suc j ≤ size * n = mul-le-mul_left size l in
    unmarked_within marked start (start + size * n) (start + size * j) (start + size * j + size) u
    (omega arith) (omega arith)

pub idle_ends : (marked : ℕ → Bool) (t : Tree) (start : ℕ)
    → AreUnmarked marked start (start + positions t) → ends_marked marked t start ≡ false
idle_ends marked (Set bytes) start u = u.none start (omega arith) (omega arith)
idle_ends marked Nothing start u = refl
idle_ends marked (Both first second) start u =
    or_from (ends_marked marked second (start + positions first))
    (holds_nothing second && ends_marked marked first start)
    (idle_ends marked second (start + positions first)
    (unmarked_within marked _ _ _ _ u (omega arith) (omega arith)))
    (and_right (holds_nothing second) (ends_marked marked first start)
    (idle_ends marked first start
    (unmarked_within marked _ _ _ _ u (omega arith) (omega arith))))
idle_ends marked (Either left right) start u =
    or_from (ends_marked marked left start) (ends_marked marked right (start + positions left))
    (idle_ends marked left start
    (unmarked_within marked _ _ _ _ u (omega arith) (omega arith)))
    (idle_ends marked right (start + positions left)
    (unmarked_within marked _ _ _ _ u (omega arith) (omega arith)))
idle_ends marked (Repeat least most piece) start u =
    none_ended (λ from. ends_marked marked piece from) (positions piece) (holds_nothing piece)
    (factor least most) (copies_needed least most) start
    (λ j l. idle_ends marked piece (start + positions piece * j)
    (copy_unmarked marked start (positions piece) (factor least most) j u l))

pub idle_moves : (entry : EnteredPlaces) (marked : ℕ → Bool) (place : ℕ) (t : Tree) (start : ℕ)
    → AreUnmarked marked start (start + positions t)
    → moves_to entry marked place t false start ≡ false
idle_moves entry marked place (Set bytes) start u = refl
idle_moves entry marked place Nothing start u = refl
idle_moves entry marked place (Both first second) start u =
    let a : AreUnmarked marked start (start + positions first) =
    unmarked_within marked _ _ _ _ u (omega arith) (omega arith) in
    or_from (moves_to entry marked place first false start)
    (moves_to entry marked place second (ends_marked marked first start)
    (start + positions first))
    (idle_moves entry marked place first start a)
    (ap (λ v. moves_to entry marked place second v (start + positions first))
    (idle_ends marked first start a)
    ∙ idle_moves entry marked place second (start + positions first)
    (unmarked_within marked _ _ _ _ u (omega arith) (omega arith)))
idle_moves entry marked place (Either left right) start u =
    or_from (moves_to entry marked place left false start)
    (moves_to entry marked place right false (start + positions left))
    (idle_moves entry marked place left start
    (unmarked_within marked _ _ _ _ u (omega arith) (omega arith)))
    (idle_moves entry marked place right (start + positions left)
    (unmarked_within marked _ _ _ _ u (omega arith) (omega arith)))
idle_moves entry marked place (Repeat least most piece) start u =
    none_moved (λ from. ends_marked marked piece from)
    (λ enters from. moves_to entry marked place piece enters from) (positions piece)
    (has_no_most most) (factor least most) start
    (λ j l. idle_ends marked piece (start + positions piece * j)
    (copy_unmarked marked start (positions piece) (factor least most) j u l))
    (λ j l. idle_moves entry marked place piece (start + positions piece * j)
    (copy_unmarked marked start (positions piece) (factor least most) j u l))
