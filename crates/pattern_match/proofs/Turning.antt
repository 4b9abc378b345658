-- Going over the copies of a repeat, one after the other.
use Rattle.std.proofs.Common.{◌≡◌, refl, sym, ◌∙◌, ap, subst, ℕ, zero, suc, ◌+◌, ◌-◌, ◌*◌, ◌<◌, ◌≤◌}
use Rattle.std.proofs.Common.{Bool, true, false, arith}
use Rattle.std.specs.Prelude.{pred, ◌||◌, ◌&&◌, ◌==◌}
use Rattle.std.proofs.Math.Bool.{and_comm}
use Rattle.std.proofs.Math.Nat.{le-mul_of_pos_right}
use Rattle.std.proofs.lemmas.Bool.{or_from}
use Rattle.pattern_syntax.proofs.Sets.{or_assoc}
use Rattle.pattern_syntax.specs.Reading.{positions, factor}
use Rattle.pattern_syntax.specs.Tree.{Tree, Set, Nothing, Both, Either, Repeat}
use Rattle.pattern_match.specs.Passes.{copies_end, copies_move, ends_marked, has_no_most}
use Rattle.pattern_match.specs.Passes.{holds_nothing, moves_to}
use Rattle.pattern_match.specs.declared.entry.EnteredPlaces.{EnteredPlaces}
use Rattle.pattern_match.proofs.Idle.{AreUnmarked, copy_unmarked, ends_skipped, moves_skipped}
use Rattle.pattern_match.proofs.Idle.{idle_ends, idle_moves}

-- ---- a part without a place leads nowhere

pub or_none : (v w : Bool) → w ≡ false → v ≡ (v || w)
or_none true w e = refl
or_none false w e = sym e

pub copies_nowhere : (ends : ℕ → Bool) (moves : Bool → ℕ → Bool) (size : ℕ) (endless : Bool)
    (n : ℕ) (entered : Bool) (start : ℕ)
    → (0 < n → (enters : Bool) (from : ℕ) → moves enters from ≡ false)
    → copies_move ends moves size endless n entered start ≡ false
copies_nowhere ends moves size endless zero entered start h = refl
copies_nowhere ends moves size endless (suc n) entered start h =
    or_from (moves (entered || ((endless && (n == 0)) && ends start)) start)
    (copies_move ends moves size endless n (ends start) (start + size))
    (h (omega arith) _ start)
    (copies_nowhere ends moves size endless n (ends start) (start + size)
    (λ l. h (omega arith)))

pub leads_nowhere : (entry : EnteredPlaces) (marked : ℕ
    → Bool) (place : ℕ) (t : Tree) (entered : Bool)
    (start : ℕ) → positions t ≡ 0 → moves_to entry marked place t entered start ≡ false
leads_nowhere entry marked place (Set bytes) entered start e = absurd (omega arith)
leads_nowhere entry marked place Nothing entered start e = refl
leads_nowhere entry marked place (Both first second) entered start e =
    or_from (moves_to entry marked place first entered start)
    (moves_to entry marked place second
    ((entered && holds_nothing first) || ends_marked marked first start)
    (start + positions first))
    (leads_nowhere entry marked place first entered start (omega arith))
    (leads_nowhere entry marked place second _ (start + positions first) (omega arith))
leads_nowhere entry marked place (Either left right) entered start e =
    or_from (moves_to entry marked place left entered start)
    (moves_to entry marked place right entered (start + positions left))
    (leads_nowhere entry marked place left entered start (omega arith))
    (leads_nowhere entry marked place right entered (start + positions left) (omega arith))
leads_nowhere entry marked place (Repeat least most piece) entered start e =
    copies_nowhere (λ from. ends_marked marked piece from)
    (λ enters from. moves_to entry marked place piece enters from) (positions piece)
    (has_no_most most) (factor least most) entered start
    (λ l enters from. leads_nowhere entry marked place piece enters from
    (let h : positions piece ≤ positions piece * factor least most =
    le-mul_of_pos_right {m = factor least most} (positions piece) l in omega arith))

-- ---- the next copy: this one where it is entered, or else one before which no place is marked

pub record IsNextCopy (marked : ℕ → Bool) (start size times copy next : ℕ) (entered : Bool)
    : Type 0 where
  pub least : copy ≤ next
  pub most : next ≤ times
  pub here : entered ≡ true → next ≡ copy
  pub none : entered ≡ false → AreUnmarked marked (start + size * copy) (start + size * next)

module _ (marked : ℕ → Bool) (piece : Tree) (start size times : ℕ) where
  -- the copies that are skipped
  skipped : (copy d next j : ℕ) → next ≡ copy + d → j < d
      → AreUnmarked marked (start + size * copy) (start + size * next)
      → AreUnmarked marked (start + size * copy + size * j) (start + size * copy + size * j + size)
  skipped copy d next j e l u =
      let f : start + size * (copy + d) ≡ start + size * copy + size * d = omega arith in
      copy_unmarked marked (start + size * copy) size d j
      (subst (λ n. AreUnmarked marked (start + size * copy) n)
      (ap (λ n. start + size * n) e ∙ f) u) l

  still_ended : (copy d next j : ℕ) → size ≡ positions piece → next ≡ copy + d → j < d
      → AreUnmarked marked (start + size * copy) (start + size * next)
      → ends_marked marked piece (start + size * copy + size * j) ≡ false
  still_ended copy d next j p e l u =
      idle_ends marked piece (start + size * copy + size * j)
      (subst (λ n. AreUnmarked marked (start + size * copy + size * j)
      (start + size * copy + size * j + n)) p (skipped copy d next j e l u))

  pub moved_on : (entry : EnteredPlaces) (place copy next n s : ℕ) (endless entered : Bool)
      → size ≡ positions piece → n ≡ times - copy → s ≡ start + size * copy
      → IsNextCopy marked start size times copy next entered
      → copies_move (λ from. ends_marked marked piece from)
      (λ enters from. moves_to entry marked place piece enters from) size endless n entered s
      ≡ copies_move (λ from. ends_marked marked piece from)
      (λ enters from. moves_to entry marked place piece enters from) size endless
      (times - next) entered (start + size * next)
  moved_on entry place copy next n s endless true p e f h =
      let x : next ≡ copy = h.here refl in
      rw (e, f, x) refl
  moved_on entry place copy next n s endless false p e f h =
      let d : next ≡ copy + (next - copy) = (let l = h.least in omega arith) in
      let u = h.none refl in
      let g : start + size * (copy + (next - copy))
      ≡ start + size * copy + size * (next - copy) = omega arith in
      rw f (moves_skipped (λ from. ends_marked marked piece from)
      (λ enters from. moves_to entry marked place piece enters from) size endless
      (next - copy) (times - next) n (start + size * copy) (start + size * next)
      (let l = h.least in let m = h.most in omega arith)
      (ap (λ k. start + size * k) d ∙ g)
      (λ j l. still_ended copy (next - copy) next j p d l u)
      (λ j l. idle_moves entry marked place piece (start + size * copy + size * j)
      (subst (λ k. AreUnmarked marked (start + size * copy + size * j)
      (start + size * copy + size * j + k)) p (skipped copy (next - copy) next j d l u))))

  pub ended_on : (nothing : Bool) (needed copy next least n s : ℕ) (entered : Bool)
      → size ≡ positions piece → least ≡ needed - copy → n ≡ times - copy
      → s ≡ start + size * copy
      → IsNextCopy marked start size times copy next entered
      → copies_end (λ from. ends_marked marked piece from) size nothing least n s
      ≡ copies_end (λ from. ends_marked marked piece from) size nothing (needed - next)
      (times - next) (start + size * next)
  ended_on nothing needed copy next least n s true p q e f h =
      let x : next ≡ copy = h.here refl in
      rw (q, e, f, x) refl
  ended_on nothing needed copy next least n s false p q e f h =
      let d : next ≡ copy + (next - copy) = (let l = h.least in omega arith) in
      let u = h.none refl in
      let g : start + size * (copy + (next - copy))
      ≡ start + size * copy + size * (next - copy) = omega arith in
      let r : least - (next - copy) ≡ needed - next = (let l = h.least in omega arith) in
      rw f (ends_skipped (λ from. ends_marked marked piece from) size nothing
      (next - copy) (times - next) n least (start + size * copy) (start + size * next)
      (let l = h.least in let m = h.most in omega arith)
      (ap (λ k. start + size * k) d ∙ g)
      (λ j l. still_ended copy (next - copy) next j p d l u)
      ∙ ap (λ k. copies_end (λ from. ends_marked marked piece from) size nothing k
      (times - next) (start + size * next)) r)

-- ---- one copy more

next_start : (start size copy : ℕ) → start + size * copy + size ≡ start + size * (copy + 1)
next_start start size copy = omega arith

is_last_here : (copy times : ℕ) → copy < times → (times - (copy + 1) == 0) ≡ (copy + 1 == times)
is_last_here copy times l = grind arith

module _ (marked : ℕ → Bool) (piece : Tree) (start size times : ℕ) where
  pub moves_turned : (entry : EnteredPlaces) (place copy next : ℕ)
      (endless entered ended last old new : Bool)
      → size ≡ positions piece → copy < times
      → ended ≡ ends_marked marked piece (start + size * copy)
      → last ≡ (endless && (copy + 1 == times))
      → new ≡ (old || moves_to entry marked place piece
      (entered || (last && ends_marked marked piece (start + size * copy)))
      (start + size * copy))
      → IsNextCopy marked start size times (copy + 1) next ended
      → (new || copies_move (λ from. ends_marked marked piece from)
      (λ enters from. moves_to entry marked place piece enters from) size endless
      (times - next) ended (start + size * next))
      ≡ (old || copies_move (λ from. ends_marked marked piece from)
      (λ enters from. moves_to entry marked place piece enters from) size endless
      (times - copy) entered (start + size * copy))
  moves_turned entry place copy next endless entered ended last old new p l e f g h =
      let E : ℕ → Bool = λ from. ends_marked marked piece from in
      let M : Bool → ℕ → Bool = λ enters from. moves_to entry marked place piece enters from in
      let s = start + size * copy in
      let m = times - (copy + 1) in
      let on : copies_move E M size endless m (E s) (s + size)
      ≡ copies_move E M size endless (times - next) ended (start + size * next) =
      ap (λ v. copies_move E M size endless m v (s + size)) (sym e)
      ∙ moved_on marked piece start size times entry place (copy + 1) next m (s + size) endless
      ended p refl (next_start start size copy) h in
      let here : (last && E s) ≡ ((endless && (m == 0)) && E s) =
      ap (λ v. v && E s) (f ∙ ap (λ v. endless && v) (sym (is_last_here copy times l))) in
      let n : times - copy ≡ suc m = omega arith in
      ap (λ v. new || v) (sym on)
      ∙ ap (λ v. v || copies_move E M size endless m (E s) (s + size))
      (g ∙ ap (λ v. old || M (entered || v) s) here)
      ∙ or_assoc old (M (entered || ((endless && (m == 0)) && E s)) s)
      (copies_move E M size endless m (E s) (s + size))
      ∙ ap (λ k. old || copies_move E M size endless k entered s) (sym n)

  pub ends_turned : (nothing : Bool) (needed copy next : ℕ) (ended whole old : Bool)
      → size ≡ positions piece → copy < times
      → ended ≡ ends_marked marked piece (start + size * copy)
      → whole ≡ (ended && ((needed - (copy + 1) == 0) || nothing))
      → IsNextCopy marked start size times (copy + 1) next ended
      → ((old || whole) || copies_end (λ from. ends_marked marked piece from) size nothing
      (needed - next) (times - next) (start + size * next))
      ≡ (old || copies_end (λ from. ends_marked marked piece from) size nothing
      (needed - copy) (times - copy) (start + size * copy))
  ends_turned nothing needed copy next ended whole old p l e f h =
      let E : ℕ → Bool = λ from. ends_marked marked piece from in
      let s = start + size * copy in
      let m = times - (copy + 1) in
      let r : pred (needed - copy) ≡ needed - (copy + 1) = omega arith in
      let on : copies_end E size nothing (needed - (copy + 1)) m (s + size)
      ≡ copies_end E size nothing (needed - next) (times - next) (start + size * next) =
      ended_on marked piece start size times nothing needed (copy + 1) next
      (needed - (copy + 1)) m (s + size) ended p refl refl (next_start start size copy) h in
      let here : whole ≡ (((needed - (copy + 1) == 0) || nothing) && E s) =
      f ∙ ap (λ v. v && ((needed - (copy + 1) == 0) || nothing)) e
      ∙ and_comm (E s) ((needed - (copy + 1) == 0) || nothing) in
      let n : times - copy ≡ suc m = omega arith in
      ap (λ v. (old || whole) || v) (sym on)
      ∙ or_assoc old whole (copies_end E size nothing (needed - (copy + 1)) m (s + size))
      ∙ ap (λ v. old || (v || copies_end E size nothing (needed - (copy + 1)) m (s + size))) here
      ∙ ap (λ k. old || ((((k == 0) || nothing) && E s)
      || copies_end E size nothing k m (s + size))) (sym r)
      ∙ ap (λ k. old || copies_end E size nothing (needed - copy) k s) (sym n)
