-- The automaton of a plain pattern has a place for each position.
use Rattle.std.proofs.Common.{◌≡◌, refl, sym, ◌∙◌, ap, ℕ, zero, suc, ◌*◌, ◌<◌, ◌≤◌, ◌==◌, Bool}
use Rattle.std.proofs.Common.{true, false, List, [], ◌∷◌, length, arith, length-append}
use Rattle.std.proofs.Math.Nat.{mul_comm}
use Rattle.std.proofs.lemmas.Bool.{or_right}
use Rattle.std.proofs.lemmas.List.{length-map}
use Rattle.std.specs.Cmp.{first_so, second_so}
use Rattle.std.specs.Prelude.{◌||◌, max, map, nat_le, nat_lt, Option, Some, None}
use Rattle.pattern_syntax.specs.Reading.{positions, factor}
use Rattle.pattern_syntax.specs.Tree.{Tree, Set, Nothing, Both, Either, Repeat}
use Rattle.pattern_match.specs.Automaton.{Place, Automaton, bare, moved, copies, endless}
use Rattle.pattern_match.specs.Automaton.{repeat_places, repeated_automaton, automaton, all_places}
use Rattle.pattern_match.specs.Passes.{is_plain, holds_nothing}
use Rattle.pattern_match.specs.Residuals.{is_some_list, is_count}
use Rattle.pattern_match.specs.States.{is_bare}
use Rattle.pattern_match.proofs.Laying.{some_of}
use Rattle.pattern_match.proofs.Repeats.{many_copies, many_looped, many_endless}
use Rattle.pattern_match.proofs.Segments.{many_turned}

-- an automaton with a place for each position of a pattern
abbrev pub IsPlain : Automaton → Tree → Type 0
IsPlain a t = (length a.places ≡ positions t) × (a.is_live ≡ true)
    × (a.holds_empty ≡ holds_nothing t)

-- a repeat that is plain may be gone through, and its piece is plain
pub record IsPlainRepeat (least : ℕ) (most : Option ℕ) (piece : Tree) : Type 0 where
  pub count : is_count least most ≡ true
  pub some : 0 < factor least most
  pub piece_plain : is_plain piece ≡ true

pub plain_repeat : (least : ℕ) (most : Option ℕ) (piece : Tree)
    → is_plain (Repeat least most piece) ≡ true → IsPlainRepeat least most piece
plain_repeat least None piece h = record {
  count = refl;
  some = omega arith;
  piece_plain = h;
}
plain_repeat least (Some most) piece h = record {
  count = first_so (nat_le least most) _ h;
  some = let e = first_so (nat_lt 0 most) _ (second_so (nat_le least most) _ h) in grind arith;
  piece_plain = second_so (nat_lt 0 most) _ (second_so (nat_le least most) _ h);
}

pub no_product : (m n : ℕ) → 0 < n → m * n ≡ 0 → m ≡ 0
no_product m n l e = grind arith

-- without a position the empty text is held
plain_holds : (t : Tree) → is_plain t ≡ true → positions t ≡ 0 → holds_nothing t ≡ true
plain_holds (Set bytes) h e = absurd (omega arith)
plain_holds Nothing h e = refl
plain_holds (Both x y) h e =
    let a = plain_holds x (first_so (is_plain x) _ h) (omega arith) in
    let b = plain_holds y (second_so (is_plain x) _ h) (omega arith) in rw (a, b) refl
plain_holds (Either x y) h e =
    let a = plain_holds x (first_so (is_plain x) _ h) (omega arith) in rw a refl
plain_holds (Repeat least most piece) h e =
    let r = plain_repeat least most piece h in
    or_right (least == 0) (holds_nothing piece)
    (plain_holds piece r.piece_plain (no_product (positions piece) (factor least most) r.some e))

pub copies_hold : (least most : ℕ) (a : Automaton) → least ≤ most
    → (copies least most a).holds_empty ≡ ((least == 0) || a.holds_empty)
copies_hold least zero a l = let z : least ≡ 0 = omega arith in rw z refl
copies_hold least (suc most) a l = refl

copies_live : (least most : ℕ) (a : Automaton) → (copies least most a).is_live ≡ true
copies_live least zero a = refl
copies_live least (suc most) a = refl

pub endless_hold : (least : ℕ) (a : Automaton)
    → (endless least a).holds_empty ≡ ((least == 0) || a.holds_empty)
endless_hold zero a = refl
endless_hold (suc zero) a = refl
endless_hold (suc (suc least)) a = let z : (suc (suc least) == 0) ≡ false = grind arith in rw z refl

endless_live : (least : ℕ) (a : Automaton) → (endless least a).is_live ≡ true
endless_live zero a = refl
endless_live (suc zero) a = refl
endless_live (suc (suc least)) a = refl

endless_count : (least : ℕ) (a : Automaton)
    → length (endless least a).places ≡ max least 1 * length a.places
endless_count zero a = many_looped true a
endless_count (suc least) a =
    let e : max (suc least) 1 ≡ suc least = omega arith in
    rw e (many_endless (suc least) a (omega arith))

repeat_plain : (least : ℕ) (most : Option ℕ) (a : Automaton) (piece : Tree)
    → IsPlainRepeat least most piece → IsPlain a piece
    → IsPlain (repeat_places least most a) (Repeat least most piece)
repeat_plain least None a piece r p = (
  endless_count least a ∙ ap (λ n. max least 1 * n) p.0 ∙ mul_comm (max least 1) (positions piece),
  endless_live least a,
  endless_hold least a ∙ ap (λ v. (least == 0) || v) p.2,
)
repeat_plain least (Some most) a piece r p = (
  many_copies least most a ∙ ap (λ n. most * n) p.0 ∙ mul_comm most (positions piece),
  copies_live least most a,
  copies_hold least most a (let c : nat_le least most ≡ true = r.count in grind arith)
      ∙ ap (λ v. (least == 0) || v) p.2,
)

-- no place
pub none_there : (places : List Place) → is_some_list places ≡ false → places ≡ []
none_there [] h = refl
none_there (p ∷ ps) h = cc

bare_plain : (least : ℕ) (most : Option ℕ) (a : Automaton) (piece : Tree)
    → is_plain piece ≡ true → is_some_list a.places ≡ false → IsPlain a piece
    → IsPlain (bare ((least == 0) || a.holds_empty)) (Repeat least most piece)
bare_plain least most a piece h k p =
    let z : positions piece ≡ 0 = sym p.0 ∙ ap length (none_there a.places k) in
    let e : a.holds_empty ≡ true = p.2 ∙ plain_holds piece h z in (
      rw z (omega arith),
      or_right (least == 0) a.holds_empty e,
      ap (λ v. (least == 0) || v) p.2,
    )

repeated_plain : (least : ℕ) (most : Option ℕ) (a : Automaton) (piece : Tree)
    → IsPlainRepeat least most piece → IsPlain a piece
    → IsPlain (repeated_automaton least most a) (Repeat least most piece)
repeated_plain least most a piece r p = at (is_some_list a.places) refl
  where
    at : (v : Bool) → is_some_list a.places ≡ v
        → IsPlain (repeated_automaton least most a) (Repeat least most piece)
    at true k = let c = r.count in rw (c, k) (repeat_plain least most a piece r p)
    at false k = let c = r.count in
        rw (c, k) (bare_plain least most a piece r.piece_plain k p)

pub plain_places : (t : Tree) → is_plain t ≡ true → (length (automaton t).places ≡ positions t)
    × ((automaton t).is_live ≡ true) × ((automaton t).holds_empty ≡ holds_nothing t)
unfolding automaton
plain_places (Set []) h = cc
plain_places (Set (b ∷ bs)) h = (refl, refl, refl)
plain_places Nothing h = (refl, refl, refl)
plain_places (Both x y) h =
    let p = plain_places x (first_so (is_plain x) _ h) in
    let q = plain_places y (second_so (is_plain x) _ h) in
    let u : (automaton x).is_live ≡ true = p.1 in
    let v : (automaton y).is_live ≡ true = q.1 in
    let e = many_turned (automaton x) (automaton y) in
    rw (u, v) (
      e ∙ (let m = p.0 in let n = q.0 in rw (m, n) refl),
      refl,
      let m = p.2 in let n = q.2 in rw (m, n) refl,
    )
plain_places (Either x y) h =
    let p = plain_places x (first_so (is_plain x) _ h) in
    let q = plain_places y (second_so (is_plain x) _ h) in (
      length-append (automaton x).places
          (map (moved (length (automaton x).places)) (automaton y).places)
          ∙ (let m = p.0 in let n = length-map (automaton y).places
          (moved (length (automaton x).places)) ∙ q.0 in rw (n, m) refl),
      let m = p.1 in rw m refl,
      let m = p.2 in let n = q.2 in rw (m, n) refl,
    )
plain_places (Repeat least most piece) h =
    let r = plain_repeat least most piece h in
    repeated_plain least most (automaton piece) piece r (plain_places piece r.piece_plain)

-- the place before the first byte is one more
pub all_count : (t : Tree) → is_plain t ≡ true → length (all_places (automaton t))
    ≡ suc (positions t)
all_count t h =
    let p = plain_places t h in
    let u : (automaton t).is_live ≡ true = p.1 in
    let e : length (automaton t).places ≡ positions t = p.0 in
    rw u (length-append (automaton t).places (_ ∷ []) ∙ omega arith)

pub plain_not_bare : (t : Tree) → is_plain t ≡ true → 0 < positions t → is_bare t ≡ false
plain_not_bare t h l =
    let e : length (automaton t).places ≡ positions t = (plain_places t h).0 in
    let s : is_some_list (automaton t).places ≡ true = some_of (automaton t) (omega arith)
    in
    rw s refl
