-- Facts on the cutting of tokens.
use Rattle.std.proofs.Common.{◌≡◌, ◌∙◌, refl, ap, sym, ℕ, ◌+◌, ◌*◌, ◌-◌, ◌<◌, ◌==◌, ◌||◌}
use Rattle.std.proofs.Common.{Bool, true, false, not, min, List, [], ◌∷◌, length, drop, get_or}
use Rattle.std.proofs.Common.{arith, zero, suc, take}
use Rattle.std.specs.Cmp.{first_so, second_so}
use Rattle.std.specs.List.{list_all}
use Rattle.std.specs.Prelude.{fold, Ok}
use Rattle.std.proofs.lemmas.Bool.{or_parts}
use Rattle.std.proofs.lemmas.List.{drop_more}
use Rattle.label_base.specs.Number.{decimal}
use Rattle.pattern_syntax.specs.Exact.{is_exact_text, is_itself, is_meta}
use Rattle.pattern_syntax.specs.Reading.{placed_cut}
use Rattle.pattern_syntax.specs.Tokens.{Bytes, repeat_or_byte, times_of, times_more, token_at}
use Rattle.pattern_syntax.specs.declared.limits.TheConstants.{MOST_TIMES}

fold_from : (v : ℕ) (bs : List ℕ) → fold times_more (min (MOST_TIMES + 1) v) bs
    ≡ min (MOST_TIMES + 1) (decimal v bs)
fold_from v [] = refl
fold_from v (b ∷ bs) =
    let e : times_more (min (MOST_TIMES + 1) v) b ≡ min (MOST_TIMES + 1) (v * 10 + (b - 48)) =
    omega arith in
    ap (λ w. fold times_more w bs) e ∙ fold_from (v * 10 + (b - 48)) bs

pub fold_is_times : (bs : List ℕ) → fold times_more 0 bs ≡ times_of bs
fold_is_times bs = fold_from 0 bs

-- ---- a byte that stands for itself

none_of : (b : Bool) → not b ≡ true → b ≡ false
none_of true h = sym h
none_of false h = refl

itself_parts : (b : ℕ) → is_itself b ≡ true → (is_meta b ≡ false) × ((b == 92) ≡ false)
itself_parts b h =
    let p0 = or_parts (is_meta b || (b == 92) || (b == 41)) (b == 0)
    (none_of (is_meta b || (b == 92) || (b == 41) || (b == 0)) h) in
    let p1 = or_parts (is_meta b || (b == 92)) (b == 41) p0.0 in
    or_parts (is_meta b) (b == 92) p1.0

itself_at : (begins : Bool) (b : ℕ) (bs : List ℕ) → is_itself b ≡ true → token_at begins (b ∷ bs)
    ≡ Ok (Bytes (b ∷ []), 1)
unfolding token_at repeat_or_byte
itself_at begins b bs h =
    let p0 = or_parts (is_meta b || (b == 92) || (b == 41)) (b == 0)
    (none_of (is_meta b || (b == 92) || (b == 41) || (b == 0)) h) in
    let p1 = or_parts (is_meta b || (b == 92)) (b == 41) p0.0 in
    let p2 = or_parts (is_meta b) (b == 92) p1.0 in
    let q0 = or_parts ((b == 46) || (b == 94) || (b == 36) || (b == 63) || (b == 42) || (b == 43)
    || (b == 124) || (b == 91) || (b == 40)) (b == 123) p2.0 in
    let q1 = or_parts ((b == 46) || (b == 94) || (b == 36) || (b == 63) || (b == 42) || (b == 43)
    || (b == 124) || (b == 91)) (b == 40) q0.0 in
    let q2 = or_parts ((b == 46) || (b == 94) || (b == 36) || (b == 63) || (b == 42) || (b == 43)
    || (b == 124)) (b == 91) q1.0 in
    let q3 = or_parts ((b == 46) || (b == 94) || (b == 36) || (b == 63) || (b == 42) || (b == 43))
    (b == 124) q2.0 in
    let q4 = or_parts ((b == 46) || (b == 94) || (b == 36) || (b == 63) || (b == 42)) (b == 43)
    q3.0 in
    let q5 = or_parts ((b == 46) || (b == 94) || (b == 36) || (b == 63)) (b == 42) q4.0 in
    let q6 = or_parts ((b == 46) || (b == 94) || (b == 36)) (b == 63) q5.0 in
    let q7 = or_parts ((b == 46) || (b == 94)) (b == 36) q6.0 in
    let q8 = or_parts (b == 46) (b == 94) q7.0 in
    rw (p2.1, q2.1, q1.1, p1.1, q3.1, q8.1, q7.1, q5.1, q4.1, q6.1, q0.1, q8.0, p0.1) refl

-- the token at a place where one stands
pub itself_from : (at b : ℕ) (all : List ℕ) → at < length all → b ≡ get_or all at 0
    → is_itself b ≡ true → placed_cut at (token_at (at == 0) (drop at all)) ≡ Ok (Bytes (b ∷ []), 1)
itself_from at b all l e h =
    ap (λ (text : List ℕ). placed_cut at (token_at (at == 0) text))
    (drop_more all at 0 l ∙ ap (λ (c : ℕ). c ∷ drop (at + 1) all) (sym e))
    ∙ ap (placed_cut at) (itself_at (at == 0) b (drop (at + 1) all) h)

-- what is behind them decides whether a text that begins with them is exact
itself_exact : (b : ℕ) (bs : List ℕ) → is_itself b ≡ true
    → is_exact_text (b ∷ bs) ≡ is_exact_text bs
itself_exact b [] h = let p = itself_parts b h in rw p.0 refl
itself_exact b (c ∷ bs) h = let p = itself_parts b h in rw (p.1, p.0) refl

pub run_exact : (n : ℕ) (text : List ℕ) → list_all is_itself (take n text) ≡ true
    → is_exact_text text ≡ is_exact_text (drop n text)
run_exact zero text h = refl
run_exact (suc n) [] h = refl
run_exact (suc n) (b ∷ bs) h =
    itself_exact b bs (first_so (is_itself b) (list_all is_itself (take n bs)) h)
    ∙ run_exact n bs (second_so (is_itself b) (list_all is_itself (take n bs)) h)
