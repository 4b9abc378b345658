-- Facts on the reading of bracket sets.
use Rattle.std.proofs.Common.{◌≡◌, ◌∙◌, sym, refl, ap, ℕ, zero, suc, ◌+◌, ◌-◌, ◌<◌, ◌≤◌, ◌||◌, ◌&&◌}
use Rattle.std.proofs.Common.{◌==◌, Bool, true, false, cond, List, [], ◌∷◌, length, drop, get_or}
use Rattle.std.proofs.Common.{arith, Option, Ok, Err}
use Rattle.std.specs.Prelude.{not}
use std.Path.{fun_ext}
use Rattle.std.proofs.lemmas.List.{drop_more, drop_all, drop-drop}
use Rattle.std.proofs.lemmas.Bool.Decides.{nat_tests}
use Rattle.pattern_syntax.specs.ByteSet.{has_byte, no_bytes}
use Rattle.pattern_syntax.specs.Classes.{either, is_between}
use Rattle.pattern_syntax.specs.Brackets.{ClassPart, part_at, parts_from, after_part}
use Rattle.pattern_syntax.specs.declared.refusal.Refusal.{Refusal}
use Rattle.pattern_syntax.specs.declared.refusal.Refusal.TheVariants.{Syntax}
use Rattle.pattern_syntax.specs.declared.byte_set.ByteSet.{ByteSet}

pub range_alone : (set none : ByteSet) (low high : ℕ) → has_byte none ≡ no_bytes
    → ((c : ℕ) → has_byte set c ≡ (has_byte none c || is_between low high c))
    → has_byte set ≡ is_between low high
range_alone set none low high e h =
    fun_ext (λ (c : ℕ). h c ∙ ap (λ p. p c || is_between low high c) e)

skipped : (begins : Bool) (low : Option ℕ) (has : ℕ → Bool) (place skip : ℕ) (text : List ℕ)
    → parts_from begins low has place skip text ≡ parts_from begins low has (place + skip) 0
    (drop skip text)
unfolding parts_from
skipped begins low has place zero text = let e : place ≡ place + 0 = omega arith in
    ap (λ p. parts_from begins low has p 0 text) e
skipped begins low has place (suc skip) [] = refl
skipped begins low has place (suc skip) (b ∷ bs) =
    let e : place + 1 + skip ≡ place + suc skip = omega arith in
    skipped begins low has (place + 1) skip bs
    ∙ ap (λ p. parts_from begins low has p 0 (drop skip bs)) e

abbrev ends : ℕ → ℕ → Bool
ends b at = (b == 93) && not (at == 0)

pub parts_none : (begins : Bool) (low : Option ℕ) (has : ℕ → Bool) (at : ℕ) (all : List ℕ)
    → length all ≤ at → parts_from begins low has at 0 (drop at all) ≡ Err Syntax
unfolding parts_from
parts_none begins low has at all h = ap (λ l. parts_from begins low has at 0 l) (drop_all at all h)

pub parts_end : (low : Option ℕ) (has : ℕ → Bool) (at : ℕ) (all : List ℕ) → at < length all
    → ends (get_or all at 0) at ≡ true → parts_from (at == 0) low has at 0 (drop at all)
    ≡ Ok (has, at + 1)
unfolding parts_from
parts_end low has at all l h =
    let b = get_or all at 0 in
    let bs = drop (at + 1) all in
    ap (λ l. parts_from (at == 0) low has at 0 l) (drop_more all at 0 l)
    ∙ ap (λ t. cond t (Ok (has, at + 1))
    (after_part (part_at low (b ∷ bs))
    (λ part. parts_from false part.low (either has part.has) (at + 1) (part.length - 1) bs))) h

pub parts_refused : (low : Option ℕ) (has : ℕ → Bool) (at : ℕ) (all : List ℕ) (refusal : Refusal)
    → at < length all → ends (get_or all at 0) at ≡ false → part_at low (drop at all) ≡ Err refusal
    → parts_from (at == 0) low has at 0 (drop at all) ≡ Err refusal
unfolding parts_from
parts_refused low has at all refusal l h e =
    let b = get_or all at 0 in
    let bs = drop (at + 1) all in
    let rest = λ (part : ClassPart). parts_from false part.low (either has part.has) (at + 1)
    (part.length - 1) bs in
    ap (λ l. parts_from (at == 0) low has at 0 l) (drop_more all at 0 l)
    ∙ ap (λ t. cond t (Ok (has, at + 1)) (after_part (part_at low (b ∷ bs)) rest)) h
    ∙ ap (λ r. after_part r rest) (ap (part_at low) (sym (drop_more all at 0 l)) ∙ e)

pub parts_more : (low : Option ℕ) (has more : ℕ → Bool) (at : ℕ) (all : List ℕ) (part : ClassPart)
    → at < length all → ends (get_or all at 0) at ≡ false → part_at low (drop at all) ≡ Ok part
    → 0 < part.length → more ≡ either has part.has
    → parts_from (at == 0) low has at 0 (drop at all) ≡ parts_from (at + part.length == 0) part.low
    more (at + part.length) 0 (drop (at + part.length) all)
unfolding parts_from
parts_more low has more at all part l h e p u =
    let b = get_or all at 0 in
    let bs = drop (at + 1) all in
    let rest = λ (part : ClassPart). parts_from false part.low (either has part.has) (at + 1)
    (part.length - 1) bs in
    let q : at + 1 + (part.length - 1) ≡ at + part.length = omega arith in
    let f : false ≡ (at + part.length == 0) = grind (arith, nat_tests) in
    ap (λ l. parts_from (at == 0) low has at 0 l) (drop_more all at 0 l)
    ∙ ap (λ t. cond t (Ok (has, at + 1)) (after_part (part_at low (b ∷ bs)) rest)) h
    ∙ ap (λ r. after_part r rest) (ap (part_at low) (sym (drop_more all at 0 l)) ∙ e)
    ∙ skipped false part.low (either has part.has) (at + 1) (part.length - 1) bs
    ∙ ap (λ l. parts_from false part.low (either has part.has) (at + 1 + (part.length - 1)) 0 l)
    (drop-drop (part.length - 1) (at + 1) all)
    ∙ ap (λ n. parts_from false part.low (either has part.has) n 0 (drop n all)) q
    ∙ ap (λ t. parts_from t part.low (either has part.has) (at + part.length) 0
    (drop (at + part.length) all)) f
    ∙ ap (λ s. parts_from (at + part.length == 0) part.low s (at + part.length) 0
    (drop (at + part.length) all)) (sym u)
