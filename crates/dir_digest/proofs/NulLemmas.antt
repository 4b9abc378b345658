-- A text that reads as a pattern has no NUL.
use Rattle.std.proofs.Common.{◌≡◌, ◌∙◌, ap, sym, refl, subst, ℕ, zero, suc, ◌+◌, ◌-◌, ◌*◌, ◌<◌, ◌≤◌}
use Rattle.std.proofs.Common.{◌==◌, Bool, true, false, ◌&&◌, ◌||◌, not, cond, nat_eq, nat_lt, List}
use Rattle.std.proofs.Common.{[], ◌∷◌, ◌++◌, drop, length, codes, append_assoc, length-append}
use Rattle.std.proofs.Common.{Option, Some, None, IfSome, Result, Ok, Err, IfOk, arith}
use Rattle.std.specs.List.{starts_with}
use Rattle.std.proofs.lemmas.Bool.{and_parts, cond_both, or_from}
use Rattle.std.proofs.lemmas.Bool.Decides.{Decides-eqb}
use Rattle.dir_digest.proofs.ListingLemmas.{head_is}
use Rattle.pattern_syntax.specs.Classes.{either, all_but, is_alnum, is_digit_class, is_text_byte}
use Rattle.pattern_syntax.specs.ByteSet.{bytes_with, no_bytes}
use Rattle.pattern_syntax.specs.Escapes.{Class, EscapeItem, One, class_of_letter, control_escape}
use Rattle.pattern_syntax.specs.Escapes.{control_of_letter, escape_at, hexadecimal_at}
use Rattle.pattern_syntax.specs.Escapes.{hexadecimal_byte, hexadecimal_digit, letter_escape}
use Rattle.pattern_syntax.specs.Escapes.{plain_escape}
use Rattle.pattern_syntax.specs.Brackets.{after_part, class_or_refusal, dash_part, inner_bracket}
use Rattle.pattern_syntax.specs.Brackets.{item_at, lone_part, named_class, nonempty_set}
use Rattle.pattern_syntax.specs.Brackets.{number_class, ClassPart, part_at, part_behind, parts_from}
use Rattle.pattern_syntax.specs.Brackets.{printing_class, range_part, set_at, single_part}
use Rattle.pattern_syntax.specs.Brackets.{whole_set}
use Rattle.pattern_syntax.specs.Tokens.{Bar, Bytes, Close, RepeatCounts, Cut, Open, PlacedToken}
use Rattle.pattern_syntax.specs.Tokens.{Times, behind_digits, braced_repeat, bracketed}
use Rattle.pattern_syntax.specs.Tokens.{counts_after, counts_at, digits_at, end_anchor, escape_cut}
use Rattle.pattern_syntax.specs.Tokens.{group_at, is_refused_count, lower_counts, marked_repeat}
use Rattle.pattern_syntax.specs.Tokens.{repeat_or_byte, special_group, start_anchor, times_of}
use Rattle.pattern_syntax.specs.Tokens.{token_at, tokens_from, upper_counts, upper_number}
use Rattle.pattern_syntax.specs.Tokens.{with_place}
use Rattle.pattern_syntax.specs.Reading.{depth_behind, ends_piece, first_fault, new_reading}
use Rattle.pattern_syntax.specs.Reading.{pattern_of, fault_or_tree, reads_as, structure_fault}
use Rattle.pattern_syntax.specs.Reading.{tree_after}
use Rattle.pattern_syntax.specs.Tree.{Tree}
use Rattle.pattern_syntax.specs.declared.pattern_fault.PatternWhy.{PatternWhy}
use Rattle.pattern_syntax.specs.declared.refusal.Refusal.{Refusal}
use Rattle.pattern_syntax.proofs.GrammarLemmas.{no_fault_later}
use Rattle.dir_digest.specs.ListingBytes.{has_nul}

-- so many bytes at the front, as far as there are, are no NUL
abbrev Front : ℕ → List ℕ → Type 0
Front zero text = Unit {0}
Front (suc n) [] = Unit {0}
Front (suc n) (b ∷ bs) = ((b == 0) ≡ false) × Front n bs

-- one at least, and they are no NUL
abbrev Good : ℕ → List ℕ → Type 0
Good n text = (1 ≤ n) × Front n text

one : 1 ≤ 1
one = omega arith

more_than_none : (n : ℕ) → 1 ≤ n + 1
more_than_none n = omega arith

-- a byte that is another than NUL
is_not : (b k : ℕ) → (k == 0) ≡ false → (b == k) ≡ true → (b == 0) ≡ false
is_not b k z e = ap (λ c. c == 0) ((Decides-eqb b k).0 e) ∙ z

-- a byte that passes a test that NUL doesn't
by_test : (p : ℕ → Bool) → p 0 ≡ false → (b : ℕ) → p b ≡ true → (b == 0) ≡ false
by_test p z b h = other (b == 0) refl
  where
    never : true ≡ false → ⊥
    never e = cc

    other : (v : Bool) → (b == 0) ≡ v → (b == 0) ≡ false
    other true e = absurd (never (sym h ∙ ap p ((Decides-eqb b 0).0 e) ∙ z))
    other false e = e

by_option : {X : Type 0} (f : ℕ → Option X) → f 0 ≡ None → (b : ℕ) (x : X) → f b ≡ Some x
    → (b == 0) ≡ false
by_option f z b x h = other (b == 0) refl
  where
    never : Some x ≡ None → ⊥
    never e = cc

    other : (v : Bool) → (b == 0) ≡ v → (b == 0) ≡ false
    other true e = absurd (never (sym h ∙ ap f ((Decides-eqb b 0).0 e) ∙ z))
    other false e = e

first_of : (n b : ℕ) (bs : List ℕ) → Good n (b ∷ bs) → (b == 0) ≡ false
first_of zero b bs g = absurd (omega (arith, g.0))
first_of (suc n) b bs g = g.1.0

rest_of : (n b : ℕ) (bs : List ℕ) → Good n (b ∷ bs) → Front (n - 1) bs
rest_of zero b bs g = absurd (omega (arith, g.0))
rest_of (suc n) b bs g = let same : n ≡ suc n - 1 = omega arith in
    subst (λ k. Front k bs) same g.1.1

good_more : (n b : ℕ) (bs : List ℕ) → (b == 0) ≡ false → Front n bs → Good (n + 1) (b ∷ bs)
good_more n b bs h f = let same : suc n ≡ n + 1 = omega arith in
    (more_than_none n, subst (λ k. Front k (b ∷ bs)) same (h, f))

-- a front that is a text without NUL, with another behind it
all_good : List ℕ → Type 0
all_good [] = Unit {0}
all_good (b ∷ bs) = ((b == 0) ≡ false) × all_good bs

front_all : (front rest : List ℕ) → all_good front → Front (length front) (front ++ rest)
unfolding all_good
front_all [] rest h = tt
front_all (b ∷ front) rest h = (h.0, front_all front rest h.1)

-- ---- escapes

abbrev GoodCut : {X : Type 0} → List ℕ → Result (X × ℕ) Refusal → Type 0
GoodCut text r = IfOk r (λ cut. Good cut.1 text)

hex_none : hexadecimal_digit 0 ≡ None
unfolding hexadecimal_digit
hex_none = refl

class_none : class_of_letter 0 ≡ None
unfolding class_of_letter
class_none = refl

control_none : control_of_letter 0 ≡ None
unfolding control_of_letter
control_none = refl

hex_good : (b high low : ℕ) (bs : List ℕ) (o p : Option ℕ) → (b == 0) ≡ false
    → hexadecimal_digit high ≡ o → hexadecimal_digit low ≡ p
    → GoodCut (92 ∷ b ∷ high ∷ low ∷ bs) (hexadecimal_byte o p)
hex_good b high low bs None p n h l = tt
hex_good b high low bs (Some x) None n h l = tt
hex_good b high low bs (Some x) (Some y) n h l =
    cond_both (x * 16 + y == 0) (Err _) (Ok (One (x * 16 + y), 4))
    (GoodCut (92 ∷ b ∷ high ∷ low ∷ bs)) (λ e. tt)
    (λ e. (
      omega arith,
      (
        refl,
        (
          n,
          (
            by_option hexadecimal_digit hex_none high x h,
            (by_option hexadecimal_digit hex_none low y l, tt),
          ),
        ),
      ),
    ))

hex_at_good : (b : ℕ) (bs : List ℕ) → (b == 0) ≡ false → GoodCut (92 ∷ b ∷ bs) (hexadecimal_at bs)
unfolding hexadecimal_at
hex_at_good b [] n = tt
hex_at_good b (high ∷ []) n = tt
hex_at_good b (high ∷ low ∷ bs) n = hex_good b high low bs (hexadecimal_digit high)
    (hexadecimal_digit low) n refl refl

two : (b : ℕ) (bs : List ℕ) → (b == 0) ≡ false → Good 2 (92 ∷ b ∷ bs)
two b bs n = (omega arith, (refl, (n, tt)))

control_good : (b : ℕ) (bs : List ℕ) (o : Option ℕ) → control_of_letter b ≡ o
    → GoodCut (92 ∷ b ∷ bs) (control_escape b o)
unfolding plain_escape
control_good b bs (Some x) h = two b bs (by_option control_of_letter control_none b x h)
control_good b bs None h =
    cond_both (b == 0) (Err _) (cond (is_alnum b) (Err _) (Ok (One b, 2))) (GoodCut (92 ∷ b ∷ bs))
    (λ e. tt)
    (λ n. cond_both (is_alnum b) (Err _) (Ok (One b, 2)) (GoodCut (92 ∷ b ∷ bs)) (λ e. tt)
    (λ e. two b bs n))

letter_good : (b : ℕ) (bs : List ℕ) (o : Option (ℕ → Bool)) → class_of_letter b ≡ o
    → GoodCut (92 ∷ b ∷ bs) (letter_escape b o)
letter_good b bs (Some has) h = two b bs (by_option class_of_letter class_none b has h)
letter_good b bs None h = control_good b bs (control_of_letter b) refl

escape_good : (bs : List ℕ) → GoodCut (92 ∷ bs) (escape_at bs)
unfolding escape_at
escape_good [] = tt
escape_good (b ∷ bs) =
    cond_both (b == 120) (hexadecimal_at bs) (letter_escape b (class_of_letter b))
    (GoodCut (92 ∷ b ∷ bs))
    (λ e. hex_at_good b bs (is_not b 120 refl e)) (λ e. letter_good b bs (class_of_letter b) refl)

-- ---- bracket sets

starts_good : (text word : List ℕ) → starts_with nat_eq text word ≡ true → all_good word
    → Front (length word) text
unfolding all_good
starts_good text [] h g = tt
starts_good [] (k ∷ word) h g = cc
starts_good (b ∷ text) (k ∷ word) h g =
    let both = and_parts (nat_eq k b) (starts_with nat_eq text word) h in
    (ap (λ c. c == 0) (sym ((Decides-eqb k b).0 both.0)) ∙ g.0, starts_good text word both.1 g.1)

GoodName : List ℕ → Option ((ℕ → Bool) × ℕ) → Type 0
GoodName text o = IfSome o (λ c. Good c.1 (91 ∷ 58 ∷ text))

name_good : (text word : List ℕ) (has : ℕ → Bool) (n : ℕ) (rest : Option ((ℕ → Bool) × ℕ))
    → n ≡ suc (suc (length word)) → all_good word → GoodName text rest
    → GoodName text (cond (starts_with nat_eq text word) (Some (has, n)) rest)
unfolding GoodName
name_good text word has n rest e g h =
    cond_both (starts_with nat_eq text word) (Some (has, n)) rest
    (λ o. IfSome o (λ c. Good c.1 (91 ∷ 58 ∷ text)))
    (λ s. (
      omega (arith, e),
      subst (λ k. Front k (91 ∷ 58 ∷ text)) (sym e)
          (refl, (refl, starts_good text word s g)),
    ))
    (λ s. h)

printing_good : (text : List ℕ) → GoodName text (printing_class text)
unfolding printing_class all_good GoodName
printing_good text =
    name_good text (codes "cntrl:]") _ 9 _ refl
    (refl, (refl, (refl, (refl, (refl, (refl, (refl, tt)))))))
    (name_good text (codes "graph:]") _ 9 _ refl
    (refl, (refl, (refl, (refl, (refl, (refl, (refl, tt)))))))
    (name_good text (codes "print:]") _ 9 _ refl
    (refl, (refl, (refl, (refl, (refl, (refl, (refl, tt)))))))
    (name_good text (codes "punct:]") _ 9 None refl
    (refl, (refl, (refl, (refl, (refl, (refl, (refl, tt))))))) tt)))

number_good : (text : List ℕ) → GoodName text (number_class text)
unfolding number_class all_good GoodName
number_good text =
    name_good text (codes "digit:]") _ 9 _ refl
    (refl, (refl, (refl, (refl, (refl, (refl, (refl, tt)))))))
    (name_good text (codes "xdigit:]") _ 10 _ refl
    (refl, (refl, (refl, (refl, (refl, (refl, (refl, (refl, tt))))))))
    (name_good text (codes "blank:]") _ 9 _ refl
    (refl, (refl, (refl, (refl, (refl, (refl, (refl, tt)))))))
    (name_good text (codes "space:]") _ 9 _ refl
    (refl, (refl, (refl, (refl, (refl, (refl, (refl, tt))))))) (printing_good text))))

named_good : (text : List ℕ) → GoodName text (named_class text)
unfolding named_class all_good GoodName
named_good text =
    name_good text (codes "alpha:]") _ 9 _ refl
    (refl, (refl, (refl, (refl, (refl, (refl, (refl, tt)))))))
    (name_good text (codes "lower:]") _ 9 _ refl
    (refl, (refl, (refl, (refl, (refl, (refl, (refl, tt)))))))
    (name_good text (codes "upper:]") _ 9 _ refl
    (refl, (refl, (refl, (refl, (refl, (refl, (refl, tt)))))))
    (name_good text (codes "alnum:]") _ 9 _ refl
    (refl, (refl, (refl, (refl, (refl, (refl, (refl, tt))))))) (number_good text))))

class_good : (text : List ℕ) (o : Option ((ℕ → Bool) × ℕ)) → GoodName text o
    → GoodCut (91 ∷ 58 ∷ text) (class_or_refusal o)
unfolding GoodName
class_good text None h = tt
class_good text (Some c) h = h

single_good : (b : ℕ) (bs : List ℕ) → (b == 0) ≡ false → Good 1 (b ∷ bs)
single_good b bs n = (one, (n, tt))

same_byte : (b k : ℕ) → (b == k) ≡ true → k ≡ b
same_byte b k e = sym ((Decides-eqb b k).0 e)

inner_good : (bs : List ℕ) → GoodCut (91 ∷ bs) (inner_bracket bs)
unfolding inner_bracket
inner_good [] = single_good 91 [] refl
inner_good (b ∷ bs) =
    cond_both (b == 58) (class_or_refusal (named_class bs)) _ (GoodCut (91 ∷ b ∷ bs))
    (λ e. subst (λ c. GoodCut (91 ∷ c ∷ bs) (class_or_refusal (named_class bs))) (same_byte b 58 e)
    (class_good bs (named_class bs) (named_good bs)))
    (λ e. cond_both ((b == 46) || (b == 61)) (Err _) (Ok (One 91, 1)) (GoodCut (91 ∷ b ∷ bs))
    (λ e. tt) (λ e. single_good 91 (b ∷ bs) refl))

item_good : (text : List ℕ) → GoodCut text (item_at text)
unfolding item_at
item_good [] = tt
item_good (b ∷ bs) =
    cond_both (b == 0) (Err _) _ (GoodCut (b ∷ bs)) (λ e. tt)
    (λ n. cond_both (b == 91) (inner_bracket bs) _ (GoodCut (b ∷ bs))
    (λ e. subst (λ c. GoodCut (c ∷ bs) (inner_bracket bs)) (same_byte b 91 e) (inner_good bs))
    (λ e. cond_both (b == 92) (escape_at bs) (Ok (One b, 1)) (GoodCut (b ∷ bs))
    (λ e. subst (λ c. GoodCut (c ∷ bs) (escape_at bs)) (same_byte b 92 e) (escape_good bs))
    (λ e. single_good b bs n)))

abbrev GoodPart : List ℕ → Result ClassPart Refusal → Type 0
GoodPart text r = IfOk r (λ part. Good part.length text)

lone_good : (text : List ℕ) (r : Result (EscapeItem × ℕ) Refusal) → GoodCut text r
    → GoodPart text (lone_part r)
lone_good text (Ok (One b, n)) h = h
lone_good text (Ok (Class has, n)) h = h
lone_good text (Err refusal) h = tt

range_good : (low : ℕ) (text : List ℕ) (r : Result (EscapeItem × ℕ) Refusal) → GoodCut text r
    → GoodPart (45 ∷ text) (range_part low r)
range_good low text (Ok (One high, n)) h =
    cond_both (nat_lt high low) (Err _) _ (GoodPart (45 ∷ text)) (λ e. tt)
    (λ e. good_more n 45 text refl h.1)
range_good low text (Ok (Class has, n)) h = single_good 45 text refl
range_good low text (Err refusal) h = single_good 45 text refl

dash_good : (low : ℕ) (bs : List ℕ) → GoodPart (45 ∷ bs) (dash_part low bs)
unfolding dash_part
dash_good low [] = single_good 45 [] refl
dash_good low (b ∷ bs) =
    cond_both (b == 93) (Ok (single_part 45 1)) (range_part low (item_at (b ∷ bs)))
    (GoodPart (45 ∷ b ∷ bs)) (λ e. single_good 45 (b ∷ bs) refl)
    (λ e. range_good low (b ∷ bs) (item_at (b ∷ bs)) (item_good (b ∷ bs)))

behind_good : (low : ℕ) (text : List ℕ) → GoodPart text (part_behind low text)
unfolding part_behind
behind_good low [] = tt
behind_good low (b ∷ bs) =
    cond_both (b == 45) (dash_part low bs) (lone_part (item_at (b ∷ bs))) (GoodPart (b ∷ bs))
    (λ e. subst (λ c. GoodPart (c ∷ bs) (dash_part low bs)) (same_byte b 45 e) (dash_good low bs))
    (λ e. lone_good (b ∷ bs) (item_at (b ∷ bs)) (item_good (b ∷ bs)))

part_good : (low : Option ℕ) (text : List ℕ) → GoodPart text (part_at low text)
part_good None text = lone_good text (item_at text) (item_good text)
part_good (Some low) text = behind_good low text

-- up to a place behind the one where a text begins
record GoodTo (place : ℕ) (text : List ℕ) (end : ℕ) : Type 0 where
  ahead : place < end
  front : Front (end - place) text

abbrev GoodSet : ℕ → List ℕ → Result ((ℕ → Bool) × ℕ) Refusal → Type 0
GoodSet place text r = IfOk r (λ set. GoodTo place text set.1)

go_on : (place b : ℕ) (bs : List ℕ) (r : Result ((ℕ → Bool) × ℕ) Refusal) → (b == 0) ≡ false
    → GoodSet (place + 1) bs r → GoodSet place (b ∷ bs) r
go_on place b bs (Err refusal) n h = tt
go_on place b bs (Ok set) n h =
    let same : suc (set.1 - (place + 1)) ≡ set.1 - place = omega (arith, h.ahead) in
    record {
      ahead = omega (arith, h.ahead);
      front = subst (λ k. Front k (b ∷ bs)) same (n, h.front);
    }

part_on : (place b : ℕ) (bs : List ℕ) (has : ℕ → Bool) (r : Result ClassPart Refusal)
    → GoodPart (b ∷ bs) r
    → ((low : Option ℕ) (has : ℕ → Bool) (skip : ℕ) → Front skip bs
    → GoodSet (place + 1) bs (parts_from false low has (place + 1) skip bs))
    → GoodSet place (b ∷ bs)
    (after_part r (λ part. parts_from false part.low (either has part.has) (place + 1)
    (part.length - 1) bs))
part_on place b bs has (Err refusal) h go = tt
part_on place b bs has (Ok part) h go =
    go_on place b bs (parts_from false part.low (either has part.has) (place + 1) (part.length - 1)
    bs) (first_of part.length b bs h)
    (go part.low (either has part.has) (part.length - 1) (rest_of part.length b bs h))

parts_good : (begins : Bool) (low : Option ℕ) (has : ℕ → Bool) (place skip : ℕ) (text : List ℕ)
    → Front skip text → GoodSet place text (parts_from begins low has place skip text)
unfolding parts_from
parts_good begins low has place skip [] f = tt
parts_good begins low has place (suc skip) (b ∷ bs) f =
    go_on place b bs (parts_from begins low has (place + 1) skip bs) f.0
    (parts_good begins low has (place + 1) skip bs f.1)
parts_good begins low has place zero (b ∷ bs) f =
    cond_both ((b == 93) && not begins) (Ok (has, place + 1)) _ (GoodSet place (b ∷ bs))
    (λ e. (let same : 1 ≡ (place + 1) - place = omega arith in
    record {
      ahead = omega arith;
      front = subst (λ k. Front k (b ∷ bs)) same
          (is_not b 93 refl (and_parts (b == 93) (not begins) e).0, tt);
    }))
    (λ e. part_on place b bs has (part_at low (b ∷ bs)) (part_good low (b ∷ bs))
    (λ low has skip f. parts_good false low has (place + 1) skip bs f))

bytes_good : (bytes : List ℕ) (n : ℕ) (text : List ℕ) → Good n text
    → GoodCut text (nonempty_set bytes n)
bytes_good [] n text h = tt
bytes_good (b ∷ bs) n text h = h

from_start : (n : ℕ) (text : List ℕ) → GoodTo 0 text n → Front n text
from_start n text h = let same : n - 0 ≡ n = omega arith in subst (λ k. Front k text) same h.front

set_one : (bs : List ℕ) (r : Result ((ℕ → Bool) × ℕ) Refusal) → GoodSet 0 bs r
    → GoodCut (91 ∷ bs) (whole_set false 1 r)
set_one bs (Err refusal) h = tt
set_one bs (Ok set) h = bytes_good (bytes_with set.0) (set.1 + 1) (91 ∷ bs)
    (good_more set.1 91 bs refl (from_start set.1 bs h))

two_more : (b : ℕ) (bs : List ℕ) (n : ℕ) → (b == 0) ≡ false → Front n bs
    → Good (n + 2) (91 ∷ b ∷ bs)
two_more b bs n z f =
    let same : suc (suc n) ≡ n + 2 = omega arith in
    (omega arith, subst (λ k. Front k (91 ∷ b ∷ bs)) same (refl, (z, f)))

set_two : (b : ℕ) (bs : List ℕ) (r : Result ((ℕ → Bool) × ℕ) Refusal) → (b == 0) ≡ false
    → GoodSet 0 bs r → GoodCut (91 ∷ b ∷ bs) (whole_set true 2 r)
set_two b bs (Err refusal) z h = tt
set_two b bs (Ok set) z h = bytes_good (bytes_with (all_but set.0)) (set.1 + 2) (91 ∷ b ∷ bs)
    (two_more b bs set.1 z (from_start set.1 bs h))

set_good : (bs : List ℕ) → GoodCut (91 ∷ bs) (set_at bs)
unfolding set_at
set_good [] = tt
set_good (b ∷ bs) =
    cond_both (b == 94) (whole_set true 2 (parts_from true None no_bytes 0 0 bs))
    (whole_set false 1 (parts_from true None no_bytes 0 0 (b ∷ bs))) (GoodCut (91 ∷ b ∷ bs))
    (λ e. set_two b bs (parts_from true None no_bytes 0 0 bs) (is_not b 94 refl e)
    (parts_good true None no_bytes 0 0 bs tt))
    (λ e. set_one (b ∷ bs) (parts_from true None no_bytes 0 0 (b ∷ bs))
    (parts_good true None no_bytes 0 0 (b ∷ bs) tt))

-- ---- repeats

front_more : (n : ℕ) (text : List ℕ) (b : ℕ) (bs : List ℕ) → drop n text ≡ b ∷ bs → (b == 0) ≡ false
    → Front n text → Front (suc n) text
front_more zero [] b bs e z f = tt
front_more zero (c ∷ text) b bs e z f = (ap (λ d. d == 0) (head_is c b text bs e) ∙ z, tt)
front_more (suc n) [] b bs e z f = tt
front_more (suc n) (c ∷ text) b bs e z f = (f.0, front_more n text b bs e z f.1)

marked_good : (least : ℕ) (most : Option ℕ) (n : ℕ) (text rest : List ℕ) → drop n text ≡ rest
    → Good n text → GoodCut text (marked_repeat least most n rest)
unfolding marked_repeat
marked_good least most n text [] e g = g
marked_good least most n text (b ∷ bs) e g =
    cond_both (b == 63) (Ok (Times least most, n + 1)) _ (GoodCut text)
    (λ y. (let same : suc n ≡ n + 1 = omega arith in (
      more_than_none n,
      subst (λ k. Front k text) same
          (front_more n text b bs e (is_not b 63 refl y) g.1),
    )))
    (λ y. cond_both (b == 43) (Err _) (Ok (Times least most, n)) (GoodCut text) (λ y. tt) (λ y. g))

digit_zero : is_digit_class 0 ≡ false
digit_zero = refl

digits_good : (text : List ℕ) → all_good (digits_at text)
unfolding all_good
digits_good [] = tt
digits_good (b ∷ bs) = cond_both (is_digit_class b) (b ∷ digits_at bs) [] all_good
    (λ e. (by_test is_digit_class digit_zero b e, digits_good bs)) (λ e. tt)

split_on : (v : Bool) (b : ℕ) (bs ds rest : List ℕ) → bs ≡ ds ++ rest → b ∷ bs ≡ cond v (b ∷ ds) []
    ++ cond v rest (b ∷ bs)
split_on true b bs ds rest e = ap (λ more. b ∷ more) e
split_on false b bs ds rest e = refl

digits_split : (text : List ℕ) → text ≡ digits_at text ++ behind_digits text
digits_split [] = refl
digits_split (b ∷ bs) = split_on (is_digit_class b) b bs (digits_at bs) (behind_digits bs)
    (digits_split bs)

all_behind : (a b : List ℕ) → all_good a → all_good b → all_good (a ++ b)
unfolding all_good
all_behind [] b h k = k
all_behind (x ∷ a) b h k = (h.0, all_behind a b h.1 k)

-- a text begins with a front without NUL, of this length
begins_good : (n : ℕ) (front rest text : List ℕ) → text ≡ front ++ rest → n ≡ length front → 1 ≤ n
    → all_good front → Good n text
begins_good n front rest text e l m g = (
  m,
  subst (λ t. Front n t) (sym e)
      (subst (λ k. Front k (front ++ rest)) (sym l) (front_all front rest g)),
)

abbrev GoodCounts : List ℕ → RepeatCounts → Type 0
GoodCounts text o = IfSome o (λ c. Good c.1.1 text)

upper_good : (m : ℕ) (lower upper rest text : List ℕ) → text ≡ 123 ∷ (lower ++ 44 ∷ (upper ++ rest))
    → all_good lower → all_good upper
    → GoodCounts text (upper_counts m (length lower) upper rest)
unfolding upper_counts all_good
upper_good m lower upper [] text e l u = tt
upper_good m lower upper (b ∷ bs) text e l u =
    cond_both (b == 125) (Some (m, (upper_number upper, length lower + length upper + 3))) None
    (GoodCounts text)
    (λ y. begins_good (length lower + length upper + 3) (123 ∷ (lower ++ 44 ∷ (upper ++ b ∷ []))) bs
    text
    (e ∙ ap (λ rest. 123 ∷ rest)
    (ap (λ rest. lower ++ 44 ∷ rest) (sym (append_assoc upper (b ∷ []) bs))
    ∙ sym (append_assoc lower (44 ∷ (upper ++ b ∷ [])) bs)))
    (omega (arith, length-append lower (44 ∷ (upper ++ b ∷ [])), length-append upper (b ∷ [])))
    (omega arith) (
      refl,
      all_behind lower (44 ∷ (upper ++ b ∷ [])) l
          (refl, all_behind upper (b ∷ []) u (is_not b 125 refl y, tt)),
    ))
    (λ y. tt)

lower_good : (m : ℕ) (lower rest text : List ℕ) → text ≡ 123 ∷ (lower ++ rest) → all_good lower
    → GoodCounts text (lower_counts m (length lower) rest)
unfolding lower_counts all_good
lower_good m lower [] text e l = tt
lower_good m lower (b ∷ bs) text e l =
    cond_both (b == 125) (Some (m, (Some m, length lower + 2))) _ (GoodCounts text)
    (λ y. begins_good (length lower + 2) (123 ∷ (lower ++ b ∷ [])) bs text
    (e ∙ ap (λ rest. 123 ∷ rest) (sym (append_assoc lower (b ∷ []) bs)))
    (omega (arith, length-append lower (b ∷ []))) (omega arith)
    (refl, all_behind lower (b ∷ []) l (is_not b 125 refl y, tt)))
    (λ y. cond_both (b == 44) (upper_counts m (length lower) (digits_at bs) (behind_digits bs)) None
    (GoodCounts text)
    (λ y. upper_good m lower (digits_at bs) (behind_digits bs) text
    (e ∙ ap (λ c. 123 ∷ (lower ++ c ∷ bs)) (sym (same_byte b 44 y))
    ∙ ap (λ rest. 123 ∷ (lower ++ 44 ∷ rest)) (digits_split bs)) l (digits_good bs))
    (λ y. tt))

after_good : (text lower : List ℕ) → digits_at text ≡ lower
    → GoodCounts (123 ∷ text) (counts_after lower (behind_digits text))
after_good text [] e = tt
after_good text (d ∷ ds) e =
    lower_good (times_of (d ∷ ds)) (d ∷ ds) (behind_digits text) (123 ∷ text)
    (ap (λ rest. 123 ∷ rest) (digits_split text ∙ ap (λ lower. lower ++ behind_digits text) e))
    (subst all_good e (digits_good text))

counts_good : (text : List ℕ) → GoodCounts (123 ∷ text) (counts_at text)
unfolding counts_at
counts_good text = after_good text (digits_at text) refl

drop_one : (n b : ℕ) (text : List ℕ) → 1 ≤ n → drop n (b ∷ text) ≡ drop (n - 1) text
drop_one zero b text l = absurd (omega (arith, l))
drop_one (suc n) b text l = let same : n ≡ suc n - 1 = omega arith in ap (λ k. drop k text) same

braced_good : (text : List ℕ) (o : RepeatCounts) → GoodCounts (123 ∷ text) o
    → GoodCut (123 ∷ text) (braced_repeat text o)
braced_good text None h = single_good 123 text refl
braced_good text (Some counts) h =
    cond_both (is_refused_count counts.0 counts.1.0) (Err _)
    (marked_repeat counts.0 counts.1.0 counts.1.1 (drop (counts.1.1 - 1) text))
    (GoodCut (123 ∷ text)) (λ e. tt)
    (λ e. marked_good counts.0 counts.1.0 counts.1.1 (123 ∷ text) (drop (counts.1.1 - 1) text)
    (drop_one counts.1.1 123 text h.0) h)

-- ---- tokens

escaped_good : (text : List ℕ) (r : Result (EscapeItem × ℕ) Refusal) → GoodCut text r
    → GoodCut text (escape_cut r)
escaped_good text (Ok (One b, n)) h = h
escaped_good text (Ok (Class has, n)) h = h
escaped_good text (Err refusal) h = tt

bracketed_good : (text : List ℕ) (r : Result (List ℕ × ℕ) Refusal) → GoodCut text r
    → GoodCut text (bracketed r)
bracketed_good text (Ok set) h = h
bracketed_good text (Err refusal) h = tt

special_good : (b : ℕ) (bs : List ℕ) → (b == 0) ≡ false → GoodCut (40 ∷ b ∷ bs) (special_group bs)
unfolding special_group
special_good b [] n = tt
special_good b (c ∷ bs) n =
    cond_both (c == 58) (Ok (Open, 3)) (Err _) (GoodCut (40 ∷ b ∷ c ∷ bs))
    (λ e. (omega arith, (refl, (n, (is_not c 58 refl e, tt))))) (λ e. tt)

group_good : (bs : List ℕ) → GoodCut (40 ∷ bs) (group_at bs)
unfolding group_at
group_good [] = single_good 40 [] refl
group_good (b ∷ bs) =
    cond_both (b == 63) (special_group bs) _ (GoodCut (40 ∷ b ∷ bs))
    (λ e. special_good b bs (is_not b 63 refl e))
    (λ e. cond_both (b == 42) (Err _) (Ok (Open, 1)) (GoodCut (40 ∷ b ∷ bs)) (λ e. tt)
    (λ e. single_good 40 (b ∷ bs) refl))

start_good : (begins : Bool) (text : List ℕ) → Good 1 text → GoodCut text (start_anchor begins)
unfolding start_anchor
start_good true text h = h
start_good false text h = tt

end_good : (bs text : List ℕ) → Good 1 text → GoodCut text (end_anchor bs)
unfolding end_anchor
end_good [] text h = h
end_good (b ∷ bs) text h = tt

repeat_good : (b : ℕ) (bs : List ℕ) → GoodCut (b ∷ bs) (repeat_or_byte b bs)
unfolding repeat_or_byte
repeat_good b bs =
    cond_both (b == 42) (marked_repeat 0 None 1 bs) _ (GoodCut (b ∷ bs))
    (λ e. marked_good 0 None 1 (b ∷ bs) bs refl (single_good b bs (is_not b 42 refl e)))
    (λ e. cond_both (b == 43) (marked_repeat 1 None 1 bs) _ (GoodCut (b ∷ bs))
    (λ e. marked_good 1 None 1 (b ∷ bs) bs refl (single_good b bs (is_not b 43 refl e)))
    (λ e. cond_both (b == 63) (marked_repeat 0 (Some 1) 1 bs) _ (GoodCut (b ∷ bs))
    (λ e. marked_good 0 (Some 1) 1 (b ∷ bs) bs refl (single_good b bs (is_not b 63 refl e)))
    (λ e. cond_both (b == 123) (braced_repeat bs (counts_at bs)) _ (GoodCut (b ∷ bs))
    (λ e. subst (λ c. GoodCut (c ∷ bs) (braced_repeat bs (counts_at bs))) (same_byte b 123 e)
    (braced_good bs (counts_at bs) (counts_good bs)))
    (λ e. cond_both (b == 46) (Ok (Bytes (bytes_with is_text_byte), 1)) _ (GoodCut (b ∷ bs))
    (λ e. single_good b bs (is_not b 46 refl e))
    (λ e. cond_both (b == 0) (Err _) (Ok (Bytes (b ∷ []), 1)) (GoodCut (b ∷ bs)) (λ e. tt)
    (λ n. single_good b bs n))))))

token_good : (begins : Bool) (text : List ℕ) → GoodCut text (token_at begins text)
unfolding token_at
token_good begins [] = tt
token_good begins (b ∷ bs) =
    cond_both (b == 92) (escape_cut (escape_at bs)) _ (GoodCut (b ∷ bs))
    (λ e. subst (λ c. GoodCut (c ∷ bs) (escape_cut (escape_at bs))) (same_byte b 92 e)
    (escaped_good (92 ∷ bs) (escape_at bs) (escape_good bs)))
    (λ e. cond_both (b == 91) (bracketed (set_at bs)) _ (GoodCut (b ∷ bs))
    (λ e. subst (λ c. GoodCut (c ∷ bs) (bracketed (set_at bs))) (same_byte b 91 e)
    (bracketed_good (91 ∷ bs) (set_at bs) (set_good bs)))
    (λ e. cond_both (b == 40) (group_at bs) _ (GoodCut (b ∷ bs))
    (λ e. subst (λ c. GoodCut (c ∷ bs) (group_at bs)) (same_byte b 40 e) (group_good bs))
    (λ e. cond_both (b == 41) (Ok (Close, 1)) _ (GoodCut (b ∷ bs))
    (λ e. single_good b bs (is_not b 41 refl e))
    (λ e. cond_both (b == 124) (Ok (Bar, 1)) _ (GoodCut (b ∷ bs))
    (λ e. single_good b bs (is_not b 124 refl e))
    (λ e. cond_both (b == 94) (start_anchor begins) _ (GoodCut (b ∷ bs))
    (λ e. start_good begins (b ∷ bs) (single_good b bs (is_not b 94 refl e)))
    (λ e. cond_both (b == 36) (end_anchor bs) (repeat_or_byte b bs) (GoodCut (b ∷ bs))
    (λ e. end_good bs (b ∷ bs) (single_good b bs (is_not b 36 refl e)))
    (λ e. repeat_good b bs)))))))

-- no token is refused
AreTokens : List PlacedToken → Type 0
AreTokens [] = Unit {0}
AreTokens ((place, Ok token) ∷ tokens) = AreTokens tokens
AreTokens ((place, Err refusal) ∷ tokens) = ⊥

no_fault : (end depth : ℕ) (after_piece : Bool) (tokens : List PlacedToken)
    → first_fault end depth after_piece tokens ≡ None → AreTokens tokens
unfolding first_fault AreTokens
no_fault end depth after_piece [] h = tt
no_fault end depth after_piece ((place, Err refusal) ∷ tokens) h = cc
no_fault end depth after_piece ((place, Ok token) ∷ tokens) h =
    no_fault end (depth_behind token depth) (ends_piece token) tokens
    (no_fault_later (structure_fault depth after_piece place token)
    (first_fault end (depth_behind token depth) (ends_piece token) tokens) h)

placed_clean : (place b : ℕ) (bs : List ℕ) (r : Cut) → GoodCut (b ∷ bs) r
    → AreTokens (with_place place r (λ skip. tokens_from (place + 1) skip bs))
    → ((skip : ℕ) → Front skip bs → AreTokens (tokens_from (place + 1) skip bs)
    → has_nul bs ≡ false) → has_nul (b ∷ bs) ≡ false
unfolding AreTokens
placed_clean place b bs (Err refusal) g h go = absurd h
placed_clean place b bs (Ok cut) g h go = or_from (b == 0) (has_nul bs) (first_of cut.1 b bs g)
    (go (cut.1 - 1) (rest_of cut.1 b bs g) h)

tokens_clean : (place skip : ℕ) (text : List ℕ) → Front skip text
    → AreTokens (tokens_from place skip text) → has_nul text ≡ false
unfolding tokens_from AreTokens
tokens_clean place skip [] f h = refl
tokens_clean place (suc skip) (b ∷ bs) f h =
    or_from (b == 0) (has_nul bs) f.0 (tokens_clean (place + 1) skip bs f.1 h)
tokens_clean place zero (b ∷ bs) f h =
    placed_clean place b bs (token_at (place == 0) (b ∷ bs)) (token_good (place == 0) (b ∷ bs)) h
    (λ skip f h. tokens_clean (place + 1) skip bs f h)

read_ok : (o : Option PatternWhy) (tree meant : Tree) → fault_or_tree o tree ≡ Ok meant → o ≡ None
read_ok None tree meant h = refl
read_ok (Some why) tree meant h = cc

pub reads_clean : (text : List ℕ) (tree : Tree) → pattern_of text ≡ Ok tree → has_nul text ≡ false
unfolding pattern_of reads_as
reads_clean text tree h =
    let tokens = tokens_from 0 0 text in
    tokens_clean 0 0 text tt
    (no_fault (length text) 0 false tokens
    (read_ok (first_fault (length text) 0 false tokens) (tree_after new_reading tokens) tree h))
