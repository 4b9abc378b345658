-- What is noted of the entries that were looked up.
use Rattle.std.proofs.Common.{◌≡◌, ◌≢◌, ◌∙◌, sym, refl, ap, ap₂, subst, ℕ, zero, suc, ◌+◌, ◌<◌, ◌≤◌}
use Rattle.std.proofs.Common.{◌^◌, ◌==◌, ◌&&◌, Bool, true, false, List, [], ◌∷◌, ◌++◌, length}
use Rattle.std.proofs.Common.{set, Option, Some, None, IfSome, arith, inl, inr}
use Rattle.std.proofs.Common.{if◌then◌else◌, eq-eqb, ne_eqb, add-one, length-append, length-set}
use Rattle.std.proofs.Common.{get_or-set_same, get_or-set_other}
use Rattle.std.specs.Prelude.{filter, is_some, is_none, nat_lt, option_and_then}
use Rattle.std.proofs.lemmas.Bool.{cases_eq, cases_lt, le-ltb, lt-ltb}
use Rattle.std.proofs.lemmas.List.{get_or-replicate, length-replicate}
use Rattle.std.proofs.lemmas.List.Elements.{filter-append}
use Rattle.relabel_core.proofs.TableLemmas.{kept}
use Rattle.label_base.specs.Bounded.{all_numbers, found_or, least_below}
use Rattle.label_base.proofs.BoundedLemmas.{least_case, below_or_last}
use Rattle.tree_model.specs.Groups.{group_of, groups_in}
use Rattle.relabel_core.specs.Numbers.{IsNumberPut, as_found, entered_at, entered_if, found_in}
use Rattle.relabel_core.specs.Numbers.{found_number, no_numbers, put_at}
use Rattle.relabel_core.specs.Walk.{Walk, can_win, walk_count, deciding, is_wanted, one_if, walked}
use Rattle.relabel_core.specs.Walk.{walked_below, wanted, wanted_below, winner}
use Rattle.label_rules.specs.LookUp.{given_at}
use Rattle.relabel_core.specs.Walked.{AreWalkAnswers, AreNoted, HasWalkRoom}
use Rattle.relabel_core.specs.declared.numbers.TheConstants.{NONE}

-- when all entries were looked up, all is found
pub all_noted : (w : Walk) (n : ℕ) (decided winners : List ℕ) → n ≡ walk_count w
    → AreNoted w n decided winners → AreWalkAnswers w decided winners
unfolding winner
all_noted w n decided winners all noted = record {
  decided_are = λ e l. noted.decided_are e (omega (arith, l, all));
  winners_are = λ g l. noted.winners_are g l ∙ ap (λ m. least_below m (can_win w g)) all;
}

pub winner_within : (w : Walk) (g : ℕ) → IfSome (winner w g) (λ k. k < walk_count w)
unfolding winner
winner_within w g =
    least_case (walk_count w) (can_win w g) (λ found. IfSome found (λ k. k < walk_count w)) tt
    (λ k l h. l)

-- ---- filters of numbers

filtered_one : (b : Bool) (n : ℕ) → length (if b then n ∷ [] else []) ≡ (if b then 1 else 0)
filtered_one true n = refl
filtered_one false n = refl

pub filtered_more : (p : ℕ → Bool) (xs : List ℕ) (n : ℕ) → length (filter p (xs ++ n ∷ []))
    ≡ length (filter p xs) + (if p n then 1 else 0)
filtered_more p xs n =
    ap length (filter-append p xs (n ∷ [])) ∙ length-append (filter p xs) (filter p (n ∷ []))
    ∙ ap (λ k. length (filter p xs) + k) (filtered_one (p n) n)

-- ---- rows of numbers

found_small : (n : ℕ) → n < NONE → as_found n ≡ Some n
found_small n l = ap (λ b. if b then None else Some n) (ne_eqb n NONE (λ e. omega (arith, l, e)))

found_again : (found : Option ℕ) → IfSome found (λ i. i < NONE) → as_found (found_number found)
    ≡ found
found_again None l = refl
found_again (Some i) l = found_small i l

-- a number, or none, put at an index
put_there : (numbers : List ℕ) (i : ℕ) (found : Option ℕ) → IfSome found (λ n. n < NONE)
    → i < length numbers → IsNumberPut numbers (set numbers i (found_number found)) i found
put_there numbers i found l m = record {
  room = length-set numbers i (found_number found);
  here = λ within. ap as_found (get_or-set_same numbers i (found_number found) NONE m)
      ∙ found_again found l;
  others = λ k differ. ap as_found (get_or-set_other numbers i k (found_number found) NONE differ);
}

put_nowhere : (numbers : List ℕ) (i : ℕ) (found : Option ℕ) → length numbers ≤ i
    → IsNumberPut numbers numbers i found
put_nowhere numbers i found l =
    record {
      room = refl;
      here = λ within. absurd (omega (arith, l, within));
      others = λ k differ.
          refl;
    }

pub put_is : (numbers new : List ℕ) (i : ℕ) (found : Option ℕ) → IfSome found (λ n. n < NONE)
    → new ≡ put_at numbers i (found_number found)
    → IsNumberPut numbers new i found
put_is numbers new i found l is =
    elim (cases_lt i (length numbers)) [
      | inl lt ↦
          subst (λ ns. IsNumberPut numbers ns i found)
          (sym (is ∙ ap (λ b. if b then set numbers i (found_number found) else numbers)
          (lt-ltb i (length numbers) lt)))
          (put_there numbers i found l lt)
      | inr ge ↦
          subst (λ ns. IsNumberPut numbers ns i found)
          (sym (is ∙ ap (λ b. if b then set numbers i (found_number found) else numbers)
          (le-ltb i (length numbers) ge)))
          (put_nowhere numbers i found ge)
    ]

pub put_few : (numbers new : List ℕ) (i : ℕ) (found : Option ℕ) → IfSome found (λ n. n + 1 < 2 ^ 32)
    → new ≡ put_at numbers i (found_number found)
    → IsNumberPut numbers new i found
put_few numbers new i None l is = put_is numbers new i None tt is
put_few numbers new i (Some n) l is = put_is numbers new i (Some n) (omega (arith, l)) is

other_place : (c : Bool) (numbers : List ℕ) (i e h : ℕ) → h ≢ i
    → found_in (if c then set numbers i e else numbers) h ≡ found_in numbers h
other_place true numbers i e h n = ap as_found (get_or-set_other numbers i h e NONE n)
other_place false numbers i e h n = refl

same_place : (numbers : List ℕ) (i e : ℕ) (o : Option ℕ) → e < NONE → i < length numbers
    → found_in numbers i ≡ o
    → found_in (if is_none o then set numbers i e else numbers) i ≡ found_or o e true
same_place numbers i e None l m h = ap as_found (get_or-set_same numbers i e NONE m)
    ∙ found_small e l
same_place numbers i e (Some k) l m h = h

within_place : (numbers : List ℕ) (i e : ℕ) → i < length numbers
    → entered_at numbers i e ≡ (if is_none (found_in numbers i) then set numbers i e else numbers)
within_place numbers i e m =
    ap (λ b. if b && is_none (found_in numbers i) then set numbers i e else numbers)
    (lt-ltb i (length numbers) m)

none_other : (b : Bool) (o : Option ℕ) (e : ℕ) → b ≡ false → o ≡ found_or o e (b && true)
none_other false None e h = refl
none_other false (Some k) e h = refl
none_other true o e h = absurd cc

entered_there : (numbers : List ℕ) (i e h : ℕ) → e < NONE → h < length numbers
    → found_in (entered_at numbers i e) h ≡ found_or (found_in numbers h) e ((i == h) && true)
entered_there numbers i e h l m =
    elim (cases_eq i h) [
      | inl same ↦
          subst (λ j. found_in (entered_at numbers i e) j ≡ found_or (found_in numbers j) e
          ((i == j) && true)) {x = i} {y = h} same
          (let m' : i < length numbers = omega (arith, m, same) in
          ap (λ ns. found_in ns i) (within_place numbers i e m')
          ∙ same_place numbers i e (found_in numbers i) l m' refl
          ∙ sym (ap (λ b. found_or (found_in numbers i) e (b && true)) (eq-eqb i i refl)))
      | inr differ ↦
          other_place (nat_lt i (length numbers) && is_none (found_in numbers i)) numbers i e h
          (λ same. differ (sym same))
          ∙ none_other (i == h) (found_in numbers h) e (ne_eqb i h differ)
    ]

pub entered_found : (flag : Bool) (numbers : List ℕ) (i e h : ℕ) → e < NONE → h < length numbers
    → found_in (entered_if flag numbers i e) h ≡ found_or (found_in numbers h) e ((i == h) && flag)
entered_found true numbers i e h l m = entered_there numbers i e h l m
entered_found false numbers i e h l m = kept (i == h) (found_in numbers h) e

set_if_length : (c : Bool) (numbers : List ℕ) (i e : ℕ)
    → length (if c then set numbers i e else numbers) ≡ length numbers
set_if_length true numbers i e = length-set numbers i e
set_if_length false numbers i e = refl

entered_length : (flag : Bool) (numbers : List ℕ) (i e : ℕ) → length (entered_if flag numbers i e)
    ≡ length numbers
entered_length true numbers i e =
    set_if_length (nat_lt i (length numbers) && is_none (found_in numbers i)) numbers i e
entered_length false numbers i e = refl

-- ---- one entry more

wins_is : (w : Walk) (e : ℕ) → is_some (given_at w.rules.rules (deciding w e))
    ≡ is_some (wanted w e)
unfolding wanted
wins_is w e = refl

-- what decides an entry gives a context where one is decided for it
pub gives_is : (w : Walk) (e : ℕ) (found : Option ℕ) (flag : Bool) → found ≡ deciding w e
    → flag ≡ is_some (given_at w.rules.rules found) → flag ≡ is_wanted w e
gives_is w e found flag is flag_is =
    flag_is ∙ ap (λ f. is_some (given_at w.rules.rules f)) is ∙ wins_is w e

pub noted_more : (w : Walk) (e : ℕ) (decided winners more_decided more_winners : List ℕ)
    (found : Option ℕ) (flag : Bool)
    → AreNoted w e decided winners → e < walk_count w → e < NONE → found ≡ deciding w e
    → flag ≡ is_some (given_at w.rules.rules found)
    → IfSome found (λ i. i < NONE)
    → more_decided ≡ put_at decided e (found_number found)
    → more_winners ≡ entered_if flag winners (group_of w.entries e) e
    → AreNoted w (e + 1) more_decided more_winners
noted_more w e decided winners more_decided more_winners found flag noted inside l is flag_is small
    put_is_at w_is =
    let put = put_is decided more_decided e found small put_is_at in
    let wins : flag ≡ is_wanted w e = gives_is w e found flag is flag_is in
    record {
      each_entry = put.room ∙ noted.each_entry;
      decided_are = λ k before.
          elim (below_or_last e k (omega (arith, before))) [
            | inl lt ↦ put.others k (λ same. omega (arith, lt, same)) ∙ noted.decided_are k lt
            | inr same ↦
                ap (λ i. found_in more_decided i) (sym same)
                ∙ put.here (omega (arith, inside, noted.each_entry)) ∙ is
                ∙ ap (λ i. deciding w i) same
          ];
      each_group = ap length w_is ∙ entered_length flag winners (group_of w.entries e) e
          ∙ noted.each_group;
      winners_are = λ g within.
          ap (λ ns. found_in ns g) w_is
          ∙ entered_found flag winners (group_of w.entries e) e g l
          (omega (arith, within, noted.each_group))
          ∙ ap₂ (λ o b. found_or o e ((group_of w.entries e == g) && b))
          (noted.winners_are g within) wins
          ∙ ap (λ n. least_below n (can_win w g)) (sym (add-one e));
    }

-- nothing is noted before the first entry
pub none_in : (n g : ℕ) → g < n → found_in (no_numbers n) g ≡ None
none_in n g l = ap as_found (get_or-replicate n g NONE NONE l)

pub none_noted : (w : Walk) (decided winners : List ℕ) → decided ≡ no_numbers (walk_count w)
    → winners ≡ no_numbers (groups_in w.entries)
    → AreNoted w 0 decided winners
none_noted w decided winners d v = record {
  each_entry = ap length d ∙ length-replicate (walk_count w) NONE;
  decided_are = λ e before. absurd (omega (arith, before));
  each_group = ap length v ∙ length-replicate (groups_in w.entries) NONE;
  winners_are = λ g within. ap (λ ns. found_in ns g) v ∙ none_in (groups_in w.entries) g within;
}

pub room_noted : (w : Walk) (decided winners : List ℕ) → decided ≡ no_numbers (walk_count w)
    → winners ≡ no_numbers (groups_in w.entries)
    → HasWalkRoom w decided winners
room_noted w decided winners d v = record {
  each_entry = ap length d ∙ length-replicate (walk_count w) NONE;
  each_group = ap length v ∙ length-replicate (groups_in w.entries) NONE;
}

pub few_indices : (found : Option ℕ) (n : ℕ) → IfSome found (λ i. i < n) → n ≤ NONE
    → IfSome found (λ i. i < NONE)
few_indices None n h l = tt
few_indices (Some i) n h l = omega (arith, h, l)

-- what is wanted by a winner is what its specification gives
pub winning_gives : (w : Walk) (found : Option ℕ)
    → given_at w.rules.rules (option_and_then (deciding w) found) ≡ option_and_then (wanted w) found
unfolding wanted
winning_gives w None = refl
winning_gives w (Some k) = refl

-- ---- how many entries are decided to a context

pub more_wanted : (w : Walk) (n : ℕ) → wanted_below w (n + 1) ≡ wanted_below w n + one_if
    (is_wanted w n)
more_wanted w n = ap (λ m. wanted_below w m) (add-one n)
    ∙ filtered_more (is_wanted w) (all_numbers n) n

-- ---- how many entries were looked at

pub more_walked : (w : Walk) (n : ℕ) → walked_below w (n + 1) ≡ walked_below w n + one_if
    (walked w n)
more_walked w n = ap (λ m. walked_below w m) (add-one n) ∙ filtered_more (walked w) (all_numbers n)
    n

walked_far : (w : Walk) (n m : ℕ) → n ≤ m → walked_below w n ≤ walked_below w m
walked_far w n zero l = omega (arith, ap (λ k. walked_below w k) {x = n} {y = 0} (omega (arith, l)))
walked_far w n (suc m) l =
    elim (cases_lt m n) [
      | inl lt ↦ omega
          (arith, ap (λ k. walked_below w k) {x = n} {y = suc m} (omega (arith, l, lt)))
      | inr le ↦ (let more = filtered_more (walked w) (all_numbers m) m in
          let far = walked_far w n m le in omega (arith, more, far))
    ]

-- steps that are few enough when an entry is looked at are few enough for all
pub within_walked : (w : Walk) (n m before after steps : ℕ) → n < m
    → before ≤ steps + walked_below w n → after ≤ before + one_if (walked w n)
    → after ≤ steps + walked_below w m
within_walked w n m before after steps l b a =
    let more = more_walked w n in let far = walked_far w (n + 1) m (omega (arith, l)) in
    omega (arith, b, a, more, far)
