-- A text that is made line by line.
use Rattle.std.proofs.Common.{◌≡◌, ◌∙◌, sym, refl, ap, subst, ℕ, ◌+◌, ◌≤◌, false, List, [], ◌∷◌}
use Rattle.std.proofs.Common.{◌++◌, length, min, append_assoc, append-nil, length-append, arith}
use Rattle.std.specs.Prelude.{Option, Some, None}
use Rattle.std.specs.List.{filter_map, list_all, list_any}
use Rattle.std.proofs.lemmas.Bool.{and_from, or_parts}
use Rattle.std.proofs.lemmas.Grind.{flat_map-append}
use Rattle.std.proofs.lemmas.List.Elements.{filter_map-append}
use Rattle.std.proofs.lemmas.List.Folds.{list_all-append, list_any-append}
use Rattle.label_base.specs.Lines.{first_of}
use Rattle.label_base.specs.declared.lines.RefusedLine.{RefusedLine}
use Rattle.spec_reader.specs.declared.spec_fault.SpecWhy.{SpecWhy}
use Rattle.home_contexts.specs.Homes.{Given, first_refusal, home_line, is_long, refusal, homes_text}
use Rattle.home_contexts.specs.Making.{AddsGiven, IsMade, StopsAtRefused, is_home_given}
use Rattle.home_contexts.specs.declared.homes_fault.HomesWhy.{HomesWhy}
use Rattle.home_contexts.specs.declared.homes_fault.HomesWhy.TheVariants.{Refused, TooLong}
use Rattle.home_contexts.specs.declared.homes_fault.HomesWhy.TheVariants.{TooManySpecs}
use Rattle.home_contexts.specs.declared.made.Made.{Made}

-- ---- the first refusal

abbrev or_later : Option (RefusedLine SpecWhy) → Option (RefusedLine SpecWhy) → Option (RefusedLine
    SpecWhy)
or_later None later = later
or_later (Some refused) later = Some refused

first_of-append : (xs ys : List (RefusedLine SpecWhy)) → first_of (xs ++ ys) ≡ or_later (first_of
    xs) (first_of ys)
first_of-append [] ys = refl
first_of-append (x ∷ xs) ys = refl

first-append : (front back : List Given) → first_refusal (front ++ back) ≡ or_later (first_refusal
    front) (first_refusal back)
first-append front back = ap first_of (filter_map-append refusal front back) ∙ first_of-append
    (filter_map refusal front) (filter_map refusal back)

both_fine : (front back : List Given) → first_refusal front ≡ None → first_refusal back ≡ None →
    first_refusal (front ++ back) ≡ None
both_fine front back f b = first-append front back ∙ ap (λ o. or_later o (first_refusal back)) f ∙ b

later_refused : (front back : List Given) (refused : RefusedLine SpecWhy) → first_refusal front ≡
    None → first_refusal back ≡ Some refused → first_refusal (front ++ back) ≡ Some refused
later_refused front back refused f b = first-append front back ∙ ap (λ o. or_later o (first_refusal
    back)) f ∙ b

front_refused : (front back : List Given) (refused : RefusedLine SpecWhy) → first_refusal front ≡
    Some refused → first_refusal (front ++ back) ≡ Some refused
front_refused front back refused f = first-append front back ∙ ap (λ o. or_later o (first_refusal
    back)) f

stops_front : (cause : Option HomesWhy) (front back : List Given) → StopsAtRefused cause front
    → StopsAtRefused cause
    (front ++ back)
stops_front None front back h = tt
stops_front (Some (Refused refused)) front back h = front_refused front back refused h
stops_front (Some TooManySpecs) front back h = h
stops_front (Some TooLong) front back h = h

stops_back : (cause : Option HomesWhy) (front back : List Given) → first_refusal front ≡ None →
    StopsAtRefused cause back → StopsAtRefused cause (front ++ back)
stops_back None front back f h = tt
stops_back (Some (Refused refused)) front back f h = later_refused front back refused f h
stops_back (Some TooManySpecs) front back f h = h
stops_back (Some TooLong) front back f h = h

-- ---- a loop: what is left of all lines, and what was made before

pub record IsGoing (start now : Made) (all rest : List Given) : Type 0 where
  pub done : List Given
  pub whole : all ≡ done ++ rest
  pub adds : AddsGiven start now done

pub going_first : (start : Made) (all : List Given) → IsGoing start start all all
going_first start all = record {
  done = [];
  whole = refl;
  adds = record {
    parts = refl;
    fine = refl;
    made = λ given h. subst (IsMade start) (sym (append-nil
        given)) h;
  };
}

pub adds_none : (start : Made) (next : List Given) → next ≡ [] → AddsGiven start start next
unfolding going_first
adds_none start next none = subst (AddsGiven start start) (sym none) (going_first start []).adds

pub going_more : (start now new : Made) (all rest next later : List Given) → IsGoing start now all
    rest → rest ≡ next ++ later → AddsGiven now new next → IsGoing start new all later
going_more start now new all rest next later going split gave = record {
  done = going.done ++ next;
  whole = going.whole ∙ ap (λ r. going.done ++ r) split ∙ sym (append_assoc going.done next later);
  adds = record {
    parts = list_all-append is_home_given going.done next
        ∙ and_from (list_all is_home_given going.done)
        (list_all is_home_given next) going.adds.parts gave.parts;
    fine = both_fine going.done next going.adds.fine gave.fine;
    made = λ given h. subst (IsMade new) (append_assoc given going.done next) (gave.made (given ++
        going.done) (going.adds.made given h));
  };
}

pub going_stops : (cause : Option HomesWhy) (start now : Made) (all rest next later : List Given) →
    IsGoing start now all rest → rest ≡ next ++ later → StopsAtRefused cause next
    → StopsAtRefused cause all
going_stops cause start now all rest next later going split h =
    subst (StopsAtRefused cause) (sym (going.whole ∙ ap (λ r. going.done ++ r) split))
    (stops_back cause
    going.done (next ++ later) going.adds.fine (stops_front cause next later h))

pub going_last : (start now : Made) (all rest : List Given) → IsGoing start now all rest → rest ≡ []
    → AddsGiven start now all
going_last start now all rest going end =
    let same : all ≡ going.done = going.whole ∙ ap (λ r. going.done ++ r) end ∙ append-nil
    going.done in
    subst (AddsGiven start now) (sym same) going.adds

-- ---- lines that are short

pub next_short : (start now : Made) (all rest next later : List Given) → IsGoing start now all rest
    → rest ≡ next ++ later → list_any is_long all ≡ false → list_any is_long next ≡ false
next_short start now all rest next later going split short =
    let whole : list_any is_long (going.done ++ (next ++ later)) ≡ false = ap (list_any is_long)
    (sym (going.whole ∙ ap (λ r. going.done ++ r) split)) ∙ short in
    let cut = or_parts (list_any is_long going.done) (list_any is_long (next ++ later)) (sym
    (list_any-append is_long going.done (next ++ later)) ∙ whole) in
    (or_parts (list_any is_long next) (list_any is_long later) (sym (list_any-append is_long next
    later) ∙ cut.1)).0

-- ---- what is kept

pub text_more : (given : List Given) (next : Given) → homes_text (given ++ next ∷ [])
    ≡ homes_text given
    ++ home_line next
text_more given next = flat_map-append home_line given (next ∷ []) ∙ ap (λ t. homes_text given ++ t)
    (append-nil (home_line next))

pub made_more : (old new : Made) (line : List ℕ) (given : List Given) (next : Given)
    → new.lines ≡ min 65537 (old.lines + 1) → new.bytes ≡ min 67108865 (old.bytes + length line) →
    (new.lines ≤ 65536 → new.bytes ≤ 67108864 → new.text ≡ old.text ++ line)
    → line ≡ home_line next → IsMade old given → IsMade new (given ++ next ∷ [])
made_more old new line given next lines bytes text same made = record {
  counted = omega (arith, lines, made.counted, length-append given (next ∷ []));
  measured =
      let sum = length-append (homes_text given) (home_line next) in
      omega (arith, bytes, made.measured, ap length (text_more given next), sum, ap length same);
  kept = λ few short.
      let before : old.lines ≤ 65536 = omega (arith, lines, few) in
      let shorter : old.bytes ≤ 67108864 = omega (arith, bytes, short) in
      text few short ∙ ap (λ t. t ++ line) (made.kept before shorter)
      ∙ ap (λ l. homes_text given ++ l)
      same ∙ sym (text_more given next);
}
