-- What an explanation is, in terms of look-ups.
use Rattle.std.specs.Prelude.{Option, Some, None, Result, Ok, Err, filter, map}
use Rattle.std.specs.List.{cons_option, enumerate_from, last_or}
use Rattle.std.proofs.Common.{◌≡◌, ◌∙◌, refl, ap, ℕ, ◌+◌, Bool, true, false, cond, List, [], ◌∷◌}
use Rattle.std.proofs.Common.{take, drop}
use Rattle.label_base.specs.Lines.{all_or_first, fields_of, fields_said, first_of, is_comment}
use Rattle.label_base.specs.Lines.{line_said, line_value, lines_of, refusals, some_value, values}
use Rattle.label_base.specs.Lines.{why_of}
use Rattle.label_base.specs.declared.kind.Asked.TheVariants.{Of}
use Rattle.label_base.specs.declared.kind.EntryKind.{EntryKind}
use Rattle.label_base.specs.declared.lines.RefusedLine.{RefusedLine}
use Rattle.path_subs.specs.SubLines.{sub_in, subs_of}
use Rattle.path_subs.specs.Subs.{SubValue}
use Rattle.path_subs.specs.declared.sub_fault.NoSub.{NoSub}
use Rattle.spec_match.specs.LastMatch.{last_match}
use Rattle.spec_reader.specs.SpecValue.{SpecValue}
use Rattle.path_reasons.specs.Laws.{ArePartedAt, without_numbers}
use Rattle.path_reasons.specs.Members.{applies_to, decided_in, does_speak, members, others_in}
use Rattle.path_reasons.specs.Members.{place_in}
use Rattle.path_reasons.specs.SubLines.{numbered, sub_line_in, sub_lines_of, sub_of}
use Rattle.path_reasons.specs.declared.sub_line.SubLine.{SubLine}
use Rattle.path_reasons.proofs.ListLemmas.{filter_both, filter_reversed, first_else, found_first}
use Rattle.path_reasons.proofs.ListLemmas.{last_is_first, none_before, parted_at}

-- the line that is reported is the last that fits
pub line_decides : (text : List ℕ) (specs : List SpecValue) (asked : EntryKind)
    → decided_in asked (members text specs) ≡ last_match (Of asked) text specs
unfolding last_match
line_decides text specs asked =
    let held = filter (does_speak text) specs in
    found_first (applies_to asked) (members text specs)
    ∙ ap (λ xs. first_else None xs) (filter_reversed (applies_to asked) held)
    ∙ last_is_first None (filter (applies_to asked) held)
    ∙ ap (λ xs. last_or None xs) (filter_both (applies_to asked) (does_speak text) specs)

-- the others are all that match but the one that decides
pub others_follow : (text : List ℕ) (specs : List SpecValue) (asked : EntryKind)
    (decided : SpecValue) → last_match (Of asked) text specs ≡ Some decided
    → ArePartedAt asked (members text specs) decided (others_in asked (members text specs))
others_follow text specs asked decided is =
    let all = members text specs in
    let n = place_in asked all in
    record {
      before = take n all;
      behind = drop (n + 1) all;
      all_are = parted_at all n decided (line_decides text specs asked ∙ is);
      others_are = refl;
      none_applies = none_before (applies_to asked) all;
    }

-- ---- lines with their numbers and without

abbrev opt_sub : Option SubLine → Option SubValue
opt_sub None = None
opt_sub (Some line) = Some line.sub

value_alike : (comment : Bool) (number : ℕ) (read : Result SubValue NoSub)
    → opt_sub (line_value (cond comment (Ok None) (some_value (numbered number read))))
    ≡ line_value (cond comment (Ok None) (some_value read))
value_alike true number read = refl
value_alike false number (Ok sub) = refl
value_alike false number (Err why) = refl

why_alike : (comment : Bool) (number : ℕ) (read : Result SubValue NoSub)
    → why_of number (cond comment (Ok None) (some_value (numbered number read)))
    ≡ why_of number (cond comment (Ok None) (some_value read))
why_alike true number read = refl
why_alike false number (Ok sub) = refl
why_alike false number (Err why) = refl

same_value : (number : ℕ) (fields : List (List ℕ))
    → opt_sub (line_value (fields_said (sub_line_in number) fields))
    ≡ line_value (fields_said sub_in fields)
same_value number [] = refl
same_value number (field ∷ fields) =
    value_alike (is_comment field) number (sub_in (field ∷ fields))

same_why : (number : ℕ) (fields : List (List ℕ))
    → why_of number (fields_said (sub_line_in number) fields)
    ≡ why_of number (fields_said sub_in fields)
same_why number [] = refl
same_why number (field ∷ fields) =
    why_alike (is_comment field) number (sub_in (field ∷ fields))

cons_alike : (o : Option SubLine) (p : Option SubValue) (xs : List SubLine) (ys : List SubValue)
    → opt_sub o ≡ p → map sub_of xs ≡ ys
    → map sub_of (cons_option o xs) ≡ cons_option p ys
cons_alike None p xs ys same rest = ap (λ q. cons_option q (map sub_of xs)) same
    ∙ ap (cons_option p) rest
cons_alike (Some line) p xs ys same rest = ap (λ q. cons_option q (map sub_of xs)) same
    ∙ ap (cons_option p) rest

same_values : (lines : List (ℕ × List ℕ))
    → map sub_of (values (line_said sub_line_in) lines)
    ≡ values (line_said (λ number. sub_in)) lines
same_values [] = refl
same_values (l ∷ lines) =
    cons_alike _ _ _ _ (same_value l.0 (fields_of l.1)) (same_values lines)

same_refusals : (lines : List (ℕ × List ℕ))
    → refusals (line_said sub_line_in) lines ≡ refusals (line_said (λ number. sub_in)) lines
same_refusals [] = refl
same_refusals (l ∷ lines) =
    ap (λ o. cons_option o (refusals (line_said sub_line_in) lines))
    (same_why l.0 (fields_of l.1))
    ∙ ap (cons_option (why_of l.0 (fields_said sub_in (fields_of l.1)))) (same_refusals lines)

all_alike : (xs : List SubLine) (o : Option (RefusedLine NoSub))
    → without_numbers (all_or_first xs o) ≡ all_or_first (map sub_of xs) o
all_alike xs None = refl
all_alike xs (Some line) = refl

-- the lines with their numbers are those of path substitution
pub lines_are_subs : (text : List ℕ) → without_numbers (sub_lines_of text) ≡ subs_of text
lines_are_subs text =
    let lines = enumerate_from 1 (lines_of text) in
    all_alike (values (line_said sub_line_in) lines)
    (first_of (refusals (line_said sub_line_in) lines))
    ∙ ap (λ xs. all_or_first xs (first_of (refusals (line_said sub_line_in) lines)))
    (same_values lines)
    ∙ ap (λ rs. all_or_first (values (line_said (λ number. sub_in)) lines) (first_of rs))
    (same_refusals lines)
