-- The parts of a walk's report.
use Rattle.std.proofs.Common.{◌≡◌, ◌∙◌, sym, refl, ap, ap₂, ℕ, zero, suc, ◌+◌, ◌<◌, ◌≤◌, Bool, true}
use Rattle.std.proofs.Common.{List, [], ◌∷◌, ◌++◌, length, drop, get_or, Option, Some, None, arith}
use Rattle.std.proofs.Common.{if◌then◌else◌, add-one, append-nil, append_assoc}
use Rattle.std.specs.Prelude.{slice_get}
use Rattle.std.specs.List.{cons_option, filter_map, flat_map}
use Rattle.std.proofs.lemmas.Grind.{flat_map-append}
use Rattle.std.proofs.lemmas.List.{at_drop_more, drop_all}
use Rattle.std.proofs.lemmas.List.Elements.{filter_map-append}
use Rattle.label_base.specs.Bounded.{all_numbers}
use Rattle.file_paths.specs.Path.{Path}
use Rattle.report_text.specs.Message.{MessageValue, Absent}
use Rattle.report_text.specs.Texts.{message_line, report_of}
use Rattle.relabel_core.specs.Report.{AreRaised, absent_text, optional_text, text_below}
use Rattle.relabel_core.specs.Report.{unflagged_line}
use Rattle.relabel_core.specs.Walk.{Walk, walk_count, line_of_spec, unmatched_line, unmatched_lines}

one_text : (message : Option MessageValue) → flat_map message_line (cons_option message [])
    ≡ optional_text message
one_text None = refl
one_text (Some message) = append-nil (message_line message)

pub text_more : (line : ℕ → Option MessageValue) (n : ℕ) → text_below line (n + 1) ≡ text_below line
    n ++ optional_text (line n)
unfolding report_of
text_more line n =
    ap (λ m. text_below line m) (add-one n) ∙ ap (λ ms. flat_map message_line ms)
    (filter_map-append line (all_numbers n) (n ∷ []))
    ∙ flat_map-append message_line (filter_map line (all_numbers n)) (filter_map line (n ∷ []))
    ∙ ap (λ t. text_below line n ++ t) (one_text (line n))

pub none_written : (to : List ℕ) → to ≡ to ++ report_of []
unfolding report_of
none_written to = sym (append-nil to)

-- one line more, where there is one
pub line_written : (line : ℕ → Option MessageValue) (n : ℕ) (old before now : List ℕ)
    (message : Option MessageValue)
    → before ≡ old ++ text_below line n → message ≡ line n → now ≡ before ++ optional_text message
    → now ≡ old ++ text_below line (n + 1)
line_written line n old before now message b m w =
    w ∙ ap₂ (λ t o. t ++ optional_text o) b m ∙ append_assoc old (text_below line n)
    (optional_text (line n))
    ∙ ap (λ t. old ++ t) (sym (text_more line n))

pub report_append : (xs ys : List MessageValue) → report_of (xs ++ ys) ≡ report_of xs
    ++ report_of ys
unfolding report_of
report_append xs ys = flat_map-append message_line xs ys

pub all_written : (a b c : List MessageValue) (old one two three : List ℕ)
    → one ≡ old ++ report_of a → two ≡ one ++ report_of b → three ≡ two ++ report_of c
    → three ≡ old ++ report_of (a ++ b ++ c)
all_written a b c old one two three p q r =
    r ∙ ap (λ t. t ++ report_of c) (q ∙ ap (λ t. t ++ report_of b) p
    ∙ append_assoc old (report_of a) (report_of b)
    ∙ ap (λ t. old ++ t) (sym (report_append a b)))
    ∙ append_assoc old (report_of (a ++ b)) (report_of c)
    ∙ ap (λ t. old ++ t) (sym (report_append (a ++ b) c))

-- ---- operands

absent_first : (operands : List Path) (i : ℕ) (is : List ℕ) → absent_text operands (i ∷ is)
    ≡ message_line (Absent (get_or operands i [])) ++ absent_text operands is
unfolding report_of
absent_first operands i is = refl

-- the line of one operand more, of those that are left
pub absent_next : (operands : List Path) (indices : List ℕ) (k : ℕ) (before now all : List ℕ)
    → k < length indices
    → before ++ absent_text operands (drop k indices) ≡ all
    → now ≡ before ++ message_line (Absent (get_or operands (get_or indices k 0) []))
    → now ++ absent_text operands (drop (k + 1) indices) ≡ all
absent_next operands indices k before now all l b w =
    let i = get_or indices k 0 in
    let rest = absent_text operands (drop (k + 1) indices) in
    let here : absent_text operands (drop k indices) ≡ message_line (Absent (get_or operands i []))
    ++ rest =
    at_drop_more (absent_text operands) indices k 0 l
    ∙ absent_first operands i (drop (k + 1) indices) in
    ap (λ t. t ++ rest) w ∙ append_assoc before (message_line (Absent (get_or operands i []))) rest
    ∙ ap (λ t. before ++ t) (sym here) ∙ b

pub absent_end : (operands : List Path) (indices : List ℕ) (k : ℕ) (to all : List ℕ)
    → length indices ≤ k
    → to ++ absent_text operands (drop k indices) ≡ all → to ≡ all
unfolding report_of
absent_end operands indices k to all l b =
    sym (append-nil to) ∙ ap (λ is. to ++ absent_text operands is) (sym (drop_all k indices l)) ∙ b

-- ---- flags

unflagged_same : (w : Walk) (flags : List Bool) (m : ℕ) → AreRaised w (walk_count w) flags
    → m ≤ length w.rules.rules
    → filter_map (unflagged_line w.rules flags) (all_numbers m) ≡ filter_map (unmatched_line w)
    (all_numbers m)
unflagged_same w flags zero raised l = refl
unflagged_same w flags (suc m) raised l =
    filter_map-append (unflagged_line w.rules flags) (all_numbers m) (m ∷ [])
    ∙ ap₂ (λ ms b. ms ++ cons_option (if b then None else line_of_spec (slice_get w.rules.rules m))
    [])
    (unflagged_same w flags m raised (omega (arith, l))) (raised.raised m (omega (arith, l)))
    ∙ sym (filter_map-append (unmatched_line w) (all_numbers m) (m ∷ []))

pub unmatched_text : (w : Walk) (flags : List Bool) → w.options.warn_unmatched ≡ true
    → AreRaised w (walk_count w) flags
    → text_below (unflagged_line w.rules flags) (length w.rules.rules)
    ≡ report_of (unmatched_lines w)
unmatched_text w flags warned raised =
    ap report_of (unflagged_same w flags (length w.rules.rules) raised (omega arith))
    ∙ ap (λ b. report_of
    (if b then filter_map (unmatched_line w) (all_numbers (length w.rules.rules)) else []))
    (sym warned)
