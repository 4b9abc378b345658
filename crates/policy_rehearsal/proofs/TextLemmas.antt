-- One line more, and one turn more.
use Rattle.std.proofs.Common.{◌≡◌, ◌∙◌, ap, sym, refl, ℕ, zero, suc, ◌+◌, ◌<◌, ◌≤◌, List, [], ◌∷◌}
use Rattle.std.proofs.Common.{◌++◌, drop, length, map, get_or, add-one, append_assoc, append-nil}
use Rattle.std.specs.Prelude.{slice_get, option_map, Some}
use Rattle.std.specs.List.{flat_map}
use Rattle.std.proofs.lemmas.Grind.{flat_map-append}
use Rattle.std.proofs.lemmas.List.{at_drop_more, drop_all, length-map}
use Rattle.std.proofs.lemmas.Option.{get_or_from_slice_get}
use Rattle.label_base.specs.Bounded.{all_numbers}
use Rattle.report_text.specs.Message.{MessageValue}
use Rattle.report_text.specs.Texts.{message_line, report_of}
use Rattle.find_records.specs.Record.{Record}
use Rattle.policy_rehearsal.specs.Lent.{change_lent, turn_lent}
use Rattle.policy_rehearsal.specs.Text.{change_message, no_turn, text_at, turn_text}
use Rattle.policy_rehearsal.specs.declared.rehearsed.Change.{Change}
use Rattle.policy_rehearsal.specs.declared.rehearsed.VersionChanges.{VersionChanges}

-- one text more
pub one_more : (text : ℕ → List ℕ) (front old new : List ℕ) (n : ℕ) → new ≡ old ++ text n
    → old ≡ front ++ flat_map text (all_numbers n)
    → new ≡ front ++ flat_map text (all_numbers (n + 1))
one_more text front old new n added so_far =
    added ∙ ap (λ t. t ++ text n) so_far ∙ append_assoc front (flat_map text (all_numbers n))
    (text n)
    ∙ ap (λ t. front ++ t) (ap (λ t. flat_map text (all_numbers n) ++ t) (sym (append-nil (text n)))
    ∙ sym (flat_map-append text (all_numbers n) (n ∷ []))
    ∙ ap (λ m. flat_map text (all_numbers m)) (sym (add-one n)))

first_line : (message : MessageValue) (messages : List MessageValue)
    → report_of (message ∷ messages) ≡ message_line message ++ report_of messages
unfolding report_of
first_line message messages = refl

pub none_written : (to : List ℕ) → to ≡ to ++ report_of []
unfolding report_of
none_written to = sym (append-nil to)

-- ---- changes

abbrev pub lines_of : List Record → List Change → List ℕ
lines_of entries changes = report_of (map (change_message entries) (map change_lent changes))

pub lines_next : (entries : List Record) (changes : List Change) (k : ℕ) (change : Change)
    (before now all : List ℕ) → k < length changes
    → change ≡ get_or changes k change
    → before ++ lines_of entries (drop k changes) ≡ all
    → now ≡ before ++ message_line (change_message entries (change_lent change))
    → now ++ lines_of entries (drop (k + 1) changes) ≡ all
lines_next entries changes k change before now all l is so_far added =
    let rest = lines_of entries (drop (k + 1) changes) in
    let here : lines_of entries (drop k changes) ≡ message_line
    (change_message entries (change_lent change)) ++ rest =
    at_drop_more (lines_of entries) changes k change l
    ∙ first_line (change_message entries (change_lent (get_or changes k change)))
    (map (change_message entries) (map change_lent (drop (k + 1) changes)))
    ∙ ap (λ (c : Change). message_line (change_message entries (change_lent c)) ++ rest) (sym is) in
    ap (λ t. t ++ rest) added
    ∙ append_assoc before (message_line (change_message entries (change_lent change))) rest
    ∙ ap (λ t. before ++ t) (sym here) ∙ so_far

pub lines_end : (entries : List Record) (changes : List Change) (k : ℕ) (before all : List ℕ)
    → length changes ≤ k
    → before ++ lines_of entries (drop k changes) ≡ all → before ≡ all
lines_end entries changes k before all l so_far =
    none_written before ∙ ap (λ (cs : List Change). before ++ lines_of entries cs)
    (sym (drop_all k changes l)) ∙ so_far

-- ---- turns

slice_get_map : (turns : List VersionChanges) (k : ℕ) (turn : VersionChanges) → slice_get turns k
    ≡ Some turn
    → slice_get (map turn_lent turns) k ≡ Some (turn_lent turn)
slice_get_map [] k turn is = absurd cc
slice_get_map (t ∷ turns) zero turn is = ap (option_map turn_lent) is
slice_get_map (t ∷ turns) (suc k) turn is = slice_get_map turns k turn is

-- the text of the turn at a place
pub next_turn : (entries : List Record) (names : List (List ℕ)) (turns : List VersionChanges)
    (k : ℕ)
    (before now name : List ℕ) (turn : VersionChanges)
    → name ≡ get_or names k [] → slice_get turns k ≡ Some turn
    → now ≡ before ++ turn_text entries (k + 1) name (turn_lent turn)
    → now ≡ before ++ text_at entries names (map turn_lent turns) k
next_turn entries names turns k before now name turn named is added =
    let there : get_or (map turn_lent turns) k no_turn ≡ turn_lent turn =
    get_or_from_slice_get (map turn_lent turns) k (turn_lent turn) no_turn
    (slice_get_map turns k turn is) in
    added ∙ (λ i. before ++ turn_text entries (k + 1) (named i) (sym there i))

pub all_turns : (turns : List VersionChanges) (k : ℕ) → k ≡ length turns → k
    ≡ length (map turn_lent turns)
all_turns turns k is = is ∙ sym (length-map turns turn_lent)
