-- The changes that are told lead to the labels at the end.
use Rattle.std.proofs.Common.{◌≡◌, ◌∙◌, ap, sym, subst, refl, ℕ, zero, suc, ◌<◌, ◌==◌}
use Rattle.std.proofs.Common.{Bool, true, false, List, [], ◌∷◌, ◌++◌, map, arith, inl, inr}
use Rattle.std.proofs.Common.{eq-eqb, eqb-true}
use Rattle.std.specs.Prelude.{nat_lt, if◌then◌else◌, is_some, length, Option, Some, None}
use Rattle.std.specs.Prelude.{Result, Ok, Err}
use Rattle.std.specs.Cmp.{first_so}
use Rattle.std.specs.List.{cons_option, filter_map}
use Rattle.std.specs.Result.{result_ok}
use Rattle.std.proofs.lemmas.Bool.{cases_lt, false≢true, lt-ltb, le-ltb}
use Rattle.std.proofs.lemmas.List.Elements.{filter_map-append}
use Rattle.std.proofs.lemmas.Option.{same_Some}
use Rattle.label_base.specs.Bounded.{all_numbers}
use Rattle.label_base.proofs.BoundedLemmas.{IsLeast, least_shown}
use Rattle.input_output.specs.Store.{Files}
use Rattle.context_syntax.specs.Context.{ContextValue}
use Rattle.context_syntax.specs.declared.label.Label.{Label}
use Rattle.context_syntax.specs.declared.label.Label.TheVariants.{Is}
use Rattle.find_records.specs.Record.{Record}
use Rattle.find_records.specs.declared.format.Format.{Format}
use Rattle.tree_model.specs.Groups.{group_of, groups_in, inodes_behind, label_in}
use Rattle.tree_model.specs.Links.{inode_of}
use Rattle.label_rules.specs.Decide.{Change, Customized, Keep, VerdictValue, given_in, label_by}
use Rattle.label_rules.specs.declared.rules.Rules.{Rules}
use Rattle.run_endings.specs.declared.ending.Ending.{Ending}
use Rattle.run_faults.specs.Causes.{and_then}
use Rattle.run_faults.specs.declared.cause.Cause.{Cause}
use Rattle.run_input.specs.Records.{entries_for, records_read}
use Rattle.tool_runs.specs.Plan.{answer_by}
use Rattle.relabel_core.specs.Changes.{change_at, change_with, group_change}
use Rattle.relabel_core.specs.Walk.{Walk, can_win, walk_count, is_found_at, new_label}
use Rattle.relabel_core.specs.Walk.{new_label_with, verdict_with, wanted, winner}
use Rattle.relabel_runs.specs.Premises.{AreTreeRuns, NoDigestClash}
use Rattle.relabel_runs.specs.Runs.{TreeRun, TreeState, state_after, end}
use Rattle.relabel_runs.specs.Runs.{records_read_as, walk_at}
use Rattle.relabel_runs.proofs.LabelledLemmas.{alike_seen}
use Rattle.relabel_runs.proofs.OutlineLemmas.{group_same}
use Rattle.policy_rehearsal.specs.Answer.{rehearsal_of}
use Rattle.policy_rehearsal.specs.Files.{files_named, rules_read}
use Rattle.policy_rehearsal.specs.Plan.{rehearse_plan}
use Rattle.policy_rehearsal.specs.Rehearsal.{ChangeValue, change_to}
use Rattle.policy_rehearsal.specs.Rehearsal.{changes_in, bare_state, rehearsed_by}
use Rattle.policy_rehearsal.specs.Rehearsal.{runs_of, turns_from}
use Rattle.policy_rehearsal.specs.Reported.{LabelsUnlessClash, ReportKeeps, label_at_end}
use Rattle.policy_rehearsal.specs.Reported.{label_behind, label_changed, labels_at_end}
use Rattle.policy_rehearsal.proofs.AcceptedRuns.{policies_are_runs}
use Rattle.policy_rehearsal.specs.declared.words.RehearseWords.{RehearseWords}
use Rattle.policy_rehearsal.proofs.StandingLemmas.{keeps_labels, same_below}
use Rattle.policy_rehearsal.proofs.TurnLemmas.{change_there}
use Rattle.policy_rehearsal.proofs.Unlabelled.{label_is}

-- ---- one entry more

behind_more : (entries : List Record) (g : ℕ) (front back : List ChangeValue) (label : Label)
    → label_behind entries g (front ++ back) label ≡ label_behind entries g back
    (label_behind entries g front label)
behind_more entries g [] back label = refl
behind_more entries g (change ∷ front) back label =
    behind_more entries g front back (label_changed entries g change label)

-- the label of a group behind the change of an entry, which is one of its names or isn't
abbrev behind_one : Bool → Option ContextValue → Label → Label
behind_one own None label = label
behind_one own (Some to) label = if own then Is to else label

one_behind : (w : Walk) (g e : ℕ) (found : Option ContextValue) (label : Label)
    → label_behind w.entries g (cons_option (change_to w e found) []) label
    ≡ behind_one (group_of w.entries e == g) found label
one_behind w g e None label = refl
one_behind w g e (Some to) label = refl

other_stays : (found : Option ContextValue) (label : Label) → behind_one false found label ≡ label
other_stays None label = refl
other_stays (Some to) label = refl

-- ---- before and behind the winner

-- the label of a group behind the changes of the entries below n
abbrev label_below : Walk → (g n : ℕ) → (found : Option ℕ) → Label
label_below w g n None = label_in w.entries g
label_below w g n (Some k) = if nat_lt k n then new_label_with w g (Some k) else label_in w.entries
    g

given_is : (verdict : VerdictValue) (label : Label) → behind_one true (given_in verdict) label
    ≡ label_by verdict label
given_is Keep label = refl
given_is Customized label = refl
given_is (Change to) label = refl

given_wet : (dry : Bool) (verdict : VerdictValue) (label : Label)
    → behind_one true (if dry then None else given_in verdict) label
    ≡ (if dry then label else label_by verdict label)
given_wet true verdict label = refl
given_wet false verdict label = given_is verdict label

winner_gives : (w : Walk) (g : ℕ) (found : Option ℕ) → behind_one true (group_change w g found)
    (label_in w.entries g) ≡ new_label_with w g found
winner_gives w g found = given_wet w.options.dry (verdict_with w g found) (label_in w.entries g)

-- at the winner the label changes, and at no other
at_winner : (here before behind : Bool) (found : Option ContextValue) (old new : Label)
    → (here ≡ true → (before ≡ false) × (behind ≡ true)) → (here ≡ false → behind ≡ before)
    → behind_one true found old ≡ new
    → behind_one true (if here then found else None) (if before then new else old)
    ≡ (if behind then new else old)
at_winner true before behind found old new at other gives =
    ap (λ b. behind_one true found (if b then new else old)) (at refl).0 ∙ gives
    ∙ ap (λ b. if b then new else old) (sym (at refl).1)
at_winner false before behind found old new at other gives =
    ap (λ b. if b then new else old) (sym (other refl))

-- a number other than n is below n just where it is below n + 1
below_same : (k n : ℕ) → (k ≡ n → ⊥) → nat_lt k (suc n) ≡ nat_lt k n
below_same k n apart =
    elim (cases_lt k n) as (λ _. nat_lt k (suc n) ≡ nat_lt k n) [
      | inl lt ↦ lt-ltb k (suc n) (omega (arith, lt)) ∙ sym (lt-ltb k n lt)
      | inr ge ↦ elim (cases_lt n k) as (λ _. nat_lt k (suc n) ≡ nat_lt k n) [
        | inl more ↦ le-ltb k (suc n) (omega (arith, more)) ∙ sym (le-ltb k n ge)
        | inr same ↦ absurd (apart (omega (arith, ge, same)))
      ]
    ]

apart_from : (k n : ℕ) → (k == n) ≡ false → k ≡ n → ⊥
apart_from k n differ same = false≢true (sym differ ∙ eq-eqb k n same)

own_step : (w : Walk) (g n : ℕ) (found : Option ℕ)
    → behind_one true (if is_found_at found n then group_change w g found else None)
    (label_below w g n found) ≡ label_below w g (suc n) found
own_step w g n None = refl
own_step w g n (Some k) =
    at_winner (k == n) (nat_lt k n) (nat_lt k (suc n)) (group_change w g (Some k))
    (label_in w.entries g) (new_label_with w g (Some k))
    (λ same.
    let is = eqb-true k n same in
    (le-ltb k n (omega (arith, is)), lt-ltb k (suc n) (omega (arith, is))))
    (λ differ. below_same k n (apart_from k n differ))
    (winner_gives w g (Some k))

-- an entry that is no name of the group isn't its winner
other_step : (w : Walk) (g n : ℕ) (found : Option ℕ) → (group_of w.entries n == g) ≡ false
    → IsLeast (walk_count w) (can_win w g) found
    → label_below w g n found ≡ label_below w g (suc n) found
other_step w g n None other least = refl
other_step w g n (Some k) other least =
    let apart : k ≡ n → ⊥ =
    λ same. false≢true (sym (subst (λ e. (group_of w.entries e == g) ≡ false) (sym same) other)
    ∙ first_so (group_of w.entries k == g) (is_some (wanted w k)) least.1) in
    ap (λ b. if b then new_label_with w g (Some k) else label_in w.entries g)
    (sym (below_same k n apart))

winner_least : (w : Walk) (g : ℕ) → IsLeast (walk_count w) (can_win w g) (winner w g)
unfolding winner
winner_least w g = least_shown (walk_count w) (can_win w g)

step_by : (w : Walk) (g n : ℕ) (own : Bool) → (group_of w.entries n == g) ≡ own
    → behind_one own (change_with w n (winner w (group_of w.entries n)))
    (label_below w g n (winner w g)) ≡ label_below w g (suc n) (winner w g)
step_by w g n true is =
    ap (λ k. behind_one true
    (if is_found_at (winner w k) n then group_change w k (winner w k) else None)
    (label_below w g n (winner w g)))
    (eqb-true (group_of w.entries n) g is)
    ∙ own_step w g n (winner w g)
step_by w g n false is =
    other_stays (change_with w n (winner w (group_of w.entries n))) (label_below w g n (winner w g))
    ∙ other_step w g n (winner w g) is (winner_least w g)

change_is : (w : Walk) (e : ℕ) → change_at w e ≡ change_with w e (winner w (group_of w.entries e))
unfolding change_at
change_is w e = refl

-- ---- all entries

below_start : (w : Walk) (g : ℕ) (found : Option ℕ) → label_in w.entries g ≡ label_below w g zero
    found
below_start w g None = refl
below_start w g (Some k) = ap (λ b. if b then new_label_with w g (Some k) else label_in w.entries g)
    (sym (le-ltb k zero (omega arith)))

below_end : (w : Walk) (g : ℕ) (found : Option ℕ) → IsLeast (walk_count w) (can_win w g) found
    → label_below w g (walk_count w) found ≡ new_label_with w g found
below_end w g None least = stays w.options.dry
  where
    stays : (dry : Bool) → label_in w.entries g
        ≡ (if dry then label_in w.entries g else label_in w.entries g)
    stays true = refl
    stays false = refl
below_end w g (Some k) least =
    ap (λ b. if b then new_label_with w g (Some k) else label_in w.entries g)
    (lt-ltb k (walk_count w) least.0)

behind_all : (w : Walk) (g n : ℕ)
    → label_behind w.entries g (filter_map (change_there w) (all_numbers n)) (label_in w.entries g)
    ≡ label_below w g n (winner w g)
behind_all w g zero = below_start w g (winner w g)
behind_all w g (suc n) =
    let old = label_in w.entries g in
    let so_far = filter_map (change_there w) (all_numbers n) in
    ap (λ changes. label_behind w.entries g changes old)
    (filter_map-append (change_there w) (all_numbers n) (n ∷ []))
    ∙ behind_more w.entries g so_far (cons_option (change_there w n) []) old
    ∙ ap (label_behind w.entries g (cons_option (change_there w n) [])) (behind_all w g n)
    ∙ one_behind w g n (change_at w n) (label_below w g n (winner w g))
    ∙ ap (λ found. behind_one (group_of w.entries n == g) found (label_below w g n (winner w g)))
    (change_is w n)
    ∙ step_by w g n (group_of w.entries n == g) refl

-- the changes of a walk lead to the labels that it leaves
pub walk_leads : (w : Walk) (g : ℕ) → label_behind w.entries g (changes_in w) (label_in w.entries g)
    ≡ new_label w g
unfolding changes_in
walk_leads w g = behind_all w g (walk_count w) ∙ below_end w g (winner w g) (winner_least w g)

-- ---- all turns

-- numbers of groups decide, and the labels of the tree don't
behind_same : (a b : List Record) (g : ℕ) (changes : List ChangeValue) (label : Label)
    → ((e : ℕ) → group_of a e ≡ group_of b e)
    → label_behind a g changes label ≡ label_behind b g changes label
behind_same a b g [] label same = refl
behind_same a b g (change ∷ changes) label same =
    behind_same a b g changes (label_changed a g change label) same
    ∙ ap (λ k. label_behind b g changes (if k == g then Is change.to else label))
    (same change.entry)

read_inodes : (format : Format) (entries : List Record)
    → map inode_of (records_read_as format entries) ≡ map inode_of entries
read_inodes format [] = refl
read_inodes format (entry ∷ entries) =
    ap (λ rest. inode_of entry ∷ rest) (read_inodes format entries)

groups_read : (format : Format) (entries : List Record) → groups_in (records_read_as format entries)
    ≡ groups_in entries
groups_read format entries = ap (λ inodes. length (inodes_behind [] inodes))
    (read_inodes format entries)

run_leads : (entries : List Record) (s : TreeState) (run : TreeRun) (g : ℕ) → g < groups_in entries
    → label_behind entries g (changes_in (walk_at entries s run)) (s.labels g)
    ≡ new_label (walk_at entries s run) g
run_leads entries s run g l =
    let w = walk_at entries s run in
    let read = records_read_as run.options.format entries in
    let within : g < groups_in read =
    subst (λ n. g < n) (sym (groups_read run.options.format entries)) l in
    behind_same entries w.entries g (changes_in w) (s.labels g)
    (λ e. sym (group_same w.entries entries e (alike_seen run.options.format entries s.labels)))
    ∙ ap (label_behind w.entries g (changes_in w)) (sym (label_is read s.labels g within))
    ∙ walk_leads w g

turns_lead : (entries : List Record) (s : TreeState) (runs : List TreeRun) (g : ℕ)
    → g < groups_in entries
    → label_at_end entries g (turns_from entries s runs) (s.labels g) ≡ (end entries s runs).labels
    g
turns_lead entries s [] g l = refl
turns_lead entries s (run ∷ runs) g l =
    ap (label_at_end entries g (turns_from entries (state_after entries s run) runs))
    (run_leads entries s run g l)
    ∙ turns_lead entries (state_after entries s run) runs g l

pub changes_lead : (entries : List Record) (runs : List TreeRun)
    → labels_at_end entries (rehearsed_by entries runs).turns ≡ (rehearsed_by entries runs).labels
changes_lead entries runs =
    let s = bare_state entries in
    same_below (λ g. label_at_end entries g (turns_from entries s runs) (s.labels g))
    (end entries s runs).labels (groups_in entries)
    (λ g l. turns_lead entries s runs g l)

-- ---- what is answered

shown_keeps : (entries : List Record) (runs : List TreeRun)
    → (NoDigestClash entries runs → AreTreeRuns entries runs)
    → LabelsUnlessClash entries runs (labels_at_end entries (rehearsed_by entries runs).turns)
shown_keeps entries runs are = λ none. changes_lead entries runs
    ∙ keeps_labels entries runs (are none)

shown_by : (words : RehearseWords) (known : Files) (input : List ℕ) (IsReport : List ℕ → Type 0)
    (ending : Ending)
    → (files : Result (List Rules) Cause) (records : Result (List Record) Cause)
    → (rules_read (files_named words.bases) (length words.bases) known).says ≡ files
    → records_read words.options.format input ≡ records
    → ◌≡◌ {A = Result Ending Cause}
    (and_then files
    (λ policies. and_then records (λ entries. Ok (rehearsal_of words policies entries))))
    (Ok ending)
    → IsReport ending.report → ReportKeeps words known input IsReport
shown_by words known input IsReport ending (Ok policies)
    (Ok entries) files_say input_says is shown =
    record {
      policies = policies;
      entries = entries;
      files_say = files_say;
      input_says = input_says;
      report = subst (λ (e : Ending). IsReport e.report) (sym (same_Some _ _ (ap result_ok is)))
          shown;
      keeps = shown_keeps entries (runs_of words.choice words.options policies)
          (policies_are_runs words.options.format input entries (files_named words.bases)
          (length words.bases) known policies words.choice words.options input_says files_say);
    }
shown_by words known input IsReport ending (Ok policies) (Err cause) files_say input_says is shown =
    absurd cc
shown_by words known input IsReport ending (Err cause) records files_say input_says is shown =
    absurd cc

pub answer_keeps : (words : RehearseWords) (known : Files) (input : List ℕ)
    (IsReport : List ℕ → Type 0) (ending : Ending)
    → (rehearse_plan words).answer known input ≡ Ok ending → IsReport ending.report
    → ReportKeeps words known input IsReport
unfolding answer_by entries_for
answer_keeps words known input IsReport ending is shown =
    shown_by words known input IsReport ending
    (rules_read (files_named words.bases) (length words.bases) known).says
    (records_read words.options.format input) refl refl is shown
