-- What is asked for is few, and what is written saves nothing.
use Rattle.std.proofs.Common.{◌≡◌, ◌∙◌, ap, subst, sym, ℕ, ◌<◌, ◌≤◌, ◌+◌, ◌^◌, List, [], length}
use Rattle.std.proofs.Common.{arith}
use Rattle.std.specs.Prelude.{Bool, true, false, if◌then◌else◌, Result, Ok, Err, IfOk, None}
use Rattle.std.specs.Prelude.{option_map}
use Rattle.find_records.specs.Record.{Record}
use Rattle.label_rules.specs.declared.rules.Rules.{Rules}
use Rattle.run_endings.specs.declared.ending.Ending.{Ending}
use Rattle.tool_runs.specs.Stages.{saved_name}
use Rattle.tool_words.specs.Items.{Item}
use Rattle.tool_words.specs.Words.{operand_paths, values_of}
use Rattle.tree_model.specs.Selection.{SelectedValue, selected_by}
use Rattle.relabel_core.proofs.SelectedLemmas.{selected_is_for}
use Rattle.policy_rehearsal.specs.Answer.{absent_by, rehearsal_of, rehearse_ending}
use Rattle.policy_rehearsal.specs.Rehearsal.{RehearsedValue, rehearsed}
use Rattle.policy_rehearsal.specs.Words.{AreFew}
use Rattle.policy_rehearsal.specs.declared.letters.TheConstants.{BASE, MOST_POLICIES}
use Rattle.policy_rehearsal.specs.declared.words.RehearseWords.{RehearseWords}

pub few_words : {E : Type 0} (result : Result RehearseWords E) (items listed : List Item)
    (count first : ℕ) → listed ≡ items
    → IfOk result (λ words. words.bases ≡ values_of BASE listed)
    → IfOk result (λ words. words.choice.operands ≡ operand_paths listed)
    → IfOk result (λ words. words.options.dry ≡ false)
    → length (values_of BASE items) ≤ MOST_POLICIES → length (operand_paths items) ≤ count
    → count + first < 2 ^ 31 → IfOk result AreFew
few_words (Err fault) items listed count first same b p wet most few all = tt
few_words (Ok words) items listed count first same b p wet most few all = record {
  policies = omega (
    arith,
    ap length b,
    ap (λ (xs : List Item). length (values_of BASE xs)) same,
    most,
  );
  operands = omega (
    arith,
    ap length p,
    ap (λ (xs : List Item). length (operand_paths xs)) same,
    few,
    all,
  );
  wet = wet;
}

pub saves_none : (words : RehearseWords) (policies : List Rules) (entries : List Record)
    (ending : Ending)
    → ending ≡ rehearsal_of words policies entries → option_map saved_name ending.saved ≡ None
unfolding rehearsal_of
saves_none words policies entries ending is = ap (λ (e : Ending). option_map saved_name e.saved) is

unless_few : (ignored : Bool) (absent : List ℕ) (n : ℕ) → length absent ≤ n
    → length (if ignored then [] else absent) ≤ n
unless_few true absent n l = omega arith
unless_few false absent n l = l

-- the operands without an entry are no more than the operands
pub absent_few : (words : RehearseWords) (entries : List Record) (absent : List ℕ)
    (chosen : SelectedValue) → absent ≡ absent_by words chosen.absent
    → chosen ≡ selected_by words.choice entries → length words.choice.operands < 2 ^ 31
    → length absent < 2 ^ 32
absent_few words entries absent chosen is chosen_is few =
    let most : length chosen.absent ≤ length words.choice.operands =
    subst (λ (c : SelectedValue). length c.absent ≤ length words.choice.operands) (sym chosen_is)
    (selected_is_for words.choice entries).absent_few in
    omega (
      arith,
      few,
      ap length is,
      unless_few words.options.ignore_absent chosen.absent
          (length words.choice.operands) most,
    )

pub answer_shown : {E : Type 0} (words : RehearseWords) (policies : List Rules)
    (entries : List Record) (absent : List ℕ) (chosen : SelectedValue) (shown : RehearsedValue)
    (result : Result Ending E)
    → absent ≡ absent_by words chosen.absent → chosen ≡ selected_by words.choice entries
    → shown ≡ rehearsed entries words.choice words.options policies
    → IfOk result (λ ending. ending ≡ rehearse_ending words entries absent shown.turns)
    → IfOk result (λ ending. ending ≡ rehearsal_of words policies entries)
unfolding rehearsal_of
answer_shown words policies entries absent chosen shown (Err fault) is chosen_is shown_is made = tt
answer_shown words policies entries absent chosen shown (Ok ending) is chosen_is shown_is made =
    made
    ∙ (λ i. rehearse_ending words entries
    ((is ∙ ap (λ (c : SelectedValue). absent_by words c.absent) chosen_is) i) (shown_is i).turns)
