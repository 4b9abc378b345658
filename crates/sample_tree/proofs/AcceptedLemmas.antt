-- A sample refuses nothing.
use Rattle.std.proofs.Common.{◌≡◌, ◌∙◌, ap, refl, subst, ℕ, ◌+◌, ◌≤◌, Bool, true, false, cond, List}
use Rattle.std.proofs.Common.{length, arith}
use Rattle.std.specs.Prelude.{Option, Some, None, Result, Ok, Err, nat_le}
use Rattle.std.specs.Option.{option_and_then, unwrap_or}
use Rattle.std.proofs.lemmas.Bool.Decides.{nat_tests}
use Rattle.input_output.specs.Store.{Files}
use Rattle.find_records.specs.Record.{Record}
use Rattle.tree_model.specs.Entries as tree
use Rattle.label_rules.specs.declared.rules.Rules.{Rules}
use Rattle.tool_words.specs.Items.{Item}
use Rattle.tool_words.specs.Values.{number_named, up_to}
use Rattle.tool_words.specs.Words.{items_read, unless_wrong, value_of}
use Rattle.tool_words.specs.declared.usage.Usage.{Usage}
use Rattle.run_faults.specs.Causes.{and_then}
use Rattle.run_input.specs.Records.{entries_for}
use Rattle.run_endings.specs.declared.ending.End.TheVariants.{Done}
use Rattle.run_endings.specs.declared.ending.Ending.{Ending}
use Rattle.tool_runs.specs.Plan.{answer_by, refusal_in}
use Rattle.sample_tree.specs.Accepted.{IsAlwaysDone}
use Rattle.sample_tree.specs.Plan.{answered_for, sample_plan}
use Rattle.sample_tree.specs.Walks.{sample_ending}
use Rattle.sample_tree.specs.Words.{sample_words_by, sample_words_of, sample_end_wrong, sample}
use Rattle.sample_tree.specs.Words.{sample_words}
use Rattle.sample_tree.specs.declared.words.SampleWords.{SampleWords}
use Rattle.sample_tree.specs.declared.words.TheConstants.{COUNT, MOST_FILES}
use Rattle.sample_tree.proofs.EntryLemmas.{sample_accepted}
use Rattle.sample_tree.proofs.OwnRules.{own_say, sample_rules}
use Rattle.sample_tree.proofs.RunLemmas.{sampled}

-- ---- what the words admit

few_by : (most n : ℕ) (v : Bool) → nat_le n most ≡ v → unwrap_or (cond v (Some n) None) 0 ≤ most
few_by most n true e = grind (arith, nat_tests)
few_by most n false e = omega arith

few_up_to : (most : ℕ) (found : Option ℕ) → unwrap_or (up_to most found) 0 ≤ most
few_up_to most None = omega arith
few_up_to most (Some n) = few_by most n (nat_le n most) refl

few_named : (most : ℕ) (text : Option (List ℕ))
    → unwrap_or (option_and_then (number_named most) text) 0 ≤ most
few_named most None = omega arith
few_named most (Some text) = few_up_to most _

few_asked : (items : List Item) → (sample_words_by items).count ≤ MOST_FILES
few_asked items = few_named MOST_FILES (value_of COUNT items)

few_unless : (wrong : Option Usage) (items : List Item) (asked : SampleWords)
    → unless_wrong wrong (sample_words_by items) ≡ Ok asked → asked.count ≤ MOST_FILES
few_unless None items asked e =
    let same : sample_words_by items ≡ asked = cc in
    subst (λ (a : SampleWords). a.count ≤ MOST_FILES) same (few_asked items)
few_unless (Some wrong) items asked e = cc

few_of : (count : ℕ) (items : Result (List Item) Usage) (asked : SampleWords)
    → sample_words_of count items ≡ Ok asked → asked.count ≤ MOST_FILES
few_of count (Ok items) asked e = few_unless (sample_end_wrong items count) items asked e
few_of count (Err wrong) asked e = cc

-- words ask for no more files than a sample may have
pub few_in_words : (first : ℕ) (words : List (List ℕ)) (asked : SampleWords)
    → sample_words first words ≡ Ok asked → asked.count ≤ MOST_FILES
few_in_words first words asked e = few_of (length words + first) (items_read sample first words)
    asked e

-- ---- what is answered

-- what a sample with so many files leaves
ending_for : ℕ → Ending
ending_for count = sample_ending sample_rules (tree.entries_of (sampled count))

answered : (count : ℕ) → count ≤ MOST_FILES → answered_for sample_rules count
    ≡ Ok (ending_for count)
unfolding answered_for ending_for
answered count few =
    ap (λ entries. and_then entries
    (λ (found : List Record). Ok (sample_ending sample_rules found))) (sample_accepted count few)

is_done : (count : ℕ) → (ending_for count).end ≡ Done
unfolding ending_for sample_ending
is_done count = refl

answer_is : (words : SampleWords) (known : Files) (input : List ℕ) → words.count ≤ MOST_FILES
    → (sample_plan words).answer known input ≡ Ok (ending_for words.count)
unfolding answer_by entries_for
answer_is words known input few =
    ap (λ rules. and_then rules (λ (found : Rules). answered_for found words.count)) own_say
    ∙ answered words.count few

-- a sample's files and records are always accepted
pub always_done : (words : SampleWords) → words.count ≤ MOST_FILES
    → IsAlwaysDone (sample_plan words)
always_done words few = record {
  accepts = λ known. ap refusal_in own_say;
  answers = λ known input. (
    ending_for words.count,
    answer_is words known input few,
    is_done
        words.count,
  );
}
