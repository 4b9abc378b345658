-- The records of a sample are the entries of a tree: no two contradict each other.
use Rattle.std.proofs.Common.{◌≡◌, ◌∙◌, ap, refl, sym, subst, ℕ, ◌+◌, ◌*◌, ◌≤◌, true, cond, List}
use Rattle.std.proofs.Common.{[], ◌∷◌, length, min, arith, inl, inr}
use Rattle.std.specs.Prelude.{Option, Some, None, Result, Ok, nat_lt}
use Rattle.std.specs.List.{AllByRecursion}
use Rattle.std.proofs.lemmas.Bool.{le-ltb, true≢false}
use Rattle.find_records.specs.Record.{Record}
use Rattle.find_records.specs.declared.format.Format.TheVariants.{One}
use Rattle.find_records.specs.Grammar.{records_of}
use Rattle.find_records.proofs.RunGrammar.{run_means}
use Rattle.tree_model.specs.Entries as tree
use Rattle.tree_model.specs.Entries.{contradicts, doubled, tree_of, unless_doubled}
use Rattle.tree_model.specs.Numbered.{numbered_from}
use Rattle.tree_model.proofs.DoubledLemmas.{doubled_right}
use Rattle.tree_model.proofs.Members.{Has}
use Rattle.tree_model.proofs.NumberedLemmas.{in_item}
use Rattle.tree_model.proofs.SameLemmas.{conflict_at, conflict_itself, conflict_path}
use Rattle.tree_model.proofs.Verdicts.{Verdict}
use Rattle.run_faults.specs.declared.cause.Cause.{Cause}
use Rattle.run_input.specs.Records.{records_or_cause, records_read, entries_read, record_limits}
use Rattle.run_input.specs.declared.records.TheConstants.{MOST_RECORD_BYTES, MOST_RECORDS}
use Rattle.sample_tree.specs.Sample.{sample_records}
use Rattle.sample_tree.specs.declared.records.TheConstants.{MOST_DIRECTORIES}
use Rattle.sample_tree.proofs.LineLemmas.{placed_at}
use Rattle.sample_tree.proofs.RunLemmas.{AreLines, IsPlaced, sample_lines, sampled}

placed_in : (records : List Record) (found : Record) → AllByRecursion IsPlaced records
    → Has records found → IsPlaced found
placed_in [] found all has = absurd has
placed_in (r ∷ rs) found all has =
    elim has [ inl same ↦ subst IsPlaced same all.0 | inr behind ↦ placed_in rs found all.1 behind ]

-- records that their paths tell don't contradict each other
peaceful : (a b : Record) → IsPlaced a → IsPlaced b → contradicts a b ≡ true → ⊥
peaceful a b placed other clash =
    let same : a ≡ b = sym placed ∙ ap placed_at (conflict_path a b clash) ∙ other in
    true≢false (sym clash ∙ conflict_at a b b b same refl ∙ conflict_itself b)

none_by : (records : List Record) (found : Option (ℕ × ℕ)) → AllByRecursion IsPlaced records
    → Verdict (numbered_from 1 records) found → found ≡ None
none_by records None all verdict = refl
none_by records (Some pair) all verdict =
    absurd (peaceful verdict.head.item verdict.other.item
    (placed_in records verdict.head.item all (in_item 1 records verdict.head verdict.has_head))
    (placed_in records verdict.other.item all
    (in_item 1 records verdict.other verdict.has_other)) verdict.clashes)

undoubled : (records : List Record) → AllByRecursion IsPlaced records → doubled records ≡ None
undoubled records all = none_by records (doubled records) all (doubled_right records)

within : (most size : ℕ) (refused accepted : Result (List Record) Cause) → size ≤ most
    → cond (nat_lt most size) refused accepted ≡ accepted
within most size refused accepted few = ap (λ b. cond b refused accepted) (le-ltb most size few)

-- such a run within the limits is accepted
accepted : (text : List ℕ) (records : List Record) (count : ℕ) → AreLines text records count
    → 60 * count ≤ MOST_RECORD_BYTES → count ≤ MOST_RECORDS → records_read One text
    ≡ Ok (tree.entries_of records)
unfolding records_read
accepted text records count lines bytes few =
    within MOST_RECORD_BYTES (length text) _ (entries_read (records_of One record_limits text))
    (omega (arith, lines.short))
    ∙ ap entries_read
    ((run_means One record_limits text (Ok records)).1
    (lines.run, omega (arith, lines.counted)))
    ∙ ap (λ found. records_or_cause (unless_doubled found (tree.entries_of records)))
    (undoubled records lines.placed)

-- the records of a sample are accepted
pub sample_accepted : (n : ℕ) → n ≤ 1000000 → records_read One (sample_records n)
    ≡ Ok (tree.entries_of (sampled n))
sample_accepted n few =
    accepted (sample_records n) (sampled n) (1 + (min n MOST_DIRECTORIES + n)) (sample_lines n few)
    (omega arith) (omega arith)
