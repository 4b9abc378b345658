-- The paths of accepted records are made of names.
use Rattle.std.proofs.Common.{◌≡◌, refl, subst, ℕ, true, false, cond, Bool, List, [], ◌∷◌, inl, inr}
use Rattle.std.specs.Prelude.{Option, Some, None, Result, Ok, Err, nat_lt, length}
use Rattle.std.specs.List.{AllByRecursion}
use Rattle.std.proofs.lemmas.List.Elements.{All-contains, All-from_recursion}
use Rattle.file_paths.specs.Path.{are_names}
use Rattle.find_records.specs.Grammar.{IsRun, SpellsRecord, more, none, records_of}
use Rattle.find_records.specs.Record.{Record}
use Rattle.find_records.specs.declared.format.Format.{Format}
use Rattle.find_records.specs.declared.fault.RecordsFault.{RecordsFault}
use Rattle.find_records.proofs.RunGrammar.{run_means}
use Rattle.tree_model.specs.Entries.{doubled, entries_of, unless_doubled}
use Rattle.tree_model.proofs.EntryLemmas.{from_entries}
use Rattle.tree_model.proofs.Members.{Has, contains_from_has}
use Rattle.run_faults.specs.declared.cause.Cause.TheVariants.{Limit}
use Rattle.run_faults.specs.declared.cause.LimitKind.TheVariants.{RecordBytes}
use Rattle.run_input.specs.Records.{entries_read, record_limits, records_or_cause, records_read}
use Rattle.run_input.specs.declared.records.TheConstants.{MOST_RECORD_BYTES}
use Rattle.policy_rehearsal.proofs.AcceptedLines.{read_names}

abbrev IsNamed : Record → Type 0
IsNamed r = are_names r.path ≡ true

named_in : (rs : List Record) (r : Record) → AllByRecursion IsNamed rs → Has rs r → IsNamed r
named_in rs r all has =
    All-contains IsNamed rs r (All-from_recursion IsNamed rs all) (contains_from_has rs r has)

spelled : (format : Format) (bytes : List ℕ) (r : Record) → SpellsRecord format bytes r → IsNamed r
spelled format bytes r s = read_names s.fields.path r.path s.record_is.path

run_named : (format : Format) (bytes : List ℕ) (rs : List Record) → IsRun format bytes rs
    → AllByRecursion IsNamed rs
run_named format bytes rs none = tt
run_named format bytes rs (more piece rest first others ends good run) =
    (spelled format piece first good, run_named format rest others run)

each_within : (rs : List Record) → ((r : Record) → Has rs r → IsNamed r)
    → AllByRecursion IsNamed rs
each_within [] h = tt
each_within (r ∷ rs) h = (h r (inl refl), each_within rs (λ x m. h x (inr m)))

entries_named : (records entries : List Record) (twice : Option (ℕ × ℕ))
    → records_or_cause (unless_doubled twice (entries_of records)) ≡ Ok entries
    → AllByRecursion IsNamed records → AllByRecursion IsNamed entries
entries_named records entries None h all =
    let same : entries_of records ≡ entries = cc in
    subst (AllByRecursion IsNamed) same
    (each_within (entries_of records) (λ r m. named_in records r all (from_entries records r m)))
entries_named records entries (Some numbers) h all = absurd cc

read_named : (format : Format) (bytes : List ℕ) (entries : List Record)
    (read : Result (List Record) RecordsFault) → records_of format record_limits bytes ≡ read
    → entries_read read ≡ Ok entries → AllByRecursion IsNamed entries
read_named format bytes entries (Ok records) is h =
    entries_named records entries (doubled records) h
    (run_named format bytes records ((run_means format record_limits bytes (Ok records)).0 is).0)
read_named format bytes entries (Err fault) is h = absurd cc

limited_named : (format : Format) (bytes : List ℕ) (entries : List Record) (long : Bool)
    → (cond long (Err (Limit RecordBytes))
    (entries_read (records_of format record_limits bytes))) ≡ Ok entries
    → AllByRecursion IsNamed entries
limited_named format bytes entries true h = absurd cc
limited_named format bytes entries false h =
    read_named format bytes entries (records_of format record_limits bytes) refl h

pub paths_are : (format : Format) (input : List ℕ) (entries : List Record)
    → records_read format input ≡ Ok entries → AllByRecursion (λ r. are_names r.path ≡ true) entries
unfolding records_read
paths_are format input entries h =
    limited_named format input entries (nat_lt MOST_RECORD_BYTES (length input)) h
