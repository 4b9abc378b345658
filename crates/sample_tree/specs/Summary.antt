-- The text that tells what two walks over a sample count.
use Rattle.std.specs.Prelude.{ℕ, List, ◌++◌}
use Rattle.std.specs.Fmt.{decimal}
use Rattle.sample_tree.specs.declared.summary.Summary.{Summary}
use Rattle.sample_tree.specs.declared.summary.TheConstants.{CONFLICTS, ENTRIES, ERRORS, LINE_END}
use Rattle.sample_tree.specs.declared.summary.TheConstants.{RELABELLED, RELABELLED_AGAIN}
use Rattle.sample_tree.specs.declared.summary.TheConstants.{SKIPPED_AGAIN}

-- a number in decimal digits behind its name
unfoldable pub number_line : List ℕ → ℕ → List ℕ
number_line name number = name ++ decimal number ++ LINE_END.now

-- a line for each number: those of the first walk, then those of the second
unfoldable pub summary_text : Summary → List ℕ
summary_text s =
    number_line ENTRIES.now s.entries
    ++ number_line RELABELLED.now s.relabelled
    ++ number_line CONFLICTS.now s.conflicts
    ++ number_line ERRORS.now s.errors
    ++ number_line SKIPPED_AGAIN.now s.skipped_again
    ++ number_line RELABELLED_AGAIN.now s.relabelled_again
