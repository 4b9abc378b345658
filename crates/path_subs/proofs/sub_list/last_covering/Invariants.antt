use Rattle.std.proofs.Common.{◌≡◌, List, length}
use Rattle.label_base.specs.Bounded.{greatest_below}
use Rattle.file_paths.specs.PathRef.{path_of}
use Rattle.path_subs.specs.Listed.{AreSubsListed, sub_at}
use Rattle.path_subs.specs.Subs.{SubValue}
use Rattle.path_subs.proofs.ListedLemmas.{covers_to}
use Rattle.path_subs.proofs.sub_list.last_covering.Given as goal

-- what is found by sources' texts of so many bytes
abbrev pub invariant-ends : goal.invariant-ends
invariant-ends l = (subs : List SubValue) → AreSubsListed subs (length subs) l.last.entries l.marks
    l.longest
    → l.found ≡ greatest_below (length subs)
    (λ i. covers_to (path_of l.path) l.place (sub_at subs i))
