use Rattle.std.proofs.Common.{◌≡◌, ◌≤◌, length}
use Rattle.file_paths.specs.Path.{Path, is_root_path, path_text}
use Rattle.spec_match.specs.Alive.{AreAlive}
use Rattle.spec_match.specs.ListsSeen.{list_seen}
use Rattle.spec_match.specs.StatesFor.{AreStatesFor, patterns_of}
use Rattle.spec_match.proofs.RelevantLemmas.{IsTried, low_at}
use Rattle.spec_match.proofs.relevant.listed_relevant.Given as goal

abbrev pub invariant-alive : goal.invariant-alive
invariant-alive l = record {
  states : AreStatesFor (patterns_of l.rules) l.states;
  within : l.left ≤ length (list_seen l.list);
  tried : (path : Path) → l.is_root ≡ is_root_path path
      → AreAlive (patterns_of l.rules) (path_text path) (length (patterns_of l.rules))
      (list_seen l.list)
      → IsTried path l.rules (low_at (list_seen l.list) l.left) l.found.items;
}

abbrev pub decreases-alive : goal.decreases-alive
decreases-alive l = l.left
