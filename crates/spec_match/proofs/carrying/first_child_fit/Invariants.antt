use Rattle.std.proofs.Common.{◌∷◌, ◌++◌, []}
use Rattle.file_paths.specs.Path.{Path, is_root_path, path_text}
use Rattle.spec_match.specs.StatesFor.{AreStatesFor, patterns_of}
use Rattle.spec_match.proofs.AnswerLemmas.{IsPassed}
use Rattle.std.proofs.Common.{◌≡◌}
use Rattle.spec_match.proofs.carrying.first_child_fit.Given as goal

abbrev pub invariant-alive : goal.invariant-alive
invariant-alive l = record {
  states : AreStatesFor (patterns_of l.rules) l.trials.states;
  passed : (path : Path) → l.query.is_root ≡ is_root_path path
      → IsPassed l.query.asked (path_text path) (path_text (path ++ l.query.name.now ∷ [])) l.rules
      l.from l.k;
}
