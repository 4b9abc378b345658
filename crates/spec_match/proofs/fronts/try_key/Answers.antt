use Rattle.std.proofs.Common.{◌≡◌, ◌%◌, map, sym}
use Rattle.std.proofs.lemmas.Result.{on_ok_weaker}
use Rattle.file_paths.specs.PathRef.{path_of}
use Rattle.spec_match.specs.StatesFor.{spec_in}
use Rattle.spec_match.specs.declared.fronts.TheConstants.{SPAN}
use Rattle.spec_match.proofs.FoundLemmas.{added_as}
use Rattle.spec_match.proofs.fronts.try_key.Goals as goal

pub returns-clause-added : goal.returns-clause-added
returns-clause-added c =
    on_ok_weaker c.try_rule.result
    (added_as (path_of c.args.sought.now.path) (map spec_in c.args.sought.now.rules.now)
    (λ j. j ≡ c.args.key % SPAN)
    (λ j. c.args.key % SPAN ≡ j) c.args.found.now.items c.try_rule.new.found.items
    (λ j q d. sym q))
    c.try_rule.ensures.added
