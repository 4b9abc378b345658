use Rattle.std.proofs.Common.{◌≡◌, map, true}
use Rattle.std.proofs.lemmas.Result.{on_ok_weaker}
use Rattle.file_paths.specs.PathRef.{path_of}
use Rattle.spec_match.specs.Chains.{starts_at}
use Rattle.spec_match.specs.StatesFor.{spec_in}
use Rattle.spec_match.proofs.FoundLemmas.{added_as}
use Rattle.spec_match.proofs.relevant.try_from.Goals as goal

pub returns-clause-added : goal.returns-clause-added
returns-clause-added c =
    on_ok_weaker c.try_rule.result
    (added_as (path_of c.args.sought.now.path) (map spec_in c.args.sought.now.rules.now)
    (λ j. j ≡ c.args.i)
    (λ j. (j ≡ c.args.i) × (starts_at c.args.sought.now.rules.now c.args.at j ≡ true))
    c.args.found.now.items c.try_rule.new.found.items (λ j q d. q.0))
    c.try_rule.ensures.added
