use Rattle.std.proofs.Common.{map}
use Rattle.file_paths.specs.PathRef.{path_of}
use Rattle.spec_match.specs.StatesFor.{spec_in}
use Rattle.spec_match.proofs.FrontLemmas.{all_found}
use Rattle.spec_match.proofs.relevant.relevant_by_starts.Goals as goal

pub returns-clause-value : goal.returns-clause-value
returns-clause-value c =
    c.in_order.ensures (path_of c.args.sought.now.path) (map spec_in c.args.sought.now.rules.now)
    (all_found (path_of c.args.sought.now.path) c.args.sought.now.rules.now c.args.keys.now
    c.front_text-text.result.now c.in_ok-hash.hash c.mixed-below.result _ _ _
    c.new-found.ensures.items c.front_text-text.ensures c.in_ok-hash.ensures.hash
    c.mixed-below.ensures.value c.requires.fronts c.in_ok-hash.ensures.added
    c.in_ok-add_below.ensures.added)
