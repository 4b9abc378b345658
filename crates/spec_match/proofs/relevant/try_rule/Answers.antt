use Rattle.std.proofs.lemmas.Result.{on_ok_weaker}
use Rattle.file_paths.specs.PathRef.{path_of}
use Rattle.spec_match.proofs.FoundLemmas.{added_rule}
use Rattle.spec_match.proofs.ScratchLemmas.{room_own}
use Rattle.spec_match.proofs.relevant.try_rule.Goals as goal

pub returns-clause-added : goal.returns-clause-added
returns-clause-added c =
    on_ok_weaker c.add_if.result
    (λ more. added_rule (path_of c.args.sought.now.path) c.args.sought.now.rules.now c.args.i
    c.index-rules-i.result
    c.can_decide-is_found.result c.args.found.now.items c.add_if.new.found.items
    c.requires.within c.index-rules-i.is c.can_decide-is_found.ensures.value more)
    c.add_if.ensures

pub can_decide-is_found-requires : goal.can_decide-is_found-requires
can_decide-is_found-requires c =
    room_own c.args.sought.now.rules.now c.args.trials.now.states c.args.i c.index-rules-i.result
    c.requires.within c.index-rules-i.is c.requires.states
