use Rattle.std.proofs.Common.{arith, refl}
use Rattle.file_paths.specs.PathRef.{path_of}
use Rattle.spec_match.proofs.FrontLemmas.{from_all, from_begun, from_on}
use Rattle.spec_match.proofs.fronts.add_below.Goals as goal

pub keys-init : goal.keys-init
keys-init c = record {
  states = c.requires.states;
  added = from_begun (path_of c.args.sought.now.path) c.args.sought.now.rules.now c.args.keys.now
      c.count_before-first.result c.args.found.now.items;
}

pub keys-preserved : goal.keys-preserved
keys-preserved c = record {
  states = c.try_key.ensures.states;
  added = from_on (path_of c.args.sought.now.path) c.args.sought.now.rules.now c.args.keys.now
      c.count_before-first.result c.keys.at _ c.args.found.now.items c.keys.found.items
      c.try_key.new.found.items refl c.keys.invariant.added c.in_ok-try_key.ensures.added;
}

pub returns-clause-added : goal.returns-clause-added
returns-clause-added c =
    from_all (path_of c.args.sought.now.path) c.args.sought.now.rules.now c.args.keys.now
    c.count_before-first.result
    c.count_to-end.result c.keys.at c.args.hash c.args.found.now.items c.keys.found.items
    c.requires.count (omega arith) c.count_before-first.ensures c.count_to-end.ensures.parted
    c.keys.invariant.added
