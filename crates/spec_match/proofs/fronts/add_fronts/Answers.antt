use Rattle.std.proofs.Common.{◌++◌, arith}
use Rattle.spec_match.specs.Fronts.{front_keys}
use Rattle.spec_match.proofs.FrontLemmas.{fronts_end, fronts_on}
use Rattle.spec_match.proofs.fronts.add_fronts.Goals as goal

pub bytes-preserved : goal.bytes-preserved
bytes-preserved c = record {
  bound = c.mixed-hash.ensures.bound;
  keys = fronts_on c.args.start.now c.args.i c.bytes.byte-index c.bytes.hash c.mixed-hash.result
      c.bytes.keys.items c.add_if_front.new.keys.items
      (c.args.keys.now.items ++ front_keys c.args.i 0 c.args.start.now) c.bytes-test.true
      c.mixed-hash.ensures.value c.in_ok-add_if_front.ensures c.bytes.invariant.keys;
}

pub returns : goal.returns
returns c = fronts_end c.args.start.now c.args.i c.bytes.byte-index c.bytes.hash c.bytes.keys.items
    (c.args.keys.now.items ++ front_keys c.args.i 0 c.args.start.now) (omega arith)
    c.bytes.invariant.keys
