use Rattle.std.proofs.Common.{◌≡◌, ◌<◌, ◌^◌, ◌++◌, drop}
use Rattle.spec_match.specs.Fronts.{front_keys}
use Rattle.spec_match.proofs.fronts.add_fronts.Given as goal

abbrev pub invariant-bytes : goal.invariant-bytes
invariant-bytes l = record {
  bound : l.hash < 2 ^ 32;
  keys : l.keys.items ++ front_keys l.i l.hash (drop l.byte-index l.start) ≡ l.fn.keys.items
      ++ front_keys l.i 0 l.start;
}
