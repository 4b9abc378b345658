use Rattle.std.proofs.Common.{◌≡◌, ◌<◌, ◌^◌, take}
use Rattle.spec_match.specs.Chains.{hashed}
use Rattle.spec_match.proofs.starts.hash_of.Given as goal

abbrev pub invariant-bytes : goal.invariant-bytes
invariant-bytes l = record {
  value : l.hash ≡ hashed 0 (take l.i l.text);
  bound : l.hash < 2 ^ 32;
}
