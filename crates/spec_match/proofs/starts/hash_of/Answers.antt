use Rattle.std.proofs.Common.{◌∙◌, ap, arith, get_or, sym}
use Rattle.spec_match.specs.Chains.{mixed}
use Rattle.spec_match.proofs.ChainLemmas.{hashed_more}
use Rattle.spec_match.proofs.starts.hash_of.Goals as goal

pub bytes-preserved : goal.bytes-preserved
bytes-preserved c = record {
  value = c.mixed-hash.ensures.value ∙ ap (λ h. mixed h (get_or c.args.text.now c.bytes.i 0))
      c.bytes.invariant.value ∙ sym (hashed_more c.args.text.now c.bytes.i 0 (omega arith));
  bound = c.mixed-hash.ensures.bound;
}
