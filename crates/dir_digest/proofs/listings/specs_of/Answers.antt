use Rattle.std.proofs.Common.{rules}
use Rattle.dir_digest.specs.Basis.{IsReadSpec}
use Rattle.dir_digest.proofs.ReadLemmas.{each_next}
use Rattle.dir_digest.proofs.SpelledLemmas.{map_next}
use Rattle.dir_digest.proofs.listings.specs_of.Goals as goal

pub specs-preserved : goal.specs-preserved
specs-preserved c = (
  search (rules, map_next),
  each_next IsReadSpec c.args.rules.now c.specs.i (search rules)
      (search rules) c.specs.invariant.1,
)
