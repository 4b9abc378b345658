use Rattle.std.proofs.Common.{◌≡◌}
use Rattle.std.specs.Prelude.{map}
use Rattle.label_base.specs.Bounded.{all_numbers}
use Rattle.relabel_core.specs.Answer.{walk_in}
use Rattle.relabel_core.specs.Walk.{digest_after}
use Rattle.relabel_core.proofs.next.next_digests.Given as goal

-- the digests of the entries so far
abbrev pub invariant-entries : goal.invariant-entries
invariant-entries l = l.row ≡ map (digest_after (walk_in l.walked)) (all_numbers l.d)
