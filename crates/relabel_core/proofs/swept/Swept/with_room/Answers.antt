use Rattle.std.proofs.Common.{rules, ◌≡◌, [], ap}
use Rattle.relabel_core.proofs.StoredLemmas.{empty_keeps_none}
use Rattle.relabel_core.proofs.swept.Swept.with_room.Goals as goal

pub returns-clause-made : goal.returns-clause-made
returns-clause-made c =
    let empty : c.new-made.result.entries ≡ [] = search rules in
    λ d. ap (λ digests. digests d) (empty_keeps_none c.new-made.result empty)
