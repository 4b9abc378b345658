use Rattle.std.proofs.lemmas.List.Filters.{dedup_is}
use Rattle.spec_match.proofs.FoundLemmas.{found_sorted}
use Rattle.spec_match.proofs.relevant.in_order.Goals as goal

pub returns : goal.returns
returns c = λ path specs h. found_sorted path specs c.args.found.items _ _ h
    c.sort_unstable.ensures.permutation c.sort_unstable.ensures.sorted
    (dedup_is _ _ _ c.dedup.ensures.filtered)
