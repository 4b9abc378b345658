use Rattle.std.proofs.Common.{◌≡◌, ◌∙◌, ap, ap₂, arith}
use Rattle.std.specs.Prelude.{nat_lt}
use Rattle.relabel_core.specs.Counts.{count_at}
use Rattle.relabel_core.specs.Digests.{walk_before}
use Rattle.relabel_core.proofs.CountsLemmas.{rise_is}
use Rattle.relabel_core.proofs.digests.Digests.does_rise.Goals as goal

pub returns : goal.returns
returns c = λ wet has.
    let digests = c.args.self.now in
    let counts = digests.counts.items in
    let at : (i : _) → count_at c.as_slice-counts.result.now i ≡ count_at counts i =
    λ i. ap (λ ns. count_at ns i) c.as_slice-counts.ensures.value in
    ap₂ (λ a b. nat_lt a b) (c.count_at.ensures ∙ at c.args.d)
    (c.count_at-2.ensures ∙ at c.extent.result)
    ∙ rise_is (walk_before digests) c.args.d c.extent.result counts
    (omega (arith, c.extent.ensures.behind)) c.extent.ensures.within
    (digests.needed.counted c.args.d wet has) c.extent.ensures.run
