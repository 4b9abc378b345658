use Rattle.std.proofs.Common.{◌==◌, ◌∙◌, ap, arith, w64}
use Rattle.std.specs.Int.{trailing_zeros}
use Rattle.std.proofs.lemmas.List.{length-set, get_or_default}
use Rattle.std.proofs.lemmas.Nat.Bits.{bit_at-trailing_zeros}
use Rattle.pattern_match.proofs.LowestBits.{still_marked}
use Rattle.pattern_match.proofs.Linking.{link_more, all_linked}
use Rattle.pattern_match.proofs.segment.link.Goals as goal

pub index_mut-requires : goal.index_mut-requires
index_mut-requires c =
    let t = bit_at-trailing_zeros w64 c.places.left (omega arith) (omega arith) in
    let r = c.requires (trailing_zeros w64 c.places.left)
    (ap (λ n. n == 1) (c.places.invariant.1 (trailing_zeros w64 c.places.left) t.1)) in
    let n = c.places.invariant.0 in
    omega arith

pub places-preserved : goal.places-preserved
places-preserved c =
    let t = bit_at-trailing_zeros w64 c.places.left (omega arith) (omega arith) in
    let r = c.requires (trailing_zeros w64 c.places.left)
    (ap (λ n. n == 1) (c.places.invariant.1 (trailing_zeros w64 c.places.left) t.1)) in
    let n = c.places.invariant.0 in (
      length-set c.places.rows.items _ _ ∙ n,
      λ j h. c.places.invariant.1 j (still_marked c.places.left j (omega arith) (omega arith) h),
      λ p k. link_more c.places.rows.items c.places.left c.args.first c.index_mut.result.now p k _
          (omega arith) (omega arith) (omega arith)
          (c.index_mut.ensures.value ∙ get_or_default c.places.rows.items
          (trailing_zeros w64 c.places.left) c.index_mut.result.now 0 (omega arith))
          (c.places.invariant.2 p k),
    )

pub returns-clause-bits : goal.returns-clause-bits
returns-clause-bits c = λ p k. all_linked c.places.rows.items c.places.left c.args.first p k _
    (omega arith) (c.places.invariant.2 p k)
