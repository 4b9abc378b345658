use Rattle.std.proofs.Common.{◌≡◌, ◌∙◌, ◌+◌, ◌-◌, ◌*◌, ap, arith, drop, length, length-drop, subst}
use Rattle.std.proofs.Common.{sym, take}
use Rattle.std.proofs.lemmas.List.{take_all}
use Rattle.spec_match.proofs.TrailLemmas.{take_both}
use Rattle.spec_match.proofs.trail.common_chunks.Goals as goal

pub chunks-preserved : goal.chunks-preserved
chunks-preserved c =
    let a = c.args.a.now in
    let b = c.args.b.now in
    let n = 16 * c.chunks.i in
    let more : n + 16 ≡ 16 * (c.chunks.i + 1) = omega arith in
    let of_a = take_all (length a - n) (drop n a) (omega (arith, length-drop n a)) in
    let of_b = take_all (length b - n) (drop n b) (omega (arith, length-drop n b)) in
    subst (λ k. take k a ≡ take k b) more
    (take_both n 16 a b c.chunks.invariant
    (sym (ap (take 16) of_a) ∙ c.is_same_chunk.ensures c.if-not-is_same_chunk.false
    ∙ ap (take 16) of_b))
