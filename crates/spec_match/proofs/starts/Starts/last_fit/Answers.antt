use Rattle.std.proofs.Common.{◌≡◌, ◌∙◌, ◌+◌, ◌%◌, ap, arith, get_or, length, subst, suc, sym, take}
use Rattle.std.specs.Prelude.{◌&&◌}
use Rattle.label_base.specs.Bounded.{greatest_below}
use Rattle.spec_match.specs.Chains.{bucket_of, fits_at, is_in_bucket, mixed, starts_at}
use Rattle.spec_match.proofs.ChainLemmas.{IsSeen, answer_by, fits_seen, hashed_more, seen_all}
use Rattle.spec_match.proofs.ChainLemmas.{seen_on}
use Rattle.spec_match.proofs.starts.Starts.last_fit.Goals as goal

pub bytes-preserved : goal.bytes-preserved
bytes-preserved c =
    let rules = c.args.rules.now in
    let text = c.args.query.now.text.now in
    let count = length c.args.self.now.heads.items in
    let q = fits_at c.args.query.now.asked text rules in
    let k = c.bytes.k in
    let size : c.len-count.result ≡ count = omega (arith, c.len-count.ensures) in
    let hash = c.mixed-hash.ensures.value ∙ ap (λ h. mixed h (get_or text k 0))
    c.bytes.invariant.hash ∙ sym (hashed_more text k 0 (omega arith)) in
    let bucket : c.mixed-hash.result % c.len-count.result ≡ bucket_of count (take (k + 1) text) =
    ap (λ h. h % c.len-count.result) hash ∙ ap (λ n. bucket_of n (take (k + 1) text)) size in
    let next : k + 1 ≡ suc k = omega arith in
    let other = c.last_in-other.ensures.found
    ∙ ap (λ b. greatest_below (length rules)
    (λ i. is_in_bucket rules count b i && (starts_at rules (k + 1) i && q i))) bucket
    ∙ ap (λ n. greatest_below (length rules)
    (λ i. is_in_bucket rules count (bucket_of count (take n text)) i
    && (starts_at rules n i && q i))) next in record {
      states = c.last_in-other.ensures.states;
      hash = hash;
      bound = c.mixed-hash.ensures.bound;
      seen = subst (λ n. IsSeen rules count text q (suc n) c.greater-found.result) (sym next)
          (subst (IsSeen rules count text q (suc (suc k))) (sym c.greater-found.ensures)
          (seen_on rules count text q (suc k) c.bytes.found c.last_in-other.result
          c.bytes.invariant.seen other));
    }

pub returns-clause-answer : goal.returns-clause-answer
returns-clause-answer c =
    let rules = c.args.rules.now in
    let text = c.args.query.now.text.now in
    let count = length c.args.self.now.heads.items in
    let end : suc c.bytes.k ≡ suc (length text) = omega arith in
    answer_by c.args.query.now.asked text rules c.bytes.found
    (seen_all rules count text (fits_at c.args.query.now.asked text rules) (suc c.bytes.k)
    c.bytes.found end
    (fits_seen c.args.query.now.asked text rules count) c.bytes.invariant.seen)
