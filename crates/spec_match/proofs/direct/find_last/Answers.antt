use Rattle.std.proofs.Common.{◌≡◌, ◌∙◌, ◌+◌, ◌-◌, ap, arith, sym, take}
use Rattle.spec_match.specs.LastMatch.{last_index}
use Rattle.spec_match.proofs.DirectLemmas.{last_fits, last_stays, none_left}
use Rattle.spec_match.proofs.direct.find_last.Goals as goal

pub returns-then-branch-clause-index : goal.returns-then-branch-clause-index
returns-then-branch-clause-index c =
    let specs = c.args.specs.now in
    let last = last_index c.args.asked c.as_text.result.now in
    let place : c.specs.left - 1 + 1 ≡ c.specs.left = omega (arith, c.specs-test.true) in
    sym (last_fits c.args.asked c.as_text.result.now specs (c.specs.left - 1) c.index-specs-i.result
    (omega (arith, c.specs-test.true, c.specs.invariant.within)) c.index-specs-i.is
    (sym c.in_ok-does_fit.ensures ∙ c.if-branch.true))
    ∙ ap (λ n. last (take n specs)) place ∙ c.specs.invariant.last
    ∙ ap (λ t. last_index c.args.asked t specs) c.as_text.ensures.value

pub specs-preserved : goal.specs-preserved
specs-preserved c =
    let specs = c.args.specs.now in
    let last = last_index c.args.asked c.as_text.result.now in
    let place : c.specs.left - 1 + 1 ≡ c.specs.left = omega (arith, c.specs-test.true) in
    record {
      within = omega (arith, c.specs.invariant.within);
      last = sym (last_stays c.args.asked c.as_text.result.now specs (c.specs.left - 1)
          c.index-specs-i.result
          (omega (arith, c.specs-test.true, c.specs.invariant.within)) c.index-specs-i.is
          (sym c.in_ok-does_fit.ensures ∙ c.if-branch.false))
          ∙ ap (λ n. last (take n specs)) place ∙ c.specs.invariant.last;
    }

pub returns-clause-index : goal.returns-clause-index
returns-clause-index c =
    let specs = c.args.specs.now in
    let last = last_index c.args.asked c.as_text.result.now in
    let end : 0 ≡ c.specs.left = omega (arith, c.specs-test.false) in
    sym (none_left c.args.asked c.as_text.result.now) ∙ ap (λ n. last (take n specs)) end
    ∙ c.specs.invariant.last
    ∙ ap (λ t. last_index c.args.asked t specs) c.as_text.ensures.value
