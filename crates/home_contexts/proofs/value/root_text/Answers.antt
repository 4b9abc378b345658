use Rattle.std.proofs.Common.{◌≡◌, ◌∙◌, ◌-◌, ap, arith, sym, length}
use Rattle.std.specs.Prelude.{Some, slice_get}
use Rattle.home_contexts.proofs.ValueLemmas.{root_fits, root_is}
use Rattle.home_contexts.proofs.value.root_text.Goals as goal

pub overflow_sub-result : goal.overflow_sub-result
overflow_sub-result c =
    let last : slice_get c.args.home.now (length c.args.home.now - 1) ≡ Some c.name-last.result.now
    = ap (λ n. slice_get c.args.home.now (n - 1)) (sym c.names.ensures) ∙
    c.name-last.ensures.value in
    let fits = root_fits c.args.home.now c.name-last.result.now c.as_text-text.result.now c.requires
    last c.as_text-text.ensures.value in
    omega (arith, fits)

pub slice_bounds-result-count : goal.slice_bounds-result-count
slice_bounds-result-count c =
    let last : slice_get c.args.home.now (length c.args.home.now - 1) ≡ Some c.name-last.result.now
    = ap (λ n. slice_get c.args.home.now (n - 1)) (sym c.names.ensures) ∙
    c.name-last.ensures.value in
    let fits = root_fits c.args.home.now c.name-last.result.now c.as_text-text.result.now c.requires
    last c.as_text-text.ensures.value in
    omega (arith, fits)

pub returns : goal.returns
returns c =
    let last : slice_get c.args.home.now (length c.args.home.now - 1) ≡ Some c.name-last.result.now
    = ap (λ n. slice_get c.args.home.now (n - 1)) (sym c.names.ensures) ∙
    c.name-last.ensures.value in
    root_is c.args.home.now c.name-last.result.now c.as_text-text.result.now c.requires last
    c.as_text-text.ensures.value
