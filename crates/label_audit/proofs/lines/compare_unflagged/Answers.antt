use Rattle.std.proofs.Common.{◌<◌, refl, arith, length, map}
use Rattle.std.proofs.lemmas.List.{length-map}
use Rattle.label_base.specs.Bounded.{all_numbers}
use Rattle.label_base.proofs.BoundedLemmas.{count_numbers}
use Rattle.tree_model.proofs.LabelledLemmas.{mapped_at}
use Rattle.label_audit.specs.Compared.{next_behind, unflagged_piece}
use Rattle.label_audit.proofs.CompareLemmas.{all_compared, next_compared}
use Rattle.label_audit.proofs.lines.compare_unflagged.Goals as goal

pub specs-init : goal.specs-init
specs-init c = λ rest. refl

pub specs-preserved : goal.specs-preserved
specs-preserved c =
    let n = length c.args.rules.now.rules in
    let piece = unflagged_piece c.args.rules.now c.args.flags.now in
    let here : c.specs.i < n = omega (arith, c.specs-test.true, c.len-i-end.ensures) in
    next_compared (next_behind c.specs.report.file) (next_behind c.compare_spec.new.report.file) _
    (map piece (all_numbers n)) c.specs.i (piece c.specs.i)
    (omega (arith, here, length-map (all_numbers n) piece, count_numbers n))
    (mapped_at piece n c.specs.i (piece c.specs.i) here)
    c.specs.invariant c.in_ok-compare_spec.ensures

pub returns : goal.returns
returns c =
    let n = length c.args.rules.now.rules in
    let piece = unflagged_piece c.args.rules.now c.args.flags.now in
    all_compared (next_behind c.specs.report.file) _ (map piece (all_numbers n)) c.specs.i
    (omega (
      arith,
      c.specs-test.false,
      c.len-i-end.ensures,
      length-map (all_numbers n) piece,
      count_numbers n,
    )) c.specs.invariant
