use Rattle.std.proofs.Common.{◌≤◌, length, arith}
use Rattle.file_paths.proofs.PathTexts.{cmp_behind_same, none_given, short_too}
use Rattle.file_paths.proofs.path.behind_same.Goals as goal

pub returns-then-eq-clause-same : goal.returns-then-eq-clause-same
returns-then-eq-clause-same c =
    let first = c.in_ok-front.ensures.cases in
    let second = c.in_ok-other_front.ensures.cases in
    let h : 16 ≤ length c.args.text.now = omega (arith, first.2) in
    let g : 16 ≤ length c.args.other.now = omega (arith, second.2) in
    cmp_behind_same 16 c.args.text.now c.args.other.now _ _ _ _ c.if-eq.ensures first.0 second.0
    first.1 second.1 h g

pub returns-in_err-other_front-clause-none : goal.returns-in_err-other_front-clause-none
returns-in_err-other_front-clause-none c =
    none_given c.from_residual-in_err-other_front.result _
    (short_too 16 c.args.text.now c.args.other.now c.in_err-other_front.ensures.cases)
