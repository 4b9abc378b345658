use Rattle.std.proofs.Common.{◌∙◌, ap, sym, arith, ℕ, None, inl, inr}
use std.Path.{fun_ext}
use Rattle.std.proofs.lemmas.Bool.{cases_lt}
use Rattle.std.proofs.lemmas.List.{get_or_default, get_or_past}
use Rattle.relabel_core.specs.Stored.{digests_listed}
use Rattle.relabel_core.proofs.SweptLemmas.{before_is, before_none, kept_more}
use Rattle.relabel_core.proofs.StoredLemmas.{empty_keeps_none}
use Rattle.relabel_core.proofs.stored.keep_listed.Goals as goal

pub digests-init : goal.digests-init
digests-init c = λ e.
    ap (λ digests. digests e) (empty_keeps_none c.new-stored.result c.new-stored.ensures.empty)
    ∙ sym (before_none (digests_listed c.args.digests.now) 0 e (omega arith))

pub keep_given-requires : goal.keep_given-requires
keep_given-requires c =
    c.digests.invariant c.digests.d ∙ before_none (digests_listed c.args.digests.now) c.digests.d
    c.digests.d (omega arith)

pub digests-preserved : goal.digests-preserved
digests-preserved c =
    kept_more
    (digests_listed c.args.digests.now) c.digests.d c.digests.stored c.keep_given.new.stored
    c.index-digests-d.result c.digests.invariant
    c.in_ok-keep_given.ensures
    (c.index-digests-d.is ∙ get_or_default c.args.digests.now c.digests.d c.index-digests-d.result
    None c.digests-test.true)

pub returns : goal.returns
returns c =
    fun_ext (λ (e : ℕ).
    c.digests.invariant e
    ∙ elim (cases_lt e c.digests.d) [
      | inl lt ↦ before_is (digests_listed c.args.digests.now) c.digests.d e lt
      | inr ge ↦
          before_none (digests_listed c.args.digests.now) c.digests.d e ge
          ∙ sym (get_or_past c.args.digests.now e None (omega (arith, ge, c.digests-test.false)))
    ])
