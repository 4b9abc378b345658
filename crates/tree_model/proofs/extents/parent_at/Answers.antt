use Rattle.std.proofs.Common.{◌≡◌, ◌∙◌, ◌<◌, ap, sym, subst}
use Rattle.std.specs.Prelude.{Some}
use Rattle.tree_model.specs.Extents.{one_behind, parent_of, parent_read}
use Rattle.tree_model.proofs.ParentLemmas.{UpTo, parent_less, upto_first, upto_found, upto_next}
use Rattle.tree_model.proofs.ParentLemmas.{upto_none}
use Rattle.tree_model.proofs.extents.parent_at.Goals as goal

pub above-init : goal.above-init
above-init c = subst (UpTo c.args.sorted.now c.args.e) (sym c.before-above.ensures)
    (upto_first c.args.sorted.now c.requires.by_path c.args.e)

-- no directory above e stands behind the one that was looked at
some : (c : goal.After-parent_read-above) → UpTo c.args.sorted.now c.args.e (Some c.in-Some.d)
some c = rw c.in-Some.is at c.above.invariant

next : (c : goal.After-parent_read-above) → c.parent_read-above.result ≡ parent_of c.args.sorted.now
    c.in-Some.d
next c = c.parent_read-above.ensures ∙ ap parent_read c.word_at.ensures
    ∙ c.requires.parents.each c.in-Some.d (some c).0

pub returns-then-is_above-clause-value : goal.returns-then-is_above-clause-value
returns-then-is_above-clause-value c =
    upto_found c.args.sorted.now c.requires.by_path c.in-Some.d c.args.e
    (rw c.in-Some.is at c.above.invariant) c.requires.known (sym c.if-is_above.ensures)

pub above-smaller : goal.above-smaller
above-smaller c =
    subst (λ o. one_behind c.parent_read-above.result < one_behind o) (sym c.in-Some.is)
    (parent_less c.args.sorted.now c.requires.by_path c.in-Some.d c.parent_read-above.result
    (next c))

pub above-preserved : goal.above-preserved
above-preserved c =
    upto_next c.args.sorted.now c.requires.by_path c.in-Some.d c.args.e c.parent_read-above.result
    (some c) c.requires.known (sym c.if-is_above.ensures) (next c)

pub returns-clause-value : goal.returns-clause-value
returns-clause-value c = upto_none c.args.sorted.now c.requires.by_path c.args.e
    (rw c.in_default.is at c.above.invariant)
