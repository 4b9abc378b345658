use Rattle.std.proofs.Common.{◌∙◌, ap, sym, ◌++◌, ◌∷◌, [], take}
use Rattle.std.proofs.lemmas.List.{take_all, take_more}
use Rattle.relabel_core.proofs.StoredLemmas.{more_among, those_among}
use Rattle.relabel_core.proofs.stored.keep_attrs.Goals as goal

pub attrs-preserved : goal.attrs-preserved
attrs-preserved c =
    more_among c.args.stored.now c.attrs.stored c.keep_attr.new.stored c.args.d
    (take c.attrs.attr-index c.args.attrs.now) _ c.attr-item.result
    c.attrs.invariant c.in_ok-keep_attr.ensures
    (take_more c.args.attrs.now c.attrs.attr-index c.attr-item.result c.attrs-test.true
    ∙ ap (λ a. take c.attrs.attr-index c.args.attrs.now ++ a ∷ []) (sym c.attr-item.is))

pub returns : goal.returns
returns c = those_among c.args.stored.now c.attrs.stored c.args.d _ _ c.attrs.invariant
    (take_all c.attrs.attr-index c.args.attrs.now c.attrs-test.false)
