use Rattle.std.proofs.Common.{◌≡◌, ◌∙◌, ap, sym, refl, nat_cmp}
use Rattle.std.specs.Ordering.{ordering_then}
use Rattle.file_paths.proofs.PathTexts.{cmp_normal}
use Rattle.file_paths.proofs.PathFronts.{by_words}
use Rattle.file_paths.proofs.path_key.PathKeyOrd.cmp.Goals as goal

words : (c : goal.Then-is_ne)
    → c.then-by_words.result ≡ ordering_then
    (ordering_then (nat_cmp c.self.inside.first c.other.inside.first)
    (nat_cmp c.self.inside.second c.other.inside.second))
    (nat_cmp c.self.inside.third c.other.inside.third)
words c =
    c.then-by_words.ensures
    ∙ ap (λ o. ordering_then o c.cmp-3.result) c.then.ensures
    ∙ λ i. ordering_then (ordering_then (c.cmp.ensures i) (c.cmp-2.ensures i)) (c.cmp-3.ensures i)

pub returns-then-is_ne : goal.returns-then-is_ne
returns-then-is_ne c =
    rw (← c.self.view_is, ← c.other.view_is)
    (by_words c.self.inside.text.now c.other.inside.text.now _ _ _ _ _ _ _ c.self.invariant
    c.other.invariant (words c) (sym c.is_ne.ensures ∙ c.if-is_ne.true))

pub returns : goal.returns
returns c =
    rw (← c.self.view_is, ← c.other.view_is)
    (cmp_normal c.self.inside.text.now c.other.inside.text.now _ _ _ c.self.invariant.normal
    c.other.invariant.normal refl refl c.cmp_texts.ensures)
