use Rattle.std.proofs.Common.{◌∙◌, ap, sym, subst, rules}
use Rattle.std.specs.Cmp.Lexicographic.{slice_cmp}
use Rattle.std.specs.List.Sorted.{IsStrictlySortedBy}
use Rattle.std.specs.Ordering.{nat_cmp}
use Rattle.std.proofs.lemmas.Fn.{always_returns_same}
use Rattle.context_syntax.specs.TypeNames.{set_has_name, set_of}
use Rattle.context_syntax.proofs.NameSets.{searched_is}
use Rattle.context_syntax.proofs.type_names.TypeNames.has.Goals as goal

pub returns : goal.returns
returns c =
    c.is_ok.ensures.value
    ∙ searched_is c.as_slice.result.now c.args.kind.now c.binary_search_by.result
    (subst (IsStrictlySortedBy (slice_cmp nat_cmp)) (sym c.as_slice.ensures)
    c.self.invariant.ordered)
    c.binary_search_by.ensures.bound
    (c.binary_search_by.ensures.position (λ y. slice_cmp nat_cmp y c.args.kind.now)
    (always_returns_same _ _ _ (λ a r f' called. (search rules, search rules))))
    ∙ ap (λ s. set_has_name s c.args.kind.now) (ap set_of c.as_slice.ensures ∙ c.self.view_is)
