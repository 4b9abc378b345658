use Rattle.std.proofs.Common.{◌≡◌, ◌∙◌, ◌<◌, sym, subst}
use Rattle.std.specs.Prelude.{IfSome}
use Rattle.file_paths.specs.PathRef.{path_of}
use Rattle.tree_model.specs.Extents.{parent_of}
use Rattle.tree_model.specs.Fronts.{IsOneBelow}
use Rattle.tree_model.proofs.FrontLemmas.{above_none, search_ends, search_goes_on}
use Rattle.tree_model.proofs.ParentLemmas.{parent_before}
use Rattle.tree_model.proofs.above.parent_by_path.Goals as goal

found : (c : goal.Then-is_some) → c.directory_at-found.result ≡ parent_of c.args.sorted.now c.args.e
found c =
    let one : IsOneBelow (path_of c.tops.path) (path_of c.in-Some.top) = c.in-Some.ensures in
    search_ends c.args.sorted.now c.requires.by_path (path_of c.tops.path) (path_of c.in-Some.top)
    c.directory_at-found.result one c.directory_at-found.ensures
    (sym c.is_some.ensures ∙ c.if-is_some.true)
    ∙ c.tops.invariant

pub returns-then-is_some-clause-value : goal.returns-then-is_some-clause-value
returns-then-is_some-clause-value c = found c

pub returns-then-is_some-clause-before : goal.returns-then-is_some-clause-before
returns-then-is_some-clause-before c = subst (λ o. IfSome o (λ d. d < c.args.e)) (sym (found c))
    (parent_before c.args.sorted.now c.requires.by_path c.args.e)

pub tops-preserved : goal.tops-preserved
tops-preserved c =
    let one : IsOneBelow (path_of c.tops.path) (path_of c.in-Some.top) = c.in-Some.ensures in
    sym (search_goes_on c.args.sorted.now c.requires.by_path (path_of c.tops.path)
    (path_of c.in-Some.top) c.directory_at-found.result one c.directory_at-found.ensures
    (sym c.is_some.ensures ∙ c.if-is_some.false))
    ∙ c.tops.invariant

pub returns-clause-value : goal.returns-clause-value
returns-clause-value c =
    sym (above_none c.args.sorted.now c.requires.by_path (path_of c.tops.path) c.in_default.ensures)
    ∙ c.tops.invariant
