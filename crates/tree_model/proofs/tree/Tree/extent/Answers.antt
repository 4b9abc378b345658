use Rattle.std.proofs.Common.{◌≡◌, ◌∙◌, ◌<◌, ◌≤◌, ap, sym, subst, arith, length, get_or}
use Rattle.std.specs.Prelude.{◌&&◌, nat_le, nat_lt}
use Rattle.tree_model.specs.Extents.{extent_of}
use Rattle.tree_model.specs.Tree.{ByPath}
use Rattle.tree_model.proofs.ExtentLemmas.{extent_law, extent_shown}
use Rattle.tree_model.proofs.tree.Tree.extent.Goals as goal

shown : (c : goal.After-word_at) → c.word_at.result ≡ extent_of c.args.self.now c.args.d
shown c =
    let known : length c.self.inside.sorted ≡ length c.args.self.now = ap length c.self.view_is in
    c.word_at.ensures ∙ ap (λ ws. get_or ws c.args.d 0) c.as_slice.ensures.value
    ∙ c.self.invariant.ends_are.each c.args.d (omega arith) (omega (arith, c.requires, known))
    ∙ ap (λ es. extent_of es c.args.d) c.self.view_is

up : (c : goal.After-word_at) → ByPath c.args.self.now
up c = subst ByPath c.self.view_is c.self.invariant.by_path

pub returns-clause-behind : goal.returns-clause-behind
returns-clause-behind c =
    subst (λ k. c.args.d < k) (sym (shown c))
    (extent_shown c.args.self.now (up c) c.args.d c.requires).behind

pub returns-clause-within : goal.returns-clause-within
returns-clause-within c = subst (λ k. k ≤ length c.args.self.now) (sym (shown c))
    (extent_shown c.args.self.now (up c) c.args.d c.requires).within

pub returns-clause-run : goal.returns-clause-run
returns-clause-run c e l =
    extent_law c.args.self.now (up c) c.args.d e c.requires l
    ∙ ap (λ k. nat_le c.args.d e && nat_lt e k) (sym (shown c))
