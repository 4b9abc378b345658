use Rattle.std.proofs.Common.{◌≡◌, ◌∙◌, ap, arith}
use Rattle.pattern_match.specs.Automaton.{Automaton}
use Rattle.pattern_match.proofs.Copies.{endless_start, endless_step}
use Rattle.pattern_match.proofs.fragment.Fragment.endless.Goals as goal

pub copies-init : goal.copies-init
copies-init c = endless_start c.args.least c.args.self c.new-positions.result.items
    c.new-positions.ensures.items

pub copies-preserved : goal.copies-preserved
copies-preserved c =
    let h : c.self.inside.holds_empty ≡ c.args.self.holds_empty =
    ap (λ (a : Automaton). a.holds_empty) c.self.view_is in
    let p : c.self.inside.positions.items ≡ c.args.self.places =
    ap (λ (a : Automaton). a.places) c.self.view_is in
    let l = c.in_ok-later.ensures in
    endless_step c.args.least c.copies._done c.args.self c.copies.positions.items
    c.append_copy.new.positions.items c.as_slice.result.now c.as_slice-in-copies.result.now
    c.self.inside.holds_empty (omega arith) (c.as_slice.ensures.value ∙ p)
    (c.as_slice-in-copies.ensures.value ∙ l) h c.copies.invariant c.in_ok-append_copy.ensures
