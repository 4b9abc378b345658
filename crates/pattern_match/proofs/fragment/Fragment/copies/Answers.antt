use Rattle.std.proofs.Common.{◌≡◌, ◌∙◌, refl, ap, arith}
use Rattle.pattern_match.specs.Automaton.{Automaton}
use Rattle.pattern_match.proofs.Copies.{copies_start, copies_step}
use Rattle.pattern_match.proofs.fragment.Fragment.copies.Goals as goal

pub copies-init : goal.copies-init
copies-init c = copies_start c.args.least c.args.most c.args.self c.new-positions.result.items
    c.new-positions.ensures.items

pub copies-preserved : goal.copies-preserved
copies-preserved c =
    let h : c.self.inside.holds_empty ≡ c.args.self.holds_empty =
    ap (λ (a : Automaton). a.holds_empty) c.self.view_is in
    let p : c.self.inside.positions.items ≡ c.args.self.places =
    ap (λ (a : Automaton). a.places) c.self.view_is in
    let l = c.in_ok-later.ensures in
    copies_step c.args.least c.args.most c.copies.done c.args.self c.copies.positions.items
    c.append_copy.new.positions.items c.as_slice.result.now c.as_slice-in-copies.result.now
    c.may_stop-can_stop.result (omega arith) (c.as_slice.ensures.value ∙ p)
    (c.as_slice-in-copies.ensures.value ∙ l) (c.may_stop-can_stop.ensures
    ∙ rw (c.saturating_sub.ensures, h) refl) c.copies.invariant c.in_ok-append_copy.ensures
