use Rattle.std.proofs.Common.{◌∙◌, ap, arith}
use Rattle.find_records.specs.Places.{records_at}
use Rattle.find_records.specs.Rows.{AreLaid}
use Rattle.find_records.proofs.LayLemmas.{all_fit, laid_count}
use Rattle.find_records.proofs.records.Records.in_order.Goals.{After-drop-self-inside-2}
use Rattle.find_records.proofs.records.Records.in_order.Goals as goal

pub lay-requires-clause-fit : goal.lay-requires-clause-fit
lay-requires-clause-fit c =
    let s = c.self.inside in
    rw (c.as_slice.ensures.value, c.as_slice-2.ensures.value)
    (all_fit s.texts.items s.profiles s.rows.items c.self.invariant.within)

laid : (c : goal.After-drop-self-inside-2)
    → AreLaid c.self.inside.texts.items c.self.inside.profiles
    c.self.inside.rows.items c.args.places.now c.in_ok-laid.laid.texts.items
    c.in_ok-laid.laid.rows.items
laid c = (rw (c.as_slice.ensures.value, c.as_slice-2.ensures.value) at c.in_ok-laid.ensures)
    c.self.inside.profiles c.self.invariant.within

pub invariant_of-result : goal.invariant_of-result
invariant_of-result c = record {
  within = (laid c).within;
  numbered = omega (
    arith,
    c.requires.few,
    laid_count c.self.inside.texts.items c.in_ok-laid.laid.texts.items
        c.self.inside.profiles c.self.inside.rows.items c.in_ok-laid.laid.rows.items
        c.args.places.now
        (laid c),
  );
}

pub returns : goal.returns
returns c =
    let h : AreLaid c.self.inside.texts.items c.self.inside.profiles c.self.inside.rows.items
    c.args.places.now c.in_ok-laid.laid.texts.items c.in_ok-laid.laid.rows.items =
    (rw (c.as_slice.ensures.value, c.as_slice-2.ensures.value) at c.in_ok-laid.ensures)
    c.self.inside.profiles c.self.invariant.within in
    h.same ∙ ap (λ r. records_at r c.args.places.now) c.self.view_is
