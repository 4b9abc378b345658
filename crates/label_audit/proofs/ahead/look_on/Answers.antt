use Rattle.std.proofs.Common.{◌∙◌, ◌+◌, arith, refl, sym}
use Rattle.relabel_core.specs.Walked.{walk_of}
use Rattle.label_audit.proofs.AheadLemmas.{ahead_more, found_changed, none_changed}
use Rattle.label_audit.proofs.ahead.look_on.Goals as goal

pub returns-then-seen-clause-found : goal.returns-then-seen-clause-found
returns-then-seen-clause-found c =
    found_changed (walk_of c.args.input.now) c.args.d c.entries.ahead.clear.entry
    c.extent-stop.result
    c.extent-stop.ensures.within c.extent-stop.ensures.run c.entries.invariant.from
    c.entries-test.true (sym c.in_ok-seen.ensures.changed ∙ c.if-seen.true)

pub entries-preserved : goal.entries-preserved
entries-preserved c = record {
  ready = c.in_ok-seen.ensures.ready;
  ahead = ahead_more (walk_of c.args.input.now) c.args.d c.in_ok-seen.seen.end c.entries.ahead
      (record {
        clear = record { entry = c.entries.ahead.clear.entry + 1; end = c.in_ok-seen.seen.end };
      })
      c.entries.invariant.ahead (sym c.in_ok-seen.ensures.changed ∙ c.if-seen.false)
      c.in_ok-seen.ensures.covers refl;
  from = omega (arith, c.entries.invariant.from);
}

pub returns-clause-found : goal.returns-clause-found
returns-clause-found c =
    none_changed (walk_of c.args.input.now) c.args.d c.extent-stop.result c.entries.ahead
    c.extent-stop.ensures.run c.entries.invariant.ahead c.entries-test.false
