use Rattle.std.proofs.Common.{◌≡◌, ◌∙◌, ◌++◌, ap, arith}
use Rattle.report_text.specs.Message.{message_of}
use Rattle.report_text.specs.Texts.{message_line}
use Rattle.path_lookups.specs.Verified.{is_unverified, verified_message}
use Rattle.path_lookups.proofs.FoundLemmas.{at_most_one, next_count, next_line, no_line_left}
use Rattle.path_lookups.proofs.verified.add_all_verified.Goals as goal

pub paths-preserved : goal.paths-preserved
paths-preserved g c =
    let by = c.args.by.now in
    let message = verified_message by.rules.now by.tree.now by.kind in
    let one : message_of c.in_ok-message.message ≡ message c.path-item.result =
    c.in_ok-message.ensures.message ∙ ap message c.path.ensures in
    let shown : c.is_unverified.result ≡ is_unverified (message c.path-item.result) =
    c.is_unverified.ensures ∙ ap is_unverified one in
    record {
      own = c.in_ok-message.ensures.own;
      text = next_line message c.args.paths.now c.paths.path-index c.path-item.result c.paths.to
          c.add_line.new.text _
          c.paths-test.true c.path-item.is c.paths.invariant.text
          (c.in_ok-add_line.ensures
          ∙ ap (λ m. c.paths.to ++ message_line m) one);
      count = next_count message c.args.paths.now c.paths.path-index c.path-item.result
          c.paths.unverified c.from-unverified.result _ c.is_unverified.result
          c.paths-test.true c.path-item.is c.paths.invariant.count
          shown
          c.from-unverified.ensures;
      few = omega (
        arith,
        c.paths.invariant.few,
        at_most_one c.is_unverified.result,
        c.from-unverified.ensures,
      );
    }

pub returns-clause-text : goal.returns-clause-text
returns-clause-text g c =
    let by = c.args.by.now in
    no_line_left (verified_message by.rules.now by.tree.now by.kind) c.args.paths.now
    c.paths.path-index c.paths.to _
    c.paths-test.false c.paths.invariant.text
