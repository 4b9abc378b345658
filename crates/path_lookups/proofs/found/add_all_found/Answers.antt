use Rattle.std.proofs.Common.{◌∙◌, ◌++◌, ap}
use Rattle.report_text.specs.Texts.{message_line}
use Rattle.path_lookups.specs.Found.{found_message}
use Rattle.path_lookups.proofs.FoundLemmas.{next_line, no_line_left}
use Rattle.path_lookups.proofs.found.add_all_found.Goals as goal

pub paths-preserved : goal.paths-preserved
paths-preserved g c =
    let by = c.args.lookup.now in
    record {
      own = c.in_ok-message.ensures.own;
      text = next_line (found_message by.rules.now by.kind by.bare) c.args.paths.now
          c.paths.path-index c.path-item.result c.paths.to c.add_line.new.text _
          c.paths-test.true c.path-item.is c.paths.invariant.text
          (c.in_ok-add_line.ensures
          ∙ ap (λ m. c.paths.to ++ message_line m) c.in_ok-message.ensures.message);
    }

pub returns : goal.returns
returns g c =
    let by = c.args.lookup.now in
    no_line_left (found_message by.rules.now by.kind by.bare) c.args.paths.now
    c.paths.path-index c.paths.to _
    c.paths-test.false c.paths.invariant.text
