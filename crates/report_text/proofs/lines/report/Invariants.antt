use Rattle.std.proofs.Common.{◌≡◌, ◌++◌, drop, map}
use Rattle.report_text.specs.Message.{message_of}
use Rattle.report_text.specs.Texts.{report_of}
use Rattle.report_text.proofs.lines.report.Given as goal

abbrev pub invariant-messages : goal.invariant-messages
invariant-messages l = l.text ++ report_of (map message_of (drop l.message-index l.messages))
    ≡ report_of (map message_of l.fn.messages)
