use Rattle.std.proofs.Common.{◌∙◌, sym}
use Rattle.setfattr_dump.proofs.QuotingLemmas.{quoted_kept}
use Rattle.setfattr_dump.proofs.quoting.add_quoted.Goals as goal

pub returns-then-are_kept : goal.returns-then-are_kept
returns-then-are_kept c =
    rw (quoted_kept c.args.bytes.now (sym c.are_kept.ensures ∙ c.if-are_kept.true))
    c.push.ensures.ok
