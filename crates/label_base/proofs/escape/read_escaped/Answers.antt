use Rattle.std.proofs.Common.{sym}
use Rattle.label_base.proofs.EscapeLemmas.{unescaped_cut}
use Rattle.label_base.proofs.escape.read_escaped.Goals as goal

pub pieces-init : goal.pieces-init
pieces-init c =
    rw (
      c.in_ok-push.ensures.ok,
      c.new-read.ensures,
      c.cut_at.ensures.front,
      c.cut_at.ensures.behind,
    ) (sym (unescaped_cut c.args.bytes.now))
