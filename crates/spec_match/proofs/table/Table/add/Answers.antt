use Rattle.std.proofs.Common.{ap}
use Rattle.spec_match.specs.Tables.{kept_in}
use Rattle.spec_match.specs.Written.{Written}
use Rattle.spec_match.proofs.TableLemmas.{added}
use Rattle.spec_match.proofs.table.Table.add.Goals as goal

pub returns-clause-table : goal.returns-clause-table
returns-clause-table c = λ patterns specs t can.
    rw (
      ap (λ (w : Written). w.lists) c.if-not-close.ensures,
      c.add_copies.ensures,
      c.add_copies-2.ensures,
      c.add_copies-3.ensures,
    )
    (added patterns specs (kept_in c.args.self.now) c.args.self.now.lists.draft t can.own can.first)
