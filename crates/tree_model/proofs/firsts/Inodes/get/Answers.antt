use Rattle.std.proofs.Common.{◌∙◌, ap, get_or, length, arith}
use Rattle.find_records.specs.Entry.{entry_of}
use Rattle.tree_model.proofs.NumberingLemmas.{inode_read, inodes_counted}
use Rattle.tree_model.proofs.firsts.Inodes.get.Goals as goal

pub entry-entry-requires : goal.entry-entry-requires
entry-entry-requires c = omega (
  arith,
  c.requires,
  inodes_counted c.self.inside.sorted.now,
  ap length c.self.view_is,
)

pub returns : goal.returns
returns c =
    inode_read c.self.inside.sorted.now c.args.e (entry_of c.entry-entry.result)
    c.entry-entry.ensures
    ∙ ap (λ is. get_or is c.args.e (0, 0)) c.self.view_is
