use Rattle.find_records.specs.Entry.{entry_of}
use Rattle.tree_model.proofs.KeptGroups.{first_within, label_first}
use Rattle.tree_model.proofs.tree.Tree.label.Goals as goal

pub entry-requires : goal.entry-requires
entry-requires c = first_within c.args.self.now c.args.g c.word_at-first.result _ c.requires
    c.names_of.ensures.value c.word_at-first.ensures

pub returns : goal.returns
returns c = label_first c.args.self.now c.args.g c.word_at-first.result _ (entry_of c.entry.result)
    c.requires c.names_of.ensures.value c.word_at-first.ensures c.entry.ensures
