use Rattle.std.proofs.Common.{◌∙◌}
use Rattle.context_syntax.specs.Label.{same_label}
use Rattle.find_records.proofs.RowLemmas.{label_is, row_read, within_at}
use Rattle.find_records.proofs.records.Records.has_same_label.Goals as goal

pub has_same_label-requires-clause-first : goal.has_same_label-requires-clause-first
has_same_label-requires-clause-first c =
    let s = c.self.inside in
    let row = c.index.result.now in
    (within_at s.texts.items s.profiles s.rows.items c.args.i row c.self.invariant.within
    (row_read s.texts.items s.profiles c.args.self.now s.rows.items c.args.i row c.self.view_is
    c.requires.first c.index.ensures)).known

pub has_same_label-requires-clause-second : goal.has_same_label-requires-clause-second
has_same_label-requires-clause-second c =
    let s = c.self.inside in
    let row = c.index-2.result.now in
    (within_at s.texts.items s.profiles s.rows.items c.args.j row c.self.invariant.within
    (row_read s.texts.items s.profiles c.args.self.now s.rows.items c.args.j row c.self.view_is
    c.requires.second c.index-2.ensures)).known

pub returns : goal.returns
returns c = λ a b first second.
    let s = c.self.inside in
    let one = label_is s.texts.items s.profiles c.args.self.now s.rows.items c.args.i
    c.index.result.now a c.self.view_is
    (row_read s.texts.items s.profiles c.args.self.now s.rows.items c.args.i c.index.result.now
    c.self.view_is c.requires.first c.index.ensures) first in
    let other = label_is s.texts.items s.profiles c.args.self.now s.rows.items c.args.j
    c.index-2.result.now b c.self.view_is
    (row_read s.texts.items s.profiles c.args.self.now s.rows.items c.args.j c.index-2.result.now
    c.self.view_is c.requires.second c.index-2.ensures) second in
    c.has_same_label.ensures ∙ λ i. same_label (one i) (other i)
