use Rattle.std.proofs.Common.{arith}
use Rattle.file_paths.specs.PathRef.{normal_text}
use Rattle.find_records.proofs.RowLemmas.{shown_is, shown_within}
use Rattle.find_records.proofs.records.row_of.Goals as goal

pub returns-clause-value : goal.returns-clause-value
returns-clause-value c =
    shown_is c.args.texts.now.items c.add_path.new.texts.items (normal_text c.args.raw.now.path.now)
    c.number_of.new.self _ _ _
    c.in_ok-add_path.ensures.ok (omega (arith, c.len-at.ensures)) (omega (arith, c.len.ensures))
    c.in_ok-profile.ensures.number c.in_ok-add_path.ensures.text.names_are

pub returns-clause-within : goal.returns-clause-within
returns-clause-within c =
    shown_within c.args.texts.now.items c.add_path.new.texts.items
    (normal_text c.args.raw.now.path.now) c.number_of.new.self _ _
    c.in_ok-add_path.ensures.ok (omega (arith, c.len-at.ensures)) (omega (arith, c.len.ensures))
    c.in_ok-profile.ensures.number c.in_ok-add_path.ensures.text.normal
