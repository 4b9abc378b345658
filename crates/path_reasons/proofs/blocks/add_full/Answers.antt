use Rattle.std.proofs.Common.{◌∙◌, ◌++◌, ap}
use Rattle.std.specs.Prelude.{Option}
use Rattle.std.proofs.lemmas.Result.{on_ok_weaker}
use Rattle.spec_reader.specs.SpecValue.{SpecValue}
use Rattle.path_reasons.specs.Texts.{decided_line}
use Rattle.path_reasons.proofs.ListLemmas.{three_parts}
use Rattle.path_reasons.proofs.blocks.add_full.Goals as goal

pub returns : goal.returns
returns c =
    on_ok_weaker c.add_others.result (λ fact.
    three_parts c.args.text.now _ _ _ c.add_top.new.text c.add_decided.new.text
    c.add_others.new.text c.in_ok-add_top.ensures
    (c.in_ok-add_decided.ensures ∙ ap (λ (decided : Option SpecValue). c.add_top.new.text
    ++ decided_line c.args.told.now.names.now decided) c.decided_by.ensures) fact)
    c.add_others.ensures
