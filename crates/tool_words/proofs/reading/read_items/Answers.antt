use Rattle.tool_words.proofs.OperandCounts.{operands_few}
use Rattle.tool_words.proofs.reading.read_items.Goals as goal

pub returns-clause-few : goal.returns-clause-few
returns-clause-few c =
    operands_few c.args.tool.now c.args.first c.args.words.now _ _ c.read_checked.ensures
