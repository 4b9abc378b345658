use Rattle.tool_words.specs.Items.{items_of}
use Rattle.tool_words.specs.Words.{word_texts}
use Rattle.tool_words.proofs.OperandCounts.{operands_few}
use Rattle.tool_words.proofs.ValueCounts.{values_few}
use Rattle.tool_words.proofs.reading.read_items_within.Goals as goal

pub returns-clause-few : goal.returns-clause-few
returns-clause-few c =
    operands_few c.args.tool.now c.args.first c.args.words.now _ _ c.read_checked_within.ensures

pub returns-clause-counted : goal.returns-clause-counted
returns-clause-counted c =
    values_few c.args.letter c.args.most
    (items_of c.args.tool.now c.args.first (word_texts c.args.words.now)) _
    c.read_checked_within.ensures
