use Rattle.tool_words.specs.Tool.{Tool}
use Rattle.tool_words.specs.Words.{word_texts}
use Rattle.tool_words.proofs.RefusalLemmas.{refused_exactly}
use Rattle.tool_words.proofs.laws.refused_where_wrong.Goals as goal

pub returns : goal.returns
returns c = λ (tool : Tool) index wrong.
    refused_exactly tool index (word_texts c.args._words.now) wrong
