use Rattle.std.proofs.Common.{◌≡◌, drop}
use Rattle.tool_words.specs.Tool.{row_takes}
use Rattle.tool_words.proofs.letters.row_takes.Given as goal

-- the rows that are left say what all of them say
abbrev pub invariant-rows : goal.invariant-rows
invariant-rows l = row_takes (drop l.row-index l.rows) l.letter ≡ row_takes l.rows l.letter
