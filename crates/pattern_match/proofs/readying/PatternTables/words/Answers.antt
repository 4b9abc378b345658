use Rattle.std.proofs.Common.{arith, sym}
use Rattle.pattern_syntax.specs.Starts.{behind_start}
use Rattle.pattern_match.proofs.Ready.{words_are}
use Rattle.pattern_match.proofs.readying.PatternTables.words.Goals as goal

pub returns-clause-value : goal.returns-clause-value
returns-clause-value c = λ tree tables.
    sym (words_are (behind_start tree) c.args.self.now tables.behind)

pub returns-clause-room : goal.returns-clause-room
returns-clause-room c = λ tree tables. record {
  words = let e = words_are (behind_start tree) c.args.self.now tables.behind in omega arith;
}
