use Rattle.std.proofs.Common.{◌≡◌, ◌≤◌, ◌-◌, length, drop}
use Rattle.pattern_syntax.specs.Tokens.{tokens_from}
use Rattle.pattern_syntax.specs.Reading.{first_fault}
use Rattle.pattern_syntax.specs.declared.limits.TheConstants.{MOST_GROUPS}
use Rattle.pattern_syntax.proofs.rest.refuse_rest.Given as goal

abbrev pub invariant-tokens : goal.invariant-tokens
invariant-tokens l = record {
  within : l.at ≤ length l.bytes;
  shallow : l.depth ≤ MOST_GROUPS;
  rest : first_fault (length l.bytes) 0 l.fn.after_piece
      (tokens_from l.fn.from 0 (drop l.fn.from l.bytes)) ≡ first_fault (length l.bytes) l.depth
      l.after_piece (tokens_from l.at 0 (drop l.at l.bytes));
}

abbrev pub decreases-tokens : goal.decreases-tokens
decreases-tokens l = length l.bytes - l.at
