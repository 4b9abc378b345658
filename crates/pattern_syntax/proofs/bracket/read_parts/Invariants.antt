use Rattle.std.proofs.Common.{◌≡◌, ◌≤◌, ◌-◌, ◌==◌, length, drop, None, true}
use Rattle.pattern_syntax.specs.ByteSet.{has_byte, no_bytes}
use Rattle.pattern_syntax.specs.Brackets.{parts_from}
use Rattle.pattern_syntax.proofs.bracket.read_parts.Given as goal

abbrev pub invariant-parts : goal.invariant-parts
invariant-parts l = record {
  within : l.at ≤ length l.text;
  rest : parts_from true None no_bytes 0 0 l.text ≡ parts_from (l.at == 0) l.low (has_byte l.set)
      l.at 0 (drop l.at l.text);
}

abbrev pub decreases-parts : goal.decreases-parts
decreases-parts l = length l.text - l.at
