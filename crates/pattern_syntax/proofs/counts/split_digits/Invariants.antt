use Rattle.std.proofs.Common.{◌≡◌, ◌≤◌, ◌-◌, ◌++◌, length, take, drop}
use Rattle.pattern_syntax.specs.Tokens.{digits_at, behind_digits}
use Rattle.pattern_syntax.proofs.counts.split_digits.Given as goal

abbrev pub invariant-digits : goal.invariant-digits
invariant-digits l = record {
  within : l.at ≤ length l.text;
  digits : digits_at l.text ≡ take l.at l.text ++ digits_at (drop l.at l.text);
  rest : behind_digits l.text ≡ behind_digits (drop l.at l.text);
}

abbrev pub decreases-digits : goal.decreases-digits
decreases-digits l = length l.text - l.at
