use Rattle.std.proofs.Common.{◌≡◌, ◌≤◌, ◌-◌, length, drop}
use Rattle.pattern_syntax.specs.Tokens.{tokens_from}
use Rattle.pattern_syntax.specs.Reading.{Reading, reads_as, pattern_of}
use Rattle.pattern_syntax.specs.Building.{IsBuilderOf}
use Rattle.pattern_syntax.proofs.pattern.start_and_rest.Given as goal

abbrev pub invariant-tokens : goal.invariant-tokens
invariant-tokens l =
    (read : Reading) × IsBuilderOf l.builder read × (l.at ≤ length l.bytes)
    × (pattern_of l.bytes ≡ reads_as (length l.bytes) read
    (tokens_from l.at 0 (drop l.at l.bytes)))

abbrev pub decreases-tokens : goal.decreases-tokens
decreases-tokens l = length l.bytes - l.at
