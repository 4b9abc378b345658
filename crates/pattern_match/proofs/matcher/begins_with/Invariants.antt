use Rattle.std.proofs.Common.{◌≡◌, ◌≤◌, drop, length, nat_eq}
use Rattle.std.specs.List.{starts_with}
use Rattle.pattern_match.proofs.matcher.begins_with.Given as goal

abbrev pub invariant-bytes : goal.invariant-bytes
invariant-bytes l = (length l.start ≤ length l.text)
    × (starts_with nat_eq (drop l.i l.text) (drop l.i l.start) ≡ starts_with nat_eq l.text l.start)
