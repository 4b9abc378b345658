-- The cause of a pattern's fault; want of memory has none.
use Rattle.std.specs.Prelude.{Option, Some, None}
use Rattle.pattern_syntax.specs.declared.pattern_fault.PatternWhy.{PatternWhy}
use Rattle.pattern_syntax.specs.declared.pattern_fault.PatternWhy.TheVariants as why
use Rattle.pattern_syntax.specs.declared.pattern_fault.PatternFault.{PatternFault}
use Rattle.pattern_syntax.specs.declared.pattern_fault.PatternFault.TheVariants as fault

abbrev pub pattern_cause : PatternFault → Option PatternWhy
pattern_cause (fault.Syntax place) = Some (why.Syntax place)
pattern_cause (fault.UnsupportedPattern place) = Some (why.UnsupportedPattern place)
pattern_cause (fault.TooDeep place) = Some (why.TooDeep place)
pattern_cause fault.TooManyPositions = Some why.TooManyPositions
pattern_cause fault.OutOfMemory = None
