-- What contracts see of a borrowed verdict.
use Rattle.context_syntax.specs.ContextRef.{context_lent}
use Rattle.label_rules.specs.Decide.{VerdictValue, Keep, Customized, Change}
use Rattle.label_rules.specs.declared.verdict.Verdict.{Verdict}
use Rattle.label_rules.specs.declared.verdict.Verdict.TheVariants as lent

-- the verdict that is lent
abbrev pub verdict_of : Verdict → VerdictValue
verdict_of lent.Keep = Keep
verdict_of lent.Customized = Customized
verdict_of (lent.Change context) = Change (context_lent context)
