-- The free error of reading a context.
use Rattle.std.specs.Prelude.{Bool, true, false}
use Rattle.context_syntax.specs.declared.context.ContextFault.{ContextFault}
use Rattle.context_syntax.specs.declared.context.ContextFault.TheVariants.{NoContext, OutOfMemory}

abbrev pub is_want_of_memory : ContextFault → Bool
is_want_of_memory NoContext = false
is_want_of_memory OutOfMemory = true
