-- What contracts see of a borrowed context.
use Rattle.context_syntax.specs.Context.{ContextValue, with_kind_of}
use Rattle.context_syntax.specs.declared.context_ref.ContextRef.{ContextRef}

-- the context that is lent
abbrev pub context_lent : ContextRef → ContextValue
context_lent context = with_kind_of context.rest.now context.kind.now
