-- Which specification decides a path, and what it gives.
use Rattle.std.specs.Prelude.{ℕ, List, Option, Some, None, slice_get, option_and_then}
use Rattle.file_paths.specs.Path.{Path, path_text}
use Rattle.label_base.specs.declared.kind.Asked.{Asked}
use Rattle.label_base.specs.declared.kind.Asked.TheVariants.{Of}
use Rattle.context_syntax.specs.Context.{ContextValue}
use Rattle.spec_reader.specs.SpecValue.{SpecValue}
use Rattle.spec_reader.specs.declared.spec.Decision.{Decision}
use Rattle.spec_reader.specs.declared.spec.Decision.TheVariants.{Leave, Give}
use Rattle.spec_match.specs.LastMatch.{last_index}
use Rattle.path_subs.specs.Subs.{substituted}
use Rattle.find_records.specs.Record.{Record}
use Rattle.label_rules.specs.declared.rules.Rules.{Rules}

-- the index of the last specification that applies to what is asked and whose language holds the
-- substituted path (selabel_file(5))
unfoldable pub index_asked : Rules → Path → Asked → Option ℕ
index_asked rules path asked =
    last_index asked
    (path_text (substituted rules.subs.first rules.subs.second path)) rules.rules

-- the same of an entry's path, where its kind is asked for
abbrev pub index_for : Rules → Record → Option ℕ
index_for rules entry = index_asked rules entry.path (Of entry.kind)

-- the context that a decision gives
abbrev pub context_in : Decision → Option ContextValue
context_in Leave = None
context_in (Give context) = Some context

-- the context that a specification gives
abbrev pub given_by : SpecValue → Option ContextValue
given_by spec = context_in spec.decision

-- the context that the specification at an index gives
abbrev pub given_at : List SpecValue → Option ℕ → Option ContextValue
given_at specs found = option_and_then given_by (option_and_then (slice_get specs) found)
