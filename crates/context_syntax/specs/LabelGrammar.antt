-- The grammar of labels, as find(1) prints them by %Z.
use Rattle.std.specs.Prelude.{◌≡◌, ◌≢◌, ◌⊎◌, ℕ, ◌<◌, List, [], length}
use Rattle.context_syntax.specs.Context.{ContextValue, SpellsContext}
use Rattle.context_syntax.specs.declared.label.TheConstants.{NO_LABEL}
use Rattle.context_syntax.specs.declared.label.Label.{Label}
use Rattle.context_syntax.specs.declared.label.Label.TheVariants.{Absent, Odd, Is}

-- a label is there, and it is no context
pub record IsOdd (bytes : List ℕ) : Type 0 where
  pub some : 0 < length bytes
  pub present : bytes ≢ NO_LABEL.now
  pub no_context : (context : ContextValue) → ¬ SpellsContext bytes context

-- the bytes spell this label
abbrev pub SpellsLabel : List ℕ → Label → Type 0
SpellsLabel bytes Absent = (bytes ≡ []) ⊎ (bytes ≡ NO_LABEL.now)
SpellsLabel bytes (Odd odd) = (odd ≡ bytes) × IsOdd bytes
SpellsLabel bytes (Is context) = SpellsContext bytes context
