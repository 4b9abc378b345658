-- The grammar of a file of customizable types: a type name on each line, as customizable_types(5)
-- has it.
use Rattle.std.specs.Prelude.{◌≡◌, ℕ, true, List, [], ◌∷◌, Result, Ok, Err}
use Rattle.label_base.specs.LineGrammar.{LinesMean}
use Rattle.label_base.specs.declared.lines.RefusedLine.{RefusedLine}
use Rattle.context_syntax.specs.Context.{is_word}
use Rattle.context_syntax.specs.TypeNames.{NameSet, set_of}
use Rattle.context_syntax.specs.declared.customizable.NoTypeName.{NoTypeName}

-- the fields are one type name
abbrev pub IsTypeName : List (List ℕ) → List ℕ → Type 0
IsTypeName fields name = (fields ≡ name ∷ []) × (is_word name ≡ true)

-- what the fields of a line mean, whatever its number
abbrev pub TypeFieldsMean : ℕ → List (List ℕ) → Result (List ℕ) NoTypeName → Type 0
TypeFieldsMean number fields (Ok name) = IsTypeName fields name
TypeFieldsMean number fields (Err why) = (name : List ℕ) → ¬ IsTypeName fields name

-- what the text of a file means: the set of the names on its lines, or its first refused line
abbrev pub TypesMean : List ℕ → Result NameSet (RefusedLine NoTypeName) → Type 0
TypesMean text (Ok types) =
    (names : List (List ℕ)) × LinesMean TypeFieldsMean text (Ok names) × (types ≡ set_of names)
TypesMean text (Err refused) = LinesMean TypeFieldsMean text (Err refused)
