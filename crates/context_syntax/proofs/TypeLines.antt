-- What the lines of a types file give are type names.
use Rattle.std.proofs.Common.{◌≡◌, ◌∙◌, ap, sym, refl, ℕ, Bool, true, false, cond, List, [], ◌∷◌}
use Rattle.std.specs.Prelude.{Option, Some, None, Result, Ok, Err, ◌&&◌}
use Rattle.std.specs.List.{list_all, cons_option, enumerate_from}
use Rattle.label_base.specs.Lines.{all_or_first, fields_of, fields_said, first_of, is_comment}
use Rattle.label_base.specs.Lines.{line_said, lines_of, refusals, some_value, line_value, values}
use Rattle.label_base.specs.declared.lines.RefusedLine.{RefusedLine}
use Rattle.context_syntax.specs.Context.{is_word}
use Rattle.context_syntax.specs.TypeNames.{name_in, names_read, no_name}
use Rattle.context_syntax.specs.declared.customizable.NoTypeName.{NoTypeName}

abbrev said : ℕ → List ℕ → Result (Option (List ℕ)) NoTypeName
said = line_said (λ number. name_in)

abbrev is_word_or_none : Option (List ℕ) → Bool
is_word_or_none None = true
is_word_or_none (Some name) = is_word name

name_word : (fields : List (List ℕ)) → is_word_or_none (line_value (some_value (name_in fields)))
    ≡ true
name_word [] = refl
name_word (first ∷ []) =
    elim (is_word first) as
    (λ b. is_word first ≡ b
    → is_word_or_none (line_value (some_value (cond b (Ok first) (Err no_name)))) ≡ true)
    [ true ↦ λ t. t | false ↦ λ f. refl ] refl
name_word (first ∷ second ∷ more) = refl

fields_word : (fields : List (List ℕ)) → is_word_or_none (line_value (fields_said name_in fields))
    ≡ true
fields_word [] = refl
fields_word (first ∷ more) =
    elim (is_comment first) as
    (λ b. is_word_or_none (line_value (cond b (Ok None) (some_value (name_in (first ∷ more)))))
    ≡ true) [ true ↦ refl | false ↦ name_word (first ∷ more) ]

cons_words : (value : Option (List ℕ)) (names : List (List ℕ)) → is_word_or_none value ≡ true
    → list_all is_word names ≡ true → list_all is_word (cons_option value names) ≡ true
cons_words None names word rest = rest
cons_words (Some name) names word rest = ap (λ b. b && list_all is_word names) word ∙ rest

values_words : (lines : List (ℕ × List ℕ)) → list_all is_word (values said lines) ≡ true
values_words [] = refl
values_words (line ∷ lines) = cons_words (line_value (said line.0 line.1)) (values said lines)
    (fields_word (fields_of line.1)) (values_words lines)

chosen_values : (values names : List (List ℕ)) (refusal : Option (RefusedLine NoTypeName))
    → all_or_first values refusal ≡ Ok names → values ≡ names
chosen_values values names None h = cc
chosen_values values names (Some refusal) h = cc

pub read_words : (bytes : List ℕ) (names : List (List ℕ)) → names_read bytes ≡ Ok names
    → list_all is_word names ≡ true
read_words bytes names h =
    let lines = enumerate_from 1 (lines_of bytes) in
    ap (list_all is_word)
    (sym (chosen_values (values said lines) names (first_of (refusals said lines)) h))
    ∙ values_words lines
