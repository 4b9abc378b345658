-- The types of a file are those that its grammar gives.
use Rattle.std.proofs.Common.{◌≡◌, ◌∙◌, ap, sym, refl, subst, ℕ, true, false, cond, List, [], ◌∷◌}
use Rattle.std.specs.Prelude.{◌↔◌, Result, Ok, Err}
use Rattle.label_base.specs.LineGrammar.{LinesMean}
use Rattle.label_base.specs.declared.lines.RefusedLine.{RefusedLine}
use Rattle.label_base.proofs.LinesMeant.{lines_mean}
use Rattle.context_syntax.specs.Context.{is_word}
use Rattle.context_syntax.specs.TypeNames.{NameSet, name_in, names_read, set_or_line, types_read}
use Rattle.context_syntax.specs.TypesGrammar.{TypeFieldsMean, IsTypeName, TypesMean}
use Rattle.context_syntax.specs.declared.customizable.NoTypeName.{NoTypeName}

fields_sound : (number : ℕ) (fields : List (List ℕ)) → TypeFieldsMean number fields (name_in fields)
fields_sound number [] = λ name h. let cut = h.0 in cc
fields_sound number (first ∷ []) =
    elim (is_word first) as
    (λ v. is_word first ≡ v → TypeFieldsMean number (first ∷ [])
    (cond v (Ok first) (Err (record {})))) [
      | true ↦ λ t. (refl, t)
      | false ↦ λ f name h. let cut = h.0 in let word = h.1 in cc
    ] refl
fields_sound number (first ∷ second ∷ more) = λ name h. let cut = h.0 in cc

refused_complete : (fields : List (List ℕ)) (why : NoTypeName) (read : Result (List ℕ) NoTypeName)
    → TypeFieldsMean 0 fields read → ((name : List ℕ) → ¬ IsTypeName fields name) → read ≡ Err why
refused_complete fields why (Ok name) h nothing = absurd (nothing name h)
refused_complete fields why (Err other) h nothing = refl

fields_complete : (number : ℕ) (fields : List (List ℕ)) (meant : Result (List ℕ) NoTypeName)
    → TypeFieldsMean number fields meant → name_in fields ≡ meant
fields_complete number fields (Ok name) h = ap name_in h.0
    ∙ ap (λ v. cond v (Ok name) (Err (record {}))) h.1
fields_complete number fields (Err why) h =
    refused_complete fields why (name_in fields) (fields_sound 0 fields) h

fields_mean : (number : ℕ) (fields : List (List ℕ)) (meant : Result (List ℕ) NoTypeName)
    → (name_in fields ≡ meant) ↔ TypeFieldsMean number fields meant
fields_mean number fields meant = (
  λ read. subst (TypeFieldsMean number fields) read (fields_sound number fields),
  fields_complete
      number fields meant,
)

names_mean : (text : List ℕ) (meant : Result (List (List ℕ)) (RefusedLine NoTypeName))
    → (names_read text ≡ meant) ↔ LinesMean TypeFieldsMean text meant
names_mean text meant = lines_mean TypeFieldsMean (λ number. name_in) fields_mean text meant

types_sound : (text : List ℕ) (names : Result (List (List ℕ)) (RefusedLine NoTypeName))
    → LinesMean TypeFieldsMean text names → TypesMean text (set_or_line names)
types_sound text (Ok names) h = (names, h, refl)
types_sound text (Err refused) h = h

types_complete : (text : List ℕ) (meant : Result NameSet (RefusedLine NoTypeName))
    → TypesMean text meant → types_read text ≡ meant
types_complete text (Ok types) (names, h, same) = ap set_or_line ((names_mean text (Ok names)).1 h)
    ∙ ap Ok (sym same)
types_complete text (Err refused) h = ap set_or_line ((names_mean text (Err refused)).1 h)

pub types_mean : (text : List ℕ) (meant : Result NameSet (RefusedLine NoTypeName))
    → (types_read text ≡ meant) ↔ TypesMean text meant
types_mean text meant = (
  λ read. subst (TypesMean text) read
      (types_sound text (names_read text) ((names_mean text (names_read text)).0 refl)),
  types_complete text meant,
)
