-- One line that is given, and the line that no user is given.
use Rattle.std.proofs.Common.{◌≡◌, ◌∙◌, refl, ap, subst, ℕ, ◌<◌, ◌^◌, ◌≤◌, true, false, List, []}
use Rattle.std.proofs.Common.{◌∷◌, ◌++◌, length, arith}
use Rattle.std.specs.Prelude.{Option, Some, None, Result, Ok, nat_lt}
use Rattle.std.specs.List.{cons_option, list_any}
use Rattle.std.proofs.lemmas.Bool.{and_from, or_parts, ltb-false}
use Rattle.label_base.specs.Lines.{first_of}
use Rattle.file_roles.specs.declared.role.Part.TheVariants.{Homedirs}
use Rattle.label_base.specs.declared.lines.RefusedLine.{RefusedLine}
use Rattle.spec_reader.specs.SpecLines.{spec_of_fields}
use Rattle.spec_reader.specs.SpecValue.{SpecValue}
use Rattle.spec_reader.specs.declared.spec_fault.SpecWhy.{SpecWhy}
use Rattle.home_contexts.specs.Homes.{Given, filled_fields, given_to, is_long, line_text}
use Rattle.home_contexts.specs.Homes.{refusal_of}
use Rattle.home_contexts.specs.Making.{AddsGiven, IsMade, RefusedAs, StopsAtRefused, are_parts}
use Rattle.home_contexts.specs.Making.{is_home_given}
use Rattle.home_contexts.specs.declared.homes_fault.HomesWhy.{HomesWhy}
use Rattle.home_contexts.specs.declared.homes_fault.HomesWhy.TheVariants.{Refused, TooLong}
use Rattle.home_contexts.specs.declared.homes_fault.HomesWhy.TheVariants.{TooManySpecs}
use Rattle.home_contexts.specs.User.{IsUser, UserValue}
use Rattle.home_contexts.specs.declared.made.Made.{Made}
use Rattle.home_contexts.proofs.GivenParts.{given_parts}

abbrev pub given_line : UserValue → ℕ → List (List ℕ) → Given
given_line user number fields = record { number = number; fields = filled_fields user fields }

pub line_adds : (old new : Made) (user value : UserValue) (number : ℕ) (fields : List (List ℕ)) →
    IsUser value → value ≡ user → are_parts fields ≡ true
    → (spec : SpecValue) × (spec_of_fields Homedirs 1 (filled_fields user fields) ≡ Ok spec)
    → ((given : List Given) → IsMade old given → IsMade new (given ++ given_line user number fields
    ∷ []))
    → AddsGiven old new (given_to (user ∷ []) number fields)
line_adds old new user value number fields own same parts (spec, read) made = record {
  parts = and_from (is_home_given (given_line user number fields)) true
      (given_parts user (subst IsUser
      same own) fields parts) refl;
  fine = ap (λ (r : Result SpecValue SpecWhy). first_of (cons_option (refusal_of number r) []))
      read;
  made = made;
}

pub line_stops : (cause : Option HomesWhy) (user : UserValue) (number : ℕ) (fields : List (List ℕ))
    → RefusedAs cause number (spec_of_fields Homedirs 1 (filled_fields user fields))
    → StopsAtRefused cause
    (given_to (user ∷ []) number fields)
line_stops None user number fields h = tt
line_stops (Some (Refused refused)) user number fields h = ap (λ (o : Option (RefusedLine SpecWhy)).
    first_of (cons_option o [])) h
line_stops (Some TooManySpecs) user number fields h = h
line_stops (Some TooLong) user number fields h = h

pub filled_alone : (user value : UserValue) (fields : List (List ℕ)) → IsUser value → value ≡ user →
    are_parts fields ≡ true → are_parts (filled_fields user fields) ≡ true
filled_alone user value fields own same parts = given_parts user (subst IsUser same own) fields
    parts

short_of : (n : ℕ) → nat_lt 67108864 n ≡ false → n < 2 ^ 32
short_of n h = let e : n ≤ 67108864 = ltb-false 67108864 n h in omega arith

pub line_short : (user : UserValue) (number : ℕ) (fields : List (List ℕ)) (line : List ℕ) → list_any
    is_long (given_to (user ∷ []) number fields) ≡ false → line ≡ line_text (filled_fields user
    fields) → length line < 2 ^ 32
line_short user number fields line short same =
    let here = (or_parts (is_long (given_line user number fields)) false short).0 in
    short_of (length line) (ap (λ l. nat_lt 67108864 (length l)) same ∙ here)
