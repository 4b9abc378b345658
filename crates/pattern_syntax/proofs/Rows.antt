-- Worked rows of what texts read as.
use Rattle.std.proofs.Common.{◌≡◌, refl, ℕ, List, [], ◌∷◌}
use Rattle.std.specs.Prelude.{map, Result, Ok, Err, codes, Some, None}
use Rattle.pattern_syntax.specs.Tree.{Tree, Set, Nothing, Both, Repeat}
use Rattle.pattern_syntax.specs.ByteSet.{bytes_with, text_bytes}
use Rattle.pattern_syntax.specs.Escapes.{class_of_letter, control_of_letter, hexadecimal_digit}
use Rattle.pattern_syntax.specs.Escapes.{hexadecimal_at, plain_escape, escape_at}
use Rattle.pattern_syntax.specs.Brackets.{printing_class, number_class, named_class, inner_bracket}
use Rattle.pattern_syntax.specs.Brackets.{item_at, dash_part, part_behind, parts_from, set_at}
use Rattle.pattern_syntax.specs.Tokens.{upper_counts, lower_counts, counts_at, marked_repeat}
use Rattle.pattern_syntax.specs.Tokens.{special_group, group_at, start_anchor, end_anchor}
use Rattle.pattern_syntax.specs.Tokens.{repeat_or_byte, token_at, tokens_from}
use Rattle.pattern_syntax.specs.Reading.{first_fault, reads_as, pattern_of}
use Rattle.pattern_syntax.specs.declared.pattern_fault.PatternWhy.{PatternWhy}
use Rattle.pattern_syntax.specs.declared.pattern_fault.PatternWhy.TheVariants.{Syntax}
use Rattle.pattern_syntax.specs.declared.pattern_fault.PatternWhy.TheVariants.{UnsupportedPattern}
use Rattle.pattern_syntax.specs.declared.pattern_fault.PatternWhy.TheVariants.{TooManyPositions}

abbrev byte : ℕ → Tree
byte b = Set (b ∷ [])

abbrev trees : List (Result Tree PatternWhy)
trees =
    Ok (Both (Both (Both Nothing (byte 47)) (byte 97))
    (Repeat 0 (Some 1) (Both (Both Nothing (byte 47)) (Repeat 0 None (Set text_bytes)))))
    ∷ Ok (Both Nothing (Set (93 ∷ 97 ∷ [])))
    ∷ Ok (Both (Both (Both (Both (Both Nothing (byte 97)) (byte 123)) (byte 44)) (byte 51))
    (byte 125))
    ∷ Ok (Both (Both Nothing (byte 47)) (byte 97))
    ∷ []

trees_read : map pattern_of (codes "/a(/.*)?" ∷ codes "[]a]" ∷ codes "a{,3}" ∷ codes "^/a$" ∷ [])
    ≡ trees
unfolding class_of_letter control_of_letter hexadecimal_digit hexadecimal_at plain_escape escape_at
    printing_class number_class named_class inner_bracket item_at dash_part part_behind parts_from
    set_at upper_counts lower_counts counts_at marked_repeat special_group group_at start_anchor
    end_anchor repeat_or_byte token_at tokens_from first_fault reads_as pattern_of bytes_with
trees_read = refl

abbrev refusals : List (Result Tree PatternWhy)
refusals =
    Err (Syntax 2) ∷ Err (UnsupportedPattern 1) ∷ Err (Syntax 2) ∷ Err (Syntax 1) ∷ Err
    (UnsupportedPattern 1) ∷ Err (UnsupportedPattern 0) ∷ Err (Syntax 0) ∷ Err
    TooManyPositions ∷ []

refused : map pattern_of (codes "a**" ∷ codes "x*+" ∷ codes "(a" ∷ codes "a)" ∷ codes "a$b" ∷ codes
    "[[:word:]]" ∷ codes "[b-a\\q]" ∷ codes ".{2001}" ∷ []) ≡ refusals
unfolding class_of_letter control_of_letter hexadecimal_digit hexadecimal_at plain_escape escape_at
    printing_class number_class named_class inner_bracket item_at dash_part part_behind parts_from
    set_at upper_counts lower_counts counts_at marked_repeat special_group group_at start_anchor
    end_anchor repeat_or_byte token_at tokens_from first_fault reads_as pattern_of bytes_with
refused = refl
