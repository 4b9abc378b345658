-- What is written of a value reads as the value.
use Rattle.std.proofs.Common.{◌≡◌, ◌∙◌, ap, refl, ℕ, ◌+◌, ◌/◌, ◌%◌, Bool, true, false, cond, List}
use Rattle.std.proofs.Common.{[], ◌∷◌, ◌++◌}
use Rattle.std.specs.Cmp.{first_so, second_so}
use Rattle.std.specs.Prelude.{◌==◌}
use Rattle.std.specs.List.{list_all}
use Rattle.label_base.specs.Escape.{is_plain_byte}
use Rattle.setfattr_dump.specs.declared.marks.TheConstants.{QUOTE_ESCAPE}
use Rattle.setfattr_dump.specs.Values.{is_kept, quoted_bytes}

kept_byte : (q p : Bool) (b : ℕ) (escape : List ℕ) → cond q false p ≡ true
    → cond q QUOTE_ESCAPE.now (cond p (b ∷ []) escape) ≡ b ∷ []
kept_byte true p b escape h = cc
kept_byte false true b escape h = refl
kept_byte false false b escape h = cc

-- bytes that stand for themselves are written as they are
pub quoted_kept : (bytes : List ℕ) → list_all is_kept bytes ≡ true → quoted_bytes bytes ≡ bytes
quoted_kept [] h = refl
quoted_kept (b ∷ bs) h =
    ap (λ xs. xs ++ quoted_bytes bs)
    (kept_byte (b == 34) (is_plain_byte b) b
    (92 ∷ (48 + b / 64) ∷ (48 + b / 8 % 8) ∷ (48 + b % 8) ∷ [])
    (first_so (is_kept b) (list_all is_kept bs) h))
    ∙ ap (λ xs. b ∷ xs) (quoted_kept bs (second_so (is_kept b) (list_all is_kept bs) h))
