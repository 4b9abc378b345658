-- What is written of a value stands for it, byte by byte.
use Rattle.std.proofs.Common.{◌≡◌, ◌∙◌, ap, sym, refl, subst, ℕ, suc, ◌+◌, ◌/◌, ◌%◌, ◌<◌, Bool}
use Rattle.std.proofs.Common.{true, false, cond, List, [], ◌∷◌, ◌++◌, get_or, arith}
use Rattle.std.specs.Prelude.{◌==◌, slice_index}
use Rattle.std.proofs.lemmas.Bool.{eqb-true, ne_eqb, or_from}
use Rattle.hex.specs.Hex.{decode_of, encode_lower, encode_with, lower_digits}
use Rattle.hex.proofs.HexLemmas.{decode_of-encode_lower}
use Rattle.label_base.proofs.EscapeLemmas.{plain_apart, octal_of}
use Rattle.label_base.specs.Escape.{is_plain_byte}
use Rattle.setfattr_dump.specs.Grammar as grammar
use Rattle.setfattr_dump.specs.Grammar.{IsText, IsValue}
use Rattle.setfattr_dump.specs.declared.marks.TheConstants.{HEX_MARK, QUOTE_ESCAPE, QUOTE_MARK}
use Rattle.setfattr_dump.specs.Values.{hex_bytes, is_digest, is_escapable, quoted_bytes, value_text}

-- ---- between quotes

digit_apart : (q : ℕ) → q < 8 → is_escapable (48 + q) ≡ false
digit_apart q h =
    or_from (48 + q == 34) (48 + q == 92) (ne_eqb (48 + q) 34 (λ e. absurd (omega arith)))
    (ne_eqb (48 + q) 92 (λ e. absurd (omega arith)))

byte_stands : (b : ℕ) (rest bytes : List ℕ) (q p : Bool) → b < 256 → (b == 34) ≡ q
    → is_plain_byte b ≡ p → IsText rest bytes
    → IsText (cond q QUOTE_ESCAPE.now
    (cond p (b ∷ []) (92 ∷ (48 + b / 64) ∷ (48 + b / 8 % 8) ∷ (48 + b % 8) ∷ [])) ++ rest)
    (b ∷ bytes)
byte_stands b rest bytes true p h e f t = subst (λ c. IsText (QUOTE_ESCAPE.now ++ rest) (c ∷ bytes))
    (sym (eqb-true b 34 e)) (grammar.octal 48 52 50 34 rest bytes refl refl t)
byte_stands b rest bytes false true h e f t =
    grammar.plain b rest bytes (or_from (b == 34) (b == 92) e (plain_apart b f)) t
byte_stands b rest bytes false false h e f t =
    grammar.octal (48 + b / 64) (48 + b / 8 % 8) (48 + b % 8) b rest bytes
    (digit_apart (b / 64) (omega arith)) (octal_of b h) t

text_stands : (bytes : List ℕ) → ((k : ℕ) → get_or bytes k 0 < 256)
    → IsText (quoted_bytes bytes) bytes
text_stands [] h = grammar.none
text_stands (b ∷ bs) h = byte_stands b (quoted_bytes bs) bs (b == 34) (is_plain_byte b) (h 0) refl
    refl (text_stands bs (λ k. h (suc k)))

-- ---- in digits

encoded : (bytes : List ℕ) → hex_bytes bytes ≡ encode_lower bytes
unfolding encode_with
encoded [] = refl
encoded (b ∷ bs) =
    ap (λ xs. slice_index lower_digits (b / 16) ∷ slice_index lower_digits (b % 16) ∷ xs)
    (encoded bs)

value_by : (key value : List ℕ) (v : Bool) → ((k : ℕ) → get_or value k 0 < 256)
    → IsValue (cond v (HEX_MARK.now ++ hex_bytes value)
    ((QUOTE_MARK.now ++ quoted_bytes value) ++ QUOTE_MARK.now)) value
value_by key value true h = grammar.digits 120 (hex_bytes value) value refl
    (ap decode_of (encoded value) ∙ decode_of-encode_lower value h)
value_by key value false h = grammar.text (quoted_bytes value) value (text_stands value h)

pub value_stands : (key value : List ℕ) → ((k : ℕ) → get_or value k 0 < 256)
    → IsValue (value_text key value) value
value_stands key value h = value_by key value (is_digest key) h
