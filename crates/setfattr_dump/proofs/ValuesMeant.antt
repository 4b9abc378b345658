-- A value reads as the bytes that its grammar gives it.
use Rattle.std.proofs.Common.{◌≡◌, ◌∙◌, ap, sym, refl, subst, ℕ, true, false, cond, List, [], ◌∷◌}
use Rattle.std.proofs.Common.{◌++◌}
use Rattle.std.specs.Prelude.{◌==◌, Option, Some, None, Result, Ok, Err}
use Rattle.std.proofs.lemmas.Bool.{eqb-true, or_from, or_parts, cond-true, cond-false}
use Rattle.std.specs.Result.{result_ok}
use Rattle.hex.specs.Hex.{decode_of}
use Rattle.hex.specs.declared.error.FromHexError.{FromHexError}
use Rattle.label_base.specs.Escape.{in_front, led_by, octal_byte}
use Rattle.setfattr_dump.specs.Grammar as grammar
use Rattle.setfattr_dump.specs.Grammar.{AreDigits, IsText, IsValue}
use Rattle.setfattr_dump.specs.Values.{Before, Nothing, Backslash, One, Two, behind_zero}
use Rattle.setfattr_dump.specs.Values.{quote_closed, digits_read, is_digits_mark, is_escapable}
use Rattle.setfattr_dump.specs.Values.{text_read, value_read}
use Rattle.setfattr_dump.proofs.ValueLemmas.{last_chosen}

-- ---- what the grammar gives is read

pub text_complete : (text value : List ℕ) → IsText text value → text_read Nothing (text ++ 34 ∷ [])
    ≡ Some value
unfolding text_read
text_complete text value grammar.none = refl
text_complete text value (grammar.plain b rest bytes other h) =
    let plain = or_parts (b == 34) (b == 92) other in
    let left = rest ++ 34 ∷ [] in
    last_chosen (b == 34) (b == 92) (quote_closed left) (text_read Backslash left)
    (led_by (Some b) (text_read Nothing left)) plain.0 plain.1
    ∙ ap (in_front (b ∷ [])) (text_complete rest bytes h)
text_complete text value (grammar.itself b rest bytes escapable h) =
    let left = rest ++ 34 ∷ [] in
    cond-true (is_escapable b) (led_by (Some b) (text_read Nothing left)) (text_read (One b) left)
    escapable
    ∙ ap (in_front (b ∷ [])) (text_complete rest bytes h)
text_complete text value (grammar.octal x y z b rest bytes other digits h) =
    let left = rest ++ 34 ∷ [] in
    cond-false (is_escapable x) (led_by (Some x) (text_read Nothing (y ∷ z ∷ left)))
    (led_by (octal_byte x y z) (text_read Nothing left)) other
    ∙ ap (λ o. led_by o (text_read Nothing left)) digits
    ∙ ap (in_front (b ∷ [])) (text_complete rest bytes h)

marked_digits : (x : ℕ) (spelled : List ℕ) → is_digits_mark x ≡ true → behind_zero (x ∷ spelled)
    ≡ digits_read spelled
unfolding behind_zero
marked_digits x spelled h = cond-true (is_digits_mark x) (digits_read spelled) None h

pub value_complete : (given value : List ℕ) → IsValue given value → value_read given ≡ Some value
unfolding value_read
value_complete given value (grammar.text spelled bytes h) = text_complete spelled value h
value_complete given value (grammar.digits x spelled bytes mark h) = marked_digits x spelled mark
    ∙ ap result_ok h

-- ---- what is read, the grammar gives

record Leads (b : ℕ) (o : Option (List ℕ)) (value : List ℕ) : Type 0 where
  pub rest : List ℕ
  pub found : o ≡ Some rest
  pub whole : b ∷ rest ≡ value

leads : (b : ℕ) (o : Option (List ℕ)) (value : List ℕ) → led_by (Some b) o ≡ Some value
    → Leads b o value
leads b None value h = cc
leads b (Some rest) value h = record { rest = rest; found = refl; whole = cc }

-- what of an escape was read, so that what is left can be its end
abbrev CanStand : Before → Type 0
CanStand Nothing = Unit {0}
CanStand Backslash = Unit {0}
CanStand (One x) = is_escapable x ≡ false
CanStand (Two x y) = is_escapable x ≡ false

abbrev with_before : Before → List ℕ → List ℕ
with_before Nothing text = text
with_before Backslash text = 92 ∷ text
with_before (One x) text = 92 ∷ x ∷ text
with_before (Two x y) text = 92 ∷ x ∷ y ∷ text

-- the rest is the end of a text, and the quote that closes it
record IsEnd (before : Before) (rest value : List ℕ) : Type 0 where
  pub text : List ℕ
  pub closed_by : rest ≡ text ++ 34 ∷ []
  pub stands : IsText (with_before before text) value

closed_is : (rest value : List ℕ) → quote_closed rest ≡ Some value → IsEnd Nothing (34 ∷ rest) value
closed_is [] value h = let e : [] ≡ value = cc in
    record { text = []; closed_by = refl; stands = subst (IsText []) e grammar.none }
closed_is (b ∷ bs) value h = cc

plain_end : (b : ℕ) (rest value bytes : List ℕ) → is_escapable b ≡ false → IsEnd Nothing rest bytes
    → b ∷ bytes ≡ value → IsEnd Nothing (b ∷ rest) value
plain_end b rest value bytes other e whole = record {
  text = b ∷ e.text;
  closed_by = ap (λ xs. b ∷ xs) e.closed_by;
  stands = subst (IsText (b ∷ e.text)) whole (grammar.plain b e.text bytes other e.stands);
}

escape_end : (rest value : List ℕ) → IsEnd Backslash rest value → IsEnd Nothing (92 ∷ rest) value
escape_end rest value e =
    record { text = 92 ∷ e.text; closed_by = ap (λ xs. 92 ∷ xs) e.closed_by; stands = e.stands }

itself_end : (x : ℕ) (rest value bytes : List ℕ) → is_escapable x ≡ true → IsEnd Nothing rest bytes
    → x ∷ bytes ≡ value → IsEnd Backslash (x ∷ rest) value
itself_end x rest value bytes escapable e whole = record {
  text = x ∷ e.text;
  closed_by = ap (λ xs. x ∷ xs) e.closed_by;
  stands = subst (IsText (92 ∷ x ∷ e.text)) whole
      (grammar.itself x e.text bytes escapable e.stands);
}

one_end : (x : ℕ) (rest value : List ℕ) → IsEnd (One x) rest value
    → IsEnd Backslash (x ∷ rest) value
one_end x rest value e =
    record { text = x ∷ e.text; closed_by = ap (λ xs. x ∷ xs) e.closed_by; stands = e.stands }

two_end : (x y : ℕ) (rest value : List ℕ) → IsEnd (Two x y) rest value
    → IsEnd (One x) (y ∷ rest) value
two_end x y rest value e =
    record { text = y ∷ e.text; closed_by = ap (λ xs. y ∷ xs) e.closed_by; stands = e.stands }

octal_end : (x y z b : ℕ) (rest value bytes : List ℕ) → is_escapable x ≡ false
    → octal_byte x y z ≡ Some b → IsEnd Nothing rest bytes → b ∷ bytes ≡ value
    → IsEnd (Two x y) (z ∷ rest) value
octal_end x y z b rest value bytes other digits e whole = record {
  text = z ∷ e.text;
  closed_by = ap (λ xs. z ∷ xs) e.closed_by;
  stands = subst (IsText (92 ∷ x ∷ y ∷ z ∷ e.text)) whole
      (grammar.octal x y z b e.text bytes other digits e.stands);
}

text_sound : (before : Before) (rest value : List ℕ) → CanStand before → text_read before rest
    ≡ Some value → IsEnd before rest value
unfolding text_read
text_sound Nothing [] value can h = cc
text_sound Backslash [] value can h = cc
text_sound (One x) [] value can h = cc
text_sound (Two x y) [] value can h = cc
text_sound Nothing (b ∷ rest) value can h =
    elim (b == 34) as
    (λ q. (b == 34) ≡ q
    → cond q (quote_closed rest)
    (cond (b == 92) (text_read Backslash rest) (led_by (Some b) (text_read Nothing rest)))
    ≡ Some value → IsEnd Nothing (b ∷ rest) value) [
      | true ↦ λ t h. subst (λ c. IsEnd Nothing (c ∷ rest) value) (sym (eqb-true b 34 t))
          (closed_is rest value h)
      | false ↦ λ f h.
          elim (b == 92) as
          (λ q. (b == 92) ≡ q
          → cond q (text_read Backslash rest) (led_by (Some b) (text_read Nothing rest))
          ≡ Some value → IsEnd Nothing (b ∷ rest) value) [
            | true ↦ λ t h. subst (λ c. IsEnd Nothing (c ∷ rest) value) (sym (eqb-true b 92 t))
                (escape_end rest value (text_sound Backslash rest value tt h))
            | false ↦ λ g h.
                let l = leads b (text_read Nothing rest) value h in
                plain_end b rest value l.rest (or_from (b == 34) (b == 92) f g)
                (text_sound Nothing rest l.rest tt l.found) l.whole
          ] refl h
    ] refl h
text_sound Backslash (x ∷ rest) value can h =
    elim (is_escapable x) as
    (λ q. is_escapable x ≡ q → cond q (led_by (Some x) (text_read Nothing rest))
    (text_read (One x) rest) ≡ Some value → IsEnd Backslash (x ∷ rest) value) [
      | true ↦ λ t h.
          let l = leads x (text_read Nothing rest) value h in
          itself_end x rest value l.rest t (text_sound Nothing rest l.rest tt l.found) l.whole
      | false ↦ λ f h. one_end x rest value (text_sound (One x) rest value f h)
    ] refl h
text_sound (One x) (y ∷ rest) value can h =
    two_end x y rest value (text_sound (Two x y) rest value can h)
text_sound (Two x y) (z ∷ rest) value can h =
    elim (octal_byte x y z) as (λ o. octal_byte x y z ≡ o → led_by o (text_read Nothing rest)
    ≡ Some value → IsEnd (Two x y) (z ∷ rest) value) [
      | None ↦ λ e h. cc
      | (Some b) ↦ λ e h.
          let l = leads b (text_read Nothing rest) value h in
          octal_end x y z b rest value l.rest can e (text_sound Nothing rest l.rest tt l.found)
          l.whole
    ] refl h

is_ok : (read : Result (List ℕ) FromHexError) (value : List ℕ) → result_ok read ≡ Some value
    → read ≡ Ok value
is_ok (Ok bytes) value h = cc
is_ok (Err e) value h = cc

zero_sound : (rest value : List ℕ) → behind_zero rest ≡ Some value → IsValue (48 ∷ rest) value
unfolding behind_zero
zero_sound [] value h = cc
zero_sound (x ∷ digits) value h =
    elim (is_digits_mark x) as (λ q. is_digits_mark x ≡ q → cond q (digits_read digits) None
    ≡ Some value → IsValue (48 ∷ x ∷ digits) value) [
      | true ↦ λ t h. grammar.digits x digits value t (is_ok (decode_of digits) value h)
      | false ↦ λ f h. cc
    ] refl h

quoted_sound : (rest value : List ℕ) → IsEnd Nothing rest value → IsValue (34 ∷ rest) value
quoted_sound rest value e = subst (λ xs. IsValue (34 ∷ xs) value) (sym e.closed_by)
    (grammar.text e.text value e.stands)

pub value_sound : (given value : List ℕ) → value_read given ≡ Some value → IsValue given value
unfolding value_read
value_sound [] value h = cc
value_sound (b ∷ rest) value h =
    elim (b == 34) as
    (λ q. (b == 34) ≡ q
    → cond q (text_read Nothing rest) (cond (b == 48) (behind_zero rest) None) ≡ Some value
    → IsValue (b ∷ rest) value) [
      | true ↦ λ t h. subst (λ c. IsValue (c ∷ rest) value) (sym (eqb-true b 34 t))
          (quoted_sound rest value (text_sound Nothing rest value tt h))
      | false ↦ λ f h.
          elim (b == 48) as (λ q. (b == 48) ≡ q → cond q (behind_zero rest) None ≡ Some value
          → IsValue (b ∷ rest) value) [
            | true ↦ λ t h. subst (λ c. IsValue (c ∷ rest) value) (sym (eqb-true b 48 t))
                (zero_sound rest value h)
            | false ↦ λ g h. cc
          ] refl h
    ] refl h
