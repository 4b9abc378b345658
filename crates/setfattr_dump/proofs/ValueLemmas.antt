-- What a value reads as, from one escape, or one pair of digits, to the next.
use Rattle.std.proofs.Common.{◌≡◌, ◌∙◌, ap, sym, refl, subst, ℕ, zero, suc, ◌<◌, ◌≤◌, Bool, true}
use Rattle.std.proofs.Common.{false, cond, List, [], ◌∷◌, ◌++◌, length, get_or, take, drop}
use Rattle.std.proofs.Common.{append_assoc, arith}
use Rattle.std.proofs.Math.Seq.{take-length, drop-length}
use Rattle.std.specs.Prelude.{Option, Some, None, ◌==◌, ◌||◌, Result, Err}
use Rattle.std.proofs.lemmas.Bool.{eqb-true, eqb-false, false_from_ne_true, ne_eqb, or_parts}
use Rattle.std.proofs.lemmas.Bool.{cond-true, cond-false}
use Rattle.memchr.specs.Find.{Nowhere, Passes, is_byte2}
use Rattle.label_base.specs.Answers.{Answers}
use Rattle.label_base.specs.Escape.{in_front, led_by, octal_byte}
use Rattle.label_base.proofs.EscapeLemmas.{in_front-nil, in_front-append}
use Rattle.setfattr_dump.specs.declared.fault.DumpWhy.{DumpWhy}
use Rattle.setfattr_dump.specs.declared.fault.DumpWhy.TheVariants.{BadValue}
use Rattle.setfattr_dump.specs.Values.{behind_zero, is_digits_mark, Nothing, Backslash, One}
use Rattle.setfattr_dump.specs.Values.{quote_closed, digits_read, is_escapable, text_read}
use Rattle.setfattr_dump.specs.Values.{value_or_bad, value_read}

pub last_chosen : (p q : Bool) (x y z : Option (List ℕ)) → p ≡ false → q ≡ false
    → cond p x (cond q y z) ≡ z
last_chosen p q x y z hp hq = rw (hp, hq) refl

-- bytes that stand for themselves, and what is behind them
pub plain_front : (text : List ℕ) (k : ℕ) → k ≤ length text → Nowhere (Passes (is_byte2 34 92) text)
    0 k → text_read Nothing text ≡ in_front (take k text) (text_read Nothing (drop k text))
unfolding text_read
plain_front text zero h f = sym (in_front-nil (text_read Nothing text))
plain_front [] (suc k) h f = absurd (omega arith)
plain_front (b ∷ bs) (suc k) h f =
    let plain = or_parts (b == 34) (b == 92)
    (false_from_ne_true (is_byte2 34 92 b) (f 0 (omega arith) (omega arith))) in
    last_chosen (b == 34) (b == 92) (quote_closed bs) (text_read Backslash bs)
    (led_by (Some b) (text_read Nothing bs)) plain.0 plain.1
    ∙ ap (in_front (b ∷ []))
    (plain_front bs k (omega arith) (λ i low high. f (suc i) (omega arith) (omega arith)))
    ∙ in_front-append (b ∷ []) (take k bs) (text_read Nothing (drop k bs))

pub plain_whole : (text : List ℕ) → Nowhere (Passes (is_byte2 34 92) text) 0 (length text)
    → text_read Nothing text ≡ in_front text (text_read Nothing [])
plain_whole text f =
    plain_front text (length text) (omega arith) f
    ∙ ap (λ front. in_front front (text_read Nothing (drop (length text) text))) (take-length text)
    ∙ ap (λ rest. in_front text (text_read Nothing rest)) (drop-length text)

-- ---- an escape, behind its backslash

pub escaped_itself : (text : List ℕ) → 1 ≤ length text → is_escapable (get_or text 0 0) ≡ true
    → text_read Backslash text ≡ led_by (Some (get_or text 0 0)) (text_read Nothing (drop 1 text))
unfolding text_read
escaped_itself [] h e = absurd (omega arith)
escaped_itself (x ∷ rest) h e =
    cond-true (is_escapable x) (led_by (Some x) (text_read Nothing rest)) (text_read (One x) rest) e

pub escaped_octal : (text : List ℕ) → 1 ≤ length text → 2 ≤ length (drop 1 text)
    → is_escapable (get_or text 0 0) ≡ false → text_read Backslash text
    ≡ led_by (octal_byte (get_or text 0 0) (get_or (drop 1 text) 0 0) (get_or (drop 1 text) 1 0))
    (text_read Nothing (drop 2 (drop 1 text)))
unfolding text_read
escaped_octal [] h k e = absurd (omega arith)
escaped_octal (x ∷ []) h k e = absurd (omega arith)
escaped_octal (x ∷ y ∷ []) h k e = absurd (omega arith)
escaped_octal (x ∷ y ∷ z ∷ rest) h k e =
    cond-false (is_escapable x) (led_by (Some x) (text_read Nothing (y ∷ z ∷ rest)))
    (led_by (octal_byte x y z) (text_read Nothing rest)) e

pub escaped_nothing : (text : List ℕ) → length text < 1 → text_read Backslash text ≡ None
unfolding text_read
escaped_nothing [] h = refl
escaped_nothing (x ∷ rest) h = absurd (omega arith)

pub escaped_short : (text : List ℕ) → 1 ≤ length text → length (drop 1 text) < 2
    → is_escapable (get_or text 0 0) ≡ false → text_read Backslash text ≡ None
unfolding text_read
escaped_short [] h k e = absurd (omega arith)
escaped_short (x ∷ []) h k e = cond-false (is_escapable x) (led_by (Some x) (text_read Nothing []))
    None e
escaped_short (x ∷ y ∷ []) h k e =
    cond-false (is_escapable x) (led_by (Some x) (text_read Nothing (y ∷ []))) None e
escaped_short (x ∷ y ∷ z ∷ rest) h k e = absurd (omega arith)

-- ---- where plain bytes end

pub at_nothing : (rest : List ℕ) → length rest < 1 → text_read Nothing rest ≡ None
unfolding text_read
at_nothing [] h = refl
at_nothing (b ∷ bs) h = absurd (omega arith)

quoted : (b : ℕ) (bs : List ℕ) → b ≡ 34 → text_read Nothing (b ∷ bs) ≡ quote_closed bs
unfolding text_read
quoted b bs h = rw h refl

pub at_quote : (rest : List ℕ) → 1 ≤ length rest → get_or rest 0 0 ≡ 34 → text_read Nothing rest
    ≡ quote_closed (drop 1 rest)
at_quote [] h e = absurd (omega arith)
at_quote (b ∷ bs) h e = quoted b bs e

backslash_left : (q p : Bool) (x y z : Option (List ℕ)) → (q || p) ≡ true → q ≡ false
    → cond q x (cond p y z) ≡ y
backslash_left true p x y z e f = cc
backslash_left false true x y z e f = refl
backslash_left false false x y z e f = cc

pub at_backslash : (rest : List ℕ) → 1 ≤ length rest → is_escapable (get_or rest 0 0) ≡ true
    → (get_or rest 0 0 ≡ 34 → ⊥) → text_read Nothing rest ≡ text_read Backslash (drop 1 rest)
unfolding text_read
at_backslash [] h e f = absurd (omega arith)
at_backslash (b ∷ bs) h e f = backslash_left (b == 34) (b == 92) (quote_closed bs)
    (text_read Backslash bs) (led_by (Some b) (text_read Nothing bs)) e (ne_eqb b 34 f)

pub closed_some : (rest : List ℕ) → (length rest == 0) ≡ true → quote_closed rest ≡ Some []
closed_some [] h = refl
closed_some (b ∷ bs) h = absurd (omega (arith, eqb-true (length (b ∷ bs)) 0 h))

pub closed_none : (rest : List ℕ) → (length rest == 0) ≡ false → quote_closed rest ≡ None
closed_none [] h = absurd (eqb-false 0 0 h refl)
closed_none (b ∷ bs) h = refl

-- ---- plain bytes, and what is behind them

pub unread : (text plain rest : List ℕ) → text_read Nothing text ≡ in_front plain
    (text_read Nothing rest) → text_read Nothing rest ≡ None → value_or_bad (text_read Nothing text)
    ≡ Err BadValue
unread text plain rest h e = ap value_or_bad (h ∙ ap (in_front plain) e)

pub closes : (text plain rest old new : List ℕ) → text_read Nothing text ≡ in_front plain
    (text_read Nothing rest) → text_read Nothing rest ≡ Some [] → new ≡ old ++ plain
    → in_front old (text_read Nothing text) ≡ Some (new ++ [])
closes text plain rest old new h e n =
    ap (in_front old) (h ∙ ap (in_front plain) e)
    ∙ ap Some (sym (append_assoc old plain []) ∙ ap (λ xs. xs ++ []) (sym n))

pub goes_on : (text plain rest behind old pushed new : List ℕ) (b : ℕ) → text_read Nothing text
    ≡ in_front plain (text_read Nothing rest) → text_read Nothing rest ≡ led_by (Some b)
    (text_read Nothing behind) → pushed ≡ old ++ plain → new ≡ pushed ++ b ∷ []
    → in_front old (text_read Nothing text) ≡ in_front new (text_read Nothing behind)
goes_on text plain rest behind old pushed new b h e p n =
    let left = text_read Nothing behind in
    ap (in_front old) (h ∙ ap (in_front plain) e)
    ∙ in_front-append old plain (in_front (b ∷ []) left)
    ∙ in_front-append (old ++ plain) (b ∷ []) left
    ∙ ap (λ xs. in_front (xs ++ b ∷ []) left) (sym p)
    ∙ ap (λ xs. in_front xs left) (sym n)

-- ---- the first bytes of a value

pub value_nothing : (given : List ℕ) → length given < 1 → value_read given ≡ None
unfolding value_read
value_nothing [] h = refl
value_nothing (b ∷ bs) h = absurd (omega arith)

first_quote : (b : ℕ) (bs : List ℕ) → b ≡ 34 → value_read (b ∷ bs) ≡ text_read Nothing bs
unfolding value_read
first_quote b bs e = rw e refl

pub value_text : (given : List ℕ) → 1 ≤ length given → get_or given 0 0 ≡ 34
    → value_read given ≡ text_read Nothing (drop 1 given)
value_text [] h e = absurd (omega arith)
value_text (b ∷ bs) h e = first_quote b bs e

first_zero : (b : ℕ) (bs : List ℕ) → b ≡ 48 → value_read (b ∷ bs) ≡ behind_zero bs
unfolding value_read
first_zero b bs e = rw e refl

pub value_zero : (given : List ℕ) → 1 ≤ length given → get_or given 0 0 ≡ 48
    → value_read given ≡ behind_zero (drop 1 given)
value_zero [] h e = absurd (omega arith)
value_zero (b ∷ bs) h e = first_zero b bs e

pub value_other : (given : List ℕ) → 1 ≤ length given → (get_or given 0 0 ≡ 34 → ⊥)
    → (get_or given 0 0 ≡ 48 → ⊥) → value_read given ≡ None
unfolding value_read
value_other [] h q z = absurd (omega arith)
value_other (b ∷ bs) h q z = last_chosen (b == 34) (b == 48) (text_read Nothing bs) (behind_zero bs)
    None (ne_eqb b 34 q) (ne_eqb b 48 z)

pub zero_nothing : (rest : List ℕ) → length rest < 1 → behind_zero rest ≡ None
unfolding behind_zero
zero_nothing [] h = refl
zero_nothing (b ∷ bs) h = absurd (omega arith)

pub zero_digits : (rest : List ℕ) → 1 ≤ length rest → is_digits_mark (get_or rest 0 0) ≡ true
    → behind_zero rest ≡ digits_read (drop 1 rest)
unfolding behind_zero
zero_digits [] h e = absurd (omega arith)
zero_digits (x ∷ digits) h e = cond-true (is_digits_mark x) (digits_read digits) None e

pub zero_other : (rest : List ℕ) → 1 ≤ length rest → is_digits_mark (get_or rest 0 0) ≡ false
    → behind_zero rest ≡ None
unfolding behind_zero
zero_other [] h e = absurd (omega arith)
zero_other (x ∷ digits) h e = cond-false (is_digits_mark x) (digits_read digits) None e

-- what another text reads as
pub same_value : {F : Type 0} (view : F → Option DumpWhy) (result : Result (List ℕ) F)
    (read meant : Option (List ℕ)) → meant ≡ read → Answers (λ (v : List ℕ). v) view result
    (value_or_bad read) → Answers (λ (v : List ℕ). v) view result (value_or_bad meant)
same_value view result read meant e h =
    subst (λ o. Answers (λ (v : List ℕ). v) view result (value_or_bad o)) (sym e) h
