-- What stands at the front of a text, as far as its bytes may stand in a word.
use Rattle.std.proofs.Common.{◌≡◌, ◌∙◌, ap, sym, refl, subst, ℕ, zero, suc, ◌+◌, ◌<◌, ◌==◌, ◌≤◌}
use Rattle.std.proofs.Common.{Bool, true, false, List, [], ◌∷◌, ◌++◌, length, take, drop, get_or}
use Rattle.std.proofs.Common.{append-nil, arith, length-append}
use Rattle.std.specs.Prelude.{◌&&◌, not, Option, Some, None}
use Rattle.std.specs.Cmp.{first_so, second_so}
use Rattle.std.specs.List.{list_all}
use Rattle.std.proofs.lemmas.Bool.{ne_eqb}
use Rattle.std.proofs.lemmas.Bool.Decides.{nat_tests}
use Rattle.std.proofs.lemmas.List.{drop_all, drop_more, length-take, take_all}
use Rattle.label_base.specs.Cut.{front, behind}
use Rattle.context_syntax.specs.declared.context.TheConstants.{COLON}
use Rattle.context_syntax.specs.Context.{context_of, is_colon, is_range, is_word, is_word_byte}
use Rattle.context_syntax.specs.Context.{with_role, with_user}
use Rattle.context_syntax.proofs.Spelling.{colon_is, joined, no_colon}

front_past : (n : ℕ) (text : List ℕ) → list_all is_word_byte (take n text) ≡ true
    → front is_colon text ≡ take n text ++ front is_colon (drop n text)
front_past zero text h = refl
front_past (suc n) [] h = refl
front_past (suc n) (b ∷ bs) h =
    let here = no_colon b (first_so (is_word_byte b) (list_all is_word_byte (take n bs)) h) in
    rw here (ap (λ ys. b ∷ ys)
    (front_past n bs (second_so (is_word_byte b) (list_all is_word_byte (take n bs)) h)))

behind_past : (n : ℕ) (text : List ℕ) → list_all is_word_byte (take n text) ≡ true
    → behind is_colon text ≡ behind is_colon (drop n text)
behind_past zero text h = refl
behind_past (suc n) [] h = refl
behind_past (suc n) (b ∷ bs) h =
    let here = no_colon b (first_so (is_word_byte b) (list_all is_word_byte (take n bs)) h) in
    rw here (behind_past n bs (second_so (is_word_byte b) (list_all is_word_byte (take n bs)) h))

-- no byte is left
pub front_whole : (n : ℕ) (text : List ℕ) → list_all is_word_byte (take n text) ≡ true
    → n ≡ length text → text ≡ front is_colon text
front_whole n text h e =
    sym (front_past n text h
    ∙ ap (λ left. take n text ++ front is_colon left) (drop_all n text (omega (arith, e)))
    ∙ append-nil (take n text)
    ∙ take_all n text (omega (arith, e)))

pub behind_whole : (n : ℕ) (text : List ℕ) → list_all is_word_byte (take n text) ≡ true
    → n ≡ length text → None ≡ behind is_colon text
behind_whole n text h e =
    sym (behind_past n text h ∙ ap (behind is_colon) (drop_all n text (omega (arith, e))))

not_none : (n : ℕ) → 0 < n → not (n == 0) ≡ true
not_none n some = grind (arith, nat_tests)

word_if_long : (word : List ℕ) → 0 < length word → list_all is_word_byte word ≡ true
    → is_word word ≡ true
word_if_long word some h = rw (not_none (length word) some, h) refl

pub word_whole : (n : ℕ) (text : List ℕ) → list_all is_word_byte (take n text) ≡ true
    → n ≡ length text → 0 < n → is_word (front is_colon text) ≡ true
word_whole n text h e some =
    ap is_word (sym (front_whole n text h e))
    ∙ word_if_long text (omega (arith, e, some))
    (subst (λ bytes. list_all is_word_byte bytes ≡ true) (take_all n text (omega (arith, e))) h)

-- a colon is next
at_colon : (n : ℕ) (text : List ℕ) → n < length text → get_or text n 0 ≡ COLON
    → drop n text ≡ COLON ∷ drop (n + 1) text
at_colon n text l c = drop_more text n 0 l ∙ ap (λ b. b ∷ drop (n + 1) text) c

pub front_colon : (n : ℕ) (text : List ℕ) → list_all is_word_byte (take n text) ≡ true
    → n < length text → get_or text n 0 ≡ COLON → take n text ≡ front is_colon text
front_colon n text h l c =
    sym (front_past n text h
    ∙ ap (λ left. take n text ++ front is_colon left) (at_colon n text l c)
    ∙ append-nil (take n text))

pub behind_colon_is : (n : ℕ) (text : List ℕ) → list_all is_word_byte (take n text) ≡ true
    → n < length text → get_or text n 0 ≡ COLON → Some (drop (n + 1) text) ≡ behind is_colon text
behind_colon_is n text h l c =
    sym (behind_past n text h ∙ ap (behind is_colon) (at_colon n text l c))

pub word_colon : (n : ℕ) (text : List ℕ) → list_all is_word_byte (take n text) ≡ true → 0 < n
    → n < length text → get_or text n 0 ≡ COLON → is_word (front is_colon text) ≡ true
word_colon n text h some l c =
    let size : 0 < length (take n text) = omega (arith, some, l, length-take n text) in
    ap is_word (sym (front_colon n text h l c)) ∙ word_if_long (take n text) size h

-- a byte is next that is neither
and_no : (x y : Bool) → y ≡ false → (x && y) ≡ false
and_no true y bad = bad
and_no false y bad = refl

bad_bytes : (word rest : List ℕ) (b : ℕ) → is_word_byte b ≡ false
    → list_all is_word_byte (word ++ b ∷ rest) ≡ false
bad_bytes [] rest b bad = rw bad refl
bad_bytes (c ∷ word) rest b bad =
    and_no (is_word_byte c) (list_all is_word_byte (word ++ b ∷ rest)) (bad_bytes word rest b bad)

bad_word : (word rest : List ℕ) (b : ℕ) → is_word_byte b ≡ false
    → is_word (word ++ b ∷ rest) ≡ false
bad_word word rest b bad =
    and_no (not (length (word ++ b ∷ rest) == 0)) (list_all is_word_byte (word ++ b ∷ rest))
    (bad_bytes word rest b bad)

pub no_word : (n : ℕ) (text : List ℕ) → list_all is_word_byte (take n text) ≡ true
    → n < length text → is_word_byte (get_or text n 0) ≡ false → (get_or text n 0 ≡ COLON → ⊥)
    → is_word (front is_colon text) ≡ false
no_word n text h l bad other =
    let apart : is_colon (get_or text n 0) ≡ false = ne_eqb (get_or text n 0) COLON other in
    ap is_word (front_past n text h
    ∙ ap (λ left. take n text ++ front is_colon left) (drop_more text n 0 l))
    ∙ rw apart (bad_word (take n text) (front is_colon (drop (n + 1) text)) (get_or text n 0) bad)

-- what stands behind a colon is shorter
pub behind_within : (text rest : List ℕ) → behind is_colon text ≡ Some rest
    → length rest ≤ length text
behind_within text rest cut =
    let size = ap length (joined is_colon text COLON colon_is rest cut)
    ∙ length-append (front is_colon text) (COLON ∷ rest) in
    omega (arith, size)

-- ---- texts that spell no context

no_user_in : (user : List ℕ) (more : Option (List ℕ))
    → ((rest : List ℕ) → more ≡ Some rest → is_word user ≡ false) → with_user user more ≡ None
no_user_in user None bad = refl
no_user_in user (Some rest) bad = with_bad (behind is_colon rest)
  where
    with_bad : (more : Option (List ℕ)) → with_role user (front is_colon rest) more ≡ None
    with_bad None = refl
    with_bad (Some last) = rw (bad rest refl) refl

pub no_user : (bytes : List ℕ) → ((rest : List ℕ) → behind is_colon bytes ≡ Some rest
    → is_word (front is_colon bytes) ≡ false) → context_of bytes ≡ None
no_user bytes bad = no_user_in (front is_colon bytes) (behind is_colon bytes) bad

no_role_in : (user role : List ℕ) (more : Option (List ℕ)) → is_word user ≡ true
    → ((last : List ℕ) → more ≡ Some last → is_word role ≡ false) → with_role user role more ≡ None
no_role_in user role None is_user bad = refl
no_role_in user role (Some last) is_user bad = rw (is_user, bad last refl) refl

pub no_role : (bytes rest : List ℕ) → behind is_colon bytes ≡ Some rest
    → is_word (front is_colon bytes) ≡ true → ((last : List ℕ) → behind is_colon rest ≡ Some last
    → is_word (front is_colon rest) ≡ false) → context_of bytes ≡ None
no_role bytes rest first is_user bad =
    ap (with_user (front is_colon bytes)) first
    ∙ no_role_in (front is_colon bytes) (front is_colon rest) (behind is_colon rest) is_user bad

pub no_kind : (bytes rest last : List ℕ) → behind is_colon bytes ≡ Some rest
    → behind is_colon rest ≡ Some last → is_word (front is_colon bytes) ≡ true
    → is_word (front is_colon rest) ≡ true → is_word (front is_colon last) ≡ false
    → context_of bytes ≡ None
no_kind bytes rest last first second is_user is_role bad =
    rw (first, second, is_user, is_role, bad) refl

pub no_range : (bytes rest last : List ℕ) → behind is_colon bytes ≡ Some rest
    → behind is_colon rest ≡ Some last → is_word (front is_colon bytes) ≡ true
    → is_word (front is_colon rest) ≡ true → is_word (front is_colon last) ≡ true
    → is_range (behind is_colon last) ≡ false → context_of bytes ≡ None
no_range bytes rest last first second is_user is_role is_kind bad =
    rw (first, second, is_user, is_role, is_kind, bad) refl
