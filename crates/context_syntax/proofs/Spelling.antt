-- Reading a context and spelling it are each other's inverse.
use Rattle.std.proofs.Common.{◌≡◌, ◌∙◌, ap, sym, refl, subst, ℕ, ◌==◌, Bool, true, false, cond}
use Rattle.std.proofs.Common.{List, [], ◌∷◌, ◌++◌, length, append_assoc, append-nil, arith}
use Rattle.std.specs.Prelude.{Option, Some, None, ◌&&◌, not}
use Rattle.std.specs.List.{list_all}
use Rattle.std.proofs.lemmas.Bool.Decides.{nat_tests}
use Rattle.std.proofs.lemmas.Option.{cond_some}
use Rattle.std.specs.Cmp.{first_so, second_so}
use Rattle.label_base.specs.Cut.{front, behind}
use Rattle.context_syntax.specs.declared.context.TheConstants.{COLON}
use Rattle.context_syntax.specs.Context.{ContextValue, IsContext, SpellsContext, is_word}
use Rattle.context_syntax.specs.Context.{is_word_byte, is_range, is_colon, range_text, context_text}
use Rattle.context_syntax.specs.Context.{context_of, with_user, with_role, with_kind}

-- a colon stands in no word
pub no_colon : (b : ℕ) → is_word_byte b ≡ true → is_colon b ≡ false
no_colon b h = grind (arith, nat_tests)

pub front_word : (word rest : List ℕ) → list_all is_word_byte word ≡ true
    → front is_colon (word ++ COLON ∷ rest) ≡ word
front_word [] rest h = refl
front_word (b ∷ bs) rest h =
    let here = no_colon b (first_so (is_word_byte b) (list_all is_word_byte bs) h) in
    rw here (ap (λ ys. b ∷ ys)
    (front_word bs rest (second_so (is_word_byte b) (list_all is_word_byte bs) h)))

pub behind_word : (word rest : List ℕ) → list_all is_word_byte word ≡ true
    → behind is_colon (word ++ COLON ∷ rest) ≡ Some rest
behind_word [] rest h = refl
behind_word (b ∷ bs) rest h =
    let here = no_colon b (first_so (is_word_byte b) (list_all is_word_byte bs) h) in
    rw here (behind_word bs rest (second_so (is_word_byte b) (list_all is_word_byte bs) h))

front_last : (word : List ℕ) → list_all is_word_byte word ≡ true → front is_colon (word ++ [])
    ≡ word
front_last [] h = refl
front_last (b ∷ bs) h =
    let here = no_colon b (first_so (is_word_byte b) (list_all is_word_byte bs) h) in
    rw here (ap (λ ys. b ∷ ys)
    (front_last bs (second_so (is_word_byte b) (list_all is_word_byte bs) h)))

behind_last : (word : List ℕ) → list_all is_word_byte word ≡ true → behind is_colon (word ++ [])
    ≡ None
behind_last [] h = refl
behind_last (b ∷ bs) h =
    let here = no_colon b (first_so (is_word_byte b) (list_all is_word_byte bs) h) in
    rw here (behind_last bs (second_so (is_word_byte b) (list_all is_word_byte bs) h))

pub word_bytes : (word : List ℕ) → is_word word ≡ true → list_all is_word_byte word ≡ true
word_bytes word h = second_so (not (length word == 0)) (list_all is_word_byte word) h

pub front_kind : (kind : List ℕ) (range : Option (List ℕ)) → list_all is_word_byte kind ≡ true
    → front is_colon (kind ++ range_text range) ≡ kind
front_kind kind None h = front_last kind h
front_kind kind (Some r) h = front_word kind r h

pub behind_kind : (kind : List ℕ) (range : Option (List ℕ)) → list_all is_word_byte kind ≡ true
    → behind is_colon (kind ++ range_text range) ≡ range
behind_kind kind None h = behind_last kind h
behind_kind kind (Some r) h = behind_word kind r h

with_kind_is : (c : ContextValue) → IsContext c → with_kind c.user c.role c.kind c.range ≡ Some c
with_kind_is c h = rw (h.user, h.role, h.kind, h.range) refl

kind_read : (c : ContextValue) → IsContext c
    → with_role c.user c.role (Some (c.kind ++ range_text c.range)) ≡ Some c
kind_read c h =
    rw (
      front_kind c.kind c.range (word_bytes c.kind h.kind),
      behind_kind c.kind c.range
          (word_bytes c.kind h.kind),
    ) (with_kind_is c h)

role_read : (c : ContextValue) → IsContext c
    → with_user c.user (Some (c.role ++ COLON ∷ (c.kind ++ range_text c.range))) ≡ Some c
role_read c h =
    rw (
      front_word c.role (c.kind ++ range_text c.range) (word_bytes c.role h.role),
      behind_word
          c.role (c.kind ++ range_text c.range) (word_bytes c.role h.role),
    ) (kind_read c h)

user_read : (c : ContextValue) → IsContext c
    → context_of (c.user ++ COLON ∷ (c.role ++ COLON ∷ (c.kind ++ range_text c.range))) ≡ Some c
user_read c h =
    rw (
      front_word c.user (c.role ++ COLON ∷ (c.kind ++ range_text c.range))
          (word_bytes c.user h.user),
      behind_word c.user
          (c.role ++ COLON ∷ (c.kind ++ range_text c.range)) (word_bytes c.user h.user),
    ) (role_read c h)

-- the parts from left to right
pub spread : (user role kind range : List ℕ) → user ++ COLON ∷ role ++ COLON ∷ kind ++ range ≡ user
    ++ COLON ∷ (role ++ COLON ∷ (kind ++ range))
spread user role kind range = simp append_assoc

-- the spelling of a context is read as that context
pub read_back : (c : ContextValue) → IsContext c → context_of (context_text c) ≡ Some c
read_back c h = ap context_of (spread c.user c.role c.kind (range_text c.range)) ∙ user_read c h

pub complete : (bytes : List ℕ) (c : ContextValue) → SpellsContext bytes c
    → context_of bytes ≡ Some c
complete bytes c h = ap context_of h.text ∙ read_back c h.parts

-- what stands before the first element that passes, and the element
pub joined : (p : ℕ → Bool) (bytes : List ℕ) (b : ℕ) → ((x : ℕ) → p x ≡ true → x ≡ b)
    → (rest : List ℕ)
    → behind p bytes ≡ Some rest → bytes ≡ front p bytes ++ b ∷ rest
joined p [] b is rest h = cc
joined p (x ∷ xs) b is rest h =
    elim (p x) as (λ v. p x ≡ v → cond v (Some xs) (behind p xs) ≡ Some rest
    → x ∷ xs ≡ cond v [] (x ∷ front p xs) ++ b ∷ rest) [
      | true ↦ λ t e. let same : xs ≡ rest = cc in ap (λ y. y ∷ xs) (is x t)
          ∙ ap (λ ys. b ∷ ys) same
      | false ↦ λ f e. ap (λ ys. x ∷ ys) (joined p xs b is rest e)
    ] refl h

whole : (p : ℕ → Bool) (bytes : List ℕ) → behind p bytes ≡ None → bytes ≡ front p bytes
whole p [] h = refl
whole p (x ∷ xs) h =
    elim (p x) as (λ v. cond v (Some xs) (behind p xs) ≡ None
    → x ∷ xs ≡ cond v [] (x ∷ front p xs)) [
      | true ↦ λ e. cc
      | false ↦ λ e. ap (λ ys. x ∷ ys) (whole p xs e)
    ] h

pub colon_is : (x : ℕ) → is_colon x ≡ true → x ≡ COLON
colon_is x h = grind (arith, nat_tests)

-- the words of the last part, joined again
pub range_joined : (rest : List ℕ) (range : Option (List ℕ)) → behind is_colon rest ≡ range
    → rest ≡ front is_colon rest ++ range_text range
range_joined rest None h = whole is_colon rest h ∙ sym (append-nil (front is_colon rest))
range_joined rest (Some r) h = joined is_colon rest COLON colon_is r h

-- the value that passed the tests has parts in the grammar
kind_sound : (made c : ContextValue) → with_kind made.user made.role made.kind made.range ≡ Some c
    → (made ≡ c) × IsContext made
kind_sound made c h =
    let user = is_word made.user in
    let role = is_word made.role in
    let kind = is_word made.kind in
    let range = is_range made.range in
    let found = cond_some (user && role && kind && range) made c h in
    let words = first_so (user && role && kind) range found.0 in
    let pair = first_so (user && role) kind words in (
      found.1,
      record {
        user = first_so user role pair;
        role = second_so user role pair;
        kind = second_so (user && role) kind words;
        range =
            second_so (user && role && kind) range found.0;
      },
    )

spells_made : (rest : List ℕ) (made c : ContextValue) → with_kind made.user made.role made.kind
    made.range ≡ Some c → rest ≡ context_text made → SpellsContext rest c
spells_made rest made c h text =
    let found = kind_sound made c h in
    subst (SpellsContext rest) found.0 (record { parts = found.1; text = text })

role_sound : (user role rest : List ℕ) (c : ContextValue) → with_role user role (Some rest) ≡ Some c
    → SpellsContext (user ++ COLON ∷ role ++ COLON ∷ rest) c
role_sound user role rest c h =
    let kind = front is_colon rest in
    let range = behind is_colon rest in
    spells_made (user ++ COLON ∷ role ++ COLON ∷ rest)
    (record { user = user; role = role; kind = kind; range = range }) c h
    (ap (λ t. user ++ COLON ∷ role ++ COLON ∷ t) (range_joined rest range refl) ∙ simp append_assoc)

user_sound : (user rest : List ℕ) (more : Option (List ℕ)) (c : ContextValue) → behind is_colon rest
    ≡ more → with_role user (front is_colon rest) more ≡ Some c
    → SpellsContext (user ++ COLON ∷ rest) c
user_sound user rest None c cut h = cc
user_sound user rest (Some last) c cut h =
    let text : user ++ COLON ∷ rest ≡ user ++ COLON ∷ front is_colon rest ++ COLON ∷ last =
    ap (λ t. user ++ COLON ∷ t) (joined is_colon rest COLON colon_is last cut)
    ∙ simp append_assoc in
    subst (λ t. SpellsContext t c) (sym text) (role_sound user (front is_colon rest) last c h)

text_sound : (bytes : List ℕ) (more : Option (List ℕ)) (c : ContextValue) → behind is_colon bytes
    ≡ more → with_user (front is_colon bytes) more ≡ Some c → SpellsContext bytes c
text_sound bytes None c cut h = cc
text_sound bytes (Some rest) c cut h =
    subst (λ t. SpellsContext t c) (sym (joined is_colon bytes COLON colon_is rest cut))
    (user_sound (front is_colon bytes) rest (behind is_colon rest) c refl h)

-- what is read is spelled by the bytes
pub sound : (bytes : List ℕ) (c : ContextValue) → context_of bytes ≡ Some c → SpellsContext bytes c
sound bytes c h = text_sound bytes (behind is_colon bytes) c refl h

pub spells_itself : (c : ContextValue) → IsContext c → SpellsContext (context_text c) c
spells_itself c h = record { parts = h; text = refl }

pub no_spelling : (bytes : List ℕ) → context_of bytes ≡ None → (c : ContextValue)
    → SpellsContext bytes c → ⊥
no_spelling bytes none c h = let found = complete bytes c h in cc
