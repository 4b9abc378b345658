-- A context as one text, with the places of its type.
use Rattle.std.proofs.Common.{◌≡◌, ◌∙◌, ap, sym, refl, subst, ℕ, ◌+◌, ◌-◌, ◌≤◌, true, List, ◌∷◌}
use Rattle.std.proofs.Common.{◌++◌, length, take, drop, append_assoc, length-append, arith}
use Rattle.std.specs.Prelude.{Option, Some, None}
use Rattle.std.specs.Cmp.{both_ways}
use Rattle.std.specs.Str.{bytes_eq}
use Rattle.std.proofs.Math.Seq.{take-append_seam, drop-append_seam, drop-append-add}
use Rattle.std.proofs.lemmas.Slice.Eq.{bytes_eq-Decides}
use Rattle.label_base.specs.Cut.{front, behind}
use Rattle.context_syntax.specs.declared.context.TheConstants.{COLON}
use Rattle.context_syntax.specs.Context.{ContextValue, IsContext, IsContextText, SpellsContext}
use Rattle.context_syntax.specs.Context.{before_kind, behind_colon, context_of, context_spelled}
use Rattle.context_syntax.specs.Context.{context_text, is_colon, is_range, is_word, range_text}
use Rattle.context_syntax.specs.Context.{with_kind_of}
use Rattle.context_syntax.specs.Context.{same_but_user, same_context, text_or_none}
use Rattle.context_syntax.specs.Equal.{but_user_decides, context_decides}
use Rattle.context_syntax.proofs.Spelling.{behind_kind, behind_word, front_kind, front_word}
use Rattle.context_syntax.proofs.Spelling.{range_joined, sound, spread, word_bytes}

-- what stands behind the user, and what behind the role
behind_user : (c : ContextValue) → IsContext c → behind_colon (context_text c)
    ≡ c.role ++ COLON ∷ (c.kind ++ range_text c.range)
behind_user c h =
    ap behind_colon (spread c.user c.role c.kind (range_text c.range))
    ∙ ap text_or_none (behind_word c.user (c.role ++ COLON ∷ (c.kind ++ range_text c.range))
    (word_bytes c.user h.user))

behind_role : (c : ContextValue) → IsContext c → behind_colon (behind_colon (context_text c))
    ≡ c.kind ++ range_text c.range
behind_role c h =
    ap behind_colon (behind_user c h)
    ∙ ap text_or_none (behind_word c.role (c.kind ++ range_text c.range)
    (word_bytes c.role h.role))

-- the parts of the spelling of a context are its parts
parts_back : (c : ContextValue) → IsContext c → context_spelled (context_text c) ≡ c
parts_back c h = λ i. record {
  user = (ap (front is_colon) (spread c.user c.role c.kind (range_text c.range))
      ∙ front_word c.user (c.role ++ COLON ∷ (c.kind ++ range_text c.range))
      (word_bytes c.user h.user)) i;
  role = (ap (front is_colon) (behind_user c h)
      ∙ front_word c.role (c.kind ++ range_text c.range) (word_bytes c.role h.role)) i;
  kind = (ap (front is_colon) (behind_role c h)
      ∙ front_kind c.kind c.range (word_bytes c.kind h.kind)) i;
  range = (ap (behind is_colon) (behind_role c h)
      ∙ behind_kind c.kind c.range (word_bytes c.kind h.kind)) i;
}

-- the spelling, parted at the type
joined_at_kind : (c : ContextValue) → context_text c
    ≡ before_kind c ++ (c.kind ++ range_text c.range)
joined_at_kind c = simp append_assoc

text_is : (text : List ℕ) (first end : ℕ) → IsContextText text first end
    → text ≡ before_kind (context_spelled text)
    ++ ((context_spelled text).kind ++ range_text (context_spelled text).range)
text_is text first end h = h.spelled.text ∙ joined_at_kind (context_spelled text)

pub before_slice : (text : List ℕ) (first end : ℕ) → IsContextText text first end
    → take first text ≡ before_kind (context_spelled text)
before_slice text first end h =
    let c = context_spelled text in
    ap (λ n. take n text) h.at
    ∙ ap (take (length (before_kind c))) (text_is text first end h)
    ∙ take-append_seam (before_kind c) (c.kind ++ range_text c.range)

from_kind : (text : List ℕ) (first end : ℕ) → IsContextText text first end
    → drop first text ≡ (context_spelled text).kind ++ range_text (context_spelled text).range
from_kind text first end h =
    let c = context_spelled text in
    ap (λ n. drop n text) h.at
    ∙ ap (drop (length (before_kind c))) (text_is text first end h)
    ∙ drop-append_seam (before_kind c) (c.kind ++ range_text c.range)

kind_length : (first end size : ℕ) → end ≡ first + size → end - first ≡ size
kind_length first end size e = omega (arith, e)

pub kind_slice : (text : List ℕ) (first end : ℕ) → IsContextText text first end
    → take (end - first) (drop first text) ≡ (context_spelled text).kind
kind_slice text first end h =
    let c = context_spelled text in
    ap (λ n. take n (drop first text)) (kind_length first end (length c.kind) h.to)
    ∙ ap (take (length c.kind)) (from_kind text first end h)
    ∙ take-append_seam c.kind (range_text c.range)

pub behind_slice : (text : List ℕ) (first end : ℕ) → IsContextText text first end
    → drop end text ≡ range_text (context_spelled text).range
behind_slice text first end h =
    let c = context_spelled text in
    ap (λ n. drop n text) (h.to ∙ ap (λ n. n + length c.kind) h.at)
    ∙ ap (drop (length (before_kind c) + length c.kind)) (text_is text first end h)
    ∙ drop-append-add (before_kind c) (c.kind ++ range_text c.range) (length c.kind)
    ∙ drop-append_seam c.kind (range_text c.range)

-- the range of what is spelled behind the type
pub range_behind : (range : Option (List ℕ)) → behind is_colon (range_text range) ≡ range
range_behind None = refl
range_behind (Some r) = refl

within_by : (first end size all last : ℕ) → end ≡ first + size → all ≡ first + (size + last)
    → end ≤ all
within_by first end size all last e a = omega (arith, e, a)

pub within : (text : List ℕ) (first end : ℕ) → IsContextText text first end → end ≤ length text
within text first end h =
    let c = context_spelled text in
    within_by first end (length c.kind) (length text) (length (range_text c.range)) h.to
    (ap length (text_is text first end h)
    ∙ length-append (before_kind c) (c.kind ++ range_text c.range)
    ∙ ap (λ n. n + length (c.kind ++ range_text c.range)) (sym h.at)
    ∙ ap (λ n. first + n) (length-append c.kind (range_text c.range)))

-- a text made of the parts of a context
pub made_is : (c : ContextValue) (text : List ℕ) → IsContext c
    → text ≡ before_kind c ++ (c.kind ++ range_text c.range) → context_spelled text ≡ c
made_is c text h e = ap context_spelled (e ∙ sym (joined_at_kind c)) ∙ parts_back c h

pub made_text : (c : ContextValue) (text : List ℕ) (first end : ℕ) → IsContext c
    → text ≡ before_kind c ++ (c.kind ++ range_text c.range) → first ≡ length (before_kind c)
    → end ≡ first + length c.kind → IsContextText text first end
made_text c text first end h e at to =
    let same = made_is c text h e in
    record {
      spelled = subst (SpellsContext text) (sym same)
          (record { parts = h; text = e ∙ sym (joined_at_kind c) });
      at = at ∙ ap (λ v. length (before_kind v)) (sym same);
      to = to ∙ ap (λ v. first + length v.kind) (sym same);
    }

-- a text that is read
size_behind : (all first last : ℕ) → all ≡ first + last → all - last ≡ first
size_behind all first last e = omega (arith, e)

parts_found : (bytes rest last : List ℕ) → behind is_colon bytes ≡ Some rest
    → behind is_colon rest ≡ Some last → is_word (front is_colon bytes) ≡ true
    → is_word (front is_colon rest) ≡ true → is_word (front is_colon last) ≡ true
    → is_range (behind is_colon last) ≡ true → context_of bytes
    ≡ Some (record {
      user = front is_colon bytes;
      role = front is_colon rest;
      kind = front is_colon last;
      range = behind is_colon last;
    })
parts_found bytes rest last first second user role kind range =
    rw (first, second, user, role, kind, range) refl

pub read_text : (bytes rest last kind : List ℕ) → behind is_colon bytes ≡ Some rest
    → behind is_colon rest ≡ Some last → kind ≡ front is_colon last
    → is_word (front is_colon bytes) ≡ true → is_word (front is_colon rest) ≡ true
    → is_word (front is_colon last) ≡ true → is_range (behind is_colon last) ≡ true
    → IsContextText bytes (length bytes - length last) (length bytes - length last + length kind)
read_text bytes rest last kind first second cut is_user is_role is_kind is_range =
    let c : ContextValue = record {
      user = front is_colon bytes;
      role = front is_colon rest;
      kind = front is_colon last;
      range = behind is_colon last;
    } in
    let spelled =
    sound bytes c (parts_found bytes rest last first second is_user is_role is_kind is_range) in
    let size : length bytes - length last ≡ length (before_kind c) =
    size_behind (length bytes) (length (before_kind c)) (length last)
    (ap length (spelled.text ∙ joined_at_kind c)
    ∙ length-append (before_kind c) (c.kind ++ range_text c.range)
    ∙ ap (λ l. length (before_kind c) + length l)
    (sym (range_joined last (behind is_colon last) refl))) in
    made_text c bytes (length bytes - length last) (length bytes - length last + length kind)
    spelled.parts (spelled.text ∙ joined_at_kind c) size
    (ap (λ k. length bytes - length last + length k) cut)

-- a context with the type of another
retyped_parts : (a b : ContextValue) → IsContext a → IsContext b → IsContext (with_kind_of a b)
retyped_parts a b one other =
    record { user = one.user; role = one.role; kind = other.kind; range = one.range }

pub retyped_is : (a b : ContextValue) (text : List ℕ) → IsContext a → IsContext b
    → text ≡ before_kind a ++ b.kind ++ range_text a.range → context_spelled text ≡ with_kind_of a b
retyped_is a b text one other e =
    made_is (with_kind_of a b) text (retyped_parts a b one other)
    (e ∙ append_assoc (before_kind a) b.kind (range_text a.range))

pub retyped_text : (a b : ContextValue) (text : List ℕ) (first end : ℕ) → IsContext a
    → IsContext b → text ≡ before_kind a ++ b.kind ++ range_text a.range
    → first ≡ length (before_kind a) → end ≡ length (before_kind a ++ b.kind)
    → IsContextText text first end
retyped_text a b text first end one other e at to =
    made_text (with_kind_of a b) text first end (retyped_parts a b one other)
    (e ∙ append_assoc (before_kind a) b.kind (range_text a.range)) at
    (to ∙ length-append (before_kind a) b.kind ∙ ap (λ n. n + length b.kind) (sym at))

-- equal texts are equal contexts
pub same_texts : (a b : List ℕ) → SpellsContext a (context_spelled a)
    → SpellsContext b (context_spelled b)
    → bytes_eq a b ≡ same_context (context_spelled a) (context_spelled b)
same_texts a b one other =
    let values = context_decides (context_spelled a) (context_spelled b) in
    both_ways _ _ (λ t. values.1 (ap context_spelled ((bytes_eq-Decides a b).0 t)))
    (λ t. (bytes_eq-Decides a b).1
    (one.text ∙ ap context_text (values.0 t) ∙ sym other.text))

behind_is : (text : List ℕ) → SpellsContext text (context_spelled text) → behind_colon text
    ≡ (context_spelled text).role ++ COLON ∷ ((context_spelled text).kind
    ++ range_text (context_spelled text).range)
behind_is text h = ap behind_colon h.text ∙ behind_user (context_spelled text) h.parts

-- contexts that are the same but for their users
pub same_behind : (a b : List ℕ) → SpellsContext a (context_spelled a)
    → SpellsContext b (context_spelled b) → bytes_eq (behind_colon a) (behind_colon b)
    ≡ same_but_user (context_spelled a) (context_spelled b)
same_behind a b one other =
    let values = but_user_decides (context_spelled a) (context_spelled b) in
    let texts = bytes_eq-Decides (behind_colon a) (behind_colon b) in
    both_ways _ _ (λ t.
    let same = texts.0 t in
    values.1 (λ i. record {
      user = (context_spelled a).user;
      role = front is_colon (sym same i);
      kind = front is_colon (behind_colon (sym same i));
      range = behind is_colon (behind_colon (sym same i));
    }))
    (λ t. texts.1 (behind_is a one
    ∙ ap (λ c. c.role ++ COLON ∷ (c.kind ++ range_text c.range)) (sym (values.0 t))
    ∙ sym (behind_is b other)))
