-- The grammar of security contexts, user:role:type or user:role:type:range, and below it how it is
-- computed.
use Rattle.std.specs.Prelude.{◌≡◌, ℕ, Bool, true, false, ◌&&◌, ◌||◌, ◌==◌, codes, List, [], ◌∷◌}
use Rattle.std.specs.Prelude.{◌+◌, ◌++◌, length, Option, Some, None, if◌then◌else◌, not}
use Rattle.std.specs.Char.{is_ascii_alphanumeric, is_ascii_graphic}
use Rattle.std.specs.List.{list_all, list_any}
use Rattle.label_base.specs.Cut.{front, behind}
use Rattle.label_base.specs.Text.{same_bytes}
use Rattle.context_syntax.specs.declared.context.TheConstants.{COLON}

pub record ContextValue : Type 0 where
  pub user : List ℕ
  pub role : List ℕ
  pub kind : List ℕ
  pub range : Option (List ℕ)

-- a byte of a user, role or type
abbrev pub is_word_byte : ℕ → Bool
is_word_byte b = is_ascii_alphanumeric b || list_any (λ mark. b == mark) (codes "_.-")

-- a byte of a range
abbrev pub is_range_byte : ℕ → Bool
is_range_byte b = is_ascii_graphic b && not (list_any (λ mark. b == mark) (codes "\"\\"))

abbrev pub is_word : List ℕ → Bool
is_word bytes = not (length bytes == 0) && list_all is_word_byte bytes

abbrev pub is_range : Option (List ℕ) → Bool
is_range None = true
is_range (Some bytes) = not (length bytes == 0) && list_all is_range_byte bytes

-- the parts are in the grammar
pub record IsContext (c : ContextValue) : Type 0 where
  pub user : is_word c.user ≡ true
  pub role : is_word c.role ≡ true
  pub kind : is_word c.kind ≡ true
  pub range : is_range c.range ≡ true

abbrev pub range_text : Option (List ℕ) → List ℕ
range_text None = []
range_text (Some r) = COLON ∷ r

-- the one spelling of a context
abbrev pub context_text : ContextValue → List ℕ
context_text c = c.user ++ COLON ∷ c.role ++ COLON ∷ c.kind ++ range_text c.range

-- the first one's user, role and range with the other's type
abbrev pub with_kind_of : ContextValue → ContextValue → ContextValue
with_kind_of context other = record context { kind = other.kind }

-- the bytes spell this context
pub record SpellsContext (bytes : List ℕ) (c : ContextValue) : Type 0 where
  pub parts : IsContext c
  pub text : bytes ≡ context_text c

-- ---- how it is computed

abbrev pub is_colon : ℕ → Bool
is_colon b = b == COLON

abbrev pub with_kind : List ℕ → List ℕ → List ℕ → Option (List ℕ) → Option ContextValue
with_kind user role kind range =
    if is_word user && is_word role && is_word kind
    && is_range range
    then Some (record { user = user; role = role; kind = kind; range = range }) else None

abbrev pub with_role : List ℕ → List ℕ → Option (List ℕ) → Option ContextValue
with_role user role None = None
with_role user role (Some rest) = with_kind user role (front is_colon rest) (behind is_colon rest)

abbrev pub with_user : List ℕ → Option (List ℕ) → Option ContextValue
with_user user None = None
with_user user (Some rest) = with_role user (front is_colon rest) (behind is_colon rest)

-- the context that the bytes spell
abbrev pub context_of : List ℕ → Option ContextValue
context_of bytes = with_user (front is_colon bytes) (behind is_colon bytes)

-- ---- as one text

-- what stands behind the first colon, or nothing
abbrev pub text_or_none : Option (List ℕ) → List ℕ
text_or_none None = []
text_or_none (Some text) = text

abbrev pub behind_colon : List ℕ → List ℕ
behind_colon text = text_or_none (behind is_colon text)

-- the parts of a text, parted at its first three colons
abbrev pub context_spelled : List ℕ → ContextValue
context_spelled text =
    record {
      user = front is_colon text;
      role = front is_colon (behind_colon text);
      kind = front is_colon (behind_colon (behind_colon text));
      range = behind is_colon (behind_colon (behind_colon text));
    }

-- what is spelled before the type
abbrev pub before_kind : ContextValue → List ℕ
before_kind c = c.user ++ COLON ∷ c.role ++ COLON ∷ []

-- the text spells a context, whose type stands between these places
pub record IsContextText (text : List ℕ) (first end : ℕ) : Type 0 where
  pub spelled : SpellsContext text (context_spelled text)
  pub at : first ≡ length (before_kind (context_spelled text))
  pub to : end ≡ first + length (context_spelled text).kind

-- ---- equality

abbrev pub same_option : Option (List ℕ) → Option (List ℕ) → Bool
same_option None None = true
same_option None (Some y) = false
same_option (Some x) None = false
same_option (Some x) (Some y) = same_bytes x y

abbrev pub same_context : ContextValue → ContextValue → Bool
same_context a b =
    same_bytes a.user b.user && same_bytes a.role b.role && same_bytes a.kind b.kind
    && same_option a.range b.range

-- the same role, type and range
abbrev pub same_but_user : ContextValue → ContextValue → Bool
same_but_user a b =
    same_bytes a.role b.role && same_bytes a.kind b.kind && same_option a.range b.range
