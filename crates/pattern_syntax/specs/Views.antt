-- What the reader's values stand for.
use Rattle.std.specs.Prelude.{ℕ, Bool, List, [], ◌∷◌, Option, Some}
use Rattle.pattern_syntax.specs.ByteSet.{has_byte, bytes_with}
use Rattle.pattern_syntax.specs.Brackets as brackets
use Rattle.pattern_syntax.specs.Tokens as tokens
use Rattle.pattern_syntax.specs.declared.counts.Counts.{Counts}
use Rattle.pattern_syntax.specs.declared.token.Token.{Token}
use Rattle.pattern_syntax.specs.declared.token.Token.TheVariants.{Byte, Set, Open, Close, Bar}
use Rattle.pattern_syntax.specs.declared.token.Token.TheVariants.{Anchor, Times}
use Rattle.pattern_syntax.specs.declared.byte_set.ByteSet.{ByteSet}
use Rattle.pattern_syntax.specs.declared.bracket.SetPart.{SetPart}
use Rattle.pattern_syntax.specs.Escapes as escapes
use Rattle.pattern_syntax.specs.declared.item.Item.{Item}
use Rattle.pattern_syntax.specs.declared.item.Item.TheVariants.{One, Class}
use Rattle.pattern_syntax.specs.declared.refusal.Refusal.{Refusal}

abbrev pub escape_item : Item → escapes.EscapeItem
escape_item (One b) = escapes.One b
escape_item (Class set) = escapes.Class (has_byte set)

-- an item and its length
abbrev pub item_cut : Item × ℕ → escapes.EscapeItem × ℕ
item_cut cut = (escape_item cut.0, cut.1)

-- a class and its length
abbrev pub class_cut : ByteSet × ℕ → (ℕ → Bool) × ℕ
class_cut cut = (has_byte cut.0, cut.1)

abbrev pub part_of : SetPart → brackets.ClassPart
part_of part = record { has = has_byte part.set; low = part.low; length = part.length }

-- a set, as its bytes, and its length
abbrev pub set_cut : ByteSet × ℕ → List ℕ × ℕ
set_cut cut = (bytes_with (has_byte cut.0), cut.1)

abbrev pub counts_of : Counts → ℕ × (Option ℕ × ℕ)
counts_of counts = (counts.least, (counts.most, counts.length))

abbrev pub token_of : Token → tokens.Token
token_of (Byte b) = tokens.Bytes (b ∷ [])
token_of (Set set) = tokens.Bytes (bytes_with (has_byte set))
token_of Open = tokens.Open
token_of Close = tokens.Close
token_of Bar = tokens.Bar
token_of Anchor = tokens.Anchor
token_of (Times least most) = tokens.Times least most

-- a token and its length
abbrev pub token_cut : Token × ℕ → tokens.Token × ℕ
token_cut cut = (token_of cut.0, cut.1)

-- a refusal is its own cause
abbrev pub why_refused : Refusal → Option Refusal
why_refused refusal = Some refusal
