-- Which texts are patterns within the limits, and what is amiss in the others at the first place
-- where anything is.
use Rattle.std.specs.Prelude.{◌≡◌, ℕ, ◌<◌, ◌≤◌, Bool, false, List, [], ◌∷◌, ◌++◌, length, map, fold}
use Rattle.std.specs.Prelude.{Ok, Err}
use Rattle.pattern_syntax.specs.Tree.{Tree}
use Rattle.pattern_syntax.specs.Tokens.{Token, Bytes, Open, Close, Bar, Anchor, Times, PlacedToken}
use Rattle.pattern_syntax.specs.Tokens.{tokens_from}
use Rattle.pattern_syntax.specs.Reading.{positions, depth_behind, ends_piece, refused_at}
use Rattle.pattern_syntax.specs.Grammar.{Spells, Choice, cut_of}
use Rattle.pattern_syntax.specs.declared.pattern_fault.PatternWhy.{PatternWhy}
use Rattle.pattern_syntax.specs.declared.pattern_fault.PatternWhy.TheVariants.{Syntax, TooDeep}
use Rattle.pattern_syntax.specs.declared.pattern_fault.PatternWhy.TheVariants.{TooManyPositions}
use Rattle.pattern_syntax.specs.declared.limits.TheConstants.{MOST_GROUPS, MOST_POSITIONS}

-- how many groups are open behind tokens, where so many were open before them
abbrev pub open_behind : ℕ → List Token → ℕ
open_behind depth tokens = fold (λ (d : ℕ) (token : Token). depth_behind token d) depth tokens

-- whether a repeat may follow tokens: it may behind a byte, a set or a group
abbrev pub takes_repeat : Bool → List Token → Bool
takes_repeat before tokens = fold (λ (b : Bool) (token : Token). ends_piece token) before tokens

-- nowhere are more groups open than may be
abbrev pub IsShallow : ℕ → List Token → Type 0
IsShallow depth [] = Unit {0}
IsShallow depth (token ∷ tokens) =
    (depth_behind token depth ≤ MOST_GROUPS) × IsShallow (depth_behind token depth) tokens

-- some pattern begins with the tokens
abbrev pub Begins : List Token → Type 0
Begins tokens = (more : List Token) × (tree : Tree) × Spells Choice (tokens ++ more) tree

-- ---- patterns

-- the text is cut into tokens, none refused, that are a choice with this tree, and nowhere too many
-- groups are open
pub record IsCutInto (text : List ℕ) (tree : Tree) : Type 0 where
  pub tokens : List Token
  pub cut : map cut_of (tokens_from 0 0 text) ≡ map Ok tokens
  pub spells : Spells Choice tokens tree
  pub shallow : IsShallow 0 tokens

abbrev pub IsPatternText : List ℕ → Tree → Type 0
IsPatternText text tree = IsCutInto text tree × (positions tree ≤ MOST_POSITIONS)

abbrev pub HasTooManyPositions : List ℕ → Type 0
HasTooManyPositions text = (tree : Tree) × IsCutInto text tree × (MOST_POSITIONS < positions tree)

-- ---- faults

-- the token may not stand at this place, where so many groups are open, and a repeat may follow or
-- not
abbrev pub IsMisplaced : (depth : ℕ) (after_piece : Bool) (place : ℕ) → Token → PatternWhy → Type 0
IsMisplaced depth after_piece place Close why = (depth ≡ 0) × (why ≡ Syntax place)
IsMisplaced depth after_piece place Open why = (MOST_GROUPS ≤ depth) × (why ≡ TooDeep place)
IsMisplaced depth after_piece place (Times least most) why =
    (after_piece ≡ false) × (why ≡ Syntax place)
IsMisplaced depth after_piece place (Bytes bytes) why = ⊥
IsMisplaced depth after_piece place Bar why = ⊥
IsMisplaced depth after_piece place Anchor why = ⊥

-- what stands behind these tokens is amiss at once: the text ends in a group, a token is refused,
-- or it may not follow
abbrev pub IsAmiss : (end : ℕ) (before : List Token) → List PlacedToken → PatternWhy → Type 0
IsAmiss end before [] why = (0 < open_behind 0 before) × (why ≡ Syntax end)
IsAmiss end before ((place, Err refusal) ∷ rest) why = why ≡ refused_at place refusal
IsAmiss end before ((place, Ok token) ∷ rest) why =
    IsMisplaced (open_behind 0 before) (takes_repeat false before) place token why

-- the tokens before a place are the beginning of some pattern, and what stands there is amiss
pub record HasFault (end : ℕ) (placed : List PlacedToken) (why : PatternWhy) : Type 0 where
  pub front : List PlacedToken
  pub rest : List PlacedToken
  pub tokens : List Token
  pub cut : placed ≡ front ++ rest
  pub read : map cut_of front ≡ map Ok tokens
  pub begins : Begins tokens
  pub shallow : IsShallow 0 tokens
  pub amiss : IsAmiss end tokens rest why

-- why a text is refused
abbrev pub IsRefusedFor : List ℕ → PatternWhy → Type 0
IsRefusedFor text TooManyPositions = HasTooManyPositions text
IsRefusedFor text why = HasFault (length text) (tokens_from 0 0 text) why
