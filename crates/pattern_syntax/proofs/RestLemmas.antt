-- What is read of the rest of a pattern that has too many positions already.
use Rattle.std.proofs.Common.{◌≡◌, ◌∙◌, sym, refl, ap, ℕ, ◌+◌, ◌<◌, ◌≤◌, ◌==◌, leb, ltb, Bool, true}
use Rattle.std.proofs.Common.{false, cond, List, [], ◌∷◌, length, drop, arith}
use Rattle.std.specs.Prelude.{Option, Some, None, Result, Ok, Err, is_some, unwrap_or, option_map}
use Rattle.std.specs.Prelude.{◌↔◌}
use Rattle.std.proofs.lemmas.Bool.{ltb-true, lt-ltb}
use Rattle.std.proofs.lemmas.Bool.Decides.{nat_tests}
use Rattle.pattern_syntax.specs.Tree.{Tree, Set}
use Rattle.pattern_syntax.specs.Tokens.{Token, Bytes, Open, Close, Bar, Anchor, Times, PlacedToken}
use Rattle.pattern_syntax.specs.Tokens.{Cut, token_at, tokens_from}
use Rattle.pattern_syntax.specs.Reading.{Reading, Level, settled, with_piece, with_bar, with_repeat}
use Rattle.pattern_syntax.specs.Reading.{with_last, with_side, reads_as, fault_or_tree, first_fault}
use Rattle.pattern_syntax.specs.Reading.{first_fault_of, structure_fault, refused_at, placed_cut}
use Rattle.pattern_syntax.specs.Reading.{after_token, tree_after, depth_behind, ends_piece}
use Rattle.pattern_syntax.specs.Reading.{positions, sides_of, sequence_of}
use Rattle.pattern_syntax.specs.Building.{IsBuilderOf, base_positions, side_positions}
use Rattle.pattern_syntax.specs.Building.{capped_positions, capped}
use Rattle.pattern_syntax.specs.declared.builder.Builder.{Builder}
use Rattle.pattern_syntax.specs.declared.builder.Level as counts
use Rattle.label_base.specs.Answers.{Explains}
use Rattle.pattern_syntax.proofs.BuildingLemmas.{outer_length}
use Rattle.pattern_syntax.specs.declared.pattern_fault.PatternWhy.{PatternWhy}
use Rattle.pattern_syntax.specs.declared.pattern_fault.PatternWhy.TheVariants.{Syntax}
use Rattle.pattern_syntax.specs.declared.pattern_fault.PatternWhy.TheVariants.{TooManyPositions}
use Rattle.pattern_syntax.proofs.ReadingLemmas.{behind_is, no_zero, tokens_none, tokens_refused}
use Rattle.pattern_syntax.proofs.ReadingLemmas.{tokens_more}
use Rattle.pattern_syntax.proofs.GrammarLemmas.{no_fault_first, no_fault_later}
use Rattle.pattern_syntax.specs.declared.limits.TheConstants.{MOST_POSITIONS}

abbrev base_of : Level → List Level → ℕ
base_of level [] = base_positions level
base_of level (around ∷ outer) = base_of around outer

base_grows : (l m : Level) (outer : List Level) → base_positions l ≤ base_positions m
    → base_of l outer ≤ base_of m outer
base_grows l m [] h = h
base_grows l m (around ∷ outer) h = omega arith

last_positions : (sequence : Tree) (piece : Option Tree)
    → positions sequence ≤ positions (with_last sequence piece)
last_positions sequence None = omega arith
last_positions sequence (Some piece) = omega arith

choice_positions : (sides : Option Tree) (sequence : Tree) → positions (with_side sides sequence)
    ≡ side_positions sides + positions sequence
choice_positions None sequence = omega arith
choice_positions (Some sides) sequence = refl

base_in_choice : (level : Level) → base_positions level ≤ positions (sides_of level)
base_in_choice level = let a = choice_positions level.sides (sequence_of level) in
    let b = last_positions level.sequence level.piece in omega (arith, a, b)

repeat_grows : (least : ℕ) (most : Option ℕ) (sides : Option Tree) (sequence : Tree)
    (piece : Option Tree)
    → base_positions (record { sides = sides; sequence = sequence; piece = piece }) ≤ base_positions
    (with_repeat least most (record { sides = sides; sequence = sequence; piece = piece }))
repeat_grows least most sides sequence None = omega arith
repeat_grows least most sides sequence (Some piece) = omega arith

token_grows : (read : Reading) (at : ℕ) (token : Token) → structure_fault (length read.outer)
    (is_some read.level.piece) at token ≡ None
    → base_of read.level read.outer ≤ base_of (after_token read token).level
    (after_token read token).outer
token_grows read at (Bytes bytes) e = base_grows read.level (with_piece read.level (Set bytes))
    read.outer (let b = last_positions read.level.sequence read.level.piece in omega (arith, b))
token_grows read at Open e = base_grows read.level (settled read.level) read.outer
    (let b = last_positions read.level.sequence read.level.piece in omega (arith, b))
token_grows read at Close e = close_grows read.level read.outer e
  where
    close_grows : (level : Level) (outer : List Level)
        → structure_fault (length outer) (is_some level.piece) at Close ≡ None
        → base_of level outer
        ≤ base_of (after_token (record { level = level; outer = outer }) Close).level
        (after_token (record { level = level; outer = outer }) Close).outer
    close_grows level [] e = absurd (let f : Some (Syntax at) ≡ None = e in cc)
    close_grows level (around ∷ outer) e = base_grows around (with_piece around (sides_of level))
        outer (let b = last_positions around.sequence around.piece in omega (arith, b))
token_grows read at Bar e = base_grows read.level (with_bar read.level) read.outer
    (let b = base_in_choice read.level in omega (arith, b))
token_grows read at Anchor e = base_grows read.level (settled read.level) read.outer
    (let b = last_positions read.level.sequence read.level.piece in omega (arith, b))
token_grows read at (Times least most) e = base_grows read.level (with_repeat least most read.level)
    read.outer (repeat_grows least most read.level.sides read.level.sequence read.level.piece)

tree_grows : (end : ℕ) (placed : List PlacedToken) (read : Reading)
    → first_fault end (length read.outer) (is_some read.level.piece) placed ≡ None
    → base_of read.level read.outer ≤ positions (tree_after read placed)
unfolding first_fault
tree_grows end [] read e = ended read.outer e
  where
    ended : (outer : List Level) → first_fault end (length outer) (is_some read.level.piece) []
        ≡ None → base_of read.level outer ≤ positions (sides_of read.level)
    ended [] e = base_in_choice read.level
    ended (around ∷ outer) e =
        absurd (let f : Some (Syntax end) ≡ None = ap (λ t. cond t None (Some (Syntax end)))
        (sym (no_zero (length outer))) ∙ e in cc)
tree_grows end ((place, Err refusal) ∷ placed) read e =
    absurd (let f : Some (refused_at place refusal) ≡ None = e in cc)
tree_grows end ((place, Ok token) ∷ placed) read e =
    let later = first_fault end (depth_behind token (length read.outer)) (ends_piece token)
    placed in
    let a = no_fault_first (structure_fault (length read.outer) (is_some read.level.piece) place
    token) later e in
    let b = no_fault_later (structure_fault (length read.outer) (is_some read.level.piece) place
    token) later e in
    let behind = behind_is read place token a in
    let c = ap (λ (d : ℕ). first_fault end d (is_some (after_token read token).level.piece) placed)
    (sym behind.0)
    ∙ ap (λ (t : Bool). first_fault end (depth_behind token (length read.outer)) t placed)
    (sym behind.1) ∙ b in
    let g = token_grows read place token a in
    let h = tree_grows end placed (after_token read token) c in
    omega (arith, g, h)

read_many : (fault : Option PatternWhy) (found : Tree)
    → (fault ≡ None → MOST_POSITIONS < positions found) → fault_or_tree fault found
    ≡ Err (unwrap_or fault TooManyPositions)
read_many (Some why) found h = refl
read_many None found h = ap (λ t. cond t (Ok found) (Err TooManyPositions))
    (is_large (positions found) (h refl))
  where
    is_large : (n : ℕ) → MOST_POSITIONS < n → leb n MOST_POSITIONS ≡ false
    is_large n h = grind (arith, nat_tests)

outermost : (level : Level) (outer : List Level) → length outer ≡ 0
    → base_of level outer ≡ base_positions level
outermost level [] h = refl
outermost level (around ∷ outer) h = absurd (omega arith)

-- where the positions outside of all groups are too many, the first fault of the rest decides
pub rest_refused : (meant : Result Tree PatternWhy) (end : ℕ) (read : Reading) (after_piece : Bool)
    (placed : List PlacedToken) → meant ≡ reads_as end read placed → length read.outer ≡ 0
    → after_piece ≡ is_some read.level.piece
    → MOST_POSITIONS < base_positions read.level
    → meant ≡ Err (unwrap_or (first_fault end 0 after_piece placed) TooManyPositions)
unfolding reads_as
rest_refused meant end read after_piece placed e z p h =
    e ∙ read_many (first_fault end (length read.outer) (is_some read.level.piece) placed)
    (tree_after read placed)
    (λ n. let g = tree_grows end placed read n in let o = outermost read.level read.outer z in
    omega (arith, g, o, h))
    ∙ ap (λ (d : ℕ). Err (unwrap_or (first_fault end d (is_some read.level.piece) placed)
    TooManyPositions)) z
    ∙ ap (λ (t : Bool). Err (unwrap_or (first_fault end 0 t placed) TooManyPositions)) (sym p)

-- ---- the walk over the rest

pub fault_refused : (end depth : ℕ) (after_piece : Bool) (at : ℕ) (all : List ℕ) (why : PatternWhy)
    → at < length all → placed_cut at (token_at (at == 0) (drop at all)) ≡ Err why
    → first_fault end depth after_piece (tokens_from at 0 (drop at all)) ≡ Some why
unfolding first_fault
fault_refused end depth after_piece at all why l e = by_cut (token_at (at == 0) (drop at all)) refl
    e
  where
    by_cut : (cut : Cut) → token_at (at == 0) (drop at all) ≡ cut → placed_cut at cut ≡ Err why
        → first_fault end depth after_piece (tokens_from at 0 (drop at all)) ≡ Some why
    by_cut (Ok cut) e h = absurd (let f : Ok cut ≡ Err why = h in cc)
    by_cut (Err refusal) e h =
        ap (first_fault end depth after_piece) (tokens_refused at all refusal l e)
        ∙ (let f : Err (refused_at at refusal) ≡ Err why = h in
        let g : refused_at at refusal ≡ why = cc in ap (λ (w : PatternWhy). Some w) g)

placed_token : (at : ℕ) (cut : Cut) (x : Token × ℕ) → placed_cut at cut ≡ Ok x → cut ≡ Ok x
placed_token at (Ok cut) x e = let f : Ok cut ≡ Ok x = e in cc
placed_token at (Err refusal) x e = absurd (let f : Err (refused_at at refusal) ≡ Ok x = e in cc)

pub fault_structure : (end depth : ℕ) (after_piece : Bool) (at : ℕ) (all : List ℕ) (token : Token)
    (n : ℕ) (why : PatternWhy) → at < length all → placed_cut at (token_at (at == 0) (drop at all))
    ≡ Ok (token, n) → 0 < n
    → structure_fault depth after_piece at token ≡ Some why
    → first_fault end depth after_piece (tokens_from at 0 (drop at all)) ≡ Some why
unfolding first_fault
fault_structure end depth after_piece at all token n why l e p h =
    ap (first_fault end depth after_piece)
    (tokens_more at all token n l
    (placed_token at (token_at (at == 0) (drop at all)) (token, n) e) p)
    ∙ ap (λ (o : Option PatternWhy). first_fault_of o
    (first_fault end (depth_behind token depth) (ends_piece token)
    (tokens_from (at + n) 0 (drop (at + n) all)))) h

pub fault_later : (end depth : ℕ) (after_piece : Bool) (at : ℕ) (all : List ℕ) (token : Token)
    (n : ℕ) → at < length all → placed_cut at (token_at (at == 0) (drop at all)) ≡ Ok (token, n)
    → 0 < n
    → structure_fault depth after_piece at token ≡ None
    → first_fault end depth after_piece (tokens_from at 0 (drop at all)) ≡ first_fault end
    (depth_behind token depth) (ends_piece token) (tokens_from (at + n) 0 (drop (at + n) all))
unfolding first_fault
fault_later end depth after_piece at all token n l e p h =
    ap (first_fault end depth after_piece)
    (tokens_more at all token n l
    (placed_token at (token_at (at == 0) (drop at all)) (token, n) e) p)
    ∙ ap (λ (o : Option PatternWhy). first_fault_of o
    (first_fault end (depth_behind token depth) (ends_piece token)
    (tokens_from (at + n) 0 (drop (at + n) all)))) h

pub fault_end : (end depth : ℕ) (after_piece : Bool) (at : ℕ) (all : List ℕ) → length all ≤ at
    → first_fault end depth after_piece (tokens_from at 0 (drop at all)) ≡ cond (depth == 0) None
    (Some (Syntax end))
unfolding first_fault
fault_end end depth after_piece at all h =
    ap (first_fault end depth after_piece) (tokens_none at all h)

pub refused_cause : (cause fault : Option PatternWhy) (end depth : ℕ) (after_piece : Bool) (at : ℕ)
    (all : List ℕ) → at < length all → is_some cause ≡ true
    → Explains cause (placed_cut at (token_at (at == 0) (drop at all)))
    → fault ≡ first_fault end depth after_piece (tokens_from at 0 (drop at all))
    → cause ≡ Some (unwrap_or fault TooManyPositions)
refused_cause None fault end depth after_piece at all l s h e =
    absurd (let f : false ≡ true = s in cc)
refused_cause (Some why) fault end depth after_piece at all l s h e =
    ap (λ (o : Option PatternWhy). Some (unwrap_or o TooManyPositions))
    (sym (e ∙ fault_refused end depth after_piece at all why l h))

pub structure_cause : (cause fault : Option PatternWhy) (end depth : ℕ) (after_piece : Bool)
    (at : ℕ) (all : List ℕ) (token : Token) (n : ℕ) → at < length all
    → placed_cut at (token_at (at == 0) (drop at all)) ≡ Ok (token, n) → 0 < n
    → is_some cause ≡ true → cause ≡ structure_fault depth after_piece at token
    → fault ≡ first_fault end depth after_piece (tokens_from at 0 (drop at all))
    → cause ≡ Some (unwrap_or fault TooManyPositions)
structure_cause None fault end depth after_piece at all token n l c p s h e =
    absurd (let f : false ≡ true = s in cc)
structure_cause (Some why) fault end depth after_piece at all token n l c p s h e =
    ap (λ (o : Option PatternWhy). Some (unwrap_or o TooManyPositions))
    (sym (e ∙ fault_structure end depth after_piece at all token n why l c p (sym h)))

pub end_cause : (fault : Option PatternWhy) (end depth : ℕ) (after_piece : Bool) (at : ℕ)
    (all : List ℕ) → length all ≤ at → fault ≡ first_fault end depth after_piece
    (tokens_from at 0 (drop at all)) → fault ≡ cond (depth == 0) None (Some (Syntax end))
end_cause fault end depth after_piece at all h e = e ∙ fault_end end depth after_piece at all h

pub open_cause : (fault : Option PatternWhy) (end at depth : ℕ)
    → fault ≡ cond (depth == 0) None (Some (Syntax end)) → 0 < depth → at ≡ end
    → Some (Syntax at) ≡ Some (unwrap_or fault TooManyPositions)
open_cause fault end at depth e h a =
    let z : (depth == 0) ≡ false = grind (arith, nat_tests) in
    let f : fault ≡ Some (Syntax end) = e ∙ ap (λ t. cond t None (Some (Syntax end))) z in
    ap (λ (n : ℕ). Some (Syntax n)) a
    ∙ ap (λ (o : Option PatternWhy). Some (unwrap_or o TooManyPositions)) (sym f)

pub whole_cause : (fault : Option PatternWhy) (end depth : ℕ)
    → fault ≡ cond (depth == 0) None (Some (Syntax end)) → depth ≡ 0 → Some TooManyPositions
    ≡ Some (unwrap_or fault TooManyPositions)
whole_cause fault end depth e h =
    let z : (depth == 0) ≡ true = grind (arith, nat_tests) in
    let f : fault ≡ None = e ∙ ap (λ t. cond t None (Some (Syntax end))) z in
    ap (λ (o : Option PatternWhy). Some (unwrap_or o TooManyPositions)) (sym f)

-- ---- the builder that is full

sides_counted : (sides : Option Tree) → unwrap_or (option_map capped_positions sides) 0
    ≡ capped (side_positions sides)
sides_counted None = omega arith
sides_counted (Some tree) = omega arith

pub full_shown : (builder : Builder) (read : Reading) (sides n : ℕ) → IsBuilderOf builder read
    → length builder.outer.items ≡ 0
    → sides ≡ unwrap_or builder.level.sides 0 → n ≡ capped (sides + builder.level.sequence)
    → (ltb MOST_POSITIONS n ≡ true)
    ↔ ((length read.outer ≡ 0) × (MOST_POSITIONS < base_positions read.level))
full_shown builder read sides n s z e h =
    let l = ap length s.outer ∙ outer_length read.outer in
    let a = ap (λ (l : counts.Level). unwrap_or l.sides 0) s.level in
    let b = ap (λ (l : counts.Level). l.sequence) s.level in
    let c = sides_counted read.level.sides in (
      λ t. let k = ltb-true MOST_POSITIONS n t in
          (omega (arith, l, z), omega (arith, a, b, c, e, h, k)),
      λ f. let k = f.1 in lt-ltb MOST_POSITIONS n (omega (arith, a, b, c, e, h, k)),
    )

pub not_full : (builder : Builder) (read : Reading) → IsBuilderOf builder read
    → 0 < length builder.outer.items → (false ≡ true)
    ↔ ((length read.outer ≡ 0) × (MOST_POSITIONS < base_positions read.level))
not_full builder read s h =
    let l = ap length s.outer ∙ outer_length read.outer in (
      λ t. absurd (let f : false ≡ true = t in cc),
      λ f. let z = f.0 in absurd (omega (arith, l, z)),
    )
