-- Facts on what tokens read as.
use Rattle.std.proofs.Common.{◌≡◌, ◌∙◌, sym, refl, ap, ℕ, zero, suc, ◌+◌, ◌-◌, ◌<◌, ◌≤◌, ◌==◌, Bool}
use Rattle.std.proofs.Common.{true, false, cond, leb, List, [], ◌∷◌, length, drop, get_or, arith}
use Rattle.std.proofs.Common.{add-one}
use Rattle.std.specs.Prelude.{Option, Some, None, Ok, Err, is_some}
use Rattle.std.proofs.lemmas.List.{drop_more, drop_all, drop-drop}
use Rattle.std.proofs.lemmas.Bool.Decides.{nat_tests}
use Rattle.pattern_syntax.specs.Tokens.{Token, Bytes, Open, Close, Bar, Anchor, Times, PlacedToken}
use Rattle.pattern_syntax.specs.Tokens.{Cut, with_place, token_at, tokens_from}
use Rattle.pattern_syntax.specs.Reading.{Reading, Level, reads_as, fault_or_tree, first_fault}
use Rattle.pattern_syntax.specs.Reading.{first_fault_of, structure_fault, refused_at, after_token}
use Rattle.pattern_syntax.specs.Reading.{tree_after, depth_behind, ends_piece, positions, sides_of}
use Rattle.pattern_syntax.specs.declared.refusal.Refusal.{Refusal}
use Rattle.pattern_syntax.specs.declared.pattern_fault.PatternWhy.{PatternWhy}
use Rattle.pattern_syntax.specs.declared.pattern_fault.PatternWhy.TheVariants.{Syntax}
use Rattle.pattern_syntax.specs.declared.pattern_fault.PatternWhy.TheVariants.{TooManyPositions}
use Rattle.pattern_syntax.specs.declared.limits.TheConstants.{MOST_POSITIONS}

skipped : (place skip : ℕ) (text : List ℕ) → tokens_from place skip text ≡ tokens_from
    (place + skip) 0 (drop skip text)
unfolding tokens_from
skipped place zero text = let e : place ≡ place + 0 = omega arith in
    ap (λ p. tokens_from p 0 text) e
skipped place (suc skip) [] = refl
skipped place (suc skip) (b ∷ bs) =
    let e : place + 1 + skip ≡ place + suc skip = omega arith in
    skipped (place + 1) skip bs ∙ ap (λ p. tokens_from p 0 (drop skip bs)) e

pub tokens_none : (at : ℕ) (all : List ℕ) → length all ≤ at → tokens_from at 0 (drop at all) ≡ []
unfolding tokens_from
tokens_none at all h = ap (tokens_from at 0) (drop_all at all h)

pub tokens_refused : (at : ℕ) (all : List ℕ) (refusal : Refusal) → at < length all
    → token_at (at == 0) (drop at all) ≡ Err refusal → tokens_from at 0 (drop at all)
    ≡ (at, Err refusal) ∷ []
unfolding tokens_from
tokens_refused at all refusal l e =
    let b = get_or all at 0 in
    let bs = drop (at + 1) all in
    ap (tokens_from at 0) (drop_more all at 0 l)
    ∙ ap (λ (c : Cut). with_place at c (λ skip. tokens_from (at + 1) skip bs))
    (ap (token_at (at == 0)) (sym (drop_more all at 0 l)) ∙ e)

pub tokens_more : (at : ℕ) (all : List ℕ) (token : Token) (n : ℕ) → at < length all
    → token_at (at == 0) (drop at all) ≡ Ok (token, n) → 0 < n
    → tokens_from at 0 (drop at all) ≡ (at, Ok token) ∷ tokens_from (at + n) 0 (drop (at + n) all)
unfolding tokens_from
tokens_more at all token n l e p =
    let b = get_or all at 0 in
    let bs = drop (at + 1) all in
    let q : at + 1 + (n - 1) ≡ at + n = omega arith in
    ap (tokens_from at 0) (drop_more all at 0 l)
    ∙ ap (λ (c : Cut). with_place at c (λ skip. tokens_from (at + 1) skip bs))
    (ap (token_at (at == 0)) (sym (drop_more all at 0 l)) ∙ e)
    ∙ ap (λ (ts : List PlacedToken). (at, Ok token) ∷ ts) (skipped (at + 1) (n - 1) bs
    ∙ ap (tokens_from (at + 1 + (n - 1)) 0) (drop-drop (n - 1) (at + 1) all)
    ∙ ap (λ m. tokens_from m 0 (drop m all)) q)

pub reads_refused : (end : ℕ) (read : Reading) (at : ℕ) (refusal : Refusal)
    → reads_as end read ((at, Err refusal) ∷ []) ≡ Err (refused_at at refusal)
unfolding reads_as first_fault
reads_refused end read at refusal = refl

pub reads_fault : (end : ℕ) (read : Reading) (at : ℕ) (token : Token) (rest : List PlacedToken)
    (why : PatternWhy) → structure_fault (length read.outer) (is_some read.level.piece) at token
    ≡ Some why
    → reads_as end read ((at, Ok token) ∷ rest) ≡ Err why
unfolding reads_as first_fault
reads_fault end read at token rest why e =
    ap (λ (o : Option PatternWhy). fault_or_tree
    (first_fault_of o
    (first_fault end (depth_behind token (length read.outer)) (ends_piece token) rest))
    (tree_after read ((at, Ok token) ∷ rest))) e

pub behind_is : (read : Reading) (at : ℕ) (token : Token) → structure_fault (length read.outer)
    (is_some read.level.piece) at token ≡ None
    → (depth_behind token (length read.outer) ≡ length (after_token read token).outer)
    × (ends_piece token ≡ is_some (after_token read token).level.piece)
behind_is read at (Bytes bytes) e = (refl, refl)
behind_is read at Open e = (add-one (length read.outer), refl)
behind_is read at Close e = close_is read.level read.outer at e
  where
    close_is : (level : Level) (outer : List Level) (at : ℕ)
        → structure_fault (length outer) (is_some level.piece) at Close ≡ None
        → (depth_behind Close (length outer)
        ≡ length (after_token (record { level = level; outer = outer }) Close).outer)
        × (ends_piece Close
        ≡ is_some (after_token (record { level = level; outer = outer }) Close).level.piece)
    close_is level [] at e = absurd (let f : Some (Syntax at) ≡ None = e in cc)
    close_is level (around ∷ outer) at e = (omega arith, refl)
behind_is read at Bar e = (refl, refl)
behind_is read at Anchor e = (refl, refl)
behind_is read at (Times least most) e = (refl, refl)

pub reads_more : (end : ℕ) (read : Reading) (at : ℕ) (token : Token) (rest : List PlacedToken)
    → structure_fault (length read.outer) (is_some read.level.piece) at token ≡ None
    → reads_as end read ((at, Ok token) ∷ rest) ≡ reads_as end (after_token read token) rest
unfolding reads_as first_fault
reads_more end read at token rest e =
    let b = behind_is read at token e in
    ap (λ (o : Option PatternWhy). fault_or_tree
    (first_fault_of o
    (first_fault end (depth_behind token (length read.outer)) (ends_piece token) rest))
    (tree_after (after_token read token) rest)) e
    ∙ ap (λ (d : ℕ). fault_or_tree (first_fault end d (ends_piece token) rest)
    (tree_after (after_token read token) rest)) b.0
    ∙ ap (λ (t : Bool). fault_or_tree
    (first_fault end (length (after_token read token).outer) t rest)
    (tree_after (after_token read token) rest)) b.1

pub no_zero : (n : ℕ) → (suc n == 0) ≡ false
no_zero n = grind (arith, nat_tests)

is_small : (n : ℕ) → n ≤ MOST_POSITIONS → leb n MOST_POSITIONS ≡ true
is_small n h = grind (arith, nat_tests)

is_large : (n : ℕ) → MOST_POSITIONS < n → leb n MOST_POSITIONS ≡ false
is_large n h = grind (arith, nat_tests)

pub ends_open : (end : ℕ) (read : Reading) → 0 < length read.outer → reads_as end read []
    ≡ Err (Syntax end)
unfolding reads_as first_fault
ends_open end read h = ends_at read.outer h
  where
    ends_at : (outer : List Level) → 0 < length outer
        → fault_or_tree (first_fault end (length outer) (is_some read.level.piece) [])
        (sides_of read.level) ≡ Err (Syntax end)
    ends_at [] h = absurd (omega arith)
    ends_at (around ∷ outer) h =
        ap (λ t. fault_or_tree (cond t None (Some (Syntax end))) (sides_of read.level))
        (no_zero (length outer))

pub is_zero : (n : ℕ) → n ≡ 0 → (n == 0) ≡ true
is_zero n h = grind (arith, nat_tests)

pub ends_whole : (end : ℕ) (read : Reading) → length read.outer ≡ 0
    → positions (sides_of read.level) ≤ MOST_POSITIONS → reads_as end read []
    ≡ Ok (sides_of read.level)
unfolding reads_as first_fault
ends_whole end read h k =
    ap (λ t. fault_or_tree (cond t None (Some (Syntax end))) (sides_of read.level))
    (is_zero (length read.outer) h)
    ∙ ap (λ t. cond t (Ok (sides_of read.level)) (Err TooManyPositions))
    (let e : leb (positions (sides_of read.level)) MOST_POSITIONS ≡ true = is_small _ k in e)

pub ends_many : (end : ℕ) (read : Reading) → length read.outer ≡ 0
    → MOST_POSITIONS < positions (sides_of read.level) → reads_as end read [] ≡ Err TooManyPositions
unfolding reads_as first_fault
ends_many end read h k =
    ap (λ t. fault_or_tree (cond t None (Some (Syntax end))) (sides_of read.level))
    (is_zero (length read.outer) h)
    ∙ ap (λ t. cond t (Ok (sides_of read.level)) (Err TooManyPositions))
    (let e : leb (positions (sides_of read.level)) MOST_POSITIONS ≡ false = is_large _ k in e)
