-- What is refused is refused for what stands amiss at the first place where anything does, and the
-- other way round.
use Rattle.std.proofs.Common.{◌≡◌, ◌∙◌, sym, refl, ap, subst, ℕ, ◌+◌, ◌<◌, ◌≤◌, ◌==◌, leb, ⊎_elim}
use Rattle.std.proofs.Common.{Bool, true, false, cond, List, [], ◌∷◌, ◌++◌, length, map}
use Rattle.std.proofs.Common.{append_assoc, append-nil, arith}
use Rattle.std.specs.Prelude.{Option, Some, None, Result, Ok, Err, is_some, nat_le, ◌↔◌}
use Rattle.std.proofs.lemmas.List.{map-append}
use Rattle.std.proofs.lemmas.List.Sums.{fold_push}
use Rattle.std.proofs.lemmas.Bool.Decides.{nat_tests}
use Rattle.pattern_syntax.specs.Tree.{Tree}
use Rattle.pattern_syntax.specs.Tokens.{Token, Bytes, Open, Close, Bar, Anchor, Times, PlacedToken}
use Rattle.pattern_syntax.specs.Tokens.{tokens_from}
use Rattle.pattern_syntax.specs.Reading.{Reading, Level, new_reading, sides_of, with_piece}
use Rattle.pattern_syntax.specs.Reading.{after_token, tree_after, first_fault, first_fault_of}
use Rattle.pattern_syntax.specs.Reading.{structure_fault, depth_behind, ends_piece, refused_at}
use Rattle.pattern_syntax.specs.Reading.{fault_or_tree, reads_as, pattern_of, positions}
use Rattle.pattern_syntax.specs.Grammar.{Choice, cut_of}
use Rattle.pattern_syntax.specs.Faults.{open_behind, takes_repeat, IsShallow, Begins, IsCutInto}
use Rattle.pattern_syntax.specs.Faults.{IsPatternText, HasTooManyPositions, IsMisplaced, IsAmiss}
use Rattle.pattern_syntax.specs.Faults.{HasFault, IsRefusedFor}
use Rattle.pattern_syntax.specs.declared.refusal.Refusal.{Refusal}
use Rattle.pattern_syntax.specs.declared.pattern_fault.PatternWhy.{PatternWhy}
use Rattle.pattern_syntax.specs.declared.pattern_fault.PatternWhy.TheVariants.{Syntax}
use Rattle.pattern_syntax.specs.declared.pattern_fault.PatternWhy.TheVariants.{UnsupportedPattern}
use Rattle.pattern_syntax.specs.declared.pattern_fault.PatternWhy.TheVariants.{TooDeep}
use Rattle.pattern_syntax.specs.declared.pattern_fault.PatternWhy.TheVariants.{TooManyPositions}
use Rattle.pattern_syntax.proofs.ReadingLemmas.{behind_is, no_zero, is_zero}
use Rattle.pattern_syntax.proofs.GrammarLemmas.{SpellsReading, new_reading_spelled, token_spelled}
use Rattle.pattern_syntax.proofs.GrammarLemmas.{choice_spelled, along, sound, reading, read_on}
use Rattle.pattern_syntax.proofs.GrammarLemmas.{complete, grammar_tree, AreFine, IsFine, fine}
use Rattle.pattern_syntax.proofs.GrammarLemmas.{HasPlace, fault_has_place, no_fault_first}
use Rattle.pattern_syntax.proofs.GrammarLemmas.{no_fault_later}
use Rattle.pattern_syntax.specs.declared.limits.TheConstants.{MOST_GROUPS, MOST_POSITIONS}

-- ---- a token and its fault

misplaced_from : (depth : ℕ) (after_piece : Bool) (place : ℕ) (token : Token) (why : PatternWhy)
    → structure_fault depth after_piece place token ≡ Some why → IsMisplaced depth after_piece place
    token why
misplaced_from depth after_piece place (Bytes bytes) why e =
    absurd (let f : None ≡ Some why = e in cc)
misplaced_from depth after_piece place Bar why e = absurd (let f : None ≡ Some why = e in cc)
misplaced_from depth after_piece place Anchor why e = absurd (let f : None ≡ Some why = e in cc)
misplaced_from depth after_piece place Open why e = opened (leb MOST_GROUPS depth) refl e
  where
    opened : (b : Bool) → leb MOST_GROUPS depth ≡ b → cond b (Some (TooDeep place)) None ≡ Some why
        → (MOST_GROUPS ≤ depth) × (why ≡ TooDeep place)
    opened true h e = (grind (arith, nat_tests), let f : Some (TooDeep place) ≡ Some why = e in cc)
    opened false h e = absurd (let f : None ≡ Some why = e in cc)
misplaced_from depth after_piece place Close why e = closed (depth == 0) refl e
  where
    closed : (b : Bool) → (depth == 0) ≡ b → cond b (Some (Syntax place)) None ≡ Some why
        → (depth ≡ 0) × (why ≡ Syntax place)
    closed true h e = (grind (arith, nat_tests), let f : Some (Syntax place) ≡ Some why = e in cc)
    closed false h e = absurd (let f : None ≡ Some why = e in cc)
misplaced_from depth true place (Times least most) why e =
    absurd (let f : None ≡ Some why = e in cc)
misplaced_from depth false place (Times least most) why e =
    (refl, let f : Some (Syntax place) ≡ Some why = e in cc)

deep_test : (depth : ℕ) → MOST_GROUPS ≤ depth → leb MOST_GROUPS depth ≡ true
deep_test depth h = grind (arith, nat_tests)

misplaced_to : (depth : ℕ) (after_piece : Bool) (place : ℕ) (token : Token) (why : PatternWhy)
    → IsMisplaced depth after_piece place token why → structure_fault depth after_piece place token
    ≡ Some why
misplaced_to depth after_piece place (Bytes bytes) why h = absurd h
misplaced_to depth after_piece place Bar why h = absurd h
misplaced_to depth after_piece place Anchor why h = absurd h
misplaced_to depth after_piece place Open why h =
    ap (λ (b : Bool). cond b (Some (TooDeep place)) None) (deep_test depth h.0)
    ∙ ap (λ (w : PatternWhy). Some w) (sym h.1)
misplaced_to depth after_piece place Close why h =
    ap (λ (b : Bool). cond b (Some (Syntax place)) None) (is_zero depth h.0)
    ∙ ap (λ (w : PatternWhy). Some w) (sym h.1)
misplaced_to depth after_piece place (Times least most) why h =
    ap (λ (b : Bool). cond b None (Some (Syntax place))) h.0
    ∙ ap (λ (w : PatternWhy). Some w) (sym h.1)

-- a token without a fault leaves no more groups open than may be
pub stays_shallow : (depth : ℕ) (after_piece : Bool) (place : ℕ) (token : Token)
    → depth ≤ MOST_GROUPS → structure_fault depth after_piece place token ≡ None
    → depth_behind token depth ≤ MOST_GROUPS
stays_shallow depth after_piece place (Bytes bytes) h e = h
stays_shallow depth after_piece place Bar h e = h
stays_shallow depth after_piece place Anchor h e = h
stays_shallow depth after_piece place (Times least most) h e = h
stays_shallow depth after_piece place Close h e = omega arith
stays_shallow depth after_piece place Open h e = opened (leb MOST_GROUPS depth) refl e
  where
    opened : (b : Bool) → leb MOST_GROUPS depth ≡ b → cond b (Some (TooDeep place)) None ≡ None
        → depth + 1 ≤ MOST_GROUPS
    opened true k e = absurd (let f : Some (TooDeep place) ≡ None = e in cc)
    opened false k e = grind (arith, nat_tests)

not_deep : (depth : ℕ) (after_piece : Bool) (place : ℕ) (token : Token) → depth_behind token depth
    ≤ MOST_GROUPS → IsFine place (structure_fault depth after_piece place token)
    → structure_fault depth after_piece place token ≡ None
not_deep depth after_piece place token h k =
    ⊎_elim (λ (n : structure_fault depth after_piece place token ≡ None). n)
    (λ (n : structure_fault depth after_piece place token ≡ Some (TooDeep place)). absurd
    (deep token h (misplaced_from depth after_piece place token (TooDeep place) n)))
    k
  where
    deep : (token : Token) → depth_behind token depth ≤ MOST_GROUPS
        → IsMisplaced depth after_piece place token (TooDeep place) → ⊥
    deep (Bytes bytes) h m = m
    deep Bar h m = m
    deep Anchor h m = m
    deep Open h m = let n = m.0 in omega (arith, h, n)
    deep Close h m = let f : TooDeep place ≡ Syntax place = m.1 in cc
    deep (Times least most) h m = let f : TooDeep place ≡ Syntax place = m.1 in cc

-- ---- from a fault to what is amiss

shallow_push : (depth : ℕ) (tokens : List Token) (token : Token) → IsShallow depth tokens
    → depth_behind token (open_behind depth tokens) ≤ MOST_GROUPS
    → IsShallow depth (tokens ++ token ∷ [])
shallow_push depth [] token h k = (k, tt)
shallow_push depth (t ∷ tokens) token h k =
    (h.0, shallow_push (depth_behind t depth) tokens token h.1 k)

shallow_depth : (depth : ℕ) (tokens : List Token) → depth ≤ MOST_GROUPS → IsShallow depth tokens
    → open_behind depth tokens ≤ MOST_GROUPS
shallow_depth depth [] h k = h
shallow_depth depth (t ∷ tokens) h k = shallow_depth (depth_behind t depth) tokens k.0 k.1

-- a reading begins some pattern: one in which its groups are closed
closes : (level : Level) (outer : List Level) (before : List Token)
    → SpellsReading before (reading level outer) → Begins before
closes level [] before h = (
  [],
  sides_of level,
  along Choice h.1 (before ++ []) (sides_of level)
      (sym (append-nil before ∙ h.2 ∙ ap (λ (l : List Token). l ++ h.1) h.4))
      (choice_spelled h.1 level h.3),
)
closes level (around ∷ outer) before h =
    let none : structure_fault (length (around ∷ outer)) (is_some level.piece) 0 Close ≡ None =
    ap (λ (b : Bool). cond b (Some (Syntax 0)) None) (no_zero (length outer)) in
    let k = closes (with_piece around (sides_of level)) outer (before ++ Close ∷ [])
    (token_spelled before (reading level (around ∷ outer)) 0 Close h none) in (
      Close ∷ k.0,
      k.1,
      along Choice ((before ++ Close ∷ []) ++ k.0) (before ++ Close ∷ k.0) k.1
          (append_assoc before (Close ∷ []) k.0) k.2,
    )

-- what was read before a place stands for these tokens
record Stands (tokens : List Token) (read : Reading) : Type 0 where
  spelled : SpellsReading tokens read
  depth : length read.outer ≡ open_behind 0 tokens
  piece : is_some read.level.piece ≡ takes_repeat false tokens
  shallow : IsShallow 0 tokens

stands_more : (tokens : List Token) (read : Reading) (place : ℕ) (token : Token)
    → Stands tokens read → structure_fault (length read.outer) (is_some read.level.piece) place
    token ≡ None → Stands (tokens ++ token ∷ []) (after_token read token)
stands_more tokens read place token s e =
    let b = behind_is read place token e in
    let d = shallow_depth 0 tokens (omega arith) s.shallow in
    let d : length read.outer ≤ MOST_GROUPS = subst (λ (n : ℕ). n ≤ MOST_GROUPS) (sym s.depth) d in
    record {
      spelled = token_spelled tokens read place token s.spelled e;
      depth = sym b.0 ∙ ap (λ (n : ℕ). depth_behind token n) s.depth
          ∙ sym (fold_push (λ (n : ℕ) (t : Token). depth_behind t n) 0 tokens token);
      piece = sym b.1 ∙ sym (fold_push (λ (n : Bool) (t : Token). ends_piece t) false tokens token);
      shallow = shallow_push 0 tokens token s.shallow
          (subst (λ (n : ℕ). depth_behind token n ≤ MOST_GROUPS) s.depth
          (stays_shallow (length read.outer) (is_some read.level.piece) place token d e));
    }

amiss_here : (end : ℕ) (all front rest : List PlacedToken) (tokens : List Token) (read : Reading)
    (why : PatternWhy) → all ≡ front ++ rest → map cut_of front ≡ map Ok tokens → Stands tokens read
    → IsAmiss end tokens rest why → HasFault end all why
amiss_here end all front rest tokens read why c m s a = record {
  front = front;
  rest = rest;
  tokens = tokens;
  cut = c;
  read = m;
  begins = closes read.level read.outer tokens s.spelled;
  shallow = s.shallow;
  amiss = a;
}

end_amiss : (end depth : ℕ) (why : PatternWhy) (b : Bool) → (depth == 0) ≡ b
    → cond b None (Some (Syntax end)) ≡ Some why → (0 < depth) × (why ≡ Syntax end)
end_amiss end depth why true h e = absurd (let f : None ≡ Some why = e in cc)
end_amiss end depth why false h e =
    (grind (arith, nat_tests), let f : Some (Syntax end) ≡ Some why = e in cc)

first_amiss : (end : ℕ) (all front placed : List PlacedToken) (tokens : List Token) (read : Reading)
    (why : PatternWhy) → all ≡ front ++ placed → map cut_of front ≡ map Ok tokens
    → Stands tokens read
    → first_fault end (length read.outer) (is_some read.level.piece) placed ≡ Some why
    → HasFault end all why
unfolding first_fault
first_amiss end all front [] tokens read why c m s e =
    amiss_here end all front [] tokens read why c m s
    (subst (λ (d : ℕ). (0 < d) × (why ≡ Syntax end)) s.depth
    (end_amiss end (length read.outer) why (length read.outer == 0) refl e))
first_amiss end all front ((place, Err refusal) ∷ placed) tokens read why c m s e =
    amiss_here end all front ((place, Err refusal) ∷ placed) tokens read why c m s
    (let f : Some (refused_at place refusal) ≡ Some why = e in
    let g : refused_at place refusal ≡ why = cc in sym g)
first_amiss end all front ((place, Ok token) ∷ placed) tokens read why c m s e =
    chosen (structure_fault (length read.outer) (is_some read.level.piece) place token) refl e
    (λ (k : structure_fault (length read.outer) (is_some read.level.piece) place token ≡ None)
    (e : first_fault end (depth_behind token (length read.outer)) (ends_piece token) placed
    ≡ Some why).
    let b = behind_is read place token k in
    let d = ap (λ (n : ℕ). first_fault end n (is_some (after_token read token).level.piece) placed)
    (sym b.0) ∙ ap (λ (p : Bool). first_fault end (depth_behind token (length read.outer)) p
    placed) (sym b.1) ∙ e in
    first_amiss end all (front ++ (place, Ok token) ∷ []) placed (tokens ++ token ∷ [])
    (after_token read token) why
    (c ∙ sym (append_assoc front ((place, Ok token) ∷ []) placed))
    (map-append cut_of front ((place, Ok token) ∷ [])
    ∙ ap (λ (l : List (Result Token Refusal)). l ++ Ok token ∷ []) m
    ∙ sym (map-append Ok tokens (token ∷ [])))
    (stands_more tokens read place token s k) d)
  where
    chosen : (o : Option PatternWhy) → structure_fault (length read.outer)
        (is_some read.level.piece) place token ≡ o
        → first_fault_of o
        (first_fault end (depth_behind token (length read.outer)) (ends_piece token) placed)
        ≡ Some why
        → (structure_fault (length read.outer) (is_some read.level.piece) place token ≡ None
        → first_fault end (depth_behind token (length read.outer)) (ends_piece token) placed
        ≡ Some why → HasFault end all why) → HasFault end all why
    chosen (Some w) k e next =
        let f : Some w ≡ Some why = e in
        let a = misplaced_from (length read.outer) (is_some read.level.piece) place token why
        (k ∙ f) in
        let b = subst (λ (d : ℕ). IsMisplaced d (is_some read.level.piece) place token why) s.depth
        a in
        amiss_here end all front ((place, Ok token) ∷ placed) tokens read why c m s
        (subst (λ (p : Bool). IsMisplaced (open_behind 0 tokens) p place token why) s.piece b)
    chosen None k e next = next k e

-- ---- from what is amiss to a fault

fine_front : (read : Reading) (xs ys : List Token) → AreFine read (xs ++ ys) → AreFine read xs
fine_front read [] ys h = tt
fine_front read (x ∷ xs) ys h = (h.0, fine_front (after_token read x) xs ys h.1)

-- tokens without a fault are passed over
record Passes (end : ℕ) (read : Reading) (tokens : List Token)
    (front rest : List PlacedToken) : Type 0 where
  faults : first_fault end (length read.outer) (is_some read.level.piece) (front ++ rest)
      ≡ first_fault end (open_behind (length read.outer) tokens)
      (takes_repeat (is_some read.level.piece) tokens) rest
  depth : length (read_on read tokens).outer ≡ open_behind (length read.outer) tokens

passes : (end : ℕ) (read : Reading) (tokens : List Token) (front rest : List PlacedToken)
    → map cut_of front ≡ map Ok tokens → AreFine read tokens → IsShallow (length read.outer) tokens
    → Passes end read tokens front rest
unfolding first_fault
passes end read [] [] rest e h k = record { faults = refl; depth = refl }
passes end read (t ∷ ts) [] rest e h k = absurd (let f : map cut_of [] ≡ Ok t ∷ map Ok ts = e in cc)
passes end read [] (p ∷ ps) rest e h k = absurd (let f : p.1 ∷ map cut_of ps ≡ [] = e in cc)
passes end read (t ∷ ts) ((place, Err refusal) ∷ ps) rest e h k =
    absurd (let f : Err refusal ∷ map cut_of ps ≡ Ok t ∷ map Ok ts = e in cc)
passes end read (t ∷ ts) ((place, Ok token) ∷ ps) rest e h k =
    let f : Ok token ∷ map cut_of ps ≡ Ok t ∷ map Ok ts = e in
    let g : token ≡ t = cc in
    let m : map cut_of ps ≡ map Ok ts = cc in
    let n = not_deep (length read.outer) (is_some read.level.piece) place t k.0 (h.0 place) in
    let b = behind_is read place t n in
    let i = passes end (after_token read t) ts ps rest m h.1
    (subst (λ (d : ℕ). IsShallow d ts) b.0 k.1) in record {
      faults =
          ap (λ (u : Token). first_fault_of
          (structure_fault (length read.outer) (is_some read.level.piece) place u)
          (first_fault end (depth_behind u (length read.outer)) (ends_piece u) (ps ++ rest))) g
          ∙ ap (λ (o : Option PatternWhy). first_fault_of o
          (first_fault end (depth_behind t (length read.outer)) (ends_piece t) (ps ++ rest))) n
          ∙ ap (λ (d : ℕ). first_fault end d (ends_piece t) (ps ++ rest)) b.0
          ∙ ap (λ (p : Bool). first_fault end (length (after_token read t).outer) p (ps ++ rest))
          b.1
          ∙ i.faults
          ∙ ap (λ (d : ℕ). first_fault end (open_behind d ts)
          (takes_repeat (is_some (after_token read t).level.piece) ts) rest) (sym b.0)
          ∙ ap (λ (p : Bool). first_fault end (open_behind (depth_behind t (length read.outer)) ts)
          (takes_repeat p ts) rest) (sym b.1);
      depth = i.depth ∙ ap (λ (d : ℕ). open_behind d ts) (sym b.0);
    }

amiss_is_fault : (end : ℕ) (tokens : List Token) (rest : List PlacedToken) (why : PatternWhy)
    → IsAmiss end tokens rest why → first_fault end (open_behind 0 tokens)
    (takes_repeat false tokens) rest ≡ Some why
unfolding first_fault
amiss_is_fault end tokens [] why h = ap (λ (b : Bool). cond b None (Some (Syntax end)))
    (open_test (open_behind 0 tokens) h.0) ∙ ap (λ (w : PatternWhy). Some w) (sym h.1)
  where
    open_test : (d : ℕ) → 0 < d → (d == 0) ≡ false
    open_test d h = grind (arith, nat_tests)
amiss_is_fault end tokens ((place, Err refusal) ∷ rest) why h =
    ap (λ (w : PatternWhy). Some w) (sym h)
amiss_is_fault end tokens ((place, Ok token) ∷ rest) why h =
    ap (λ (o : Option PatternWhy). first_fault_of o
    (first_fault end (depth_behind token (open_behind 0 tokens)) (ends_piece token) rest))
    (misplaced_to (open_behind 0 tokens) (takes_repeat false tokens) place token why h)

fault_is_first : (end : ℕ) (placed : List PlacedToken) (why : PatternWhy) → HasFault end placed why
    → first_fault end 0 false placed ≡ Some why
fault_is_first end placed why h =
    let b = h.begins in
    let f = fine_front new_reading h.tokens b.0 (fine Choice (h.tokens ++ b.0) b.1 b.2 []) in
    ap (first_fault end 0 false) h.cut
    ∙ (passes end new_reading h.tokens h.front h.rest h.read f h.shallow).faults
    ∙ amiss_is_fault end h.tokens h.rest why h.amiss

-- ---- texts of the grammar

shallow_read : (end depth : ℕ) (after_piece : Bool) (placed : List PlacedToken)
    (tokens : List Token) → depth ≤ MOST_GROUPS → first_fault end depth after_piece placed ≡ None
    → map cut_of placed ≡ map Ok tokens → IsShallow depth tokens
unfolding first_fault
shallow_read end depth after_piece placed [] h e m = tt
shallow_read end depth after_piece [] (t ∷ ts) h e m =
    absurd (let f : map cut_of [] ≡ Ok t ∷ map Ok ts = m in cc)
shallow_read end depth after_piece ((place, Err refusal) ∷ ps) (t ∷ ts) h e m =
    absurd (let f : Err refusal ∷ map cut_of ps ≡ Ok t ∷ map Ok ts = m in cc)
shallow_read end depth after_piece ((place, Ok token) ∷ ps) (t ∷ ts) h e m =
    let f : Ok token ∷ map cut_of ps ≡ Ok t ∷ map Ok ts = m in
    let g : token ≡ t = cc in
    let n : map cut_of ps ≡ map Ok ts = cc in
    let later = first_fault end (depth_behind token depth) (ends_piece token) ps in
    let a = no_fault_first (structure_fault depth after_piece place token) later e in
    let b = no_fault_later (structure_fault depth after_piece place token) later e in
    let s = stays_shallow depth after_piece place token h a in
    subst (λ (u : Token). IsShallow depth (u ∷ ts)) g
    (s, shallow_read end (depth_behind token depth) (ends_piece token) ps ts s b n)

cut_without_fault : (text : List ℕ) → first_fault (length text) 0 false (tokens_from 0 0 text)
    ≡ None → IsCutInto text (tree_after new_reading (tokens_from 0 0 text))
cut_without_fault text e =
    let s = sound (length text) (tokens_from 0 0 text) new_reading [] new_reading_spelled e in
    record {
      tokens = s.0;
      cut = s.1;
      spells = s.2;
      shallow = shallow_read (length text) 0 false (tokens_from 0 0 text) s.0 (omega arith) e s.1;
    }

cut_is_faultless : (text : List ℕ) (tree : Tree) → IsCutInto text tree
    → first_fault (length text) 0 false (tokens_from 0 0 text) ≡ None
unfolding first_fault
cut_is_faultless text tree h =
    let k = complete Choice h.tokens tree h.spells [] in
    let p = passes (length text) new_reading h.tokens (tokens_from 0 0 text) [] h.cut
    (fine Choice h.tokens tree h.spells []) h.shallow in
    let z : open_behind 0 h.tokens ≡ 0 = sym p.depth ∙ ap (λ (r : Reading). length r.outer) k.1 in
    ap (first_fault (length text) 0 false) (sym (append-nil (tokens_from 0 0 text))) ∙ p.faults
    ∙ ap (λ (b : Bool). cond b None (Some (Syntax (length text))))
    (is_zero (open_behind 0 h.tokens) z)

few_test : (n : ℕ) → n ≤ MOST_POSITIONS → nat_le n MOST_POSITIONS ≡ true
few_test n h = grind (arith, nat_tests)

many_test : (n : ℕ) → MOST_POSITIONS < n → nat_le n MOST_POSITIONS ≡ false
many_test n h = grind (arith, nat_tests)

abbrev fault_in : List ℕ → Option PatternWhy
fault_in text = first_fault (length text) 0 false (tokens_from 0 0 text)

abbrev tree_in : List ℕ → Tree
tree_in text = tree_after new_reading (tokens_from 0 0 text)

reads_by : (text : List ℕ) → pattern_of text ≡ fault_or_tree (fault_in text) (tree_in text)
unfolding pattern_of reads_as
reads_by text = refl

tree_of_cut : (text : List ℕ) (tree : Tree) → IsCutInto text tree → tree_in text ≡ tree
tree_of_cut text tree h = grammar_tree (tokens_from 0 0 text) h.tokens tree h.cut h.spells

pub pattern_is_read : (text : List ℕ) (tree : Tree) → IsPatternText text tree
    → pattern_of text ≡ Ok tree
pattern_is_read text tree h =
    reads_by text ∙ ap (λ (o : Option PatternWhy). fault_or_tree o (tree_in text))
    (cut_is_faultless text tree h.0) ∙ ap (λ (t : Tree). fault_or_tree None t)
    (tree_of_cut text tree h.0)
    ∙ ap (λ (b : Bool). cond b (Ok tree) (Err TooManyPositions)) (few_test (positions tree) h.1)

pub many_is_refused : (text : List ℕ) → HasTooManyPositions text
    → pattern_of text ≡ Err TooManyPositions
many_is_refused text h =
    reads_by text ∙ ap (λ (o : Option PatternWhy). fault_or_tree o (tree_in text))
    (cut_is_faultless text h.0 h.1) ∙ ap (λ (t : Tree). fault_or_tree None t)
    (tree_of_cut text h.0 h.1)
    ∙ ap (λ (b : Bool). cond b (Ok h.0) (Err TooManyPositions)) (many_test (positions h.0) h.2)

fault_is_refused : (text : List ℕ) (why : PatternWhy)
    → HasFault (length text) (tokens_from 0 0 text) why → pattern_of text ≡ Err why
fault_is_refused text why h = reads_by text
    ∙ ap (λ (o : Option PatternWhy). fault_or_tree o (tree_in text))
    (fault_is_first (length text) (tokens_from 0 0 text) why h)

pub refused_from : (text : List ℕ) (why : PatternWhy) → IsRefusedFor text why
    → pattern_of text ≡ Err why
refused_from text (Syntax place) h = fault_is_refused text (Syntax place) h
refused_from text (UnsupportedPattern place) h = fault_is_refused text (UnsupportedPattern place) h
refused_from text (TooDeep place) h = fault_is_refused text (TooDeep place) h
refused_from text TooManyPositions h = many_is_refused text h

first_stands : Stands [] new_reading
first_stands = record { spelled = new_reading_spelled; depth = refl; piece = refl; shallow = tt }

few_is_true : (n : ℕ) → nat_le n MOST_POSITIONS ≡ true → n ≤ MOST_POSITIONS
few_is_true n h = grind (arith, nat_tests)

many_is_false : (n : ℕ) → nat_le n MOST_POSITIONS ≡ false → MOST_POSITIONS < n
many_is_false n h = grind (arith, nat_tests)

abbrev Says : List ℕ → Result Tree PatternWhy → Type 0
Says text (Ok tree) = IsPatternText text tree
Says text (Err why) = IsRefusedFor text why

says_placed : (text : List ℕ) (why : PatternWhy) → HasPlace (Some why)
    → HasFault (length text) (tokens_from 0 0 text) why → IsRefusedFor text why
says_placed text (Syntax place) p h = h
says_placed text (UnsupportedPattern place) p h = h
says_placed text (TooDeep place) p h = h
says_placed text TooManyPositions p h = absurd p

says_tree : (text : List ℕ) (few : Bool) → IsCutInto text (tree_in text)
    → nat_le (positions (tree_in text)) MOST_POSITIONS ≡ few
    → Says text (cond few (Ok (tree_in text)) (Err TooManyPositions))
says_tree text true h e = (h, few_is_true (positions (tree_in text)) e)
says_tree text false h e = (tree_in text, h, many_is_false (positions (tree_in text)) e)

says_by : (text : List ℕ) (fault : Option PatternWhy) → fault_in text ≡ fault
    → Says text (fault_or_tree fault (tree_in text))
says_by text (Some why) e =
    says_placed text why
    (subst HasPlace e (fault_has_place (length text) 0 false (tokens_from 0 0 text)))
    (first_amiss (length text) (tokens_from 0 0 text) [] (tokens_from 0 0 text) [] new_reading why
    refl refl first_stands e)
says_by text None e = says_tree text (nat_le (positions (tree_in text)) MOST_POSITIONS)
    (cut_without_fault text e) refl

says : (text : List ℕ) → Says text (pattern_of text)
says text = subst (λ (r : Result Tree PatternWhy). Says text r) (sym (reads_by text))
    (says_by text (fault_in text) refl)

pub read_from : (text : List ℕ) (tree : Tree) → pattern_of text ≡ Ok tree → IsPatternText text tree
read_from text tree e = subst (λ (r : Result Tree PatternWhy). Says text r) e (says text)

pub refused_for : (text : List ℕ) (why : PatternWhy) → pattern_of text ≡ Err why
    → IsRefusedFor text why
refused_for text why e = subst (λ (r : Result Tree PatternWhy). Says text r) e (says text)

pub reads_as_grammar : (text : List ℕ) (tree : Tree) → pattern_of text ≡ Ok tree ↔ IsPatternText
    text tree
reads_as_grammar text tree = (read_from text tree, pattern_is_read text tree)

pub refuses_as_grammar : (text : List ℕ) (why : PatternWhy)
    → pattern_of text ≡ Err why ↔ IsRefusedFor text why
refuses_as_grammar text why = (refused_for text why, refused_from text why)
