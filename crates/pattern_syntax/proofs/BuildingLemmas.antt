-- Facts on the building of a pattern's nodes.
use Rattle.std.proofs.Common.{◌≡◌, ◌∙◌, sym, refl, ap, ℕ, ◌+◌, ◌*◌, ◌<◌, ◌≤◌, true, cond, leb, eqb}
use Rattle.std.proofs.Common.{◌&&◌, zero, suc, ⊎_elim, List, [], ◌∷◌, ◌++◌, length, arith}
use Rattle.std.proofs.Common.{length-append}
use Rattle.std.specs.Prelude.{Option, Some, None, Result, Ok, Err, option_map, ◌==◌, drop}
use Rattle.label_base.specs.Answers.{Explains}
use Rattle.pattern_syntax.proofs.ReadingLemmas.{ends_open, ends_whole, ends_many, tokens_none}
use Rattle.pattern_syntax.proofs.ReadingLemmas.{tokens_refused, tokens_more, reads_refused}
use Rattle.pattern_syntax.proofs.ReadingLemmas.{reads_fault, reads_more}
use Rattle.std.proofs.lemmas.Bool.{cases_lt}
use Rattle.std.proofs.Math.Nat.{mul-le-mul_right}
use Rattle.std.proofs.lemmas.Bool.Decides.{nat_tests}
use Rattle.pattern_syntax.specs.Tree as tree
use Rattle.pattern_syntax.specs.Tree.{Tree, tree_from}
use Rattle.pattern_syntax.specs.Reading.{Reading, reads_as, sides_of, with_side, placed_cut}
use Rattle.pattern_syntax.specs.Reading.{refused_at, factor, positions, after_token, sequence_of}
use Rattle.pattern_syntax.specs.Reading.{with_last, with_repeat, new_level}
use Rattle.pattern_syntax.specs.Reading as reading
use Rattle.pattern_syntax.specs.Tokens as tokens
use Rattle.pattern_syntax.specs.Shape.{is_proper, is_sequence, is_choice, tree_size, stack_size}
use Rattle.pattern_syntax.specs.Building.{IsBuilderOf, Ends, ExplainedAs, IsProperLevel}
use Rattle.pattern_syntax.specs.Building.{IsProperIfAny, fault_of, outer_counts, outer_trees}
use Rattle.pattern_syntax.specs.Building.{tree_on, level_counts, capped_positions, capped}
use Rattle.pattern_syntax.specs.Parts.{AreParts, start_trees, pattern_tree, lead_of}
use Rattle.pattern_syntax.specs.declared.builder.Builder.{Builder}
use Rattle.pattern_syntax.specs.declared.builder.Level.{Level}
use Rattle.pattern_syntax.specs.declared.pattern_fault.PatternWhy.{PatternWhy}
use Rattle.pattern_syntax.specs.declared.pattern_fault.PatternWhy.TheVariants.{Syntax, TooDeep}
use Rattle.pattern_syntax.specs.declared.pattern_fault.PatternWhy.TheVariants.{TooManyPositions}
use Rattle.pattern_syntax.specs.declared.node.Node.TheVariants as node
use Rattle.pattern_syntax.specs.Nodes.{after_node, after_nodes}
use Rattle.pattern_syntax.specs.declared.node.Node.{Node}
use Rattle.pattern_syntax.specs.declared.limits.TheConstants.{MOST_GROUPS, MOST_POSITIONS}

pub after_append : (ns : List Node) (n : Node) (stack : List Tree)
    → after_nodes (ns ++ n ∷ []) stack ≡ after_node n (after_nodes ns stack)
after_append [] n stack = refl
after_append (m ∷ ns) n stack = after_append ns n (after_node m stack)

pub outer_length : (outer : List reading.Level) → length (outer_counts outer) ≡ length outer
outer_length [] = refl
outer_length (around ∷ outer) = length-append (outer_counts outer) (level_counts around ∷ [])
    ∙ (let h = outer_length outer in omega (arith, h))

pub no_open_group : (items : List Level) (outer : List reading.Level) (at : ℕ)
    → items ≡ outer_counts outer → length items ≡ 0 → cond (eqb (length outer) 0) (Some (Syntax at))
    None ≡ Some (Syntax at)
no_open_group items [] at e h = refl
no_open_group items (around ∷ outer) at e h =
    absurd (let l = outer_length (around ∷ outer) in
    let g : length items ≡ length (outer_counts (around ∷ outer)) = ap length e in
    omega (arith, l, g, h))

pub is_deep : (depth at : ℕ) → MOST_GROUPS ≤ depth
    → cond (leb MOST_GROUPS depth) (Some (TooDeep at)) None ≡ Some (TooDeep at)
is_deep depth at h = grind (arith, nat_tests)

pub is_not_deep : (depth at : ℕ) → depth < MOST_GROUPS
    → cond {A = Option PatternWhy} (leb MOST_GROUPS depth) (Some (TooDeep at)) None ≡ None
is_not_deep depth at h = grind (arith, nat_tests)

capped_product : (x k : ℕ) → capped (capped x * k) ≡ capped (x * k)
capped_product x zero = let p : capped x * 0 ≡ 0 = omega arith in let q : x * 0 ≡ 0 = omega arith in
    ap capped (p ∙ sym q)
capped_product x (suc k) =
    ⊎_elim (λ (h : x < (MOST_POSITIONS + 1)). ap (λ n. capped (n * suc k))
    (let e : capped x ≡ x = omega arith in e))
    (λ h. let e : capped x ≡ (MOST_POSITIONS + 1) = omega arith in
    let a : (MOST_POSITIONS + 1) ≤ (MOST_POSITIONS + 1) * suc k = omega arith in
    let b : (MOST_POSITIONS + 1) * suc k ≤ x * suc k = mul-le-mul_right (suc k) h in
    ap (λ n. capped (n * suc k)) e
    ∙ (let g : capped ((MOST_POSITIONS + 1) * suc k) ≡ capped (x * suc k) = omega
    (arith, a, b) in g))
    (cases_lt x (MOST_POSITIONS + 1))

pub sequence_proper : (sequence : Tree) (piece : Option Tree) → is_sequence sequence ≡ true
    → is_proper sequence ≡ true → IsProperIfAny piece
    → (is_sequence (with_last sequence piece) ≡ true)
    × (is_proper (with_last sequence piece) ≡ true)
sequence_proper sequence None a b c = (a, b)
sequence_proper sequence (Some piece) a b c = (
  refl,
  ap (λ t. t && (is_proper sequence && is_proper piece)) a
      ∙ ap (λ t. t && is_proper piece) b ∙ c,
)

open_outer : (old : Builder) (read : Reading) (count : ℕ) → IsBuilderOf old read
    → count ≡ capped_positions (sequence_of read.level)
    → old.outer.items ++ record { sides = old.level.sides; sequence = count; piece = None } ∷ []
    ≡ outer_counts (after_token read tokens.Open).outer
open_outer old read count s e =
    let side = ap (λ (l : Level). l.sides) s.level in
    ap (λ l. l ++ record { sides = old.level.sides; sequence = count; piece = None } ∷ []) s.outer
    ∙ ap (λ (n : ℕ). outer_counts read.outer
    ++ record { sides = old.level.sides; sequence = n; piece = None } ∷ []) e
    ∙ ap (λ (o : Option ℕ). outer_counts read.outer
    ++ record { sides = o; sequence = capped_positions (sequence_of read.level); piece = None }
    ∷ []) side

pub open_stands : (old new : Builder) (read : Reading) (count at : ℕ) → IsBuilderOf old read
    → length old.outer.items < MOST_GROUPS → count ≡ capped_positions (sequence_of read.level)
    → start_trees new.start new.nodes.items
    ≡ tree.Nothing ∷ (sequence_of read.level ∷ tree_on read.level.sides
    (outer_trees read.outer))
    → new.level ≡ level_counts new_level
    → new.outer.items ≡ old.outer.items
    ++ record { sides = old.level.sides; sequence = count; piece = None } ∷ []
    → 2 * length new.start + length new.nodes.items + 1
    ≡ 1 + (tree_size (sequence_of read.level) + stack_size
    (tree_on read.level.sides (outer_trees read.outer)))
    → lead_of new.nodes.items ≡ None
    → (fault_of read at tokens.Open ≡ None) × IsBuilderOf new (after_token read tokens.Open)
open_stands old new read count at s small e trees level outer size led =
    let p = s.level_proper in
    let q = sequence_proper read.level.sequence read.level.piece p.shape p.sequence p.piece in
    let l = ap length s.outer ∙ outer_length read.outer in (
      is_not_deep (length read.outer) at (omega (arith, l)),
      record {
        trees = trees;
        level = level;
        outer = outer ∙ open_outer old read count s e;
        level_proper = record { sides = tt; shape = refl; sequence = refl; piece = tt };
        outer_proper = (
          refl,
          record { sides = p.sides; shape = q.0; sequence = q.1; piece = tt },
          s.outer_proper,
        );
        size = size;
        led = led;
      },
    )

repeat_level : (old : Builder) (sides : Option Tree) (sequence tree : Tree) (least : ℕ)
    (most : Option ℕ) (count : ℕ)
    → old.level ≡ record {
      sides = option_map capped_positions sides;
      sequence = capped_positions
          sequence;
      piece = Some (capped_positions tree);
    } → count ≡ capped_positions tree
    → record {
      sides = old.level.sides;
      sequence = capped
          (old.level.sequence + capped (count * factor least most));
      piece = None;
    }
    ≡ level_counts
    (with_repeat least most (record { sides = sides; sequence = sequence; piece = Some tree }))
repeat_level old sides sequence tree least most count l e =
    let side = ap (λ (l : Level). l.sides) l in
    let seq = ap (λ (l : Level). l.sequence) l in
    let c : capped (count * factor least most) ≡ capped (positions tree * factor least most) =
    ap (λ (n : ℕ). capped (n * factor least most)) e
    ∙ capped_product (positions tree) (factor least most) in
    let d : capped (capped (positions sequence) + capped (positions tree * factor least most))
    ≡ capped (positions sequence + positions tree * factor least most) = omega arith in
    ap (λ (o : Option ℕ).
    record {
      sides = o;
      sequence = capped
          (old.level.sequence + capped (count * factor least most));
      piece = None;
    }) side
    ∙ ap (λ (n : ℕ). record {
      sides = option_map capped_positions sides;
      sequence = capped
          (n + capped (count * factor least most));
      piece = None;
    }) seq
    ∙ ap (λ (n : ℕ). record {
      sides = option_map capped_positions sides;
      sequence = capped
          (capped_positions sequence + n);
      piece = None;
    }) c
    ∙ ap (λ (n : ℕ). record {
      sides = option_map capped_positions sides;
      sequence = n;
      piece = None;
    }) d

pub repeat_stands : (old new : Builder) (sides : Option Tree) (sequence : Tree)
    (piece : Option Tree) (outer : List reading.Level) (least : ℕ) (most : Option ℕ) (count at : ℕ)
    → IsBuilderOf old
    (record {
      level = record { sides = sides; sequence = sequence; piece = piece };
      outer = outer;
    }) → old.level.piece ≡ Some count
    → start_trees new.start new.nodes.items ≡ after_node node.Both
    (after_node (node.Repeat least most) (start_trees old.start old.nodes.items))
    → new.level ≡ record {
      sides = old.level.sides;
      sequence = capped
          (old.level.sequence + capped (count * factor least most));
      piece = None;
    }
    → new.outer.items ≡ old.outer.items
    → 2 * length new.start + length new.nodes.items
    ≡ 2 * length old.start + length old.nodes.items + 2
    → lead_of new.nodes.items ≡ None
    → (fault_of (record {
      level = record { sides = sides; sequence = sequence; piece = piece };
      outer = outer;
    }) at (tokens.Times least most) ≡ None)
    × IsBuilderOf new
    (after_token
    (record {
      level = record { sides = sides; sequence = sequence; piece = piece };
      outer = outer;
    }) (tokens.Times least most))
repeat_stands old new sides sequence None outer least most count at s p nodes level out size
    led =
    absurd (let e : old.level.piece ≡ None = ap (λ (l : Level). l.piece) s.level in
    let f : Some count ≡ None = sym p ∙ e in cc)
repeat_stands old new sides sequence (Some tree) outer least most count at s p nodes level out
    size led =
    let e : old.level.piece ≡ Some (capped_positions tree) = ap (λ (l : Level). l.piece) s.level in
    let f : count ≡ capped_positions tree = cc in (
      refl,
      record {
        trees = nodes ∙ ap (λ l. after_node node.Both (after_node (node.Repeat least most) l))
            s.trees;
        level = level ∙ repeat_level old sides sequence tree least most count s.level f;
        outer = out ∙ s.outer;
        level_proper =
            record {
              sides = s.level_proper.sides;
              shape = refl;
              sequence = (sequence_proper sequence (Some tree) s.level_proper.shape
                  s.level_proper.sequence s.level_proper.piece).1;
              piece = tt;
            };
        outer_proper = s.outer_proper;
        size = let n = s.size in omega (arith, n, size);
        led = led;
      },
    )

-- ---- the end

pub finish_open : (old new : Builder) (read : Reading) (at : ℕ) → IsBuilderOf old read
    → new.outer ≡ old.outer → 0 < length new.outer.items → reads_as at read [] ≡ Err (Syntax at)
finish_open old new read at s e h =
    let l = ap length s.outer ∙ outer_length read.outer in
    let g : 0 < length old.outer.items = rw e at h in
    ends_open at read (omega (arith, l, g))

pub finish_many : (old new : Builder) (read : Reading) (at count : ℕ) → IsBuilderOf old read
    → new.outer ≡ old.outer → length new.outer.items ≡ 0
    → Ends new (outer_trees read.outer) (sides_of read.level) count → MOST_POSITIONS < count
    → reads_as at read [] ≡ Err TooManyPositions
finish_many old new read at count s e h ends k =
    let l = ap length s.outer ∙ outer_length read.outer in
    let g : length old.outer.items ≡ 0 = rw e at h in
    let n = ends.counted in
    ends_many at read (omega (arith, l, g)) (omega (arith, n, k))

whole_tree : (start : List ℕ) (nodes : List Node) (t : Tree) → start_trees start nodes ≡ t ∷ []
    → pattern_tree start nodes ≡ t
whole_tree start nodes t e = ap tree_from e

choice_proper : (level : reading.Level) → IsProperLevel level → is_proper (sides_of level) ≡ true
choice_proper level p = side_proper level.sides (sequence_of level) p.sides
    (sequence_proper level.sequence level.piece p.shape p.sequence p.piece).1
  where
    side_proper : (sides : Option Tree) (t : Tree) → IsProperIfAny sides → is_proper t ≡ true
        → is_proper (with_side sides t) ≡ true
    side_proper None t a b = b
    side_proper (Some tree) t a b = ap (λ x. x && is_proper t) a ∙ b

pub sequence_is_choice : (t : Tree) → is_sequence t ≡ true → is_choice t ≡ true
sequence_is_choice (tree.Set bytes) h = h
sequence_is_choice tree.Nothing h = refl
sequence_is_choice (tree.Both first second) h = refl
sequence_is_choice (tree.Either left right) h = refl
sequence_is_choice (tree.Repeat least most piece) h = h

choice_shaped : (level : reading.Level) → IsProperLevel level → is_choice (sides_of level) ≡ true
choice_shaped level p =
    side_shaped level.sides (sequence_of level)
    (sequence_proper level.sequence level.piece p.shape p.sequence p.piece).0
  where
    side_shaped : (sides : Option Tree) (t : Tree) → is_sequence t ≡ true
        → is_choice (with_side sides t) ≡ true
    side_shaped None t a = sequence_is_choice t a
    side_shaped (Some sides) t a = refl

no_levels : (outer : List reading.Level) → length outer ≡ 0 → outer_trees outer ≡ []
no_levels [] h = refl
no_levels (around ∷ outer) h = absurd (omega arith)

pub finish_whole : (old new : Builder) (read : Reading) (at count : ℕ) → IsBuilderOf old read
    → new.outer ≡ old.outer → length new.outer.items ≡ 0
    → Ends new (outer_trees read.outer) (sides_of read.level) count → count ≤ MOST_POSITIONS
    → (reads_as at read [] ≡ Ok (pattern_tree new.start new.nodes.items))
    × AreParts new.start new.nodes.items
finish_whole old new read at count s e h ends k =
    let l = ap length s.outer ∙ outer_length read.outer in
    let g : length old.outer.items ≡ 0 = rw e at h in
    let z : length read.outer ≡ 0 = omega (arith, l, g) in
    let n = ends.counted in
    let stack : start_trees new.start new.nodes.items ≡ sides_of read.level ∷ [] = ends.trees
    ∙ ap (λ (ts : List Tree). sides_of read.level ∷ ts) (no_levels read.outer z) in
    let t = whole_tree new.start new.nodes.items (sides_of read.level) stack in (
      ends_whole at read z (omega (arith, n, k)) ∙ ap (λ (u : Tree). Ok u) (sym t),
      record {
        builds = stack ∙ ap (λ (u : Tree). u ∷ []) (sym t);
        proper = ap is_proper t ∙ choice_proper read.level s.level_proper;
        choice = ap is_choice t ∙ choice_shaped read.level s.level_proper;
        size = ends.size ∙ ap (λ (ts : List Tree). tree_size (sides_of read.level) + stack_size ts)
            (no_levels read.outer z)
            ∙ (let m : tree_size (sides_of read.level) + 0 ≡ tree_size (sides_of read.level) = omega
            arith in m) ∙ ap tree_size (sym t);
        led = ends.led;
      },
    )

-- ---- a token more

placed_ok : (at : ℕ) (cut : tokens.Cut) (x : tokens.Token × ℕ) → placed_cut at cut ≡ Ok x
    → cut ≡ Ok x
placed_ok at (Ok cut) x e = let f : Ok cut ≡ Ok x = e in cc
placed_ok at (Err refusal) x e = absurd (let f : Err (refused_at at refusal) ≡ Ok x = e in cc)

placed_refused : (end : ℕ) (read : Reading) (at : ℕ) (all : List ℕ) (why : PatternWhy)
    (cut : tokens.Cut) → at < length all → tokens.token_at (at == 0) (drop at all) ≡ cut
    → placed_cut at cut ≡ Err why
    → reads_as end read (tokens.tokens_from at 0 (drop at all)) ≡ Err why
placed_refused end read at all why (Ok cut) l e h = absurd (let f : Ok cut ≡ Err why = h in cc)
placed_refused end read at all why (Err refusal) l e h =
    ap (reads_as end read) (tokens_refused at all refusal l e) ∙ reads_refused end read at refusal
    ∙ (let f : Err (refused_at at refusal) ≡ Err why = h in
    let g : refused_at at refusal ≡ why = cc in ap (λ (w : PatternWhy). Err w) g)

pub token_explained : (cause : Option PatternWhy) (meant : Result Tree PatternWhy) (end : ℕ)
    (read : Reading) (at : ℕ) (all : List ℕ) → at < length all
    → meant ≡ reads_as end read (tokens.tokens_from at 0 (drop at all))
    → Explains cause (placed_cut at (tokens.token_at (at == 0) (drop at all)))
    → Explains cause meant
token_explained None meant end read at all l e h = tt
token_explained (Some why) meant end read at all l e h =
    e ∙ placed_refused end read at all why (tokens.token_at (at == 0) (drop at all)) l refl h

pub fault_explained : (cause : Option PatternWhy) (meant : Result Tree PatternWhy) (end : ℕ)
    (read : Reading) (at : ℕ) (all : List ℕ) (token : tokens.Token) (n : ℕ) → at < length all
    → meant ≡ reads_as end read (tokens.tokens_from at 0 (drop at all))
    → placed_cut at (tokens.token_at (at == 0) (drop at all)) ≡ Ok (token, n) → 0 < n
    → ExplainedAs cause (fault_of read at token) → Explains cause meant
fault_explained None meant end read at all token n l e c p h = tt
fault_explained (Some why) meant end read at all token n l e c p h =
    e ∙ ap (reads_as end read)
    (tokens_more at all token n l
    (placed_ok at (tokens.token_at (at == 0) (drop at all)) (token, n) c) p)
    ∙ reads_fault end read at token _ why h

pub token_read : (meant : Result Tree PatternWhy) (end : ℕ) (read : Reading) (at : ℕ) (all : List ℕ)
    (token : tokens.Token) (n : ℕ) → at < length all
    → meant ≡ reads_as end read (tokens.tokens_from at 0 (drop at all))
    → placed_cut at (tokens.token_at (at == 0) (drop at all)) ≡ Ok (token, n) → 0 < n
    → fault_of read at token ≡ None → meant ≡ reads_as end (after_token read token)
    (tokens.tokens_from (at + n) 0 (drop (at + n) all))
token_read meant end read at all token n l e c p h =
    e ∙ ap (reads_as end read)
    (tokens_more at all token n l
    (placed_ok at (tokens.token_at (at == 0) (drop at all)) (token, n) c) p)
    ∙ reads_more end read at token _ h

pub all_read : (meant : Result Tree PatternWhy) (read : Reading) (at : ℕ) (all : List ℕ)
    → at ≡ length all
    → meant ≡ reads_as (length all) read (tokens.tokens_from at 0 (drop at all))
    → meant ≡ reads_as at read []
all_read meant read at all l e =
    e ∙ ap (reads_as (length all) read) (tokens_none at all (omega arith))
    ∙ ap (λ (n : ℕ). reads_as n read []) (sym l)

pub end_explained : (cause : Option PatternWhy) (meant other : Result Tree PatternWhy)
    → meant ≡ other → Explains cause other → Explains cause meant
end_explained None meant other e h = tt
end_explained (Some why) meant other e h = e ∙ h
