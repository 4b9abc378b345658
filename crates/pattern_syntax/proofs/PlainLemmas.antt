-- Texts whose bytes stand for themselves.
use Rattle.std.proofs.Common.{◌≡◌, ◌∙◌, sym, refl, ap, subst, arith, ℕ, ◌+◌, ◌<◌, ◌^◌, Bool}
use Rattle.std.proofs.Common.{true, false, ◌&&◌, List, [], ◌∷◌, length, length-append}
use Rattle.std.specs.Prelude.{take, drop, fold, Option, Some, None, Ok, is_some, unwrap_or}
use Rattle.std.specs.List.{list_all}
use Rattle.std.proofs.Math.Seq.{take-length, take-append_seam, drop-append_seam}
use Rattle.pattern_syntax.specs.Tree.{Tree, Nothing, Both, tree_from}
use Rattle.pattern_syntax.specs.Exact.{is_itself}
use Rattle.pattern_syntax.specs.Parts.{with_byte, bytes_tree, pattern_tree, IsPattern}
use Rattle.pattern_syntax.specs.Shape.{is_proper, is_choice, tree_size}
use Rattle.pattern_syntax.specs.Literal.{literal_start_of, single_bytes, start_joined}
use Rattle.pattern_syntax.specs.declared.node.Node.{Node}
use Rattle.pattern_syntax.specs.Tokens as tokens
use Rattle.pattern_syntax.specs.Tokens.{PlacedToken, tokens_from, token_at, group_at}
use Rattle.pattern_syntax.specs.Tokens.{repeat_or_byte}
use Rattle.pattern_syntax.specs.Tokens.{marked_repeat}
use Rattle.pattern_syntax.specs.Reading.{Reading, Level, new_reading, after_token, sequence_of}
use Rattle.pattern_syntax.specs.Reading.{first_fault, sides_of}
use Rattle.pattern_syntax.specs.Reading.{with_side, positions, reads_as, pattern_of}
use Rattle.pattern_syntax.specs.Building.{after_bytes}
use Rattle.pattern_syntax.specs.Quick.{IsPlain, IsBelow, below_tree, AreNodesBelow}
use Rattle.pattern_syntax.specs.declared.quick.TheConstants.{BELOW}
use Rattle.pattern_syntax.specs.ByteSet.{bytes_with}
use Rattle.pattern_syntax.specs.Classes.{is_text_byte}
use Rattle.pattern_syntax.specs.PatternValue.{IsReadPattern}
use Rattle.pattern_syntax.proofs.BuildingLemmas.{sequence_is_choice}
use Rattle.pattern_syntax.proofs.LiteralLemmas.{single_is_start}
use Rattle.pattern_syntax.proofs.PartsLemmas.{start_literal}
use Rattle.pattern_syntax.proofs.ReadingLemmas.{tokens_none, ends_whole}
use Rattle.pattern_syntax.proofs.ShapeLemmas.{text_proper}
use Rattle.pattern_syntax.proofs.StartLemmas.{run_read, fold_positions, fold_size, fold_proper}
use Rattle.pattern_syntax.proofs.KeptLemmas.{ReadsAgain, kept, read_tree}

run_sequence : (bytes : List ℕ) (read : Reading) → sequence_of (after_bytes read bytes).level
    ≡ fold with_byte (sequence_of read.level) bytes
run_sequence [] read = refl
run_sequence (b ∷ bytes) read = run_sequence bytes (after_token read (tokens.Bytes (b ∷ [])))

run_sides : (bytes : List ℕ) (read : Reading) → (after_bytes read bytes).level.sides
    ≡ read.level.sides
run_sides [] read = refl
run_sides (b ∷ bytes) read = run_sides bytes (after_token read (tokens.Bytes (b ∷ [])))

run_outer : (bytes : List ℕ) (read : Reading) → (after_bytes read bytes).outer ≡ read.outer
run_outer [] read = refl
run_outer (b ∷ bytes) read = run_outer bytes (after_token read (tokens.Bytes (b ∷ [])))

run_tree : (text : List ℕ) → sides_of (after_bytes new_reading text).level ≡ bytes_tree text
run_tree text =
    ap (λ (o : Option Tree). with_side o (sequence_of (after_bytes new_reading text).level))
    (run_sides text new_reading)
    ∙ run_sequence text new_reading

plain_text : (text : List ℕ) → IsPlain text → pattern_of text ≡ Ok (bytes_tree text)
unfolding pattern_of
plain_text text p =
    let n = length text in
    let all = take-length text in
    let count = fold_positions text Nothing in
    let same = ap positions (run_tree text) in
    let few = p.few in
    run_read (length text) (length text) new_reading 0 text (omega arith)
    (ap (list_all is_itself) all ∙ p.itself)
    ∙ ap (reads_as (length text) (after_bytes new_reading (take (length text) text)))
    (tokens_none (0 + length text) text (omega arith))
    ∙ ap (λ (l : List ℕ). reads_as (length text) (after_bytes new_reading l) []) all
    ∙ ends_whole (length text) (after_bytes new_reading text)
    (ap length (run_outer text new_reading))
    (omega (arith, count, same, few))
    ∙ ap (λ (t : Tree). Ok t) (run_tree text)

plain_parts : (text : List ℕ) → IsPlain text → IsPattern text []
plain_parts text p =
    let q = fold_proper text Nothing refl refl p.proper in
    let n = fold_size text Nothing in record {
      builds = refl;
      proper = q.1;
      choice = sequence_is_choice (bytes_tree text) q.0;
      literal = single_is_start (bytes_tree text) text (start_literal text);
      size = omega (arith, n);
    }

pub plain_read : (text : List ℕ) (run : ℕ) → run ≡ length text → length text < 2 ^ 32
    → IsPlain text → IsReadPattern text (take run text) true
plain_read text run n short p =
    subst (λ (l : List ℕ). IsReadPattern text l true) (sym (ap (λ (k : ℕ). take k text) n
    ∙ take-length text))
    (kept text text [] 0 true short (plain_text text p) (plain_parts text p) refl refl)

-- ---- plain bytes and what lies below them

abbrev below_tokens : ℕ → List PlacedToken
below_tokens n = (n, Ok tokens.Open) ∷ (n + 1, Ok (tokens.Bytes (47 ∷ [])))
    ∷ (n + 1 + 1, Ok (tokens.Bytes (bytes_with is_text_byte)))
    ∷ (n + 1 + 1 + 1, Ok (tokens.Times 0 None)) ∷ (n + 1 + 1 + 1 + 1, Ok tokens.Close)
    ∷ (n + 1 + 1 + 1 + 1 + 1, Ok (tokens.Times 0 (Some 1))) ∷ []

tokens_below : (n : ℕ) → tokens.tokens_from n 0 BELOW.now ≡ below_tokens n
unfolding tokens_from token_at group_at repeat_or_byte marked_repeat
tokens_below n = refl

abbrev at_level : Level → Reading
at_level level = record { level = level; outer = [] }

abbrev behind_below : Level → Level
behind_below level = record {
  sides = level.sides;
  sequence = Both (sequence_of level) below_tree;
  piece = None;
}

reads_below : (end n : ℕ) (level : Level) → reads_as end (at_level level) (below_tokens n)
    ≡ reads_as end (at_level (behind_below level)) []
unfolding reads_as first_fault
reads_below end n level = refl

below_tree_of : (front : List ℕ) → sides_of (behind_below (after_bytes new_reading front).level)
    ≡ Both (bytes_tree front) below_tree
below_tree_of front =
    ap (λ (o : Option Tree). with_side o
    (Both (sequence_of (after_bytes new_reading front).level) below_tree))
    (run_sides front new_reading)
    ∙ ap (λ (t : Tree). Both t below_tree) (run_sequence front new_reading)

run_level : (front : List ℕ) → after_bytes new_reading front
    ≡ at_level (after_bytes new_reading front).level
run_level front =
    ap (λ (o : List Level). record { level = (after_bytes new_reading front).level; outer = o })
    (run_outer front new_reading)

below_text : (text front : List ℕ) → IsBelow text front → pattern_of text
    ≡ Ok (Both (bytes_tree front) below_tree)
unfolding pattern_of
below_text text front b =
    let m = ap length b.text_is ∙ length-append front BELOW.now in
    let t : take (length front) text ≡ front = ap (take (length front)) b.text_is
    ∙ take-append_seam front BELOW.now in
    let d : drop (length front) text ≡ BELOW.now = ap (drop (length front)) b.text_is
    ∙ drop-append_seam front BELOW.now in
    let z : 0 + length front ≡ length front = omega arith in
    let count = fold_positions front Nothing in
    let same = ap positions (below_tree_of front) in
    let few = b.few in
    run_read (length front) (length text) new_reading 0 text (omega (arith, m))
    (ap (list_all is_itself) t ∙ b.plain.itself)
    ∙ ap (λ (k : ℕ). reads_as (length text) (after_bytes new_reading (take (length front) text))
    (tokens.tokens_from k 0 (drop k text))) z
    ∙ ap (λ (l : List ℕ). reads_as (length text) (after_bytes new_reading l)
    (tokens.tokens_from (length front) 0 (drop (length front) text))) t
    ∙ ap (λ (l : List ℕ). reads_as (length text) (after_bytes new_reading front)
    (tokens.tokens_from (length front) 0 l)) d
    ∙ ap (reads_as (length text) (after_bytes new_reading front)) (tokens_below (length front))
    ∙ ap (λ (r : Reading). reads_as (length text) r (below_tokens (length front)))
    (run_level front)
    ∙ reads_below (length text) (length front) (after_bytes new_reading front).level
    ∙ ends_whole (length text) (at_level (behind_below (after_bytes new_reading front).level)) refl
    (omega (arith, count, same, few))
    ∙ ap (λ (t : Tree). Ok t) (below_tree_of front)

below_proper : is_proper below_tree ≡ true
below_proper = text_proper

front_proper : (front : List ℕ) → IsPlain front → is_proper (Both (bytes_tree front) below_tree)
    ≡ true
front_proper front p =
    let q = fold_proper front Nothing refl refl p.proper in
    ap (λ (v : Bool). v && (is_proper (bytes_tree front) && is_proper below_tree)) q.0
    ∙ ap (λ (v : Bool). v && is_proper below_tree) q.1 ∙ below_proper

front_literal : (front : List ℕ) → literal_start_of (Both (bytes_tree front) below_tree) ≡ front
front_literal front =
    ap (λ (o : Option (List ℕ)). unwrap_or (start_joined o None)
    (literal_start_of (bytes_tree front))) (start_literal front)
    ∙ single_is_start (bytes_tree front) front (start_literal front)

pub below_read : (text front : List ℕ) → length text < 2 ^ 32 → IsBelow text front
    → IsReadPattern text front false
below_read text front short b =
    let e = below_text text front b in
    let t = read_tree text (Both (bytes_tree front) below_tree) e in record {
      short = short;
      reads = e ∙ ap (λ (u : Tree). Ok u) (sym t);
      proper = ap is_proper t ∙ front_proper front b.plain;
      literal = ap literal_start_of t ∙ front_literal front;
      alone_is = sym (ap (λ (u : Tree). is_some (single_bytes u)) t
          ∙ ap (λ (o : Option (List ℕ)). is_some (start_joined o None)) (start_literal front));
    }

pub below_again : (text front : List ℕ) (nodes : List Node) → IsBelow text front
    → AreNodesBelow nodes → ReadsAgain text front nodes
below_again text front nodes b a =
    let t : pattern_tree front nodes ≡ Both (bytes_tree front) below_tree = ap tree_from
    (a.build (bytes_tree front)) in
    let n = fold_size front Nothing in
    let k = ap tree_size t in
    let m = a.size in (
      below_text text front b ∙ ap (λ (u : Tree). Ok u) (sym t),
      record {
        builds = a.build (bytes_tree front) ∙ ap (λ (u : Tree). u ∷ []) (sym t);
        proper = ap is_proper t ∙ front_proper front b.plain;
        choice = ap is_choice t;
        literal = ap literal_start_of t ∙ front_literal front;
        size = omega (arith, n, k, m);
      },
    )
