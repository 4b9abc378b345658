-- A pattern that is kept as its text and its start.
use Rattle.std.proofs.Common.{◌≡◌, ◌∙◌, sym, ap, subst, arith, ℕ, ◌+◌, ◌-◌, ◌<◌, ◌≤◌, ◌^◌, ◌==◌}
use Rattle.std.proofs.Common.{Bool}
use Rattle.std.proofs.Common.{List, [], ◌∷◌, ◌++◌, length, length-append, refl}
use Rattle.std.specs.Prelude.{take, drop}
use Rattle.std.proofs.lemmas.List.{take_all}
use Rattle.std.proofs.Math.Seq.{take-append_seam, drop-append_seam, take-length}
use Rattle.std.specs.Prelude.{Option, Some, None, Ok, is_some, unwrap_or, ◌↔◌}
use Rattle.pattern_syntax.specs.Tree as tree
use Rattle.pattern_syntax.specs.Tree.{Tree}
use Rattle.pattern_syntax.specs.Language.{In}
use Rattle.pattern_syntax.specs.Nodes.{after_nodes, rest_tree}
use Rattle.pattern_syntax.specs.Shape.{is_proper}
use Rattle.pattern_syntax.specs.Literal.{literal_start_of, single_byte, single_bytes, start_joined}
use Rattle.pattern_syntax.specs.Parts.{bytes_tree, pattern_tree, Follows, IsPattern}
use Rattle.pattern_syntax.specs.Reading.{pattern_of, positions}
use Rattle.pattern_syntax.specs.PatternValue.{PatternValue, tree_or_nothing, tree_read, as_read}
use Rattle.pattern_syntax.specs.PatternValue.{IsReadPattern, HoldsBoth, IsKept}
use Rattle.pattern_syntax.specs.PatternValue.{start_place, text_end}
use Rattle.pattern_syntax.specs.declared.node.Node.{Node}
use Rattle.pattern_syntax.specs.declared.limits.TheConstants.{MOST_POSITIONS}
use Rattle.pattern_syntax.proofs.PartsLemmas.{alone_shown, joined_parts}
use Rattle.pattern_syntax.proofs.BehindLemmas.{starts_apart}
use Rattle.pattern_syntax.proofs.FaultLemmas.{reads_as_grammar}

pub read_tree : (text : List ℕ) (tree : Tree) → pattern_of text ≡ Ok tree → tree_read text ≡ tree
unfolding tree_read
read_tree text tree e = ap tree_or_nothing e

pub kept : (text start : List ℕ) (rest : List Node) (count : ℕ) (alone : Bool)
    → length text < 2 ^ 32 → pattern_of text ≡ Ok (pattern_tree start rest) → IsPattern start rest
    → count ≡ length rest → alone ≡ (count == 0) → IsReadPattern text start alone
kept text start rest count alone short reads p n a =
    let t = read_tree text (pattern_tree start rest) reads in record {
      short = short;
      reads = reads ∙ ap (λ (u : Tree). Ok u) (sym t);
      proper = ap is_proper t ∙ p.proper;
      literal = ap literal_start_of t ∙ p.literal;
      alone_is = a ∙ ap (λ (k : ℕ). k == 0) n ∙ alone_shown start rest p
          ∙ ap (λ (u : Tree). is_some (single_bytes u)) (sym t);
    }

-- what is read of a kept text again
abbrev pub ReadsAgain : List ℕ → List ℕ → List Node → Type 0
ReadsAgain text start rest =
    (pattern_of text ≡ Ok (pattern_tree start rest)) × IsPattern start rest

again_tree : (text start : List ℕ) (rest : List Node) (value : PatternValue)
    → as_read text ≡ value → ReadsAgain text start rest → value.tree ≡ pattern_tree start rest
again_tree text start rest value v r = ap (λ (p : PatternValue). p.tree) (sym v)
    ∙ read_tree text (pattern_tree start rest) r.0

pub again_whole : (text start : List ℕ) (rest : List Node) (value : PatternValue)
    → as_read text ≡ value → ReadsAgain text start rest
    → after_nodes rest (bytes_tree (literal_start_of value.tree) ∷ []) ≡ value.tree ∷ []
again_whole text start rest value v r =
    let t = again_tree text start rest value v r in
    ap (λ (u : Tree). after_nodes rest (bytes_tree (literal_start_of u) ∷ [])) t
    ∙ ap (λ (l : List ℕ). after_nodes rest (bytes_tree l ∷ [])) r.1.literal
    ∙ r.1.builds ∙ ap (λ (u : Tree). u ∷ []) (sym t)

pub again_language : (text start : List ℕ) (rest : List Node) (value : PatternValue)
    → as_read text ≡ value → ReadsAgain text start rest → (of : List ℕ)
    → In value.tree of ↔ Follows (literal_start_of value.tree) (rest_tree rest) of
again_language text start rest value v r =
    let t = again_tree text start rest value v r in
    let s = ap literal_start_of t ∙ r.1.literal in
    subst (λ (l : List ℕ). (of : List ℕ) → In value.tree of ↔ Follows l (rest_tree rest) of) (sym s)
    (starts_apart start rest value.tree t r.1)

-- ---- the start is short

byte_counts : (t : Tree) (b : ℕ) → single_byte t ≡ Some b → positions t ≡ 1
byte_counts (tree.Set bytes) b h = refl
byte_counts tree.Nothing b h = cc
byte_counts (tree.Both first second) b h = cc
byte_counts (tree.Either left right) b h = cc
byte_counts (tree.Repeat least most piece) b h = cc

single_counts : (t : Tree) (bytes : List ℕ) → single_bytes t ≡ Some bytes
    → positions t ≡ length bytes
single_counts tree.Nothing bytes h = let e : [] ≡ bytes = cc in let n = ap length e in
    omega (arith, n)
single_counts (tree.Both first second) bytes h =
    let j = joined_parts (single_bytes first) (single_byte second) bytes h in
    let f = single_counts first j.0 j.2 in
    let s = byte_counts second j.1 j.3 in
    let n : length bytes ≡ length j.0 + 1 = ap length j.4 ∙ length-append j.0 (j.1 ∷ []) in
    omega (arith, f, s, n)
single_counts (tree.Set bs) bytes h = cc
single_counts (tree.Either left right) bytes h = cc
single_counts (tree.Repeat least most piece) bytes h = cc

start_counts : (t : Tree) → length (literal_start_of t) ≤ positions t
start_counts (tree.Set bytes) = omega arith
start_counts tree.Nothing = omega arith
start_counts (tree.Both first second) =
    by_bytes (start_joined (single_bytes first) (single_byte second)) refl (start_counts first)
  where
    by_bytes : (o : Option (List ℕ)) → start_joined (single_bytes first) (single_byte second) ≡ o
        → length (literal_start_of first) ≤ positions first
        → length (unwrap_or o (literal_start_of first)) ≤ positions first + positions second
    by_bytes None e h = omega (arith, h)
    by_bytes (Some bytes) e h = let n = single_counts (tree.Both first second) bytes e in
        omega (arith, n)
start_counts (tree.Either left right) = omega arith
start_counts (tree.Repeat least most piece) = omega arith

pub start_short : (text start : List ℕ) (rest : List Node)
    → pattern_of text ≡ Ok (pattern_tree start rest) → IsPattern start rest
    → length start ≤ MOST_POSITIONS
start_short text start rest reads p =
    let most = ((reads_as_grammar text (pattern_tree start rest)).0 reads).1 in
    let n = start_counts (pattern_tree start rest) in
    let same = ap length p.literal in
    omega (arith, most, n, same)

-- ---- text and start in one row

pub kept_in : (bytes text start : List ℕ) (at : ℕ) (alone : Bool) → HoldsBoth bytes text start at
    → IsReadPattern text start alone → IsKept bytes (length text) at (length start) alone
kept_in bytes text start at alone h r = record {
  text_fits = h.text_fits;
  start_fits = h.start_fits;
  reads_so =
      subst (λ (l : List ℕ). IsReadPattern l (take (length start) (drop at bytes)) alone)
      (sym h.text_is)
      (subst (λ (l : List ℕ). IsReadPattern text l alone) (sym h.start_is) r);
}

pub holds_front : (bytes text start : List ℕ) → bytes ≡ text → length start ≤ length text
    → take (length start) text ≡ start → HoldsBoth bytes text start 0
holds_front bytes text start e n f = let m = ap length e in record {
  text_is = take_all (length text) bytes (omega (arith, m)) ∙ e;
  start_is = ap (take (length start)) e ∙ f;
  text_fits = omega (arith, m);
  start_fits = omega (arith, m, n);
  early = omega arith;
}

pub holds_behind : (bytes text start : List ℕ) (at : ℕ) → bytes ≡ text ++ start
    → at ≡ length text → HoldsBoth bytes text start at
holds_behind bytes text start at e a =
    let m = ap length e ∙ length-append text start in
    let f : drop at bytes ≡ start = ap (λ (k : ℕ). drop k bytes) a
    ∙ ap (drop (length text)) e ∙ drop-append_seam text start in
    record {
      text_is = ap (take (length text)) e ∙ take-append_seam text start;
      start_is = ap (take (length start)) f ∙ take-length start;
      text_fits = omega (arith, m);
      start_fits = omega (arith, m, a);
      early = omega (arith, a);
    }

-- where both end
pub behind_place : (bytes text start : List ℕ) → bytes ≡ text ++ start
    → length bytes - length start ≡ length text
behind_place bytes text start e = let m = ap length e ∙ length-append text start in
    omega (arith, m)

pub both_behind : (bytes text start : List ℕ) → bytes ≡ text ++ start
    → HoldsBoth bytes text start (length bytes - length start)
both_behind bytes text start e =
    holds_behind bytes text start (length bytes - length start) e
    (behind_place bytes text start e)

pub kept_there : (bytes text start : List ℕ) (count : ℕ) (behind alone : Bool)
    → count ≡ length start → HoldsBoth bytes text start (start_place bytes (length start) behind)
    → text_end bytes (length start) behind ≡ length text → IsReadPattern text start alone
    → IsKept bytes (text_end bytes count behind) (start_place bytes count behind) count alone
kept_there bytes text start count behind alone n h e r =
    subst (λ (k : ℕ). IsKept bytes (text_end bytes k behind) (start_place bytes k behind) k alone)
    (sym n)
    (subst (λ (k : ℕ). IsKept bytes k (start_place bytes (length start) behind)
    (length start) alone)
    (sym e) (kept_in bytes text start (start_place bytes (length start) behind) alone h r))

pub text_there : (bytes text start : List ℕ) (count : ℕ) (behind : Bool) → count ≡ length start
    → HoldsBoth bytes text start (start_place bytes (length start) behind)
    → text_end bytes (length start) behind ≡ length text
    → take (text_end bytes count behind) bytes ≡ text
text_there bytes text start count behind n h e =
    ap (λ (k : ℕ). take (text_end bytes k behind) bytes) n
    ∙ ap (λ (k : ℕ). take k bytes) e ∙ h.text_is

-- ---- a start that the text begins with

pub begun_kept : (bytes text : List ℕ) (count : ℕ) (alone : Bool) → count ≤ length text
    → bytes ≡ text → IsReadPattern text (take count text) alone
    → IsKept bytes (length bytes) 0 count alone
begun_kept bytes text count alone n e r =
    let m = ap length e in record {
      text_fits = omega arith;
      start_fits = omega (arith, m, n);
      reads_so =
          subst (λ (l : List ℕ). IsReadPattern l (take count bytes) alone)
          (sym (take-length bytes ∙ e))
          (subst (λ (l : List ℕ). IsReadPattern text (take count l) alone) (sym e) r);
    }

pub begun_value : (bytes text : List ℕ) → bytes ≡ text
    → as_read (take (length bytes) bytes) ≡ as_read text
begun_value bytes text e = ap as_read (take-length bytes ∙ e)
