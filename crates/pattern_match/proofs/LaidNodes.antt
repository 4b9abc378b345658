-- What is laid for trees, behind one node more.
use Rattle.std.proofs.Common.{◌≡◌, sym, ◌∙◌, ap, subst, ℕ, ◌+◌, ◌*◌, ◌%◌, ◌^◌, ◌<◌, ◌≤◌, true}
use Rattle.std.proofs.Common.{false, List, [], ◌∷◌, ◌++◌, length, map, get_or, Option, arith}
use Rattle.std.specs.Prelude.{reverse}
use Rattle.std.proofs.lemmas.List.{reverse-append, take_all}
use Rattle.pattern_syntax.specs.Tree as tree
use Rattle.pattern_syntax.specs.Tree.{Tree, tree_from}
use Rattle.pattern_syntax.specs.Nodes.{after_node, after_nodes, nodes_tree}
use Rattle.pattern_syntax.specs.declared.node.Node.{Node}
use Rattle.pattern_syntax.specs.declared.node.Node.TheVariants.{Nothing, Both, Either, Repeat}
use Rattle.pattern_match.specs.Residuals.{is_some_list, is_count}
use Rattle.pattern_match.specs.Automaton.{Automaton, automaton, both_live, either_automaton}
use Rattle.pattern_match.specs.Automaton.{repeat_places}
use Rattle.pattern_match.specs.Class.{class_bytes}
use Rattle.pattern_match.specs.Segments.{in_word}
use Rattle.pattern_match.specs.Layouts.{IsSegmentOf, AreSegments, IsLaid, Lays, AreLinked}
use Rattle.pattern_match.specs.Layouts.{AreRepeated, copies_of}
use Rattle.pattern_match.specs.declared.class.Class.{Class}
use Rattle.pattern_match.specs.declared.segment.Segment.{Segment}
use Rattle.pattern_match.specs.Skipping.{trees_before}
use Rattle.pattern_match.specs.Whole.{IsWholeSegment}
use Rattle.pattern_match.proofs.Zeros.{one_before}
use Rattle.pattern_match.proofs.Laying.{class_laid, nothing_laid, both_laid, either_laid}
use Rattle.pattern_match.proofs.Laying.{repeat_laid}

pub laid_class : (rows : List ℕ) (classes : List Class) (segments made : List Segment)
    (class : Class) (s : Segment) (trees : List Tree) (new : List ℕ) (others : List Class)
    (start : ℕ) →
    start ≡ length rows → new ≡ rows ++ 0 ∷ [] → others ≡ classes ++ class ∷ [] →
    s ≡ record {
      start = start;
      first = 1 * 2 ^ start % 2 ^ 64;
      last = 1 * 2 ^ start % 2 ^ 64;
      holds_empty = false;
      is_live = true;
    } → made ≡ segments ++ s ∷ [] →
    is_some_list (class_bytes class) ≡ true → length rows < 63 →
    IsLaid rows classes segments (map automaton trees)
    → IsLaid new others made (map automaton (tree.Set (class_bytes class) ∷ trees))
unfolding automaton
laid_class rows classes segments made class s trees new others start n e f g m i few h =
    class_laid rows classes segments made class s (map automaton trees) new others e f
    (subst (λ (k : ℕ). s
    ≡ record {
      start = k;
      first = 1 * 2 ^ k % 2 ^ 64;
      last = 1 * 2 ^ k % 2 ^ 64;
      holds_empty = false;
      is_live = true;
    }) n g) m i few h

pub laid_nothing : (rows : List ℕ) (classes : List Class) (segments made : List Segment)
    (s : Segment) (trees : List Tree) →
    s ≡ record { start = length rows; first = 0; last = 0; holds_empty = true; is_live = true }
    → made ≡ segments ++ s ∷ [] →
    IsLaid rows classes segments (map automaton trees)
    → IsLaid rows classes made (map automaton (after_node Nothing trees))
unfolding automaton
laid_nothing rows classes segments made s trees e m h =
    nothing_laid rows classes segments made s (map automaton trees) e m h

two_laid : (rows : List ℕ) (classes : List Class) (segments middle front : List Segment)
    (one two : Segment) (automata : List Automaton) → segments ≡ middle ++ two ∷ []
    → middle ≡ front ++ one ∷ [] → IsLaid rows classes segments automata
    → AreSegments rows classes (two ∷ one ∷ reverse front) automata (length rows)
two_laid rows classes segments middle front one two automata e f l =
    subst (λ w. AreSegments rows classes w automata (length rows))
    (ap reverse e ∙ reverse-append middle (two ∷ [])
    ∙ ap (λ w. two ∷ w) (ap reverse f ∙ reverse-append front (one ∷ []))) l.segments_are

one_laid : (rows : List ℕ) (classes : List Class) (segments front : List Segment) (one : Segment)
    (automata : List Automaton) → segments ≡ front ++ one ∷ []
    → IsLaid rows classes segments automata → AreSegments rows classes (one ∷ reverse front)
    automata (length rows)
one_laid rows classes segments front one automata e l =
    subst (λ w. AreSegments rows classes w automata (length rows))
    (ap reverse e ∙ reverse-append front (one ∷ [])) l.segments_are

-- the last segment but one ends within the rows
pub first_within : (rows : List ℕ) (classes : List Class) (segments middle front : List Segment)
    (one two : Segment) (automata : List Automaton) → segments ≡ middle ++ two ∷ []
    → middle ≡ front ++ one ∷ [] → IsLaid rows classes segments automata → (p : ℕ)
    → in_word one.last p ≡ true → p < length rows
first_within rows classes segments middle front one two automata e f l =
    at automata (two_laid rows classes segments middle front one two automata e f l)
  where
    at : (automata : List Automaton) → AreSegments rows classes (two ∷ one ∷ reverse front) automata
        (length rows) → (p : ℕ) → in_word one.last p ≡ true → p < length rows
    at [] h p t = absurd h
    at (b ∷ []) h p t = absurd h.2
    at (b ∷ a ∷ others) (q, c, (r, d, m)) p t = let w = (r.within p t).1 in omega arith

pub laid_both : (rows new : List ℕ) (classes : List Class)
    (segments middle front made : List Segment) (one two whole : Segment) (trees : List Tree) →
    segments ≡ middle ++ two ∷ [] → middle ≡ front ++ one ∷ [] → made ≡ front ++ whole ∷ [] →
    one.is_live ≡ true → two.is_live ≡ true →
    AreLinked rows new one.last two.first → length new ≡ length rows → whole.start ≡ one.start →
    ((a b : Automaton) → two.start ≡ one.start + length a.places → IsSegmentOf rows classes one a
    → IsSegmentOf rows classes two b → IsSegmentOf new classes whole (both_live a b)) →
    IsLaid rows classes segments (map automaton trees)
    → IsLaid new classes made (map automaton (after_node Both trees))
unfolding automaton
laid_both rows new classes segments middle front made one two whole [] e f g u v h n m s l =
    absurd (two_laid rows classes segments middle front one two [] e f l)
laid_both rows new classes segments middle front made one two whole (y ∷ []) e f g u v h n m s l =
    absurd (two_laid rows classes segments middle front one two (automaton y ∷ []) e f l).2
laid_both rows new classes segments middle front made one two whole (y ∷ x ∷ trees) e f g u v h n m
    s l = both_laid rows new classes segments middle front made one two whole (automaton x)
    (automaton y) (map automaton trees) e f g u v h n m s l

pub laid_either : (rows : List ℕ) (classes : List Class) (segments middle front made : List Segment)
    (one two whole : Segment) (trees : List Tree) →
    segments ≡ middle ++ two ∷ [] → middle ≡ front ++ one ∷ [] → made ≡ front ++ whole ∷ [] →
    whole.start ≡ one.start →
    ((a b : Automaton) → two.start ≡ one.start + length a.places → IsSegmentOf rows classes one a
    → IsSegmentOf rows classes two b → IsSegmentOf rows classes whole (either_automaton a b)) →
    IsLaid rows classes segments (map automaton trees)
    → IsLaid rows classes made (map automaton (after_node Either trees))
unfolding automaton
laid_either rows classes segments middle front made one two whole [] e f g m s l =
    absurd (two_laid rows classes segments middle front one two [] e f l)
laid_either rows classes segments middle front made one two whole (y ∷ []) e f g m s l =
    absurd (two_laid rows classes segments middle front one two (automaton y ∷ []) e f l).2
laid_either rows classes segments middle front made one two whole (y ∷ x ∷ trees) e f g m s l =
    either_laid rows classes segments middle front made one two whole (automaton x) (automaton y)
    (map automaton trees) e f g m s l

pub laid_repeat : (rows new : List ℕ) (classes others : List Class)
    (segments front made : List Segment) (piece whole : Segment) (places least : ℕ)
    (most : Option ℕ) (trees : List Tree) →
    segments ≡ front ++ piece ∷ [] → made ≡ front ++ whole ∷ [] → length rows ≡ piece.start + places
    →
    0 < places → is_count least most ≡ true → piece.start + copies_of least most * places ≤ 63 →
    AreRepeated rows new classes others piece whole (copies_of least most * places) →
    ((a : Automaton) → places ≡ length a.places → IsSegmentOf rows classes piece a
    → IsSegmentOf new others whole (repeat_places least most a)) →
    IsLaid rows classes segments (map automaton trees)
    → IsLaid new others made (map automaton (after_node (Repeat least most) trees))
unfolding automaton
laid_repeat rows new classes others segments front made piece whole places least most [] e g n some
    count few r s l = absurd (one_laid rows classes segments front piece [] e l)
laid_repeat rows new classes others segments front made piece whole places least most (x ∷ trees) e
    g n some count few r s l = repeat_laid rows new classes others segments front made piece whole
    places least most (automaton x) (map automaton trees) e g n some count few r s l

pub laid_node : (nodes : List Node) (k : ℕ) (d : Node) (rows new : List ℕ)
    (classes others : List Class) (segments made : List Segment) → k < length nodes →
    Lays (get_or nodes k d) rows classes segments new others made →
    IsLaid rows classes segments (map automaton (trees_before nodes k))
    → IsLaid new others made (map automaton (trees_before nodes (k + 1)))
laid_node nodes k d rows new classes others segments made l f h =
    subst (λ ts. IsLaid new others made (map automaton ts)) (sym (one_before nodes k d l))
    (f (trees_before nodes k) h)

pub laid_all : (nodes : List Node) (k : ℕ) (rows : List ℕ) (classes : List Class)
    (segments : List Segment) → length nodes ≤ k →
    IsLaid rows classes segments (map automaton (trees_before nodes k))
    → IsLaid rows classes segments (map automaton (after_nodes nodes []))
laid_all nodes k rows classes segments l h =
    subst (λ (ns : List Node). IsLaid rows classes segments (map automaton (after_nodes ns [])))
    (take_all k nodes l) h

pub laid_none : (rows : List ℕ) (classes : List Class) (segments : List Segment) → rows ≡ []
    → classes ≡ [] → segments ≡ [] → IsLaid rows classes segments []
laid_none rows classes segments e f g =
    let n = ap length e in
    let m = ap length f in
    record {
      few = omega arith;
      even = omega arith;
      segments_are = subst
          (λ w. AreSegments rows classes (reverse w) [] (length rows)) (sym g) tt;
    }

whole_at : (rows : List ℕ) (classes : List Class) (front : List Segment) (whole : Segment)
    (trees : List Tree) → whole.start ≡ 0 → whole.is_live ≡ true → length rows ≤ 63
    → length classes ≡ length rows → AreSegments rows classes (whole ∷ reverse front)
    (map automaton trees) (length rows) → IsWholeSegment rows classes whole (tree_from trees)
whole_at rows classes front whole [] b v few even h = absurd h
whole_at rows classes front whole (t ∷ ts) b v few even h = record {
  begins = b;
  live = v;
  few = few;
  even = even;
  count = let n = h.1 in omega arith;
  stands = h.0;
}

-- the last segment is the whole pattern's, where it begins with the first row
pub whole_laid : (rows : List ℕ) (classes : List Class) (segments front : List Segment)
    (whole : Segment) (nodes : List Node) → segments ≡ front ++ whole ∷ [] → whole.start ≡ 0
    → whole.is_live ≡ true → IsLaid rows classes segments (map automaton (after_nodes nodes []))
    → IsWholeSegment rows classes whole (nodes_tree nodes)
whole_laid rows classes segments front whole nodes e b v h =
    whole_at rows classes front whole (after_nodes nodes []) b v h.few h.even
    (one_laid rows classes segments front whole (map automaton (after_nodes nodes [])) e h)
