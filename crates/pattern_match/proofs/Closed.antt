-- The tables of a whole pattern that was laid.
use Rattle.std.proofs.Common.{◌≡◌, refl, sym, ◌∙◌, ap, subst, ℕ, ◌+◌, ◌<◌, ◌==◌, Bool, true, false}
use Rattle.std.proofs.Common.{List, [], ◌∷◌, ◌++◌, length, map, arith, length-append}
use Rattle.std.specs.Prelude.{◌||◌, ◌&&◌, not}
use Rattle.pattern_syntax.specs.Tree.{Tree}
use Rattle.pattern_match.specs.Residuals.{is_some_list}
use Rattle.pattern_match.specs.Automaton.{Place, Automaton, automaton, all_places}
use Rattle.pattern_match.specs.Class.{class_bytes}
use Rattle.pattern_match.specs.Compiled.{AreTablesReady, IsReadyFor}
use Rattle.pattern_match.specs.Operations.{AreOperationsOf}
use Rattle.pattern_match.specs.States.{is_bare}
use Rattle.pattern_match.specs.Segments.{in_word, IsSegment}
use Rattle.pattern_match.specs.Whole.{IsWholeSegment}
use Rattle.pattern_match.specs.Tables.{AreTables}
use Rattle.pattern_match.specs.declared.class.Class.{Class}
use Rattle.pattern_match.specs.declared.class.Class.TheVariants as class
use Rattle.pattern_match.specs.declared.operation.Operation.{Operation}
use Rattle.pattern_match.specs.declared.readying.PatternTables.{PatternTables}
use Rattle.pattern_match.specs.declared.segment.Segment.{Segment}
use Rattle.pattern_match.proofs.Closing.{closed_tables}

bare_by : (places : List Place) (stops : Bool) (n : ℕ) → n ≡ length places
    → ((n == 0) && stops) ≡ (not (is_some_list places) && stops)
bare_by [] stops n e = let z : (n == 0) ≡ true = grind arith in rw z refl
bare_by (p ∷ ps) stops n e = let z : (n == 0) ≡ false = grind arith in rw z refl

bare_whole : (rows : List ℕ) (classes : List Class) (whole : Segment) (tree : Tree) (n : ℕ)
    → n ≡ length rows → IsWholeSegment rows classes whole tree → ((n == 0) && whole.holds_empty)
    ≡ is_bare tree
bare_whole rows classes whole tree n e w = ap (λ v. (n == 0) && v) w.stands.empty
    ∙ bare_by (automaton tree).places (automaton tree).holds_empty n (e ∙ w.count)

none_over : (operations : List Operation) (tree : Tree) → operations ≡ [] → 0 < length operations
    → AreOperationsOf operations tree
none_over [] tree e l = absurd (omega arith)
none_over (o ∷ os) tree e l = cc

pub bare_ready : (rows : List ℕ) (classes : List Class) (whole : Segment) (tree : Tree) (n : ℕ)
    (r : PatternTables) → n ≡ length rows → r.is_bare ≡ true → r.width ≡ 0
    → r.operations.items ≡ [] → ((n == 0) && whole.holds_empty)
    ≡ true → IsWholeSegment rows classes whole tree → IsReadyFor tree r
bare_ready rows classes whole tree n r e b z o h w = record {
  bare_is = b ∙ sym h ∙ bare_whole rows classes whole tree n e w;
  none = λ t. z;
  rows_are = λ t. let c : true ≡ false = sym b ∙ t in cc;
  wide = λ t. let c : true ≡ false = sym b ∙ t in cc;
  tables = λ t. let c : true ≡ false = sym b ∙ t in cc;
  over = none_over r.operations.items tree o;
}

one_longer : (a : Automaton) (n : ℕ) → a.is_live ≡ true → n ≡ length a.places
    → n + 1 ≡ length (all_places a)
one_longer a n v e =
    rw v (sym (length-append a.places
    (record { bytes = 0 ∷ []; is_last = a.holds_empty; next = a.first } ∷ []) ∙ omega arith))

pub closed_ready : (rows follow accept : List ℕ) (classes all : List Class) (whole : Segment)
    (tree : Tree) (n last : ℕ) (operations : List Operation) → operations ≡ [] → n ≡ length rows →
    follow ≡ rows ++ whole.first ∷ [] → all ≡ classes ++ class.Byte 0 ∷ [] → accept ≡ last ∷ [] →
    ((j : ℕ) → j < 64 → in_word last j ≡ (in_word whole.last j || (whole.holds_empty && (j == n))))
    →
    ((n == 0) && whole.holds_empty) ≡ false → IsWholeSegment rows classes whole tree
    → AreTablesReady tree false (n + 1) 1 follow accept all operations
closed_ready rows follow accept classes all whole tree n last operations o e f g h b z w = record {
  bare_is = sym z ∙ bare_whole rows classes whole tree n e w;
  none = λ t. cc;
  rows_are = λ t. one_longer (automaton tree) n (sym w.stands.live ∙ w.live) (e ∙ w.count);
  wide = λ t. tables_are.wide;
  tables = λ t m. tables_are;
  over = none_over operations tree o;
}
  where
    tables_are : AreTables 1 follow accept all (all_places (automaton tree))
    tables_are = rw (f, g, h)
        (closed_tables rows classes whole.first whole.last last whole.holds_empty whole.is_live
        (automaton tree)
        (subst (λ i. IsSegment rows (map class_bytes classes) i whole.first whole.last
        whole.holds_empty whole.is_live (automaton tree)) w.begins w.stands)
        w.count w.even w.few
        (λ j l. b j l ∙ ap (λ i. in_word whole.last j || (whole.holds_empty && (j == i))) e)
        (sym w.stands.live ∙ w.live))
