-- What an automaton made ready keeps.
use Rattle.std.specs.Prelude.{◌≡◌, ℕ, ◌+◌, ◌/◌, ◌<◌, Bool, true, false, List, length, refl}
use Rattle.std.specs.Coded.{Coded, code_by, Coded-set, coded_list, coded_ℕ, coded×, coded_bool}
use Rattle.std.specs.Coded.{coded_option, Π_prop}
use Rattle.std.proofs.Math.Bridge.{le_prop}
use mathlib.Core.Bool.{Bool-set}
use Rattle.pattern_syntax.specs.Tree.{Tree}
use Rattle.pattern_match.specs.Automaton.{Place, Automaton, automaton, all_places}
use Rattle.pattern_match.specs.Operations.{AreOperationsOf}
use Rattle.pattern_match.specs.States.{is_bare}
use Rattle.pattern_syntax.specs.Starts.{behind_start}
use Rattle.pattern_match.specs.Tables.{AreTables}
use Rattle.pattern_match.specs.declared.class.Class.{Class}
use Rattle.pattern_match.specs.declared.operation.Operation.{Operation}
use Rattle.pattern_match.specs.declared.readying.PatternTables.{PatternTables}
use Rattle.pattern_match.specs.declared.machine.Machine.TheInside.{Inside}

-- the tables are those of the tree's automaton, or the operations are; one that holds the empty
-- text alone has none
pub record AreTablesReady (tree : Tree) (bare : Bool) (rows width : ℕ) (follow accept : List ℕ)
    (classes : List Class) (operations : List Operation) : Type 0 where
  pub bare_is : bare ≡ is_bare tree
  pub none : bare ≡ true → width ≡ 0
  pub rows_are : bare ≡ false → rows ≡ length (all_places (automaton tree))
  pub wide : bare ≡ false → width ≡ (length (all_places (automaton tree)) + 63) / 64
  pub tables : bare ≡ false → length operations ≡ 0
      → AreTables width follow accept classes (all_places (automaton tree))
  pub over : 0 < length operations → AreOperationsOf operations tree

abbrev pub IsReadyFor : Tree → PatternTables → Type 0
IsReadyFor tree r =
    AreTablesReady tree r.is_bare r.rows r.width r.follow.items r.accept.items r.classes.items
    r.operations.items

all_tables : (width : ℕ) (follow accept : List ℕ) (classes : List Class) (places : List Place)
    → IsProp (AreTables width follow accept classes places)
all_tables width follow accept classes places x y = λ i. record {
  wide = Coded-set coded_ℕ _ _ x.wide y.wide i;
  rows = Coded-set coded_ℕ _ _ x.rows y.rows i;
  accepts = Coded-set coded_ℕ _ _ x.accepts y.accepts i;
  follows = Π_prop (λ p. Π_prop (λ q. Π_prop (λ l. Π_prop (λ m. Bool-set _ _))))
      x.follows y.follows i;
  last = Π_prop (λ p. Π_prop (λ l. Bool-set _ _)) x.last y.last i;
  bytes = Coded-set (coded_list (coded_list coded_ℕ)) _ _ x.bytes y.bytes i;
}

abbrev place_code : Coded Place
place_code = code_by (List ℕ × (Bool × List ℕ))
    (coded× (coded_list coded_ℕ) (coded× coded_bool (coded_list coded_ℕ)))
    (λ p. (p.bytes, (p.is_last, p.next)))
    (λ s. record { bytes = s.0; is_last = s.1.0; next = s.1.1 }) (λ p. refl)

abbrev automaton_code : Coded Automaton
automaton_code = code_by (List Place × (List ℕ × (Bool × Bool)))
    (coded× (coded_list place_code) (coded× (coded_list coded_ℕ) (coded× coded_bool coded_bool)))
    (λ a. (a.places, (a.first, (a.holds_empty, a.is_live))))
    (λ s. record { places = s.0; first = s.1.0; holds_empty = s.1.1.0; is_live = s.1.1.1 })
    (λ a. refl)

all_operations : (operations : List Operation) (tree : Tree)
    → IsProp (AreOperationsOf operations tree)
all_operations operations tree x y = λ i. record {
  spell = Coded-set (coded_list (coded× (coded× coded_ℕ (coded× (coded_list coded_ℕ)
      (coded× coded_ℕ (coded_option coded_ℕ)))) (coded× coded_ℕ (coded× coded_ℕ coded_bool))))
      _ _ x.spell y.spell i;
  same = Coded-set automaton_code _ _ x.same y.same i;
  plain = Bool-set _ _ x.plain y.plain i;
  some = le_prop x.some y.some i;
  few = le_prop x.few y.few i;
}

ready_tables : (tree : Tree) (bare : Bool) (rows width : ℕ) (follow accept : List ℕ)
    (classes : List Class) (operations : List Operation)
    → IsProp (AreTablesReady tree bare rows width follow accept classes operations)
ready_tables tree bare rows width follow accept classes operations x y = λ i. record {
  bare_is = Bool-set _ _ x.bare_is y.bare_is i;
  none = Π_prop (λ e. Coded-set coded_ℕ _ _) x.none y.none i;
  rows_are = Π_prop (λ e. Coded-set coded_ℕ _ _) x.rows_are y.rows_are i;
  wide = Π_prop (λ e. Coded-set coded_ℕ _ _) x.wide y.wide i;
  tables = Π_prop (λ e. Π_prop (λ n. all_tables width follow accept classes
      (all_places (automaton tree)))) x.tables y.tables i;
  over = Π_prop (λ n. all_operations operations tree) x.over y.over i;
}

-- they are those of what stands behind the pattern's literal start
pub record AreTablesOf (tree : Tree) (tables : PatternTables) : Type 0 where
  pub behind : IsReadyFor (behind_start tree) tables

-- it is a fact
pub are_tables : (tree : Tree) (tables : PatternTables) → IsProp (AreTablesOf tree tables)
are_tables tree t x y = λ i. record {
  behind = ready_tables (behind_start tree) t.is_bare t.rows t.width t.follow.items
      t.accept.items t.classes.items t.operations.items x.behind y.behind i;
}

abbrev pub IsCompiled : Inside → Type 0
IsCompiled m = AreTablesOf m.pattern.now.tree m.tables.now
