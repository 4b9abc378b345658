-- Loops of an automaton, in its tables: states that follow themselves by every byte that texts
-- have.
use Rattle.std.specs.Prelude.{◌≡◌, ℕ, ◌+◌, ◌*◌, ◌<◌, ◌≤◌, true, List, length}
use Rattle.pattern_match.specs.Class.{HasEachByte, takes_at}
use Rattle.pattern_match.specs.States.{bit}
use Rattle.pattern_match.specs.declared.class.Class.{Class}

-- the state follows itself by every byte but 0, in a table with rows of so many words
pub record IsLoop (width : ℕ) (follow : List ℕ) (classes : List Class) (state : ℕ) : Type 0 where
  pub again : bit follow (64 * (state * width) + state) ≡ true
  pub takes : HasEachByte (takes_at classes state)

-- the table has a whole row for each state behind which a text may end
abbrev pub HaveRows : List ℕ → List ℕ → Type 0
HaveRows accept follow =
    (p : ℕ) → bit accept p ≡ true → p * length accept + length accept ≤ length follow

-- the row that starts at a word has the state, a loop behind which a text may end
pub record IsLoopIn (accept follow : List ℕ) (classes : List Class) (start state : ℕ) : Type 0 where
  pub follows : bit follow (64 * start + state) ≡ true
  pub last : bit accept state ≡ true
  pub loops : IsLoop (length accept) follow classes state

-- the row has such a loop
abbrev pub LeadsToLoop : List ℕ → List ℕ → List Class → ℕ → Type 0
LeadsToLoop accept follow classes start =
    (state : ℕ) × IsLoopIn accept follow classes start state

-- the state is marked, a text may end behind it, and it leads to such a loop
pub record EndsBeforeLoop (marks accept follow : List ℕ) (classes : List Class) (state : ℕ)
    : Type 0 where
  pub marked : bit marks state ≡ true
  pub last : bit accept state ≡ true
  pub leads : LeadsToLoop accept follow classes (state * length accept)

-- some marked state does
abbrev pub HasLoop : List ℕ → List ℕ → List ℕ → List Class → Type 0
HasLoop marks accept follow classes =
    (state : ℕ) × EndsBeforeLoop marks accept follow classes state

-- a state of word i passes
abbrev pub SomeInWord : (ℕ → Type 0) → ℕ → Type 0
SomeInWord P i = (j : ℕ) × (j < 64) × P (64 * i + j)

-- the row of a table that starts at a word has the bits of these words
abbrev pub IsRow : List ℕ → List ℕ → ℕ → Type 0
IsRow words table start =
    (k : ℕ) → k < 64 * length words → bit table (64 * start + k) ≡ bit words k

-- the states that follow the state are those that are marked, and it has every byte but 0
pub record IsSteady (marks follow : List ℕ) (classes : List Class) (state : ℕ) : Type 0 where
  pub same : IsRow marks follow (state * length marks)
  pub takes : HasEachByte (takes_at classes state)

-- each marked state is steady
abbrev pub AreSteady : List ℕ → List ℕ → List Class → Type 0
AreSteady marks follow classes =
    (p : ℕ) → bit marks p ≡ true → IsSteady marks follow classes p
