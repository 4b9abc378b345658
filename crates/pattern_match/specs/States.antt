-- Sets of states, as bits of words, and the texts that they stand for.
use Rattle.std.specs.Prelude.{codes, ◌≡◌, ℕ, ◌+◌, ◌/◌, ◌%◌, ◌≤◌, ◌==◌, ◌&&◌, ◌⊎◌, not, Bool, true}
use Rattle.std.specs.Prelude.{false}
use Rattle.std.specs.Prelude.{List, [], ◌∷◌, ◌++◌, drop, length, Some, slice_get, slice_index}
use Rattle.std.specs.Int.{bit_at}
use Rattle.file_paths.specs.Path.{Path, path_text}
use Rattle.pattern_syntax.specs.Tree.{Tree}
use Rattle.pattern_syntax.specs.Language.{In, Opens}
use Rattle.pattern_syntax.specs.Literal.{literal_start_of}
use Rattle.pattern_match.specs.Residuals.{Residual, all_residuals, is_some_list}
use Rattle.pattern_match.specs.Automaton.{automaton}
use Rattle.pattern_syntax.specs.Starts.{behind_start}

-- bit k % 64 of word k / 64
abbrev pub bit : List ℕ → ℕ → Bool
bit words k = bit_at (slice_index words (k / 64)) (k % 64) == 1

-- so many words that each residual has a bit
abbrev pub width_of : Tree → ℕ
width_of tree = (length (all_residuals tree) + 63) / 64

-- as many words as there have to be, without a bit past the residuals
pub record AreMarks (tree : Tree) (marks : List ℕ) : Type 0 where
  pub words : length marks ≡ width_of tree
  pub none_past : (k : ℕ) → length (all_residuals tree) ≤ k → bit marks k ≡ false

-- the text is in what is left behind a marked state
abbrev pub IsMarked : Tree → List ℕ → List ℕ → Type 0
IsMarked tree marks text =
    (k : ℕ) × (residual : Residual) × (slice_get (all_residuals tree) k ≡ Some residual)
    × (bit marks k ≡ true) × In residual.1 text

-- the pattern holds the empty text alone, so that it needs no marks
abbrev pub is_bare : Tree → Bool
is_bare tree = not (is_some_list (automaton tree).places) && (automaton tree).holds_empty

abbrev pub AreMarksBy : Bool → Tree → List ℕ → Type 0
AreMarksBy true tree marks = length marks ≡ 0
AreMarksBy false tree marks = AreMarks tree marks

abbrev pub IsBehindBy : Bool → Tree → List ℕ → List ℕ → Type 0
IsBehindBy true tree marks text = text ≡ []
IsBehindBy false tree marks text = IsMarked tree marks text

-- the marks are of an automaton of this pattern
abbrev pub AreMarksOf : Tree → List ℕ → Type 0
AreMarksOf tree marks = AreMarksBy (is_bare tree) tree marks

-- the text is in what is left behind the marks
abbrev pub IsBehind : Tree → List ℕ → List ℕ → Type 0
IsBehind tree marks text = IsBehindBy (is_bare tree) tree marks text

-- the marks are those behind a text: what they leave is what completes it
abbrev pub IsRead : Tree → List ℕ → List ℕ → Type 0
IsRead tree marks text =
    (rest : List ℕ) → (IsBehind tree marks rest → In tree (text ++ rest))
    × (In tree (text ++ rest) → IsBehind tree marks rest)

-- how many words of marks a pattern has, which takes none if it is bare
abbrev pub words_by : Bool → Tree → ℕ
words_by true tree = 0
words_by false tree = width_of tree

abbrev pub words_for : Tree → ℕ
words_for tree = words_by (is_bare tree) tree

-- marks, and for how many words of them there is room
pub record Held : Type 0 where
  pub marks : List ℕ
  pub room : ℕ

-- how many bytes of the literal start were read, more than it has where another byte was met; and
-- marks of what stands behind it
pub record Progress : Type 0 where
  pub seen : ℕ
  pub marks : List ℕ

abbrev pub progress : ℕ → List ℕ → Progress
progress seen marks = record { seen = seen; marks = marks }

-- what is known of a text, and for how many words of marks there is room
pub record Working : Type 0 where
  pub known : Progress
  pub room : ℕ

-- there is room for the marks of this pattern
pub record HasRoomFor (tree : Tree) (room : ℕ) : Type 0 where
  pub words : words_for (behind_start tree) ≤ room

-- the states are a matcher's of this pattern
pub record AreStatesOf (tree : Tree) (states : Progress) : Type 0 where
  pub marks : AreMarksOf (behind_start tree) states.marks

-- the text is in what the states leave: what the start still lacks, and then what is left behind
-- the marks
abbrev pub IsLeft : Tree → Progress → List ℕ → Type 0
IsLeft tree states rest =
    (states.seen ≤ length (literal_start_of tree)) × (text : List ℕ)
    × (rest ≡ drop states.seen (literal_start_of tree) ++ text)
    × IsBehind (behind_start tree) states.marks text

-- the states stand for a text: what they leave is what completes the text to one of the language
pub record StandsFor (tree : Tree) (states : Progress) (text : List ℕ) : Type 0 where
  pub onto : (rest : List ℕ) → In tree (text ++ rest) → IsLeft tree states rest
  pub from : (rest : List ℕ) → IsLeft tree states rest → In tree (text ++ rest)

-- the language holds the path or something below it
abbrev pub Below : Tree → Path → Type 0
Below tree [] = Opens tree (codes "/")
Below tree (name ∷ names) =
    In tree (path_text (name ∷ names)) ⊎ Opens tree (path_text (name ∷ names) ++ codes "/")
