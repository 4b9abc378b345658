-- The grammar of the lines of a file, whatever its lines say: selabel_file(5) has it for its files.
use Rattle.std.specs.Prelude.{◌≡◌, ⊤, ℕ, ◌+◌, ◌<◌, ◌≤◌, true, false, List, [], ◌∷◌, ◌++◌, length}
use Rattle.std.specs.Prelude.{Contains, Result, Ok, Err}
use Rattle.std.specs.List.{list_all, list_any}
use Rattle.label_base.specs.declared.cut.TheConstants.{LINE_FEED}
use Rattle.label_base.specs.declared.lines.TheConstants.{COMMENT_MARK}
use Rattle.label_base.specs.declared.lines.RefusedLine.{RefusedLine}
use Rattle.label_base.specs.declared.lines.LinesWhy.{LinesWhy}
use Rattle.label_base.specs.declared.lines.LinesWhy.TheVariants.{Refused, TooMany}
use Rattle.label_base.specs.Lines.{is_blank}

-- ---- lines and fields

-- the text is these lines, each ended by a line feed, which the last may lack
pub data AreLines : List ℕ → List (List ℕ) → Type 0 where
  none : AreLines [] []
  last : (line : List ℕ) → 0 < length line → ¬ Contains line LINE_FEED → AreLines line (line ∷ [])
  more : (line rest : List ℕ) (lines : List (List ℕ))
      → ¬ Contains line LINE_FEED
      → AreLines rest lines
      → AreLines (line ++ LINE_FEED ∷ rest) (line ∷ lines)

abbrev pub AreBlanks : List ℕ → Type 0
AreBlanks bytes = list_all is_blank bytes ≡ true

-- some bytes, and no blank
pub record IsField (bytes : List ℕ) : Type 0 where
  pub some : 0 < length bytes
  pub no_blank : list_any is_blank bytes ≡ false

-- the line is these fields, with blanks before, between and behind them
pub data AreFields : List ℕ → List (List ℕ) → Type 0 where
  none : (blanks : List ℕ) → AreBlanks blanks → AreFields blanks []
  last : (blanks field : List ℕ) → AreBlanks blanks → IsField field
      → AreFields (blanks ++ field) (field ∷ [])
  more : (blanks field : List ℕ) (blank : ℕ) (rest : List ℕ) (fields : List (List ℕ))
      → AreBlanks blanks
      → IsField field
      → is_blank blank ≡ true
      → AreFields rest fields
      → AreFields (blanks ++ field ++ blank ∷ rest) (field ∷ fields)

-- ---- what lines say, where a relation tells what the fields of a line mean, and its number

-- a line of these fields says nothing: it is blank, or its first field begins a comment
abbrev pub SayNothing : List (List ℕ) → Type 0
SayNothing [] = ⊤
SayNothing ([] ∷ fields) = ⊥
SayNothing ((b ∷ bs) ∷ fields) = b ≡ COMMENT_MARK

-- the line has fields that mean this
pub record Says {B W : Type 0} (Means : ℕ → List (List ℕ) → Result B W → Type 0) (number : ℕ)
    (line : List ℕ) (meant : Result B W) : Type 0 where
  pub fields : List (List ℕ)
  pub cut : AreFields line fields
  pub something : ¬ SayNothing fields
  pub meaning : Means number fields meant

-- each of these lines, the first of which has this number, says nothing or a value, and these are
-- the values
pub data AreSaid {B W : Type 0} (Means : ℕ → List (List ℕ) → Result B W → Type 0) : ℕ
    → List (List ℕ) → List B → Type 0 where
  none : (number : ℕ) → AreSaid Means number [] []
  nothing : (number : ℕ) (line : List ℕ) (fields : List (List ℕ)) (lines : List (List ℕ))
      (values : List B)
      → AreFields line fields
      → SayNothing fields
      → AreSaid Means (number + 1) lines values
      → AreSaid Means number (line ∷ lines) values
  value : (number : ℕ) (line : List ℕ) (lines : List (List ℕ)) (first : B) (values : List B)
      → Says Means number line (Ok first)
      → AreSaid Means (number + 1) lines values
      → AreSaid Means number (line ∷ lines) (first ∷ values)

-- this line of the text has this number and means this, and the lines before it say these values
pub record LineStandsAt {B W : Type 0} (Means : ℕ → List (List ℕ) → Result B W → Type 0)
    (text : List ℕ)
    (number : ℕ) (values : List B) (meant : Result B W) : Type 0 where
  pub before : List (List ℕ)
  pub line : List ℕ
  pub after : List (List ℕ)
  pub lines : AreLines text (before ++ line ∷ after)
  pub said : AreSaid Means 1 before values
  pub count : number ≡ length before + 1
  pub meaning : Says Means number line meant

-- what the text of a file means
abbrev pub LinesMean : {B W : Type 0} → (ℕ → List (List ℕ) → Result B W → Type 0) → List ℕ
    → Result (List B) (RefusedLine W) → Type 0
LinesMean Means text (Ok values) =
    (lines : List (List ℕ)) × AreLines text lines × AreSaid Means 1 lines values
LinesMean {B = B} Means text (Err refused) =
    (values : List B) × LineStandsAt Means text refused.number values (Err refused.why)

-- the same, where there is room for so many values
abbrev pub LinesMeanWithin : {B W : Type 0} → (ℕ → List (List ℕ) → Result B W → Type 0) → ℕ → List ℕ
    → Result (List B) (LinesWhy W) → Type 0
LinesMeanWithin Means room text (Ok values) =
    LinesMean Means text (Ok values) × (length values ≤ room)
LinesMeanWithin {B = B} Means room text (Err (Refused refused)) =
    (values : List B) × LineStandsAt Means text refused.number values (Err refused.why)
    × (length values ≤ room)
LinesMeanWithin {B = B} Means room text (Err TooMany) =
    (values : List B) × (number : ℕ) × (next : B) × LineStandsAt Means text number values (Ok next)
    × (length values ≡ room)
