-- What is wrong with words that are refused, and where it stands in them.
use Rattle.std.specs.Prelude.{◌≡◌, ◌≢◌, ◌⊎◌, ℕ, ◌+◌, ◌<◌, List, [], ◌∷◌, ◌++◌, length, Some, None}
use Rattle.std.specs.Prelude.{Ok, slice_get}
use Rattle.std.specs.List.{AllByRecursion}
use Rattle.label_base.specs.Kind.{class_kind}
use Rattle.label_base.specs.Number.{number_of}
use Rattle.file_paths.specs.Path.{Path, path_read}
use Rattle.tool_words.specs.Grammar.{AreAlone}
use Rattle.tool_words.specs.Items.{Item, items_of}
use Rattle.tool_words.specs.Tool.{Tool, takes_of}
use Rattle.tool_words.specs.Values.{item_wrong}
use Rattle.tool_words.specs.declared.cutting.TheConstants.{DASH}
use Rattle.tool_words.specs.declared.item.Says.{Says}
use Rattle.tool_words.specs.declared.item.Says.TheVariants.{Flag, Given, Operand, Wrong}
use Rattle.tool_words.specs.declared.letters.Form.{Form}
use Rattle.tool_words.specs.declared.letters.Form.TheVariants.{Number, Path as OfPath, Name, Kind}
use Rattle.tool_words.specs.declared.letters.Others.TheVariants.{Refused}
use Rattle.tool_words.specs.declared.letters.Takes.TheVariants.{Flag as Alone, Value}
use Rattle.tool_words.specs.declared.letters.Valued.{Valued}
use Rattle.tool_words.specs.declared.usage.Usage.{Usage}
use Rattle.tool_words.specs.declared.usage.UsageWhy.{UsageWhy}
use Rattle.tool_words.specs.declared.usage.UsageWhy.TheVariants.{BadKind, BadNumber, BadPath}
use Rattle.tool_words.specs.declared.usage.UsageWhy.TheVariants.{MissingValue, UnknownOption}

-- ---- where it stands

-- a word is a dash, letters that stand alone, this letter, and this behind it
pub record HasLetter (tool : Tool) (word : List ℕ) (letter : ℕ) (rest : List ℕ) : Type 0 where
  pub front : List ℕ
  pub is : word ≡ DASH ∷ (front ++ letter ∷ rest)
  pub alone : AreAlone tool front

-- an option takes a value of this form
abbrev pub IsOption : Tool → Valued → Type 0
IsOption tool v = takes_of tool v.letter ≡ Some (Value v.form)

-- a value stands behind its letter, or is the whole word: that behind a word with its letter, or
-- the first operand
abbrev pub HasValue : Tool → List ℕ → Valued → List ℕ → Type 0
HasValue tool word v text =
    (HasLetter tool word v.letter text × IsOption tool v)
    ⊎ ((word ≡ text) × (IsOption tool v ⊎ (tool.first ≡ Some v)))

-- a letter of the word, which is the last one where so few words are before it, is wrong for this
abbrev pub HasWrongLetter : Tool → (place count : ℕ) → List ℕ → UsageWhy → Type 0
HasWrongLetter tool place count word UnknownOption =
    (letter : ℕ) × (rest : List ℕ) × HasLetter tool word letter rest
    × (takes_of tool letter ≡ None)
HasWrongLetter tool place count word MissingValue =
    (v : Valued) × HasLetter tool word v.letter [] × IsOption tool v × (place + 1 ≡ count)
HasWrongLetter tool place count word why = ⊥

-- a word, behind so many of so many, says this with this text; a wrong operand is the whole word
abbrev pub StandsIn : Tool → (place count : ℕ) → List ℕ → Says → List ℕ → Type 0
StandsIn tool place count word (Flag letter) text =
    (rest : List ℕ) × HasLetter tool word letter rest × (takes_of tool letter ≡ Some Alone)
StandsIn tool place count word (Given v) text = HasValue tool word v text
StandsIn tool place count word Operand text = word ≡ text
StandsIn tool place count word (Wrong why) text =
    HasWrongLetter tool place count word why ⊎ ((tool.others ≡ Refused why) × (word ≡ text))

-- it stands in the word that has its index, where the first word has this one
pub record IsThere (tool : Tool) (index : ℕ) (words : List (List ℕ)) (item : Item) : Type 0 where
  pub place : ℕ
  pub is : item.index ≡ index + place
  pub word : List ℕ
  pub found : slice_get words place ≡ Some word
  pub stands : StandsIn tool place (length words) word item.says item.text

-- ---- what is wrong

-- no text of a path
abbrev pub IsNoPath : List ℕ → Type 0
IsNoPath text = (path : Path) → path_read text ≢ Ok path

-- no number up to this one
abbrev pub IsPast : ℕ → List ℕ → Type 0
IsPast most text = (n : ℕ) → number_of text ≡ Some n → most < n

-- this is wrong with a value of this form
abbrev pub IsBadValue : Form → List ℕ → UsageWhy → Type 0
IsBadValue (Number most) text BadNumber = IsPast most text
IsBadValue OfPath text BadPath = IsNoPath text
IsBadValue Name text BadPath = text ≡ []
IsBadValue Kind text BadKind = class_kind text ≡ None
IsBadValue form text why = ⊥

-- this is wrong with it
abbrev pub IsBadUsage : Says → List ℕ → UsageWhy → Type 0
IsBadUsage (Given v) text why = IsBadValue v.form text why
IsBadUsage Operand text BadPath = IsNoPath text
IsBadUsage (Wrong why) text other = why ≡ other
IsBadUsage says text why = ⊥

abbrev pub AreGoodItems : List Item → Type 0
AreGoodItems items = AllByRecursion (λ item. item_wrong item ≡ None) items

-- this is the first wrong thing that the words say
pub record HasWrong (tool : Tool) (index : ℕ) (words : List (List ℕ)) (wrong : Usage) : Type 0 where
  pub front : List Item
  pub item : Item
  pub rest : List Item
  pub cut : items_of tool index words ≡ front ++ item ∷ rest
  pub before : AreGoodItems front
  pub here : item.index ≡ wrong.index
  pub there : IsThere tool index words item
  pub bad : IsBadUsage item.says item.text wrong.why
