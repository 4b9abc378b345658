-- The grammar of the words behind a tool's name, and what they say: the Utility Syntax Guidelines 3
-- to 10 (POSIX, Base Definitions, 12.2), but that options and operands may be mixed.
use Rattle.std.specs.Prelude.{◌≡◌, ◌≢◌, ℕ, ◌+◌, ◌<◌, Bool, false, List, [], ◌∷◌, ◌++◌, length, map}
use Rattle.std.specs.Prelude.{Some, None}
use Rattle.std.specs.List.{AllByRecursion}
use Rattle.tool_words.specs.Items.{Item, flag, is_cluster, item, operand_says, valued, wrong}
use Rattle.tool_words.specs.Tool.{Tool, takes_of}
use Rattle.tool_words.specs.declared.cutting.TheConstants.{DASH, END}
use Rattle.tool_words.specs.declared.item.Says.TheVariants.{Given}
use Rattle.tool_words.specs.declared.letters.Form.{Form}
use Rattle.tool_words.specs.declared.letters.Takes.TheVariants.{Flag as Alone, Value}
use Rattle.tool_words.specs.declared.usage.UsageWhy.TheVariants.{MissingValue, UnknownOption}

-- letters that stand alone, and what they say
abbrev pub AreAlone : Tool → List ℕ → Type 0
AreAlone tool letters = AllByRecursion (λ letter. takes_of tool letter ≡ Some Alone) letters

abbrev pub flag_items : ℕ → List ℕ → List Item
flag_items index letters = map (λ letter. flag letter index) letters

-- the letters behind the dash of a word say this, and expect nothing of the next word: each stands
-- alone, or the last one takes what is behind it, or is refused
pub data AreLetters (tool : Tool) (index : ℕ) : List ℕ → List Item → Type 0 where
  all_alone : (front : List ℕ)
      → AreAlone tool front
      → AreLetters tool index front (flag_items index front)
  with_text : (front : List ℕ) (letter : ℕ) (form : Form) (text : List ℕ)
      → AreAlone tool front
      → takes_of tool letter ≡ Some (Value form)
      → 0 < length text
      → AreLetters tool index (front ++ letter ∷ text)
      (flag_items index front ++ item (Given (valued letter form)) index text ∷ [])
  unknown : (front : List ℕ) (letter : ℕ) (rest : List ℕ)
      → AreAlone tool front
      → takes_of tool letter ≡ None
      → AreLetters tool index (front ++ letter ∷ rest)
      (flag_items index front ++ wrong UnknownOption index ∷ [])

-- operands, the first of which may be the first of all
abbrev pub operands_at : Tool → Bool → ℕ → List (List ℕ) → List Item
operands_at tool first index [] = []
operands_at tool first index (word ∷ words) =
    item (operand_says tool first) index word ∷ operands_at tool false (index + 1) words

-- these words, the first of which has this index, say this, where no operand stands before them or
-- where one does
pub data AreWords (tool : Tool) : Bool → ℕ → List (List ℕ) → List Item → Type 0 where
  none : (first : Bool) (index : ℕ) → AreWords tool first index [] []
  options : (first : Bool) (index letter : ℕ) (letters : List ℕ)
      → (words : List (List ℕ)) (items more : List Item)
      → DASH ∷ letter ∷ letters ≢ END.now
      → AreLetters tool index (letter ∷ letters) items
      → AreWords tool first (index + 1) words more
      → AreWords tool first index ((DASH ∷ letter ∷ letters) ∷ words) (items ++ more)
  value : (first : Bool) (index : ℕ) (front : List ℕ) (letter : ℕ) (form : Form)
      → (text : List ℕ) (words : List (List ℕ)) (more : List Item)
      → DASH ∷ (front ++ letter ∷ []) ≢ END.now
      → AreAlone tool front
      → takes_of tool letter ≡ Some (Value form)
      → AreWords tool first (index + 1 + 1) words more
      → AreWords tool first index ((DASH ∷ (front ++ letter ∷ [])) ∷ text ∷ words)
      (flag_items index front ++ item (Given (valued letter form)) (index + 1) text ∷ more)
  missing : (first : Bool) (index : ℕ) (front : List ℕ) (letter : ℕ) (form : Form)
      → DASH ∷ (front ++ letter ∷ []) ≢ END.now
      → AreAlone tool front
      → takes_of tool letter ≡ Some (Value form)
      → AreWords tool first index ((DASH ∷ (front ++ letter ∷ [])) ∷ [])
      (flag_items index front ++ wrong MissingValue index ∷ [])
  operand : (first : Bool) (index : ℕ) (word : List ℕ) (words : List (List ℕ)) (more : List Item)
      → is_cluster word ≡ false
      → AreWords tool false (index + 1) words more
      → AreWords tool first index (word ∷ words) (item (operand_says tool first) index word ∷ more)
  end : (first : Bool) (index : ℕ) (words : List (List ℕ))
      → AreWords tool first index (END.now ∷ words) (operands_at tool first (index + 1) words)
