-- The grammar of a dump of extended attributes, as setfattr(1) reads it with --restore.
use Rattle.std.specs.Prelude.{◌≡◌, ℕ, ◌+◌, ◌<◌, Bool, true, false, List, [], ◌∷◌, ◌++◌, length}
use Rattle.std.specs.Prelude.{Contains, Some, Result, Ok, Err}
use Rattle.hex.specs.Hex.{decode_of}
use Rattle.label_base.specs.Escape.{octal_byte, unescaped}
use Rattle.label_base.specs.LineGrammar.{AreLines}
use Rattle.label_base.specs.Text.{is_nonempty}
use Rattle.file_paths.specs.Path.{Path, path_read}
use Rattle.label_base.specs.declared.lines.RefusedLine.{RefusedLine}
use Rattle.setfattr_dump.specs.declared.dump.Attr.{Attr}
use Rattle.setfattr_dump.specs.declared.dump.Section.{Section}
use Rattle.setfattr_dump.specs.declared.fault.DumpWhy.{DumpWhy}
use Rattle.setfattr_dump.specs.declared.fault.DumpWhy.TheVariants.{NoSection, BadName, NoValue}
use Rattle.setfattr_dump.specs.declared.fault.DumpWhy.TheVariants.{BadValue}
use Rattle.setfattr_dump.specs.declared.marks.TheConstants.{BACKSLASH, EQUALS, FILE_MARK, QUOTE}
use Rattle.setfattr_dump.specs.declared.marks.TheConstants.{ZERO}
use Rattle.setfattr_dump.specs.Reading.{with_slash}
use Rattle.setfattr_dump.specs.Texts.{is_file_line}
use Rattle.setfattr_dump.specs.Values.{is_digits_mark, is_escapable}

-- ---- values

-- what stands between quotes is the text of these bytes
pub data IsText : List ℕ → List ℕ → Type 0 where
  none : IsText [] []
  plain : (b : ℕ) (text value : List ℕ)
      → is_escapable b ≡ false
      → IsText text value
      → IsText (b ∷ text) (b ∷ value)
  itself : (b : ℕ) (text value : List ℕ)
      → is_escapable b ≡ true
      → IsText text value
      → IsText (BACKSLASH ∷ b ∷ text) (b ∷ value)
  octal : (x y z b : ℕ) (text value : List ℕ)
      → is_escapable x ≡ false
      → octal_byte x y z ≡ Some b
      → IsText text value
      → IsText (BACKSLASH ∷ x ∷ y ∷ z ∷ text) (b ∷ value)

-- these are pairs of hexadecimal digits, of either case, and their bytes
abbrev pub AreDigits : List ℕ → List ℕ → Type 0
AreDigits digits value = decode_of digits ≡ Ok value

-- a value is a text between quotes, or pairs of digits behind 0x
pub data IsValue : List ℕ → List ℕ → Type 0 where
  text : (spelled value : List ℕ)
      → IsText spelled value
      → IsValue (QUOTE ∷ (spelled ++ QUOTE ∷ [])) value
  digits : (x : ℕ) (spelled value : List ℕ)
      → is_digits_mark x ≡ true
      → AreDigits spelled value
      → IsValue (ZERO ∷ x ∷ spelled) value

-- ---- lines

-- the line names a file: the mark, and a name with escapes, perhaps without its first slash
pub record IsName (line : List ℕ) (name : Path) : Type 0 where
  pub spelled : List ℕ
  pub bytes : List ℕ
  pub text : line ≡ FILE_MARK.now ++ spelled
  pub stands_for : unescaped spelled ≡ Some bytes
  pub path : path_read (with_slash bytes) ≡ Ok name

-- the line is a key, the first =, and this behind it
pub record HasKey (line key given : List ℕ) : Type 0 where
  pub text : line ≡ key ++ EQUALS ∷ given
  pub some : 0 < length key
  pub no_equals : ¬ Contains key EQUALS

-- the line is an attribute
pub record IsAttr (line : List ℕ) (attr : Attr) : Type 0 where
  pub other : is_file_line line ≡ false
  pub given : List ℕ
  pub key : HasKey line attr.key given
  pub value : IsValue given attr.value

-- ---- all lines

-- the lines are these attributes, each on a line
pub data AreAttrs : List (List ℕ) → List Attr → Type 0 where
  none : AreAttrs [] []
  more : (line : List ℕ) (attr : Attr) (lines : List (List ℕ)) (attrs : List Attr)
      → IsAttr line attr
      → AreAttrs lines attrs
      → AreAttrs (line ∷ lines) (attr ∷ attrs)

-- the lines are these sections: a name, its attributes, and then another name, an empty line or the
-- end
pub data AreSections : List (List ℕ) → List Section → Type 0 where
  none : AreSections [] []
  empty : (lines : List (List ℕ)) (sections : List Section)
      → AreSections lines sections
      → AreSections ([] ∷ lines) sections
  section : (line : List ℕ) (name : Path) (inner : List (List ℕ)) (attrs : List Attr)
      (lines : List (List ℕ)) (sections : List Section)
      → IsName line name
      → AreAttrs inner attrs
      → AreSections lines sections
      → AreSections (line ∷ (inner ++ lines)) (record { name = name; attrs = attrs } ∷ sections)

-- whether a section is open behind lines, which each open or keep one unless they are empty
abbrev pub open_after : Bool → List (List ℕ) → Bool
open_after is_open [] = is_open
open_after is_open (line ∷ lines) = open_after (is_nonempty line) lines

abbrev pub leaves_open : List (List ℕ) → Bool
leaves_open lines = open_after false lines

-- what is amiss with a line, where a section is open or none is
abbrev pub IsBadLine : Bool → List ℕ → DumpWhy → Type 0
IsBadLine is_open line NoSection = (0 < length line) × (is_file_line line ≡ false)
    × (is_open ≡ false)
IsBadLine is_open line BadName =
    (spelled : List ℕ) × (line ≡ FILE_MARK.now ++ spelled) × ((name : Path) → ¬ IsName line name)
IsBadLine is_open line NoValue =
    (0 < length line) × (is_file_line line ≡ false) × (is_open ≡ true)
    × ((key given : List ℕ) → ¬ HasKey line key given)
IsBadLine is_open line BadValue =
    (is_file_line line ≡ false) × (is_open ≡ true)
    × (key : List ℕ) × (given : List ℕ) × HasKey line key given
    × ((value : List ℕ) → ¬ IsValue given value)

-- behind lines that are sections, the one with this number is refused
pub record IsLineRefusedAt (bytes : List ℕ) (number : ℕ) (why : DumpWhy) : Type 0 where
  pub before : List (List ℕ)
  pub line : List ℕ
  pub after : List (List ℕ)
  pub sections : List Section
  pub lines : AreLines bytes (before ++ line ∷ after)
  pub good : AreSections before sections
  pub count : number ≡ length before + 1
  pub bad : IsBadLine (leaves_open before) line why

-- what the bytes mean
abbrev pub DumpMeans : List ℕ → Result (List Section) (RefusedLine DumpWhy) → Type 0
DumpMeans bytes (Ok sections) =
    (lines : List (List ℕ)) × AreLines bytes lines × AreSections lines sections
DumpMeans bytes (Err refused) = IsLineRefusedAt bytes refused.number refused.why
