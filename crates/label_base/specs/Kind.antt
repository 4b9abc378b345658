-- Kinds of entries, and what names them.
use Rattle.std.specs.Prelude.{ℕ, Bool, true, false, ◌==◌, ◌&&◌, codes, List, [], slice_get, Option}
use Rattle.std.specs.Prelude.{Some, None}
use Rattle.std.specs.List.{find, list_any}
use Rattle.label_base.specs.Text.{is_nonempty, same_bytes}
use Rattle.label_base.specs.declared.kind.EntryKind.{EntryKind}
use Rattle.label_base.specs.declared.kind.EntryKind.TheVariants.{Regular, Directory, Link, Pipe}
use Rattle.label_base.specs.declared.kind.EntryKind.TheVariants.{Socket, Block, Char, Other}
use Rattle.label_base.specs.declared.kind.Asked.{Asked}
use Rattle.label_base.specs.declared.kind.Asked.TheVariants.{Any, Of}
use Rattle.label_base.specs.declared.kind.TheConstants.{KINDS}

abbrev pub kind_number : EntryKind → ℕ
kind_number Regular = 0
kind_number Directory = 1
kind_number Link = 2
kind_number Pipe = 3
kind_number Socket = 4
kind_number Block = 5
kind_number Char = 6
kind_number Other = 7

abbrev pub same_kind : EntryKind → EntryKind → Bool
same_kind a b = kind_number a == kind_number b

abbrev pub applies : Option EntryKind → Asked → Bool
applies None asked = true
applies (Some k) Any = true
applies (Some k) (Of j) = same_kind k j

-- ---- the table

-- what names a kind; no bytes where it has no such name
pub record Names : Type 0 where
  -- the letters that find(1) prints by %y
  pub letters : List ℕ
  -- the type field of selabel_file(5)
  pub type_field : List ℕ
  -- the name that matchpathcon(8) takes by -m
  pub class_name : List ℕ

abbrev pub kind_names : List ℕ → List ℕ → List ℕ → Names
kind_names letters type_field class_name =
    record { letters = letters; type_field = type_field; class_name = class_name }

-- a door (D) and a kind that could not be told (U) have letters alone
abbrev pub names_of : EntryKind → Names
names_of Regular = kind_names (codes "f") (codes "--") (codes "file")
names_of Directory = kind_names (codes "d") (codes "-d") (codes "dir")
names_of Link = kind_names (codes "l") (codes "-l") (codes "lnk_file")
names_of Pipe = kind_names (codes "p") (codes "-p") (codes "pipe")
names_of Socket = kind_names (codes "s") (codes "-s") (codes "sock_file")
names_of Block = kind_names (codes "b") (codes "-b") (codes "blk_file")
names_of Char = kind_names (codes "c") (codes "-c") (codes "chr_file")
names_of Other = kind_names (codes "DU") [] []

-- whether it has more names than letters
abbrev pub has_names : EntryKind → Bool
has_names Other = false
has_names kind = true

abbrev pub has_letter : ℕ → EntryKind → Bool
has_letter letter kind = list_any (λ b. b == letter) (names_of kind).letters

-- whether there is a name, and it is this text
abbrev pub is_kind_name : (name text : List ℕ) → Bool
is_kind_name name text = is_nonempty name && same_bytes name text

-- the kinds that a letter, a type field, a class name and a number tell
abbrev pub letter_kind : ℕ → Option EntryKind
letter_kind letter = find (has_letter letter) KINDS

abbrev pub field_kind : List ℕ → Option EntryKind
field_kind text = find (λ kind. is_kind_name (names_of kind).type_field text) KINDS

abbrev pub class_kind : List ℕ → Option EntryKind
class_kind text = find (λ kind. is_kind_name (names_of kind).class_name text) KINDS

abbrev pub numbered_kind : ℕ → Option EntryKind
numbered_kind number = slice_get KINDS number
