-- What is owed so that what was written is read back.
use Rattle.std.specs.Prelude.{◌≡◌, true, Some, Ok}
use Rattle.std.specs.List.{AllByRecursion}
use Rattle.label_base.specs.Escape.{escaped, unescaped}
use Rattle.file_paths.specs.Path.{Path, path_read, path_text}
use Rattle.setfattr_dump.specs.declared.dump.Attr.{Attr}
use Rattle.setfattr_dump.specs.declared.dump.Section.{Section}
use Rattle.setfattr_dump.specs.Grammar.{IsValue}
use Rattle.setfattr_dump.specs.Texts.{is_readable}
use Rattle.setfattr_dump.specs.Values.{value_text}

-- the text of a name stands for itself and is this path
pub record NameReads (name : Path) : Type 0 where
  pub stands_for : unescaped (escaped (path_text name)) ≡ Some (path_text name)
  pub path : path_read (path_text name) ≡ Ok name

-- the value of an attribute stands for itself
abbrev pub AttrReads : Attr → Type 0
AttrReads attr = IsValue (value_text attr.key attr.value) attr.value

pub record SectionReads (section : Section) : Type 0 where
  pub name : is_readable section.name ≡ true → NameReads section.name
  pub attrs : AllByRecursion AttrReads section.attrs
