-- What is read so far of the lines of a dump.
use Rattle.std.specs.Prelude.{◌≡◌, ◌++◌, ◌∷◌, [], List, Option, Some, None, Result, Ok, Err}
use Rattle.file_paths.specs.Path.{Path}
use Rattle.setfattr_dump.specs.declared.dump.Attr.{Attr}
use Rattle.setfattr_dump.specs.declared.dump.Section.{Section}
use Rattle.setfattr_dump.specs.declared.fault.DumpWhy.{DumpWhy}
use Rattle.setfattr_dump.specs.declared.line.Said.{Said}
use Rattle.setfattr_dump.specs.declared.line.Said.TheVariants.{Ends, Names, Gives}
use Rattle.setfattr_dump.specs.declared.reading.SectionsSoFar.{SectionsSoFar}
use Rattle.setfattr_dump.specs.Reading.{open_section}

-- these sections are closed, and the one that is open, if one is, has this name and these
-- attributes
pub record IsState
    (s : SectionsSoFar) (sections : List Section) (name : Option Path)
    (attrs : List Attr) : Type 0 where
  pub sections_are : s.sections ≡ sections
  pub name_is : s.name ≡ name
  pub attrs_are : s.attrs ≡ attrs

-- what a line that says this leaves
abbrev pub TakesSaid : Result Said DumpWhy → SectionsSoFar → SectionsSoFar → Type 0
TakesSaid (Err why) old new = ⊥
TakesSaid (Ok Ends) old new = IsState new (old.sections ++ open_section old.name old.attrs) None []
TakesSaid (Ok (Names name)) old new =
    IsState new (old.sections ++ open_section old.name old.attrs) (Some name) []
TakesSaid (Ok (Gives attr)) old new = IsState new old.sections old.name (old.attrs ++ attr ∷ [])
