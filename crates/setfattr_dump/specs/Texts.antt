-- The text of a dump, as getfattr(1) writes it, and what can be written so.
use Rattle.std.specs.Prelude.{ℕ, Bool, ◌&&◌, ◌==◌, nat_eq, nat_le, not, List, ◌++◌, length}
use Rattle.std.specs.List.{flat_map, list_all, list_any, starts_with}
use Rattle.label_base.specs.Escape.{escaped}
use Rattle.label_base.specs.Text.{is_nonempty}
use Rattle.file_paths.specs.Path.{Path, is_dot_part, path_text}
use Rattle.label_base.specs.declared.cut.TheConstants.{LINE_FEED}
use Rattle.file_paths.specs.declared.path.TheConstants.{MOST_PATH_BYTES}
use Rattle.setfattr_dump.specs.declared.dump.Attr.{Attr}
use Rattle.setfattr_dump.specs.declared.dump.Section.{Section}
use Rattle.setfattr_dump.specs.declared.marks.TheConstants.{EQUALS, FILE_MARK, KEY_END, LINE_END}
use Rattle.setfattr_dump.specs.Values.{value_text}

-- the line that names a file
abbrev pub name_line : Path → List ℕ
name_line name = FILE_MARK.now ++ escaped (path_text name) ++ LINE_END.now

-- the line of an attribute
abbrev pub attr_line : List ℕ → List ℕ → List ℕ
attr_line key value = key ++ KEY_END.now ++ value_text key value ++ LINE_END.now

-- the lines of attributes
unfoldable pub attrs_text : List Attr → List ℕ
attrs_text attrs = flat_map (λ attr. attr_line attr.key attr.value) attrs

-- a section: its name, its attributes, an empty line
abbrev pub section_text : Section → List ℕ
section_text section = name_line section.name ++ attrs_text section.attrs ++ LINE_END.now

unfoldable pub dump_text : List Section → List ℕ
dump_text sections = flat_map section_text sections

-- ---- what can be written

-- a line begins as one that names a file
unfoldable pub is_file_line : List ℕ → Bool
is_file_line line = starts_with nat_eq line FILE_MARK.now

-- a key isn't empty, has no = and no line feed, and doesn't begin as a line that names a file
abbrev pub is_key : List ℕ → Bool
is_key key =
    is_nonempty key
    && not (list_any (λ b. b == EQUALS) key)
    && not (list_any (λ b. b == LINE_FEED) key)
    && not (is_file_line key)

-- a name isn't too long to be read, and has no component . or ..
abbrev pub is_readable : Path → Bool
is_readable name =
    nat_le (length (path_text name)) MOST_PATH_BYTES && not (list_any is_dot_part name)

abbrev pub is_writable : Section → Bool
is_writable section = is_readable section.name && list_all (λ attr. is_key attr.key) section.attrs

abbrev pub are_writable : List Section → Bool
are_writable sections = list_all is_writable sections
