-- What the constants of this crate are, in letters and figures.
use Rattle.std.specs.Prelude.{◌≡◌, codes}
use Rattle.label_base.specs.Spelling.{byte}
use Rattle.setfattr_dump.specs.declared.marks.TheConstants as marks

pub record ConstantsAreStated : Type 0 where
  -- the attributes of a label and of a digest
  pub label_key : marks.LABEL_KEY.now ≡ codes "security.selinux"
  pub digest_key : marks.DIGEST_KEY.now ≡ codes "security.sehash"
  -- what begins the line with a name, and what parts a key from its value
  pub file_mark : marks.FILE_MARK.now ≡ codes "# file: "
  pub equals : marks.EQUALS ≡ byte "="
  -- what stands around a text and begins an escape in it, and what begins hexadecimal digits
  pub quote : marks.QUOTE ≡ byte "\""
  pub backslash : marks.BACKSLASH ≡ byte "\\"
  pub zero : marks.ZERO ≡ byte "0"
  -- what is written between the parts of a line
  pub key_end : marks.KEY_END.now ≡ codes "="
  pub quote_mark : marks.QUOTE_MARK.now ≡ codes "\""
  pub quote_escape : marks.QUOTE_ESCAPE.now ≡ codes "\\042"
  pub hex_mark : marks.HEX_MARK.now ≡ codes "0x"
  pub line_end : marks.LINE_END.now ≡ codes "\n"
