-- What the constants of this crate are, in letters and figures.
use Rattle.std.specs.Prelude.{◌≡◌, ◌∷◌, []}
use Rattle.label_base.specs.Spelling.{byte}
use Rattle.label_base.specs.declared.cut.TheConstants.{BLANK, LINE_FEED, TAB}
use Rattle.label_base.specs.declared.escape.TheConstants.{BACKSLASH, DEL}
use Rattle.label_base.specs.declared.kind.EntryKind.TheVariants.{Regular, Directory, Link, Pipe}
use Rattle.label_base.specs.declared.kind.EntryKind.TheVariants.{Socket, Block, Char, Other}
use Rattle.label_base.specs.declared.kind.TheConstants.{KINDS}
use Rattle.label_base.specs.declared.lines.TheConstants.{COMMENT_MARK}

pub record ConstantsAreStated : Type 0 where
  -- what ends a line, what parts its fields, and what begins a comment
  pub line_feed : LINE_FEED ≡ byte "\n"
  pub blank : BLANK ≡ byte " "
  pub tab : TAB ≡ byte "\t"
  pub comment_mark : COMMENT_MARK ≡ byte "#"
  -- what begins an escape, and the control byte above the others
  pub backslash : BACKSLASH ≡ byte "\\"
  pub del : DEL ≡ 127
  -- all kinds of entries
  pub kinds : KINDS
      ≡ Regular ∷ Directory ∷ Link ∷ Pipe ∷ Socket ∷ Block ∷ Char ∷ Other ∷ []
