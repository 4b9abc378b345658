-- What the constants of this crate are, in letters.
use Rattle.std.specs.Prelude.{◌≡◌, codes}
use Rattle.label_base.specs.Spelling.{byte}
use Rattle.context_syntax.specs.declared.context.TheConstants.{COLON}
use Rattle.context_syntax.specs.declared.label.TheConstants.{NO_LABEL}

pub record ConstantsAreStated : Type 0 where
  -- what parts the parts of a context
  pub colon : COLON ≡ byte ":"
  -- the text of a label that isn't there, beside no text
  pub no_label : NO_LABEL.now ≡ codes "?"
