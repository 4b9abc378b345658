-- What the constants of this crate are, in letters.
use Rattle.std.specs.Prelude.{◌≡◌, codes}
use Rattle.label_base.specs.Spelling.{byte}
use Rattle.tool_words.specs.declared.cutting.TheConstants.{DASH, END}

pub record ConstantsAreStated : Type 0 where
  -- what begins a word of option letters
  pub dash : DASH ≡ byte "-"
  -- the word that ends the options
  pub end : END.now ≡ codes "--"
