-- What the constants of this crate are, in letters.
use Rattle.std.specs.Prelude.{◌≡◌, ◌++◌, codes}
use Rattle.label_base.specs.Spelling.{byte}
use Rattle.tool_words.specs.Rows.{flags, with_value}
use Rattle.tool_words.specs.declared.letters.Form.TheVariants.{Kind, Name}
use Rattle.path_lookups.specs.declared.TheConstants.{MATCHPATHCON}
use Rattle.path_lookups.specs.declared.letters.TheConstants as letters

pub record ConstantsAreStated : Type 0 where
  -- the name of the tool
  pub matchpathcon : MATCHPATHCON.now ≡ codes "matchpathcon"
  -- its options
  pub of_matchpathcon : letters.LETTERS.now
      ≡ flags (codes "2NVn") ++ with_value Name (codes "f") ++ with_value Kind (codes "m")
  -- what each option means
  pub link_counts : letters.LINK_COUNTS ≡ byte "2"
  pub no_translation : letters.NO_TRANSLATION ≡ byte "N"
  pub verify : letters.VERIFY ≡ byte "V"
  pub base : letters.BASE ≡ byte "f"
  pub asked : letters.ASKED ≡ byte "m"
  pub bare : letters.BARE ≡ byte "n"
