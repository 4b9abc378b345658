-- What the constants of this crate are, in letters and figures.
use Rattle.std.specs.Prelude.{◌≡◌, ◌++◌, codes}
use Rattle.label_base.specs.Spelling.{byte}
use Rattle.tool_words.specs.Rows.{flags, with_value}
use Rattle.tool_words.specs.declared.letters.Form.TheVariants.{Name, Path}
use Rattle.policy_rehearsal.specs.declared.TheConstants.{REHEARSE_TOOL}
use Rattle.policy_rehearsal.specs.declared.letters.TheConstants as letters
use Rattle.policy_rehearsal.specs.declared.texts.TheConstants as texts

pub record ConstantsAreStated : Type 0 where
  -- the name of the tool
  pub rehearse : REHEARSE_TOOL.now ≡ codes "rehearse"
  -- its options
  pub of_rehearse : letters.LETTERS.now
      ≡ flags (codes "2DFIix") ++ with_value Path (codes "e") ++ with_value Name (codes "S")
  -- what each option means
  pub link_counts : letters.LINK_COUNTS ≡ byte "2"
  pub digests : letters.DIGESTS ≡ byte "D"
  pub force : letters.FORCE ≡ byte "F"
  pub ignore_digests : letters.IGNORE_DIGESTS ≡ byte "I"
  pub base : letters.BASE ≡ byte "S"
  pub excluded : letters.EXCLUDED ≡ byte "e"
  pub ignore_absent : letters.IGNORE_ABSENT ≡ byte "i"
  pub one_device : letters.ONE_DEVICE ≡ byte "x"
  -- the most versions of a policy
  pub most_policies : letters.MOST_POLICIES ≡ 8
  -- the line of a version: its number, its name, how many labels changed, how many were skipped
  pub version : texts.VERSION.now ≡ codes "version "
  pub before_name : texts.BEFORE_NAME.now ≡ codes ": "
  pub colon : texts.COLON.now ≡ codes ": "
  pub changed : texts.CHANGED.now ≡ codes " changed, "
  pub skipped : texts.SKIPPED.now ≡ codes " skipped\n"
