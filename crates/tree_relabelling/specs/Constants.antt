-- What the constants of this crate are, in letters and figures.
use Rattle.std.specs.Prelude.{◌≡◌, ◌++◌, codes}
use Rattle.label_base.specs.Spelling.{byte}
use Rattle.tool_words.specs.Rows.{flags, with_value}
use Rattle.tool_words.specs.declared.letters.Form.TheVariants.{Name, Number, Path}
use Rattle.tree_relabelling.specs.declared.TheConstants.{RESTORECON, SETFILES}
use Rattle.tree_relabelling.specs.declared.letters.TheConstants as letters
use Rattle.tree_relabelling.specs.declared.words.TheConstants.{DEFAULT_WORKERS}

pub record ConstantsAreStated : Type 0 where
  -- the names of the tools
  pub setfiles : SETFILES.now ≡ codes "setfiles"
  pub restorecon : RESTORECON.now ≡ codes "restorecon"
  -- their options
  pub of_setfiles : letters.SETFILES_LETTERS.now
      ≡ flags (codes "2CDEFIWinvx") ++ with_value Name (codes "K")
      ++ with_value (Number 64) (codes "T") ++ with_value Path (codes "e")
      ++ with_value Name (codes "o")
  pub of_restorecon : letters.RESTORECON_LETTERS.now
      ≡ flags (codes "2CDEFIWinvxRr") ++ with_value Name (codes "K")
      ++ with_value (Number 64) (codes "T") ++ with_value Path (codes "e")
      ++ with_value Name (codes "oS")
  -- what each option means
  pub link_counts : letters.LINK_COUNTS ≡ byte "2"
  pub soft_errors : letters.SOFT_ERRORS ≡ byte "C"
  pub digests : letters.DIGESTS ≡ byte "D"
  pub strict_links : letters.STRICT_LINKS ≡ byte "E"
  pub force : letters.FORCE ≡ byte "F"
  pub ignore_digests : letters.IGNORE_DIGESTS ≡ byte "I"
  pub stored : letters.STORED ≡ byte "K"
  pub recurse : letters.RECURSE ≡ byte "R"
  pub base : letters.BASE ≡ byte "S"
  pub workers : letters.WORKERS ≡ byte "T"
  pub warn_unmatched : letters.WARN_UNMATCHED ≡ byte "W"
  pub excluded : letters.EXCLUDED ≡ byte "e"
  pub ignore_absent : letters.IGNORE_ABSENT ≡ byte "i"
  pub dry : letters.DRY ≡ byte "n"
  pub output : letters.OUTPUT ≡ byte "o"
  pub recurse_too : letters.RECURSE_TOO ≡ byte "r"
  pub verbose : letters.VERBOSE ≡ byte "v"
  pub one_device : letters.ONE_DEVICE ≡ byte "x"
  -- the most workers that can be asked for, and how many there are where none are
  pub most_workers : letters.MOST_WORKERS ≡ 64
  pub default_workers : DEFAULT_WORKERS ≡ 1
