-- What the constants of this crate are, in letters and figures.
use Rattle.std.specs.Prelude.{◌≡◌, codes}
use Rattle.label_base.specs.Spelling.{byte}
use Rattle.tool_words.specs.Rows.{with_value}
use Rattle.tool_words.specs.declared.letters.Form.TheVariants.{Name}
use Rattle.home_contexts.specs.declared.TheConstants.{GENHOMEDIRCON}
use Rattle.home_contexts.specs.declared.escape.TheConstants.{BACKSLASH, HYPHEN}
use Rattle.home_contexts.specs.declared.letters.TheConstants as letters
use Rattle.home_contexts.specs.declared.limits.TheConstants.{MOST_SPECS, MOST_TEXT_BYTES}
use Rattle.home_contexts.specs.declared.user.TheConstants.{LEAST_HOME_NAMES}
use Rattle.home_contexts.specs.declared.word.TheConstants as words

pub record ConstantsAreStated : Type 0 where
  -- the name of the tool
  pub genhomedircon : GENHOMEDIRCON.now ≡ codes "genhomedircon"
  -- its options
  pub of_genhomedircon : letters.LETTERS.now ≡ with_value Name (codes "otu")
  -- what each option means
  pub output : letters.OUTPUT ≡ byte "o"
  pub template : letters.TEMPLATE ≡ byte "t"
  pub users : letters.USERS ≡ byte "u"
  -- the words of a template, and the bytes that they begin with
  pub home_root : words.HOME_ROOT.now ≡ codes "HOME_ROOT"
  pub home_dir : words.HOME_DIR.now ≡ codes "HOME_DIR"
  pub role : words.ROLE.now ≡ codes "ROLE"
  pub user : words.USER.now ≡ codes "USER"
  pub home_first : words.HOME_FIRST ≡ byte "H"
  pub role_first : words.ROLE_FIRST ≡ byte "R"
  pub user_first : words.USER_FIRST ≡ byte "U"
  -- what stands before a byte that is marked in a pattern, and a byte that isn't marked
  pub backslash : BACKSLASH ≡ byte "\\"
  pub hyphen : HYPHEN ≡ byte "-"
  -- the fewest names of a home, the most lines that are given, and the most bytes of their text
  pub least_home_names : LEAST_HOME_NAMES ≡ 2
  pub most_specs : MOST_SPECS ≡ 65536
  pub most_text_bytes : MOST_TEXT_BYTES ≡ 67108864
