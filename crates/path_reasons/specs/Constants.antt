-- What the constants of this crate are, in letters.
use Rattle.std.specs.Prelude.{◌≡◌, ◌++◌, codes, map}
use Rattle.label_base.specs.Spelling.{byte}
use Rattle.tool_words.specs.Rows.{flags, with_value}
use Rattle.tool_words.specs.declared.letters.Form.TheVariants.{Kind, Name}
use Rattle.path_reasons.specs.Kinds.{kind_letter}
use Rattle.path_reasons.specs.declared.TheConstants.{EXPLAIN}
use Rattle.path_reasons.specs.declared.letters.TheConstants as letters
use Rattle.path_reasons.specs.declared.naming.TheConstants.{TOLD_KINDS}
use Rattle.path_reasons.specs.declared.texts.TheConstants as texts
use Rattle.path_reasons.specs.declared.words.TheConstants as words

pub record ConstantsAreStated : Type 0 where
  -- the name of the tool
  pub explain : EXPLAIN.now ≡ codes "explain"
  -- its options
  pub of_explain : letters.LETTERS.now
      ≡ flags (codes "q") ++ with_value Name (codes "S") ++ with_value Kind (codes "m")
  -- what each option means
  pub base : letters.BASE ≡ byte "S"
  pub asked : letters.ASKED ≡ byte "m"
  pub brief : letters.BRIEF ≡ byte "q"
  -- the file of specifications in a folder
  pub file_contexts : words.FILE_CONTEXTS.now ≡ codes "file_contexts"
  pub slash : words.SLASH ≡ byte "/"
  -- the kinds that are reported, by their letters
  pub told_kinds : map kind_letter TOLD_KINDS ≡ codes "bcdflps"
  -- the texts of the lines
  pub blank : texts.BLANK.now ≡ codes " "
  pub colon : texts.COLON.now ≡ codes ":"
  pub mark : texts.MARK.now ≡ codes ": "
  pub line_feed : texts.LINE_FEED.now ≡ codes "\n"
  pub none : texts.NONE.now ≡ codes "none"
  pub substituted : texts.SUBSTITUTED.now ≡ codes "  substituted by "
  pub looked_up : texts.LOOKED_UP.now ≡ codes "  looked up as "
  pub decided : texts.DECIDED.now ≡ codes "  decided by "
  pub other_kind : texts.OTHER_KIND.now ≡ codes "  loses, of another kind: "
  pub pattern : texts.PATTERN.now ≡ codes "  loses to an exact line: "
  pub earlier : texts.EARLIER.now ≡ codes "  loses, earlier: "
