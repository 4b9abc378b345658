-- What the constants of this crate are, in letters: the texts of a report's lines.
use Rattle.std.specs.Prelude.{◌≡◌, codes}
use Rattle.report_text.specs.declared.words.TheConstants as texts

pub record ConstantsAreStated : Type 0 where
  -- a label is to change, or is kept as customized
  pub relabeled : texts.RELABELED.now ≡ codes "Relabeled "
  pub would_relabel : texts.WOULD_RELABEL.now ≡ codes "Would relabel "
  pub from : texts.FROM.now ≡ codes " from "
  pub to : texts.TO.now ≡ codes " to "
  pub no_label : texts.NO_LABEL.now ≡ codes "<no context>"
  pub not_reset : texts.NOT_RESET.now ≡ codes " not reset as customized by admin to "
  -- two names of one inode, the first of which decides
  pub conflicting : texts.CONFLICTING.now ≡ codes "conflicting specifications for "
  pub and : texts.AND.now ≡ codes " and "
  pub using_context : texts.USING.now ≡ codes ", using "
  pub full_stop : texts.FULL_STOP.now ≡ codes "."
  -- nothing is decided, a directory is skipped, an operand has no entry
  pub no_default : texts.NO_DEFAULT.now ≡ codes "Warning no default label for "
  pub skipping : texts.SKIPPING.now ≡ codes "Skipping restorecon on directory("
  pub no_record_for : texts.NO_RECORD_FOR.now ≡ codes "no record for "
  -- a specification decided nothing
  pub no_matches : texts.NO_MATCHES.now ≡ codes "Warning! No matches for ("
  pub comma : texts.COMMA.now ≡ codes ", "
  pub close : texts.CLOSE.now ≡ codes ")"
  -- look-ups
  pub tab : texts.TAB.now ≡ codes "\t"
  pub verified : texts.VERIFIED.now ≡ codes " verified."
  pub has_context : texts.HAS_CONTEXT.now ≡ codes " has context "
  pub should_be : texts.SHOULD_BE.now ≡ codes ", should be "
  pub has_no_record : texts.HAS_NO_RECORD.now ≡ codes " has no record"
  pub line_feed : texts.LINE_FEED.now ≡ codes "\n"
