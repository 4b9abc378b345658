-- What the constants of this crate are, in letters.
use Rattle.std.specs.Prelude.{◌≡◌, codes}
use Rattle.label_audit.specs.declared.TheConstants.{AUDIT}
use Rattle.label_audit.specs.declared.answer.TheConstants as texts

pub record ConstantsAreStated : Type 0 where
  -- the name of the tool
  pub audit : AUDIT.now ≡ codes "audit"
  -- the line of a finding
  pub agrees : texts.AGREES.now ≡ codes "agrees"
  pub report_differs : texts.REPORT_DIFFERS.now ≡ codes "report differs at "
  pub dump_differs : texts.DUMP_DIFFERS.now ≡ codes "dump differs at "
  pub operand : texts.OPERAND.now ≡ codes "operand "
  pub specification : texts.SPECIFICATION.now ≡ codes "specification "
  pub its_end : texts.ITS_END.now ≡ codes "its end"
  pub line_feed : texts.LINE_FEED.now ≡ codes "\n"
