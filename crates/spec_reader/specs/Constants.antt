-- What the constants of this crate are, in letters.
use Rattle.std.specs.Prelude.{◌≡◌, codes}
use Rattle.spec_reader.specs.declared.line.TheConstants.{NO_CONTEXT}

pub record ConstantsAreStated : Type 0 where
  -- what stands in place of a context where labels are left alone
  pub no_context : NO_CONTEXT.now ≡ codes "<<none>>"
