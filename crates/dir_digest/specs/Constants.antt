-- What the constants of this crate are, in letters and figures.
use Rattle.std.specs.Prelude.{◌≡◌, codes, replicate}
use Rattle.dir_digest.specs.Digest.{void_digest}
use Rattle.dir_digest.specs.declared.fields.TheConstants.{FORCE_FIELD, MARK_ONE, MARK_TWO}
use Rattle.dir_digest.specs.declared.fields.TheConstants.{TYPE_FIELD}

pub record ConstantsAreStated : Type 0 where
  -- the digest of a directory whose labels have changed: twenty zero bytes
  pub void : void_digest ≡ replicate 20 0
  -- the first field of a listing, by the format of the records
  pub mark_one : MARK_ONE.now ≡ codes "relabel-listing-1"
  pub mark_two : MARK_TWO.now ≡ codes "relabel-listing-2"
  -- the mode: whole labels are given, or types alone
  pub force_field : FORCE_FIELD.now ≡ codes "F"
  pub type_field : TYPE_FIELD.now ≡ codes "T"
