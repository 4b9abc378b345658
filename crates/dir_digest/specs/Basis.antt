-- The basis of a walk's listings: what those of all directories go by.
use Rattle.std.specs.Prelude.{◌≡◌, ℕ, ◌<◌, ◌^◌, Bool, true, false, List, length}
use Rattle.std.specs.List.{list_all}
use Rattle.file_paths.specs.Path.{Path}
use Rattle.find_records.specs.declared.format.Format.{Format}
use Rattle.context_syntax.specs.Context.{is_word}
use Rattle.context_syntax.specs.TypeNames.{NameSet, names_in_order}
use Rattle.path_subs.specs.Subs.{SubValue}
use Rattle.path_subs.specs.declared.subs.Subs.{Subs}
use Rattle.spec_reader.specs.SpecValue.{IsSpec, SpecValue}
use Rattle.dir_digest.specs.Digest.{digest_at}
use Rattle.dir_digest.specs.Listing.{Listing, listing_of}
use Rattle.dir_digest.specs.ListingBytes.{AreCountable, IsContextDecision, IsNamesSub}
use Rattle.dir_digest.specs.declared.mode.Mode.{Mode}
use Rattle.dir_digest.specs.declared.mode.Mode.TheVariants.{Whole, KindOnly}

-- the format of the records, whether labels are given whole, the customizable types in byte order,
-- the lines of the two substitution files, and the specifications
pub record Basis : Type 0 where
  pub format : Format
  pub force : Bool
  pub types : List (List ℕ)
  pub first : List SubValue
  pub second : List SubValue
  pub specs : List SpecValue

abbrev pub is_whole_mode : Mode → Bool
is_whole_mode Whole = true
is_whole_mode KindOnly = false

abbrev pub basis_of : Format → Mode → NameSet → Subs → List SpecValue → Basis
basis_of format mode types subs specs = record {
  format = format;
  force = is_whole_mode mode;
  types = names_in_order types;
  first = subs.first;
  second = subs.second;
  specs = specs;
}

-- the listing of a directory on this basis
abbrev pub listing_on : Basis → Path → Listing
listing_on t path = listing_of t.format t.force t.types t.first t.second t.specs path

-- its digest
abbrev pub digest_on : Basis → Path → List ℕ
digest_on t path = digest_at t.format t.force t.types t.first t.second t.specs path

-- a specification that was read: its pattern is what its text reads as, and its context is one
pub record IsReadSpec (spec : SpecValue) : Type 0 where
  pub is_spec : IsSpec spec
  pub decision : IsContextDecision spec.decision

-- all of it was read from accepted files
pub record AreRead (t : Basis) : Type 0 where
  pub types_few : length t.types < 2 ^ 64
  pub types : list_all is_word t.types ≡ true
  pub first : AreCountable IsNamesSub t.first
  pub second : AreCountable IsNamesSub t.second
  pub specs : AreCountable IsReadSpec t.specs
