-- The digest of a directory.
use Rattle.std.specs.Prelude.{ℕ, Bool, List}
use Rattle.sha1.specs.Sha1.{sha1}
use Rattle.file_paths.specs.Path.{Path}
use Rattle.find_records.specs.declared.format.Format.{Format}
use Rattle.path_subs.specs.Subs.{SubValue}
use Rattle.spec_reader.specs.SpecValue.{SpecValue}
use Rattle.dir_digest.specs.Listing.{listing_of}
use Rattle.dir_digest.specs.ListingBytes.{listing_bytes}
use Rattle.dir_digest.specs.declared.twenty_bytes.TheConstants.{VOID_BYTES}

-- the SHA-1 (FIPS 180-4) of the bytes of its listing
unfoldable pub digest_at : Format → (force : Bool) → (types : List (List ℕ))
    → (first second : List SubValue) → (specs : List SpecValue) → Path → List ℕ
digest_at format force types first second specs path =
    sha1 (listing_bytes (listing_of format force types first second specs path))

-- the digest of a directory whose labels have changed since one was made
abbrev pub void_digest : List ℕ
void_digest = VOID_BYTES
