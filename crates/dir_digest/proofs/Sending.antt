-- What makes listings may be shared by threads.
use denote.Param.Send.{IsSync, sendable}
use denote.Ref.{NamedLft}
use Rattle.std.proofs.Crossing.{crosses}
use Rattle.label_base.proofs.Sending.{bytes_sync, row_sync}
use Rattle.context_syntax.proofs.Sending.{types_sync}
use Rattle.path_subs.proofs.Sending.{subs_sync}
use Rattle.spec_match.proofs.Sending.{rule_set_sync}
use Rattle.dir_digest.specs.contracts.listings.Listings as Listings

pub listings_sync : (κ : NamedLft) → IsSync (Listings.the_row κ)
listings_sync κ =
    search (sendable, crosses, bytes_sync, row_sync, types_sync, rule_set_sync, subs_sync) depth 60
