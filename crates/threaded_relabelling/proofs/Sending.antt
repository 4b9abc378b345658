-- The texts of entries may be shared by threads.
use denote.Param.Send.{IsSync, sendable}
use denote.Ref.{NamedLft}
use Rattle.std.proofs.Crossing.{crosses}
use Rattle.relabel_core.proofs.Sending.{digests_sync, walked_sync}
use Rattle.threaded_relabelling.specs.contracts.entry_texts.Lines as Lines
use Rattle.threaded_relabelling.specs.contracts.entry_texts.Sections as Sections

pub lines_sync : (κ ι : NamedLft) → IsSync (Lines.the_row κ ι)
lines_sync κ ι = search (sendable, crosses, walked_sync) depth 40

pub sections_sync : (κ ι μ : NamedLft) → IsSync (Sections.the_row κ ι μ)
sections_sync κ ι μ = search (sendable, crosses, digests_sync) depth 40
