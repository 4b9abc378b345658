-- What a walk is lent, and what it answers, may be shared by threads.
use denote.Param.Send.{IsSync, sendable, struct_sync}
use denote.Ref.{NamedLft}
use denote.Struct.Declared.{shape}
use denote.Struct.Struct.{Struct}
use Rattle.std.proofs.Crossing.{crosses}
use Rattle.std.proofs.MapsCrossing.{BTreeMap-sync}
use Rattle.label_base.proofs.Sending.{bytes_sync, row_sync}
use Rattle.file_paths.proofs.Sending.{path_sync}
use Rattle.label_rules.proofs.Sending.{rules_sync}
use Rattle.tree_model.proofs.Sending.{selected_sync, tree_sync}
use Rattle.relabel_core.specs.contracts.stored.Stored as Stored
use Rattle.relabel_core.specs.contracts.input.WalkInput as WalkInput
use Rattle.relabel_core.specs.contracts.noting.Noted as Noted
use Rattle.relabel_core.specs.contracts.swept.Skip as Skip
use Rattle.relabel_core.specs.contracts.swept.Swept as Swept
use Rattle.relabel_core.specs.contracts.walked.Walked as Walked
use Rattle.relabel_core.specs.contracts.digests.Digests as Digests

pub stored_sync : IsSync Stored.the_row
stored_sync = search (sendable, crosses, bytes_sync, BTreeMap-sync) depth 60

pub input_sync : (κ : NamedLft) → IsSync (WalkInput.the_row κ)
input_sync κ =
    search (
      sendable,
      crosses,
      row_sync,
      path_sync,
      tree_sync,
      selected_sync,
      rules_sync,
      stored_sync,
    ) depth 60

-- a field's row is that of the field, where its type is an enum, is copied or has a drop of its own
input_field : (κ : NamedLft) → IsSync (WalkInput.the_field κ).row
input_field κ =
    search (
      sendable,
      crosses,
      row_sync,
      path_sync,
      tree_sync,
      selected_sync,
      rules_sync,
      stored_sync,
    ) depth 60

noted_field : IsSync (Noted.the_field).row
noted_field = search (sendable, crosses) depth 40

skip_field : IsSync (Skip.the_field).row
skip_field = search (sendable, crosses) depth 40

passed_field : IsSync (Swept.the_field).row
passed_field = search (sendable, crosses, skip_field, BTreeMap-sync) depth 60

walked_fields : (κ : NamedLft) → IsSync (Struct (shape (Walked.the_type κ)))
walked_fields κ =
    struct_sync (shape (Walked.the_type κ)) (input_field κ, (noted_field, (passed_field, tt)))

pub walked_sync : (κ : NamedLft) → IsSync (Walked.the_row κ)
walked_sync κ = search (sendable, walked_fields) depth 20

pub digests_sync : (κ ι : NamedLft) → IsSync (Digests.the_row κ ι)
digests_sync κ ι = search (sendable, crosses, walked_sync) depth 40
