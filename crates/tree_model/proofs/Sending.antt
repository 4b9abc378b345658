-- A tree, and what was selected of it, may be shared by threads.
use denote.Param.Send.{IsSync, sendable}
use Rattle.std.proofs.Crossing.{crosses}
use Rattle.std.proofs.MapsCrossing.{BTreeMap-sync}
use Rattle.label_base.proofs.Sending.{bytes_sync, row_sync}
use Rattle.label_base.specs.contracts.kind.EntryKind as EntryKind
use Rattle.context_syntax.specs.contracts.context.Context as Context
use Rattle.context_syntax.specs.contracts.label.Label as Label
use Rattle.find_records.specs.contracts.labels.Spelled as Spelled
use Rattle.find_records.specs.contracts.labels.Labels as Labels
use Rattle.find_records.specs.contracts.all_labels.AllLabels as AllLabels
use Rattle.find_records.specs.contracts.profile_row.ProfileRow as ProfileRow
use Rattle.find_records.specs.contracts.profiles.Profiles as Profiles
use Rattle.find_records.specs.contracts.row.RecordRow as RecordRow
use Rattle.find_records.specs.contracts.records.Records as Records
use Rattle.tree_model.specs.contracts.sorted.Sorted as Sorted
use Rattle.tree_model.specs.contracts.tree.Tree as Tree
use Rattle.tree_model.specs.contracts.selection.Selected as Selected

context_sync : IsSync Context.the_row
context_sync = search (sendable, crosses, bytes_sync) depth 40

-- an enum's row is that of its field
label_sync : IsSync (Label.the_field).row
label_sync = search (sendable, crosses, bytes_sync, context_sync) depth 40

spelled_sync : IsSync Spelled.the_row
spelled_sync = search (sendable, crosses, label_sync) depth 40

labels_sync : IsSync Labels.the_row
labels_sync = search (sendable, crosses, spelled_sync, BTreeMap-sync) depth 60

all_labels_sync : IsSync AllLabels.the_row
all_labels_sync = search (sendable, crosses, label_sync, labels_sync) depth 40

profile_row_sync : IsSync ProfileRow.the_row
profile_row_sync = search (sendable, crosses) depth 40

profiles_sync : IsSync Profiles.the_row
profiles_sync = search
    (sendable, crosses, all_labels_sync, profile_row_sync, BTreeMap-sync) depth 60

kind_sync : IsSync (EntryKind.the_field).row
kind_sync = search (sendable, crosses) depth 40

record_row_sync : IsSync RecordRow.the_row
record_row_sync = search (sendable, crosses, kind_sync) depth 40

pub records_sync : IsSync Records.the_row
records_sync = search (sendable, crosses, profiles_sync, record_row_sync) depth 40

sorted_sync : IsSync Sorted.the_row
sorted_sync = search (sendable, crosses, records_sync) depth 40

pub tree_sync : IsSync Tree.the_row
tree_sync = search (sendable, crosses, sorted_sync) depth 40

pub selected_sync : IsSync Selected.the_row
selected_sync = search (sendable, crosses, row_sync) depth 40
