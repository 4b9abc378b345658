-- What contracts see of a borrowed entry, and of what is told of one.
use Rattle.file_paths.specs.Path.{path_names}
use Rattle.file_paths.specs.PathRef.{path_of}
use Rattle.context_syntax.specs.Label.{label_of}
use Rattle.find_records.specs.Record.{Record}
use Rattle.find_records.specs.declared.entry.Entry.{Entry}
use Rattle.find_records.specs.declared.entry.RawRecord.{RawRecord}

-- its record
abbrev pub entry_of : Entry → Record
entry_of e = record {
  kind = e.kind;
  device = e.device;
  inode = e.inode;
  links = e.links;
  label = e.label.now;
  path = path_of e.path;
}

-- the record that is told
abbrev pub record_seen : RawRecord → Record
record_seen t = record {
  kind = t.kind;
  device = t.device;
  inode = t.inode;
  links = t.links;
  label = label_of t.label.now;
  path = path_names t.path.now;
}
