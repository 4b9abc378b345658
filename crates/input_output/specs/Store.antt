-- What calls of a store say of its files, where it tells them, and of its counts of faults.
use Rattle.std.specs.Prelude.{◌≡◌, ℕ, zero, suc, ◌≤◌, ◌<◌, Bool, true, false, List, [], ◌∷◌, length}
use Rattle.std.specs.Prelude.{slice_index_or, Option, Some, None, Result, Ok, Err, if◌then◌else◌}
use Rattle.std.specs.Prelude.{map as list_map, refl}
use Rattle.std.specs.Coded.{Coded, code_by, coded×, coded_list, coded_ℕ}
use Rattle.std.specs.Str.{bytes_eq}
use Rattle.std.specs.Ordering.{nat_cmp}
use Rattle.std.specs.Cmp.Lexicographic.{slice_cmp}
use Rattle.std.specs.FinMap as map
use Rattle.input_output.specs.Source.{Rose, next_count, is_listed}
use Rattle.input_output.specs.declared.mem_store.MemFile.{MemFile}
use Rattle.input_output.specs.declared.store.FileFault.{FileFault}
use Rattle.input_output.specs.declared.store.FileFault.TheVariants.{NotThere, Failed, TooLong}
use Rattle.input_output.specs.declared.store.FileFault.TheVariants.{OutOfMemory}
use Rattle.input_output.specs.declared.store.SaveFault.{SaveFault}
use Rattle.input_output.specs.declared.store.SaveFault.TheVariants as save

-- contents by names
abbrev pub Files : Type 0
Files = map.FinMap (slice_cmp nat_cmp) (List ℕ)

abbrev pub content : Files → List ℕ → Option (List ℕ)
content files name = map.get files name

-- what an answer says of the content of a file
abbrev pub FileIs : Option (List ℕ) → ℕ → Result (List ℕ) FileFault → Type 0
FileIs found limit (Ok bytes) = (found ≡ Some bytes) × (length bytes ≤ limit)
FileIs found limit (Err NotThere) = found ≡ None
FileIs found limit (Err TooLong) = (bytes : List ℕ) × (found ≡ Some bytes) × (limit < length bytes)
FileIs found limit (Err Failed) = Unit {0}
FileIs found limit (Err OutOfMemory) = Unit {0}

abbrev pub FileAsKnown : Option Files → List ℕ → ℕ → Result (List ℕ) FileFault → Type 0
FileAsKnown None name limit result = Unit {0}
FileAsKnown (Some files) name limit result = FileIs (content files name) limit result

abbrev pub FileCounts : ℕ → ℕ → Result (List ℕ) FileFault → Type 0
FileCounts before now (Err Failed) = (before ≤ now) × Rose before now
FileCounts before now other = now ≡ before

-- a count of calls, after so many more
abbrev pub calls_after : ℕ → ℕ → ℕ
calls_after count zero = count
calls_after count (suc more) = calls_after (next_count count) more

-- so many calls were made, where the store tells how many there were
abbrev pub Calls : Option ℕ → Option ℕ → ℕ → Type 0
Calls None now more = Unit {0}
Calls (Some count) now more = now ≡ Some (calls_after count more)

-- what an answer to a write says of the files: after a failure the named one alone is unknown, and
-- may be absent
abbrev pub SaveAsKnown : Option Files → Option Files → List ℕ → List ℕ
    → Result (Unit {0}) SaveFault → Type 0
SaveAsKnown None new name bytes result = Unit {0}
SaveAsKnown (Some old) None name bytes result = ⊥
SaveAsKnown (Some old) (Some new) name bytes (Ok done) = new ≡ map.insert old name bytes
SaveAsKnown (Some old) (Some new) name bytes (Err save.Failed) =
    map.remove new name ≡ map.remove old name
SaveAsKnown (Some old) (Some new) name bytes (Err save.OutOfMemory) = new ≡ old

abbrev pub SaveCounts : ℕ → ℕ → Result (Unit {0}) SaveFault → Type 0
SaveCounts before now (Err save.Failed) = (before ≤ now) × Rose before now
SaveCounts before now other = now ≡ before

-- a store that tells no files: the reads and the writes that failed
pub record StoreFaults : Type 0 where
  pub read_faults : ℕ
  pub write_faults : ℕ

-- the name of the file that is meant, where the name `from` leads to the file `to`, unless that is
-- empty
abbrev pub name_led : List ℕ → List ℕ → List ℕ → List ℕ
name_led from to name =
    if bytes_eq to [] then name else (if bytes_eq from name then to else name)

-- ---- stores in memory

abbrev pub pair_of : MemFile → List ℕ × List ℕ
pair_of file = (file.name, file.bytes)

-- the files of a list, the first of each name
abbrev pub files_of : List MemFile → Files
files_of files = map.from_entries (list_map pair_of files)

abbrev pub file_has_name : List ℕ → MemFile → Bool
file_has_name name file = bytes_eq file.name name

-- the content of the first file of the list with this name
abbrev pub file_found_in : List MemFile → List ℕ → Option (List ℕ)
file_found_in [] name = None
file_found_in (file ∷ files) name =
    if file_has_name name file then Some file.bytes else file_found_in files name

-- the place of the first file of the list with this name
pub record IsFirstPlace (files : List MemFile) (name : List ℕ) (place : ℕ) : Type 0 where
  pub inside : place < length files
  pub named : (d : MemFile) → file_has_name name (slice_index_or files place d) ≡ true
  pub before : (k : ℕ) (d : MemFile) → k < place → file_has_name name (slice_index_or files k d)
      ≡ false

-- a store in memory: its files, the calls that are to fail, the calls so far, the reads and the
-- writes that failed
pub record MemStoreValue : Type 0 where
  pub files : Files
  pub failing : List ℕ
  pub calls : ℕ
  pub read_faults : ℕ
  pub write_faults : ℕ

abbrev pub files_code : Coded Files
files_code = map.code (coded_list coded_ℕ) (coded_list coded_ℕ)

abbrev pub mem_store_code : Coded MemStoreValue
mem_store_code =
    code_by (Files × (List ℕ × (ℕ × (ℕ × ℕ))))
    (coded× files_code (coded× (coded_list coded_ℕ) (coded× coded_ℕ (coded× coded_ℕ coded_ℕ))))
    (λ s. (s.files, (s.failing, (s.calls, (s.read_faults, s.write_faults)))))
    (λ p. record {
      files = p.0;
      failing = p.1.0;
      calls = p.1.1.0;
      read_faults = p.1.1.1.0;
      write_faults = p.1.1.1.1;
    }) (λ _. refl)

-- the next call is among those that are to fail
abbrev pub is_planned : MemStoreValue → Bool
is_planned s = is_listed s.failing s.calls

-- a read leaves the files, and one that is to fail counts as a fault
abbrev pub read_after : MemStoreValue → MemStoreValue
read_after s =
    record s {
      calls = next_count s.calls;
      read_faults = if is_planned s then next_count s.read_faults else s.read_faults;
    }

-- a write that is to fail counts as a fault, and leaves the files here
abbrev pub write_after : MemStoreValue → List ℕ → List ℕ → Result (Unit {0}) SaveFault
    → MemStoreValue
write_after s name bytes (Ok done) =
    record s { files = map.insert s.files name bytes; calls = next_count s.calls }
write_after s name bytes (Err save.Failed) =
    record s { calls = next_count s.calls; write_faults = next_count s.write_faults }
write_after s name bytes (Err save.OutOfMemory) = record s { calls = next_count s.calls }

abbrev pub read_failed : Result (List ℕ) FileFault → Bool
read_failed (Err Failed) = true
read_failed other = false

abbrev pub write_failed : Result (Unit {0}) SaveFault → Bool
write_failed (Err save.Failed) = true
write_failed other = false
