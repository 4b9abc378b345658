-- A tree as workers see it: each directory is a job, which holds the entries whose parent it is.
use Rattle.std.specs.Prelude.{◌≡◌, ℕ, zero, suc, ◌==◌, ◌<◌, ◌≤◌, true, List, length, map, filter}
use Rattle.std.specs.Prelude.{drop, get_or, slice_get, Option, Some, None}
use Rattle.std.specs.List.{position_or_len}
use Rattle.label_base.specs.Bounded.{all_numbers}
use Rattle.find_records.specs.Record.{Record}
use Rattle.walk_steps.specs.Shaped as shape
use Rattle.walk_steps.specs.Shaped.{last_job}
use Rattle.walk_steps.specs.declared.shape.Shape.{Shape}
use Rattle.tree_model.specs.Extents.{extent_of, is_directory, parent_of}
use Rattle.tree_model.specs.Groups.{group_of, groups_in}

-- the directories, in ascending order
abbrev pub directories_in : List Record → List ℕ
directories_in entries = filter (is_directory entries) (all_numbers (length entries))

-- the job of a directory: the jobs are numbered from 1 in the order of the directories
abbrev pub job_of : List Record → ℕ → ℕ
job_of entries d = suc (position_or_len (λ x. x == d) (directories_in entries))

abbrev pub job_for : List Record → Option ℕ → ℕ
job_for entries None = zero
job_for entries (Some d) = job_of entries d

-- the job that holds an entry: that of its parent, or job 0
abbrev pub entry_home : List Record → ℕ → ℕ
entry_home entries e = job_for entries (parent_of entries e)

-- the directory of a job: job j is the j-th one, and job 0, which stands for the root that holds
-- the entries without a parent, has none
abbrev pub job_directory : List Record → ℕ → Option ℕ
job_directory entries zero = None
job_directory entries (suc j) = slice_get (directories_in entries) j

-- the entries from a place on that a job holds, in ascending order
abbrev pub children_from : List Record → ℕ → ℕ → List ℕ
children_from entries job place =
    filter (λ e. entry_home entries e == job) (drop place (all_numbers (length entries)))

-- all entries that a job holds
abbrev pub entries_of_job : List Record → ℕ → List ℕ
entries_of_job entries job = children_from entries job zero

-- for each job from 1 on the job that holds it, for each entry the job that holds it and its group,
-- and how many groups there are
abbrev pub shape_of : List Record → Shape
shape_of entries = record {
  parents = map (entry_home entries) (directories_in entries);
  homes = map (entry_home entries) (all_numbers (length entries));
  group_of = map (group_of entries) (all_numbers (length entries));
  groups = groups_in entries;
}

-- the job is that of the directory d
pub record IsJobOf (entries : List Record) (job d : ℕ) : Type 0 where
  pub known : d < length entries
  pub is_one : is_directory entries d ≡ true
  pub there : job_directory entries job ≡ Some d
  pub back : job_of entries d ≡ job

-- the jobs from 1 on are the directories, one to one, and each holds the entries right below its
-- own
pub record JobsAreDirectories (entries : List Record) : Type 0 where
  -- there is a job for each directory, and job 0, which is none
  pub count : last_job (shape_of entries) ≡ length (directories_in entries)
  pub root : job_directory entries zero ≡ None
  -- each job from 1 on is that of a directory, and each directory has one
  pub each : (job : ℕ) → 0 < job → job ≤ last_job (shape_of entries)
      → (d : ℕ) × IsJobOf entries job d
  pub own : (d : ℕ) → d < length entries → is_directory entries d ≡ true
      → IsJobOf entries (job_of entries d) d
  -- an entry's home is its parent's job, and the job that holds a job is that of its directory's
  -- parent
  pub home : (e : ℕ) → e < length entries
      → job_directory entries (shape.home_of (shape_of entries) e) ≡ parent_of entries e
  pub parent : (job d : ℕ) → job_directory entries job ≡ Some d
      → job_directory entries (shape.parent_job (shape_of entries) job) ≡ parent_of entries d

-- ---- how it is computed

-- how many directories are among the first entries
abbrev pub directories_below : List Record → ℕ → ℕ
directories_below entries k = length (filter (is_directory entries) (all_numbers k))

-- behind the last entry at or below a directory; without one, behind the last of all
abbrev pub end_under : List Record → Option ℕ → ℕ
end_under entries None = length entries
end_under entries (Some d) = extent_of entries d

-- the entry that stands before an end is one that the job holds
pub record IsPlaced (entries : List Record) (job next end : ℕ) : Type 0 where
  pub known : job ≤ length (directories_in entries)
  pub end_is : end ≡ end_under entries (job_directory entries job)
  pub own : next < end → parent_of entries next ≡ job_directory entries job

-- for each of the first entries how many directories are among those up to it
pub record AreJobs (entries : List Record) (count : ℕ) (jobs : List ℕ) : Type 0 where
  pub sized : length jobs ≡ count
  pub each : (e : ℕ) → e < count → get_or jobs e 0 ≡ directories_below entries (suc e)
