-- What is found of one entry by itself, whatever is found of the directories above it.
use Rattle.std.specs.Prelude.{◌≡◌, ℕ, ◌<◌, Bool, true, not, ◌&&◌, is_some, length, map, List}
use Rattle.std.specs.Prelude.{Option, Some, None, IfSome, MatchOption, false, if◌then◌else◌}
use Rattle.tree_model.specs.Extents.{entry_at}
use Rattle.tree_model.specs.Jobs.{job_directory}
use Rattle.label_rules.specs.LookUp.{given_at, index_for}
use Rattle.dir_digest.specs.Listings.{basis_in}
use Rattle.dir_digest.specs.declared.listings.Listings.{Listings}
use Rattle.relabel_core.specs.Swept.{needed, uses_digests}
use Rattle.relabel_core.specs.DigestBasis.{basis_by}
use Rattle.relabel_core.specs.Walk.{Walk, walk_count, is_live, is_skipped, skippable}
use Rattle.relabel_core.specs.declared.input.WalkInput.{WalkInput}
use Rattle.relabel_workers.specs.declared.note.Note.{Note}

-- the specification that decides an entry, if no directory above it is skipped
unfoldable pub decided_alone : Walk → ℕ → Option ℕ
decided_alone w e =
    if is_live w e && not (skippable w e) then index_for w.rules (entry_at w.entries e) else None

-- it says a context
abbrev pub gives_alone : Walk → ℕ → Bool
gives_alone w e = is_some (given_at w.rules.rules (decided_alone w e))

-- what is noted of an entry is what is found of it by itself
pub record IsNoteOf (w : Walk) (note : Note) : Type 0 where
  pub known : note.entry < walk_count w
  pub decided_is : note.decided ≡ decided_alone w note.entry
  pub in_range : IfSome note.decided (λ i. i < length w.rules.rules)
  pub digest_is : note.finding.digest ≡ needed w note.entry
  pub skips_is : note.finding.skippable ≡ skippable w note.entry

-- the entries of which something is noted, in the order of the notes
abbrev pub noted_in : List Note → List ℕ
noted_in notes = map (λ note. note.entry) notes

-- ---- which jobs are open

abbrev pub lies_open : Walk → Option ℕ → Bool
lies_open w None = true
lies_open w (Some d) = not (is_skipped w d)

-- the directory of the job isn't skipped
abbrev pub is_job_open : Walk → ℕ → Bool
is_job_open w job = lies_open w (job_directory w.entries job)

-- ---- what the digests are made by, where they count for the run

-- what makes the listings is that of this walk; without it no digest counts
abbrev pub AreListingsFor : WalkInput → Option Listings → Type 0
AreListingsFor input listings =
    MatchOption listings (uses_digests input.options ≡ false)
    (λ l. basis_in l ≡ basis_by input.rules.now input.options)
