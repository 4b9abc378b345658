-- What workers found, put back by position.
use Rattle.std.specs.Prelude.{◌≡◌, ℕ, ◌<◌, ◌≤◌, ◌⊎◌, ◌==◌, true, List, length, All, get_or, Option}
use Rattle.std.specs.Prelude.{Some, None, if◌then◌else◌}
use Rattle.std.specs.BTreeMap.{BTreeMap}
use Rattle.walk_steps.specs.Lists.{times}
use Rattle.inode_claims.specs.Answers.{group_count, winner_of}
use Rattle.inode_claims.specs.declared.winners.Winners.{Winners}
use Rattle.tree_model.specs.Extents.{in_extent}
use Rattle.tree_model.specs.Groups.{groups_in}
use Rattle.tree_model.specs.Jobs.{entry_home}
use Rattle.relabel_core.specs.Numbers.{found_in}
use Rattle.relabel_core.specs.Swept.{renewal, skip_of}
use Rattle.relabel_core.specs.Stored.{digests_in}
use Rattle.relabel_core.specs.Walk.{Walk, walk_count, deciding, skippable, winner}
use Rattle.relabel_core.specs.declared.noting.Noted.{Noted}
use Rattle.relabel_core.specs.declared.swept.Swept.{Swept}
use Rattle.relabel_core.specs.declared.swept.Skip.{Skip}
use Rattle.relabel_core.specs.declared.swept.Skip.TheVariants.{Not, First, Below}
use Rattle.relabel_workers.specs.Alone.{IsNoteOf, is_job_open, noted_in}
use Rattle.relabel_workers.specs.declared.note.Note.{Note}

-- a note of an entry whose home is open, so that what is found of it by itself is what is found of
-- it
pub record IsOpenNote (w : Walk) (note : Note) : Type 0 where
  pub noted : IsNoteOf w note
  pub lies : is_job_open w (entry_home w.entries note.entry) ≡ true

-- there is a note of each entry whose home is open, and of no other
pub record AreAllNoted (w : Walk) (notes : List Note) : Type 0 where
  pub notes_are : All (IsOpenNote w) notes
  pub whole : (e : ℕ) → e < walk_count w → is_job_open w (entry_home w.entries e) ≡ true
      → 0 < times e (noted_in notes)

-- the winners are those of the walk
pub record AreWinnersClaimed (w : Walk) (winners : Winners) : Type 0 where
  pub sized : group_count winners ≡ groups_in w.entries
  pub each : (g : ℕ) → g < groups_in w.entries → winner_of winners g ≡ winner w g

-- ---- what is put back of the notes so far

-- what stands at a place is right, or nothing is there yet
pub record AreDecidedPut (w : Walk) (notes : List Note) (decided : List ℕ) : Type 0 where
  pub room : length decided ≡ walk_count w
  pub right : (e : ℕ) → e < walk_count w
      → (found_in decided e ≡ None) ⊎ (found_in decided e ≡ deciding w e)
  pub where_noted : (e : ℕ) → e < walk_count w → 0 < times e (noted_in notes)
      → found_in decided e ≡ deciding w e

-- and so at or below each noted directory that is skipped
pub record AreSkipsPut (w : Walk) (notes : List Note) (skips : List Skip) : Type 0 where
  pub room : length skips ≡ walk_count w
  pub right : (e : ℕ) → e < walk_count w
      → (get_or skips e Not ≡ Not) ⊎ (get_or skips e Not ≡ skip_of w e)
  pub where_noted : (d e : ℕ) → d < walk_count w → 0 < times d (noted_in notes) → skippable w d
      ≡ true
      → e < walk_count w → in_extent w.entries d e ≡ true → get_or skips e Not ≡ skip_of w e

pub record AreDigestsPut (w : Walk) (notes : List Note) (made : BTreeMap ℕ (List ℕ)) : Type 0 where
  pub right : (e : ℕ) → e < walk_count w
      → (digests_in made e ≡ None) ⊎ (digests_in made e ≡ renewal w e)
  pub where_noted : (e : ℕ) → e < walk_count w → 0 < times e (noted_in notes)
      → digests_in made e ≡ renewal w e

pub record ArePutBack (w : Walk) (notes : List Note) (noted : Noted) (swept : Swept) : Type 0
  where
    pub decided : AreDecidedPut w notes noted.decided.items
    pub skips : AreSkipsPut w notes swept.skips.items
    pub digests : AreDigestsPut w notes swept.made
    pub winners_room : length noted.winners.items ≡ groups_in w.entries

-- ---- what one note changes

-- a directory that is skipped, and what is below it before a place
pub record AreSkippedTo (old : List Skip) (d end : ℕ) (new : List Skip) : Type 0 where
  pub room : length new ≡ length old
  pub here : d < length old → get_or new d Not ≡ First
  pub below : (e : ℕ) → d < e → e < end → e < length old → get_or new e Not ≡ Below
  pub others : (e : ℕ) → (e < d) ⊎ (end ≤ e) → d < end → get_or new e Not ≡ get_or old e Not

-- the digest that was put first stays
abbrev pub first_digest : Option (List ℕ) → Option (List ℕ) → Option (List ℕ)
first_digest None found = found
first_digest (Some digest) found = Some digest

-- a digest is kept for a directory for which none is
abbrev pub KeepsFirst : (old new : BTreeMap ℕ (List ℕ)) → ℕ → Option (List ℕ) → Type 0
KeepsFirst old new d found = (e : ℕ) → digests_in new e
    ≡ (if d == e then first_digest (digests_in old e) found else digests_in old e)
