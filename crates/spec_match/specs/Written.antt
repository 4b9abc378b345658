-- Lists of specifications one behind the other, in memory that was reserved.
use Rattle.std.specs.Prelude.{ℕ, ◌+◌, ◌≤◌, List, drop, length, map, take}
use Rattle.std.specs.List.{AllByRecursion}
use Rattle.spec_match.specs.Alive.{Alive}
use Rattle.spec_match.specs.declared.lists.Span.{Span}
use Rattle.spec_match.specs.declared.lists.Lists.TheInside.{Inside}

-- the lists that are complete, and the one that is being written
pub record Written : Type 0 where
  pub lists : List (List Alive)
  pub draft : List Alive

abbrev pub lists_written : List (List Alive) → List Alive → Written
lists_written lists draft = record { lists = lists; draft = draft }

abbrev pub list_at : List Alive → Span → List Alive
list_at members span = take span.len (drop span.start members)

abbrev pub written_in : Inside → Written
written_in l = lists_written (map (list_at l.members) l.spans.items) (drop l.done l.members)

abbrev pub IsSpanWithin : ℕ → Span → Type 0
IsSpanWithin done span = span.start + span.len ≤ done

-- the complete lists lie among the members that are done
pub record AreListsWritten (l : Inside) : Type 0 where
  pub within : AllByRecursion (IsSpanWithin l.done) l.spans.items
  pub done : l.done ≤ length l.members
