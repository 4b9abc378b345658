-- Runs that relabel one tree, with and without skipping.
--
-- A run walks a tree and gives each inode the label that is decided for the first of its names. It
-- may leave with a directory the digest of its listing, which is all that the labels in the
-- directory's extent depend on but the tree itself. A later run that finds the digest of its own
-- listing there has nothing to do in that extent, and may skip it. What a label, a context, a
-- listing and a digest are is left open here.
use Rattle.std.specs.Prelude.{ℕ, Bool, true, false, not, ◌==◌, ◌&&◌, ◌||◌, if◌then◌else◌, List, []}
use Rattle.std.specs.Prelude.{◌∷◌, Option, Some, None, unwrap_or}
use Rattle.label_base.specs.Bounded.{all_below, any_below, least_below, implies}

-- What labels, contexts, listings and digests are, and how they are compared. zero_digest stands
-- for a digest that no longer tells of its directory.
pub record Kinds : Type 1 where
  pub Label : Type 0
  pub Context : Type 0
  pub Listing : Type 0
  pub Digest : Type 0
  pub same_label : Label → Label → Bool
  pub same_digest : Digest → Digest → Bool
  pub digest_of : Listing → Digest
  pub zero_digest : Digest

-- the fact holds of these labels, contexts, listings and digests, however they are compared and
-- made
abbrev pub HoldsOf : (Kinds → Type 0) → (Label Context Listing Digest : Type 0) → Type 0
HoldsOf Fact Label Context Listing Digest =
    (same_label : Label → Label → Bool) (same_digest : Digest → Digest → Bool)
    (digest_of : Listing → Digest) (zero_digest : Digest)
    → Fact (record {
      Label = Label;
      Context = Context;
      Listing = Listing;
      Digest = Digest;
      same_label = same_label;
      same_digest = same_digest;
      digest_of = digest_of;
      zero_digest = zero_digest;
    })

-- A tree. Its entries are the numbers below count, in the order of the walk. group_of: the group of
-- an entry, which are the names of one inode. in_extent d e: the entry e is d, or lies below it.
pub record WalkedTree : Type 0 where
  pub count : ℕ
  pub group_of : ℕ → ℕ
  pub is_directory : ℕ → Bool
  pub in_extent : ℕ → ℕ → Bool

-- What is decided for an entry: nothing, that its label is left alone, or a context.
pub data Decision (Context : Type 0) : Type 0 where
  Nothing : Decision Context
  Leave : Decision Context
  Give : Context → Decision Context

-- A run. live: the entries that it is asked for. closed: the directories that it takes to hold each
-- group whole that has a name in their extent. decide label wanted: what takes the place of a label
-- where a context is wanted, if anything does. listing: of each directory. dry: nothing is changed.
-- skips: directories are skipped, and digests stored. renews: digests are stored, and no directory
-- is skipped.
pub record Relabelling (K : Kinds) : Type 0 where
  pub live : ℕ → Bool
  pub closed : ℕ → Bool
  pub decision : ℕ → Decision K.Context
  pub decide : K.Label → K.Context → Option K.Label
  pub listing : ℕ → K.Listing
  pub dry : Bool
  pub skips : Bool
  pub renews : Bool

-- The label of each group, and the digest that is stored with each directory, if one is.
pub record State (K : Kinds) : Type 0 where
  pub labels : ℕ → K.Label
  pub digests : ℕ → Option K.Digest

-- ---- what is skipped

-- the run takes the directory as closed, and is asked for all of its extent
abbrev pub whole : {K : Kinds} → WalkedTree → Relabelling K → ℕ → Bool
whole t r d = r.closed d && all_below t.count (λ e. implies (t.in_extent d e) (r.live e))

-- the run stores digests
abbrev pub digests_used : {K : Kinds} → Relabelling K → Bool
digests_used r = r.skips || r.renews

-- what is stored is a digest that isn't zero, and that of the listing
abbrev pub is_current_in : (K : Kinds) → Option K.Digest → K.Listing → Bool
is_current_in K None listing = false
is_current_in K (Some stored) listing =
    not (K.same_digest stored K.zero_digest) && K.same_digest stored (K.digest_of listing)

-- the run may pass over the directory's extent
abbrev pub skippable_in : {K : Kinds} → WalkedTree → Relabelling K → State K → ℕ → Bool
skippable_in {K} t r s d =
    t.is_directory d && (r.skips && not r.renews) && whole t r d
    && is_current_in K (s.digests d) (r.listing d)

-- the entry is in the extent of a directory that is skipped
abbrev pub skipped : WalkedTree → (ℕ → Bool) → ℕ → Bool
skipped t skip e = any_below t.count (λ d. skip d && t.in_extent d e)

-- the run is asked for the entry, and doesn't skip it
abbrev pub walked_in : {K : Kinds} → WalkedTree → Relabelling K → (ℕ → Bool) → ℕ → Bool
walked_in t r skip e = r.live e && not (skipped t skip e)

-- ---- labels after a run

-- the decision is a context
abbrev pub gives_context : {Context : Type 0} → Decision Context → Bool
gives_context Nothing = false
gives_context Leave = false
gives_context (Give wanted) = true

abbrev pub decided_context : {Context : Type 0} → Decision Context → Option Context
decided_context Nothing = None
decided_context Leave = None
decided_context (Give wanted) = Some wanted

-- the entry is a name of the group, is walked, and a context is decided for it
abbrev pub can_win_in : {K : Kinds} → WalkedTree → Relabelling K → (ℕ → Bool) → ℕ → ℕ → Bool
can_win_in t r walk g e = (t.group_of e == g) && (walk e && gives_context (r.decision e))

-- the winner of a group: the first of such names
abbrev pub winner_in : {K : Kinds} → WalkedTree → Relabelling K → (ℕ → Bool) → ℕ → Option ℕ
winner_in t r walk g = least_below t.count (can_win_in t r walk g)

-- the context that is decided for the winner
abbrev pub wanted_by : {K : Kinds} → Relabelling K → Option ℕ → Option K.Context
wanted_by r None = None
wanted_by r (Some e) = decided_context (r.decision e)

-- a label after this is wanted
abbrev pub relabelled : {K : Kinds} → Relabelling K → K.Label → Option K.Context → K.Label
relabelled r label None = label
relabelled r label (Some wanted) = unwrap_or (r.decide label wanted) label

abbrev pub new_label_in : {K : Kinds} → WalkedTree → Relabelling K → (ℕ → Bool) → (ℕ → K.Label) → ℕ
    → K.Label
new_label_in t r walk labels g = relabelled r (labels g) (wanted_by r (winner_in t r walk g))

-- ---- digests after a run

-- the group's label changes
abbrev pub changed : {K : Kinds} → WalkedTree → Relabelling K → (ℕ → Bool) → (ℕ → K.Label) → ℕ
    → Bool
changed {K} t r walk labels g = not (K.same_label (new_label_in t r walk labels g) (labels g))

-- in the directory's extent stands a name of a group whose label changes
abbrev pub above_change : {K : Kinds} → WalkedTree → Relabelling K → (ℕ → Bool) → (ℕ → K.Label) → ℕ
    → Bool
above_change t r walk labels d =
    any_below t.count (λ e. t.in_extent d e && changed t r walk labels (t.group_of e))

-- the run stores the directory's digest
abbrev pub renewed : {K : Kinds} → WalkedTree → Relabelling K → (ℕ → Bool) → ℕ → Bool
renewed t r walk d = t.is_directory d && walk d && whole t r d && digests_used r

-- what is stored, or zero in its place where the test holds
abbrev pub zeroed : (K : Kinds) → Option K.Digest → Bool → Option K.Digest
zeroed K None void = None
zeroed K (Some stored) true = Some K.zero_digest
zeroed K (Some stored) false = Some stored

abbrev pub new_digest : {K : Kinds} → WalkedTree → Relabelling K → (ℕ → Bool) → State K → ℕ
    → Option K.Digest
new_digest {K} t r walk s d =
    if renewed t r walk d
    then Some (K.digest_of (r.listing d))
    else zeroed K (s.digests d) (above_change t r walk s.labels d)

-- ---- runs

-- the state after a run that walks these entries
abbrev pub walk_leaves : {K : Kinds} → WalkedTree → Relabelling K → (ℕ → Bool) → State K → State K
walk_leaves t r walk s =
    if r.dry then s
    else record { labels = new_label_in t r walk s.labels; digests = new_digest t r walk s }

-- the state after a run
abbrev pub after : {K : Kinds} → WalkedTree → State K → Relabelling K → State K
after t s r = walk_leaves t r (walked_in t r (skippable_in t r s)) s

-- the state after the run with skipping off
abbrev pub after_off : {K : Kinds} → WalkedTree → State K → Relabelling K → State K
after_off t s r = walk_leaves t r (walked_in t r (λ d. false)) s

-- the state after all of the runs, one after the other
abbrev pub after_all : {K : Kinds} → WalkedTree → State K → List (Relabelling K) → State K
after_all t s [] = s
after_all t s (r ∷ runs) = after_all t (after t s r) runs

-- the state after all of the runs with skipping off
abbrev pub after_all_off : {K : Kinds} → WalkedTree → State K → List (Relabelling K) → State K
after_all_off t s [] = s
after_all_off t s (r ∷ runs) = after_all_off t (after_off t s r) runs
