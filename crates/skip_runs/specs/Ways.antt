-- That rules of skipping and premises of the theorem are needed: other ways of skipping, or runs
-- without one of the premises, after which some label is another than with skipping off. Nothing
-- here says that a run which renews has to skip nothing: labels don't need that rule.
use Rattle.std.specs.Prelude.{◌≡◌, ◌≢◌, ℕ, Bool, true, false, not, ◌==◌, ◌&&◌, if◌then◌else◌, List}
use Rattle.std.specs.Prelude.{[], ◌∷◌, Option, Some, None}
use Rattle.label_base.specs.Bounded.{all_below, implies}
use Rattle.skip_runs.specs.Relabel.{Kinds, WalkedTree, Relabelling, State, whole, digests_used}
use Rattle.skip_runs.specs.Relabel.{is_current_in, zeroed, walked_in, new_label_in, above_change}
use Rattle.skip_runs.specs.Relabel.{after_all, after_all_off, skippable_in, after}
use Rattle.skip_runs.specs.Skipping.{AreRelabellings, ClosedHold, EachSettles, ListingsDecide}
use Rattle.skip_runs.specs.Skipping.{NoClash, HasRelabelling, IsBare}

-- A way of skipping: which directories count as whole, which stored digests as current, what
-- becomes of a stored digest that isn't renewed, and whether a run renews.
pub record SkippingWay (K : Kinds) : Type 0 where
  pub counts_as_whole : WalkedTree → Relabelling K → ℕ → Bool
  pub counts_as_current : Option K.Digest → K.Listing → Bool
  pub left_over : Option K.Digest → Bool → Option K.Digest
  pub renews_in : Relabelling K → Bool

-- the way of this crate
abbrev pub right_way : (K : Kinds) → SkippingWay K
right_way K =
    record {
      counts_as_whole = whole;
      counts_as_current = is_current_in K;
      left_over = zeroed K;
      renews_in = λ r. not r.dry && digests_used r;
    }

abbrev pub skip_by : {K : Kinds} → SkippingWay K → WalkedTree → Relabelling K → State K → ℕ → Bool
skip_by way t r s d =
    t.is_directory d && (r.skips && not r.renews) && way.counts_as_whole t r d
    && way.counts_as_current (s.digests d) (r.listing d)

abbrev pub new_digest_by : {K : Kinds} → SkippingWay K → WalkedTree → Relabelling K → (ℕ → Bool)
    → State K
    → ℕ
    → Option K.Digest
new_digest_by {K} way t r walk s d =
    if t.is_directory d && walk d && way.counts_as_whole t r d && way.renews_in r
    then Some (K.digest_of (r.listing d))
    else way.left_over (s.digests d) (not r.dry && above_change t r walk s.labels d)

-- what is left after a run, and after all of the runs, in this way
abbrev pub leaves_by : {K : Kinds} → SkippingWay K → WalkedTree → Relabelling K → (ℕ → Bool)
    → State K
    → State K
leaves_by way t r walk s =
    record {
      labels = λ g. if r.dry then s.labels g else new_label_in t r walk s.labels g;
      digests = new_digest_by way t r walk s;
    }

abbrev pub after_all_by : {K : Kinds} → SkippingWay K → WalkedTree → State K → List (Relabelling K)
    → State K
after_all_by way t s [] = s
after_all_by way t s (r ∷ runs) =
    after_all_by way t (leaves_by way t r (walked_in t r (skip_by way t r s)) s) runs

-- how numbers are compared and digested
pub record Comparing : Type 0 where
  pub same_label : ℕ → ℕ → Bool
  pub same_digest : ℕ → ℕ → Bool
  pub digest_of : ℕ → ℕ

-- Labels, contexts, listings and digests are numbers.
abbrev pub numbers_by : Comparing → Kinds
numbers_by by =
    record {
      Label = ℕ;
      Context = ℕ;
      Listing = ℕ;
      Digest = ℕ;
      same_label = by.same_label;
      same_digest = by.same_digest;
      digest_of = by.digest_of;
      zero_digest = 0;
    }

-- comparisons are exact, and a listing is its own digest
abbrev pub itself : Comparing
itself =
    record { same_label = ◌==◌; same_digest = ◌==◌; digest_of = λ listing. listing }

abbrev pub numbers : Kinds
numbers = numbers_by itself

-- There are runs from a state without digests that meet all that is asked of runs, and some group
-- has another label after them, in this way, than after the same runs with skipping off.
pub record Breaks (way : SkippingWay numbers) : Type 0 where
  pub t : WalkedTree
  pub runs : List (Relabelling numbers)
  pub s : State numbers
  pub are_runs : AreRelabellings t (HasRelabelling runs)
  pub bare : IsBare s
  pub group : ℕ
  pub other : (after_all_by way t s runs).labels group ≢ (after_all_off t s runs).labels group

-- as the right way, but a group may have a name outside
abbrev pub names_outside : SkippingWay numbers
names_outside =
    record (right_way numbers) {
      counts_as_whole = λ t r d. all_below t.count (λ e. implies (t.in_extent d e) (r.live e));
    }

-- as the right way, but the extent may have entries that aren't live
abbrev pub with_exclusions : SkippingWay numbers
with_exclusions = record (right_way numbers) { counts_as_whole = λ t r d. r.closed d }

-- as the right way, but digests stay above a changed label
abbrev pub left_standing : SkippingWay numbers
left_standing = record (right_way numbers) { left_over = λ stored void. stored }

abbrev pub equal_digest : Option ℕ → ℕ → Bool
equal_digest None listing = false
equal_digest (Some stored) listing = stored == listing

-- as the right way, but the zero digest counts
abbrev pub zero_counts : SkippingWay numbers
zero_counts = record (right_way numbers) { counts_as_current = equal_digest }

-- as the right way, but a dry run stores digests
abbrev pub dry_renews : SkippingWay numbers
dry_renews = record (right_way numbers) { renews_in = digests_used }

-- runs that meet all that is asked, of which the second skips a directory
pub record Happens : Type 0 where
  pub t : WalkedTree
  pub first : Relabelling numbers
  pub second : Relabelling numbers
  pub s : State numbers
  pub are_runs : AreRelabellings t (HasRelabelling (first ∷ second ∷ []))
  pub bare : IsBare s
  pub directory : ℕ
  pub skips_it : skippable_in t second (after t s first) directory ≡ true

-- There are runs of which this much is true, and some group has another label after them than with
-- skipping off.
pub record Differ (K : Kinds) (Asked : WalkedTree → (Relabelling K → Type 0) → State K
    → Type 0) : Type 0 where
  pub t : WalkedTree
  pub runs : List (Relabelling K)
  pub s : State K
  pub asked : Asked t (HasRelabelling runs) s
  pub group : ℕ
  pub other : (after_all t s runs).labels group ≢ (after_all_off t s runs).labels group

-- each listing has the digest 1
abbrev pub one_digest : Comparing
one_digest = record itself { digest_of = λ listing. 1 }

-- no two labels are told apart
abbrev pub loose_labels : Comparing
loose_labels = record itself { same_label = λ a b. true }

-- no two digests are told apart, but for the zero digest
abbrev pub loose_digests : Comparing
loose_digests =
    record itself { same_digest = λ a b. if a == 0 then b == 0 else not (b == 0) }

-- all that is asked of runs, where comparisons are these
abbrev pub DifferComparing : Comparing → Type 0
DifferComparing by =
    Differ (numbers_by by) (λ t Among s. AreRelabellings t Among × IsBare s)

-- all that is asked, but that no two listings clash
abbrev pub DifferByClash : Type 0
DifferByClash =
    Differ (numbers_by one_digest)
    (λ t Among s. EachSettles Among × ClosedHold t Among × ListingsDecide t Among × IsBare s)

-- all but that a directory which is taken as closed holds its groups
abbrev pub DifferByClosed : Type 0
DifferByClosed =
    Differ numbers
    (λ t Among s. EachSettles Among × ListingsDecide t Among × NoClash t Among × IsBare s)

-- all but that equal listings tell the same
abbrev pub DifferByListings : Type 0
DifferByListings =
    Differ numbers
    (λ t Among s. EachSettles Among × ClosedHold t Among × NoClash t Among × IsBare s)

-- all but that labels that were given are kept
abbrev pub DifferByUnsettled : Type 0
DifferByUnsettled =
    Differ numbers
    (λ t Among s. ClosedHold t Among × ListingsDecide t Among × NoClash t Among × IsBare s)

-- all but that there are no digests to begin with
abbrev pub DifferByOldDigests : Type 0
DifferByOldDigests =
    Differ numbers
    (λ t Among s. EachSettles Among × ClosedHold t Among × ListingsDecide t Among × NoClash t Among)
