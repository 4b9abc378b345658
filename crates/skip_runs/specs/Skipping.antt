-- What skipping is safe under, and that it is.
use Rattle.std.specs.Prelude.{◌≡◌, ℕ, ◌<◌, true, List, [], ◌∷◌, ◌++◌, ◌⊎◌, Some, None, Decides}
use Rattle.skip_runs.specs.Relabel.{Kinds, WalkedTree, Relabelling, State, whole, digests_used}
use Rattle.skip_runs.specs.Relabel.{after, after_all, after_all_off}

-- the comparisons of labels and digests are exact
pub record AreExact (K : Kinds) : Type 0 where
  pub labels : (a b : K.Label) → Decides (K.same_label a b) (a ≡ b)
  pub digests : (a b : K.Digest) → Decides (K.same_digest a b) (a ≡ b)

-- the list has the run
abbrev pub HasRelabelling : {K : Kinds} → List (Relabelling K) → Relabelling K → Type 0
HasRelabelling [] r = ⊥
HasRelabelling (first ∷ runs) r = (first ≡ r) ⊎ HasRelabelling runs r

-- ---- what is asked of runs

-- a label that a run gave is one that it keeps, where the same is wanted
abbrev pub Settles : {K : Kinds} → Relabelling K → Type 0
Settles {K} r =
    (label new : K.Label) (wanted : K.Context) → r.decide label wanted ≡ Some new
    → r.decide new wanted ≡ None

-- every group that has a name in the directory's extent has all its names there
abbrev pub HoldsGroups : WalkedTree → ℕ → Type 0
HoldsGroups t d =
    (e x : ℕ) → e < t.count → x < t.count → t.in_extent d e ≡ true
    → t.group_of x ≡ t.group_of e → t.in_extent d x ≡ true

-- two runs decide the same in the directory's extent, and change labels alike
pub record Agree {K : Kinds} (t : WalkedTree) (a b : Relabelling K) (d : ℕ) : Type 0 where
  pub decision : (e : ℕ) → e < t.count → t.in_extent d e ≡ true → a.decision e ≡ b.decision e
  pub decide : (label : K.Label) (wanted : K.Context)
      → a.decide label wanted ≡ b.decide label wanted

-- the run stores digests, and the directory is whole in it: so its listing is digested
pub record IsListedDirectory {K : Kinds} (t : WalkedTree) (r : Relabelling K) (d : ℕ) : Type 0 where
  pub inside : d < t.count
  pub directory : t.is_directory d ≡ true
  pub digests : digests_used r ≡ true
  pub whole_in : whole t r d ≡ true

abbrev pub EachSettles : {K : Kinds} → (Relabelling K → Type 0) → Type 0
EachSettles {K} Among = (r : Relabelling K) → Among r → Settles r

-- a directory that a run takes as closed holds its groups; it may ask for more
abbrev pub ClosedHold : {K : Kinds} → WalkedTree → (Relabelling K → Type 0) → Type 0
ClosedHold {K} t Among =
    (r : Relabelling K) → Among r → (d : ℕ) → d < t.count → t.is_directory d ≡ true
    → r.closed d ≡ true → HoldsGroups t d

-- runs with equal listings of a directory agree on it
abbrev pub ListingsDecide : {K : Kinds} → WalkedTree → (Relabelling K → Type 0) → Type 0
ListingsDecide {K} t Among =
    (a b : Relabelling K) → Among a → Among b → (d : ℕ) → d < t.count → t.is_directory d ≡ true
    → a.listing d ≡ b.listing d → Agree t a b d

-- no two listings that are digested differ and have one digest
abbrev pub NoClash : {K : Kinds} → WalkedTree → (Relabelling K → Type 0) → Type 0
NoClash {K} t Among =
    (a b : Relabelling K) → Among a → Among b → (d e : ℕ) → IsListedDirectory t a d
    → IsListedDirectory t b e
    → K.digest_of (a.listing d) ≡ K.digest_of (b.listing e) → a.listing d ≡ b.listing e

pub record AreRelabellings {K : Kinds} (t : WalkedTree) (Among : Relabelling K → Type 0) : Type 0
  where
    pub settle : EachSettles Among
    pub closed : ClosedHold t Among
    pub agree : ListingsDecide t Among
    pub no_clash : NoClash t Among

-- no directory has a digest
abbrev pub IsBare : {K : Kinds} → State K → Type 0
IsBare s = (d : ℕ) → s.digests d ≡ None

-- ---- theorems

-- From a state without digests, runs leave the labels that the same runs leave with skipping off.
abbrev pub SkippingKeepsLabelsOf : Kinds → Type 0
SkippingKeepsLabelsOf K =
    AreExact K → (t : WalkedTree) (runs : List (Relabelling K))
    → AreRelabellings t (HasRelabelling runs)
    → (s : State K) → IsBare s
    → (g : ℕ) → (after_all t s runs).labels g ≡ (after_all_off t s runs).labels g

-- two states have the same labels of the tree's groups and the same digests of its directories
pub record IsLike {K : Kinds} (t : WalkedTree) (now s : State K) : Type 0 where
  pub labels : (e : ℕ) → e < t.count → now.labels (t.group_of e) ≡ s.labels (t.group_of e)
  pub digests : (d : ℕ) → d < t.count → t.is_directory d ≡ true → now.digests d ≡ s.digests d

-- A run looks at nothing else of a state: from states that are alike it leaves such states.
abbrev pub AlikeStaysAlike : Kinds → Type 0
AlikeStaysAlike K =
    (t : WalkedTree) (r : Relabelling K) (now s : State K) → IsLike t now s
    → IsLike t (after t now r) (after t s r)

-- One more run: from the state that runs leave which began without digests, it leaves the labels
-- that all of them leave with skipping off.
abbrev pub OneMoreKeepsLabels : Kinds → Type 0
OneMoreKeepsLabels K =
    AreExact K → (t : WalkedTree) (runs : List (Relabelling K)) (r : Relabelling K)
    → AreRelabellings t (HasRelabelling (runs ++ r ∷ []))
    → (s : State K) → IsBare s → (now : State K) → IsLike t now (after_all t s runs)
    → (e : ℕ) → e < t.count
    → (after t now r).labels (t.group_of e)
    ≡ (after_all_off t s (runs ++ r ∷ [])).labels (t.group_of e)
