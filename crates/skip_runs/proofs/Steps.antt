-- One run, and what is kept of the earlier ones.
use Rattle.std.proofs.Common.{◌≡◌, ◌∙◌, ap, sym, refl, subst, ℕ, ◌<◌, Bool, true, false, not, cond}
use Rattle.std.proofs.Common.{◌==◌, ◌&&◌, ◌⊎◌, Option, Some, None, inl, inr, eqb-true, eq-eqb}
use Rattle.std.proofs.lemmas.Bool.{and_parts, and_right, and_from, or_left, cases_Bool, cond_both}
use Rattle.std.proofs.lemmas.Bool.{not_from_true, not-true, not-false, false≢true}
use Rattle.std.proofs.lemmas.Option.{same_Some}
use Rattle.label_base.specs.Bounded.{all_below, any_below, implies}
use Rattle.skip_runs.specs.Relabel.{Kinds, WalkedTree, Relabelling, State, whole, digests_used}
use Rattle.skip_runs.specs.Relabel.{is_current_in, skippable_in, skipped, walked_in, winner_in}
use Rattle.skip_runs.specs.Relabel.{wanted_by, relabelled, new_label_in, changed, above_change}
use Rattle.skip_runs.specs.Relabel.{renewed, zeroed, new_digest, after, after_off}
use Rattle.skip_runs.specs.Skipping.{AreExact, AreRelabellings, HoldsGroups}
use Rattle.label_base.proofs.BoundedLemmas.{implies_at, all_at, any_at, any_has, none_at, none_from}
use Rattle.skip_runs.proofs.Settled.{every, Keeps, Settled, kept, keeps_new, winner_same, no_winner}
use Rattle.skip_runs.proofs.Settled.{settled_like, settled_on}

-- an earlier run that stored this digest at the directory, which is settled under it now
pub record Stored {K : Kinds} (t : WalkedTree) (Past : Relabelling K → Type 0)
    (labels : ℕ → K.Label) (d : ℕ) (digest : K.Digest) : Type 0 where
  pub run : Relabelling K
  pub past : Past run
  pub digests : digests_used run ≡ true
  pub whole_in : whole t run d ≡ true
  pub digest_is : digest ≡ K.digest_of (run.listing d)
  pub settled : Settled t run labels d

-- what is kept from run to run: each stored digest that isn't zero was stored by an earlier run
abbrev pub Kept : {K : Kinds} → WalkedTree → (Relabelling K → Type 0) → State K → Type 0
Kept {K} t Past s = (d : ℕ) (digest : K.Digest) → d < t.count → s.digests d ≡ Some digest
    → K.same_digest digest K.zero_digest ≡ false → Stored t Past s.labels d digest

-- what the test of a stored digest tells
record Current (K : Kinds) (stored : Option K.Digest) (listing : K.Listing) : Type 0 where
  digest : K.Digest
  stored_is : stored ≡ Some digest
  nonzero : K.same_digest digest K.zero_digest ≡ false
  same : digest ≡ K.digest_of listing

current_shows : (K : Kinds) → AreExact K → (stored : Option K.Digest) (listing : K.Listing)
    → is_current_in K stored listing ≡ true → Current K stored listing
current_shows K exact None listing h = cc
current_shows K exact (Some digest) listing h =
    let both = and_parts (not (K.same_digest digest K.zero_digest))
    (K.same_digest digest (K.digest_of listing)) h in
    record {
      digest = digest;
      stored_is = refl;
      nonzero = not-true (K.same_digest digest K.zero_digest) both.0;
      same = (exact.digests digest (K.digest_of listing)).0 both.1;
    }

-- what the test tells of a directory that is to be skipped
record Skippable {K : Kinds} (t : WalkedTree) (r : Relabelling K) (s : State K) (d : ℕ) : Type 0
  where
    directory : t.is_directory d ≡ true
    digests : digests_used r ≡ true
    whole_in : whole t r d ≡ true
    current : is_current_in K (s.digests d) (r.listing d) ≡ true

skippable_shows : {K : Kinds} (t : WalkedTree) (r : Relabelling K) (s : State K) (d : ℕ)
    → skippable_in t r s d ≡ true → Skippable t r s d
skippable_shows {K} t r s d h =
    let a = and_parts (t.is_directory d && (r.skips && not r.renews) && whole t r d)
    (is_current_in K (s.digests d) (r.listing d)) h in
    let b = and_parts (t.is_directory d && (r.skips && not r.renews)) (whole t r d) a.0 in
    let c = and_parts (t.is_directory d) (r.skips && not r.renews) b.0 in
    record {
      directory = c.0;
      digests = or_left r.skips r.renews (and_parts r.skips (not r.renews) c.1).0;
      whole_in = b.1;
      current = a.1;
    }

-- a whole directory's extent is live
live_in : {K : Kinds} (t : WalkedTree) (r : Relabelling K) (d e : ℕ) → whole t r d ≡ true
    → e < t.count → t.in_extent d e ≡ true → r.live e ≡ true
live_in t r d e h l i =
    implies_at (t.in_extent d e) (r.live e)
    (all_at t.count (λ e. implies (t.in_extent d e) (r.live e)) e
    (and_parts (r.closed d) (all_below t.count (λ e. implies (t.in_extent d e) (r.live e))) h).1
    l) i

closed_in : {K : Kinds} (t : WalkedTree) (r : Relabelling K) (d : ℕ) → whole t r d ≡ true
    → r.closed d ≡ true
closed_in t r d h =
    (and_parts (r.closed d) (all_below t.count (λ e. implies (t.in_extent d e) (r.live e))) h).0

-- a run with its past: what is known before it
pub record Ready {K : Kinds} (t : WalkedTree) (Among Past : Relabelling K → Type 0)
    (r : Relabelling K) (s : State K) : Type 0 where
  pub exact : AreExact K
  pub runs : AreRelabellings t Among
  pub past_among : (a : Relabelling K) → Past a → Among a
  pub among : Among r
  pub kept_is : Kept t Past s

-- a directory that is whole holds its groups
holds_in : {K : Kinds} (t : WalkedTree) (Among Past : Relabelling K → Type 0) (r : Relabelling K)
    (s : State K) (d : ℕ) → Ready t Among Past r s
    → d < t.count → t.is_directory d ≡ true → whole t r d ≡ true → HoldsGroups t d
holds_in t Among Past r s d ready l directory w = ready.runs.closed r ready.among d l directory
    (closed_in t r d w)

-- a directory that is skipped is settled
settled_from : {K : Kinds} (t : WalkedTree) (Among Past : Relabelling K → Type 0)
    (r : Relabelling K) (s : State K) (d : ℕ) → Ready t Among Past r s → d < t.count
    → Skippable t r s d → Settled t r s.labels d
settled_from {K} t Among Past r s d ready l k =
    let now = current_shows K ready.exact (s.digests d) (r.listing d) k.current in
    let then = ready.kept_is d now.digest l now.stored_is now.nonzero in
    let among = ready.past_among then.run then.past in
    let one = ready.runs.no_clash then.run r among ready.among d d
    (record {
      inside = l;
      directory = k.directory;
      digests = then.digests;
      whole_in = then.whole_in;
    })
    (record { inside = l; directory = k.directory; digests = k.digests; whole_in = k.whole_in })
    (sym then.digest_is ∙ now.same) in
    settled_like t then.run r s.labels d
    (ready.runs.agree then.run r among ready.among d l k.directory one) then.settled

-- a group that a run skips: it lies in a directory that is whole and settled, and none of its
-- entries is walked
record Passed {K : Kinds} (t : WalkedTree) (r : Relabelling K) (s : State K) (g : ℕ) : Type 0 where
  winner_is : winner_in t r (walked_in t r (skippable_in t r s)) g ≡ None
  keeps : Keeps r (s.labels g) (wanted_by r (winner_in t r every g))
  live : (e : ℕ) → e < t.count → t.group_of e ≡ g → r.live e ≡ true

-- no entry of the group is skipped
abbrev Open : {K : Kinds} → WalkedTree → Relabelling K → State K → ℕ → Type 0
Open t r s g = (e : ℕ) → e < t.count → t.group_of e ≡ g → skipped t (skippable_in t r s) e ≡ false

not_walked : {K : Kinds} (t : WalkedTree) (r : Relabelling K) (skip : ℕ → Bool) (e : ℕ)
    → skipped t skip e ≡ true → walked_in t r skip e ≡ false
not_walked t r skip e h = and_right (r.live e) (not (skipped t skip e))
    (not_from_true (skipped t skip e) h)

passed_from : {K : Kinds} (t : WalkedTree) (Among Past : Relabelling K → Type 0) (r : Relabelling K)
    (s : State K) (e d : ℕ) → Ready t Among Past r s
    → e < t.count → d < t.count → skippable_in t r s d ≡ true → t.in_extent d e ≡ true
    → Passed t r s (t.group_of e)
passed_from t Among Past r s e d ready le ld sk i =
    let k = skippable_shows t r s d sk in
    let holds = holds_in t Among Past r s d ready ld k.directory k.whole_in in
    let settled = settled_from t Among Past r s d ready ld k in
    let inside : (x : ℕ) → x < t.count → t.group_of x ≡ t.group_of e → t.in_extent d x ≡ true =
    λ x lx g. holds e x le lx i g in
    record {
      winner_is = no_winner t r (walked_in t r (skippable_in t r s)) (t.group_of e)
          (λ x lx g. not_walked t r (skippable_in t r s) x
          (any_at t.count (λ d. skippable_in t r s d && t.in_extent d x) d ld
          (and_from (skippable_in t r s d) (t.in_extent d x) sk (inside x lx g))));
      keeps = settled.keeps e le i;
      live = λ x lx g. live_in t r d x k.whole_in lx (inside x lx g);
    }

right_false : (a b : Bool) → (a && b) ≡ false → a ≡ true → b ≡ false
right_false true b h e = h
right_false false b h e = cc

-- each group is skipped as a whole, or open
passed_or_open : {K : Kinds} (t : WalkedTree) (Among Past : Relabelling K → Type 0)
    (r : Relabelling K) (s : State K) (g : ℕ) → Ready t Among Past r s
    → Passed t r s g ⊎ Open t r s g
passed_or_open t Among Past r s g ready =
    elim (cases_Bool
    (any_below t.count (λ e. (t.group_of e == g) && skipped t (skippable_in t r s) e))) [
      | inl y ↦ (let p = any_has t.count
          (λ e. (t.group_of e == g) && skipped t (skippable_in t r s) e) y in
          let both = and_parts (t.group_of p.0 == g) (skipped t (skippable_in t r s) p.0) p.2 in
          let q = any_has t.count (λ d. skippable_in t r s d && t.in_extent d p.0) both.1 in
          let those = and_parts (skippable_in t r s q.0) (t.in_extent q.0 p.0) q.2 in
          inl (subst (λ g. Passed t r s g) (eqb-true (t.group_of p.0) g both.0)
          (passed_from t Among Past r s p.0 q.0 ready p.1 q.1 those.0 those.1)))
      | inr n ↦ inr (λ e l h. right_false (t.group_of e == g) (skipped t (skippable_in t r s) e)
          (none_at t.count (λ e. (t.group_of e == g) && skipped t (skippable_in t r s) e) e n l)
          (eq-eqb (t.group_of e) g h))
    ]

walked_open : {K : Kinds} (t : WalkedTree) (r : Relabelling K) (skip : ℕ → Bool) (e : ℕ)
    → skipped t skip e ≡ false → walked_in t r skip e ≡ r.live e
walked_open t r skip e h = ap (λ b. r.live e && not b) h ∙ and_true (r.live e)
  where
    and_true : (a : Bool) → (a && true) ≡ a
    and_true true = refl
    and_true false = refl

none_skipped : (t : WalkedTree) (e : ℕ) → skipped t (λ d. false) e ≡ false
none_skipped t e = none_from t.count (λ d. false && t.in_extent d e) (λ d l. refl)

walked_off : {K : Kinds} (t : WalkedTree) (r : Relabelling K) (e : ℕ) → walked_in t r (λ d. false) e
    ≡ r.live e
walked_off t r e = walked_open t r (λ d. false) e (none_skipped t e)

-- where a group is skipped, its label stays, and stays too where it is walked
label_passed : {K : Kinds} (t : WalkedTree) (r : Relabelling K) (s : State K) (g : ℕ)
    → Passed t r s g → new_label_in t r (walked_in t r (skippable_in t r s)) s.labels g ≡ s.labels g
label_passed t r s g p = ap (λ o. relabelled r (s.labels g) (wanted_by r o)) p.winner_is

label_passed_off : {K : Kinds} (t : WalkedTree) (r : Relabelling K) (s : State K) (g : ℕ)
    → Passed t r s g → new_label_in t r (walked_in t r (λ d. false)) s.labels g ≡ s.labels g
label_passed_off t r s g p =
    ap (λ o. relabelled r (s.labels g) (wanted_by r o))
    (winner_same t r (walked_in t r (λ d. false)) every g
    (λ e l h. walked_off t r e ∙ p.live e l h))
    ∙ kept r (s.labels g) (wanted_by r (winner_in t r every g)) p.keeps

label_open : {K : Kinds} (t : WalkedTree) (r : Relabelling K) (s : State K) (g : ℕ) → Open t r s g
    → new_label_in t r (walked_in t r (skippable_in t r s)) s.labels g ≡ new_label_in t r
    (walked_in t r (λ d. false)) s.labels g
label_open t r s g o =
    ap (λ o. relabelled r (s.labels g) (wanted_by r o))
    (winner_same t r (walked_in t r (skippable_in t r s)) (walked_in t r (λ d. false)) g
    (λ e l h. walked_open t r (skippable_in t r s) e (o e l h) ∙ sym (walked_off t r e)))

-- a run leaves the labels that it leaves with skipping off
pub label_same : {K : Kinds} (t : WalkedTree) (Among Past : Relabelling K → Type 0)
    (r : Relabelling K) (s : State K) (g : ℕ) → Ready t Among Past r s
    → new_label_in t r (walked_in t r (skippable_in t r s)) s.labels g ≡ new_label_in t r
    (walked_in t r (λ d. false)) s.labels g
label_same t Among Past r s g ready =
    elim (passed_or_open t Among Past r s g ready) [
      | inl p ↦ label_passed t r s g p ∙ sym (label_passed_off t r s g p)
      | inr o ↦ label_open t r s g o
    ]

-- one directory after a run that walks
renewed_settled : {K : Kinds} (t : WalkedTree) (Among Past : Relabelling K → Type 0)
    (r : Relabelling K) (s : State K) (d : ℕ) → Ready t Among Past r s
    → HoldsGroups t d → whole t r d ≡ true
    → Settled t r (new_label_in t r (walked_in t r (skippable_in t r s)) s.labels) d
renewed_settled t Among Past r s d ready holds w =
    record {
      holds = holds;
      keeps = λ x l i. elim (passed_or_open t Among Past r s (t.group_of x) ready) [
        | inl p ↦ subst (λ label. Keeps r label (wanted_by r (winner_in t r every (t.group_of x))))
            (sym (label_passed t r s (t.group_of x) p)) p.keeps
        | inr o ↦ (let same : winner_in t r (walked_in t r (skippable_in t r s)) (t.group_of x)
            ≡ winner_in t r every (t.group_of x) =
            winner_same t r (walked_in t r (skippable_in t r s)) every (t.group_of x)
            (λ e le h. walked_open t r (skippable_in t r s) e (o e le h)
            ∙ live_in t r d e w le (holds x e l le i h)) in
            subst (λ o. Keeps r
            (relabelled r (s.labels (t.group_of x))
            (wanted_by r (winner_in t r (walked_in t r (skippable_in t r s)) (t.group_of x))))
            (wanted_by r o)) same
            (keeps_new r (s.labels (t.group_of x))
            (wanted_by r (winner_in t r (walked_in t r (skippable_in t r s)) (t.group_of x)))
            (ready.runs.settle r ready.among)))
      ];
    }

-- a run is of the past once it is made
abbrev pub And : {K : Kinds} → Relabelling K → (Relabelling K → Type 0) → Relabelling K → Type 0
And r Past a = (r ≡ a) ⊎ Past a

older : {K : Kinds} (t : WalkedTree) (Past : Relabelling K → Type 0) (r : Relabelling K)
    (labels labels' : ℕ → K.Label) (d : ℕ) (digest : K.Digest)
    → ((x : ℕ) → x < t.count → t.in_extent d x ≡ true → labels (t.group_of x)
    ≡ labels' (t.group_of x))
    → Stored t Past labels d digest → Stored t (And r Past) labels' d digest
older t Past r labels labels' d digest same o =
    record {
      run = o.run;
      past = inr o.past;
      digests = o.digests;
      whole_in = o.whole_in;
      digest_is = o.digest_is;
      settled = settled_on t o.run labels labels' d same o.settled;
    }

-- what stays of a stored digest
record Stays (K : Kinds) (stored : Option K.Digest) (void : Bool) (digest : K.Digest) : Type 0 where
  stored_is : stored ≡ Some digest
  not_void : void ≡ false

stays : (K : Kinds) → AreExact K → (stored : Option K.Digest) (void : Bool) (digest : K.Digest)
    → zeroed K stored void ≡ Some digest → K.same_digest digest K.zero_digest ≡ false
    → Stays K stored void digest
stays K exact None void digest h n = cc
stays K exact (Some y) true digest h n =
    absurd (false≢true
    (sym n ∙ (exact.digests digest K.zero_digest).1 (sym (same_Some K.zero_digest digest h))))
stays K exact (Some y) false digest h n = record { stored_is = h; not_void = refl }

-- labels in the extent of a directory that is above no change
unchanged : {K : Kinds} (t : WalkedTree) (r : Relabelling K) (walk : ℕ → Bool)
    (labels : ℕ → K.Label) (d x : ℕ) → AreExact K → above_change t r walk labels d ≡ false
    → x < t.count → t.in_extent d x ≡ true → labels (t.group_of x) ≡ new_label_in t r walk labels
    (t.group_of x)
unchanged {K} t r walk labels d x exact h l i =
    let n = none_at t.count (λ e. t.in_extent d e && changed t r walk labels (t.group_of e)) x h
    l in
    let same : K.same_label (new_label_in t r walk labels (t.group_of x)) (labels (t.group_of x))
    ≡ true =
    not-false (K.same_label (new_label_in t r walk labels (t.group_of x)) (labels (t.group_of x)))
    (right_false (t.in_extent d x) (changed t r walk labels (t.group_of x)) n i) in
    sym ((exact.labels (new_label_in t r walk labels (t.group_of x)) (labels (t.group_of x))).0
    same)

-- what is kept before a run is kept after it, for a directory
kept_at : {K : Kinds} (t : WalkedTree) (Among Past : Relabelling K → Type 0) (r : Relabelling K)
    (s : State K) (d : ℕ) (digest : K.Digest) (b : Bool) → Ready t Among Past r s
    → d < t.count → renewed t r (walked_in t r (skippable_in t r s)) d ≡ b
    → cond b (Some (K.digest_of (r.listing d)))
    (zeroed K (s.digests d) (above_change t r (walked_in t r (skippable_in t r s)) s.labels d))
    ≡ Some digest
    → K.same_digest digest K.zero_digest ≡ false
    → Stored t (And r Past) (new_label_in t r (walked_in t r (skippable_in t r s)) s.labels) d
    digest
kept_at {K} t Among Past r s d digest true ready l was h n =
    let walk = walked_in t r (skippable_in t r s) in
    let a = and_parts (t.is_directory d && walk d && whole t r d) (digests_used r) was in
    let b = and_parts (t.is_directory d && walk d) (whole t r d) a.0 in
    let holds = holds_in t Among Past r s d ready l (and_parts (t.is_directory d) (walk d) b.0).0
    b.1 in
    record {
      run = r;
      past = inl refl;
      digests = a.1;
      whole_in = b.1;
      digest_is = sym (same_Some (K.digest_of (r.listing d)) digest h);
      settled = renewed_settled t Among Past r s d ready holds b.1;
    }
kept_at {K} t Among Past r s d digest false ready l was h n =
    let walk = walked_in t r (skippable_in t r s) in
    let here = stays K ready.exact (s.digests d) (above_change t r walk s.labels d) digest h n in
    older t Past r s.labels (new_label_in t r walk s.labels) d digest
    (λ x l i. unchanged t r walk s.labels d x ready.exact here.not_void l i)
    (ready.kept_is d digest l here.stored_is n)

-- what is kept before a run is kept after it
pub kept_after : {K : Kinds} (t : WalkedTree) (Among Past : Relabelling K → Type 0)
    (r : Relabelling K) (s : State K) → Ready t Among Past r s → Kept t (And r Past) (after t s r)
kept_after {K} t Among Past r s ready =
    cond_both r.dry s
    (record {
      labels = new_label_in t r (walked_in t r (skippable_in t r s)) s.labels;
      digests = new_digest t r (walked_in t r (skippable_in t r s)) s;
    })
    (λ s'. Kept t (And r Past) s')
    (λ dry d digest l h n. older t Past r s.labels s.labels d digest (λ x l i. refl)
    (ready.kept_is d digest l h n))
    (λ wet d digest l h n. kept_at t Among Past r s d digest
    (renewed t r (walked_in t r (skippable_in t r s)) d) ready l refl h n)

pub labels_of : {K : Kinds} (b : Bool) (s s' n n' : State K) (g : ℕ) → s.labels g ≡ s'.labels g
    → n.labels g ≡ n'.labels g → (cond b s n).labels g ≡ (cond b s' n').labels g
labels_of true s s' n n' g e f = e
labels_of false s s' n n' g e f = f

-- a run leaves the labels that it leaves with skipping off from any state with these labels
pub labels_after : {K : Kinds} (t : WalkedTree) (Among Past : Relabelling K → Type 0)
    (r : Relabelling K) (s s' : State K) → Ready t Among Past r s
    → ((g : ℕ) → s.labels g ≡ s'.labels g) → (g : ℕ) → (after t s r).labels g
    ≡ (after_off t s' r).labels g
labels_after t Among Past r s s' ready same g =
    labels_of r.dry s s'
    (record {
      labels = new_label_in t r (walked_in t r (skippable_in t r s)) s.labels;
      digests = new_digest t r (walked_in t r (skippable_in t r s)) s;
    })
    (record {
      labels = new_label_in t r (walked_in t r (λ d. false)) s'.labels;
      digests = new_digest
          t r (walked_in t r (λ d. false)) s';
    })
    g (same g)
    (label_same t Among Past r s g ready
    ∙ ap (λ label. relabelled r label
    (wanted_by r (winner_in t r (walked_in t r (λ d. false)) g))) (same g))
