-- Runs one after another.
use Rattle.std.proofs.Common.{◌≡◌, ◌∙◌, ap, ap₂, sym, refl, subst, ℕ, Bool, true, false, cond}
use Rattle.std.proofs.Common.{Option, Some, None, List, [], ◌∷◌, ◌++◌, inl, inr}
use Rattle.std.specs.Prelude.{◌<◌, not, ◌&&◌}
use Rattle.std.proofs.lemmas.Bool.{cases_Bool}
use Rattle.skip_runs.specs.Relabel.{Kinds, WalkedTree, Relabelling, State, whole, digests_used}
use Rattle.skip_runs.specs.Relabel.{is_current_in, changed, above_change, renewed, zeroed}
use Rattle.skip_runs.specs.Relabel.{skippable_in, walked_in, winner_in, wanted_by, relabelled}
use Rattle.skip_runs.specs.Relabel.{new_label_in, new_digest, after, after_off, after_all}
use Rattle.skip_runs.specs.Relabel.{after_all_off}
use Rattle.label_base.proofs.BoundedLemmas.{any_same}
use Rattle.skip_runs.proofs.Settled.{winner_same}
use Rattle.skip_runs.specs.Skipping.{AreExact, AreRelabellings, HasRelabelling, IsBare, IsLike}
use Rattle.skip_runs.specs.Skipping.{AlikeStaysAlike, SkippingKeepsLabelsOf, OneMoreKeepsLabels}
use Rattle.skip_runs.proofs.Steps.{Kept, Ready, And, kept_after, labels_of, labels_after}

labels_all : {K : Kinds} (t : WalkedTree) (Among Past : Relabelling K → Type 0)
    (runs : List (Relabelling K)) (s s' : State K) → AreExact K → AreRelabellings t Among
    → ((a : Relabelling K) → Past a → Among a)
    → ((a : Relabelling K) → HasRelabelling runs a → Among a) → Kept t Past s
    → ((g : ℕ) → s.labels g ≡ s'.labels g)
    → (g : ℕ) → (after_all t s runs).labels g ≡ (after_all_off t s' runs).labels g
labels_all t Among Past [] s s' exact all past rest kept same g = same g
labels_all t Among Past (r ∷ runs) s s' exact all past rest kept same g =
    let ready : Ready t Among Past r s =
    record {
      exact = exact;
      runs = all;
      past_among = past;
      among = rest r (inl refl);
      kept_is = kept;
    } in
    labels_all t Among (And r Past) runs (after t s r) (after_off t s' r) exact all
    (λ a h. elim h [ inl e ↦ subst Among e (rest r (inl refl)) | inr p ↦ past a p ])
    (λ a h. rest a (inr h))
    (kept_after t Among Past r s ready)
    (labels_after t Among Past r s s' ready same)
    g

-- no run was made
None_yet : {K : Kinds} → Relabelling K → Type 0
None_yet r = ⊥

kept_bare : {K : Kinds} (t : WalkedTree) (s : State K) → IsBare s → Kept t None_yet s
kept_bare t s bare d digest l h n = absurd (bare_has (s.digests d) digest (bare d) h)
  where
    bare_has : {X : Type 0} (o : Option X) (x : X) → o ≡ None → o ≡ Some x → ⊥
    bare_has o x e f = cc

pub skipping_keeps : (K : Kinds) → SkippingKeepsLabelsOf K
unfolding None_yet
skipping_keeps K exact t runs all s bare g = labels_all t (HasRelabelling runs) None_yet runs s s
    exact all (λ a h. absurd h) (λ a h. h) (kept_bare t s bare) (λ g. refl) g

after_more : {K : Kinds} (t : WalkedTree) (s : State K) (runs : List (Relabelling K))
    (r : Relabelling K) → after_all t s (runs ++ r ∷ []) ≡ after t (after_all t s runs) r
after_more t s [] r = refl
after_more t s (first ∷ runs) r = after_more t (after t s first) runs r

-- a run leaves the same labels from states that are alike

skip_like : {K : Kinds} (t : WalkedTree) (r : Relabelling K) (now s : State K) (d : ℕ)
    → IsLike t now s → d < t.count → skippable_in t r now d ≡ skippable_in t r s d
skip_like {K} t r now s d like l =
    elim (cases_Bool (t.is_directory d)) [
      | inl y ↦ ap (λ o. t.is_directory d && (r.skips && not r.renews) && whole t r d
          && is_current_in K o (r.listing d)) (like.digests d l y)
      | inr n ↦ ap (λ b. b && (r.skips && not r.renews) && whole t r d && is_current_in K
          (now.digests d) (r.listing d)) n
          ∙ sym (ap (λ b. b && (r.skips && not r.renews) && whole t r d && is_current_in K
          (s.digests d) (r.listing d)) n)
    ]

walked_like : {K : Kinds} (t : WalkedTree) (r : Relabelling K) (now s : State K) (e : ℕ)
    → IsLike t now s → walked_in t r (skippable_in t r now) e ≡ walked_in t r (skippable_in t r s) e
walked_like t r now s e like =
    ap (λ b. r.live e && not b)
    (any_same t.count (λ d. skippable_in t r now d && t.in_extent d e)
    (λ d. skippable_in t r s d && t.in_extent d e)
    (λ d l. ap (λ b. b && t.in_extent d e) (skip_like t r now s d like l)))

labels_like : {K : Kinds} (t : WalkedTree) (r : Relabelling K) (now s : State K) (e : ℕ)
    → IsLike t now s → e < t.count → (after t now r).labels (t.group_of e) ≡ (after t s r).labels
    (t.group_of e)
labels_like t r now s e like l =
    let g = t.group_of e in
    labels_of r.dry now s
    (record {
      labels = new_label_in t r (walked_in t r (skippable_in t r now)) now.labels;
      digests = new_digest t r (walked_in t r (skippable_in t r now)) now;
    })
    (record {
      labels = new_label_in t r (walked_in t r (skippable_in t r s)) s.labels;
      digests = new_digest t r (walked_in t r (skippable_in t r s)) s;
    })
    g (like.labels e l)
    (ap (λ label. relabelled r label
    (wanted_by r (winner_in t r (walked_in t r (skippable_in t r now)) g))) (like.labels e l)
    ∙ ap (λ o. relabelled r (s.labels g) (wanted_by r o))
    (winner_same t r (walked_in t r (skippable_in t r now)) (walked_in t r (skippable_in t r s)) g
    (λ x lx h. walked_like t r now s x like)))

digests_of : {K : Kinds} (b : Bool) (s s' n n' : State K) (d : ℕ) → s.digests d ≡ s'.digests d
    → n.digests d ≡ n'.digests d → (cond b s n).digests d ≡ (cond b s' n').digests d
digests_of true s s' n n' d e f = e
digests_of false s s' n n' d e f = f

new_label_like : {K : Kinds} (t : WalkedTree) (r : Relabelling K) (now s : State K) (e : ℕ)
    → IsLike t now s → e < t.count
    → new_label_in t r (walked_in t r (skippable_in t r now)) now.labels (t.group_of e)
    ≡ new_label_in t r (walked_in t r (skippable_in t r s)) s.labels (t.group_of e)
new_label_like t r now s e like l =
    let g = t.group_of e in
    ap (λ label. relabelled r label
    (wanted_by r (winner_in t r (walked_in t r (skippable_in t r now)) g))) (like.labels e l)
    ∙ ap (λ o. relabelled r (s.labels g) (wanted_by r o))
    (winner_same t r (walked_in t r (skippable_in t r now)) (walked_in t r (skippable_in t r s)) g
    (λ x lx h. walked_like t r now s x like))

above_like : {K : Kinds} (t : WalkedTree) (r : Relabelling K) (now s : State K) (d : ℕ)
    → IsLike t now s
    → above_change t r (walked_in t r (skippable_in t r now)) now.labels d ≡ above_change t r
    (walked_in t r (skippable_in t r s)) s.labels d
above_like {K} t r now s d like =
    any_same t.count (λ e. t.in_extent d e && changed t r (walked_in t r (skippable_in t r now))
    now.labels (t.group_of e))
    (λ e. t.in_extent d e && changed t r (walked_in t r (skippable_in t r s)) s.labels
    (t.group_of e))
    (λ e l. ap₂ (λ new old. t.in_extent d e && not (K.same_label new old))
    (new_label_like t r now s e like l) (like.labels e l))

digests_like : {K : Kinds} (t : WalkedTree) (r : Relabelling K) (now s : State K) (d : ℕ)
    → IsLike t now s → d < t.count → t.is_directory d ≡ true → (after t now r).digests d
    ≡ (after t s r).digests d
digests_like {K} t r now s d like l y =
    digests_of r.dry now s
    (record {
      labels = new_label_in t r (walked_in t r (skippable_in t r now)) now.labels;
      digests = new_digest t r (walked_in t r (skippable_in t r now)) now;
    })
    (record {
      labels = new_label_in t r (walked_in t r (skippable_in t r s)) s.labels;
      digests = new_digest t r (walked_in t r (skippable_in t r s)) s;
    })
    d (like.digests d l y)
    (ap (λ w. cond (t.is_directory d && w && whole t r d && digests_used r)
    (Some (K.digest_of (r.listing d)))
    (zeroed K (now.digests d) (above_change t r (walked_in t r (skippable_in t r now)) now.labels
    d))) (walked_like t r now s d like)
    ∙ ap₂ (λ stored void. cond (renewed t r (walked_in t r (skippable_in t r s)) d)
    (Some (K.digest_of (r.listing d))) (zeroed K stored void))
    (like.digests d l y) (above_like t r now s d like))

pub like_after : (K : Kinds) → AlikeStaysAlike K
like_after K t r now s like =
    record {
      labels = λ e l. labels_like t r now s e like l;
      digests = λ d l y. digests_like t r now s d like l y;
    }

pub one_more_keeps : (K : Kinds) → OneMoreKeepsLabels K
one_more_keeps K exact t runs r all s bare now like e l =
    labels_like t r now (after_all t s runs) e like l
    ∙ ap (λ end. end.labels (t.group_of e)) (sym (after_more t s runs r))
    ∙ skipping_keeps K exact t (runs ++ r ∷ []) all s bare (t.group_of e)
