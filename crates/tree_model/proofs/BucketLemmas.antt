-- Entries by the buckets of their inodes.
use Rattle.std.proofs.Common.{◌≡◌, ◌∙◌, ap, ap₂, sym, subst, ℕ, ◌+◌, ◌<◌, ◌≤◌, ◌^◌, ◌++◌, ◌∷◌, []}
use Rattle.std.proofs.Common.{true, false, List, length, map, take, get_or, arith, inl, inr}
use Rattle.std.proofs.lemmas.Bool.{eq-eqb, true≢false, cases_lt}
use Rattle.std.proofs.lemmas.Nat.{mod_below}
use Rattle.std.proofs.lemmas.List.{get_or-map, length-map, take_more}
use Rattle.tree_model.specs.Links.{same_inode}
use Rattle.tree_model.specs.GroupLists.{AreGroups, AreGroupHeads, AreNext, next_at}
use Rattle.tree_model.specs.Firsts.{AreBucketed, inode_bucket, first_with_inode}
use Rattle.tree_model.proofs.NameLemmas.{next_is}
use Rattle.tree_model.proofs.NumberingLemmas.{Inode}
use Rattle.tree_model.proofs.FirstLemmas.{exact, first_upto, inode_in, own_first, same_first}

bucket_within : (count : ℕ) (i : Inode) → 0 < count → inode_bucket count i < count
unfolding inode_bucket
bucket_within count i h = mod_below _ count h

-- the buckets of entries number them as groups do
pub buckets_are_groups : (inodes : List Inode) (buckets : List ℕ) (count : ℕ) → 0 < count
    → length inodes < 2 ^ 32 → buckets ≡ map (inode_bucket count) inodes → AreGroups count buckets
buckets_are_groups inodes buckets count h few e = record {
  inside = λ k l.
      let m : k < length inodes =
      omega (arith, l, ap length e, length-map inodes (inode_bucket count)) in
      subst (λ b. b < count)
      (sym (ap (λ bs. get_or bs k 0) e ∙ get_or-map (inode_bucket count) inodes k (0, 0) 0 m))
      (bucket_within count (inode_in inodes k) h);
  few = omega (arith, few, ap length e, length-map inodes (inode_bucket count));
}

pub bucketed : (inodes : List Inode) (buckets : List ℕ) (count : ℕ) (first next : List ℕ)
    → 0 < count → length inodes < 2 ^ 32 → buckets ≡ map (inode_bucket count) inodes
    → length first ≡ count → AreGroupHeads buckets 0 first → AreNext buckets 0 next
    → AreBucketed inodes buckets first next
bucketed inodes buckets count first next h few e c heads behind =
    let groups = buckets_are_groups inodes buckets count h few e in
    let own = λ (k : ℕ) (l : k < length inodes). ap (λ bs. get_or bs k 0) e
    ∙ get_or-map (inode_bucket count) inodes k (0, 0) 0 l in
    record {
      count = ap length e ∙ length-map inodes (inode_bucket count);
      few = few;
      alike = λ a b l m s. own a l
          ∙ ap (inode_bucket count) (exact (inode_in inodes a) (inode_in inodes b) s)
          ∙ sym (own b m);
      inside = λ k l. subst (λ n. get_or buckets k 0 < n) (sym c) (groups.inside k l);
      heads = heads;
      behind = behind;
    }

-- an entry of the bucket of e that isn't behind the first one of e's inode
pub record IsAlong (inodes : List Inode) (buckets : List ℕ) (e found : ℕ) : Type 0 where
  pub upto : found ≤ first_with_inode inodes (inode_in inodes e)
  pub own : get_or buckets found 0 ≡ get_or buckets e 0

module _ (inodes : List Inode) (buckets first next : List ℕ)
    (h : AreBucketed inodes buckets first next) (e : ℕ) (l : e < length inodes) where
  abbrev its_first : ℕ
  its_first = first_with_inode inodes (inode_in inodes e)

  pub first_within : its_first < length inodes
  first_within = omega (arith, own_first inodes e, l)

  one_bucket : get_or buckets its_first 0 ≡ get_or buckets e 0
  one_bucket =
      sym (h.alike e its_first l first_within (same_first inodes (inode_in inodes e) first_within))

  -- the next one of the bucket from a place on
  along_from : (k : ℕ) → k ≤ its_first
      → IsAlong inodes buckets e (next_at buckets k (get_or buckets e 0))
  along_from k m =
      let n = next_is buckets k (get_or buckets e 0) (omega (arith, m, first_within, h.count)) in
      let low : next_at buckets k (get_or buckets e 0) ≤ its_first =
      elim (cases_lt its_first (next_at buckets k (get_or buckets e 0))) [
        | inl lt ↦ absurd
            (true≢false (sym (eq-eqb (get_or buckets its_first 0) (get_or buckets e 0) one_bucket)
            ∙ n.before its_first m lt))
        | inr ge ↦ ge
      ] in
      record { upto = low; own = n.found (omega (arith, low, first_within, h.count)) }

  pub along_begun : (found : ℕ) → found ≡ get_or first (get_or buckets e 0) 0
      → IsAlong inodes buckets e found
  along_begun found f =
      subst (IsAlong inodes buckets e)
      (sym (f ∙ h.heads.first (get_or buckets e 0) (h.inside e (omega (arith, l, h.count)))))
      (along_from 0 (omega arith))

  module _ (found : ℕ) (a : IsAlong inodes buckets e found) where
    pub along_within : found < length inodes
    along_within = omega (arith, a.upto, first_within)

    pub along_next : (n : ℕ) → same_inode (inode_in inodes e) (inode_in inodes found) ≡ false
        → n ≡ get_or next found 0 → IsAlong inodes buckets e n × (found < n)
    along_next n other is =
        let apart : found ≡ its_first → ⊥ =
        λ same. true≢false (sym (same_first inodes (inode_in inodes e) first_within)
        ∙ ap (λ k. same_inode (inode_in inodes e) (inode_in inodes k)) (sym same) ∙ other) in
        let low : found + 1 ≤ its_first = omega (arith, a.upto, apart) in
        let w : found < length buckets = omega (arith, along_within, h.count) in
        let to : n ≡ next_at buckets (found + 1) (get_or buckets e 0) =
        is ∙ h.behind.behind found (omega arith) w ∙ ap (next_at buckets (found + 1)) a.own in
        let up = next_is buckets (found + 1) (get_or buckets e 0) (omega (arith, w)) in (
          subst (IsAlong inodes buckets e) (sym to) (along_from (found + 1) low),
          omega
              (arith, to, up.low),
        )

    pub along_found : same_inode (inode_in inodes e) (inode_in inodes found) ≡ true
        → found ≡ its_first
    along_found same = omega (arith, a.upto, first_upto inodes (inode_in inodes e) found same)

-- what each inode has, with one more
pub each_next : (f : Inode → ℕ) (inodes : List Inode) (e x : ℕ) (xs xs' : List ℕ)
    → e < length inodes → x ≡ f (inode_in inodes e)
    → xs ≡ take e (map f inodes) → xs' ≡ xs ++ x ∷ []
    → xs' ≡ take (e + 1) (map f inodes)
each_next f inodes e x xs xs' l is old new =
    new ∙ ap₂ (λ ys y. ys ++ y ∷ []) old (is ∙ sym (get_or-map f inodes e (0, 0) 0 l))
    ∙ sym (take_more (map f inodes) e 0 (omega (arith, l, length-map inodes f)))
