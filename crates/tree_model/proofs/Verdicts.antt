-- Which two of some numbered records are the doubled ones.
use Rattle.std.proofs.Common.{◌≡◌, ◌∙◌, ap, sym, refl, ℕ, ◌≤◌, true, false, List, arith}
use Rattle.std.specs.Prelude.{Option, Some, None}
use Rattle.std.proofs.lemmas.Bool.{true≢false}
use Rattle.tree_model.specs.Numbered.{Numbered}
use Rattle.tree_model.specs.Entries.{contradicts}
use Rattle.tree_model.proofs.Members.{Has}
use Rattle.tree_model.proofs.SameLemmas.{conflict_at, conflict_path}

-- head and other are in conflict, other's number is the least of a record in conflict with one of a
-- lesser number, and head's is the least of that path
pub record IsDoubled (all : List Numbered) (first second : ℕ) : Type 0 where
  pub head : Numbered
  pub other : Numbered
  pub has_head : Has all head
  pub has_other : Has all other
  pub head_is : head.number ≡ first
  pub other_is : other.number ≡ second
  pub upto : first ≤ second
  pub clashes : contradicts head.item other.item ≡ true
  pub least : (a b : Numbered) (n : ℕ) → Has all a → Has all b → contradicts a.item b.item ≡ true
      → a.number ≤ n → b.number ≤ n → second ≤ n
  pub lowest : (a : Numbered) → Has all a → a.item.path ≡ other.item.path → first ≤ a.number

abbrev pub Peace : List Numbered → Type 0
Peace all = (a b : Numbered) → Has all a → Has all b → contradicts a.item b.item ≡ false

abbrev pub Verdict : List Numbered → Option (ℕ × ℕ) → Type 0
Verdict all None = Peace all
Verdict all (Some p) = IsDoubled all p.0 p.1

-- big has the elements of small, and others like them with no lesser numbers
pub record Covers (small big : List Numbered) : Type 0 where
  pub keeps : (a : Numbered) → Has small a → Has big a
  pub like : (a : Numbered) → Has big a → (b : Numbered) × Has small b × (b.item ≡ a.item)
      × (b.number ≤ a.number)

pub verdict_moves : (small big : List Numbered) (v : Option (ℕ × ℕ)) → Covers small big
    → Verdict small v → Verdict big v
verdict_moves small big None c h = λ a b ha hb.
    let p = c.like a ha in
    let q = c.like b hb in
    sym (conflict_at p.0.item q.0.item a.item b.item p.2 q.2) ∙ h p.0 q.0 p.1 q.1
verdict_moves small big (Some v) c h = record {
  head = h.head;
  other = h.other;
  has_head = c.keeps h.head h.has_head;
  has_other = c.keeps h.other h.has_other;
  head_is = h.head_is;
  other_is = h.other_is;
  upto = h.upto;
  clashes = h.clashes;
  least = λ a b n ha hb k an bn.
      let p = c.like a ha in
      let q = c.like b hb in
      h.least p.0 q.0 n p.1 q.1 (conflict_at p.0.item q.0.item a.item b.item p.2 q.2 ∙ k)
      (omega (arith, p.3)) (omega (arith, q.3));
  lowest = λ a ha e.
      let p = c.like a ha in
      let l = h.lowest p.0 p.1 (ap (λ r. r.path) p.2 ∙ e) in
      omega (arith, l, p.3);
}

module _ (all : List Numbered) (one_each : (a b : Numbered) → Has all a → Has all b
    → a.number ≡ b.number → a ≡ b) where
  first_upto : (p q : ℕ × ℕ) → IsDoubled all p.0 p.1 → IsDoubled all q.0 q.1 → p.1 ≡ q.1 → p.0 ≤ q.0
  first_upto p q h k e =
      let same : h.other ≡ k.other = one_each h.other k.other h.has_other k.has_other
      (h.other_is ∙ e ∙ sym k.other_is) in
      let l = h.lowest k.head k.has_head (conflict_path k.head.item k.other.item k.clashes
      ∙ sym (ap (λ n. n.item.path) same)) in
      omega (arith, l, k.head_is)

  second_upto : (p q : ℕ × ℕ) → IsDoubled all p.0 p.1 → IsDoubled all q.0 q.1 → p.1 ≤ q.1
  second_upto p q h k =
      h.least k.head k.other q.1 k.has_head k.has_other k.clashes (omega (arith, k.head_is, k.upto))
      (omega (arith, k.other_is))

  -- there is one verdict
  pub verdict_one : (v w : Option (ℕ × ℕ)) → Verdict all v → Verdict all w → v ≡ w
  verdict_one None None h k = refl
  verdict_one None (Some q) h k =
      absurd (true≢false (sym k.clashes ∙ h k.head k.other k.has_head k.has_other))
  verdict_one (Some p) None h k =
      absurd (true≢false (sym h.clashes ∙ k h.head h.other h.has_head h.has_other))
  verdict_one (Some p) (Some q) h k =
      let a = second_upto p q h k in
      let b = second_upto q p k h in
      let e : p.1 ≡ q.1 = omega (arith, a, b) in
      let c = first_upto p q h k e in
      let d = first_upto q p k h (sym e) in
      let f : p.0 ≡ q.0 = omega (arith, c, d) in
      λ i. Some (f i, e i)
