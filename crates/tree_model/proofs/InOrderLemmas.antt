-- First entries kept by an order of inodes.
use Rattle.std.proofs.Common.{◌≡◌, ◌∙◌, ap, sym, refl, ℕ, ◌+◌, ◌<◌, ◌==◌, Bool, true, false, cond}
use Rattle.std.proofs.Common.{List, length, arith, rules, inl, inr}
use Rattle.std.specs.BTreeMap as tree
use Rattle.std.specs.BTreeMap.{BTreeMap}
use Rattle.std.specs.Cmp.{both_tied}
use Rattle.std.specs.Ordering.{is_eq, nat_cmp}
use Rattle.std.specs.Prelude.{Some, None, nat_lt}
use Rattle.std.proofs.lemmas.Bool.{cases_lt, le-ltb, lt-ltb, ltb-true, ltb-false, true≢false}
use Rattle.std.proofs.lemmas.Option.{same_Some}
use Rattle.tree_model.proofs.GroupLemmas.{same_itself}
use Rattle.tree_model.specs.Links.{same_inode}
use Rattle.tree_model.specs.Firsts.{AreFirstsPut, first_with_inode, inode_cmp, first_before}
use Rattle.tree_model.proofs.NumberingLemmas.{Inode}
use Rattle.tree_model.proofs.FirstLemmas.{exact, inode_in, own_first, same_first}

nat_tied : (a b : ℕ) → (a == b) ≡ is_eq (nat_cmp a b)
nat_tied a b = search rules

tied : (a b : Inode) → is_eq (inode_cmp a b) ≡ same_inode a b
tied a b = sym (both_tied (a.0 == b.0) (a.1 == b.1) (nat_cmp a.0 b.0) (nat_cmp a.1 b.1)
    (nat_tied a.0 b.0) (nat_tied a.1 b.1))

-- an inode that isn't first met at e
test_stays : (f e : ℕ) → (f ≡ e → ⊥) → nat_lt f (e + 1) ≡ nat_lt f e
test_stays f e apart = elim (cases_lt f e) [
  | inl lt ↦ lt-ltb f (e + 1) (omega (arith, lt)) ∙ sym (lt-ltb f e lt)
  | inr ge ↦ le-ltb f (e + 1) (omega (arith, ge, apart)) ∙ sym (le-ltb f e ge)
]

shown_stays : (inodes : List Inode) (e : ℕ) (q : Inode) → (first_with_inode inodes q ≡ e → ⊥)
    → first_before inodes e q ≡ first_before inodes (e + 1) q
shown_stays inodes e q apart = ap (λ b. cond b (Some (first_with_inode inodes q)) None)
    (sym (test_stays (first_with_inode inodes q) e apart))

module _ (inodes : List Inode) (e : ℕ) (l : e < length inodes) where
  abbrev own : Inode
  own = inode_in inodes e

  met_here : (q : Inode) → first_with_inode inodes q ≡ e → q ≡ own
  met_here q f =
      exact q own (ap (λ k. same_inode q (inode_in inodes k)) (sym f)
      ∙ same_first inodes q (omega (arith, f, l)))

  by_shown : (b : Bool) (f : ℕ) → nat_lt (first_with_inode inodes own) e ≡ b
      → cond b (Some (first_with_inode inodes own)) None ≡ Some f
      → (first_with_inode inodes own ≡ f) × (first_with_inode inodes own < e)
  by_shown true f h same =
      (same_Some (first_with_inode inodes own) f same, ltb-true (first_with_inode inodes own) e h)
  by_shown false f h same = cc

  by_none : (b : Bool) → nat_lt (first_with_inode inodes own) e ≡ b
      → cond b (Some (first_with_inode inodes own)) None ≡ None → first_with_inode inodes own ≡ e
  by_none true h same = cc
  by_none false h same =
      omega (arith, own_first inodes e, ltb-false (first_with_inode inodes own) e h)

  module _ (kept : BTreeMap Inode ℕ) (put : AreFirstsPut inodes e kept) where
    -- an inode that is kept
    pub shown_first : (f : ℕ) → tree.get inode_cmp kept own ≡ Some f
        → f ≡ first_with_inode inodes own
    shown_first f h =
        sym (by_shown (nat_lt (first_with_inode inodes own) e) f refl (sym (put own) ∙ h)).0

    pub put_again : (f : ℕ) → tree.get inode_cmp kept own ≡ Some f
        → AreFirstsPut inodes (e + 1) kept
    put_again f h =
        let low = (by_shown (nat_lt (first_with_inode inodes own) e) f refl (sym (put own) ∙ h)).1
        in
        λ q. put q ∙ shown_stays inodes e q
        (λ same. (let one = ap (first_with_inode inodes) (met_here q same) in
        omega (arith, same, one, low)))

    -- one that isn't
    pub first_here : tree.get inode_cmp kept own ≡ None → e ≡ first_with_inode inodes own
    first_here h = sym (by_none (nat_lt (first_with_inode inodes own) e) refl (sym (put own) ∙ h))

    put_case : (q : Inode) (b : Bool) → e ≡ first_with_inode inodes own → same_inode own q ≡ b
        → cond b (Some e) (tree.get inode_cmp kept q) ≡ first_before inodes (e + 1) q
    put_case q true f same =
        let one : first_with_inode inodes q ≡ e =
        ap (first_with_inode inodes) (sym (exact own q same)) ∙ sym f in
        sym (ap (λ b. cond b (Some (first_with_inode inodes q)) None)
        (lt-ltb (first_with_inode inodes q) (e + 1) (omega (arith, one))) ∙ ap Some one)
    put_case q false f other =
        put q ∙ shown_stays inodes e q
        (λ same. true≢false (sym (ap (same_inode own) (met_here q same) ∙ same_itself own) ∙ other))

    pub put_new : (kept' : BTreeMap Inode ℕ) → tree.get inode_cmp kept own ≡ None
        → ((q : Inode) → tree.get inode_cmp kept' q ≡ cond (is_eq (inode_cmp own q)) (Some e)
        (tree.get inode_cmp kept q))
        → AreFirstsPut inodes (e + 1) kept'
    put_new kept' h new = λ q. new q ∙ ap (λ b. cond b (Some e) (tree.get inode_cmp kept q))
        (tied own q) ∙ put_case q (same_inode own q) (first_here h) refl
