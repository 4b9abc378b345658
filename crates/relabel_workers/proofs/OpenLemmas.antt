-- Whether an entry is skipped, by whether its home is open and whether it is skipped by itself.
use Rattle.std.proofs.Common.{◌≡◌, ◌≢◌, ◌∙◌, sym, refl, ap, ap₂, subst, ℕ, zero, suc, ◌<◌, ◌≤◌}
use Rattle.std.proofs.Common.{◌==◌, ◌&&◌, Bool, true, false, not, inl, inr, arith, eq-eqb, ne_eqb}
use Rattle.std.proofs.Common.{true≢false, Option, Some, None, if◌then◌else◌}
use Rattle.std.specs.Prelude.{is_some}
use Rattle.std.proofs.lemmas.Bool.{and_from, and_parts, and_right, cases_eq, cases_lt}
use Rattle.std.proofs.lemmas.Bool.{false_from_ne_true}
use Rattle.label_base.specs.Bounded.{any_below}
use Rattle.label_base.proofs.BoundedLemmas.{IsGreatest, any_at, any_has, greatest_shown, none_from}
use Rattle.tree_model.specs.Extents.{in_extent, is_above, is_directory, parent_of}
use Rattle.tree_model.specs.Jobs.{entry_home}
use Rattle.tree_model.specs.Tree.{ByPath}
use Rattle.tree_model.proofs.ExtentLemmas.{in_behind, in_between, in_chain, in_itself}
use Rattle.tree_model.proofs.ParentLemmas.{above_before, above_in, strict_is}
use Rattle.tree_model.proofs.JobLaws.{home_shown}
use Rattle.label_rules.specs.LookUp.{given_at, index_for}
use Rattle.relabel_core.specs.Swept.{skip_of}
use Rattle.relabel_core.specs.Walk.{Walk, walk_count, deciding, digest_now, is_current, is_live}
use Rattle.relabel_core.specs.Walk.{is_skipped, is_skipped_first, is_wanted, is_whole, skippable}
use Rattle.relabel_core.specs.Walk.{skips, walked, wanted}
use Rattle.relabel_core.specs.declared.swept.Skip.TheVariants.{Not, First, Below}
use Rattle.tree_model.specs.Extents.{entry_at}
use Rattle.relabel_workers.specs.Alone.{decided_alone, gives_alone, is_job_open, lies_open}

pub same_tests : (a b : Bool) → (a ≡ true → b ≡ true) → (b ≡ true → a ≡ true) → a ≡ b
same_tests true b there back = sym (there refl)
same_tests false true there back = back refl
same_tests false false there back = refl

-- a directory that is skipped by itself
directory_of : (s whole current : Bool) → ((s && whole) && current) ≡ true → whole ≡ true
directory_of s whole current h = (and_parts s whole (and_parts (s && whole) current h).0).1

pub skippable_directory : (w : Walk) (d : ℕ) → skippable w d ≡ true → is_directory w.entries d
    ≡ true
unfolding skippable
skippable_directory w d h =
    (and_parts (is_directory w.entries d) _
    (directory_of (skips w) (is_whole w d) (is_current (w.stored d) (digest_now w d)) h)).0

-- a directory that is skipped by itself, with the entry at or below it
pub record Covers (w : Walk) (d e : ℕ) : Type 0 where
  pub known : d < walk_count w
  pub over : skippable w d ≡ true
  pub inside : in_extent w.entries d e ≡ true

pub record HasCover (w : Walk) (e : ℕ) : Type 0 where
  pub directory : ℕ
  pub covers : Covers w directory e

-- and that stands before it
pub record HasCoverAbove (w : Walk) (e : ℕ) : Type 0 where
  pub directory : ℕ
  pub less : directory < e
  pub covers : Covers w directory e

-- and whose home is open
pub record HasTop (w : Walk) (e : ℕ) : Type 0 where
  pub directory : ℕ
  pub covers : Covers w directory e
  pub lies : is_job_open w (entry_home w.entries directory) ≡ true

pub cover_of : (w : Walk) (e : ℕ) → is_skipped w e ≡ true → HasCover w e
unfolding is_skipped
cover_of w e h =
    let k = any_has (walk_count w) (λ d. skippable w d && in_extent w.entries d e) h in
    let p = and_parts (skippable w k.0) (in_extent w.entries k.0 e) k.2 in
    record { directory = k.0; covers = record { known = k.1; over = p.0; inside = p.1 } }

pub covered_is : (w : Walk) (d e : ℕ) → Covers w d e → is_skipped w e ≡ true
unfolding is_skipped
covered_is w d e c =
    any_at (walk_count w) (λ k. skippable w k && in_extent w.entries k e) d c.known
    (and_from (skippable w d) (in_extent w.entries d e) c.over c.inside)

module _ (w : Walk) (up : ByPath w.entries) where
  pub skippable_skipped : (e : ℕ) → e < walk_count w → skippable w e ≡ true → is_skipped w e ≡ true
  skippable_skipped e l h =
      covered_is w e e (record { known = l; over = h; inside = in_itself w.entries up e })

  -- the directory above an entry is at or below what covers the entry from above
  above_case : (d e : ℕ) (found : Option ℕ) → IsGreatest (walk_count w) (is_above w.entries e) found
      → Covers w d e → d < e → e < walk_count w → lies_open w found ≡ false
  above_case d e None g c l m =
      let dir = skippable_directory w d c.over in
      let here : is_above w.entries e d ≡ true =
      and_from (is_directory w.entries d) _ dir (strict_is w.entries up d e l m ∙ c.inside) in
      absurd (true≢false (sym here ∙ g d c.known))
  above_case d e (Some p) g c l m =
      let dir = skippable_directory w d c.over in
      let here : is_above w.entries e d ≡ true =
      and_from (is_directory w.entries d) _ dir (strict_is w.entries up d e l m ∙ c.inside) in
      let low : d ≤ p =
      elim (cases_lt p d) [
        | inl lt ↦ absurd (true≢false (sym here ∙ g.2 d lt c.known))
        | inr ge
            ↦ ge
      ] in
      let before : p < e = above_before w.entries up p e g.0 g.1 in
      let within : in_extent w.entries d p ≡ true =
      in_between w.entries up d p e low (omega (arith, before)) m c.inside in
      ap not (covered_is w d p (record { known = c.known; over = c.over; inside = within }))

  pub shut_below : (d e : ℕ) → Covers w d e → d ≢ e → e < walk_count w
      → is_job_open w (entry_home w.entries e) ≡ false
  shut_below d e c ne m =
      let from = in_behind w.entries up d e c.known c.inside in
      ap (lies_open w) (home_shown w.entries e)
      ∙ above_case d e (parent_of w.entries e)
      (greatest_shown (walk_count w) (is_above w.entries e))
      c (omega (arith, from, ne)) m

  shut_case : (e : ℕ) (found : Option ℕ) → e < walk_count w
      → IsGreatest (walk_count w) (is_above w.entries e) found → lies_open w found ≡ false
      → HasCoverAbove w e
  shut_case e None l g h = absurd (true≢false h)
  shut_case e (Some p) l g h =
      let over : is_skipped w p ≡ true = not_false (is_skipped w p) h in
      let c = cover_of w p over in
      let low : c.directory ≤ p = in_behind w.entries up c.directory p c.covers.known
      c.covers.inside in
      let before : p < e = above_before w.entries up p e g.0 g.1 in
      record {
        directory = c.directory;
        less = omega (arith, low, before);
        covers = record {
          known = c.covers.known;
          over = c.covers.over;
          inside = in_chain w.entries
              up c.directory p e c.covers.inside (above_in w.entries up p e g.1);
        };
      }
    where
      not_false : (b : Bool) → not b ≡ false → b ≡ true
      not_false true h = refl
      not_false false h = absurd (true≢false h)

  shut_cover : (e : ℕ) → e < walk_count w → is_job_open w (entry_home w.entries e) ≡ false
      → HasCoverAbove w e
  shut_cover e l h =
      shut_case e (parent_of w.entries e) l (greatest_shown (walk_count w) (is_above w.entries e))
      (sym (ap (lies_open w) (home_shown w.entries e)) ∙ h)

  -- below a directory that is skipped everything is
  pub shut_skipped : (e : ℕ) → e < walk_count w → is_job_open w (entry_home w.entries e) ≡ false
      → is_skipped w e ≡ true
  shut_skipped e l h = let c = shut_cover e l h in covered_is w c.directory e c.covers

  -- by the number of a directory, since what covers it from above has a lesser one
  top_below : (n d e : ℕ) → d < n → Covers w d e → HasTop w e
  top_below zero d e l c = absurd (omega (arith, l))
  top_below (suc n) d e l c = by_home (is_job_open w (entry_home w.entries d)) refl
      (λ k m f. top_below n k e m f)
    where
      by_home : (b : Bool) → is_job_open w (entry_home w.entries d) ≡ b
          → ((k : ℕ) → k < n → Covers w k e → HasTop w e) → HasTop w e
      by_home true h again = record { directory = d; covers = c; lies = h }
      by_home false h again =
          let s = shut_cover d c.known h in
          let less = s.less in
          again s.directory (omega (arith, less, l))
          (record {
            known = s.covers.known;
            over = s.covers.over;
            inside = in_chain w.entries up
                s.directory d e s.covers.inside c.inside;
          })

  -- what is skipped lies at or below a directory that is skipped and whose home is open
  pub top_cover : (e : ℕ) → is_skipped w e ≡ true → HasTop w e
  top_cover e h = let c = cover_of w e h in top_below (suc c.directory) c.directory e (omega arith)
      c.covers

  -- where the home is open, an entry is skipped just where it is by itself
  pub open_skipped : (e : ℕ) → e < walk_count w → is_job_open w (entry_home w.entries e) ≡ true
      → is_skipped w e ≡ skippable w e
  open_skipped e l o = same_tests (is_skipped w e) (skippable w e) there (skippable_skipped e l)
    where
      there : is_skipped w e ≡ true → skippable w e ≡ true
      there h =
          let c = cover_of w e h in
          elim (cases_eq c.directory e) [
            | inl same ↦ subst (λ k. skippable w k ≡ true) same c.covers.over
            | inr differ ↦ absurd (true≢false (sym o ∙ shut_below c.directory e c.covers differ l))
          ]

  none_other : (e : ℕ) → e < walk_count w → is_job_open w (entry_home w.entries e) ≡ true
      → any_below (walk_count w) (λ d. skippable w d && in_extent w.entries d e && not (d == e))
      ≡ false
  none_other e l o =
      none_from (walk_count w) (λ d. skippable w d && in_extent w.entries d e && not (d == e))
      (λ d m. false_from_ne_true (skippable w d && in_extent w.entries d e && not (d == e)) (λ h.
      let p = and_parts (skippable w d && in_extent w.entries d e) (not (d == e)) h in
      let q = and_parts (skippable w d) (in_extent w.entries d e) p.0 in
      true≢false (sym o ∙ shut_below d e (record { known = m; over = q.0; inside = q.1 })
      (apart d e p.1) l)))
    where
      apart : (d e : ℕ) → not (d == e) ≡ true → d ≢ e
      apart d e h same = true≢false (sym h ∙ ap not (eq-eqb d e same))

  pub open_first : (e : ℕ) → e < walk_count w → is_job_open w (entry_home w.entries e) ≡ true
      → skippable w e ≡ true → skip_of w e ≡ First
  unfolding is_skipped_first
  open_first e l o s =
      let f : is_skipped_first w e ≡ true = ap₂ (λ a b. a && not b) s (none_other e l o) in
      ap (λ b. if b then First else if is_skipped w e then Below else Not) f

  pub below_first : (d e : ℕ) → Covers w d e → d ≢ e → skip_of w e ≡ Below
  unfolding is_skipped_first
  below_first d e c ne =
      let some : any_below (walk_count w)
      (λ k. skippable w k && in_extent w.entries k e && not (k == e)) ≡ true =
      any_at (walk_count w) (λ k. skippable w k && in_extent w.entries k e && not (k == e)) d
      c.known
      (and_from (skippable w d && in_extent w.entries d e) (not (d == e))
      (and_from (skippable w d) (in_extent w.entries d e) c.over c.inside)
      (ap not (ne_eqb d e ne))) in
      let f : is_skipped_first w e ≡ false =
      and_right (skippable w e)
      (not (any_below (walk_count w)
      (λ k. skippable w k && in_extent w.entries k e && not (k == e)))) (ap not some) in
      ap₂ (λ a b. if a then First else if b then Below else Not) f (covered_is w d e c)

  pub not_skipped : (e : ℕ) → e < walk_count w → is_skipped w e ≡ false → skip_of w e ≡ Not
  unfolding is_skipped_first
  not_skipped e l h =
      let s : skippable w e ≡ false =
      false_from_ne_true (skippable w e) (λ t. true≢false (sym (skippable_skipped e l t) ∙ h))
      in
      let f : is_skipped_first w e ≡ false =
      ap (λ b. b && not
      (any_below (walk_count w)
      (λ k. skippable w k && in_extent w.entries k e && not (k == e)))) s in
      ap₂ (λ a b. if a then First else if b then Below else Not) f h

  -- ---- what decides an entry

  pub open_deciding : (e : ℕ) → e < walk_count w → is_job_open w (entry_home w.entries e) ≡ true
      → decided_alone w e ≡ deciding w e
  unfolding decided_alone deciding walked
  open_deciding e l o =
      ap (λ b. if is_live w e && not b then index_for w.rules (entry_at w.entries e) else None)
      (sym (open_skipped e l o))

  pub open_wanted : (e : ℕ) → e < walk_count w → is_job_open w (entry_home w.entries e) ≡ true
      → gives_alone w e ≡ is_wanted w e
  unfolding wanted
  open_wanted e l o = ap (λ f. is_some (given_at w.rules.rules f)) (open_deciding e l o)

skipped_decides : (w : Walk) (e : ℕ) → is_skipped w e ≡ true → deciding w e ≡ None
unfolding deciding walked
skipped_decides w e h =
    ap (λ b. if b then index_for w.rules (entry_at w.entries e) else None)
    (and_right (is_live w e) (not (is_skipped w e)) (ap not h))

-- what is skipped is decided by nothing
pub skipped_none : (w : Walk) (e : ℕ) → is_skipped w e ≡ true → deciding w e ≡ None
skipped_none w e h = skipped_decides w e h

pub wanted_walked : (w : Walk) (e : ℕ) → is_wanted w e ≡ true → is_skipped w e ≡ false
unfolding wanted
wanted_walked w e h =
    false_from_ne_true (is_skipped w e)
    (λ s. true≢false
    (sym h ∙ ap (λ f. is_some (given_at w.rules.rules f)) (skipped_decides w e s)))
