-- What is found of the directories, entry by entry.
use Rattle.std.proofs.Common.{◌≡◌, ◌∙◌, sym, refl, ap, ap₂, ℕ, ◌+◌, ◌<◌, ◌≤◌, ◌==◌, ◌&&◌, ◌||◌}
use Rattle.std.proofs.Common.{Bool, true, false, not, List, [], ◌∷◌, ◌++◌, length, get_or, Option}
use Rattle.std.proofs.Common.{Some, None, inl, inr, arith, if◌then◌else◌, eq-eqb, ne_eqb}
use Rattle.std.proofs.Common.{length-append}
use Rattle.std.specs.Prelude.{is_some, nat_le, nat_lt}
use Rattle.std.specs.BTreeMap.{BTreeMap}
use Rattle.std.proofs.lemmas.Bool.{and_parts, cases_eq, cases_lt, le-ltb, lt-ltb, or_parts}
use Rattle.std.proofs.lemmas.Bool.{and_right, and_left}
use Rattle.std.proofs.lemmas.List.{get_or_append_left}
use Rattle.std.proofs.Math.Seq.{get_or-append_seam}
use Rattle.label_base.specs.Bounded.{all_below, any_below, implies}
use Rattle.label_base.proofs.BoundedLemmas.{all_at, implies_at, none_from}
use Rattle.tree_model.specs.Extents.{in_extent, is_directory}
use Rattle.tree_model.specs.Groups.{closed_at}
use Rattle.tree_model.specs.Selection.{whole_at}
use Rattle.tree_model.specs.Tree.{ByPath}
use Rattle.tree_model.proofs.ExtentLemmas.{in_itself}
use Rattle.relabel_core.specs.Swept.{AreSwept, AreSweeping, is_first, is_not, meets, needed}
use Rattle.relabel_core.specs.Swept.{renewal, renews, skip_of, uses_digests}
use Rattle.relabel_core.specs.Stored.{AddsDigest, digests_in, stored_before}
use Rattle.relabel_core.specs.Walk.{Walk, walk_count, digest_now, is_current, is_live, is_renewed}
use Rattle.relabel_core.specs.Walk.{is_skipped, is_skipped_first, is_whole, skippable, skips}
use Rattle.relabel_core.specs.Walk.{walked}
use Rattle.relabel_core.specs.declared.swept.Skip.{Skip}
use Rattle.relabel_core.specs.declared.swept.Skip.TheVariants.{Not, First, Below}
use Rattle.relabel_core.proofs.CoveredLemmas.{IsPassed, covers_none, passed_below, passed_by}
use Rattle.relabel_core.proofs.CoveredLemmas.{passed_over, skipped_is}
use Rattle.relabel_core.proofs.StoredLemmas.{empty_keeps_none}

-- ---- what is renewed

-- nothing is renewed where the entry is skipped
none_if : (dry o live skipped whole : Bool) (digest : List ℕ) → skipped ≡ true
    → (if not dry && ((o && (live && not skipped)) && whole) then Some digest else None) ≡ None
none_if true o live skipped whole digest h = refl
none_if false false live skipped whole digest h = refl
none_if false true false skipped whole digest h = refl
none_if false true true true whole digest h = refl
none_if false true true false whole digest h = absurd cc

-- else what is renewed is the digest that is found, unless the run is dry
kept_if : (dry a i live skipped whole s : Bool) (digest : List ℕ) → skipped ≡ false
    → (whole ≡ true → live ≡ true)
    → (if not dry && (((a || i) && (live && not skipped)) && whole) then Some digest else None)
    ≡ (if dry then None else if whole && (((a && not i) && s) || (not dry && (a || i))) then Some
    digest else None)
kept_if true a i live skipped whole s digest h f = refl
kept_if false a i live true whole s digest h f = absurd cc
kept_if false a i live false false s digest h f =
    ap (λ b. if b then Some digest else None) (and_right ((a || i) && (live && true)) false refl)
kept_if false a i false false true s digest h f = (let e = f refl in absurd cc)
kept_if false true true true false true s digest h f = refl
kept_if false true false true false true true digest h f = refl
kept_if false true false true false true false digest h f = refl
kept_if false false true true false true s digest h f = refl
kept_if false false false true false true s digest h f = refl

module _ (w : Walk) (up : ByPath w.entries) where
  -- a whole directory is asked for itself
  whole_live : (e : ℕ) → e < walk_count w → is_whole w e ≡ true → is_live w e ≡ true
  whole_live e l h =
      let whole = and_parts (is_directory w.entries e) (whole_at w.entries w.live e) h in
      let parts =
      and_parts (closed_at w.entries e)
      (all_below (length w.entries)
      (λ x. implies (in_extent w.entries e x) (get_or w.live x false))) whole.1 in
      implies_at (in_extent w.entries e e) (get_or w.live e false)
      (all_at (length w.entries) (λ x. implies (in_extent w.entries e x) (get_or w.live x false)) e
      parts.1 l) (in_itself w.entries up e)

  renewal_skipped : (e : ℕ) → is_skipped w e ≡ true → renewal w e ≡ None
  unfolding is_renewed walked
  renewal_skipped e h =
      none_if w.options.dry (w.options.digests || w.options.ignore_digests) (is_live w e)
      (is_skipped w e) (is_whole w e) (digest_now w e) h

  renewal_kept : (e : ℕ) → e < walk_count w → is_skipped w e ≡ false
      → renewal w e ≡ (if w.options.dry then None else needed w e)
  unfolding is_renewed walked needed
  renewal_kept e l h =
      kept_if w.options.dry w.options.digests w.options.ignore_digests (is_live w e)
      (is_skipped w e) (is_whole w e) (is_some (w.stored e))
      (digest_now w e) h (whole_live e l)

-- ---- what is told of an entry

first_if : (f s : Bool) → is_first (if f then First else if s then Below else Not) ≡ f
first_if true s = refl
first_if false true = refl
first_if false false = refl

pub first_is : (w : Walk) (e : ℕ) (skip : Skip) → skip ≡ skip_of w e
    → is_first skip ≡ is_skipped_first w e
first_is w e skip is = ap is_first is ∙ first_if (is_skipped_first w e) (is_skipped w e)

-- ---- the digest that is made anew

pub none_renewed_if_skipped : (w : Walk) (up : ByPath w.entries) (e : ℕ) → is_skipped w e ≡ true
    → renewal w e ≡ None
none_renewed_if_skipped w up e h = renewal_skipped w up e h

pub none_renewed_if_dry : (w : Walk) (e : ℕ) → w.options.dry ≡ true → renewal w e ≡ None
none_renewed_if_dry w e h =
    ap (λ b. if not b && is_renewed w e then Some (digest_now w e) else None) h

pub renewed_as_found : (w : Walk) (up : ByPath w.entries) (e : ℕ) → e < walk_count w
    → is_skipped w e ≡ false → w.options.dry ≡ false → renewal w e ≡ needed w e
renewed_as_found w up e l left wet = renewal_kept w up e l left
    ∙ ap (λ b. if b then None else needed w e) wet

-- ---- one entry more

skips_more : (w : Walk) (e : ℕ) (old now : List Skip) (skip : Skip) → length old ≡ e
    → ((i : ℕ) → i < e → get_or old i Not ≡ skip_of w i) → skip ≡ skip_of w e
    → now ≡ old ++ skip ∷ []
    → (i : ℕ) → i < e + 1 → get_or now i Not ≡ skip_of w i
skips_more w e old now skip sized shown_old is made i l =
    ap (λ xs. get_or xs i Not) made
    ∙ elim (cases_lt i e) [
      | inl lt ↦ get_or_append_left old (skip ∷ []) Not i (omega (arith, lt, sized))
          ∙ shown_old i lt
      | inr ge ↦
          (let last : i ≡ length old = omega (arith, l, ge, sized) in
          ap (λ k. get_or (old ++ skip ∷ []) k Not) last ∙ get_or-append_seam old skip [] Not ∙ is
          ∙ ap (λ k. skip_of w k) {x = e} {y = i} (omega (arith, l, ge)))
    ]

sized_more : (old now : List Skip) (skip : Skip) (e : ℕ) → length old ≡ e → now ≡ old ++ skip ∷ []
    → length now ≡ e + 1
sized_more old now skip e sized made = ap length made ∙ length-append old (skip ∷ [])
    ∙ ap (λ k. k + 1) sized

pub before_is : (f : ℕ → Option (List ℕ)) (n e : ℕ) → e < n → stored_before f n e ≡ f e
before_is f n e l = ap (λ b. if b then f e else None) (lt-ltb e n l)

pub before_none : (f : ℕ → Option (List ℕ)) (n e : ℕ) → n ≤ e → stored_before f n e ≡ None
before_none f n e l = ap (λ b. if b then f e else None) (le-ltb e n l)

pub kept_more : (f : ℕ → Option (List ℕ)) (e : ℕ) (old new : BTreeMap ℕ (List ℕ))
    (found : Option (List ℕ))
    → ((x : ℕ) → digests_in old x ≡ stored_before f e x) → AddsDigest old new e found → found ≡ f e
    → (x : ℕ) → digests_in new x ≡ stored_before f (e + 1) x
kept_more f e old new found before adds is x =
    adds x
    ∙ elim (cases_eq e x) [
      | inl same ↦
          ap (λ b. if b then found else digests_in old x) (eq-eqb e x same) ∙ is ∙ ap f same
          ∙ sym (before_is f (e + 1) x (omega (arith, same)))
      | inr differ ↦
          ap (λ b. if b then found else digests_in old x) (ne_eqb e x differ) ∙ before x
          ∙ elim (cases_lt x e) [
            | inl lt ↦ before_is f e x lt ∙ sym (before_is f (e + 1) x (omega (arith, lt)))
            | inr ge ↦ before_none f e x ge
                ∙ sym (before_none f (e + 1) x (omega (arith, ge, differ)))
          ]
    ]

pub nothing_added : (made : BTreeMap ℕ (List ℕ)) (e : ℕ) → digests_in made e ≡ None
    → AddsDigest made made e None
nothing_added made e none = λ x.
    elim (cases_eq e x) [
      | inl same ↦ ap (λ k. digests_in made k) (sym same) ∙ none
          ∙ sym (ap (λ b. if b then None else digests_in made x) (eq-eqb e x same))
      | inr differ ↦ sym (ap (λ b. if b then None else digests_in made x) (ne_eqb e x differ))
    ]

-- what was made before an entry has nothing of it
pub none_made : (w : Walk) (e end : ℕ) (skips : List Skip) (made : BTreeMap ℕ (List ℕ))
    → AreSweeping w e end skips made → digests_in made e ≡ None
none_made w e end skips made old = old.made_are e ∙ before_none (renewal w) e e (omega arith)

unchanged : (w : Walk) (e : ℕ) (made : BTreeMap ℕ (List ℕ))
    → ((x : ℕ) → digests_in made x ≡ stored_before (renewal w) e x) → renewal w e ≡ None
    → (x : ℕ) → digests_in made x ≡ stored_before (renewal w) (e + 1) x
unchanged w e made before is =
    kept_more (renewal w) e made made None before
    (nothing_added made e (before e ∙ before_none (renewal w) e e (omega arith))) (sym is)

-- whatever the entry is, as one has passed it
passed : (w : Walk) (e end next : ℕ) (skips now : List Skip) (made new : BTreeMap ℕ (List ℕ))
    (skip : Skip)
    → AreSweeping w e end skips made → IsPassed w e skip next → now ≡ skips ++ skip ∷ []
    → ((x : ℕ) → digests_in new x ≡ stored_before (renewal w) (e + 1) x)
    → AreSweeping w (e + 1) next now new
passed w e end next skips now made new skip old at is made_are = record {
  each_entry = sized_more skips now skip e old.each_entry is;
  skips_are = skips_more w e skips now skip old.each_entry old.skips_are at.skip_is is;
  covered_are = at.covers;
  made_are = made_are;
}

-- nothing is made where it is skipped
passed_skipped : (w : Walk) (up : ByPath w.entries) (e end next : ℕ) (skips now : List Skip)
    (made : BTreeMap ℕ (List ℕ)) (skip : Skip)
    → AreSweeping w e end skips made → e < walk_count w → IsPassed w e skip next
    → not (is_not skip) ≡ true → now ≡ skips ++ skip ∷ [] → AreSweeping w (e + 1) next now made
passed_skipped w up e end next skips now made skip old l at does is =
    passed w e end next skips now made made skip old at is
    (unchanged w e made old.made_are
    (renewal_skipped w up e (sym (skipped_is w up e skip l at.skip_is) ∙ does)))

pub passing_below : (w : Walk) (up : ByPath w.entries) (e end : ℕ) (skips now : List Skip)
    (made : BTreeMap ℕ (List ℕ)) → AreSweeping w e end skips made
    → e < walk_count w → e < end → now ≡ skips ++ Below ∷ [] → AreSweeping w (e + 1) end now made
passing_below w up e end skips now made old l below is =
    passed_skipped w up e end end skips now made Below old l
    (passed_below w up e end old.covered_are l below) refl is

pub passing_over : (w : Walk) (up : ByPath w.entries) (e end extent : ℕ) (skips now : List Skip)
    (made : BTreeMap ℕ (List ℕ))
    → AreSweeping w e end skips made → e < walk_count w → end ≤ e → skippable w e ≡ true
    → ((x : ℕ) → x < walk_count w → in_extent w.entries e x ≡ (nat_le e x && nat_lt x extent))
    → now ≡ skips ++ First ∷ [] → AreSweeping w (e + 1) extent now made
passing_over w up e end extent skips now made old l outside over run is =
    passed_skipped w up e end extent skips now made First old l
    (passed_over w up e end extent old.covered_are l outside over run) refl is

pub passing_by : (w : Walk) (up : ByPath w.entries) (e end : ℕ) (skips now : List Skip)
    (made new : BTreeMap ℕ (List ℕ)) (renewed : Option (List ℕ))
    → AreSweeping w e end skips made → e < walk_count w → end ≤ e → skippable w e ≡ false
    → renewed ≡ renewal w e
    → AddsDigest made new e renewed → now ≡ skips ++ Not ∷ [] → AreSweeping w (e + 1) end now new
passing_by w up e end skips now made new renewed old l outside by shown_renewed adds is =
    passed w e end end skips now made new Not old
    (passed_by w up e end old.covered_are l outside by) is
    (kept_more (renewal w) e made new renewed old.made_are adds shown_renewed)

-- ---- whether the digest that is found is the stored one

met_if : (s whole r : Bool) (stored : Option (List ℕ)) (digest : List ℕ)
    → meets s stored (if whole && ((s && is_some stored) || r) then Some digest else None)
    ≡ (s && whole && is_current stored digest)
met_if true false r stored digest = refl
met_if false false r stored digest = refl
met_if false true true stored digest = refl
met_if false true false stored digest = refl
met_if true true true None digest = refl
met_if true true false None digest = refl
met_if true true r (Some other) digest = refl

pub met_is : (w : Walk) (d : ℕ) (found : Option (List ℕ)) → found ≡ needed w d
    → meets (skips w) (w.stored d) found ≡ skippable w d
unfolding skippable needed
met_is w d found is =
    ap (λ o. meets (skips w) (w.stored d) o) is ∙ met_if (skips w) (is_whole w d) (renews w.options)
    (w.stored d) (digest_now w d)

pub start : (w : Walk) (skips : List Skip) (made : BTreeMap ℕ (List ℕ)) → skips ≡ []
    → made.entries ≡ [] → AreSweeping w 0 0 skips made
start w skips made none empty = record {
  each_entry = ap length none;
  skips_are = λ e l. absurd (omega (arith, l));
  covered_are = covers_none w;
  made_are = λ e. ap (λ digests. digests e) (empty_keeps_none made empty)
      ∙ sym (before_none (renewal w) 0 e (omega arith));
}

pub done : (w : Walk) (n end : ℕ) (skips : List Skip) (made : BTreeMap ℕ (List ℕ))
    → walk_count w ≤ n → AreSweeping w n end skips made → AreSwept w skips made
done w n end skips made l old = record {
  skips_are = λ e m. old.skips_are e (omega (arith, l, m));
  made_are = λ e m. old.made_are e ∙ before_is (renewal w) n e (omega (arith, l, m));
}

-- what is no directory has no digest
pub none_of_file : (w : Walk) (d : ℕ) → is_directory w.entries d ≡ false → renewal w d ≡ None
unfolding is_renewed
none_of_file w d h =
    ap (λ b. if b then Some (digest_now w d) else None)
    (and_right (not w.options.dry) (is_renewed w d)
    (and_right ((w.options.digests || w.options.ignore_digests) && walked w d) (is_whole w d)
    (and_left (is_directory w.entries d) (whole_at w.entries w.live d) h)))

-- ---- where no digests are asked for

not_asked : (w : Walk) (d : ℕ) → uses_digests w.options ≡ false → skippable w d ≡ false
unfolding skippable
not_asked w d h =
    let parts = or_parts w.options.digests w.options.ignore_digests h in
    ap (λ b. (b && not w.options.ignore_digests) && is_whole w d && is_current (w.stored d)
    (digest_now w d)) parts.0

none_skipped : (w : Walk) (e : ℕ) → uses_digests w.options ≡ false → skip_of w e ≡ Not
unfolding is_skipped is_skipped_first
none_skipped w e h =
    ap₂ (λ f s. if f then First else if s then Below else Not)
    (and_left (skippable w e)
    (not (any_below (walk_count w)
    (λ d. skippable w d && in_extent w.entries d e && not (d == e)))) (not_asked w e h))
    (none_from (walk_count w) (λ d. skippable w d && in_extent w.entries d e)
    (λ d l. and_left (skippable w d) (in_extent w.entries d e) (not_asked w d h)))

none_renewed : (w : Walk) (d : ℕ) → uses_digests w.options ≡ false → renewal w d ≡ None
unfolding is_renewed
none_renewed w d h =
    ap (λ b. if b then Some (digest_now w d) else None)
    (and_right (not w.options.dry) (is_renewed w d) (ap (λ b. b && walked w d && is_whole w d) h))

pub unasked : (w : Walk) (skips : List Skip) (made : BTreeMap ℕ (List ℕ)) → uses_digests w.options
    ≡ false → skips ≡ [] → made.entries ≡ []
    → AreSwept w skips made
unasked w skips made h none empty = record {
  skips_are = λ e l. ap (λ xs. get_or xs e Not) none ∙ sym (none_skipped w e h);
  made_are = λ e l. ap (λ digests. digests e) (empty_keeps_none made empty)
      ∙ sym (none_renewed w e h);
}
