-- What is put back, note by note.
use Rattle.std.proofs.Common.{◌≡◌, ◌≢◌, ◌∙◌, sym, refl, ap, subst, ℕ, ◌+◌, ◌<◌, ◌≤◌, ◌==◌, ◌⊎◌}
use Rattle.std.proofs.Common.{⊎_elim, inl, inr, Bool, true, false, true≢false, eq-eqb, ne_eqb, List}
use Rattle.std.proofs.Common.{[], ◌∷◌, ◌++◌, length, get_or, set, Option, Some, None, arith}
use Rattle.std.proofs.Common.{if◌then◌else◌, length-set, get_or-set_same, get_or-set_other}
use Rattle.std.specs.Prelude.{is_some, nat_lt}
use Rattle.std.specs.BTreeMap.{BTreeMap}
use Rattle.std.proofs.lemmas.Bool.{cases_eq, cases_lt, lt-ltb}
use Rattle.std.proofs.lemmas.List.{map-append}
use Rattle.walk_steps.specs.Lists.{times}
use Rattle.walk_steps.proofs.ListLemmas.{times_append}
use Rattle.tree_model.specs.Extents.{extent_of, in_extent}
use Rattle.tree_model.specs.Groups.{groups_in}
use Rattle.tree_model.specs.Jobs.{entry_home}
use Rattle.tree_model.specs.Tree.{ByPath}
use Rattle.tree_model.proofs.ExtentLemmas.{extent_has, extent_shown, has_extent}
use Rattle.relabel_core.specs.Numbers.{IsNumberPut, found_in, put_at}
use Rattle.relabel_core.specs.Swept.{AreSwept, renewal, skip_of}
use Rattle.relabel_core.specs.Stored.{AddsDigest, digests_in}
use Rattle.relabel_core.specs.Walk.{Walk, walk_count, deciding, is_skipped, skippable, winner}
use Rattle.relabel_core.specs.Walked.{AreWalkAnswers}
use Rattle.relabel_core.specs.declared.noting.Noted.{Noted}
use Rattle.relabel_core.specs.declared.swept.Swept.{Swept}
use Rattle.relabel_core.specs.declared.swept.Skip.{Skip}
use Rattle.relabel_core.specs.declared.swept.Skip.TheVariants.{Not, First, Below}
use Rattle.relabel_core.proofs.SweptLemmas.{none_renewed_if_skipped}
use Rattle.relabel_workers.specs.Alone.{is_job_open, noted_in}
use Rattle.relabel_workers.specs.PutBack.{AreAllNoted, AreDecidedPut, AreDigestsPut, ArePutBack}
use Rattle.relabel_workers.specs.PutBack.{AreSkippedTo, AreSkipsPut, IsOpenNote, KeepsFirst}
use Rattle.relabel_workers.specs.PutBack.{first_digest}
use Rattle.relabel_workers.specs.declared.note.Note.{Note}
use Rattle.relabel_workers.proofs.ListLemmas.{hit_is}
use Rattle.relabel_workers.proofs.OpenLemmas.{below_first, not_skipped, open_deciding, open_first}
use Rattle.relabel_workers.proofs.OpenLemmas.{open_skipped, shut_skipped, skippable_skipped}
use Rattle.relabel_workers.proofs.OpenLemmas.{skipped_none, top_cover}

-- ---- one place more that is skipped

put_length : (skips : List Skip) (i : ℕ) (skip : Skip) → length (put_at skips i skip) ≡ length skips
put_length skips i skip = by_case (nat_lt i (length skips))
  where
    by_case : (b : Bool) → length (if b then set skips i skip else skips) ≡ length skips
    by_case true = length-set skips i skip
    by_case false = refl

put_here : (skips : List Skip) (i : ℕ) (skip : Skip) → i < length skips
    → get_or (put_at skips i skip) i Not ≡ skip
put_here skips i skip l = ap (λ b. get_or (if b then set skips i skip else skips) i Not)
    (lt-ltb i (length skips) l) ∙ get_or-set_same skips i skip Not l

put_else : (skips : List Skip) (i k : ℕ) (skip : Skip) → k ≢ i → get_or (put_at skips i skip) k Not
    ≡ get_or skips k Not
put_else skips i k skip ne = by_case (nat_lt i (length skips))
  where
    by_case : (b : Bool) → get_or (if b then set skips i skip else skips) k Not ≡ get_or skips k Not
    by_case true = get_or-set_other skips i k skip Not ne
    by_case false = refl

pub first_skipped : (old new : List Skip) (d : ℕ) → new ≡ put_at old d First
    → AreSkippedTo old d (d + 1) new
first_skipped old new d is = subst (λ l. AreSkippedTo old d (d + 1) l) (sym is) (record {
  room = put_length old d First;
  here = λ l. put_here old d First l;
  below = λ e a b l. absurd (omega (arith, a, b));
  others = λ e apart l. put_else old d e First
      (λ s. ⊎_elim (λ (lt : e < d). omega (arith, lt, s)) (λ (ge : d + 1 ≤ e). omega (arith, ge, s))
      apart);
})

pub more_skipped : (old mid new : List Skip) (d e : ℕ) → AreSkippedTo old d e mid → d < e
    → new ≡ put_at mid e Below → AreSkippedTo old d (e + 1) new
more_skipped old mid new d e h lt is = subst (λ l. AreSkippedTo old d (e + 1) l) (sym is) (record {
  room = put_length mid e Below ∙ h.room;
  here = λ l. put_else mid e d Below (λ s. omega (arith, s, lt)) ∙ h.here l;
  below = λ x a b l. elim (cases_eq x e) [
    | inl same ↦ (let room = h.room in subst (λ k. get_or (put_at mid e Below) k Not ≡ Below)
        (sym same) (put_here mid e Below (omega (arith, same, l, room))))
    | inr differ ↦ put_else mid e x Below differ ∙ h.below x a (omega (arith, b, differ)) l
  ];
  others = λ x apart l. ⊎_elim
      (λ (low : x < d). put_else mid e x Below (λ s. omega (arith, s, low, lt))
      ∙ h.others x (inl low) lt)
      (λ (high : e + 1 ≤ x). put_else mid e x Below (λ s. omega (arith, s, high))
      ∙ h.others x (inr (omega (arith, high))) lt) apart;
})

-- ---- digests

abbrev ite : Bool → Option (List ℕ) → Option (List ℕ) → Option (List ℕ)
ite b x y = if b then x else y

same_both : (b : Bool) (x : Option (List ℕ)) → x ≡ ite b x x
same_both true x = refl
same_both false x = refl

first_none : (x : Option (List ℕ)) → first_digest x None ≡ x
first_none None = refl
first_none (Some y) = refl

first_some : (x found : Option (List ℕ)) → is_some x ≡ true → first_digest x found ≡ x
first_some None found h = absurd (true≢false (sym h))
first_some (Some y) found h = refl

pub kept_none : (made : BTreeMap ℕ (List ℕ)) (d : ℕ) → KeepsFirst made made d None
kept_none made d e = same_both (d == e) (digests_in made e)
    ∙ ap (λ x. ite (d == e) x (digests_in made e)) (sym (first_none (digests_in made e)))

pub kept_before : (made : BTreeMap ℕ (List ℕ)) (d : ℕ) (found : Option (List ℕ))
    → is_some (digests_in made d) ≡ true → KeepsFirst made made d found
kept_before made d found h e = elim (cases_eq d e) [
  | inl same ↦ same_both (d == e) (digests_in made e) ∙ ap (λ x. ite (d == e) x (digests_in made e))
      (sym (first_some (digests_in made e) found
      (subst (λ k. is_some (digests_in made k) ≡ true) same h)))
  | inr differ ↦ sym (ap (λ b. ite b (first_digest (digests_in made e) found) (digests_in made e))
      (ne_eqb d e differ))
]

pub kept_first : (old new : BTreeMap ℕ (List ℕ)) (d : ℕ) (found : Option (List ℕ))
    → digests_in old d ≡ None → AddsDigest old new d found → KeepsFirst old new d found
kept_first old new d found none adds e = adds e ∙ elim (cases_eq d e) [
  | inl same ↦ ap (λ x. ite (d == e) x (digests_in old e))
      (sym (ap (λ x. first_digest x found) (ap (digests_in old) (sym same) ∙ none)))
  | inr differ ↦ ap (λ b. ite b found (digests_in old e)) (ne_eqb d e differ)
      ∙ sym (ap (λ b. ite b (first_digest (digests_in old e) found) (digests_in old e))
      (ne_eqb d e differ))
]

-- ---- one note more

module _ (w : Walk) (up : ByPath w.entries) where
  pub skipped_alone : (note : Note) → IsOpenNote w note → note.finding.skippable ≡ is_skipped w
      note.entry
  skipped_alone note n = n.noted.skips_is ∙ sym (open_skipped w up note.entry n.noted.known n.lies)

  noted_more : (done : List Note) (note : Note) (e : ℕ) → 0 < times e (noted_in (done ++ note ∷ []))
      → (0 < times e (noted_in done)) ⊎ (note.entry ≡ e)
  noted_more done note e h =
      let k : 0 < times e (noted_in done ++ note.entry ∷ []) =
      subst (λ l. 0 < times e l) (map-append (λ (n : Note). n.entry) done (note ∷ [])) h in
      let a = times_append e (noted_in done) (note.entry ∷ []) in
      elim (cases_lt 0 (times e (noted_in done)))
      [ inl lt ↦ inl lt | inr ge ↦ inr (hit_is note.entry e (omega (arith, k, a, ge))) ]

  pub decided_more : (done : List Note) (note : Note) (old new : List ℕ) → AreDecidedPut w done old
      → IsOpenNote w note → IsNumberPut old new note.entry note.decided
      → AreDecidedPut w (done ++ note ∷ []) new
  decided_more done note old new d n put = record {
    room = put.room ∙ d.room;
    right = λ e l. elim (cases_eq e note.entry) [
      | inl same ↦ inr (subst (λ k. found_in new k ≡ deciding w k) (sym same) here)
      | inr differ ↦ ⊎_elim (λ none. inl (put.others e differ ∙ none))
          (λ is. inr (put.others e differ ∙ is)) (d.right e l)
    ];
    where_noted = λ e l h. elim (cases_eq e note.entry) [
      | inl same ↦ subst (λ k. found_in new k ≡ deciding w k) (sym same) here
      | inr differ ↦ ⊎_elim (λ (old_one : 0 < times e (noted_in done)). put.others e differ
          ∙ d.where_noted e l old_one) (λ (this : note.entry ≡ e). absurd (differ (sym this)))
          (noted_more done note e h)
    ];
  }
    where
      here : found_in new note.entry ≡ deciding w note.entry
      here = put.here (let room = d.room in let known = n.noted.known in omega (arith, room, known))
          ∙ n.noted.decided_is ∙ open_deciding w up note.entry n.noted.known n.lies

  -- a directory that is skipped by itself
  pub skips_more : (done : List Note) (note : Note) (old new : List Skip) → AreSkipsPut w done old
      → IsOpenNote w note → skippable w note.entry ≡ true
      → AreSkippedTo old note.entry (extent_of w.entries note.entry) new
      → AreSkipsPut w (done ++ note ∷ []) new
  skips_more done note old new s n over put = record {
    room = put.room ∙ s.room;
    right = λ e l. place_right e l;
    where_noted = λ d e l h skips m inside. ⊎_elim
        (λ (old_one : 0 < times d (noted_in done)). stays e m
        (s.where_noted d e l old_one skips m inside))
        (λ (this : note.entry ≡ d). within e m
        (subst (λ k. in_extent w.entries k e ≡ true) (sym this) inside))
        (noted_more done note d h);
  }
    where
      known : note.entry < walk_count w
      known = n.noted.known

      behind : note.entry < extent_of w.entries note.entry
      behind = (extent_shown w.entries up note.entry known).behind

      first : get_or new note.entry Not ≡ skip_of w note.entry
      first = put.here (let room = s.room in let k = known in omega (arith, room, k))
          ∙ sym (open_first w up note.entry known n.lies over)

      within : (e : ℕ) → e < walk_count w → in_extent w.entries note.entry e ≡ true
          → get_or new e Not ≡ skip_of w e
      within e m inside = elim (cases_eq note.entry e) [
        | inl same ↦ subst (λ k. get_or new k Not ≡ skip_of w k) same first
        | inr differ ↦ (
            let run = has_extent w.entries up note.entry e known m inside in
            let low = run.0 in
            let room = s.room in
            put.below e (omega (arith, low, differ)) run.1 (omega (arith, room, m))
            ∙ sym (below_first w up note.entry e
            (record { known = known; over = over; inside = inside }) differ))
      ]

      outside : (e : ℕ) → (e < note.entry) ⊎ (extent_of w.entries note.entry ≤ e)
          → get_or new e Not ≡ get_or old e Not
      outside e apart = put.others e apart behind

      -- what was right stays so
      stays : (e : ℕ) → e < walk_count w → get_or old e Not ≡ skip_of w e
          → get_or new e Not ≡ skip_of w e
      stays e m is = elim (cases_lt e note.entry) [
        | inl lt ↦ outside e (inl lt) ∙ is
        | inr ge ↦ elim (cases_lt e (extent_of w.entries note.entry)) [
          | inl lt ↦ within e m (extent_has w.entries up note.entry e known ge lt)
          | inr high ↦ outside e (inr high) ∙ is
        ]
      ]

      place_right : (e : ℕ) → e < walk_count w
          → (get_or new e Not ≡ Not) ⊎ (get_or new e Not ≡ skip_of w e)
      place_right e m = elim (cases_lt e note.entry) [
        | inl lt ↦ ⊎_elim (λ none. inl (outside e (inl lt) ∙ none))
            (λ is. inr (outside e (inl lt) ∙ is)) (s.right e m)
        | inr ge ↦ elim (cases_lt e (extent_of w.entries note.entry)) [
          | inl lt ↦ inr (within e m (extent_has w.entries up note.entry e known ge lt))
          | inr high ↦ ⊎_elim (λ none. inl (outside e (inr high) ∙ none))
              (λ is. inr (outside e (inr high) ∙ is)) (s.right e m)
        ]
      ]

  -- another entry changes nothing
  pub skips_stay : (done : List Note) (note : Note) (skips : List Skip) → AreSkipsPut w done skips
      → skippable w note.entry ≡ false → AreSkipsPut w (done ++ note ∷ []) skips
  skips_stay done note skips s over = record {
    room = s.room;
    right = s.right;
    where_noted = λ d e l h skipped m inside. ⊎_elim
        (λ (old_one : 0 < times d (noted_in done)). s.where_noted d e l old_one skipped m inside)
        (λ (this : note.entry ≡ d). absurd
        (true≢false (sym skipped ∙ ap (skippable w) (sym this) ∙ over)))
        (noted_more done note d h);
  }

  pub digests_more : (done : List Note) (note : Note) (old new : BTreeMap ℕ (List ℕ))
      → AreDigestsPut w done old → KeepsFirst old new note.entry (renewal w note.entry)
      → AreDigestsPut w (done ++ note ∷ []) new
  digests_more done note old new d keeps = record {
    right = λ e l. elim (cases_eq note.entry e) [
      | inl same ↦ inr (this e l same)
      | inr differ ↦ ⊎_elim (λ none. inl (elsewhere e differ ∙ none))
          (λ is. inr (elsewhere e differ ∙ is)) (d.right e l)
    ];
    where_noted = λ e l h. elim (cases_eq note.entry e) [
      | inl same ↦ this e l same
      | inr differ ↦ ⊎_elim (λ (old_one : 0 < times e (noted_in done)). elsewhere e differ
          ∙ d.where_noted e l old_one) (λ (same : note.entry ≡ e). absurd (differ same))
          (noted_more done note e h)
    ];
  }
    where
      elsewhere : (e : ℕ) → note.entry ≢ e → digests_in new e ≡ digests_in old e
      elsewhere e differ =
          keeps e ∙ ap (λ b. ite b (first_digest (digests_in old e) (renewal w note.entry))
          (digests_in old e)) (ne_eqb note.entry e differ)

      shown_by : (x y : Option (List ℕ)) → (x ≡ None) ⊎ (x ≡ y) → first_digest x y ≡ y
      shown_by x y h = ⊎_elim (λ none. ap (λ z. first_digest z y) none)
          (λ is. ap (λ z. first_digest z y) is ∙ itself y) h
        where
          itself : (z : Option (List ℕ)) → first_digest z z ≡ z
          itself None = refl
          itself (Some v) = refl

      this : (e : ℕ) → e < walk_count w → note.entry ≡ e → digests_in new e ≡ renewal w e
      this e l same =
          keeps e ∙ ap (λ b. ite b (first_digest (digests_in old e) (renewal w note.entry))
          (digests_in old e)) (eq-eqb note.entry e same)
          ∙ ap (λ k. first_digest (digests_in old e) (renewal w k)) same
          ∙ shown_by (digests_in old e) (renewal w e) (d.right e l)

  -- of a directory that is skipped no digest is made
  pub digests_stay : (done : List Note) (note : Note) (made : BTreeMap ℕ (List ℕ))
      → AreDigestsPut w done made → IsOpenNote w note → skippable w note.entry ≡ true
      → AreDigestsPut w (done ++ note ∷ []) made
  digests_stay done note made d n over = record {
    right = d.right;
    where_noted = λ e l h. ⊎_elim
        (λ (old_one : 0 < times e (noted_in done)). d.where_noted e l old_one)
        (λ (same : note.entry ≡ e). let none = none_renewed_if_skipped w up e
        (ap (is_skipped w) (sym same) ∙ skippable_skipped w up note.entry n.noted.known over) in
        ⊎_elim (λ is_none. is_none ∙ sym none) (λ is. is) (d.right e l)) (noted_more done note e h);
  }

  -- ---- all notes

  pub put_found : (notes : List Note) (noted : Noted) (swept : Swept) (winners : List ℕ)
      → AreAllNoted w notes → ArePutBack w notes noted swept
      → ((g : ℕ) → g < groups_in w.entries → found_in winners g ≡ winner w g)
      → AreWalkAnswers w noted.decided.items winners
  put_found notes noted swept winners a p is = record {
    decided_are = λ e l. by_home e l (is_job_open w (entry_home w.entries e)) refl;
    winners_are = is;
  }
    where
      by_home : (e : ℕ) → e < walk_count w → (b : Bool) → is_job_open w (entry_home w.entries e) ≡ b
          → found_in noted.decided.items e ≡ deciding w e
      by_home e l true h = p.decided.where_noted e l (a.whole e l h)
      by_home e l false h = ⊎_elim (λ none. none ∙ sym (skipped_none w e (shut_skipped w up e l h)))
          (λ right. right) (p.decided.right e l)

  pub put_passed : (notes : List Note) (noted : Noted) (swept : Swept) → AreAllNoted w notes
      → ArePutBack w notes noted swept → AreSwept w swept.skips.items swept.made
  put_passed notes noted swept a p = record {
    skips_are = λ e l. by_skip e l (is_skipped w e) refl;
    made_are = λ e l. by_home e l (is_job_open w (entry_home w.entries e)) refl;
  }
    where
      by_home : (e : ℕ) → e < walk_count w → (b : Bool) → is_job_open w (entry_home w.entries e) ≡ b
          → digests_in swept.made e ≡ renewal w e
      by_home e l true h = p.digests.where_noted e l (a.whole e l h)
      by_home e l false h =
          ⊎_elim (λ none. none ∙ sym (none_renewed_if_skipped w up e (shut_skipped w up e l h)))
          (λ right. right) (p.digests.right e l)

      by_skip : (e : ℕ) → e < walk_count w → (b : Bool) → is_skipped w e ≡ b
          → get_or swept.skips.items e Not ≡ skip_of w e
      by_skip e l false h = ⊎_elim (λ none. none ∙ sym (not_skipped w up e l h)) (λ right. right)
          (p.skips.right e l)
      by_skip e l true h =
          let top = top_cover w up e h in
          p.skips.where_noted top.directory e top.covers.known
          (a.whole top.directory top.covers.known top.lies) top.covers.over l top.covers.inside
