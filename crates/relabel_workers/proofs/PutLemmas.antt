-- A note more, a row more, and a winner more that is put back.
use Rattle.std.proofs.Common.{◌≡◌, ◌∙◌, sym, ap, subst, ℕ, ◌+◌, ◌<◌, ◌≤◌, ◌^◌, true, false, List}
use Rattle.std.proofs.Common.{[], ◌∷◌, ◌++◌, length, take, get_or, replicate, Option, Some, None}
use Rattle.std.proofs.Common.{IfSome, inl, inr, append_assoc, arith, length-append}
use Rattle.std.specs.Prelude.{All}
use Rattle.std.specs.List.{flat_map}
use Rattle.std.proofs.lemmas.Bool.{cases_eq}
use Rattle.std.proofs.lemmas.List.{flat_map_more, get_or-append-add, get_or-replicate}
use Rattle.std.proofs.lemmas.List.{get_or_append_left, length-replicate, take_all, take_more}
use Rattle.std.proofs.lemmas.List.Concat.{get_or-flat_map}
use Rattle.std.proofs.lemmas.List.Folds.{length-flat_map-take}
use Rattle.tree_model.specs.Extents.{extent_of}
use Rattle.tree_model.specs.Groups.{groups_in}
use Rattle.tree_model.specs.Tree.{ByPath}
use Rattle.relabel_core.specs.Numbers.{IsNumberPut, found_in, no_numbers}
use Rattle.relabel_core.specs.Swept.{renewal}
use Rattle.relabel_core.specs.Stored.{digests_in}
use Rattle.relabel_core.specs.Walk.{Walk, walk_count, skippable, winner}
use Rattle.relabel_core.specs.declared.noting.Noted.{Noted}
use Rattle.relabel_core.specs.Walked.{HasWalkRoom}
use Rattle.relabel_core.specs.declared.swept.Swept.{Swept}
use Rattle.relabel_core.specs.declared.swept.Skip.TheVariants.{Not}
use Rattle.relabel_core.proofs.NotedLemmas.{none_in, winner_within}
use Rattle.relabel_workers.specs.PutBack.{AreDigestsPut, ArePutBack, AreSkippedTo, AreSkipsPut}
use Rattle.relabel_workers.specs.PutBack.{IsOpenNote, KeepsFirst}
use Rattle.relabel_workers.specs.declared.note.Note.{Note}
use Rattle.relabel_workers.proofs.SkipLemmas.{decided_more, digests_more, digests_stay, skips_more}
use Rattle.relabel_workers.proofs.SkipLemmas.{skips_stay}

module _ (w : Walk) (up : ByPath w.entries) (done : List Note) (note : Note) (noted next : Noted)
    (swept after : Swept) (before : ArePutBack w done noted swept)
    (lies : IsOpenNote w note) (put : IsNumberPut noted.decided.items next.decided.items note.entry
    note.decided) (winners : next.winners.items ≡ noted.winners.items) where
  room : length next.winners.items ≡ groups_in w.entries
  room = ap length winners ∙ before.winners_room

  -- a directory that is skipped by itself
  pub put_over : note.finding.skippable ≡ true → AreSkippedTo swept.skips.items note.entry
      (extent_of w.entries note.entry) after.skips.items → after.made ≡ swept.made
      → ArePutBack w (done ++ note ∷ []) next after
  put_over over skips made =
      let is : skippable w note.entry ≡ true = sym lies.noted.skips_is ∙ over in
      record {
        decided = decided_more w up done note noted.decided.items next.decided.items before.decided
            lies put;
        skips = skips_more w up done note swept.skips.items after.skips.items before.skips lies is
            skips;
        digests = digests_stay w up done note after.made
            (subst (λ m. AreDigestsPut w done m) (sym made) before.digests) lies is;
        winners_room = room;
      }

  -- another entry
  pub put_by : note.finding.skippable ≡ false → after.skips.items ≡ swept.skips.items
      → KeepsFirst swept.made after.made note.entry (renewal w note.entry)
      → ArePutBack w (done ++ note ∷ []) next after
  put_by over skips made =
      let is : skippable w note.entry ≡ false = sym lies.noted.skips_is ∙ over in
      record {
        decided = decided_more w up done note noted.decided.items next.decided.items before.decided
            lies put;
        skips = skips_stay w up done note after.skips.items
            (subst (λ s. AreSkipsPut w done s) (sym skips) before.skips) is;
        digests = digests_more w up done note swept.made after.made before.digests made;
        winners_room = room;
      }

pub few_more : (found : Option ℕ) (n : ℕ) → IfSome found (λ i. i < n) → n < 2 ^ 32
    → IfSome found (λ i. i + 1 < 4294967296)
few_more None n h l = tt
few_more (Some i) n h l = omega (arith, h, l)

-- ---- nothing is put back yet

pub none_put : (w : Walk) (noted : Noted) (swept : Swept)
    → HasWalkRoom w noted.decided.items noted.winners.items
    → ((e : ℕ) → e < walk_count w → found_in noted.decided.items e ≡ None)
    → swept.skips.items ≡ replicate (walk_count w) Not
    → ((e : ℕ) → digests_in swept.made e ≡ None) → ArePutBack w [] noted swept
none_put w noted swept room none skips made = record {
  decided = record {
    room = room.each_entry;
    right = λ e l. inl (none e l);
    where_noted = λ e l h. absurd
        (omega (arith, h));
  };
  skips = record {
    room = ap length skips ∙ length-replicate (walk_count w) Not;
    right = λ e l. inl (ap (λ s. get_or s e Not) skips ∙ get_or-replicate (walk_count w) e Not Not
        l);
    where_noted = λ d e l h s m i. absurd (omega (arith, h));
  };
  digests = record
      { right = λ e l. inl (made e); where_noted = λ e l h. absurd (omega (arith, h)) };
  winners_room = room.each_group;
}

pub all_put : (w : Walk) (notes : List Note) (noted next : Noted) (swept after : Swept) (n : ℕ)
    → HasWalkRoom w noted.decided.items noted.winners.items
    → noted.decided.items ≡ no_numbers (walk_count w)
    → swept.skips.items ≡ replicate n Not → n ≡ walk_count w
    → ((e : ℕ) → digests_in swept.made e ≡ None)
    → ((done : List Note) → ArePutBack w done noted swept
    → ArePutBack w (done ++ notes) next after) → ArePutBack w notes next after
all_put w notes noted next swept after n room none skips same made put =
    put [] (none_put w noted swept room
    (λ e l. ap (λ ns. found_in ns e) none ∙ none_in (walk_count w) e l) (skips
    ∙ ap (λ k. replicate k Not) same) made)

-- ---- rows

pub take_one : (done xs : List Note) (i : ℕ) (x : Note) → i < length xs → x ≡ get_or xs i x
    → (done ++ take i xs) ++ x ∷ [] ≡ done ++ take (i + 1) xs
take_one done xs i x l is =
    append_assoc done (take i xs) (x ∷ [])
    ∙ ap (λ ys. done ++ ys) (ap (λ y. take i xs ++ y ∷ []) is ∙ sym (take_more xs i x l))

pub take_whole : (done xs : List Note) (i : ℕ) → length xs ≤ i → done ++ take i xs ≡ done ++ xs
take_whole done xs i l = ap (λ ys. done ++ ys) (take_all i xs l)

pub row_notes : {X A : Type 0} (P : A → Type 0) (f : X → List A) (xs : List X) (i : ℕ) (x : X)
    → i < length xs → x ≡ get_or xs i x → All P (flat_map f xs) → All P (f x)
row_notes P f xs i x m is all = λ k d l.
    let inside : k < length (f (get_or xs i x)) = subst (λ y. k < length (f y)) is l in
    let room = length-flat_map-take f xs i x m in
    subst P (get_or-flat_map f xs i k x d m inside ∙ ap (λ y. get_or (f y) k d) (sym is))
    (all (length (flat_map f (take i xs)) + k) d (omega (arith, room, inside)))

pub front_notes : {A : Type 0} (P : A → Type 0) (xs ys : List A) → All P (xs ++ ys) → All P xs
front_notes P xs ys all = λ k d l. subst P (get_or_append_left xs ys d k l)
    (all k d (let n = length-append xs ys in omega (arith, l, n)))

pub last_notes : {A : Type 0} (P : A → Type 0) (xs ys : List A) → All P (xs ++ ys) → All P ys
last_notes P xs ys all = λ k d l. subst P (get_or-append-add xs ys k d)
    (all (length xs + k) d (let n = length-append xs ys in omega (arith, l, n)))

pub take_row : {X A : Type 0} (f : X → List A) (done : List A) (xs : List X) (i : ℕ) (x : X)
    → i < length xs → x ≡ get_or xs i x
    → (done ++ flat_map f (take i xs)) ++ f x ≡ done ++ flat_map f (take (i + 1) xs)
take_row f done xs i x l is =
    flat_map_more f done (take i xs) x
    ∙ ap (λ ys. done ++ flat_map f ys) (ap (λ y. take i xs ++ y ∷ []) is
    ∙ sym (take_more xs i x l))

pub take_rows : {X A : Type 0} (f : X → List A) (done : List A) (xs : List X) (i : ℕ)
    → length xs ≤ i → done ++ flat_map f (take i xs) ≡ done ++ flat_map f xs
take_rows f done xs i l = ap (λ ys. done ++ flat_map f ys) (take_all i xs l)

-- ---- winners

pub winner_few : (w : Walk) (g : ℕ) (found : Option ℕ) → found ≡ winner w g → walk_count w < 2 ^ 32
    → IfSome found (λ k. k + 1 < 4294967296)
winner_few w g None e l = tt
winner_few w g (Some k) e l = let b : k < walk_count w =
    subst (λ o. IfSome o (λ x. x < walk_count w)) (sym e) (winner_within w g) in omega (arith, b, l)

pub winner_small : (w : Walk) (g : ℕ) (found : Option ℕ) → found ≡ winner w g
    → walk_count w < 2 ^ 32 → IfSome found (λ k. k < 4294967296)
winner_small w g None e l = tt
winner_small w g (Some k) e l = let b : k < walk_count w =
    subst (λ o. IfSome o (λ x. x < walk_count w)) (sym e) (winner_within w g) in omega (arith, b, l)

-- what is put at a place joins what stands before it
pub put_more : (f : ℕ → Option ℕ) (old new : List ℕ) (i : ℕ) (found : Option ℕ) → i < length old
    → ((k : ℕ) → k < i → found_in old k ≡ f k) → IsNumberPut old new i found → found ≡ f i
    → (k : ℕ) → k < i + 1 → found_in new k ≡ f k
put_more f old new i found l shown put is k m = elim (cases_eq k i) [
  | inl same ↦ subst (λ j. found_in new j ≡ f j) (sym same) (put.here l ∙ is)
  | inr differ ↦ put.others k differ ∙ shown k (omega (arith, m, differ))
]
