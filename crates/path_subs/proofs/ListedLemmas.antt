-- The last line that covers a path, by the texts of the path's fronts.
use Rattle.std.proofs.Common.{◌≡◌, ◌∙◌, ap, ap₂, sym, refl, subst, ℕ, zero, suc, ◌+◌, ◌<◌, ◌≤◌}
use Rattle.std.proofs.Common.{Bool, true, false, List, [], ◌∷◌, length, take, drop, arith, add-one}
use Rattle.std.specs.Prelude.{Option, Some, None, IfSome, ◌&&◌, ◌||◌, ◌-◌, nat_eq, nat_le, filter}
use Rattle.std.specs.Prelude.{get_or, slice_get, min}
use Rattle.std.specs.List.{last_or, starts_with}
use Rattle.std.specs.Option.{option_map}
use Rattle.std.specs.Cmp.Lexicographic.{bytes_decides}
use Rattle.std.proofs.lemmas.Bool.Decides.{nat_tests}
use Rattle.std.proofs.lemmas.List.{get_or-take, length-take-le, take_all}
use Rattle.std.proofs.lemmas.Option.{get_or_from_slice_get, slice_get-get_or}
use Rattle.std.proofs.lemmas.Bool.{and_right}
use Rattle.std.specs.Cmp.{first_so, second_so}
use Rattle.std.specs.declared.vec.Vec.{Vec}
use Rattle.label_base.specs.Bounded.{greater, greatest_below, last_or_found}
use Rattle.label_base.specs.Text.{same_bytes}
use Rattle.file_paths.specs.Path.{Path, are_names, at_or_below, is_root_path, path_text}
use Rattle.file_paths.specs.Path.{with_slashes}
use Rattle.file_paths.specs.PathText.{ends_name, text_at_or_below}
use Rattle.label_base.proofs.BoundedLemmas.{greater_below, greatest_agree, greatest_bound}
use Rattle.label_base.proofs.BoundedLemmas.{greatest_none, greatest_passes}
use Rattle.file_paths.proofs.PathTexts.{below_texts}
use Rattle.path_subs.specs.Listed.{AreSubsListed, sub_fits_at, has_text, last_covering}
use Rattle.path_subs.specs.Listed.{mark, mark_by, sub_at, sub_by_default}
use Rattle.path_subs.specs.Subs.{SubValue, covering, covers}
use Rattle.path_subs.proofs.Covering.{last_found, last_passed}

-- the line covers the path, and its source's text has so many bytes at most
abbrev pub covers_to : Path → ℕ → SubValue → Bool
covers_to path end sub = covers path sub && nat_le (length (with_slashes sub.source)) end

-- ---- fronts of a text

le_zero : (n : ℕ) → nat_le (suc n) zero ≡ false
le_zero n = grind (arith, nat_tests)

le_suc : (m n : ℕ) → nat_le (suc m) (suc n) ≡ nat_le m n
le_suc m n = grind (arith, nat_tests)

le_none : (n : ℕ) → nat_le 0 n ≡ true
le_none n = grind (arith, nat_tests)

le_two : (n : ℕ) → nat_le (suc (suc n)) 1 ≡ false
le_two n = grind (arith, nat_tests)

le_one : nat_le 1 1 ≡ true
le_one = grind (arith, nat_tests)

and_empty : (e b : Bool) → (e && true) ≡ ((e && true) || (b && false))
and_empty true true = refl
and_empty true false = refl
and_empty false true = refl
and_empty false false = refl

and_first : (s e : Bool) → (((s && true) && e) && true)
    ≡ ((((s && true) && e) && false) || (e && (s && true)))
and_first true true = refl
and_first true false = refl
and_first false true = refl
and_first false false = refl

and_past : (a e b s : Bool) → ((a && e) && false) ≡ (((a && e) && false) || (b && (s && false)))
and_past true true true true = refl
and_past true true true false = refl
and_past true true false s = refl
and_past true false true true = refl
and_past true false true false = refl
and_past true false false s = refl
and_past false e true true = refl
and_past false e true false = refl
and_past false e false s = refl

and_case : (s a e b c f p : Bool) → ((a && e) && b) ≡ (((a && e) && c) || (f && p))
    → (((s && a) && e) && b) ≡ ((((s && a) && e) && c) || (f && (s && p)))
and_case true a e b c f p h = h
and_case false a e b c true p h = refl
and_case false a e b c false p h = refl

nat_eq_sym : (a b : ℕ) → nat_eq a b ≡ nat_eq b a
nat_eq_sym a b = grind (arith, nat_tests)

-- a front with one byte more is what stands before the next place, where a name ends there
front_case : (text source : List ℕ) (end : ℕ) → end < length text
    → (text_at_or_below text source && nat_le (length source) (suc end))
    ≡ ((text_at_or_below text source && nat_le (length source) end)
    || (ends_name (drop (suc end) text) && same_bytes (take (suc end) text) source))
front_case [] source end l = absurd (omega (arith, l))
front_case (x ∷ xs) [] end l =
    rw (le_none (suc end), le_none end) (and_empty (ends_name (x ∷ xs)) (ends_name (drop end xs)))
front_case (x ∷ xs) (y ∷ []) zero l =
    rw (le_one, le_zero 0, nat_eq_sym y x) (and_first (nat_eq x y) (ends_name xs))
front_case (x ∷ xs) (y ∷ z ∷ zs) zero l =
    rw (le_two (length zs), le_zero (suc (length zs)))
    (and_past (nat_eq y x && starts_with nat_eq xs (z ∷ zs)) (ends_name (drop (suc (length zs)) xs))
    (ends_name xs) (nat_eq x y))
front_case (x ∷ xs) (y ∷ ys) (suc end) l =
    rw (le_suc (length ys) (suc end), le_suc (length ys) end, nat_eq_sym y x)
    (and_case (nat_eq x y) (starts_with nat_eq xs ys) (ends_name (drop (length ys) xs))
    (nat_le (length ys) (suc end)) (nat_le (length ys) end)
    (ends_name (drop (suc end) xs)) (same_bytes (take (suc end) xs) ys)
    (front_case xs ys end (omega (arith, l))))

shorter : (text source : List ℕ) → starts_with nat_eq text source ≡ true
    → length source ≤ length text
shorter text [] h = omega arith
shorter [] (y ∷ ys) h = cc
shorter (x ∷ xs) (y ∷ ys) h = let s =
    shorter xs ys (second_so (nat_eq y x) (starts_with nat_eq xs ys) h) in omega (arith, s)

-- ---- the texts of a path and of a source

pub nonroot_text : (path : Path) → is_root_path path ≡ false → path_text path ≡ with_slashes path
nonroot_text [] h = cc
nonroot_text (x ∷ xs) h = refl

-- the root's text begins with no source's
root_case : (source : Path) → are_names source ≡ true → 0 < length source
    → text_at_or_below (47 ∷ []) (with_slashes source) ≡ false
root_case [] h g = absurd (omega arith)
root_case ([] ∷ names) h g = cc
root_case ((b ∷ bs) ∷ names) h g = refl

root_covers : (source : Path) → 0 < length source → at_or_below [] source ≡ false
root_covers [] h = absurd (omega arith)
root_covers (x ∷ xs) h = refl

pub covers_text : (path : Path) (sub : SubValue) → are_names path ≡ true → are_names sub.source
    ≡ true → 0 < length sub.source
    → covers path sub ≡ text_at_or_below (path_text path) (with_slashes sub.source)
covers_text [] sub named own some = root_covers sub.source some
    ∙ sym (root_case sub.source own some)
covers_text (x ∷ xs) sub named own some = below_texts (x ∷ xs) sub.source named own

-- the line covers the path with a text that is at most a byte longer: it did before, or it fits at
-- the place
covers_more : (path : Path) (end : ℕ) (sub : SubValue) → are_names path ≡ true
    → are_names sub.source ≡ true → 0 < length sub.source → end < length (path_text path)
    → (covers_to path end sub || sub_fits_at (path_text path) (end + 1) sub) ≡ covers_to path
    (end + 1) sub
covers_more path end sub named own some l =
    let e = covers_text path sub named own some in
    rw (add-one, e) (sym (front_case (path_text path) (with_slashes sub.source) end l))

pub text_some : (path : Path) → 0 < length path → 0 < length (with_slashes path)
text_some [] h = absurd (omega arith)
text_some (x ∷ xs) h = omega arith

-- the mark of a front
pub mark_front : (text : List ℕ) (end : ℕ) → 0 < end → end ≤ length text → mark (take end text)
    ≡ mark_by end (get_or text (end - 1) 0)
mark_front text end p l =
    ap (λ n. mark_by n (get_or (take end text) (n - 1) 0)) (length-take-le end text l)
    ∙ ap (mark_by end) (get_or-take end text (end - 1) 0 (omega (arith, p)))

module _ {A : Type 0} (subs : List SubValue) (entries : List (Vec ℕ A × ℕ)) (marks : List Bool)
    (longest : ℕ) (listed : AreSubsListed subs (length subs) entries marks longest) where
  -- no name ends at the place
  pub fits_inside : (text : List ℕ) (end : ℕ) → ends_name (drop end text) ≡ false
      → None ≡ greatest_below (length subs) (λ i. sub_fits_at text end (sub_at subs i))
  fits_inside text end e =
      sym (greatest_none (length subs) (λ i. sub_fits_at text end (sub_at subs i))
      (λ i l. ap (λ b. b && has_text (take end text) (sub_at subs i)) e))

  unmarked : (front : List ℕ) (i : ℕ) (b : Bool) → i < length subs → get_or marks (mark front) false
      ≡ false → has_text front (sub_at subs i) ≡ b → b ≡ false
  unmarked front i false l m h = refl
  unmarked front i true l m h =
      let same : front ≡ with_slashes (sub_at subs i).source =
      (bytes_decides front (with_slashes (sub_at subs i).source)).0 h in
      let own : get_or marks (mark front) false ≡ true = ap (λ t. get_or marks (mark t) false) same
      ∙ listed.marked i l in
      cc

  -- what stands before the place isn't marked
  pub fits_unmarked : (text : List ℕ) (end : ℕ) → get_or marks (mark (take end text)) false ≡ false
      → None ≡ greatest_below (length subs) (λ i. sub_fits_at text end (sub_at subs i))
  fits_unmarked text end m =
      sym (greatest_none (length subs) (λ i. sub_fits_at text end (sub_at subs i))
      (λ i l. and_right (ends_name (drop end text)) (has_text (take end text) (sub_at subs i))
      (unmarked (take end text) i _ l m refl)))

  module _ (path : Path) (named : are_names path ≡ true) where
    no_bytes : (i : ℕ) → i < length subs → covers_to path 0 (sub_at subs i) ≡ false
    no_bytes i l =
        let some = text_some (sub_at subs i).source (listed.some i l) in
        and_right (covers path (sub_at subs i))
        (nat_le (length (with_slashes (sub_at subs i).source)) 0) (grind (arith, nat_tests))

    -- no byte is looked at
    pub found_none : None ≡ greatest_below (length subs) (λ i. covers_to path 0 (sub_at subs i))
    found_none = sym (greatest_none (length subs) (λ i. covers_to path 0 (sub_at subs i)) no_bytes)

    -- one place more
    pub found_next : (end : ℕ) (found number : Option ℕ) → end < length (path_text path)
        → found ≡ greatest_below (length subs) (λ i. covers_to path end (sub_at subs i))
        → number ≡ greatest_below (length subs)
        (λ i. sub_fits_at (path_text path) (end + 1) (sub_at subs i))
        → greater found number ≡ greatest_below (length subs)
        (λ i. covers_to path (end + 1) (sub_at subs i))
    found_next end found number l h k =
        ap₂ greater h k
        ∙ greater_below (length subs) (λ i. covers_to path end (sub_at subs i))
        (λ i. sub_fits_at (path_text path) (end + 1) (sub_at subs i))
        ∙ greatest_agree (length subs)
        (λ i. covers_to path end (sub_at subs i) || sub_fits_at (path_text path) (end + 1)
        (sub_at subs i)) (λ i. covers_to path (end + 1) (sub_at subs i))
        (λ i m. covers_more path end (sub_at subs i) named (listed.named i m) (listed.some i m) l)

    whole : (most i : ℕ) (b : Bool) → most ≡ min (length (path_text path)) longest → i < length subs
        → covers path (sub_at subs i) ≡ b → covers_to path most (sub_at subs i) ≡ covers path
        (sub_at subs i)
    whole most i false m l e =
        ap (λ b. b && nat_le (length (with_slashes (sub_at subs i).source)) most) e ∙ sym e
    whole most i true m l e =
        let source = with_slashes (sub_at subs i).source in
        let text : text_at_or_below (path_text path) source ≡ true =
        sym (covers_text path (sub_at subs i) named (listed.named i l) (listed.some i l)) ∙ e in
        let within =
        shorter (path_text path) source
        (first_so (starts_with nat_eq (path_text path) source)
        (ends_name (drop (length source) (path_text path))) text) in
        let low : length source ≤ most = omega (arith, m, within, listed.short i l) in
        let le : nat_le (length source) most ≡ true = grind (arith, nat_tests) in
        (λ j. e j && le j) ∙ sym e

    -- as many bytes as could serve
    pub found_all : (most : ℕ) (found : Option ℕ) → most ≡ min (length (path_text path)) longest
        → found ≡ greatest_below (length subs) (λ i. covers_to path most (sub_at subs i))
        → found ≡ last_covering subs path
    found_all most found m h =
        h ∙ greatest_agree (length subs) (λ i. covers_to path most (sub_at subs i))
        (λ i. covers path (sub_at subs i))
        (λ i l. whole most i (covers path (sub_at subs i)) m l refl)

-- ---- the line with the index

last_by : (subs : List SubValue) (path : Path) (n : ℕ) (b : Bool) → n < length subs
    → covers path (sub_at subs n) ≡ b
    → last_or None (filter (covers path) (take n subs)) ≡ option_map (sub_at subs)
    (greatest_below n (λ i. covers path (sub_at subs i)))
    → last_or None (filter (covers path) (take (suc n) subs)) ≡ option_map (sub_at subs)
    (last_or_found (greatest_below n (λ i. covers path (sub_at subs i))) n b)
last_by subs path n true l e h = last_found (covers path) subs n (suc n) (sub_at subs n)
    (omega arith) (slice_get-get_or subs n sub_by_default l) e
last_by subs path n false l e h = last_passed (covers path) subs n (suc n) (sub_at subs n)
    (omega arith) (slice_get-get_or subs n sub_by_default l) e ∙ h

take_last : (subs : List SubValue) (path : Path) (n : ℕ) → n ≤ length subs
    → last_or None (filter (covers path) (take n subs)) ≡ option_map (sub_at subs)
    (greatest_below n (λ i. covers path (sub_at subs i)))
take_last subs path zero l = refl
take_last subs path (suc n) l = last_by subs path n (covers path (sub_at subs n)) (omega (arith, l))
    refl (take_last subs path n (omega (arith, l)))

pub covering_is : (subs : List SubValue) (path : Path)
    → covering subs path ≡ option_map (sub_at subs) (last_covering subs path)
covering_is subs path = ap (λ s. last_or None (filter (covers path) s))
    (sym (take_all (length subs) subs (omega arith)))
    ∙ take_last subs path (length subs) (omega arith)

pub covering_none : (subs : List SubValue) (path : Path) → None ≡ last_covering subs path
    → covering subs path ≡ None
covering_none subs path h = covering_is subs path ∙ ap (option_map (sub_at subs)) (sym h)

pub covering_some : (subs : List SubValue) (path : Path) (i : ℕ) (sub : SubValue)
    → slice_get subs i ≡ Some sub → Some i ≡ last_covering subs path → covering subs path ≡ Some sub
covering_some subs path i sub g h = covering_is subs path ∙ ap (option_map (sub_at subs)) (sym h)
    ∙ ap Some (get_or_from_slice_get subs i sub sub_by_default g)

pub index_within : (subs : List SubValue) (path : Path) (i : ℕ) → Some i ≡ last_covering subs path
    → i < length subs
index_within subs path i h = subst (λ o. IfSome o (λ k. k < length subs)) (sym h)
    (greatest_bound (length subs) (λ i. covers path (sub_at subs i)))

pub covered_by : (subs : List SubValue) (path : Path) (i : ℕ) (sub : SubValue)
    → slice_get subs i ≡ Some sub → Some i ≡ last_covering subs path → covers path sub ≡ true
covered_by subs path i sub g h =
    let own : covers path (sub_at subs i) ≡ true =
    subst (λ o. IfSome o (λ k. covers path (sub_at subs k) ≡ true)) (sym h)
    (greatest_passes (length subs) (λ i. covers path (sub_at subs i))) in
    ap (covers path) (sym (get_or_from_slice_get subs i sub sub_by_default g)) ∙ own
