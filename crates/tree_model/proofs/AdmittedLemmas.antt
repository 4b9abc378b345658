-- An operand whose own entry is admitted already admits nothing more.
use Rattle.std.proofs.Common.{◌≡◌, ◌∙◌, ap, sym, refl, ℕ, ◌<◌, ◌==◌, ◌||◌, Bool, true, false, not}
use Rattle.std.proofs.Common.{List, [], ◌∷◌, length, get_or, ◌⊎◌, inl, inr}
use Rattle.std.specs.Prelude.{◌&&◌, Option, Some, None}
use Rattle.std.specs.Cmp.Lexicographic.{bytes_decides}
use Rattle.std.proofs.lemmas.Bool.{and_from, and_parts, eq-eqb, eqb-true}
use Rattle.label_base.specs.Bounded.{implies}
use Rattle.label_base.specs.Text.{same_bytes}
use Rattle.label_base.proofs.BoundedLemmas.{all_at, all_from, implies_at}
use Rattle.file_paths.specs.Path.{Path, at_or_below}
use Rattle.find_records.specs.Record.{Record}
use Rattle.tree_model.specs.Extents.{entry_at, in_extent}
use Rattle.tree_model.specs.LiveLists.{AreFlags}
use Rattle.tree_model.specs.Selection.{admits, admits_found, is_admitted, stays_on}
use Rattle.tree_model.specs.Tree.{find_in}
use Rattle.tree_model.specs.declared.choice.Choice.{Choice}
use Rattle.tree_model.proofs.AboveLemmas.{below_chain, below_itself, rest_below, same_head}
use Rattle.tree_model.proofs.ClosedLemmas.{implied}
use Rattle.tree_model.proofs.MarkLemmas.{or_true}
use Rattle.tree_model.proofs.SelectLemmas.{flags_same}

two_more : (b a : List ℕ) (y x : Path) → a ≡ b → (at_or_below y x ≡ true) ⊎ (at_or_below x y ≡ true)
    → (at_or_below (b ∷ y) (a ∷ x) ≡ true) ⊎ (at_or_below (a ∷ x) (b ∷ y) ≡ true)
two_more b a y x e (inl h) =
    inl (and_from (same_bytes a b) (at_or_below y x) ((bytes_decides a b).1 e) h)
two_more b a y x e (inr h) =
    inr (and_from (same_bytes b a) (at_or_below x y) ((bytes_decides b a).1 (sym e)) h)

-- of two paths above a third one is above the other
two_above : (z y x : Path) → at_or_below z y ≡ true → at_or_below z x ≡ true
    → (at_or_below y x ≡ true) ⊎ (at_or_below x y ≡ true)
two_above z y [] h g = inl refl
two_above z [] (a ∷ x) h g = inr refl
two_above [] (b ∷ y) (a ∷ x) h g = cc
two_above (c ∷ z) (b ∷ y) (a ∷ x) h g =
    two_more b a y x (same_head c a z x g ∙ sym (same_head c b z y h))
    (two_above z y x (rest_below c b z y h) (rest_below c a z x g))

recursed : (r : Bool) (p o e : ℕ) → (r || (p == o)) ≡ true → (r || (o == e)) ≡ true
    → (r || (p == e)) ≡ true
recursed true p o e h g = refl
recursed false p o e h g = eq-eqb p e (eqb-true p o h ∙ eqb-true o e g)

where_asked : (d s t u : Bool) → (s ≡ true → t ≡ true → u ≡ true) → (not d || s) ≡ true
    → (not d || t) ≡ true → (not d || u) ≡ true
where_asked true s t u f h g = f h g
where_asked false s t u f h g = refl

either : (a b c d : Bool) → (a ≡ true → c ≡ true) → (b ≡ true → d ≡ true) → (a || b) ≡ true
    → (c || d) ≡ true
either true b c d f g h = ap (λ x. x || d) (f refl)
either false b c d f g h = ap (λ x. c || x) (g h) ∙ or_true c

nothing_new : (a b : Bool) → (b ≡ true → a ≡ true) → (a || b) ≡ a
nothing_new true b f = refl
nothing_new false true f = let e : false ≡ true = f refl in cc
nothing_new false false f = refl

module _ (entries : List Record) where
  abbrev device_at : ℕ → ℕ
  device_at a = (entry_at entries a).device

  abbrev path_at : ℕ → Path
  path_at a = (entry_at entries a).path

  stays_at : (o e a : ℕ) → stays_on entries o e ≡ true → a < length entries → in_extent entries o a
      ≡ true → in_extent entries a e ≡ true → device_at a ≡ device_at o
  stays_at o e a h l p q =
      eqb-true (device_at a) (device_at o)
      (implies_at (in_extent entries o a && in_extent entries a e) (device_at a == device_at o)
      (all_at (length entries)
      (λ a. implies (in_extent entries o a && in_extent entries a e)
      (device_at a == device_at o)) a h l)
      (and_from (in_extent entries o a) (in_extent entries a e) p q))

  module _ (p o e : ℕ) (l : o < length entries) (po : in_extent entries p o ≡ true)
      (oe : in_extent entries o e ≡ true) where
    one_device : (a : ℕ) → stays_on entries p o ≡ true → stays_on entries o e ≡ true
        → a < length entries → in_extent entries p a ≡ true → in_extent entries a e ≡ true
        → (in_extent entries o a ≡ true) ⊎ (in_extent entries a o ≡ true)
        → device_at a ≡ device_at p
    one_device a h g w pa ae (inl oa) = stays_at o e a g w oa ae
        ∙ stays_at p o o h l po (below_itself (path_at o))
    one_device a h g w pa ae (inr ao) = stays_at p o a h w pa ao

    stays_more : stays_on entries p o ≡ true → stays_on entries o e ≡ true → stays_on entries p e
        ≡ true
    stays_more h g =
        all_from (length entries)
        (λ a. implies (in_extent entries p a && in_extent entries a e)
        (device_at a == device_at p))
        (λ a w. implied (in_extent entries p a && in_extent entries a e)
        (device_at a == device_at p)
        (λ t. let q = and_parts (in_extent entries p a) (in_extent entries a e) t in
        eq-eqb (device_at a) (device_at p)
        (one_device a h g w q.0 q.1 (two_above (path_at e) (path_at a) (path_at o) q.1 oe))))

  module _ (choice : Choice) where
    admits_more : (p o e : ℕ) → o < length entries → admits choice entries p o ≡ true
        → admits choice entries o e ≡ true → admits choice entries p e ≡ true
    admits_more p o e l h g =
        let r = choice.recurse in
        let d = choice.one_device in
        let a = and_parts (in_extent entries p o)
        ((r || (p == o)) && (not d || stays_on entries p o)) h in
        let b = and_parts (in_extent entries o e)
        ((r || (o == e)) && (not d || stays_on entries o e)) g in
        let u = and_parts (r || (p == o)) (not d || stays_on entries p o) a.1 in
        let v = and_parts (r || (o == e)) (not d || stays_on entries o e) b.1 in
        and_from (in_extent entries p e) ((r || (p == e)) && (not d || stays_on entries p e))
        (below_chain (path_at e) (path_at o) (path_at p) b.0 a.0)
        (and_from (r || (p == e)) (not d || stays_on entries p e) (recursed r p o e u.0 v.0)
        (where_asked d (stays_on entries p o) (stays_on entries o e) (stays_on entries p e)
        (stays_more p o e l a.0 b.0) u.1 v.1))

    found_more : (found : Option ℕ) (o e : ℕ) → o < length entries → admits choice entries o e
        ≡ true → admits_found choice entries found o ≡ true → admits_found choice entries found e
        ≡ true
    found_more None o e l g h = cc
    found_more (Some p) o e l g h = admits_more p o e l h g

    admitted_there : (operands : List Path) (o e : ℕ) → o < length entries
        → is_admitted choice entries operands o ≡ true → admits choice entries o e ≡ true
        → is_admitted choice entries operands e ≡ true
    admitted_there [] o e l h g = cc
    admitted_there (path ∷ paths) o e l h g =
        either (admits_found choice entries (find_in path entries) o)
        (is_admitted choice entries paths o)
        (admits_found choice entries (find_in path entries) e)
        (is_admitted choice entries paths e)
        (found_more (find_in path entries) o e l g) (λ t. admitted_there paths o e l t g) h

    -- where its entry has a flag, the flags are those with this operand too
    pub flags_there : (operands : List Path) (live : List Bool) (o : ℕ) → o < length entries
        → AreFlags (length entries) (is_admitted choice entries operands) live
        → get_or live o false ≡ true
        → AreFlags (length entries)
        (λ e. is_admitted choice entries operands e || admits choice entries o e) live
    flags_there operands live o l f t =
        flags_same (length entries) (is_admitted choice entries operands)
        (λ e. is_admitted choice entries operands e || admits choice entries o e) live f
        (λ e. nothing_new (is_admitted choice entries operands e) (admits choice entries o e)
        (admitted_there operands o e l (sym (f.each o l) ∙ t)))
