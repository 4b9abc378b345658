-- Places at the end, once more.
use Rattle.std.proofs.Common.{◌≡◌, refl, sym, ◌∙◌, ap, ℕ, ◌+◌, ◌-◌, ◌*◌, ◌%◌, ◌^◌, ◌<◌, ◌≤◌, List}
use Rattle.std.proofs.Common.{[], ◌∷◌, ◌++◌, length, map, get_or, ◌⊎◌, inl, inr, arith}
use Rattle.std.proofs.Common.{length-append}
use Rattle.std.proofs.lemmas.Bool.{cases_lt}
use Rattle.std.proofs.lemmas.List.{length-map, map-append, get_or_append_left, get_or_push}
use Rattle.std.proofs.lemmas.List.{get_or-map}
use Rattle.pattern_match.specs.Class.{class_bytes}
use Rattle.pattern_match.specs.Layouts.{AreGrown}
use Rattle.pattern_match.specs.declared.class.Class.{Class}

pub grown_none : (by : ℕ) (rows : List ℕ) (classes : List Class)
    → AreGrown by rows rows classes classes 0
grown_none by rows classes = record {
  count = omega arith;
  counted = omega arith;
  kept = λ p l. refl;
  took = λ p l. refl;
  moved = λ p l m. absurd (omega arith);
  takes = λ p l m. absurd (omega arith);
}

pub grown_more : (by : ℕ) (rows now new : List ℕ) (classes kinds others : List Class) (done row : ℕ)
    (class : Class) →
    0 < by → by ≤ length rows → length classes ≡ length rows →
    row ≡ get_or now (length now - by) 0 → new ≡ now ++ row * 2 ^ by % 2 ^ 64 ∷ [] →
    class ≡ get_or kinds (length now - by) class → others ≡ kinds ++ class ∷ [] →
    AreGrown by rows now classes kinds done → AreGrown by rows new classes others (done + 1)
grown_more by rows now new classes kinds others done row class some within even r e k f g = record {
  count = ap length e ∙ length-append now (row * 2 ^ by % 2 ^ 64 ∷ [])
      ∙ (let m = g.count in omega arith);
  counted = ap length f ∙ length-append kinds (class ∷ []) ∙ (let m = g.counted in omega arith);
  kept = λ p l. let m = g.count in old p (omega arith) ∙ g.kept p l;
  took = λ p l. let m = g.counted in old_bytes p (omega arith) ∙ g.took p l;
  moved = λ p l u. moved_at p l (cases_lt p (length now))
      (let n = ap length e ∙ length-append now (row * 2 ^ by % 2 ^ 64 ∷ []) in omega arith);
  takes = λ p l u. takes_at p l (cases_lt p (length kinds))
      (let n = ap length f ∙ length-append kinds (class ∷ []) in omega arith);
}
  where
    old : (p : ℕ) → p < length now → get_or new p 0 ≡ get_or now p 0
    old p l = ap (λ w. get_or w p 0) e ∙ get_or_append_left now (row * 2 ^ by % 2 ^ 64 ∷ []) 0 p l

    joined : map class_bytes others ≡ map class_bytes kinds ++ class_bytes class ∷ []
    joined = ap (map class_bytes) f ∙ map-append class_bytes kinds (class ∷ [])

    old_bytes : (p : ℕ) → p < length kinds → get_or (map class_bytes others) p []
        ≡ get_or (map class_bytes kinds) p []
    old_bytes p l = ap (λ w. get_or w p []) joined ∙ get_or_append_left (map class_bytes kinds)
        (class_bytes class ∷ []) [] p (let n = length-map kinds class_bytes in omega arith)

    moved_at : (p : ℕ) → length rows ≤ p → (p < length now) ⊎ (length now ≤ p) → p < length now + 1
        → get_or new p 0 ≡ get_or new (p - by) 0 * 2 ^ by % 2 ^ 64
    moved_at p l (inl m) u = old p m ∙ g.moved p l m
        ∙ ap (λ w. w * 2 ^ by % 2 ^ 64) (sym (old (p - by) (omega arith)))
    moved_at p l (inr m) u =
        let n : length now ≡ p = omega arith in
        let c = g.count in
        ap (λ w. get_or w p 0) e ∙ get_or_push now (row * 2 ^ by % 2 ^ 64) 0 p n
        ∙ ap (λ w. w * 2 ^ by % 2 ^ 64) (r ∙ ap (λ i. get_or now (i - by) 0) n
        ∙ sym (old (p - by) (omega arith)))

    takes_at : (p : ℕ) → length classes ≤ p → (p < length kinds) ⊎ (length kinds ≤ p)
        → p < length kinds + 1 → get_or (map class_bytes others) p []
        ≡ get_or (map class_bytes others) (p - by) []
    takes_at p l (inl m) u = old_bytes p m ∙ g.takes p l m ∙ sym (old_bytes (p - by) (omega arith))
    takes_at p l (inr m) u =
        let c = g.count in
        let d = g.counted in
        let n : length now ≡ p = omega arith in
        let v : length kinds ≡ p = omega arith in
        ap (λ w. get_or w p []) joined
        ∙ get_or_push (map class_bytes kinds) (class_bytes class) [] p (length-map kinds class_bytes
        ∙ v)
        ∙ ap class_bytes k
        ∙ sym (get_or-map class_bytes kinds (length now - by) class [] (omega arith))
        ∙ ap (λ i. get_or (map class_bytes kinds) (i - by) []) n
        ∙ sym (old_bytes (p - by) (omega arith))
