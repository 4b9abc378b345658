-- Lists one behind the other, and the one that is being written.
use Rattle.std.proofs.Common.{◌≡◌, ◌∙◌, refl, sym, ap, ap₂, ℕ, zero, suc, ◌+◌, ◌-◌, ◌<◌, ◌≤◌, Bool}
use Rattle.std.proofs.Common.{subst, true, false, cond, List, [], ◌∷◌, ◌++◌, length, length-drop}
use Rattle.std.proofs.Common.{length-take, get_or, take, drop, map, arith}
use Rattle.std.proofs.lemmas.List.{drop-append-le, length-map, take_all, take-append-drop}
use Rattle.std.proofs.lemmas.List.{drop_all, map_push}
use Rattle.std.specs.List.{AllByRecursion}
use Rattle.spec_match.specs.Alive.{Alive, alive_list}
use Rattle.spec_match.specs.Written.{IsSpanWithin, Written, list_at, lists_written}
use Rattle.spec_match.specs.declared.lists.Span.{Span}
use Rattle.spec_match.proofs.MemberLemmas.{kept}

pub lists_kept : (ms more : List Alive) (done : ℕ) (spans : List Span)
    → AllByRecursion (IsSpanWithin done) spans → done ≤ length ms → map (list_at (ms ++ more)) spans
    ≡ map (list_at ms) spans
lists_kept ms more done [] h l = refl
lists_kept ms more done (s ∷ spans) h l =
    ap₂ (λ x xs. x ∷ xs) (kept ms more s.start s.len (omega (arith, h.0, l)))
    (lists_kept ms more done spans h.1 l)

pub pushed : (r : Bool) (ms new : List Alive) (x : Alive) (spans : List Span) (done : ℕ)
    → AllByRecursion (IsSpanWithin done) spans → done ≤ length ms → new ≡ cond r (ms ++ x ∷ []) ms
    → lists_written (map (list_at new) spans) (drop done new)
    ≡ cond r (lists_written (map (list_at ms) spans) (drop done ms ++ x ∷ []))
    (lists_written (map (list_at ms) spans) (drop done ms))
pushed true ms new x spans done w l e =
    ap (λ ns. lists_written (map (list_at ns) spans) (drop done ns)) e
    ∙ ap₂ lists_written (lists_kept ms (x ∷ []) done spans w l) (drop-append-le done ms (x ∷ []) l)
pushed false ms new x spans done w l e =
    ap (λ ns. lists_written (map (list_at ns) spans) (drop done ns)) e

pub cut : (ms new : List Alive) (spans : List Span) (done : ℕ) → AllByRecursion (IsSpanWithin done)
    spans → done ≤ length ms → new ≡ take done ms → lists_written (map (list_at new) spans)
    (drop done new) ≡ lists_written (map (list_at ms) spans) []
cut ms new spans done w l e =
    ap (λ ns. lists_written (map (list_at ns) spans) (drop done ns)) e
    ∙ ap₂ lists_written
    (sym (lists_kept (take done ms) (drop done ms) done spans w
    (omega (arith, l, length-take done ms)))
    ∙ ap (λ ns. map (list_at ns) spans) (take-append-drop done ms))
    (drop_all done (take done ms) (omega (arith, length-take done ms)))

pub closed : (ms : List Alive) (spans : List Span) (s : Span) (n : ℕ) → s.len ≡ length ms - s.start
    → n ≡ length ms → lists_written (map (list_at ms) (spans ++ s ∷ [])) (drop n ms) ≡ lists_written
    (map (list_at ms) spans ++ drop s.start ms ∷ []) []
closed ms spans s n e f =
    ap₂ lists_written
    (map_push (list_at ms) spans s ∙ ap (λ x. map (list_at ms) spans ++ x ∷ [])
    (take_all s.len (drop s.start ms) (omega (arith, e, length-drop s.start ms))))
    (drop_all n ms (omega (arith, f)))

pub within_more : (done n : ℕ) (spans : List Span) (s : Span) → AllByRecursion (IsSpanWithin done)
    spans → done ≤ n → s.start + s.len ≤ n → AllByRecursion (IsSpanWithin n) (spans ++ s ∷ [])
within_more done n [] s h l m = (m, tt)
within_more done n (t ∷ spans) s h l m = (omega (arith, h.0, l), within_more done n spans s h.1 l m)

pub place_within : (ms : List Alive) (done : ℕ) (spans : List Span) (i k : ℕ) (d : Span)
    → AllByRecursion (IsSpanWithin done) spans → k < length (alive_list (map (list_at ms) spans) i)
    → (get_or spans i d).start + k < done
place_within ms done [] i k d h l = absurd (omega (arith, l))
place_within ms done (s ∷ spans) zero k d h l =
    omega (arith, l, h.0, length-take s.len (drop s.start ms))
place_within ms done (s ∷ spans) (suc i) k d h l = place_within ms done spans i k d h.1 l

list_here : (ms : List Alive) (spans : List Span) (i : ℕ) (d : Span) → i < length spans
    → alive_list (map (list_at ms) spans) i ≡ list_at ms (get_or spans i d)
list_here ms [] i d l = absurd (omega (arith, l))
list_here ms (s ∷ spans) zero d l = refl
list_here ms (s ∷ spans) (suc i) d l = list_here ms spans i d (omega (arith, l))

span_here : (done : ℕ) (spans : List Span) (i : ℕ) (d : Span)
    → AllByRecursion (IsSpanWithin done) spans → i < length spans
    → IsSpanWithin done (get_or spans i d)
span_here done [] i d h l = absurd (omega (arith, l))
span_here done (s ∷ spans) zero d h l = h.0
span_here done (s ∷ spans) (suc i) d h l = span_here done spans i d h.1 (omega (arith, l))

-- a list that is the one that is being written is as long, and has its members
pub draft_at : (ms : List Alive) (spans : List Span) (done i : ℕ) (s : Span) (w : Written)
    → lists_written (map (list_at ms) spans) (drop done ms) ≡ w → i < length w.lists
    → s ≡ get_or spans i s → AllByRecursion (IsSpanWithin done) spans → done ≤ length ms
    → alive_list w.lists i ≡ w.draft
    → (s.len ≡ length ms - done) × (take s.len (drop s.start ms) ≡ take s.len (drop done ms))
draft_at ms spans done i s w is l here within d e = (long, same)
  where
    inside : i < length spans
    inside =
        omega (
          arith,
          l,
          ap (λ (v : Written). length v.lists) is,
          length-map spans (list_at ms),
        )

    listed : list_at ms s ≡ drop done ms
    listed =
        ap (list_at ms) here ∙ sym (list_here ms spans i s inside)
        ∙ subst (λ (v : Written). alive_list v.lists i ≡ v.draft) (sym is) e

    fits : IsSpanWithin done s
    fits = subst (IsSpanWithin done) (sym here) (span_here done spans i s within inside)

    long : s.len ≡ length ms - done
    long =
        omega (
          arith,
          fits,
          d,
          ap (λ (xs : List Alive). length xs) listed,
          length-take s.len (drop s.start ms),
          length-drop s.start ms,
          length-drop done ms,
        )

    same : take s.len (drop s.start ms) ≡ take s.len (drop done ms)
    same = listed ∙ sym (take_all s.len (drop done ms) (omega (arith, long, length-drop done ms)))
