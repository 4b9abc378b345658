-- The last specification that fits, where those behind it don't.
use Rattle.std.proofs.Common.{◌≡◌, ◌∙◌, sym, refl, ap, ℕ, suc, ◌+◌, ◌<◌, Bool, true, false, cond}
use Rattle.std.proofs.Common.{List}
use Rattle.std.proofs.Common.{[], ◌∷◌, ◌++◌, length, get_or, map, take, append-nil, arith}
use Rattle.std.specs.Prelude.{filter, Option, Some, None}
use Rattle.std.specs.List.{enumerate_from, last_or}
use Rattle.std.proofs.lemmas.List.{length-take-le, take_more}
use Rattle.label_base.specs.declared.kind.Asked.{Asked}
use Rattle.spec_reader.specs.SpecValue.{SpecValue}
use Rattle.spec_match.specs.LastMatch.{fits, last_index}

last_pushed : (o : Option ℕ) (xs : List ℕ) (x : ℕ) → last_or o (xs ++ x ∷ []) ≡ Some x
last_pushed o [] x = refl
last_pushed o (y ∷ ys) x = last_pushed (Some y) ys x

abbrev number_of : ℕ × SpecValue → ℕ
number_of pair = pair.0

abbrev one_if : Bool → ℕ → List ℕ
one_if v n = cond v (n ∷ []) []

first_pair : (v : Bool) (n : ℕ) (spec : SpecValue)
    → map number_of (cond v ((n, spec) ∷ []) []) ≡ one_if v (n + 0)
first_pair true n spec = ap (λ k. k ∷ []) (omega arith)
first_pair false n spec = refl

next_pair : (v : Bool) (pair : ℕ × SpecValue) (pairs before : List (ℕ × SpecValue)) (more : List ℕ)
    → map number_of pairs ≡ map number_of before ++ more
    → map number_of (cond v (pair ∷ pairs) pairs)
    ≡ map number_of (cond v (pair ∷ before) before) ++ more
next_pair true pair pairs before more e = ap (λ ks. pair.0 ∷ ks) e
next_pair false pair pairs before more e = e

module _ (asked : Asked) (text : List ℕ) where
  abbrev pairs : ℕ → List SpecValue → List (ℕ × SpecValue)
  pairs n specs = filter (λ p. fits asked text p.1) (enumerate_from n specs)

  abbrev indices : ℕ → List SpecValue → List ℕ
  indices n specs = map number_of (pairs n specs)

  at_end : (n : ℕ) (specs : List SpecValue) (spec : SpecValue)
      → indices n (specs ++ spec ∷ [])
      ≡ indices n specs ++ one_if (fits asked text spec) (n + length specs)
  at_end n [] spec = first_pair (fits asked text spec) n spec
  at_end n (s ∷ specs) spec =
      next_pair (fits asked text s) (n, s) (pairs (n + 1) (specs ++ spec ∷ [])) (pairs
      (n + 1) specs)
      (one_if (fits asked text spec) (n + suc (length specs)))
      (at_end (n + 1) specs spec ∙ ap (λ k. indices (n + 1) specs ++ one_if
      (fits asked text spec) k)
      (omega arith))

  with_one_more : (specs : List SpecValue) (i : ℕ) (spec : SpecValue) (v : Bool) → i < length specs
      → spec ≡ get_or specs i spec → fits asked text spec ≡ v
      → last_or None (indices 0 (take (i + 1) specs))
      ≡ last_or None (indices 0 (take i specs) ++ one_if v i)
  with_one_more specs i spec v l e t =
      let size : 0 + length (take i specs) ≡ i =
      omega (arith, length-take-le i specs (omega (arith, l))) in
      let here : fits asked text (get_or specs i spec) ≡ v = ap (fits asked text) (sym e) ∙ t in
      ap (λ ss. last_or None (indices 0 ss)) (take_more specs i spec l)
      ∙ ap (last_or None) (at_end 0 (take i specs) (get_or specs i spec))
      ∙ ap (λ w. last_or None (indices 0 (take i specs) ++ one_if w (0 + length
      (take i specs)))) here
      ∙ ap (λ k. last_or None (indices 0 (take i specs) ++ one_if v k)) size

  pub last_fits : (specs : List SpecValue) (i : ℕ) (spec : SpecValue) → i < length specs
      → spec ≡ get_or specs i spec → fits asked text spec ≡ true
      → last_index asked text (take (i + 1) specs) ≡ Some i
  unfolding last_index
  last_fits specs i spec l e t =
      with_one_more specs i spec true l e t ∙ last_pushed None (indices 0 (take i specs)) i

  pub last_stays : (specs : List SpecValue) (i : ℕ) (spec : SpecValue) → i < length specs
      → spec ≡ get_or specs i spec → fits asked text spec ≡ false
      → last_index asked text (take (i + 1) specs) ≡ last_index asked text (take i specs)
  unfolding last_index
  last_stays specs i spec l e t =
      with_one_more specs i spec false l e t
      ∙ ap (last_or None) (append-nil (indices 0 (take i specs)))

  pub none_left : last_index asked text [] ≡ None
  unfolding last_index
  none_left = refl
