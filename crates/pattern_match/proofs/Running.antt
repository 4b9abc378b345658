-- The position automaton of a pattern runs its language.
use Rattle.std.proofs.Common.{◌≡◌, refl, sym, ◌∙◌, ap, subst, ℕ, zero, suc, pred, ◌+◌, ◌<◌, ◌≤◌}
use Rattle.std.proofs.Common.{◌==◌, Bool, true, false, List, [], ◌∷◌, ◌++◌, length, Option, Some}
use Rattle.std.proofs.Common.{None, ◌⊎◌, inl, inr, arith, length-append}
use Rattle.std.proofs.lemmas.List.{length-map}
use Rattle.std.proofs.lemmas.Bool.{and_from, or_right, or_parts}
use Rattle.std.proofs.lemmas.Option.{slice_get_within}
use Rattle.std.specs.Prelude.{◌||◌, ◌&&◌, nat_le, map, slice_get, if◌then◌else◌}
use Rattle.std.specs.List.{list_any}
use Rattle.pattern_syntax.specs.Tree.{Tree, Set, Nothing, Both, Either, Repeat}
use Rattle.pattern_syntax.specs.Language.{In}
use Rattle.pattern_match.specs.Residuals.{has_texts, is_count, is_some_list, Residual, followed_by}
use Rattle.pattern_match.specs.Residuals.{of_copies, of_endless, residuals}
use Rattle.pattern_match.specs.Automaton.{Place, Automaton, bare, single_place, up, moved}
use Rattle.pattern_match.specs.Automaton.{same_numbers, added, followed, in_turn, both}
use Rattle.pattern_match.specs.Automaton.{either_automaton, copy_before, looped, copies, endless}
use Rattle.pattern_match.specs.Automaton.{repeat_places, repeated_automaton, automaton}
use Rattle.pattern_match.specs.Quotients.{nullable}
use Rattle.pattern_match.proofs.Language.{Steps, both_onto, both_from, both_skip, repeat_onto}
use Rattle.pattern_match.proofs.Language.{repeat_from, fewer, has_more, in_empty, empty_in}
use Rattle.pattern_match.proofs.Language.{has_text, text_of}

-- the place may take the byte, and the text is left behind it
abbrev pub Takes : List Residual → ℕ → ℕ → List ℕ → Type 0
Takes zs q b t = (z : Residual) × (slice_get zs q ≡ Some z) × (list_any (λ c. c == b) z.0 ≡ true)
    × In z.1 t

-- one of the places may
abbrev pub Goes : List Residual → List ℕ → ℕ → List ℕ → Type 0
Goes zs [] b t = ⊥
Goes zs (q ∷ qs) b t = Takes zs q b t ⊎ Goes zs qs b t

abbrev pub Within : ℕ → List ℕ → Type 0
Within n [] = Unit {0}
Within n (q ∷ qs) = (q < n) × Within n qs

get_left : (xs ys : List Residual) (q : ℕ) → q < length xs → slice_get (xs ++ ys) q ≡ slice_get xs q
get_left [] ys q h = absurd (omega arith)
get_left (x ∷ xs) ys zero h = refl
get_left (x ∷ xs) ys (suc q) h = get_left xs ys q (omega arith)

pub get_right : (xs ys : List Residual) (q : ℕ) → slice_get (xs ++ ys) (q + length xs)
    ≡ slice_get ys q
get_right [] ys q = let e : q + 0 ≡ q = omega arith in rw e refl
get_right (x ∷ xs) ys q = let e : q + suc (length xs) ≡ suc (q + length xs) = omega arith in
    rw e (get_right xs ys q)

map_get : (f : Residual → Residual) (xs : List Residual) (q : ℕ) (z : Residual)
    → slice_get xs q ≡ Some z → slice_get (map f xs) q ≡ Some (f z)
map_get f [] q z h = cc
map_get f (x ∷ xs) zero z h = let e : x ≡ z = cc in ap (λ v. Some (f v)) e
map_get f (x ∷ xs) (suc q) z h = map_get f xs q z h

get_map : (f : Residual → Residual) (xs : List Residual) (q : ℕ) (z : Residual)
    → slice_get (map f xs) q ≡ Some z → (y : Residual) × (slice_get xs q ≡ Some y) × (f y ≡ z)
get_map f [] q z h = cc
get_map f (x ∷ xs) zero z h = (x, refl, cc)
get_map f (x ∷ xs) (suc q) z h = get_map f xs q z h

pub goes_more : (xs ys : List Residual) (qs : List ℕ) (b : ℕ) (t : List ℕ) → Goes xs qs b t
    → Goes (xs ++ ys) qs b t
goes_more xs ys [] b t h = h
goes_more xs ys (q ∷ qs) b t (inl (z, g, a, i)) =
    inl (z, get_left xs ys q (slice_get_within xs q z g) ∙ g, a, i)
goes_more xs ys (q ∷ qs) b t (inr h) = inr (goes_more xs ys qs b t h)

pub goes_less : (xs ys : List Residual) (qs : List ℕ) (b : ℕ) (t : List ℕ) → Within (length xs) qs
    → Goes (xs ++ ys) qs b t → Goes xs qs b t
goes_less xs ys [] b t w h = h
goes_less xs ys (q ∷ qs) b t w (inl (z, g, a, i)) = inl (z, sym (get_left xs ys q w.0) ∙ g, a, i)
goes_less xs ys (q ∷ qs) b t w (inr h) = inr (goes_less xs ys qs b t w.1 h)

goes_up : (xs ys : List Residual) (qs : List ℕ) (b : ℕ) (t : List ℕ) → Goes ys qs b t
    → Goes (xs ++ ys) (up (length xs) qs) b t
goes_up xs ys [] b t h = h
goes_up xs ys (q ∷ qs) b t (inl (z, g, a, i)) = inl (z, get_right xs ys q ∙ g, a, i)
goes_up xs ys (q ∷ qs) b t (inr h) = inr (goes_up xs ys qs b t h)

goes_down : (xs ys : List Residual) (qs : List ℕ) (b : ℕ) (t : List ℕ)
    → Goes (xs ++ ys) (up (length xs) qs) b t → Goes ys qs b t
goes_down xs ys [] b t h = h
goes_down xs ys (q ∷ qs) b t (inl (z, g, a, i)) = inl (z, sym (get_right xs ys q) ∙ g, a, i)
goes_down xs ys (q ∷ qs) b t (inr h) = inr (goes_down xs ys qs b t h)

goes_left : (zs : List Residual) (ps qs : List ℕ) (b : ℕ) (t : List ℕ) → Goes zs ps b t
    → Goes zs (ps ++ qs) b t
goes_left zs (p ∷ ps) qs b t (inl h) = inl h
goes_left zs (p ∷ ps) qs b t (inr h) = inr (goes_left zs ps qs b t h)
goes_left zs [] qs b t h = absurd h

goes_right : (zs : List Residual) (ps qs : List ℕ) (b : ℕ) (t : List ℕ) → Goes zs qs b t
    → Goes zs (ps ++ qs) b t
goes_right zs [] qs b t h = h
goes_right zs (p ∷ ps) qs b t h = inr (goes_right zs ps qs b t h)

goes_split : (zs : List Residual) (ps qs : List ℕ) (b : ℕ) (t : List ℕ) → Goes zs (ps ++ qs) b t
    → Goes zs ps b t ⊎ Goes zs qs b t
goes_split zs [] qs b t h = inr h
goes_split zs (p ∷ ps) qs b t (inl h) = inl (inl h)
goes_split zs (p ∷ ps) qs b t (inr h) =
    elim (goes_split zs ps qs b t h) [ inl a ↦ inl (inr a) | inr c ↦ inr c ]

pub within_more : (n m : ℕ) (qs : List ℕ) → n ≤ m → Within n qs → Within m qs
within_more n m [] l w = tt
within_more n m (q ∷ qs) l w = (let a : q < n = w.0 in omega arith, within_more n m qs l w.1)

within_up : (n m : ℕ) (qs : List ℕ) → Within m qs → Within (n + m) (up n qs)
within_up n m [] w = tt
within_up n m (q ∷ qs) w = (let a : q < m = w.0 in omega arith, within_up n m qs w.1)

within_both : (n : ℕ) (ps qs : List ℕ) → Within n ps → Within n qs → Within n (ps ++ qs)
within_both n [] qs w v = v
within_both n (p ∷ ps) qs w v = (w.0, within_both n ps qs w.1 v)

-- a step into the residuals of a first part is one behind which the second is still to come
abbrev pub Passes : List Residual → List ℕ → Tree → ℕ → List ℕ → Type 0
Passes xs qs y b t = (front rest : List ℕ) × (t ≡ front ++ rest) × Goes xs qs b front × In y rest

goes_then : (xs : List Residual) (qs : List ℕ) (y : Tree) (b : ℕ) (t : List ℕ) → Passes xs qs y b t
    → Goes (map (followed_by y) xs) qs b t
goes_then xs [] y b t (front, rest, e, g, h) = absurd g
goes_then xs (q ∷ qs) y b t (front, rest, e, inl (z, k, a, i), h) =
    inl ((z.0, Both z.1 y), map_get (followed_by y) xs q z k, a, (front, rest, e, i, h))
goes_then xs (q ∷ qs) y b t (front, rest, e, inr g, h) =
    inr (goes_then xs qs y b t (front, rest, e, g, h))

then_goes : (xs : List Residual) (qs : List ℕ) (y : Tree) (b : ℕ) (t : List ℕ)
    → Goes (map (followed_by y) xs) qs b t → Passes xs qs y b t
then_goes xs [] y b t h = absurd h
then_goes xs (q ∷ qs) y b t (inl (z, k, a, i)) =
    let m = get_map (followed_by y) xs q z k in
    let P : Residual → Type 0 = λ z. (list_any (λ c. c == b) z.0 ≡ true) × In z.1 t in
    at m.0 m.1 (subst P (sym m.2) (a, i))
  where
    at : (v : Residual) → slice_get xs q ≡ Some v → (list_any (λ c. c == b) v.0 ≡ true)
        × In (Both v.1 y) t → Passes xs (q ∷ qs) y b t
    at v g (a, (front, rest, e, hx, hy)) = (front, rest, e, inl (v, g, a, hx), hy)
then_goes xs (q ∷ qs) y b t (inr h) = let r = then_goes xs qs y b t h in
    (r.0, r.1, r.2, inr r.3, r.4)

-- the place is as its residual says
pub record Good (zs : List Residual) (p : Place) (z : Residual) : Type 0 where
  pub bytes : p.bytes ≡ z.0
  pub last : p.is_last ≡ nullable z.1
  pub onto : (b : ℕ) (t : List ℕ) → In z.1 (b ∷ t) → Goes zs p.next b t
  pub from : (b : ℕ) (t : List ℕ) → Goes zs p.next b t → In z.1 (b ∷ t)
  pub within : Within (length zs) p.next
  pub live : has_texts z.1 ≡ true

abbrev pub AllGood : List Residual → List Place → List Residual → Type 0
AllGood zs [] [] = Unit {0}
AllGood zs [] (r ∷ rs) = ⊥
AllGood zs (p ∷ ps) [] = ⊥
AllGood zs (p ∷ ps) (r ∷ rs) = Good zs p r × AllGood zs ps rs

pub good_append : (zs : List Residual) (ps qs : List Place) (rs ss : List Residual)
    → AllGood zs ps rs → AllGood zs qs ss → AllGood zs (ps ++ qs) (rs ++ ss)
good_append zs [] qs [] ss a b = b
good_append zs [] qs (r ∷ rs) ss a b = absurd a
good_append zs (p ∷ ps) qs [] ss a b = absurd a
good_append zs (p ∷ ps) qs (r ∷ rs) ss a b = (a.0, good_append zs ps qs rs ss a.1 b)

good_map : (xs zs : List Residual) (f : Place → Place) (g : Residual → Residual)
    → ((p : Place) (r : Residual) → Good xs p r → Good zs (f p) (g r))
    → (ps : List Place) (rs : List Residual) → AllGood xs ps rs → AllGood zs (map f ps) (map g rs)
good_map xs zs f g h [] [] a = tt
good_map xs zs f g h [] (r ∷ rs) a = a
good_map xs zs f g h (p ∷ ps) [] a = a
good_map xs zs f g h (p ∷ ps) (r ∷ rs) a = (h p r a.0, good_map xs zs f g h ps rs a.1)

good_each : (xs zs : List Residual) (f : Place → Place)
    → ((p : Place) (r : Residual) → Good xs p r → Good zs (f p) r)
    → (ps : List Place) (rs : List Residual) → AllGood xs ps rs → AllGood zs (map f ps) rs
good_each xs zs f h [] [] a = tt
good_each xs zs f h [] (r ∷ rs) a = a
good_each xs zs f h (p ∷ ps) [] a = a
good_each xs zs f h (p ∷ ps) (r ∷ rs) a = (h p r a.0, good_each xs zs f h ps rs a.1)

pub good_all : (xs zs : List Residual) → ((p : Place) (r : Residual) → Good xs p r → Good zs p r)
    → (ps : List Place) (rs : List Residual) → AllGood xs ps rs → AllGood zs ps rs
good_all xs zs h [] [] a = tt
good_all xs zs h [] (r ∷ rs) a = a
good_all xs zs h (p ∷ ps) [] a = a
good_all xs zs h (p ∷ ps) (r ∷ rs) a = (h p r a.0, good_all xs zs h ps rs a.1)

pub good_length : (zs : List Residual) (ps : List Place) (rs : List Residual) → AllGood zs ps rs
    → length ps ≡ length rs
good_length zs [] [] a = refl
good_length zs [] (r ∷ rs) a = absurd a
good_length zs (p ∷ ps) [] a = absurd a
good_length zs (p ∷ ps) (r ∷ rs) a = ap suc (good_length zs ps rs a.1)

-- the automaton runs the language, with these residuals
pub record Runs (a : Automaton) (t : Tree) (zs : List Residual) : Type 0 where
  pub places : AllGood zs a.places zs
  pub onto : (b : ℕ) (s : List ℕ) → In t (b ∷ s) → Goes zs a.first b s
  pub from : (b : ℕ) (s : List ℕ) → Goes zs a.first b s → In t (b ∷ s)
  pub within : Within (length zs) a.first
  pub holds_empty : a.holds_empty ≡ nullable t
  pub is_live : a.is_live ≡ has_texts t

-- behind a place of a first part: the rest of that part, and then the second part
pub good_left : (xs ys : List Residual) (p : Place) (r : Residual) → Good xs p r
    → Good (xs ++ ys) p r
good_left xs ys p r g = record {
  bytes = g.bytes;
  last = g.last;
  onto = λ b t h. goes_more xs ys p.next b t (g.onto b t h);
  from = λ b t h. g.from b t (goes_less xs ys p.next b t g.within h);
  within = within_more (length xs) (length (xs ++ ys)) p.next (rw length-append (omega arith))
      g.within;
  live = g.live;
}

good_right : (xs ys : List Residual) (p : Place) (r : Residual) → Good ys p r
    → Good (xs ++ ys) (moved (length xs) p) r
good_right xs ys p r g = record {
  bytes = g.bytes;
  last = g.last;
  onto = λ b t h. goes_up xs ys p.next b t (g.onto b t h);
  from = λ b t h. g.from b t (goes_down xs ys p.next b t h);
  within = rw length-append (within_up (length xs) (length ys) p.next g.within);
  live = g.live;
}

-- a second part, with the numbers of the places that begin it
pub record Second (xs zs : List Residual) (y : Tree) (holds_empty : Bool) (first : List ℕ) : Type 0
  where
    pub reach : (qs : List ℕ) (b : ℕ) (t : List ℕ) → Within (length xs) qs → Passes xs qs y b t
        → Goes zs qs b t
    pub back : (qs : List ℕ) (b : ℕ) (t : List ℕ) → Within (length xs) qs → Goes zs qs b t
        → Passes xs qs y b t
    pub onto : (b : ℕ) (t : List ℕ) → In y (b ∷ t) → Goes zs first b t
    pub from : (b : ℕ) (t : List ℕ) → Goes zs first b t → In y (b ∷ t)
    pub empty : holds_empty ≡ nullable y
    pub live : has_texts y ≡ true
    pub longer : length xs ≤ length zs
    pub within : Within (length zs) first

followed_onto : (xs zs : List Residual) (y : Tree) (v : Bool) (next first : List ℕ) (r : Residual)
    (e : Bool) → Second xs zs y e first → v ≡ nullable r.1 → Within (length xs) next
    → ((b : ℕ) (t : List ℕ) → In r.1 (b ∷ t) → Goes xs next b t) → (b : ℕ) (t : List ℕ)
    → In (Both r.1 y) (b ∷ t) → Goes zs (if v then next ++ first else next) b t
followed_onto xs zs y true next first r e s n w o b t h =
    at (both_onto r.1 y b t h)
  where
    at : Steps r.1 y b t ⊎ ((nullable r.1 ≡ true) × In y (b ∷ t)) → Goes zs (next ++ first) b t
    at (inl (front, rest, q, hx, hy)) =
        goes_left zs next first b t (s.reach next b t w (front, rest, q, o b front hx, hy))
    at (inr (k, hy)) = goes_right zs next first b t (s.onto b t hy)
followed_onto xs zs y false next first r e s n w o b t h =
    at (both_onto r.1 y b t h)
  where
    at : Steps r.1 y b t ⊎ ((nullable r.1 ≡ true) × In y (b ∷ t)) → Goes zs next b t
    at (inl (front, rest, q, hx, hy)) = s.reach next b t w (front, rest, q, o b front hx, hy)
    at (inr (k, hy)) = let c : false ≡ true = n ∙ k in cc

followed_from : (xs zs : List Residual) (y : Tree) (v : Bool) (next first : List ℕ) (r : Residual)
    (e : Bool) → Second xs zs y e first → v ≡ nullable r.1 → Within (length xs) next
    → ((b : ℕ) (t : List ℕ) → Goes xs next b t → In r.1 (b ∷ t)) → (b : ℕ) (t : List ℕ)
    → Goes zs (if v then next ++ first else next) b t → In (Both r.1 y) (b ∷ t)
followed_from xs zs y true next first r e s n w o b t h =
    at (goes_split zs next first b t h)
  where
    at : Goes zs next b t ⊎ Goes zs first b t → In (Both r.1 y) (b ∷ t)
    at (inl g) = let p = s.back next b t w g in
        both_from r.1 y b t (p.0, p.1, p.2, o b p.0 p.3, p.4)
    at (inr g) = both_skip r.1 y b t (sym n) (s.from b t g)
followed_from xs zs y false next first r e s n w o b t h =
    let p = s.back next b t w h in both_from r.1 y b t (p.0, p.1, p.2, o b p.0 p.3, p.4)

followed_within : (n m : ℕ) (v : Bool) (next first : List ℕ) → n ≤ m → Within n next
    → Within m first → Within m (if v then next ++ first else next)
followed_within n m true next first l w f = within_both m next first (within_more n m next l w) f
followed_within n m false next first l w f = within_more n m next l w

same_are : (ps qs : List ℕ) → same_numbers ps qs ≡ true → ps ≡ qs
same_are [] [] h = refl
same_are [] (q ∷ qs) h = cc
same_are (p ∷ ps) [] h = cc
same_are (p ∷ ps) (q ∷ qs) h = at (p == q) refl h (same_are ps qs)
  where
    same : (p == q) ≡ true → p ≡ q
    same e = grind arith

    at : (v : Bool) → (p == q) ≡ v → (v && same_numbers ps qs) ≡ true
        → (same_numbers ps qs ≡ true → ps ≡ qs) → p ∷ ps ≡ q ∷ qs
    at true e g ih = let i = ih g in let s = same e in rw (s, i) refl
    at false e g ih = cc

-- what is not added again is there
added_right : (zs : List Residual) (v : Bool) (next first : List ℕ) (b : ℕ) (t : List ℕ)
    → Goes zs (if v then next ++ first else next) b t
    → Goes zs (if v then added next first else next) b t
added_right zs false next first b t h = h
added_right zs true next first b t h = at (same_numbers next first) refl
  where
    at : (w : Bool) → same_numbers next first ≡ w → Goes zs (if w then next else next ++ first) b t
    at true e = elim (goes_split zs next first b t h)
        [ inl g ↦ g | inr g ↦ subst (λ ps. Goes zs ps b t) (sym (same_are next first e)) g ]
    at false e = h

added_left : (zs : List Residual) (v : Bool) (next first : List ℕ) (b : ℕ) (t : List ℕ)
    → Goes zs (if v then added next first else next) b t
    → Goes zs (if v then next ++ first else next) b t
added_left zs false next first b t h = h
added_left zs true next first b t h = at (same_numbers next first) h
  where
    at : (w : Bool) → Goes zs (if w then next else next ++ first) b t → Goes zs (next ++ first) b t
    at true g = goes_left zs next first b t g
    at false g = g

added_within : (n : ℕ) (v : Bool) (next first : List ℕ)
    → Within n (if v then next ++ first else next) → Within n (if v then added next first else next)
added_within n false next first w = w
added_within n true next first w = at (same_numbers next first)
  where
    front : (ps qs : List ℕ) → Within n (ps ++ qs) → Within n ps
    front [] qs w = tt
    front (p ∷ ps) qs w = (w.0, front ps qs w.1)

    at : (v : Bool) → Within n (if v then next else next ++ first)
    at true = front next first w
    at false = w

good_followed : (xs zs : List Residual) (y : Tree) (e : Bool) (first : List ℕ)
    → Second xs zs y e first → (p : Place) (r : Residual) → Good xs p r
    → Good zs (followed e first p) (followed_by y r)
good_followed xs zs y e first s p r g = record {
  bytes = g.bytes;
  last = let a : p.is_last ≡ nullable r.1 = g.last in let b : e ≡ nullable y = s.empty in
      rw (a, b) refl;
  onto = λ b t h. added_right zs p.is_last p.next first b t
      (followed_onto xs zs y p.is_last p.next first r e s g.last g.within g.onto b t h);
  from = λ b t h. followed_from xs zs y p.is_last p.next first r e s g.last g.within g.from b t
      (added_left zs p.is_last p.next first b t h);
  within = added_within (length zs) p.is_last p.next first
      (followed_within (length xs) (length zs) p.is_last p.next first s.longer g.within s.within);
  live = and_from _ _ g.live s.live;
}

pub second_part : (xs ys : List Residual) (a : Automaton) (y : Tree) → Runs a y ys
    → has_texts y ≡ true → Second xs (map (followed_by y) xs ++ ys) y a.holds_empty
    (up (length xs) a.first)
second_part xs ys a y r l = record {
  reach = λ qs b t w h. goes_more (map (followed_by y) xs) ys qs b t (goes_then xs qs y b t h);
  back = λ qs b t w h. then_goes xs qs y b t
      (goes_less (map (followed_by y) xs) ys qs b t (rw length-map w) h);
  onto = λ b t h. shifted_onto b t (r.onto b t h);
  from = λ b t h. r.from b t (shifted_from b t h);
  empty = r.holds_empty;
  live = l;
  longer = rw (length-append, length-map) (omega arith);
  within = rw (length-append, length-map) (within_up (length xs) (length ys) a.first r.within);
}
  where
    shifted_onto : (b : ℕ) (t : List ℕ) → Goes ys a.first b t → Goes (map (followed_by y) xs ++ ys)
        (up (length xs) a.first) b t
    shifted_onto b t h =
        rw (← length-map xs (followed_by y)) (goes_up (map (followed_by y) xs) ys a.first b t h)

    shifted_from : (b : ℕ) (t : List ℕ) → Goes (map (followed_by y) xs ++ ys)
        (up (length xs) a.first) b t → Goes ys a.first b t
    shifted_from b t h = goes_down (map (followed_by y) xs) ys a.first b t (rw length-map h)

turn_good : (xs ys : List Residual) (a b : Automaton) (x y : Tree) → Runs a x xs → Runs b y ys
    → has_texts y ≡ true → AllGood (map (followed_by y) xs ++ ys) (in_turn a b)
    (map (followed_by y) xs ++ ys)
turn_good xs ys a b x y ra rb l =
    let n : length a.places ≡ length xs = good_length xs a.places xs ra.places in
    let zs : List Residual = map (followed_by y) xs ++ ys in
    let s : Second xs zs y b.holds_empty (up (length a.places) b.first) =
    rw n (second_part xs ys b y rb l) in
    let m : length a.places ≡ length (map (followed_by y) xs) =
    n ∙ sym (length-map xs (followed_by y)) in
    good_append zs _ _ _ _
    (good_map xs zs (followed b.holds_empty (up (length a.places) b.first)) (followed_by y)
    (good_followed xs zs y b.holds_empty (up (length a.places) b.first) s) a.places xs
    ra.places)
    (rw m (good_each ys zs (moved (length (map (followed_by y) xs)))
    (good_right (map (followed_by y) xs) ys) b.places ys rb.places))

-- a byte goes into the first part, and the second part follows
abbrev pub Begins : Tree → Tree → Tree → Type 0
Begins t x y = (b : ℕ) (s : List ℕ) → (In t (b ∷ s) → Steps x y b s)
    × (Steps x y b s → In t (b ∷ s))

before_runs : (xs ys : List Residual) (a b : Automaton) (x y t : Tree) (e : Bool) → Runs a x xs
    → Runs b y ys → Begins t x y → e ≡ nullable t → has_texts t ≡ true → has_texts y ≡ true
    → Runs (copy_before e a b) t (map (followed_by y) xs ++ ys)
before_runs xs ys a b x y t e ra rb h k lt ly = record {
  places = turn_good xs ys a b x y ra rb ly;
  onto = λ c s i. let p = (h c s).0 i in
      goes_more (map (followed_by y) xs) ys a.first c s
      (goes_then xs a.first y c s (p.0, p.1, p.2, ra.onto c p.0 p.3, p.4));
  from = λ c s g. let p =
      then_goes xs a.first y c s
      (goes_less (map (followed_by y) xs) ys a.first c s (rw length-map ra.within) g) in
      (h c s).1 (p.0, p.1, p.2, ra.from c p.0 p.3, p.4);
  within = within_more (length xs) (length (map (followed_by y) xs ++ ys)) a.first
      (rw (length-append, length-map) (omega arith)) ra.within;
  holds_empty = k;
  is_live = sym lt;
}

looped_runs : (xs : List Residual) (a : Automaton) (x y t : Tree) (e : Bool) → Runs a x xs
    → Begins t x y → Begins y x y → nullable y ≡ true → e ≡ nullable t → has_texts t ≡ true
    → has_texts y ≡ true → Runs (looped e a) t (map (followed_by y) xs)
looped_runs xs a x y t e r h l n k lt ly = record {
  places = good_map xs (map (followed_by y) xs) (followed true a.first) (followed_by y)
      (good_followed xs (map (followed_by y) xs) y true a.first second) a.places xs r.places;
  onto = onto_of t h;
  from = from_of t h;
  within = rw length-map r.within;
  holds_empty = k;
  is_live = sym lt;
}
  where
    onto_of : (u : Tree) → Begins u x y → (c : ℕ) (s : List ℕ) → In u (c ∷ s)
        → Goes (map (followed_by y) xs) a.first c s
    onto_of u g c s i = let p = (g c s).0 i in
        goes_then xs a.first y c s (p.0, p.1, p.2, r.onto c p.0 p.3, p.4)

    from_of : (u : Tree) → Begins u x y → (c : ℕ) (s : List ℕ)
        → Goes (map (followed_by y) xs) a.first c s → In u (c ∷ s)
    from_of u g c s i = let p = then_goes xs a.first y c s i in
        (g c s).1 (p.0, p.1, p.2, r.from c p.0 p.3, p.4)

    second : Second xs (map (followed_by y) xs) y true a.first
    second = record {
      reach = λ qs b s w i. goes_then xs qs y b s i;
      back = λ qs b s w i. then_goes xs qs y b s i;
      onto = onto_of y l;
      from = from_of y l;
      empty = sym n;
      live = ly;
      longer = rw length-map (omega arith);
      within = rw length-map r.within;
    }

bare_runs : (t : Tree) (e : Bool) → e ≡ nullable t → e ≡ has_texts t
    → ((b : ℕ) (s : List ℕ) → In t (b ∷ s) → ⊥) → Runs (bare e) t []
bare_runs t e n l h = record {
  places = tt;
  onto = λ b s i. h b s i;
  from = λ b s g. absurd g;
  within = tt;
  holds_empty = n;
  is_live = l;
}

one_byte : (bytes : List ℕ) (b : ℕ) (s : List ℕ) → In (Set bytes) (b ∷ s)
    → (list_any (λ c. c == b) bytes ≡ true) × ([] ≡ s)
one_byte bytes b s (c, e, h) = let p : c ≡ b = cc in
    (subst (λ n. list_any (λ m. m == n) bytes ≡ true) p h, cc)

nothing_more : (b : ℕ) (s : List ℕ) → In Nothing (b ∷ s) → ⊥
nothing_more b s h = cc

single_runs : (bytes : List ℕ) → Runs (single_place bytes) (Set bytes) (residuals (Set bytes))
single_runs [] = bare_runs (Set []) false refl refl (λ b s h. let p = one_byte [] b s h in
    let q : false ≡ true = p.0 in cc)
single_runs (c ∷ cs) = record {
  places = (
    record {
      bytes = refl;
      last = refl;
      onto = λ b s h. nothing_more b s h;
      from = λ b s h. absurd h;
      within = tt;
      live = refl;
    },
    tt,
  );
  onto = λ b s h. let p = one_byte (c ∷ cs) b s h in inl ((c ∷ cs, Nothing), refl, p.0, sym p.1);
  from = λ b s g. from_at b s g;
  within = (omega arith, tt);
  holds_empty = refl;
  is_live = refl;
}
  where
    from_at : (b : ℕ) (s : List ℕ) → Goes ((c ∷ cs, Nothing) ∷ []) (0 ∷ []) b s
        → In (Set (c ∷ cs)) (b ∷ s)
    from_at b s (inl (z, g, a, i)) =
        let e : z ≡ (c ∷ cs, Nothing) = cc in
        let a2 : list_any (λ n. n == b) (c ∷ cs) ≡ true =
        subst (λ (v : Residual). list_any (λ n. n == b) v.0 ≡ true) e a in
        let i2 : In Nothing s = subst (λ (v : Residual). In v.1 s) e i in
        (b, ap (λ w. b ∷ w) i2, a2)
    from_at b s (inr g) = absurd g

no_texts : (t : Tree) (v : Bool) → nullable t ≡ v → has_texts t ≡ false → false ≡ nullable t
no_texts t true e h = let l : has_texts t ≡ true = has_text t [] (empty_in t e) in cc
no_texts t false e h = sym e

dead_runs : (t : Tree) → has_texts t ≡ false → Runs (bare false) t []
dead_runs t h = bare_runs t false (no_texts t (nullable t) refl h) (sym h)
    (λ b s i. let l : has_texts t ≡ true = has_text t (b ∷ s) i in let c : false ≡ true = sym h
    ∙ l in cc)

both_live : (a b : Automaton) (x y : Tree) (xs ys : List Residual) → Runs a x xs → Runs b y ys
    → has_texts x ≡ true → has_texts y ≡ true
    → Runs (record {
      places = in_turn a b;
      first = if a.holds_empty then a.first
          ++ up (length a.places) b.first else a.first;
      holds_empty =
          a.holds_empty && b.holds_empty;
      is_live = true;
    }) (Both x y) (map (followed_by y) xs ++ ys)
both_live a b x y xs ys ra rb p q = record {
  places = turn_good xs ys a b x y ra rb q;
  onto = λ c s h. as_first_onto c s h;
  from = λ c s h. as_first_from c s h;
  within = followed_within (length xs) (length (map (followed_by y) xs ++ ys)) a.holds_empty a.first
      (up (length a.places) b.first) second.longer ra.within second.within;
  holds_empty = let u : a.holds_empty ≡ nullable x = ra.holds_empty in
      let v : b.holds_empty ≡ nullable y = rb.holds_empty in rw (u, v) refl;
  is_live = sym (and_from _ _ p q);
}
  where
    second : Second xs (map (followed_by y) xs ++ ys) y b.holds_empty (up (length a.places) b.first)
    second = let n : length a.places ≡ length xs = good_length xs a.places xs ra.places in
        rw n (second_part xs ys b y rb q)

    as_first_onto : (c : ℕ) (s : List ℕ) → In (Both x y) (c ∷ s)
        → Goes (map (followed_by y) xs ++ ys)
        (if a.holds_empty then a.first ++ up (length a.places) b.first else a.first) c s
    as_first_onto c s h = followed_onto xs (map (followed_by y) xs ++ ys) y a.holds_empty a.first
        (up (length a.places) b.first) ([], x) b.holds_empty second ra.holds_empty ra.within ra.onto
        c s h

    as_first_from : (c : ℕ) (s : List ℕ) → Goes (map (followed_by y) xs ++ ys)
        (if a.holds_empty then a.first ++ up (length a.places) b.first else a.first) c s
        → In (Both x y) (c ∷ s)
    as_first_from c s h = followed_from xs (map (followed_by y) xs ++ ys) y a.holds_empty a.first
        (up (length a.places) b.first) ([], x) b.holds_empty second ra.holds_empty ra.within ra.from
        c s h

pub both_runs : (a b : Automaton) (x y : Tree) → Runs a x (residuals x) → Runs b y (residuals y)
    → Runs (both a b) (Both x y) (residuals (Both x y))
both_runs a b x y ra rb = at (has_texts x) (has_texts y) refl refl
  where
    at : (u v : Bool) → has_texts x ≡ u → has_texts y ≡ v
        → Runs (both a b) (Both x y) (residuals (Both x y))
    at true true p q =
        let al : a.is_live ≡ true = ra.is_live ∙ p in
        let bl : b.is_live ≡ true = rb.is_live ∙ q in
        rw (al, bl, p, q) (both_live a b x y (residuals x) (residuals y) ra rb p q)
    at true false p q =
        let al : a.is_live ≡ true = ra.is_live ∙ p in
        let bl : b.is_live ≡ false = rb.is_live ∙ q in
        rw (al, bl, p, q) (dead_runs (Both x y) (rw (p, q) refl))
    at false v p q =
        let al : a.is_live ≡ false = ra.is_live ∙ p in
        rw (al, p) (dead_runs (Both x y) (rw p refl))

pub either_runs : (a b : Automaton) (x y : Tree) → Runs a x (residuals x) → Runs b y (residuals y)
    → Runs (either_automaton a b) (Either x y) (residuals (Either x y))
either_runs a b x y ra rb = record {
  places = good_append zs a.places (map (moved (length a.places)) b.places) xs ys
      (good_all xs zs (good_left xs ys) a.places xs ra.places)
      (rw n (good_each ys zs (moved (length xs)) (good_right xs ys) b.places ys rb.places));
  onto = λ c s h. onto_at c s h;
  from = λ c s h. from_at c s (goes_split zs a.first (up (length a.places) b.first) c s h);
  within = within_both (length zs) a.first (up (length a.places) b.first)
      (within_more (length xs) (length zs) a.first (rw length-append (omega arith)) ra.within)
      (rw (n, length-append) (within_up (length xs) (length ys) b.first rb.within));
  holds_empty = let u : a.holds_empty ≡ nullable x = ra.holds_empty in
      let v : b.holds_empty ≡ nullable y = rb.holds_empty in rw (u, v) refl;
  is_live = let u : a.is_live ≡ has_texts x = ra.is_live in let v : b.is_live ≡ has_texts y =
      rb.is_live in rw (u, v) refl;
}
  where
    xs : List Residual
    xs = residuals x

    ys : List Residual
    ys = residuals y

    zs : List Residual
    zs = residuals x ++ residuals y

    n : length a.places ≡ length (residuals x)
    n = good_length (residuals x) a.places (residuals x) ra.places

    onto_at : (c : ℕ) (s : List ℕ) → In (Either x y) (c ∷ s)
        → Goes (residuals x ++ residuals y) (a.first ++ up (length a.places) b.first) c s
    onto_at c s (inl h) = goes_left (residuals x ++ residuals y) a.first
        (up (length a.places) b.first) c s
        (goes_more (residuals x) (residuals y) a.first c s (ra.onto c s h))
    onto_at c s (inr h) = goes_right (residuals x ++ residuals y) a.first
        (up (length a.places) b.first) c s
        (rw n (goes_up (residuals x) (residuals y) b.first c s (rb.onto c s h)))

    from_at : (c : ℕ) (s : List ℕ) → Goes (residuals x ++ residuals y) a.first c s ⊎ Goes
        (residuals x ++ residuals y) (up (length a.places) b.first) c s → In (Either x y) (c ∷ s)
    from_at c s (inl h) =
        inl (ra.from c s (goes_less (residuals x) (residuals y) a.first c s ra.within h))
    from_at c s (inr h) =
        inr (rb.from c s (goes_down (residuals x) (residuals y) b.first c s (rw n at h)))

-- repeats: a first byte goes into one copy, and the others are left
begins_more : (least : ℕ) (most : Option ℕ) (x : Tree) → has_more most
    → Begins (Repeat least most x) x (Repeat (pred least) (fewer most) x)
begins_more least most x m b s = (repeat_onto least most x b s, repeat_from least most x b s m)

texts_of_repeat : (least : ℕ) (most : Option ℕ) (x : Tree) → is_count least most ≡ true
    → has_texts x ≡ true → has_texts (Repeat least most x) ≡ true
texts_of_repeat least most x c h = and_from _ _ c (or_right (least == 0) _ h)

no_byte : (x : Tree) (b : ℕ) (s : List ℕ) → In (Repeat 0 (Some 0) x) (b ∷ s) → ⊥
no_byte x b s (zero, l, a, j) = cc
no_byte x b s (suc k, l, a, j) = omega arith

copies_run : (least most : ℕ) (a : Automaton) (x : Tree) (xs : List Residual) → least ≤ most
    → has_texts x ≡ true → Runs a x xs → Runs (copies least most a) (Repeat least (Some most) x)
    (of_copies least most x xs)
copies_run least zero a x xs l h r =
    let z : least ≡ 0 = omega arith in
    rw z (bare_runs (Repeat 0 (Some 0) x) true refl refl (no_byte x))
copies_run least (suc most) a x xs l h r =
    let ih = copies_run (pred least) most a x xs (omega arith) h r in
    let c : is_count least (Some (suc most)) ≡ true = grind arith in
    let d : is_count (pred least) (Some most) ≡ true = grind arith in
    let n : a.holds_empty ≡ nullable x = r.holds_empty in
    before_runs xs (of_copies (pred least) most x xs) a (copies (pred least) most a) x
    (Repeat (pred least) (Some most) x) (Repeat least (Some (suc most)) x)
    ((least == 0) || a.holds_empty) r ih
    (begins_more least (Some (suc most)) x (omega arith)) (rw (c, n) refl)
    (texts_of_repeat least (Some (suc most)) x c h)
    (texts_of_repeat (pred least) (Some most) x d h)

endless_runs : (least : ℕ) (a : Automaton) (x : Tree) (xs : List Residual) → has_texts x ≡ true
    → Runs a x xs → Runs (endless least a) (Repeat least None x) (of_endless least x xs)
endless_runs zero a x xs h r = looped_runs xs a x (Repeat 0 None x) (Repeat 0 None x) true r
    (begins_more 0 None x tt) (begins_more 0 None x tt) refl refl refl refl
endless_runs (suc zero) a x xs h r = looped_runs xs a x (Repeat 0 None x) (Repeat 1 None x)
    a.holds_empty r (begins_more 1 None x tt) (begins_more 0 None x tt) refl r.holds_empty h refl
endless_runs (suc (suc least)) a x xs h r =
    let z : (suc (suc least) == 0) ≡ false = grind arith in
    let y : (suc least == 0) ≡ false = grind arith in
    before_runs xs (of_endless (suc least) x xs) a (endless (suc least) a) x
    (Repeat (suc least) None x) (Repeat (suc (suc least)) None x) a.holds_empty r
    (endless_runs (suc least) a x xs h r) (begins_more (suc (suc least)) None x tt)
    (rw z r.holds_empty) (rw z h) (rw y h)

no_copies : (least most : ℕ) (x : Tree) → of_copies least most x [] ≡ []
no_copies least zero x = refl
no_copies least (suc most) x = no_copies (pred least) most x

no_endless : (least : ℕ) (x : Tree) → of_endless least x [] ≡ []
no_endless zero x = refl
no_endless (suc zero) x = refl
no_endless (suc (suc least)) x = no_endless (suc least) x

-- a pattern without a text has no places
no_residuals : (t : Tree) → has_texts t ≡ false → residuals t ≡ []
no_residuals (Set []) h = refl
no_residuals (Set (b ∷ bs)) h = cc
no_residuals Nothing h = cc
no_residuals (Both x y) h = rw h refl
no_residuals (Either x y) h = let a = no_residuals x (or_parts _ _ h).0 in
    let b = no_residuals y (or_parts (has_texts x) _ h).1 in rw (a, b) refl
no_residuals (Repeat least None x) h = let a = no_residuals x (or_parts (least == 0) _ h).1 in
    rw a (no_endless least x)
no_residuals (Repeat least (Some most) x) h = at (nat_le least most) refl (no_residuals x)
  where
    at : (v : Bool) → nat_le least most ≡ v → (has_texts x ≡ false → residuals x ≡ [])
        → residuals (Repeat least (Some most) x) ≡ []
    at false e ih = rw e refl
    at true e ih =
        let g : ((least == 0) || has_texts x) ≡ false = rw e at h in
        let a = ih (or_parts (least == 0) _ g).1 in
        rw (e, a) (no_copies least most x)

some_places : (a : Automaton) (t : Tree) → Runs a t (residuals t) → (v : Bool) → has_texts t ≡ v
    → is_some_list a.places ≡ true → has_texts t ≡ true
some_places a t r true h k = h
some_places a t r false h k =
    let n : length a.places ≡ length (residuals t) =
    good_length (residuals t) a.places (residuals t) r.places in
    let e : residuals t ≡ [] = no_residuals t h in
    let m : length a.places ≡ 0 = n ∙ ap length e in
    at a.places m k
  where
    at : (ps : List Place) → length ps ≡ 0 → is_some_list ps ≡ true → has_texts t ≡ true
    at [] m k = cc
    at (p ∷ ps) m k = absurd (omega arith)

-- without places there is no first byte
no_places : (a : Automaton) (t : Tree) (zs : List Residual) → Runs a t zs → is_some_list a.places
    ≡ false → zs ≡ []
no_places a t zs r k = at a.places zs k (good_length zs a.places zs r.places)
  where
    at : (ps : List Place) (zs : List Residual) → is_some_list ps ≡ false → length ps ≡ length zs
        → zs ≡ []
    at [] [] k n = refl
    at [] (z ∷ zs) k n = absurd (omega arith)
    at (p ∷ ps) zs k n = cc

goes_nowhere : (qs : List ℕ) (b : ℕ) (s : List ℕ) → Goes [] qs b s → ⊥
goes_nowhere [] b s h = h
goes_nowhere (q ∷ qs) b s (inl (z, g, a, i)) = cc
goes_nowhere (q ∷ qs) b s (inr h) = goes_nowhere qs b s h

pub no_first : (a : Automaton) (t : Tree) (zs : List Residual) → Runs a t zs → is_some_list a.places
    ≡ false → (b : ℕ) (s : List ℕ) → In t (b ∷ s) → ⊥
no_first a t zs r k b s h =
    goes_nowhere a.first b s
    (subst (λ (w : List Residual). Goes w a.first b s) (no_places a t zs r k) (r.onto b s h))

only_empty : (t : Tree) → ((b : ℕ) (s : List ℕ) → In t (b ∷ s) → ⊥) → (v w : Bool) → nullable t ≡ v
    → has_texts t ≡ w → nullable t ≡ has_texts t
only_empty t n true w e f = e ∙ sym (has_text t [] (empty_in t e))
only_empty t n false false e f = e ∙ sym f
only_empty t n false true e f = let x = text_of t f in absurd (at x.0 x.1)
  where
    at : (text : List ℕ) → In t text → ⊥
    at [] i = let c : nullable t ≡ true = in_empty t i in cc
    at (b ∷ s) i = n b s i

repeat_no_first : (least : ℕ) (most : Option ℕ) (x : Tree)
    → ((b : ℕ) (s : List ℕ) → In x (b ∷ s) → ⊥) → (b : ℕ) (s : List ℕ)
    → In (Repeat least most x) (b ∷ s) → ⊥
repeat_no_first least most x n b s h = let p = repeat_onto least most x b s h in n b p.0 p.3

no_repeats : (least : ℕ) (most : Option ℕ) (x : Tree) → residuals x ≡ []
    → residuals (Repeat least most x) ≡ []
no_repeats least None x h = rw h (no_endless least x)
no_repeats least (Some most) x h = at (nat_le least most) refl
  where
    at : (v : Bool) → nat_le least most ≡ v → residuals (Repeat least (Some most) x) ≡ []
    at true e = rw (e, h) (no_copies least most x)
    at false e = rw e refl

bare_repeat : (least : ℕ) (most : Option ℕ) (a : Automaton) (x : Tree) → is_count least most ≡ true
    → is_some_list a.places ≡ false → Runs a x (residuals x)
    → Runs (bare ((least == 0) || a.holds_empty)) (Repeat least most x)
    (residuals (Repeat least most x))
bare_repeat least most a x c k r =
    let n = no_first a x (residuals x) r k in
    let e : nullable x ≡ has_texts x = only_empty x n (nullable x) (has_texts x) refl refl in
    let h : a.holds_empty ≡ nullable x = r.holds_empty in
    rw (no_repeats least most x (no_places a x (residuals x) r k))
    (bare_runs (Repeat least most x) ((least == 0) || a.holds_empty) (rw (c, h) refl)
    (rw (c, h, e) refl) (repeat_no_first least most x n))

repeat_places_run : (least : ℕ) (most : Option ℕ) (a : Automaton) (x : Tree)
    → is_count least most ≡ true → has_texts x ≡ true → Runs a x (residuals x)
    → Runs (repeat_places least most a) (Repeat least most x) (residuals (Repeat least most x))
repeat_places_run least None a x c h r = endless_runs least a x (residuals x) h r
repeat_places_run least (Some most) a x c h r =
    rw c (copies_run least most a x (residuals x) (grind arith) h r)

no_count_runs : (least : ℕ) (most : Option ℕ) (x : Tree) → is_count least most ≡ false
    → Runs (bare false) (Repeat least most x) (residuals (Repeat least most x))
no_count_runs least None x c = cc
no_count_runs least (Some most) x c = rw c (dead_runs (Repeat least (Some most) x) (rw c refl))

pub repeated_runs : (least : ℕ) (most : Option ℕ) (a : Automaton) (x : Tree)
    → Runs a x (residuals x) → Runs (repeated_automaton least most a) (Repeat least most x)
    (residuals (Repeat least most x))
repeated_runs least most a x r = at (is_count least most) (is_some_list a.places) refl refl
  where
    at : (u v : Bool) → is_count least most ≡ u → is_some_list a.places ≡ v
        → Runs (repeated_automaton least most a) (Repeat least most x)
        (residuals (Repeat least most x))
    at false v c k = rw c (no_count_runs least most x c)
    at true true c k =
        rw (c, k) (repeat_places_run least most a x c (some_places a x r (has_texts x) refl k) r)
    at true false c k = rw (c, k) (bare_repeat least most a x c k r)

-- the automaton of a pattern runs its language
pub automaton_runs : (t : Tree) → Runs (automaton t) t (residuals t)
unfolding automaton
automaton_runs (Set bytes) = single_runs bytes
automaton_runs Nothing = bare_runs Nothing true refl refl nothing_more
automaton_runs (Both x y) = both_runs (automaton x) (automaton y) x y (automaton_runs x)
    (automaton_runs y)
automaton_runs (Either x y) = either_runs (automaton x) (automaton y) x y (automaton_runs x)
    (automaton_runs y)
automaton_runs (Repeat least most x) = repeated_runs least most (automaton x) x (automaton_runs x)
