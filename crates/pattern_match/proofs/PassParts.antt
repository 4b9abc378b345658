-- Going over a part of a pattern, and over its places in an automaton: what parts are made of.
use Rattle.std.proofs.Common.{◌≡◌, refl, sym, ◌∙◌, ap, ℕ, zero, suc, pred, ◌+◌, ◌≤◌}
use Rattle.std.proofs.Common.{◌==◌, Bool, true, false, List, [], ◌∷◌, ◌++◌, length, ◌⊎◌, inl, inr}
use Rattle.std.proofs.Common.{arith, length-append}
use Rattle.std.proofs.Math.Bool.{and-false, and-true, and_comm, or-false, or_assoc, or_comm}
use Rattle.std.proofs.lemmas.Bool.{or_cases, false_from_ne_true}
use Rattle.std.proofs.lemmas.List.{length-map}
use Rattle.std.specs.Cmp.{second_so}
use Rattle.std.specs.Prelude.{◌||◌, ◌&&◌, map, max, if◌then◌else◌}
use Rattle.pattern_match.specs.Automaton.{Place, Automaton, up, moved, followed, in_turn}
use Rattle.pattern_match.specs.Automaton.{copies, endless}
use Rattle.pattern_match.specs.Passes.{may_enter, copies_end, copies_move}
use Rattle.pattern_match.specs.Segments.{among}
use Rattle.pattern_match.specs.declared.entry.EnteredPlaces.{EnteredPlaces}
use Rattle.pattern_match.proofs.Copies.{up_up}
use Rattle.pattern_match.proofs.PassPlaces.{copies_hold, endless_hold}
use Rattle.pattern_match.proofs.PassRows.{some_place, ends_at, leads_at, enters_at, Stands}
use Rattle.pattern_match.proofs.PassRows.{some_append, some_map, or_turned, leads_moved}
use Rattle.pattern_match.proofs.PassRows.{ends_followed, leads_followed, entered_stands}
use Rattle.pattern_match.proofs.Segments.{first_turned, many_turned}

-- whether a part is ended, and whether it leads to a place that may be entered, are what its places
-- and its first ones say, whatever is marked before it; both lead to its own places alone
pub record IsPassed (entry : EnteredPlaces) (marked : ℕ → Bool) (q : ℕ) (is_ended : ℕ → Bool)
    (is_reached : Bool → ℕ → Bool) (places : List Place) (first : List ℕ) : Type 0 where
  pub ended : (start : ℕ) → is_ended start ≡ some_place (ends_at marked) start places
  pub reached : (entered : Bool) (start : ℕ) → is_reached entered start
      ≡ (((entered && among (up start first) q)
      || some_place (leads_at marked start q) start places)
      && some_place (enters_at entry q) start places)
  pub begins : (start : ℕ) → among (up start first) q ≡ true → Stands q start (length places)
  pub follows : (start : ℕ) → some_place (leads_at marked start q) start places ≡ true
      → Stands q start (length places)

-- the same in other words
pub same_passed : (entry : EnteredPlaces) (marked : ℕ → Bool) (q : ℕ) (e f : ℕ → Bool)
    (m n : Bool → ℕ → Bool) (places : List Place) (first : List ℕ) → ((s : ℕ) → f s ≡ e s)
    → ((v : Bool) (s : ℕ) → n v s ≡ m v s) → IsPassed entry marked q e m places first
    → IsPassed entry marked q f n places first
same_passed entry marked q e f m n places first h k p = record {
  ended = λ s. h s ∙ p.ended s;
  reached = λ v s. k v s ∙ p.reached v s;
  begins = p.begins;
  follows = p.follows;
}

-- without a place
pub none_passed : (entry : EnteredPlaces) (marked : ℕ → Bool) (q : ℕ)
    → IsPassed entry marked q (λ s. false) (λ v s. false) [] []
none_passed entry marked q = record {
  ended = λ s. refl;
  reached = λ v s. sym (and-false ((v && false) || false));
  begins = λ s h. cc;
  follows = λ s h. cc;
}

single : (v m b t : Bool) → ((v && b) && t)
    ≡ (((v && (t || false)) || ((m && false) || false)) && ((t && b) || false))
single true true true true = refl
single true true true false = refl
single true true false true = refl
single true true false false = refl
single true false true true = refl
single true false true false = refl
single true false false true = refl
single true false false false = refl
single false true true true = refl
single false true true false = refl
single false true false true = refl
single false true false false = refl
single false false true true = refl
single false false true false = refl
single false false false true = refl
single false false false false = refl

same_turned : (q s : ℕ) → (0 + s == q) ≡ (q == s)
same_turned q s = grind arith

same_so : (q s : ℕ) → ((0 + s == q) || false) ≡ true → Stands q s 1
same_so q s h =
    let e : (0 + s == q) ≡ true = sym (or-false (0 + s == q)) ∙ h in
    let f : q ≡ s = grind arith in (omega arith, omega arith)

-- one place, which ends the part
pub single_passed : (entry : EnteredPlaces) (marked : ℕ → Bool) (q : ℕ) (bytes : List ℕ)
    → IsPassed entry marked q marked (λ v s. (v && may_enter entry bytes) && (q == s))
    (record { bytes = bytes; is_last = true; next = [] } ∷ []) (0 ∷ [])
single_passed entry marked q bytes = record {
  ended = λ s. sym (or-false (marked s && true) ∙ and-true (marked s));
  reached = λ v s. single v (marked s) (may_enter entry bytes) (q == s)
      ∙ ap (λ t. ((v && (t || false)) || ((marked s && false) || false))
      && (((q == s) && may_enter entry bytes) || false)) (sym (same_turned q s));
  begins = λ s h. same_so q s h;
  follows = λ s h. let c : true ≡ false = sym h ∙ or-false (marked s && false)
      ∙ and-false (marked s) in cc;
}

-- of two ways in, each to places where the other doesn't lead
each_way : (x y a b : Bool) → (x ≡ true → b ≡ false) → (y ≡ true → a ≡ false)
    → ((x && a) || (y && b)) ≡ ((x || y) && (a || b))
each_way true true a b h k = refl
each_way true false a b h k = let e = h refl in rw e refl
each_way false true a b h k = let e = k refl in rw e refl
each_way false false a b h k = refl

turned_ways : (v h e fa la fb lb : Bool)
    → (((v && fa) || la) || ((((v && h) || e) && fb) || lb))
    ≡ ((v && (fa || (h && fb))) || ((la || (e && fb)) || lb))
turned_ways false h e fa la fb lb = sym (or_assoc la (e && fb) lb)
turned_ways true h e true la fb lb = refl
turned_ways true false e false la fb lb = sym (or_assoc la (e && fb) lb)
turned_ways true true e false true true lb = refl
turned_ways true true e false false true lb = refl
turned_ways true true e false true false lb = refl
turned_ways true true true false false false lb = refl
turned_ways true true false false false false lb = refl

either_ways : (v fa la fb lb : Bool)
    → (((v && fa) || la) || ((v && fb) || lb)) ≡ ((v && (fa || fb)) || (la || lb))
either_ways true fa la fb lb = or_turned fa la fb lb
either_ways false fa la fb lb = refl

looped_ways : (v e f l : Bool) → (((v || e) && f) || l) ≡ ((v && f) || (l || (e && f)))
looped_ways true e true l = refl
looped_ways true true false l = sym (or-false l)
looped_ways true false false l = sym (or-false l)
looped_ways false e f l = or_comm (e && f) l

-- a row and the one behind it have no number in common
apart : (q start m n : ℕ) (v : Bool) → Stands q start m → (v ≡ true → Stands q (start + m) n)
    → v ≡ false
apart q start m n v s h =
    false_from_ne_true v (λ e. let t = h e in let u = s in omega arith)

apart_behind : (q start m n : ℕ) (v : Bool) → Stands q (start + m) n → (v ≡ true → Stands q start m)
    → v ≡ false
apart_behind q start m n v s h =
    false_from_ne_true v (λ e. let t = h e in let u = s in omega arith)

in_front : (q start m n : ℕ) → Stands q start m → Stands q start (m + n)
in_front q start m n s = let u = s in (omega arith, omega arith)

behind : (q start m n : ℕ) → Stands q (start + m) n → Stands q start (m + n)
behind q start m n s = let u = s in (omega arith, omega arith)

-- the ways into a part: it is entered, or one of its marked places leads on
pub ways_in : (entry : EnteredPlaces) (marked : ℕ → Bool) (q : ℕ) (e : ℕ → Bool) (m : Bool → ℕ
    → Bool)
    (places : List Place) (first : List ℕ) → IsPassed entry marked q e m places first → (v : Bool)
    (start : ℕ)
    → ((v && among (up start first) q) || some_place (leads_at marked start q) start places) ≡ true
    → Stands q start (length places)
ways_in entry marked q e m places first p v start h =
    at (or_cases (v && among (up start first) q) _ h)
  where
    at : ((v && among (up start first) q) ≡ true)
        ⊎ (some_place (leads_at marked start q) start places ≡ true)
        → Stands q start (length places)
    at (inl a) = p.begins start (second_so v _ a)
    at (inr b) = p.follows start b

module _ (entry : EnteredPlaces) (marked : ℕ → Bool) (q : ℕ) (e f : ℕ → Bool) (m n : Bool → ℕ
    → Bool)
    (a b : Automaton) (p : IsPassed entry marked q e m a.places a.first)
    (r : IsPassed entry marked q f n b.places b.first) where
  both_ways_in : (v w : Bool) (start : ℕ) → (m v start || n w (start + length a.places))
      ≡ ((((v && among (up start a.first) q)
      || some_place (leads_at marked start q) start a.places)
      || ((w && among (up (start + length a.places) b.first) q)
      || some_place (leads_at marked (start + length a.places) q) (start + length a.places)
      b.places))
      && (some_place (enters_at entry q) start a.places
      || some_place (enters_at entry q) (start + length a.places) b.places))
  both_ways_in v w start =
      let x = p.reached v start in let y = r.reached w (start + length a.places) in
      rw (x, y) (each_way
      ((v && among (up start a.first) q) || some_place (leads_at marked start q) start a.places)
      ((w && among (up (start + length a.places) b.first) q)
      || some_place (leads_at marked (start + length a.places) q) (start + length a.places)
      b.places)
      (some_place (enters_at entry q) start a.places)
      (some_place (enters_at entry q) (start + length a.places) b.places)
      (λ h. apart q start (length a.places) (length b.places) _
      (ways_in entry marked q e m a.places a.first p v start h)
      (entered_stands entry q (start + length a.places) b.places))
      (λ h. apart_behind q start (length a.places) (length b.places) _
      (ways_in entry marked q f n b.places b.first r w (start + length a.places) h)
      (entered_stands entry q start a.places)))

  behind_ends : (stops : Bool) (first : List ℕ) (start : ℕ)
      → some_place (ends_at marked) start
      (map (followed stops first) a.places ++ map (moved (length a.places)) b.places)
      ≡ ((some_place (ends_at marked) start a.places && stops)
      || some_place (ends_at marked) (start + length a.places) b.places)
  behind_ends stops first start =
      some_append (ends_at marked) start (map (followed stops first) a.places)
      (map (moved (length a.places)) b.places)
      ∙ ap (λ k. some_place (ends_at marked) start (map (followed stops first) a.places)
      || some_place (ends_at marked) (start + k) (map (moved (length a.places)) b.places))
      (length-map a.places (followed stops first))
      ∙ (let c = ends_followed marked stops first start a.places in
      let d = some_map (ends_at marked) (moved (length a.places)) (start + length a.places) b.places
      in rw (c, d) refl)

  behind_leads : (stops : Bool) (start : ℕ) → some_place (leads_at marked start q) start
      (map (followed stops (up (length a.places) b.first)) a.places
      ++ map (moved (length a.places)) b.places)
      ≡ ((some_place (leads_at marked start q) start a.places
      || (some_place (ends_at marked) start a.places
      && among (up (start + length a.places) b.first) q))
      || some_place (leads_at marked (start + length a.places) q) (start + length a.places)
      b.places)
  behind_leads stops start =
      some_append (leads_at marked start q) start
      (map (followed stops (up (length a.places) b.first)) a.places)
      (map (moved (length a.places)) b.places)
      ∙ ap (λ k. some_place (leads_at marked start q) start
      (map (followed stops (up (length a.places) b.first)) a.places)
      || some_place (leads_at marked start q) (start + k) (map (moved (length a.places)) b.places))
      (length-map a.places (followed stops (up (length a.places) b.first)))
      ∙ (let c = leads_followed marked start q stops (up (length a.places) b.first) start a.places
      in let d = leads_moved marked start (length a.places) q (start + length a.places) b.places in
      let u : up start (up (length a.places) b.first) ≡ up (start + length a.places) b.first =
      up_up start (length a.places) b.first in rw (c, d, u) refl)

  behind_enters : (stops : Bool) (first : List ℕ) (start : ℕ)
      → some_place (enters_at entry q) start
      (map (followed stops first) a.places ++ map (moved (length a.places)) b.places)
      ≡ (some_place (enters_at entry q) start a.places
      || some_place (enters_at entry q) (start + length a.places) b.places)
  behind_enters stops first start =
      some_append (enters_at entry q) start (map (followed stops first) a.places)
      (map (moved (length a.places)) b.places)
      ∙ ap (λ k. some_place (enters_at entry q) start (map (followed stops first) a.places)
      || some_place (enters_at entry q) (start + k) (map (moved (length a.places)) b.places))
      (length-map a.places (followed stops first))
      ∙ (let c = some_map (enters_at entry q) (followed stops first) start a.places in
      let d = some_map (enters_at entry q) (moved (length a.places)) (start + length a.places)
      b.places in rw (c, d) refl)

  -- a part and then another, which is entered where the first is and may be skipped, and behind the
  -- first one
  pub turned_passed : (skips : Bool)
      → IsPassed entry marked q (λ s. f (s + length a.places) || (b.holds_empty && e s))
      (λ v s. m v s || n ((v && skips) || e s) (s + length a.places)) (in_turn a b)
      (if skips then a.first ++ up (length a.places) b.first else a.first)
  turned_passed skips = record {
    ended = λ s.
        let x = p.ended s in let y = r.ended (s + length a.places) in
        rw (x, y) (or_comm (some_place (ends_at marked) (s + length a.places) b.places)
        (b.holds_empty && some_place (ends_at marked) s a.places)
        ∙ ap (λ v. v || some_place (ends_at marked) (s + length a.places) b.places)
        (and_comm b.holds_empty (some_place (ends_at marked) s a.places)))
        ∙ sym (behind_ends b.holds_empty (up (length a.places) b.first) s);
    reached = λ v s.
        both_ways_in v ((v && skips) || e s) s
        ∙ ap (λ x. x && (some_place (enters_at entry q) s a.places
        || some_place (enters_at entry q) (s + length a.places) b.places)) (ways v s)
        ∙ (let x = behind_enters b.holds_empty (up (length a.places) b.first) s in
        let y = behind_leads b.holds_empty s in rw (x, y) refl);
    begins = λ s h. begun s (or_cases (among (up s a.first) q) _
        (first_turned skips s (s + length a.places) (length a.places) q a.first b.first refl ∙ h));
    follows = λ s h. led s (or_cases _ _ (sym (behind_leads b.holds_empty s) ∙ h));
  }
    where
      ways : (v : Bool) (s : ℕ) → (((v && among (up s a.first) q)
          || some_place (leads_at marked s q) s a.places)
          || ((((v && skips) || e s) && among (up (s + length a.places) b.first) q)
          || some_place (leads_at marked (s + length a.places) q) (s + length a.places) b.places))
          ≡ ((v && among (up s (if skips then a.first ++ up (length a.places) b.first else a.first))
          q) || ((some_place (leads_at marked s q) s a.places
          || (some_place (ends_at marked) s a.places
          && among (up (s + length a.places) b.first) q))
          || some_place (leads_at marked (s + length a.places) q) (s + length a.places) b.places))
      ways v s =
          let x = p.ended s in
          let y = first_turned skips s (s + length a.places) (length a.places) q a.first b.first
          refl in
          rw (x, ← y) (turned_ways v skips (some_place (ends_at marked) s a.places)
          (among (up s a.first) q) (some_place (leads_at marked s q) s a.places)
          (among (up (s + length a.places) b.first) q)
          (some_place (leads_at marked (s + length a.places) q) (s + length a.places) b.places))

      begun : (s : ℕ) → (among (up s a.first) q ≡ true)
          ⊎ ((skips && among (up (s + length a.places) b.first) q) ≡ true)
          → Stands q s (length (in_turn a b))
      begun s (inl h) = rw (many_turned a b)
          (in_front q s (length a.places) (length b.places) (p.begins s h))
      begun s (inr h) = rw (many_turned a b)
          (behind q s (length a.places) (length b.places)
          (r.begins (s + length a.places) (second_so skips _ h)))

      led : (s : ℕ) → ((some_place (leads_at marked s q) s a.places
          || (some_place (ends_at marked) s a.places
          && among (up (s + length a.places) b.first) q)) ≡ true)
          ⊎ (some_place (leads_at marked (s + length a.places) q) (s + length a.places) b.places
          ≡ true) → Stands q s (length (in_turn a b))
      led s (inl h) = rw (many_turned a b) (at (or_cases _ _ h))
        where
          at : (some_place (leads_at marked s q) s a.places ≡ true)
              ⊎ ((some_place (ends_at marked) s a.places
              && among (up (s + length a.places) b.first) q) ≡ true)
              → Stands q s (length a.places + length b.places)
          at (inl k) = in_front q s (length a.places) (length b.places) (p.follows s k)
          at (inr k) = behind q s (length a.places) (length b.places)
              (r.begins (s + length a.places)
              (second_so (some_place (ends_at marked) s a.places) _ k))
      led s (inr h) = rw (many_turned a b)
          (behind q s (length a.places) (length b.places) (r.follows (s + length a.places) h))

  beside_ends : (start : ℕ)
      → some_place (ends_at marked) start (a.places ++ map (moved (length a.places)) b.places)
      ≡ (some_place (ends_at marked) start a.places
      || some_place (ends_at marked) (start + length a.places) b.places)
  beside_ends start =
      some_append (ends_at marked) start a.places (map (moved (length a.places)) b.places)
      ∙ ap (λ v. some_place (ends_at marked) start a.places || v)
      (some_map (ends_at marked) (moved (length a.places)) (start + length a.places) b.places)

  beside_leads : (start : ℕ) → some_place (leads_at marked start q) start
      (a.places ++ map (moved (length a.places)) b.places)
      ≡ (some_place (leads_at marked start q) start a.places
      || some_place (leads_at marked (start + length a.places) q) (start + length a.places)
      b.places)
  beside_leads start =
      some_append (leads_at marked start q) start a.places (map (moved (length a.places)) b.places)
      ∙ ap (λ v. some_place (leads_at marked start q) start a.places || v)
      (leads_moved marked start (length a.places) q (start + length a.places) b.places)

  beside_enters : (start : ℕ) → some_place (enters_at entry q) start
      (a.places ++ map (moved (length a.places)) b.places)
      ≡ (some_place (enters_at entry q) start a.places
      || some_place (enters_at entry q) (start + length a.places) b.places)
  beside_enters start =
      some_append (enters_at entry q) start a.places (map (moved (length a.places)) b.places)
      ∙ ap (λ v. some_place (enters_at entry q) start a.places || v)
      (some_map (enters_at entry q) (moved (length a.places)) (start + length a.places) b.places)

  -- one part or another
  pub either_passed : IsPassed entry marked q (λ s. e s || f (s + length a.places))
      (λ v s. m v s || n v (s + length a.places))
      (a.places ++ map (moved (length a.places)) b.places)
      (a.first ++ up (length a.places) b.first)
  either_passed = record {
    ended = λ s. (let x = p.ended s in let y = r.ended (s + length a.places) in rw (x, y) refl)
        ∙ sym (beside_ends s);
    reached = λ v s.
        both_ways_in v v s
        ∙ ap (λ x. x && (some_place (enters_at entry q) s a.places
        || some_place (enters_at entry q) (s + length a.places) b.places)) (ways v s)
        ∙ (let x = beside_enters s in let y = beside_leads s in rw (x, y) refl);
    begins = λ s h. rw many (begun s (or_cases (among (up s a.first) q) _
        (first_turned true s (s + length a.places) (length a.places) q a.first b.first refl ∙ h)));
    follows = λ s h. rw many (led s (or_cases _ _ (sym (beside_leads s) ∙ h)));
  }
    where
      many : length (a.places ++ map (moved (length a.places)) b.places)
          ≡ length a.places + length b.places
      many = length-append a.places (map (moved (length a.places)) b.places)
          ∙ ap (λ k. length a.places + k) (length-map b.places (moved (length a.places)))

      ways : (v : Bool) (s : ℕ) → (((v && among (up s a.first) q)
          || some_place (leads_at marked s q) s a.places)
          || ((v && among (up (s + length a.places) b.first) q)
          || some_place (leads_at marked (s + length a.places) q) (s + length a.places) b.places))
          ≡ ((v && among (up s (a.first ++ up (length a.places) b.first)) q)
          || (some_place (leads_at marked s q) s a.places
          || some_place (leads_at marked (s + length a.places) q) (s + length a.places) b.places))
      ways v s =
          let y = first_turned true s (s + length a.places) (length a.places) q a.first b.first refl
          in
          rw (← y) (either_ways v (among (up s a.first) q)
          (some_place (leads_at marked s q) s a.places)
          (among (up (s + length a.places) b.first) q)
          (some_place (leads_at marked (s + length a.places) q) (s + length a.places) b.places))

      begun : (s : ℕ) → (among (up s a.first) q ≡ true)
          ⊎ (among (up (s + length a.places) b.first) q ≡ true)
          → Stands q s (length a.places + length b.places)
      begun s (inl h) = in_front q s (length a.places) (length b.places) (p.begins s h)
      begun s (inr h) = behind q s (length a.places) (length b.places)
          (r.begins (s + length a.places) h)

      led : (s : ℕ) → (some_place (leads_at marked s q) s a.places ≡ true)
          ⊎ (some_place (leads_at marked (s + length a.places) q) (s + length a.places) b.places
          ≡ true) → Stands q s (length a.places + length b.places)
      led s (inl h) = in_front q s (length a.places) (length b.places) (p.follows s h)
      led s (inr h) = behind q s (length a.places) (length b.places)
          (r.follows (s + length a.places) h)

module _ (entry : EnteredPlaces) (marked : ℕ → Bool) (q : ℕ) (e : ℕ → Bool) (m : Bool → ℕ → Bool)
    (a : Automaton) (p : IsPassed entry marked q e m a.places a.first) where
  -- the last copy of an endless repeat, which is entered again where it is ended
  looped_passed : IsPassed entry marked q e (λ v s. m (v || e s) s)
      (map (followed true a.first) a.places) a.first
  looped_passed = record {
    ended = λ s. p.ended s
        ∙ sym (ends_followed marked true a.first s a.places
        ∙ and-true (some_place (ends_at marked) s a.places));
    reached = λ v s.
        p.reached (v || e s) s
        ∙ (let x = p.ended s in
        let y = leads_followed marked s q true a.first s a.places in
        let z = some_map (enters_at entry q) (followed true a.first) s a.places in
        rw (x, y, z) (ap (λ w. w && some_place (enters_at entry q) s a.places)
        (looped_ways v (some_place (ends_at marked) s a.places) (among (up s a.first) q)
        (some_place (leads_at marked s q) s a.places))));
    begins = λ s h. rw (length-map a.places (followed true a.first)) (p.begins s h);
    follows = λ s h. rw (length-map a.places (followed true a.first)) (led s (or_cases _ _
        (sym (leads_followed marked s q true a.first s a.places) ∙ h)));
  }
    where
      led : (s : ℕ) → (some_place (leads_at marked s q) s a.places ≡ true)
          ⊎ ((some_place (ends_at marked) s a.places && among (up s a.first) q) ≡ true)
          → Stands q s (length a.places)
      led s (inl h) = p.follows s h
      led s (inr h) = p.begins s (second_so (some_place (ends_at marked) s a.places) _ h)

  -- one copy, and the others behind it
  copy_passed : (f : ℕ → Bool) (n : Bool → ℕ → Bool) (rest : Automaton) (stops endless last : Bool)
      → (endless && last) ≡ false → stops ≡ rest.holds_empty
      → IsPassed entry marked q f n rest.places rest.first
      → IsPassed entry marked q (λ s. (stops && e s) || f (s + length a.places))
      (λ v s. m (v || ((endless && last) && e s)) s || n (e s) (s + length a.places))
      (in_turn a rest) a.first
  copy_passed f n rest stops endless last l h r =
      same_passed entry marked q (λ s. f (s + length a.places) || (rest.holds_empty && e s))
      (λ s. (stops && e s) || f (s + length a.places))
      (λ v s. m v s || n ((v && false) || e s) (s + length a.places))
      (λ v s. m (v || ((endless && last) && e s)) s || n (e s) (s + length a.places))
      (in_turn a rest) a.first
      (λ s. or_comm (stops && e s) (f (s + length a.places))
      ∙ ap (λ v. f (s + length a.places) || (v && e s)) h)
      (λ v s. rw (l, or-false v, and-false v) refl)
      (turned_passed entry marked q e f m n a rest p r false)

  pub copies_passed : (least most : ℕ) → least ≤ most
      → IsPassed entry marked q (copies_end e (length a.places) a.holds_empty least most)
      (copies_move e m (length a.places) false most)
      (copies least most a).places (copies least most a).first
  copies_passed least zero l = none_passed entry marked q
  copies_passed least (suc most) l =
      copy_passed (copies_end e (length a.places) a.holds_empty (pred least) most)
      (copies_move e m (length a.places) false most) (copies (pred least) most a)
      ((pred least == 0) || a.holds_empty) false (most == 0) refl
      (sym (copies_hold (pred least) most a (omega arith)))
      (copies_passed (pred least) most (omega arith))

  more_passed : (least : ℕ) → IsPassed entry marked q
      (copies_end e (length a.places) a.holds_empty (suc least) (suc least))
      (copies_move e m (length a.places) true (suc least))
      (endless (suc least) a).places (endless (suc least) a).first
  more_passed zero =
      same_passed entry marked q e (copies_end e (length a.places) a.holds_empty 1 1)
      (λ v s. m (v || e s) s) (copies_move e m (length a.places) true 1)
      (map (followed true a.first) a.places) a.first
      (λ s. or-false (e s)) (λ v s. or-false (m (v || e s) s)) looped_passed
  more_passed (suc least) =
      copy_passed (copies_end e (length a.places) a.holds_empty (suc least) (suc least))
      (copies_move e m (length a.places) true (suc least)) (endless (suc least) a)
      ((suc least == 0) || a.holds_empty) true (suc least == 0)
      (let z : (suc least == 0) ≡ false = grind arith in z)
      (sym (endless_hold (suc least) a)) (more_passed least)

  pub endless_passed : (least : ℕ) → IsPassed entry marked q
      (copies_end e (length a.places) a.holds_empty (max least 1) (max least 1))
      (copies_move e m (length a.places) true (max least 1))
      (endless least a).places (endless least a).first
  endless_passed zero = more_passed zero
  endless_passed (suc least) =
      let z : max (suc least) 1 ≡ suc least = omega arith in rw z (more_passed least)
