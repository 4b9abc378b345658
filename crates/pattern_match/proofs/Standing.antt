-- What states stand for: the literal start, and then the marks behind it.
use Rattle.std.proofs.Common.{◌≡◌, ◌≢◌, refl, sym, ◌∙◌, ap, subst, ℕ, zero, suc, ◌+◌, ◌-◌, ◌<◌, ◌≤◌}
use Rattle.std.proofs.Common.{Bool, true, false, List, [], ◌∷◌, ◌++◌, length, take, drop, get_or}
use Rattle.std.proofs.Common.{inl, inr, arith, append_assoc, append-nil, nat_eq, eq-eqb}
use Rattle.std.proofs.Common.{length-append}
use Rattle.std.specs.Prelude.{◌&&◌}
use Rattle.std.specs.List.{starts_with}
use Rattle.std.proofs.lemmas.List.{drop_more, take_all, length-drop, drop_all}
use Rattle.std.specs.Cmp.{both_ways}
use Rattle.pattern_syntax.specs.Tree.{Tree}
use Rattle.pattern_syntax.specs.Language.{In, Opens, holds}
use Rattle.pattern_syntax.specs.Literal.{literal_start_of}
use Rattle.pattern_match.specs.Onwards.{AreTextBytes, TakesAll}
use Rattle.pattern_syntax.specs.Starts.{behind_start}
use Rattle.pattern_match.specs.Settled.{MarksLeadOnward, StatesLeadOnward, MarksStay, StatesStay}
use Rattle.pattern_match.specs.States.{Progress, Working, IsLeft, IsBehind, StandsFor, is_bare}
use Rattle.pattern_syntax.proofs.BehindLemmas.{cut_behind_start}
use Rattle.pattern_match.proofs.Holding.{holds_shows}
use Rattle.pattern_match.proofs.Ready.{bare_behind}

-- a test tells a fact
abbrev pub Shows : Bool → Type 0 → Type 0
Shows v P = (v ≡ true → P) × (P → v ≡ true)

pub false_shows : (P : Type 0) → (P → ⊥) → Shows false P
false_shows P h = (λ e. cc, λ p. absurd (h p))

pub known_is : {a b : Working} → a ≡ b → a.known ≡ b.known
known_is e = ap (λ (w : Working). w.known) e

abbrev pub start_state : List ℕ → Progress
start_state marks = record { seen = 0; marks = marks }

pub stands_at_start : (t : Tree) (states : Progress) → states.seen ≡ 0
    → ((text : List ℕ) → (IsBehind (behind_start t) states.marks text → In (behind_start t) text)
    × (In (behind_start t) text → IsBehind (behind_start t) states.marks text))
    → StandsFor t states []
stands_at_start t states z h = record {
  onto = λ rest i. let w = (cut_behind_start t rest).0 i in
      (omega arith, w.0, w.1 ∙ ap (λ n. drop n (literal_start_of t) ++ w.0) (sym z), (h w.0).1 w.2);
  from = λ rest l. (cut_behind_start t rest).1
      (l.1, l.2 ∙ ap (λ n. drop n (literal_start_of t) ++ l.1) z, (h l.1).0 l.3);
}

-- what is left behind a byte is what the new states leave
abbrev pub Moves : Tree → Progress → Progress → ℕ → Type 0
Moves t old new b = (rest : List ℕ) → (IsLeft t old (b ∷ rest) → IsLeft t new rest)
    × (IsLeft t new rest → IsLeft t old (b ∷ rest))

pub stands_on : (t : Tree) (old new : Progress) (b : ℕ) → Moves t old new b → (text : List ℕ)
    → StandsFor t old text → StandsFor t new (text ++ b ∷ [])
stands_on t old new b m text h = record {
  onto = λ rest i. (m rest).0
      (h.onto (b ∷ rest) (subst (λ w. In t w) (append_assoc text (b ∷ []) rest) i));
  from = λ rest l. subst (λ w. In t w) (sym (append_assoc text (b ∷ []) rest))
      (h.from (b ∷ rest) ((m rest).1 l));
}

-- neither leaves anything
pub moves_dead : (t : Tree) (old new : Progress) (b : ℕ)
    → ((rest : List ℕ) → IsLeft t old (b ∷ rest) → ⊥) → length (literal_start_of t) < new.seen
    → Moves t old new b
moves_dead t old new b h l rest = (λ a. absurd (h rest a), λ a. absurd (let k = a.0 in omega arith))

pub dead_past : (t : Tree) (states : Progress) → length (literal_start_of t) < states.seen
    → (text : List ℕ) → IsLeft t states text → ⊥
dead_past t states l text a = let k = a.0 in omega arith

lead : (start : List ℕ) (seen : ℕ) → seen < length start → drop seen start ≡ get_or start seen
    0 ∷ drop (seen + 1) start
lead start seen l = drop_more start seen 0 l

pub moves_same : (t : Tree) (old new : Progress) (b : ℕ) → old.seen < length (literal_start_of t)
    → get_or (literal_start_of t) old.seen 0 ≡ b → new.seen ≡ old.seen + 1 → new.marks ≡ old.marks
    → Moves t old new b
moves_same t old new b l e n m rest = (
  λ a. (
    omega arith,
    a.1,
    tail (a.2 ∙ ap (λ w. w ++ a.1) front)
        ∙ ap (λ k. drop k (literal_start_of t) ++ a.1) (sym n),
    subst
        (λ w. IsBehind (behind_start t) w a.1) (sym m) a.3,
  ),
  λ a. (
    omega arith,
    a.1,
    ap (λ w. b ∷ w) (a.2 ∙ ap (λ k. drop k (literal_start_of t) ++ a.1) n)
        ∙ ap (λ w. w ++ a.1) (sym front),
    subst (λ w. IsBehind (behind_start t) w a.1) m a.3,
  ),
)
  where
    front : drop old.seen (literal_start_of t) ≡ b ∷ drop (old.seen + 1) (literal_start_of t)
    front = lead (literal_start_of t) old.seen l
        ∙ ap (λ c. c ∷ drop (old.seen + 1) (literal_start_of t)) e

    tail : {r s : List ℕ} → b ∷ r ≡ b ∷ s → r ≡ s
    tail h = cc

pub other_byte : (t : Tree) (old : Progress) (b : ℕ) → old.seen < length (literal_start_of t)
    → get_or (literal_start_of t) old.seen 0 ≢ b → (rest : List ℕ) → IsLeft t old (b ∷ rest) → ⊥
other_byte t old b l d rest a =
    d (head (sym (a.2 ∙ ap (λ w. w ++ a.1) (lead (literal_start_of t) old.seen l))))
  where
    head : {c : ℕ} {r s : List ℕ} → c ∷ r ≡ b ∷ s → c ≡ b
    head h = cc

at_end : (start : List ℕ) (seen : ℕ) (text : List ℕ) → seen ≡ length start → drop seen start ++ text
    ≡ text
at_end start seen text e = ap (λ w. w ++ text) (drop_all seen start (omega arith))

pub moves_behind : (t : Tree) (old new : Progress) (b : ℕ) → old.seen ≡ length (literal_start_of t)
    → new.seen ≡ old.seen
    → ((text : List ℕ)
    → (IsBehind (behind_start t) old.marks (b ∷ text) → IsBehind (behind_start t) new.marks text)
    × (IsBehind (behind_start t) new.marks text → IsBehind (behind_start t) old.marks (b ∷ text)))
    → Moves t old new b
moves_behind t old new b e n h rest = (
  λ a. (
    omega arith,
    rest,
    sym (at_end (literal_start_of t) new.seen rest (n ∙ e)),
    (h rest).0
        (subst (λ w. IsBehind (behind_start t) old.marks w)
        (sym (a.2 ∙ at_end (literal_start_of t) old.seen a.1 e)) a.3),
  ),
  λ a. (
    omega arith,
    b ∷ rest,
    sym (at_end (literal_start_of t) old.seen (b ∷ rest) e),
    (h rest).1
        (subst (λ w. IsBehind (behind_start t) new.marks w)
        (sym (a.2 ∙ at_end (literal_start_of t) new.seen a.1 (n ∙ e))) a.3),
  ),
)

pub nothing_behind : (t : Tree) (old : Progress) (b : ℕ) → old.seen ≡ length (literal_start_of t)
    → is_bare (behind_start t) ≡ true → (rest : List ℕ) → IsLeft t old (b ∷ rest) → ⊥
nothing_behind t old b e v rest a = let z : b ∷ rest ≡ [] =
    a.2 ∙ at_end (literal_start_of t) old.seen a.1 e
    ∙ (bare_behind (behind_start t) old.marks a.1 v).0 a.3 in cc

-- the text may end where the whole start was read, and the marks say so
pub not_ended : (t : Tree) (states : Progress) → states.seen ≢ length (literal_start_of t)
    → IsLeft t states [] → ⊥
not_ended t states d a = at (drop states.seen (literal_start_of t)) refl (a.2)
  where
    longer : (start : List ℕ) (n : ℕ) → n ≤ length start → drop n start ≡ [] → n ≡ length start
    longer [] n l h = omega arith
    longer (b ∷ bs) zero l h = cc
    longer (b ∷ bs) (suc n) l h = let r = longer bs n (omega arith) h in omega arith

    at : (front : List ℕ) → drop states.seen (literal_start_of t) ≡ front
        → [] ≡ drop states.seen (literal_start_of t) ++ a.1 → ⊥
    at [] e h = d (longer (literal_start_of t) states.seen a.0 e)
    at (b ∷ bs) e h = let z : [] ≡ b ∷ (bs ++ a.1) = h ∙ ap (λ w. w ++ a.1) e in cc

pub ended : (t : Tree) (states : Progress) (v : Bool) → states.seen ≡ length (literal_start_of t)
    → Shows v (IsBehind (behind_start t) states.marks []) → Shows v (IsLeft t states [])
ended t states v e h = (
  λ q. (omega arith, [], sym (at_end (literal_start_of t) states.seen [] e), h.0 q),
  λ a. h.1 (subst (λ w. IsBehind (behind_start t) states.marks w)
      (sym (a.2 ∙ at_end (literal_start_of t) states.seen a.1 e)) a.3),
)

pub shows_text : (t : Tree) (states : Progress) (v : Bool) → Shows v (IsLeft t states [])
    → (text : List ℕ) → StandsFor t states text → Shows v (In t text)
shows_text t states v h text s = (
  λ q. subst (λ w. In t w) (append-nil text) (s.from [] (h.0 q)),
  λ i. h.1 (s.onto [] (subst (λ w. In t w) (sym (append-nil text)) i)),
)

pub shows_holds : (t : Tree) (text : List ℕ) (v : Bool) → Shows v (In t text) → v ≡ holds t text
shows_holds t text v h = both_ways v (holds t text) (λ e. (holds_shows t text).1 (h.0 e))
    (λ e. h.1 ((holds_shows t text).0 e))

-- some text is left
pub shows_opens : (t : Tree) (states : Progress) (v : Bool)
    → states.seen ≤ length (literal_start_of t)
    → ((text : List ℕ) → IsBehind (behind_start t) states.marks text → v ≡ true)
    → (v ≡ true → (text : List ℕ) × IsBehind (behind_start t) states.marks text) → (text : List ℕ)
    → StandsFor t states text → Shows v (Opens t text)
shows_opens t states v l onto from text s = (
  λ q. let r = from q in (
    drop states.seen (literal_start_of t) ++ r.0,
    s.from
        (drop states.seen (literal_start_of t) ++ r.0) (l, r.0, refl, r.1),
  ),
  λ o. let a = s.onto o.0 o.1 in onto a.1 a.3,
)

-- whatever follows is left
pub takes_rest : (t : Tree) (states : Progress) → states.seen ≡ length (literal_start_of t)
    → ((rest : List ℕ) → AreTextBytes rest → IsBehind (behind_start t) states.marks rest)
    → (text : List ℕ) → StandsFor t states text → TakesAll t text
takes_rest t states e h text s =
    λ rest a. s.from rest (
      omega arith,
      rest,
      sym (at_end (literal_start_of t) states.seen rest e),
      h rest a,
    )

pub dead_opens : (t : Tree) (states : Progress) → length (literal_start_of t) < states.seen
    → (text : List ℕ) → StandsFor t states text → Shows false (Opens t text)
dead_opens t states l text s =
    false_shows (Opens t text) (λ o. dead_past t states l o.0 (s.onto o.0 o.1))

begins : (text start : List ℕ) → starts_with nat_eq text start ≡ true
    → text ≡ start ++ drop (length start) text
begins text [] h = refl
begins [] (b ∷ bs) h = cc
begins (c ∷ cs) (b ∷ bs) h = at (nat_eq b c) refl h (begins cs bs)
  where
    same : nat_eq b c ≡ true → c ≡ b
    same e = grind arith

    at : (v : Bool) → nat_eq b c ≡ v → (v && starts_with nat_eq cs bs) ≡ true
        → (starts_with nat_eq cs bs ≡ true → cs ≡ bs ++ drop (length bs) cs)
        → c ∷ cs ≡ b ∷ (bs ++ drop (length bs) cs)
    at true e g ih = let i = ih g in let s = same e in rw s (ap (λ w. b ∷ w) i)
    at false e g ih = cc

pub too_short : (text start : List ℕ) → length text < length start
    → false ≡ starts_with nat_eq text start
too_short text start l = at (starts_with nat_eq text start) refl
  where
    at : (v : Bool) → starts_with nat_eq text start ≡ v → false ≡ v
    at false e = refl
    at true e =
        let b = ap length (begins text start e) in
        let n : length (start ++ drop (length start) text) ≡ length start + length
        (drop (length start) text) = length-append start (drop (length start) text) in
        absurd (omega arith)

begun : (start rest : List ℕ) → starts_with nat_eq (start ++ rest) start ≡ true
begun [] rest = refl
begun (b ∷ bs) rest = rw (eq-eqb b b refl) (begun bs rest)

pub other_start : (t : Tree) (text start : List ℕ) → start ≡ literal_start_of t
    → starts_with nat_eq text start ≡ false → Shows false (In t text)
other_start t text start e f = false_shows (In t text) (λ i.
    let w = (cut_behind_start t text).0 i in
    let g : starts_with nat_eq text start ≡ true =
    ap (λ x. starts_with nat_eq x start) (w.1 ∙ ap (λ x. x ++ w.0) (sym e)) ∙ begun start w.0 in
    let d : true ≡ false = sym g ∙ f in cc)

drop_front : (front rest : List ℕ) → drop (length front) (front ++ rest) ≡ rest
drop_front [] rest = refl
drop_front (b ∷ bs) rest = drop_front bs rest

-- a text that begins with the start is in the language where its rest is in that of what stands
-- behind the start
pub same_start : (t : Tree) (text start rest : List ℕ) (v : Bool) → start ≡ literal_start_of t
    → starts_with nat_eq text start ≡ true → rest ≡ drop (length start) text
    → Shows v (In (behind_start t) rest) → Shows v (In t text)
same_start t text start rest v e f g h =
    let b : text ≡ start ++ rest = begins text start f ∙ ap (λ w. start ++ w) (sym g) in (
      λ q. (cut_behind_start t text).1 (rest, b ∙ ap (λ w. w ++ rest) e, h.0 q),
      λ i. let w = (cut_behind_start t text).0 i in
          let r : rest ≡ w.0 = g ∙ ap (drop (length start)) (w.1 ∙ ap (λ x. x ++ w.0) (sym e))
          ∙ drop_front start w.0 in
          h.1 (subst (λ x. In (behind_start t) x) (sym r) w.2),
    )

pub whole_rest : (text start : List ℕ)
    → take (length text - length start) (drop (length start) text) ≡ drop (length start) text
whole_rest text start = take_all (length text - length start) (drop (length start) text)
    (let l = length-drop (length start) text in omega (arith, l))

-- ---- a matcher's calls

module _ (t : Tree) (start : List ℕ) (machine : Tree) (s : start ≡ literal_start_of t)
    (m : machine ≡ behind_start t) where
  pub started : (marks : List ℕ)
      → ((text : List ℕ) → (IsBehind machine marks text → In machine text)
      × (In machine text → IsBehind machine marks text)) → StandsFor t (start_state marks) []
  started marks h =
      stands_at_start t (start_state marks) refl
      (subst (λ b. (text : List ℕ) → (IsBehind b marks text → In b text)
      × (In b text → IsBehind b marks text)) m h)

  pub not_accepted : (inside states : Progress) (n : ℕ) → inside ≡ states → n ≡ length start
      → (inside.seen ≡ n → ⊥) → (text : List ℕ) → StandsFor t states text → Shows false (In t text)
  not_accepted inside states n i l d =
      shows_text t states false
      (false_shows (IsLeft t states [])
      (not_ended t states
      (λ e. d (ap (λ (p : Progress). p.seen) i ∙ e ∙ ap length (sym s) ∙ sym l))))

  pub accepted : (inside states : Progress) (n : ℕ) (v : Bool) → inside ≡ states → n ≡ length start
      → inside.seen ≡ n → Shows v (IsBehind machine inside.marks []) → (text : List ℕ)
      → StandsFor t states text → Shows v (In t text)
  accepted inside states n v i l e h =
      shows_text t states v
      (ended t states v (ap (λ (p : Progress). p.seen) (sym i) ∙ e ∙ l ∙ ap length s)
      (subst (λ b. Shows v (IsBehind b states.marks [])) m
      (subst (λ (p : Progress). Shows v (IsBehind machine p.marks [])) i h)))

  pub takes_all : (inside states : Progress) (n : ℕ) → inside ≡ states → n ≡ length start
      → inside.seen ≡ n → ((rest : List ℕ) → AreTextBytes rest → IsBehind machine inside.marks rest)
      → (text : List ℕ) → StandsFor t states text → TakesAll t text
  takes_all inside states n i l e h =
      takes_rest t states (ap (λ (p : Progress). p.seen) (sym i) ∙ e ∙ l ∙ ap length s)
      (subst (λ b. (rest : List ℕ) → AreTextBytes rest → IsBehind b states.marks rest) m
      (subst (λ (p : Progress). (rest : List ℕ) → AreTextBytes rest
      → IsBehind machine p.marks rest) i h))

  whole_start : (inside states : Progress) (n : ℕ) → inside ≡ states → n ≡ length start
      → inside.seen ≡ n → states.seen ≡ length (literal_start_of t)
  whole_start inside states n i l e = ap (λ (p : Progress). p.seen) (sym i) ∙ e ∙ l ∙ ap length s

  pub leads_at : (inside states : Progress) (n : ℕ) (v : Bool) → inside ≡ states → n ≡ length start
      → inside.seen ≡ n → Shows v (MarksLeadOnward machine inside.marks)
      → Shows v (StatesLeadOnward t states)
  leads_at inside states n v i l e h =
      let d : Shows v (MarksLeadOnward (behind_start t) states.marks) =
      subst (λ b. Shows v (MarksLeadOnward b states.marks)) m
      (subst (λ (p : Progress). Shows v (MarksLeadOnward machine p.marks)) i h) in
      (λ a. record { whole = whole_start inside states n i l e; behind = d.0 a }, λ a. d.1 a.behind)

  pub leads_not : (inside states : Progress) (n : ℕ) → inside ≡ states → n ≡ length start
      → (inside.seen ≡ n → ⊥) → Shows false (StatesLeadOnward t states)
  leads_not inside states n i l d =
      false_shows (StatesLeadOnward t states)
      (λ a. d (ap (λ (p : Progress). p.seen) i ∙ a.whole ∙ ap length (sym s) ∙ sym l))

  pub stays_at : (inside states : Progress) (n : ℕ) (v : Bool) → inside ≡ states → n ≡ length start
      → inside.seen ≡ n → Shows v (MarksStay machine inside.marks) → Shows v (StatesStay t states)
  stays_at inside states n v i l e h =
      let d : Shows v (MarksStay (behind_start t) states.marks) =
      subst (λ b. Shows v (MarksStay b states.marks)) m
      (subst (λ (p : Progress). Shows v (MarksStay machine p.marks)) i h) in
      (λ a. inr (whole_start inside states n i l e, d.0 a), at d.1)
    where
      at : (MarksStay (behind_start t) states.marks → v ≡ true) → StatesStay t states → v ≡ true
      at f (inl a) = let w = whole_start inside states n i l e in absurd (omega arith)
      at f (inr a) = f a.1

  pub stays_past : (inside states : Progress) (n : ℕ) → inside ≡ states → n ≡ length start
      → n < inside.seen → Shows true (StatesStay t states)
  stays_past inside states n i l e = let q : inside.seen ≡ states.seen =
      ap (λ (p : Progress). p.seen) i in let r : length start ≡ length (literal_start_of t) =
      ap length s in (λ _. inl (omega arith), λ _. refl)

  pub stays_before : (inside states : Progress) (n : ℕ) → inside ≡ states → n ≡ length start
      → inside.seen < n → Shows false (StatesStay t states)
  stays_before inside states n i l e = false_shows (StatesStay t states) at
    where
      seen : inside.seen ≡ states.seen
      seen = ap (λ (p : Progress). p.seen) i

      long : length start ≡ length (literal_start_of t)
      long = ap length s

      at : StatesStay t states → ⊥
      at (inl a) = let q = seen in let r = long in omega arith
      at (inr a) = let q = seen in let r = long in let w = a.0 in omega arith

  pub is_dead : (inside states : Progress) (n : ℕ) → inside ≡ states → n ≡ length start
      → n < inside.seen → (text : List ℕ) → StandsFor t states text → Shows false (Opens t text)
  is_dead inside states n i l e = let q : inside.seen ≡ states.seen =
      ap (λ (p : Progress). p.seen) i in let r : length start ≡ length (literal_start_of t) =
      ap length s in dead_opens t states (omega arith)

  pub is_alive : (inside states : Progress) (n : ℕ) (v : Bool) → inside ≡ states → n ≡ length start
      → inside.seen ≤ n → ((text : List ℕ) → IsBehind machine inside.marks text → v ≡ true)
      → (v ≡ true → (text : List ℕ) × IsBehind machine inside.marks text) → (text : List ℕ)
      → StandsFor t states text → Shows v (Opens t text)
  is_alive inside states n v i l e f g =
      let q : inside.seen ≡ states.seen = ap (λ (p : Progress). p.seen) i in
      let r : length start ≡ length (literal_start_of t) = ap length s in
      shows_opens t states v (omega arith)
      (subst (λ b. (text : List ℕ) → IsBehind b states.marks text → v ≡ true) m
      (subst (λ (p : Progress). (text : List ℕ) → IsBehind machine p.marks text → v ≡ true) i
      f))
      (subst (λ b. v ≡ true → (text : List ℕ) × IsBehind b states.marks text) m
      (subst (λ (p : Progress). v ≡ true → (text : List ℕ) × IsBehind machine p.marks text) i
      g))

  pub matches_not : (text shown : List ℕ) → shown ≡ start → starts_with nat_eq text shown ≡ false
      → Shows false (In t text)
  matches_not text shown e f = other_start t text shown (e ∙ s) f

  pub matches_rest : (text shown rest : List ℕ) (v : Bool) → shown ≡ start
      → starts_with nat_eq text shown ≡ true → rest ≡ drop (length shown) text
      → Shows v (In machine rest) → Shows v (In t text)
  matches_rest text shown rest v e f g h =
      same_start t text shown rest v (e ∙ s) f g (subst (λ b. Shows v (In b rest)) m h)

  pub steps_start : (inside old : Progress) (shown : List ℕ) (b : ℕ) → inside ≡ old → shown ≡ start
      → inside.seen < length shown → get_or shown inside.seen 0 ≡ b → (text : List ℕ)
      → StandsFor t old text → StandsFor t (record { seen = inside.seen + 1; marks = inside.marks })
      (text ++ b ∷ [])
  steps_start inside old shown b i e l g =
      subst (λ (p : Progress). (text : List ℕ) → StandsFor t p text
      → StandsFor t (record { seen = inside.seen + 1; marks = inside.marks }) (text ++ b ∷ [])) i
      (stands_on t inside (record { seen = inside.seen + 1; marks = inside.marks }) b
      (moves_same t inside (record { seen = inside.seen + 1; marks = inside.marks }) b
      (subst (λ (w : List ℕ). inside.seen < length w) (e ∙ s) l)
      (subst (λ (w : List ℕ). get_or w inside.seen 0 ≡ b) (e ∙ s) g) refl refl))

  pub steps_other : (inside old : Progress) (shown : List ℕ) (b : ℕ) → inside ≡ old → shown ≡ start
      → inside.seen < length shown → (get_or shown inside.seen 0 ≡ b → ⊥) → (text : List ℕ)
      → StandsFor t old text
      → StandsFor t (record { seen = length shown + 1; marks = inside.marks }) (text ++ b ∷ [])
  steps_other inside old shown b i e l g =
      subst (λ (p : Progress). (text : List ℕ) → StandsFor t p text
      → StandsFor t (record { seen = length shown + 1; marks = inside.marks }) (text ++ b ∷ [])) i
      (stands_on t inside (record { seen = length shown + 1; marks = inside.marks }) b
      (moves_dead t inside (record { seen = length shown + 1; marks = inside.marks }) b
      (other_byte t inside b (subst (λ (w : List ℕ). inside.seen < length w) (e ∙ s) l)
      (subst (λ (w : List ℕ). get_or w inside.seen 0 ≡ b → ⊥) (e ∙ s) g))
      (let q : length shown ≡ length (literal_start_of t) = ap length (e ∙ s) in omega arith)))

  pub steps_dead : (inside old : Progress) (shown : List ℕ) (b : ℕ) → inside ≡ old → shown ≡ start
      → length shown < inside.seen → (text : List ℕ) → StandsFor t old text
      → StandsFor t old (text ++ b ∷ [])
  steps_dead inside old shown b i e l =
      subst (λ (p : Progress). (text : List ℕ) → StandsFor t p text
      → StandsFor t p (text ++ b ∷ [])) i
      (let q : length shown ≡ length (literal_start_of t) = ap length (e ∙ s) in
      let u : length (literal_start_of t) < inside.seen = omega arith in
      stands_on t inside inside b
      (moves_dead t inside inside b (λ rest. dead_past t inside u (b ∷ rest)) u))

  pub stays_dead : (inside old : Progress) (n b : ℕ) → inside ≡ old → n ≡ length start
      → n < inside.seen → (text : List ℕ) → StandsFor t old text → StandsFor t old (text ++ b ∷ [])
  stays_dead inside old n b i l e = steps_dead inside old start b i refl (omega arith)

  pub stays_behind : (inside old : Progress) (n b : ℕ) → inside ≡ old → n ≡ length start
      → inside.seen ≡ n
      → ((text : List ℕ)
      → (IsBehind machine inside.marks (b ∷ text) → IsBehind machine inside.marks text)
      × (IsBehind machine inside.marks text → IsBehind machine inside.marks (b ∷ text)))
      → (text : List ℕ) → StandsFor t old text → StandsFor t old (text ++ b ∷ [])
  stays_behind inside old n b i l e h =
      subst (λ (p : Progress). (text : List ℕ) → StandsFor t p text
      → StandsFor t p (text ++ b ∷ [])) i
      (stands_on t inside inside b
      (moves_behind t inside inside b (e ∙ l ∙ ap length s) refl
      (subst (λ x. (text : List ℕ)
      → (IsBehind x inside.marks (b ∷ text) → IsBehind x inside.marks text)
      × (IsBehind x inside.marks text → IsBehind x inside.marks (b ∷ text))) m h)))

  pub steps_bare : (inside old : Progress) (shown : List ℕ) (b : ℕ) → inside ≡ old → shown ≡ start
      → inside.seen ≡ length shown → is_bare machine ≡ true → (text : List ℕ) → StandsFor t old text
      → StandsFor t (record { seen = length shown + 1; marks = inside.marks }) (text ++ b ∷ [])
  steps_bare inside old shown b i e l v =
      subst (λ (p : Progress). (text : List ℕ) → StandsFor t p text
      → StandsFor t (record { seen = length shown + 1; marks = inside.marks }) (text ++ b ∷ [])) i
      (let q : length shown ≡ length (literal_start_of t) = ap length (e ∙ s) in
      stands_on t inside (record { seen = length shown + 1; marks = inside.marks }) b
      (moves_dead t inside (record { seen = length shown + 1; marks = inside.marks }) b
      (nothing_behind t inside b (l ∙ q) (subst (λ x. is_bare x ≡ true) m v)) (omega arith)))

  pub steps_behind : (inside old : Progress) (shown new : List ℕ) (b : ℕ) → inside ≡ old
      → shown ≡ start → inside.seen ≡ length shown
      → ((text : List ℕ) → (IsBehind machine inside.marks (b ∷ text) → IsBehind machine new text)
      × (IsBehind machine new text → IsBehind machine inside.marks (b ∷ text))) → (text : List ℕ)
      → StandsFor t old text → StandsFor t (record { seen = inside.seen; marks = new })
      (text ++ b ∷ [])
  steps_behind inside old shown new b i e l h =
      subst (λ (p : Progress). (text : List ℕ) → StandsFor t p text
      → StandsFor t (record { seen = inside.seen; marks = new }) (text ++ b ∷ [])) i
      (stands_on t inside (record { seen = inside.seen; marks = new }) b
      (moves_behind t inside (record { seen = inside.seen; marks = new }) b
      (l ∙ ap length (e ∙ s)) refl
      (subst (λ x. (text : List ℕ) → (IsBehind x inside.marks (b ∷ text) → IsBehind x new text)
      × (IsBehind x new text → IsBehind x inside.marks (b ∷ text))) m h)))
