-- Lists of the specifications that are alive, some bytes on.
use Rattle.std.proofs.Common.{◌≡◌, ◌∙◌, refl, sym, ap, subst, ℕ, zero, suc, ◌+◌, ◌<◌, ◌≤◌, ◌⊎◌, inl}
use Rattle.std.proofs.Common.{inr, Bool, true, false, List, [], ◌∷◌, ◌++◌, Some, length, map}
use Rattle.std.proofs.Common.{slice_get, get_or, take, drop, append_assoc, append-nil, length-drop}
use Rattle.std.proofs.Common.{arith}
use Rattle.std.proofs.lemmas.Bool.{cases_lt}
use Rattle.std.proofs.lemmas.List.Elements.{All-push}
use Rattle.std.proofs.lemmas.Option.{get_or_from_slice_get, slice_get_within}
use Rattle.std.proofs.Math.ListN.{get_or-append}
use Rattle.std.proofs.lemmas.List.{get_or-drop, take_more, take-append-drop}
use Rattle.pattern_match.proofs.Reading.{less_opens}
use Rattle.std.specs.List.{All}
use Rattle.pattern_match.specs.States.{AreStatesOf, Progress, StandsFor}
use Rattle.pattern_syntax.specs.Language.{In, Opens}
use Rattle.pattern_syntax.specs.Literal.{literal_start_of}
use Rattle.pattern_syntax.specs.Tree.{Tree}
use Rattle.spec_match.specs.Alive.{Alive, AreAlive, AreAliveFrom, IsOwn, NoneAlive, WantsOther}
use Rattle.spec_match.specs.Alive.{alive, alive_at, pattern_at, wanted_byte}
use Rattle.spec_match.specs.Listed.{Covers, IsListed}
use Rattle.spec_match.specs.StatesFor.{patterns_of, spec_in}
use Rattle.spec_match.specs.Stepping.{GoesOn, IsDropped, IsStepWritten}
use Rattle.spec_match.specs.declared.compiled_spec.CompiledSpec.{CompiledSpec}
use Rattle.spec_reader.specs.SpecValue.{SpecValue}

pub none_more : (ps : List Tree) (text more : List ℕ) (from below : ℕ)
    → NoneAlive ps text from below → NoneAlive ps (text ++ more) from below
none_more ps text more from below h i l m o = h i l m (less_opens (pattern_at ps i) text more o)

joined : (ps : List Tree) (text : List ℕ) (from low high : ℕ) → NoneAlive ps text from low
    → NoneAlive ps text low high → NoneAlive ps text from high
joined ps text from low high a b i l m o = elim (cases_lt i low) [
  | inl below ↦ a i l below o
  | inr above ↦ b i (omega (arith, above)) m o
]

widened : (ps : List Tree) (text : List ℕ) (floor low high : ℕ) (list : List Alive) → low ≤ high
    → NoneAlive ps text low high → AreAliveFrom ps text floor low list
    → AreAliveFrom ps text floor high list
widened ps text floor low high [] l n h = joined ps text floor low high h n
widened ps text floor low high (one ∷ list) l n h =
    (omega (arith, h.0, l), joined ps text (one.index + 1) low high h.1 n, h.2, h.3)

-- below which index the members behind so many of a list are
abbrev pub bound_at : ℕ → List Alive → ℕ → ℕ
bound_at bound list zero = bound
bound_at bound [] (suc k) = bound
bound_at bound (one ∷ list) (suc k) = bound_at one.index list k

pub bound_next : (bound : ℕ) (list : List Alive) (k : ℕ) → k < length list
    → bound_at bound list (suc k) ≡ (alive_at list k).index
bound_next bound [] k l = absurd (omega (arith, l))
bound_next bound (one ∷ list) zero l = refl
bound_next bound (one ∷ list) (suc k) l = bound_next one.index list k (omega (arith, l))

pub rest_alive : (ps : List Tree) (text : List ℕ) (floor bound : ℕ) (list : List Alive) (k : ℕ)
    → AreAliveFrom ps text floor bound list → AreAliveFrom ps text floor (bound_at bound list k)
    (drop k list)
rest_alive ps text floor bound list zero h = h
rest_alive ps text floor bound [] (suc k) h = h
rest_alive ps text floor bound (one ∷ list) (suc k) h =
    rest_alive ps text floor one.index list k h.3

-- what is known of a member
pub record IsMember (ps : List Tree) (text : List ℕ) (bound : ℕ) (one : Alive) : Type 0 where
  pub below : one.index < bound
  pub none : NoneAlive ps text (one.index + 1) bound
  pub stands : StandsFor (pattern_at ps one.index) one.states text

pub member_at : (ps : List Tree) (text : List ℕ) (floor bound : ℕ) (list : List Alive) (k : ℕ)
    → k < length list → AreAliveFrom ps text floor bound list
    → IsMember ps text (bound_at bound list k) (alive_at list k)
member_at ps text floor bound [] k l h = absurd (omega (arith, l))
member_at ps text floor bound (one ∷ list) zero l h =
    record { below = h.0; none = h.1; stands = h.2 }
member_at ps text floor bound (one ∷ list) (suc k) l h =
    member_at ps text floor one.index list k (omega (arith, l)) h.3

pub none_left : (ps : List Tree) (text : List ℕ) (floor bound : ℕ) (list : List Alive) (k : ℕ)
    → length list ≤ k → AreAliveFrom ps text floor bound list
    → NoneAlive ps text floor (bound_at bound list k)
none_left ps text floor bound list k l h =
    subst (λ rest. AreAliveFrom ps text floor (bound_at bound list k) rest) (past list k l)
    (rest_alive ps text floor bound list k h)
  where
    past : (list : List Alive) (k : ℕ) → length list ≤ k → drop k list ≡ []
    past [] zero l = refl
    past [] (suc k) l = refl
    past (one ∷ list) zero l = absurd (omega (arith, l))
    past (one ∷ list) (suc k) l = past list k (omega (arith, l))

-- so many members were stepped: what is written, and whatever is right for the rest down to some
-- floor, is right behind the bytes
pub record IsStepped (ps : List Tree) (tail : List ℕ) (list draft : List Alive) (k : ℕ) : Type 0
  where
    pub own : All (IsOwn ps) draft
    pub so_far : (text : List ℕ) (old new : ℕ) → AreAliveFrom ps text old (length ps) list
        → (rest : List Alive)
        → AreAliveFrom ps (text ++ tail) new (bound_at (length ps) list k) rest
        → AreAliveFrom ps (text ++ tail) new (length ps) (draft ++ rest)

from_or_past : (i n : ℕ) → n ≤ i → (i ≡ n) ⊎ (n + 1 ≤ i)
from_or_past i n l =
    elim (cases_lt n i)
    [ inl past ↦ inr (omega (arith, past)) | inr here ↦ inl (omega (arith, here, l)) ]

-- of those from a dead one on, none is alive
none_from : (ps : List Tree) (text : List ℕ) (n below : ℕ) → (Opens (pattern_at ps n) text → ⊥)
    → NoneAlive ps text (n + 1) below → NoneAlive ps text n below
none_from ps text n below d h i l m o = elim (from_or_past i n l) [
  | inl here ↦ d (subst (λ j. Opens (pattern_at ps j) text) here o)
  | inr past ↦ h i past m o
]

dropped_on : (ps : List Tree) (pattern : Tree) (tail : List ℕ) (list old new : List Alive) (k : ℕ)
    → k < length list → pattern ≡ pattern_at ps (alive_at list k).index
    → IsDropped pattern tail (alive_at list k) old new → IsStepped ps tail list old k
    → IsStepped ps tail list new (suc k)
dropped_on ps pattern tail list old new k l e d s = record {
  own = subst (All (IsOwn ps)) (sym d.same) s.own;
  so_far = λ text f g a rest r.
      let one = alive_at list k in
      let m = member_at ps text f (length ps) list k l a in
      let dead : Opens (pattern_at ps one.index) (text ++ tail) → ⊥ =
      subst (λ t. Opens t (text ++ tail) → ⊥) e
      (d.dead text (subst (λ t. StandsFor t one.states text) (sym e) m.stands)) in
      let none = none_from ps (text ++ tail) one.index (bound_at (length ps) list k) dead
      (none_more ps text tail (one.index + 1) (bound_at (length ps) list k) m.none) in
      let behind = subst (λ n. AreAliveFrom ps (text ++ tail) g n rest)
      (bound_next (length ps) list k l) r in
      subst (λ w. AreAliveFrom ps (text ++ tail) g (length ps) (w ++ rest)) (sym d.same)
      (s.so_far text f g a rest (widened ps (text ++ tail) g one.index (bound_at (length ps) list k)
      rest (omega (arith, m.below)) none behind));
}

written_on : (ps : List Tree) (pattern : Tree) (tail : List ℕ) (list old new : List Alive) (k : ℕ)
    → k < length list → pattern ≡ pattern_at ps (alive_at list k).index → IsOwn ps (alive_at list k)
    → IsStepWritten pattern tail (alive_at list k) old new → IsStepped ps tail list old k
    → IsStepped ps tail list new (suc k)
written_on ps pattern tail list old new k l e o d s =
    let one = alive_at list k in
    let next = alive one.index d.states (wanted_byte pattern d.states) in
    let own : IsOwn ps next =
    record {
      within = o.within;
      made = subst (λ t. AreStatesOf t d.states) e d.made;
      wants = ap
          (λ t. wanted_byte t d.states) e;
    } in record {
      own = subst (All (IsOwn ps)) (sym d.more) (All-push (IsOwn ps) old next s.own own);
      so_far = λ text f g a rest r.
          let m = member_at ps text f (length ps) list k l a in
          let stands : StandsFor (pattern_at ps one.index) d.states (text ++ tail) =
          subst (λ t. StandsFor t d.states (text ++ tail)) e
          (d.stands text (subst (λ t. StandsFor t one.states text) (sym e) m.stands)) in
          let behind = subst (λ n. AreAliveFrom ps (text ++ tail) g n rest)
          (bound_next (length ps) list k l) r in
          let all : AreAliveFrom ps (text ++ tail) g (length ps) (old ++ next ∷ rest) =
          s.so_far text f g a (next ∷ rest) (
            m.below,
            none_more ps text tail (one.index + 1) (bound_at (length ps) list k) m.none,
            stands,
            behind,
          ) in
          subst (λ w. AreAliveFrom ps (text ++ tail) g (length ps) w)
          (sym (append_assoc old (next ∷ []) rest) ∙ ap (λ w. w ++ rest) (sym d.more)) all;
    }

pub stepped_on : (ps : List Tree) (pattern : Tree) (tail : List ℕ) (list old new : List Alive)
    (k : ℕ) → k < length list → pattern ≡ pattern_at ps (alive_at list k).index
    → IsOwn ps (alive_at list k) → GoesOn pattern tail (alive_at list k) old new
    → IsStepped ps tail list old k → IsStepped ps tail list new (suc k)
stepped_on ps pattern tail list old new k l e o (inl d) s =
    dropped_on ps pattern tail list old new k l e d s
stepped_on ps pattern tail list old new k l e o (inr d) s =
    written_on ps pattern tail list old new k l e o d s

pub all_stepped : (ps : List Tree) (tail : List ℕ) (list draft : List Alive) (k : ℕ)
    → length list ≤ k → IsStepped ps tail list draft k
    → (text : List ℕ) (floor : ℕ) → AreAliveFrom ps text floor (length ps) list
    → AreAliveFrom ps (text ++ tail) floor (length ps) draft
all_stepped ps tail list draft k l s text floor a =
    subst (λ w. AreAliveFrom ps (text ++ tail) floor (length ps) w) (append-nil draft)
    (s.so_far text floor floor a []
    (none_more ps text tail floor (bound_at (length ps) list k)
    (none_left ps text floor (length ps) list k l a)))

-- what is written is all from the member on that was stepped last
pub stepped_to : (ps : List Tree) (tail : List ℕ) (list draft : List Alive) (k : ℕ)
    → k < length list → IsStepped ps tail list draft (suc k)
    → (text : List ℕ) (floor : ℕ) → AreAliveFrom ps text floor (length ps) list
    → AreAliveFrom ps (text ++ tail) (alive_at list k).index (length ps) draft
stepped_to ps tail list draft k l s text floor a =
    let i = (alive_at list k).index in
    let none : NoneAlive ps (text ++ tail) i i = λ j a b. absurd (omega (arith, a, b)) in
    subst (λ w. AreAliveFrom ps (text ++ tail) i (length ps) w) (append-nil draft)
    (s.so_far text floor i a []
    (subst (λ n. NoneAlive ps (text ++ tail) i n) (sym (bound_next (length ps) list k l)) none))

-- the specifications from one on are written, before the first byte
pub record IsStarted (ps : List Tree) (draft : List Alive) (left : ℕ) : Type 0 where
  pub own : All (IsOwn ps) draft
  pub so_far : (rest : List Alive) → AreAlive ps [] left rest
      → AreAlive ps [] (length ps) (draft ++ rest)

pub started_on : (ps : List Tree) (pattern : Tree) (states : Progress) (old new : List Alive)
    (i left : ℕ) → i + 1 ≡ left → i < length ps → pattern ≡ pattern_at ps i
    → AreStatesOf pattern states → StandsFor pattern states []
    → new ≡ old ++ alive i states (wanted_byte pattern states) ∷ [] → IsStarted ps old left
    → IsStarted ps new i
started_on ps pattern states old new i left n l e made stands more s =
    let one = alive i states (wanted_byte pattern states) in
    let own : IsOwn ps one =
    record {
      within = l;
      made = subst (λ t. AreStatesOf t states) e made;
      wants = ap
          (λ t. wanted_byte t states) e;
    } in record {
      own = subst (All (IsOwn ps)) (sym more) (All-push (IsOwn ps) old one s.own own);
      so_far = λ rest r.
          let all : AreAlive ps [] (length ps) (old ++ one ∷ rest) =
          s.so_far (one ∷ rest) (
            omega (arith, n),
            (λ j a b. absurd (omega (arith, n, a, b))),
            subst
                (λ t. StandsFor t states []) e stands,
            r,
          ) in
          subst (λ w. AreAlive ps [] (length ps) w) (sym (append_assoc old (one ∷ []) rest)
          ∙ ap (λ w. w ++ rest) (sym more)) all;
    }

pub all_started : (ps : List Tree) (draft : List Alive) (left : ℕ) → left ≤ 0
    → IsStarted ps draft left → AreAlive ps [] (length ps) draft
all_started ps draft left l s =
    subst (λ w. AreAlive ps [] (length ps) w) (append-nil draft)
    (s.so_far [] (λ j a b. absurd (omega (arith, a, b, l))))

-- a list that has all is one that may be cut
pub listed_whole : (cuts : Bool) (ps : List Tree) (specs : List SpecValue) (text : List ℕ)
    (list : List Alive) → AreAlive ps text (length ps) list → IsListed cuts ps specs text list
listed_whole cuts ps specs text list h = record { floor = 0; is_floor = inl refl; alive = h }

-- a list is for some bytes of a text, and then for one more
pub read_more : (IsFor : List ℕ → List Alive → Type 0) (text : List ℕ) (i : ℕ) (list : List Alive)
    → i < length text → IsFor (take i text ++ get_or text i 0 ∷ []) list
    → IsFor (take (i + 1) text) list
read_more IsFor text i list l h = subst (λ w. IsFor w list) (sym (take_more text i 0 l)) h

-- the patterns of rules are those of their specifications
pub pattern_of_spec : (rules : List CompiledSpec) (j : ℕ) (spec : SpecValue)
    → slice_get (map spec_in rules) j ≡ Some spec → pattern_at (patterns_of rules) j ≡ spec.pattern
pattern_of_spec [] j spec e = cc
pattern_of_spec (r ∷ rules) zero spec e = let same : spec_in r ≡ spec = cc in
    ap (λ (s : SpecValue). s.pattern) same
pattern_of_spec (r ∷ rules) (suc j) spec e = pattern_of_spec rules j spec e

-- a specification that covers a text is alive behind it
pub covers_opens : (ps : List Tree) (specs : List SpecValue) (text : List ℕ) (i : ℕ)
    → ((j : ℕ) (spec : SpecValue) → slice_get specs j ≡ Some spec → pattern_at ps j ≡ spec.pattern)
    → Covers specs text i → Opens (pattern_at ps i) text
covers_opens ps specs text i same c = subst (λ t. Opens t text) (sym (same i c.spec c.found))
    ([], c.holds [] tt)

-- states that stand for a front of a text stand for it by a byte more
pub read_stands : (t : Tree) (states : Progress) (front text : List ℕ) (i : ℕ) → i < length text
    → StandsFor t states ((front ++ take i text) ++ get_or text i 0 ∷ [])
    → StandsFor t states (front ++ take (i + 1) text)
read_stands t states front text i l s =
    subst (StandsFor t states) (append_assoc front (take i text) (get_or text i 0 ∷ [])
    ∙ ap (λ w. front ++ w) (sym (take_more text i 0 l))) s

-- where no text of a language begins with a front and some bytes of the text behind it, none begins
-- with front and text
pub read_dead : (t : Tree) (states : Progress) (front text : List ℕ) (i b : ℕ) (v : Bool)
    → i < length text → b ≡ get_or text i 0 → v ≡ false
    → ((x : List ℕ) → StandsFor t states x → Opens t x → v ≡ true)
    → StandsFor t states ((front ++ take i text) ++ b ∷ []) → Opens t (front ++ text) → ⊥
read_dead t states front text i b v l e f alive s o =
    let read : (front ++ take i text) ++ b ∷ [] ≡ front ++ take (i + 1) text =
    append_assoc front (take i text) (b ∷ [])
    ∙ ap (λ w. front ++ w) (ap (λ c. take i text ++ c ∷ []) e ∙ sym (take_more text i 0 l)) in
    let whole : front ++ text ≡ ((front ++ take i text) ++ b ∷ []) ++ drop (i + 1) text =
    ap (λ w. front ++ w) (sym (take-append-drop (i + 1) text))
    ∙ sym (append_assoc front (take (i + 1) text) (drop (i + 1) text))
    ∙ ap (λ w. w ++ drop (i + 1) text) (sym read) in
    let u : true ≡ false =
    sym (alive ((front ++ take i text) ++ b ∷ []) s
    (less_opens t ((front ++ take i text) ++ b ∷ []) (drop (i + 1) text)
    (subst (λ w. Opens t w) whole o))) ∙ f in
    cc

-- where another byte than the literal start's next one follows, no text of the language begins so
pub other_byte : (t : Tree) (one : Alive) (b : ℕ) → one.wants ≡ wanted_byte t one.states
    → WantsOther one b
    → (text : List ℕ) → StandsFor t one.states text → Opens t (text ++ b ∷ []) → ⊥
other_byte t one b e (next, found, other) text s o =
    let start = literal_start_of t in
    let seen = one.states.seen in
    let here : slice_get start seen ≡ Some next = sym e ∙ found in
    let left = s.onto (b ∷ o.0) (subst (In t) (append_assoc text (b ∷ []) o.0) o.1) in
    let some : 0 < length (drop seen start) =
    omega (arith, slice_get_within start seen next here, length-drop seen start) in
    let head : b ≡ get_or start seen 0 =
    ap (λ w. get_or w 0 0) left.2
    ∙ get_or-append (drop seen start) left.1 0 0 some
    ∙ get_or-drop seen start 0 0
    ∙ ap (λ k. get_or start k 0) (omega arith) in
    other (sym (head ∙ get_or_from_slice_get start seen next 0 here))
