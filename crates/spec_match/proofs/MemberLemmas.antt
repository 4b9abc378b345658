-- Members, and the words of their marks.
use Rattle.std.proofs.Common.{◌≡◌, ◌∙◌, refl, sym, ap, ap₂, subst, ℕ, zero, suc, ◌+◌, ◌<◌, ◌≤◌}
use Rattle.std.proofs.Common.{Bool, true, List, [], ◌∷◌, ◌++◌, Option, Some, None, length}
use Rattle.std.proofs.Common.{length-drop, length-take, get_or, get_or-take, take, drop, map, arith}
use Rattle.std.specs.Option.{option_eq}
use Rattle.std.proofs.Math.Seq.{drop-append_seam}
use Rattle.std.proofs.lemmas.List.{take-append-le, drop-append-le, take_all, take-append-drop}
use Rattle.std.proofs.lemmas.List.{get_or-drop, map_push}
use Rattle.pattern_match.specs.States.{progress}
use Rattle.spec_match.specs.Alive.{Alive, alive, alive_at, no_alive}
use Rattle.spec_match.specs.Members.{AreLaidOut, alive_in}
use Rattle.spec_match.specs.declared.members.Member.{Member}

pub kept : {X : Type 0} (words more : List X) (start len : ℕ) → start + len ≤ length words
    → take len (drop start (words ++ more)) ≡ take len (drop start words)
kept words more start len h =
    ap (take len) (drop-append-le start words more (omega (arith, h)))
    ∙ take-append-le len (drop start words) more (omega (arith, h, length-drop start words))

laid_end : (end at : ℕ) (ms : List Member) → AreLaidOut end at ms → at ≤ end
laid_end end at [] h = omega (arith, h)
laid_end end at (m ∷ ms) h = omega (arith, laid_end end (at + m.width) ms h.1)

pub laid_within : (end at : ℕ) (ms : List Member) (k : ℕ) (d : Member) → AreLaidOut end at ms
    → k < length ms → (get_or ms k d).start + (get_or ms k d).width ≤ end
laid_within end at [] k d h l = absurd (omega (arith, l))
laid_within end at (m ∷ ms) zero d h l = omega (arith, h.0, laid_end end (at + m.width) ms h.1)
laid_within end at (m ∷ ms) (suc k) d h l =
    laid_within end (at + m.width) ms k d h.1 (omega (arith, l))

pub laid_more : (end at n : ℕ) (ms : List Member) (m : Member) → AreLaidOut end at ms
    → m.start ≡ end → end + m.width ≡ n → AreLaidOut n at (ms ++ m ∷ [])
laid_more end at n [] m h s e = (s ∙ sym h, ap (λ k. k + m.width) h ∙ e)
laid_more end at n (x ∷ ms) m h s e = (h.0, laid_more end (at + x.width) n ms m h.1 s e)

all_kept : (words more : List ℕ) (end at : ℕ) (ms : List Member) → end ≤ length words
    → AreLaidOut end at ms → map (alive_in (words ++ more)) ms ≡ map (alive_in words) ms
all_kept words more end at [] l h = refl
all_kept words more end at (m ∷ ms) l h =
    ap₂ (λ x xs. x ∷ xs)
    (ap (λ marks. alive m.index (progress m.seen marks) m.wants)
    (kept words more m.start m.width (omega (arith, h.0, laid_end end (at + m.width) ms h.1))))
    (all_kept words more end (at + m.width) ms l h.1)

last : (words more : List ℕ) (start len : ℕ) → start ≡ length words → len ≡ length more
    → take len (drop start (words ++ more)) ≡ more
last words more start len e f =
    rw (e, f, drop-append_seam words more) (take_all (length more) more (omega arith))

pub members_more : (words more : List ℕ) (ms : List Member) (m : Member) (index seen : ℕ)
    (wants : Option ℕ) → AreLaidOut (length words) 0 ms → m.index ≡ index → m.seen ≡ seen
    → m.start ≡ length words → m.width ≡ length more → m.wants ≡ wants
    → map (alive_in (words ++ more)) (ms ++ m ∷ []) ≡ map (alive_in words) ms ++ alive index
    (progress seen more) wants ∷ []
members_more words more ms m index seen wants h i s e f w =
    map_push (alive_in (words ++ more)) ms m
    ∙ ap₂ (λ xs x. xs ++ x ∷ []) (all_kept words more (length words) 0 ms (omega arith) h)
    (ap₂ (λ index states. alive index states m.wants) i
    (ap₂ progress s (last words more m.start m.width e f))
    ∙ ap (alive index (progress seen more)) w)

pub laid_cut : (end at : ℕ) (ms : List Member) (n : ℕ) (d : Member) → AreLaidOut end at ms
    → n < length ms → AreLaidOut (get_or ms n d).start at (take n ms)
laid_cut end at [] n d h l = absurd (omega (arith, l))
laid_cut end at (m ∷ ms) zero d h l = sym h.0
laid_cut end at (m ∷ ms) (suc n) d h l =
    (h.0, laid_cut end (at + m.width) ms n d h.1 (omega (arith, l)))

map_take : {X Y : Type 0} (f : X → Y) (n : ℕ) (xs : List X) → map f (take n xs) ≡ take n (map f xs)
map_take f zero xs = refl
map_take f (suc n) [] = refl
map_take f (suc n) (x ∷ xs) = ap (λ ys. f x ∷ ys) (map_take f n xs)

all_cut : (words : List ℕ) (end at : ℕ) (ms : List Member) → end ≤ length words
    → AreLaidOut end at ms → map (alive_in (take end words)) ms ≡ map (alive_in words) ms
all_cut words end at ms l h =
    sym (all_kept (take end words) (drop end words) end at ms
    (omega (arith, l, length-take end words)) h)
    ∙ ap (λ ws. map (alive_in ws) ms) (take-append-drop end words)

pub members_cut : (words : List ℕ) (ms : List Member) (n : ℕ) (d : Member)
    → AreLaidOut (length words) 0 ms → n < length ms
    → map (alive_in (take (get_or ms n d).start words)) (take n ms)
    ≡ take n (map (alive_in words) ms)
members_cut words ms n d h l =
    all_cut words (get_or ms n d).start 0 (take n ms)
    (omega (arith, laid_within (length words) 0 ms n d h l))
    (laid_cut (length words) 0 ms n d h l)
    ∙ map_take (alive_in words) n ms

pub length_cut : (words : List ℕ) (ms : List Member) (n : ℕ) (d : Member)
    → AreLaidOut (length words) 0 ms → n < length ms
    → AreLaidOut (length (take (get_or ms n d).start words)) 0 (take n ms)
length_cut words ms n d h l =
    let e : (get_or ms n d).start ≡ length (take (get_or ms n d).start words) =
    omega (
      arith,
      laid_within (length words) 0 ms n d h l,
      length-take (get_or ms n d).start
          words,
    ) in
    subst (λ k. AreLaidOut k 0 (take n ms)) e (laid_cut (length words) 0 ms n d h l)

-- so many members from two places on that are the same are so one by one
pub same_at : (ms : List Alive) (a b n k : ℕ) → take n (drop a ms) ≡ take n (drop b ms) → k < n
    → alive_at ms (a + k) ≡ alive_at ms (b + k)
same_at ms a b n k e l =
    sym (place_at a) ∙ ap (λ list. alive_at list k) e ∙ place_at b
  where
    place_at : (at : ℕ) → alive_at (take n (drop at ms)) k ≡ alive_at ms (at + k)
    place_at at = get_or-take n (drop at ms) k no_alive l ∙ get_or-drop at ms k no_alive

pub same_option : (E : ℕ → ℕ → Bool) → ((n : ℕ) → E n n ≡ true) → (p q : Option ℕ) → p ≡ q
    → option_eq E p q ≡ true
same_option E r p q e = subst (λ o. option_eq E p o ≡ true) e (at p)
  where
    at : (o : Option ℕ) → option_eq E o o ≡ true
    at None = refl
    at (Some n) = r n
