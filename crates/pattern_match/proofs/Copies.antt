-- The copies of a piece that a repeat stands for, from left to right.
use Rattle.std.proofs.Common.{◌≡◌, refl, sym, ◌∙◌, ap, ℕ, zero, suc, pred, ◌+◌, ◌-◌, ◌<◌, ◌==◌}
use Rattle.std.proofs.Common.{List, [], ◌∷◌, ◌++◌, length, map, Bool, arith, append_assoc}
use Rattle.std.proofs.Common.{length-append}
use Rattle.std.specs.Prelude.{◌||◌}
use Rattle.std.proofs.lemmas.List.{length-map, map-append}
use Rattle.pattern_match.specs.Automaton.{Place, Automaton, moved, followed, up, copies, endless}

pub up_up : (a b : ℕ) (ns : List ℕ) → up a (up b ns) ≡ up (a + b) ns
up_up a b [] = refl
up_up a b (n ∷ ns) =
    let e : n + b + a ≡ n + (a + b) = omega arith in
    let ih : up a (up b ns) ≡ up (a + b) ns = up_up a b ns in rw (e, ih) refl

pub moved_moved : (a b : ℕ) (p : Place) → moved a (moved b p) ≡ moved (a + b) p
moved_moved a b p = let e : up a (up b p.next) ≡ up (a + b) p.next = up_up a b p.next in rw e refl

moved_twice : (a b : ℕ) (ps : List Place) → map (moved a) (map (moved b) ps) ≡ map (moved (a + b))
    ps
moved_twice a b [] = refl
moved_twice a b (p ∷ ps) = let e = moved_moved a b p in let ih = moved_twice a b ps in
    rw (e, ih) refl

-- the places so far, one copy more, and the rest
pub copy_more : (so_far : List Place) (n : ℕ) (one rest whole new : List Place) → length one ≡ n
    → so_far ++ map (moved (length so_far)) (one ++ map (moved n) rest) ≡ whole
    → new ≡ so_far ++ map (moved (length so_far)) one → new ++ map (moved (length new)) rest ≡ whole
copy_more so_far n one rest whole new l e f =
    let m : length new ≡ length so_far + n = ap length f
    ∙ length-append so_far (map (moved (length so_far)) one)
    ∙ ap (λ k. length so_far + k) (length-map one (moved (length so_far)) ∙ l) in
    let t : map (moved (length so_far)) (map (moved n) rest) ≡ map (moved (length so_far + n))
    rest = moved_twice (length so_far) n rest in
    let s : map (moved (length so_far)) (one ++ map (moved n) rest) ≡ map (moved (length so_far))
    one ++ map (moved (length so_far + n)) rest =
    map-append (moved (length so_far)) one (map (moved n) rest)
    ∙ ap (λ ps. map (moved (length so_far)) one ++ ps) t in
    rw (m, f) (append_assoc so_far (map (moved (length so_far)) one)
    (map (moved (length so_far + n)) rest) ∙ ap (λ ps. so_far ++ ps) (sym s) ∙ e)

-- of the copies that are left, the first and the rest
pub copies_left : (least most done : ℕ) (piece : Automaton) → done + 1 < most
    → (copies (least - done) (most - done) piece).places
    ≡ map (followed ((least - (done + 1) == 0) || piece.holds_empty)
    (up (length piece.places) piece.first)) piece.places ++ map (moved (length piece.places))
    (copies (least - (done + 1)) (most - (done + 1)) piece).places
copies_left least most done piece l =
    let p : most - done ≡ suc (suc (most - done - 2)) = omega arith in
    let q : most - (done + 1) ≡ suc (most - done - 2) = omega arith in
    let r : pred (least - done) ≡ least - (done + 1) = omega arith in
    rw (p, q, ← r) refl

endless_first : (k : ℕ) (piece : Automaton) → (endless (suc (suc k)) piece).places
    ≡ map (followed piece.holds_empty (up (length piece.places) piece.first)) piece.places
    ++ map (moved (length piece.places)) (endless (suc k) piece).places
endless_first zero piece = refl
endless_first (suc k) piece = refl

pub endless_left : (least done : ℕ) (piece : Automaton) → done + 1 < least
    → (endless (least - done) piece).places
    ≡ map (followed piece.holds_empty (up (length piece.places) piece.first)) piece.places
    ++ map (moved (length piece.places)) (endless (least - (done + 1)) piece).places
endless_left least done piece l =
    let p : least - done ≡ suc (suc (least - done - 2)) = omega arith in
    let q : least - (done + 1) ≡ suc (least - done - 2) = omega arith in
    rw (p, q) (endless_first (least - done - 2) piece)

pub moved_none : (ps : List Place) → map (moved 0) ps ≡ ps
moved_none [] = refl
moved_none (p ∷ ps) = let e : up 0 p.next ≡ p.next = up_none p.next in let ih = moved_none ps in
    rw (e, ih) refl
  where
    up_none : (ns : List ℕ) → up 0 ns ≡ ns
    up_none [] = refl
    up_none (n ∷ ns) = let a : n + 0 ≡ n = omega arith in let ih : up 0 ns ≡ ns = up_none ns in
        rw (a, ih) refl

none_yet : (so_far ps : List Place) → so_far ≡ [] → so_far ++ map (moved (length so_far)) ps ≡ ps
none_yet so_far ps e = rw e (moved_none ps)

pub copies_start : (least most : ℕ) (piece : Automaton) (so_far : List Place) → so_far ≡ []
    → so_far ++ map (moved (length so_far)) (copies (least - 0) (most - 0) piece).places
    ≡ (copies least most piece).places
copies_start least most piece so_far e =
    let p : least - 0 ≡ least = omega arith in
    let q : most - 0 ≡ most = omega arith in
    rw (p, q) (none_yet so_far (copies least most piece).places e)

pub endless_start : (least : ℕ) (piece : Automaton) (so_far : List Place) → so_far ≡ []
    → so_far ++ map (moved (length so_far)) (endless (least - 0) piece).places
    ≡ (endless least piece).places
endless_start least piece so_far e =
    let p : least - 0 ≡ least = omega arith in
    rw p (none_yet so_far (endless least piece).places e)

pub copies_step : (least most done : ℕ) (piece : Automaton) (so_far new places : List Place)
    (later : List ℕ) (can_stop : Bool) → done + 1 < most → places ≡ piece.places
    → later ≡ up (length piece.places) piece.first
    → can_stop ≡ ((least - (done + 1) == 0) || piece.holds_empty)
    → so_far ++ map (moved (length so_far)) (copies (least - done) (most - done) piece).places
    ≡ (copies least most piece).places → new ≡ so_far ++ map (moved (length so_far))
    (map (followed can_stop later) places)
    → new ++ map (moved (length new)) (copies (least - (done + 1)) (most - (done + 1)) piece).places
    ≡ (copies least most piece).places
copies_step least most done piece so_far new places later can_stop l e f g i n =
    copy_more so_far (length piece.places)
    (map (followed ((least - (done + 1) == 0) || piece.holds_empty)
    (up (length piece.places) piece.first)) piece.places)
    (copies (least - (done + 1)) (most - (done + 1)) piece).places
    (copies least most piece).places new
    (length-map piece.places
    (followed ((least - (done + 1) == 0) || piece.holds_empty)
    (up (length piece.places) piece.first)))
    (ap (λ ps. so_far ++ map (moved (length so_far)) ps) (sym (copies_left least most done piece l))
    ∙ i)
    (n ∙ rw (e, f, g) refl)

pub endless_step : (least done : ℕ) (piece : Automaton) (so_far new places : List Place)
    (later : List ℕ) (holds_empty : Bool) → done + 1 < least → places ≡ piece.places
    → later ≡ up (length piece.places) piece.first → holds_empty ≡ piece.holds_empty
    → so_far ++ map (moved (length so_far)) (endless (least - done) piece).places
    ≡ (endless least piece).places → new ≡ so_far ++ map (moved (length so_far))
    (map (followed holds_empty later) places)
    → new ++ map (moved (length new)) (endless (least - (done + 1)) piece).places
    ≡ (endless least piece).places
endless_step least done piece so_far new places later holds_empty l e f g i n =
    copy_more so_far (length piece.places)
    (map (followed piece.holds_empty (up (length piece.places) piece.first)) piece.places)
    (endless (least - (done + 1)) piece).places (endless least piece).places new
    (length-map piece.places (followed piece.holds_empty (up (length piece.places) piece.first)))
    (ap (λ ps. so_far ++ map (moved (length so_far)) ps) (sym (endless_left least done piece l))
    ∙ i)
    (n ∙ rw (e, f, g) refl)

-- behind no places, places stay what they are
pub behind_none : (ps others : List Place) (by : ℕ) → by ≡ length ps → by ≡ 0
    → others ≡ ps ++ map (moved (length ps)) others
behind_none [] others by e h = sym (moved_none others)
behind_none (p ∷ ps) others by e h = absurd (omega (arith, e, h))
