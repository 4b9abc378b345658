-- Where no place may be entered, a pass leads nowhere.
use Rattle.std.proofs.Common.{◌≡◌, refl, sym, ◌∙◌, ap, ℕ, ◌+◌, Bool, true, false}
use Rattle.std.specs.Prelude.{◌||◌, ◌&&◌}
use Rattle.std.proofs.lemmas.Bool.{or_from}
use Rattle.pattern_syntax.specs.Reading.{positions, factor}
use Rattle.pattern_syntax.specs.Tree.{Tree, Set, Nothing, Both, Either, Repeat}
use Rattle.pattern_match.specs.Passes.{ends_marked, has_no_most, holds_nothing}
use Rattle.pattern_match.specs.Passes.{is_barred, moves_to}
use Rattle.pattern_match.specs.declared.entry.EnteredPlaces.{EnteredPlaces}
use Rattle.pattern_match.specs.declared.entry.EnteredPlaces.TheVariants.{Barred, Free, By, ByEach}
use Rattle.pattern_match.proofs.Turning.{copies_nowhere}

barred_moves : (marked : ℕ → Bool) (place : ℕ) (t : Tree) (entered : Bool) (start : ℕ)
    → moves_to Barred marked place t entered start ≡ false
barred_moves marked place (Set bytes) true start = refl
barred_moves marked place (Set bytes) false start = refl
barred_moves marked place Nothing entered start = refl
barred_moves marked place (Both first second) entered start =
    or_from (moves_to Barred marked place first entered start)
    (moves_to Barred marked place second
    ((entered && holds_nothing first) || ends_marked marked first start)
    (start + positions first))
    (barred_moves marked place first entered start)
    (barred_moves marked place second
    ((entered && holds_nothing first) || ends_marked marked first start)
    (start + positions first))
barred_moves marked place (Either left right) entered start =
    or_from (moves_to Barred marked place left entered start)
    (moves_to Barred marked place right entered (start + positions left))
    (barred_moves marked place left entered start)
    (barred_moves marked place right entered (start + positions left))
barred_moves marked place (Repeat least most piece) entered start =
    copies_nowhere (λ from. ends_marked marked piece from)
    (λ enters from. moves_to Barred marked place piece enters from) (positions piece)
    (has_no_most most) (factor least most) entered start
    (λ l enters from. barred_moves marked place piece enters from)

-- whether a part is entered matters where a place may be
pub entered_alike : (entry : EnteredPlaces) (marked : ℕ → Bool) (place : ℕ) (t : Tree) (start : ℕ)
    (entered other : Bool) → (is_barred entry ≡ false → entered ≡ other)
    → moves_to entry marked place t entered start ≡ moves_to entry marked place t other start
entered_alike Barred marked place t start entered other h =
    barred_moves marked place t entered start ∙ sym (barred_moves marked place t other start)
entered_alike Free marked place t start entered other h =
    ap (λ v. moves_to Free marked place t v start) (h refl)
entered_alike (By b) marked place t start entered other h =
    ap (λ v. moves_to (By b) marked place t v start) (h refl)
entered_alike ByEach marked place t start entered other h =
    ap (λ v. moves_to ByEach marked place t v start) (h refl)
