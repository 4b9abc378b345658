-- Going over the places of a pattern in the order of its text: a part of the pattern is entered or
-- isn't, some of its places are marked, and what follows are the places that are entered or that a
-- marked one leads to. The places of a part are counted from a start on, and repeats are written
-- out.
use Rattle.std.specs.Prelude.{ℕ, zero, suc, pred, ◌+◌, Bool, true, false, ◌||◌, ◌&&◌, ◌==◌, List}
use Rattle.std.specs.Prelude.{Option, Some, None, nat_le, nat_lt}
use Rattle.std.specs.List.{list_any, list_all}
use Rattle.pattern_syntax.specs.ByteSet.{text_bytes}
use Rattle.pattern_syntax.specs.Reading.{positions, factor}
use Rattle.pattern_syntax.specs.Tree.{Tree, Set, Nothing, Both, Either, Repeat}
use Rattle.pattern_match.specs.Residuals.{is_some_list}
use Rattle.pattern_match.specs.declared.entry.EnteredPlaces.{EnteredPlaces}
use Rattle.pattern_match.specs.declared.entry.EnteredPlaces.TheVariants.{Barred, Free, By, ByEach}

-- each set has a byte, and each repeat a number of times that isn't none
abbrev pub is_plain : Tree → Bool
is_plain (Set bytes) = is_some_list bytes
is_plain Nothing = true
is_plain (Both first second) = is_plain first && is_plain second
is_plain (Either left right) = is_plain left && is_plain right
is_plain (Repeat least None piece) = is_plain piece
is_plain (Repeat least (Some most) piece) = nat_le least most && (nat_lt 0 most && is_plain piece)

-- the empty text is held
abbrev pub holds_nothing : Tree → Bool
holds_nothing (Set bytes) = false
holds_nothing Nothing = true
holds_nothing (Both first second) = holds_nothing first && holds_nothing second
holds_nothing (Either left right) = holds_nothing left || holds_nothing right
holds_nothing (Repeat least most piece) = (least == 0) || holds_nothing piece

-- every byte that texts have passes
unfoldable pub has_each_byte : (ℕ → Bool) → Bool
has_each_byte test = list_all test text_bytes

-- no place may be entered
abbrev pub is_barred : EnteredPlaces → Bool
is_barred Barred = true
is_barred Free = false
is_barred (By b) = false
is_barred ByEach = false

-- a place of these bytes may be entered
abbrev pub may_enter : EnteredPlaces → List ℕ → Bool
may_enter Barred bytes = false
may_enter Free bytes = true
may_enter (By b) bytes = list_any (λ c. c == b) bytes
may_enter ByEach bytes = has_each_byte (λ b. list_any (λ c. c == b) bytes)

abbrev pub has_no_most : Option ℕ → Bool
has_no_most None = true
has_no_most (Some most) = false

-- how many of the copies that are written out have to be gone through
abbrev pub copies_needed : ℕ → Option ℕ → ℕ
copies_needed least None = factor least None
copies_needed least (Some most) = least

-- of so many copies from a start on, a marked place ends one behind which no other is needed, or
-- each other may hold nothing
abbrev pub copies_end : (ends : ℕ → Bool) (size : ℕ) (nothing : Bool) (least copies start : ℕ)
    → Bool
copies_end ends size nothing least zero start = false
copies_end ends size nothing least (suc copies) start =
    (((pred least == 0) || nothing) && ends start)
    || copies_end ends size nothing (pred least) copies (start + size)

-- some marked place of the part ends it
abbrev pub ends_marked : (ℕ → Bool) → Tree → (start : ℕ) → Bool
ends_marked marked (Set bytes) start = marked start
ends_marked marked Nothing start = false
ends_marked marked (Both first second) start =
    ends_marked marked second (start + positions first)
    || (holds_nothing second && ends_marked marked first start)
ends_marked marked (Either left right) start =
    ends_marked marked left start || ends_marked marked right (start + positions left)
ends_marked marked (Repeat least most piece) start =
    copies_end (λ from. ends_marked marked piece from) (positions piece) (holds_nothing piece)
    (copies_needed least most) (factor least most) start

-- of so many copies from a start on, the first may be entered, each other one is where a marked
-- place ends the one before it, and the last of an endless repeat where one ends it itself
abbrev pub copies_move : (ends : ℕ → Bool) (moves : Bool → ℕ → Bool) (size : ℕ) (endless : Bool)
    (copies : ℕ) (entered : Bool) (start : ℕ) → Bool
copies_move ends moves size endless zero entered start = false
copies_move ends moves size endless (suc copies) entered start =
    moves (entered || ((endless && (copies == 0)) && ends start)) start
    || copies_move ends moves size endless copies (ends start) (start + size)

-- the part leads to the place of this number: it may be entered, and is a first one of the part,
-- which is entered, or follows a marked one
abbrev pub moves_to : EnteredPlaces → (ℕ → Bool) → (place : ℕ) → Tree → (entered : Bool)
    → (start : ℕ)
    → Bool
moves_to entry marked place (Set bytes) entered start =
    (entered && may_enter entry bytes) && (place == start)
moves_to entry marked place Nothing entered start = false
moves_to entry marked place (Both first second) entered start =
    moves_to entry marked place first entered start
    || moves_to entry marked place second
    ((entered && holds_nothing first) || ends_marked marked first start) (start + positions first)
moves_to entry marked place (Either left right) entered start =
    moves_to entry marked place left entered start
    || moves_to entry marked place right entered (start + positions left)
moves_to entry marked place (Repeat least most piece) entered start =
    copies_move (λ from. ends_marked marked piece from)
    (λ enters from. moves_to entry marked place piece enters from) (positions piece)
    (has_no_most most) (factor least most) entered start
