-- The position automaton of a pattern (Glushkov's): its states are the byte sets of the pattern,
-- repeats written out.
use Rattle.std.specs.Prelude.{ℕ, zero, suc, pred, ◌+◌, Bool, true, false, ◌||◌, ◌&&◌, ◌==◌, List}
use Rattle.std.specs.Prelude.{[], ◌∷◌, ◌++◌, map, length, Option, Some, None, if◌then◌else◌}
use Rattle.pattern_syntax.specs.Tree.{Tree, Set, Nothing, Both, Either, Repeat}
use Rattle.pattern_match.specs.Residuals.{is_some_list, is_count}

-- a byte set, whether a text may end behind it, and the numbers of the sets that may take the next
-- byte
pub record Place : Type 0 where
  pub bytes : List ℕ
  pub is_last : Bool
  pub next : List ℕ

-- the places in order, the numbers of those that may take a first byte, whether the empty text is
-- held, whether any text is
pub record Automaton : Type 0 where
  pub places : List Place
  pub first : List ℕ
  pub holds_empty : Bool
  pub is_live : Bool

-- without a place: the empty text alone, or none
abbrev pub bare : Bool → Automaton
bare holds_empty = record {
  places = [];
  first = [];
  holds_empty = holds_empty;
  is_live = holds_empty;
}

abbrev pub single_place : List ℕ → Automaton
single_place [] = bare false
single_place (b ∷ bs) = record {
  places = record { bytes = b ∷ bs; is_last = true; next = [] } ∷ [];
  first = 0 ∷ [];
  holds_empty = false;
  is_live = true;
}

abbrev pub up : ℕ → List ℕ → List ℕ
up by numbers = map (λ n. n + by) numbers

-- a place behind so many others
abbrev pub moved : ℕ → Place → Place
moved by place = record { bytes = place.bytes; is_last = place.is_last; next = up by place.next }

abbrev pub same_numbers : List ℕ → List ℕ → Bool
same_numbers [] [] = true
same_numbers [] (n ∷ ns) = false
same_numbers (m ∷ ms) [] = false
same_numbers (m ∷ ms) (n ∷ ns) = (m == n) && same_numbers ms ns

-- numbers that follow and others; a loop around a loop adds nothing
abbrev pub added : List ℕ → List ℕ → List ℕ
added next first = if same_numbers next first then next else next ++ first

-- a place where another part follows, with its first places
abbrev pub followed : Bool → List ℕ → Place → Place
followed holds_empty first place = record {
  bytes = place.bytes;
  is_last = place.is_last && holds_empty;
  next = if place.is_last then added place.next first else place.next;
}

-- the places of one part and then of another, which follows it
abbrev pub in_turn : Automaton → Automaton → List Place
in_turn a b =
    map (followed b.holds_empty (up (length a.places) b.first)) a.places
    ++ map (moved (length a.places)) b.places

abbrev pub both_live : Automaton → Automaton → Automaton
both_live a b = record {
  places = in_turn a b;
  first = if a.holds_empty then a.first ++ up (length a.places) b.first else a.first;
  holds_empty = a.holds_empty && b.holds_empty;
  is_live = true;
}

abbrev pub both : Automaton → Automaton → Automaton
both a b = if a.is_live && b.is_live then both_live a b else bare false

abbrev pub either_automaton : Automaton → Automaton → Automaton
either_automaton a b = record {
  places = a.places ++ map (moved (length a.places)) b.places;
  first = a.first ++ up (length a.places) b.first;
  holds_empty = a.holds_empty || b.holds_empty;
  is_live = a.is_live || b.is_live;
}

-- one copy of the piece, and then the rest of the copies
abbrev pub copy_before : Bool → Automaton → Automaton → Automaton
copy_before holds_empty piece rest = record {
  places = in_turn piece rest;
  first = piece.first;
  holds_empty = holds_empty;
  is_live = true;
}

-- the piece as often as one likes
abbrev pub looped : Bool → Automaton → Automaton
looped holds_empty piece = record {
  places = map (followed true piece.first) piece.places;
  first = piece.first;
  holds_empty = holds_empty;
  is_live = true;
}

abbrev pub copies : ℕ → ℕ → Automaton → Automaton
copies least zero piece = bare true
copies least (suc most) piece =
    copy_before ((least == 0) || piece.holds_empty) piece (copies (pred least) most piece)

abbrev pub endless : ℕ → Automaton → Automaton
endless zero piece = looped true piece
endless (suc zero) piece = looped piece.holds_empty piece
endless (suc (suc least)) piece = copy_before piece.holds_empty piece (endless (suc least) piece)

abbrev pub repeat_places : ℕ → Option ℕ → Automaton → Automaton
repeat_places least None piece = endless least piece
repeat_places least (Some most) piece = copies least most piece

abbrev pub repeated_automaton : ℕ → Option ℕ → Automaton → Automaton
repeated_automaton least most piece =
    if is_count least most then
    (if is_some_list piece.places
    then repeat_places least most piece
    else bare ((least == 0) || piece.holds_empty))
    else bare false

unfoldable pub automaton : Tree → Automaton
automaton (Set bytes) = single_place bytes
automaton Nothing = bare true
automaton (Both first second) = both (automaton first) (automaton second)
automaton (Either left right) = either_automaton (automaton left) (automaton right)
automaton (Repeat least most piece) = repeated_automaton least most (automaton piece)

-- the places with one at the end that stands before the first byte; the byte 0 leads there, which
-- is in no text
abbrev pub all_places : Automaton → List Place
all_places a =
    if a.is_live
    then a.places ++ record { bytes = 0 ∷ []; is_last = a.holds_empty; next = a.first } ∷ []
    else []
