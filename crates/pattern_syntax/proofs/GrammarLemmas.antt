-- What is read without a fault is what the grammar says, and the grammar gives one tree.
use Rattle.std.proofs.Common.{◌≡◌, ◌∙◌, sym, refl, ap, subst, ℕ, suc, ◌==◌, leb, ◌⊎◌, inl, inr}
use Rattle.std.proofs.Common.{Bool, true, false, cond, List, [], ◌∷◌, ◌++◌, length, map}
use Rattle.std.proofs.Common.{append_assoc, append-nil}
use Rattle.std.specs.Prelude.{Option, Some, None, Result, Ok, Err, is_some, fold}
use Rattle.pattern_syntax.specs.Tree.{Tree, Set, Nothing, Both, Either, Repeat}
use Rattle.pattern_syntax.specs.Tokens.{Token, Bytes, Open, Close, Bar, Anchor, Times, PlacedToken}
use Rattle.pattern_syntax.specs.Reading.{Reading, Level, new_level, new_reading, sequence_of}
use Rattle.pattern_syntax.specs.Reading.{sides_of, with_last, with_side, with_piece, with_bar}
use Rattle.pattern_syntax.specs.Reading.{with_repeat, settled, after_token, after_placed}
use Rattle.pattern_syntax.specs.Reading.{tree_after, first_fault, first_fault_of, structure_fault}
use Rattle.pattern_syntax.specs.Reading.{depth_behind, ends_piece, refused_at}
use Rattle.pattern_syntax.specs.Grammar.{Part, Item, Piece, Sequence, Choice, Spells, set, group}
use Rattle.pattern_syntax.specs.Grammar.{once, times, empty, more, anchored, only, or, cut_of}
use Rattle.pattern_syntax.specs.declared.refusal.Refusal.{Refusal}
use Rattle.pattern_syntax.specs.declared.refusal.Refusal.TheVariants as refusals
use Rattle.pattern_syntax.specs.declared.pattern_fault.PatternWhy.{PatternWhy}
use Rattle.pattern_syntax.specs.declared.pattern_fault.PatternWhy.TheVariants.{Syntax}
use Rattle.pattern_syntax.specs.declared.pattern_fault.PatternWhy.TheVariants.{UnsupportedPattern}
use Rattle.pattern_syntax.specs.declared.pattern_fault.PatternWhy.TheVariants.{TooDeep}
use Rattle.pattern_syntax.specs.declared.pattern_fault.PatternWhy.TheVariants.{TooManyPositions}
use Rattle.pattern_syntax.proofs.ReadingLemmas.{behind_is, no_zero}
use Rattle.pattern_syntax.specs.declared.limits.TheConstants.{MOST_GROUPS}

-- ---- from what is read to the grammar

abbrev pub SpellsSides : List Token → Option Tree → Type 0
SpellsSides ts None = ts ≡ []
SpellsSides ts (Some sides) = (front : List Token) × (ts ≡ front ++ Bar ∷ [])
    × Spells Choice front sides

abbrev pub SpellsItem : List Token → Option Tree → Type 0
SpellsItem ts None = ts ≡ []
SpellsItem ts (Some piece) = Spells Item ts piece

pub record SpellsLevel (ts : List Token) (level : Level) : Type 0 where
  sides_ts : List Token
  sequence_ts : List Token
  piece_ts : List Token
  whole : ts ≡ sides_ts ++ (sequence_ts ++ piece_ts)
  sides : SpellsSides sides_ts level.sides
  sequence : Spells Sequence sequence_ts level.sequence
  piece : SpellsItem piece_ts level.piece

abbrev pub SpellsOuter : List Token → List Level → Type 0
SpellsOuter ts [] = ts ≡ []
SpellsOuter ts (around ∷ outer) = (outer_ts level_ts : List Token)
    × (ts ≡ outer_ts ++ (level_ts ++ Open ∷ [])) × SpellsLevel level_ts around
    × SpellsOuter outer_ts outer

abbrev pub SpellsReading : List Token → Reading → Type 0
SpellsReading ts read = (outer_ts level_ts : List Token) × (ts ≡ outer_ts ++ level_ts)
    × SpellsLevel level_ts read.level × SpellsOuter outer_ts read.outer

pub along : (part : Part) (ts us : List Token) (tree : Tree) → ts ≡ us → Spells part ts tree
    → Spells part us tree
along part ts us tree e h = subst (λ l. Spells part l tree) e h

last_spelled : (front back : List Token) (sequence : Tree) (piece : Option Tree)
    → Spells Sequence front sequence → SpellsItem back piece
    → Spells Sequence (front ++ back) (with_last sequence piece)
last_spelled front back sequence None h k = along Sequence front (front ++ back) sequence
    (sym (append-nil front) ∙ ap (λ l. front ++ l) (sym k)) h
last_spelled front back sequence (Some piece) h k =
    more front back sequence piece h (once back piece k)

side_spelled : (front back : List Token) (sides : Option Tree) (sequence : Tree)
    → SpellsSides front sides → Spells Sequence back sequence
    → Spells Choice (front ++ back) (with_side sides sequence)
side_spelled front back None sequence h k =
    along Choice back (front ++ back) sequence (ap (λ l. l ++ back) (sym h)) (only back sequence k)
side_spelled front back (Some sides) sequence h k =
    along Choice (h.0 ++ Bar ∷ back) (front ++ back) (Either sides sequence)
    (sym (append_assoc h.0 (Bar ∷ []) back) ∙ ap (λ l. l ++ back) (sym h.1))
    (or h.0 back sides sequence h.2 k)

sequence_spelled : (ts : List Token) (level : Level) (h : SpellsLevel ts level)
    → Spells Sequence (h.sequence_ts ++ h.piece_ts) (sequence_of level)
sequence_spelled ts level h = last_spelled h.sequence_ts h.piece_ts level.sequence level.piece
    h.sequence h.piece

pub choice_spelled : (ts : List Token) (level : Level) → SpellsLevel ts level
    → Spells Choice ts (sides_of level)
choice_spelled ts level h =
    along Choice (h.sides_ts ++ (h.sequence_ts ++ h.piece_ts)) ts (sides_of level) (sym h.whole)
    (side_spelled h.sides_ts (h.sequence_ts ++ h.piece_ts) level.sides (sequence_of level)
    h.sides (sequence_spelled ts level h))

new_spelled : SpellsLevel [] new_level
new_spelled =
    record {
      sides_ts = [];
      sequence_ts = [];
      piece_ts = [];
      whole = refl;
      sides = refl;
      sequence = empty;
      piece = refl;
    }

settled_spelled : (ts : List Token) (level : Level) → SpellsLevel ts level
    → SpellsLevel ts (settled level)
settled_spelled ts level h = record {
  sides_ts = h.sides_ts;
  sequence_ts = h.sequence_ts ++ h.piece_ts;
  piece_ts = [];
  whole = h.whole ∙ ap (λ l. h.sides_ts ++ l) (sym (append-nil (h.sequence_ts ++ h.piece_ts)));
  sides = h.sides;
  sequence = sequence_spelled ts level h;
  piece = refl;
}

anchor_spelled : (ts : List Token) (level : Level) → SpellsLevel ts level
    → SpellsLevel (ts ++ Anchor ∷ []) (settled level)
anchor_spelled ts level h = record {
  sides_ts = h.sides_ts;
  sequence_ts = (h.sequence_ts ++ h.piece_ts) ++ Anchor ∷ [];
  piece_ts = [];
  whole = ap (λ l. l ++ Anchor ∷ []) h.whole
      ∙ (let g : (h.sides_ts ++ (h.sequence_ts ++ h.piece_ts)) ++ Anchor ∷ [] ≡ h.sides_ts
      ++ (((h.sequence_ts ++ h.piece_ts) ++ Anchor ∷ []) ++ []) = simp (append_assoc, append-nil) in
      g);
  sides = h.sides;
  sequence = anchored (h.sequence_ts ++ h.piece_ts) (sequence_of level)
      (sequence_spelled ts level h);
  piece = refl;
}

piece_spelled : (ts us : List Token) (level : Level) (tree : Tree) → SpellsLevel ts level
    → Spells Item us tree → SpellsLevel (ts ++ us) (with_piece level tree)
piece_spelled ts us level tree h k = record {
  sides_ts = h.sides_ts;
  sequence_ts = h.sequence_ts ++ h.piece_ts;
  piece_ts = us;
  whole = ap (λ l. l ++ us) h.whole
      ∙ (let g : (h.sides_ts ++ (h.sequence_ts ++ h.piece_ts)) ++ us ≡ h.sides_ts
      ++ ((h.sequence_ts ++ h.piece_ts) ++ us) = simp append_assoc in g);
  sides = h.sides;
  sequence = sequence_spelled ts level h;
  piece = k;
}

bar_spelled : (ts : List Token) (level : Level) → SpellsLevel ts level
    → SpellsLevel (ts ++ Bar ∷ []) (with_bar level)
bar_spelled ts level h = record {
  sides_ts = ts ++ Bar ∷ [];
  sequence_ts = [];
  piece_ts = [];
  whole = sym (append-nil (ts ++ Bar ∷ []));
  sides = (ts, refl, choice_spelled ts level h);
  sequence = empty;
  piece = refl;
}

repeat_spelled : (ts : List Token) (sides : Option Tree) (sequence tree : Tree) (least : ℕ)
    (most : Option ℕ)
    → SpellsLevel ts (record { sides = sides; sequence = sequence; piece = Some tree })
    → SpellsLevel (ts ++ Times least most ∷ [])
    (with_repeat least most (record { sides = sides; sequence = sequence; piece = Some tree }))
repeat_spelled ts sides sequence tree least most h = record {
  sides_ts = h.sides_ts;
  sequence_ts = h.sequence_ts ++ (h.piece_ts ++ Times least most ∷ []);
  piece_ts = [];
  whole = ap (λ l. l ++ Times least most ∷ []) h.whole
      ∙ (let g : (h.sides_ts ++ (h.sequence_ts ++ h.piece_ts)) ++ Times least most ∷ [] ≡ h.sides_ts
      ++ ((h.sequence_ts ++ (h.piece_ts ++ Times least most ∷ [])) ++ []) =
      simp (append_assoc, append-nil) in g);
  sides = h.sides;
  sequence = more h.sequence_ts (h.piece_ts ++ Times least most ∷ []) sequence
      (Repeat least most tree) h.sequence (times h.piece_ts tree least most h.piece);
  piece = refl;
}

level_step : (ts us : List Token) (read : Reading) (level : Level) (token : Token)
    → (h : SpellsReading ts read) → SpellsLevel (h.1 ++ token ∷ []) level
    → SpellsReading (ts ++ token ∷ []) (record { level = level; outer = read.outer })
level_step ts us read level token h k = (
  h.0,
  h.1 ++ token ∷ [],
  ap (λ l. l ++ token ∷ []) h.2 ∙ append_assoc h.0 h.1 (token ∷ []),
  k,
  h.4,
)

pub token_spelled : (ts : List Token) (read : Reading) (at : ℕ) (token : Token)
    → SpellsReading ts read → structure_fault (length read.outer) (is_some read.level.piece) at
    token ≡ None → SpellsReading (ts ++ token ∷ []) (after_token read token)
token_spelled ts read at (Bytes bytes) h e =
    level_step ts [] read (with_piece read.level (Set bytes)) (Bytes bytes) h
    (piece_spelled h.1 (Bytes bytes ∷ []) read.level (Set bytes) h.3 (set bytes))
token_spelled ts read at Open h e = (
  h.0 ++ (h.1 ++ Open ∷ []),
  [],
  ap (λ l. l ++ Open ∷ []) h.2 ∙ append_assoc h.0 h.1 (Open ∷ [])
      ∙ sym (append-nil (h.0 ++ (h.1 ++ Open ∷ []))),
  new_spelled,
  (h.0, h.1, refl, settled_spelled h.1 read.level h.3, h.4),
)
token_spelled ts read at Close h e = closed_spelled read.level read.outer h e
  where
    closed_spelled : (level : Level) (outer : List Level)
        → SpellsReading ts (record { level = level; outer = outer })
        → structure_fault (length outer) (is_some level.piece) at Close ≡ None
        → SpellsReading (ts ++ Close ∷ [])
        (after_token (record { level = level; outer = outer }) Close)
    closed_spelled level [] h e = absurd (let f : Some (Syntax at) ≡ None = e in cc)
    closed_spelled level (around ∷ outer) h e =
        let o = h.4 in
        let us = Open ∷ (h.1 ++ Close ∷ []) in
        let g : ((o.0 ++ (o.1 ++ Open ∷ [])) ++ h.1) ++ Close ∷ [] ≡ o.0 ++ (o.1 ++ us) =
        simp append_assoc in (
          o.0,
          o.1 ++ us,
          ap (λ l. l ++ Close ∷ []) (h.2 ∙ ap (λ l. l ++ h.1) o.2)
              ∙ g,
          piece_spelled o.1 us around (sides_of level) o.3
              (group h.1 (sides_of level) (choice_spelled h.1 level h.3)),
          o.4,
        )
token_spelled ts read at Bar h e = level_step ts [] read (with_bar read.level) Bar h
    (bar_spelled h.1 read.level h.3)
token_spelled ts read at Anchor h e = level_step ts [] read (settled read.level) Anchor h
    (anchor_spelled h.1 read.level h.3)
token_spelled ts read at (Times least most) h e =
    level_step ts [] read (with_repeat least most read.level) (Times least most) h
    (times_spelled read.level.sides read.level.sequence read.level.piece h.3 e)
  where
    times_spelled : (sides : Option Tree) (sequence : Tree) (piece : Option Tree)
        → SpellsLevel h.1 (record { sides = sides; sequence = sequence; piece = piece })
        → structure_fault (length read.outer) (is_some piece) at (Times least most) ≡ None
        → SpellsLevel (h.1 ++ Times least most ∷ [])
        (with_repeat least most (record { sides = sides; sequence = sequence; piece = piece }))
    times_spelled sides sequence None k e = absurd (let f : Some (Syntax at) ≡ None = e in cc)
    times_spelled sides sequence (Some tree) k e = repeat_spelled h.1 sides sequence tree least most
        k

pub no_fault_first : (a b : Option PatternWhy) → first_fault_of a b ≡ None → a ≡ None
no_fault_first None b h = refl
no_fault_first (Some why) b h = h

pub no_fault_later : (a b : Option PatternWhy) → first_fault_of a b ≡ None → b ≡ None
no_fault_later None b h = h
no_fault_later (Some why) b h = absurd (let f : Some why ≡ None = h in cc)

abbrev pub Spelled : List Token → List PlacedToken → Tree → Type 0
Spelled before placed tree = (tokens : List Token) × (map cut_of placed ≡ map Ok tokens)
    × Spells Choice (before ++ tokens) tree

pub sound : (end : ℕ) (placed : List PlacedToken) (read : Reading) (before : List Token)
    → SpellsReading before read
    → first_fault end (length read.outer) (is_some read.level.piece) placed ≡ None
    → Spelled before placed (tree_after read placed)
unfolding first_fault
sound end [] read before h e = ended read.outer h e
  where
    ended : (outer : List Level)
        → SpellsReading before (record { level = read.level; outer = outer })
        → first_fault end (length outer) (is_some read.level.piece) [] ≡ None
        → Spelled before [] (sides_of read.level)
    ended [] h e = (
      [],
      refl,
      along Choice h.1 (before ++ []) (sides_of read.level)
          (sym (append-nil before ∙ h.2 ∙ ap (λ l. l ++ h.1) h.4))
          (choice_spelled h.1 read.level h.3),
    )
    ended (around ∷ outer) h e =
        absurd (let f : Some (Syntax end) ≡ None = ap (λ t. cond t None (Some (Syntax end)))
        (sym (no_zero (length outer))) ∙ e in cc)
sound end ((place, Err refusal) ∷ placed) read before h e =
    absurd (let f : Some (refused_at place refusal) ≡ None = e in cc)
sound end ((place, Ok token) ∷ placed) read before h e =
    let a = no_fault_first (structure_fault (length read.outer) (is_some read.level.piece) place
    token) (first_fault end (depth_behind token (length read.outer)) (ends_piece token) placed)
    e in
    let b = no_fault_later (structure_fault (length read.outer) (is_some read.level.piece) place
    token) (first_fault end (depth_behind token (length read.outer)) (ends_piece token) placed)
    e in
    let behind = behind_is read place token a in
    let c = ap (λ (d : ℕ). first_fault end d (is_some (after_token read token).level.piece) placed)
    (sym behind.0)
    ∙ ap (λ (t : Bool). first_fault end (depth_behind token (length read.outer)) t placed)
    (sym behind.1) ∙ b in
    let rest = sound end placed (after_token read token) (before ++ token ∷ [])
    (token_spelled before read place token h a) c in (
      token ∷ rest.0,
      ap (λ (l : List (Result Token Refusal)). Ok token ∷ l) rest.1,
      along Choice
          ((before ++ token ∷ []) ++ rest.0) (before ++ token ∷ rest.0)
          (tree_after (after_token read token) placed) (append_assoc before (token ∷ []) rest.0)
          rest.2,
    )

pub new_reading_spelled : SpellsReading [] new_reading
new_reading_spelled = ([], [], refl, new_spelled, refl)

-- ---- from the grammar to what is read

abbrev pub reading : Level → List Level → Reading
reading level outer = record { level = level; outer = outer }

abbrev pub level_of : Option Tree → Level
level_of sides = record { sides = sides; sequence = Nothing; piece = None }

abbrev pub read_on : Reading → List Token → Reading
read_on read tokens = fold after_token read tokens

abbrev pub Means : Part → List Token → Tree → Type 0
Means Item ts tree = (level : Level) (outer : List Level) → read_on (reading level outer) ts
    ≡ reading (with_piece level tree) outer
Means Piece ts tree = (level : Level) (outer : List Level) → (l : Level)
    × (read_on (reading level outer) ts ≡ reading l outer) × (l.sides ≡ level.sides)
    × (sequence_of l ≡ Both (sequence_of level) tree)
Means Sequence ts tree = (sides : Option Tree) (outer : List Level) → (l : Level)
    × (read_on (reading (level_of sides) outer) ts ≡ reading l outer) × (l.sides ≡ sides)
    × (sequence_of l ≡ tree)
Means Choice ts tree = (outer : List Level) → (l : Level)
    × (read_on (reading new_level outer) ts ≡ reading l outer) × (sides_of l ≡ tree)

pub read_append : (read : Reading) (xs ys : List Token) → read_on read (xs ++ ys)
    ≡ read_on (read_on read xs) ys
read_append read [] ys = refl
read_append read (x ∷ xs) ys = read_append (after_token read x) xs ys

pub complete : (part : Part) (ts : List Token) (tree : Tree) → Spells part ts tree
    → Means part ts tree
complete Item ts tree (set bytes) = λ level outer. refl
complete Item ts tree (group tokens t h) = λ (level : Level) (outer : List Level).
    let k = complete Choice tokens t h (settled level ∷ outer) in
    read_append (reading new_level (settled level ∷ outer)) tokens (Close ∷ [])
    ∙ ap (λ (r : Reading). after_token r Close) k.1
    ∙ ap (λ (t : Tree). reading (with_piece level t) outer) k.2
complete Piece ts tree (once tokens t h) =
    λ (level : Level) (outer : List Level).
    (with_piece level tree, complete Item ts tree h level outer, refl, refl)
complete Piece ts tree (times tokens t least most h) = λ (level : Level) (outer : List Level). (
  with_repeat least most (with_piece level t),
  read_append (reading level outer) tokens
      (Times least most ∷ []) ∙ ap (λ (r : Reading). after_token r (Times least most))
      (complete Item tokens t h level outer),
  refl,
  refl,
)
complete Sequence ts tree empty = λ (sides : Option Tree) (outer : List Level).
    (level_of sides, refl, refl, refl)
complete Sequence ts tree (more front back first last h k) =
    λ (sides : Option Tree) (outer : List Level).
    let a = complete Sequence front first h sides outer in
    let b = complete Piece back last k a.0 outer in (
      b.0,
      read_append (reading (level_of sides) outer) front back
          ∙ ap (λ (r : Reading). read_on r back) a.1 ∙ b.1,
      b.2 ∙ a.2,
      b.3
          ∙ ap (λ (t : Tree). Both t last) a.3,
    )
complete Sequence ts tree (anchored tokens t h) = λ (sides : Option Tree) (outer : List Level).
    let a = complete Sequence tokens t h sides outer in (
      settled a.0,
      read_append (reading (level_of sides) outer) tokens (Anchor ∷ [])
          ∙ ap (λ (r : Reading). after_token r Anchor) a.1,
      a.2,
      a.3,
    )
complete Choice ts tree (only tokens t h) = λ (outer : List Level).
    let a = complete Sequence tokens t h None outer in
    (a.0, a.1, ap (λ (s : Option Tree). with_side s (sequence_of a.0)) a.2 ∙ a.3)
complete Choice ts tree (or front back left right h k) = λ (outer : List Level).
    let a = complete Choice front left h outer in
    let b = complete Sequence back right k (Some (sides_of a.0)) outer in (
      b.0,
      read_append (reading new_level outer) front (Bar ∷ back)
          ∙ ap (λ (r : Reading). read_on (after_token r Bar) back) a.1 ∙ b.1,
      ap (λ (s : Option Tree). with_side s (sequence_of b.0)) b.2
          ∙ ap (λ (t : Tree). Either (sides_of a.0) t) b.3 ∙ ap (λ (t : Tree). Either t right) a.2,
    )

placed_tokens : (placed : List PlacedToken) (tokens : List Token) (read : Reading)
    → map cut_of placed ≡ map Ok tokens → fold after_placed read placed ≡ read_on read tokens
placed_tokens [] [] read e = refl
placed_tokens [] (t ∷ ts) read e = absurd (let f : map cut_of [] ≡ Ok t ∷ map Ok ts = e in cc)
placed_tokens (p ∷ ps) [] read e = absurd (let f : p.1 ∷ map cut_of ps ≡ [] = e in cc)
placed_tokens ((place, Err refusal) ∷ ps) (t ∷ ts) read e =
    absurd (let f : Err refusal ∷ map cut_of ps ≡ Ok t ∷ map Ok ts = e in cc)
placed_tokens ((place, Ok token) ∷ ps) (t ∷ ts) read e =
    let f : Ok token ∷ map cut_of ps ≡ Ok t ∷ map Ok ts = e in
    let g : token ≡ t = cc in
    let k : map cut_of ps ≡ map Ok ts = cc in
    ap (λ (u : Token). fold after_placed (after_token read u) ps) g
    ∙ placed_tokens ps ts (after_token read t) k

pub grammar_tree : (placed : List PlacedToken) (tokens : List Token) (tree : Tree)
    → map cut_of placed ≡ map Ok tokens → Spells Choice tokens tree → tree_after new_reading placed
    ≡ tree
grammar_tree placed tokens tree e h =
    let k = complete Choice tokens tree h [] in
    ap (λ (r : Reading). sides_of r.level) (placed_tokens placed tokens new_reading e ∙ k.1) ∙ k.2

-- the grammar gives tokens one tree
pub grammar_single : (tokens : List Token) (a b : Tree) → Spells Choice tokens a
    → Spells Choice tokens b → a ≡ b
grammar_single tokens a b h k =
    let c = complete Choice tokens a h [] in
    let d = complete Choice tokens b k [] in
    sym c.2 ∙ ap (λ (r : Reading). sides_of r.level) (sym c.1 ∙ d.1) ∙ d.2

-- ---- what the grammar spells has no fault but open groups

abbrev pub IsFine : ℕ → Option PatternWhy → Type 0
IsFine at fault = (fault ≡ None) ⊎ (fault ≡ Some (TooDeep at))

abbrev pub AreFine : Reading → List Token → Type 0
AreFine read [] = Unit {0}
AreFine read (t ∷ ts) =
    ((at : ℕ) → IsFine at (structure_fault (length read.outer) (is_some read.level.piece) at t))
    × AreFine (after_token read t) ts

fine_append : (read : Reading) (xs ys : List Token) → AreFine read xs → AreFine (read_on read xs) ys
    → AreFine read (xs ++ ys)
fine_append read [] ys h k = k
fine_append read (x ∷ xs) ys h k = (h.0, fine_append (after_token read x) xs ys h.1 k)

fine_open : (depth at : ℕ) → IsFine at (cond (leb MOST_GROUPS depth) (Some (TooDeep at)) None)
fine_open depth at = opened (leb MOST_GROUPS depth)
  where
    opened : (deep : Bool) → IsFine at (cond deep (Some (TooDeep at)) None)
    opened true = inr refl
    opened false = inl refl

fine_close : (depth at : ℕ) → IsFine at (cond (suc depth == 0) (Some (Syntax at)) None)
fine_close depth at = inl (ap (λ t. cond t (Some (Syntax at)) None) (no_zero depth))

abbrev pub Fine : Part → List Token → Type 0
Fine Item ts = (level : Level) (outer : List Level) → AreFine (reading level outer) ts
Fine Piece ts = (level : Level) (outer : List Level) → AreFine (reading level outer) ts
Fine Sequence ts = (sides : Option Tree) (outer : List Level)
    → AreFine (reading (level_of sides) outer) ts
Fine Choice ts = (outer : List Level) → AreFine (reading new_level outer) ts

fine_last : (read next : Reading) (ts : List Token) (t : Token) → AreFine read ts
    → read_on read ts ≡ next
    → ((at : ℕ) → IsFine at (structure_fault (length next.outer) (is_some next.level.piece) at t))
    → AreFine read (ts ++ t ∷ [])
fine_last read next ts t h e k =
    fine_append read ts (t ∷ []) h (subst (λ (r : Reading). AreFine r (t ∷ [])) (sym e) (k, tt))

pub fine : (part : Part) (ts : List Token) (tree : Tree) → Spells part ts tree → Fine part ts
fine Item ts tree (set bytes) = λ (level : Level) (outer : List Level). (λ (at : ℕ). inl refl, tt)
fine Item ts tree (group tokens t h) = λ (level : Level) (outer : List Level).
    let k = complete Choice tokens t h (settled level ∷ outer) in (
      λ (at : ℕ). fine_open (length outer) at,
      fine_last (reading new_level (settled level ∷ outer))
          (reading k.0 (settled level ∷ outer)) tokens Close
          (fine Choice tokens t h (settled level ∷ outer)) k.1
          (λ (at : ℕ). fine_close (length outer) at),
    )
fine Piece ts tree (once tokens t h) = λ (level : Level) (outer : List Level). fine Item ts tree h
    level outer
fine Piece ts tree (times tokens t least most h) = λ (level : Level) (outer : List Level).
    fine_last (reading level outer) (reading (with_piece level t) outer) tokens (Times least most)
    (fine Item tokens t h level outer) (complete Item tokens t h level outer)
    (λ (at : ℕ). inl refl)
fine Sequence ts tree empty = λ (sides : Option Tree) (outer : List Level). tt
fine Sequence ts tree (more front back first last h k) =
    λ (sides : Option Tree) (outer : List Level).
    let a = complete Sequence front first h sides outer in
    fine_append (reading (level_of sides) outer) front back
    (fine Sequence front first h sides outer)
    (subst (λ (r : Reading). AreFine r back) (sym a.1) (fine Piece back last k a.0 outer))
fine Sequence ts tree (anchored tokens t h) = λ (sides : Option Tree) (outer : List Level).
    let a = complete Sequence tokens t h sides outer in
    fine_last (reading (level_of sides) outer) (reading a.0 outer) tokens Anchor
    (fine Sequence tokens t h sides outer) a.1 (λ (at : ℕ). inl refl)
fine Choice ts tree (only tokens t h) = λ (outer : List Level). fine Sequence tokens t h None outer
fine Choice ts tree (or front back left right h k) = λ (outer : List Level).
    let a = complete Choice front left h outer in
    fine_append (reading new_level outer) front (Bar ∷ back) (fine Choice front left h outer)
    (subst (λ (r : Reading). AreFine r (Bar ∷ back)) (sym a.1)
    (λ (at : ℕ). inl refl, fine Sequence back right k (Some (sides_of a.0)) outer))

-- each fault of tokens has a place
abbrev pub HasPlace : Option PatternWhy → Type 0
HasPlace None = Unit {0}
HasPlace (Some (Syntax place)) = Unit {0}
HasPlace (Some (UnsupportedPattern place)) = Unit {0}
HasPlace (Some (TooDeep place)) = Unit {0}
HasPlace (Some TooManyPositions) = ⊥

place_first : (a b : Option PatternWhy) → HasPlace a → HasPlace b → HasPlace (first_fault_of a b)
place_first None b h k = k
place_first (Some why) b h k = h

place_refused : (place : ℕ) (refusal : Refusal) → HasPlace (Some (refused_at place refusal))
place_refused place refusals.Syntax = tt
place_refused place refusals.Unsupported = tt

place_chosen : (b : Bool) (why : PatternWhy) → HasPlace (Some why)
    → HasPlace (cond b (Some why) None)
place_chosen true why h = h
place_chosen false why h = tt

place_unless : (b : Bool) (why : PatternWhy) → HasPlace (Some why)
    → HasPlace (cond b None (Some why))
place_unless true why h = tt
place_unless false why h = h

place_structure : (depth : ℕ) (after_piece : Bool) (place : ℕ) (token : Token)
    → HasPlace (structure_fault depth after_piece place token)
place_structure depth after_piece place (Bytes bytes) = tt
place_structure depth after_piece place Open = place_chosen (leb MOST_GROUPS depth) (TooDeep place)
    tt
place_structure depth after_piece place Close = place_chosen (depth == 0) (Syntax place) tt
place_structure depth after_piece place Bar = tt
place_structure depth after_piece place Anchor = tt
place_structure depth after_piece place (Times least most) =
    place_unless after_piece (Syntax place) tt

pub fault_has_place : (end depth : ℕ) (after_piece : Bool) (placed : List PlacedToken)
    → HasPlace (first_fault end depth after_piece placed)
unfolding first_fault
fault_has_place end depth after_piece [] = place_unless (depth == 0) (Syntax end) tt
fault_has_place end depth after_piece ((place, Err refusal) ∷ placed) = place_refused place refusal
fault_has_place end depth after_piece ((place, Ok token) ∷ placed) =
    place_first (structure_fault depth after_piece place token)
    (first_fault end (depth_behind token depth) (ends_piece token) placed)
    (place_structure depth after_piece place token)
    (fault_has_place end (depth_behind token depth) (ends_piece token) placed)
