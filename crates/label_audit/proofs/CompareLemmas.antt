-- Pieces compared with a file, one after the other.
use Rattle.std.proofs.Common.{◌≡◌, ◌∙◌, sym, refl, ap, ap₂, ℕ, zero, suc, ◌+◌, ◌<◌, ◌≤◌, ◌||◌}
use Rattle.std.proofs.Common.{Bool, true, false, List, [], ◌∷◌, ◌++◌, drop, get_or, length, map}
use Rattle.std.proofs.Common.{replicate, set, Option, Some, None, inl, inr, arith, eq-eqb, ne_eqb}
use Rattle.std.proofs.Common.{add-one, if◌then◌else◌}
use Rattle.std.specs.Prelude.{is_none, is_some, slice_get}
use Rattle.std.proofs.Math.Bool.{or-false, or-true}
use Rattle.std.proofs.lemmas.Bool.{cases_eq, cases_lt, le-ltb, lt-ltb}
use Rattle.std.proofs.lemmas.List.{at_drop_all, at_drop_more, get_or-replicate, get_or-set_other}
use Rattle.std.proofs.lemmas.List.{get_or-set_same, length-replicate, length-set, map-append}
use Rattle.label_base.specs.Bounded.{all_numbers, any_below}
use Rattle.relabel_core.specs.Report.{AreRaised, optional_text, raised_at}
use Rattle.relabel_core.specs.Walk.{Walk, walk_count, deciding, is_found_at, line_of_spec}
use Rattle.run_faults.specs.declared.finding.Piece.{Piece}
use Rattle.run_faults.specs.declared.finding.Piece.TheVariants.{Rule}
use Rattle.label_audit.specs.Compared.{behind_of, differs_or, is_compared_open, unflagged_piece}
use Rattle.label_audit.specs.declared.compared.Compared.{Compared}
use Rattle.label_audit.specs.Pieces.{PlacedPiece, begins, differing, end_differs, piece_placed}
use Rattle.label_audit.specs.Pieces.{spec_piece, spec_pieces}

-- ---- one piece

-- a piece that didn't stand stays the first
pub sticky : (differs : Option Piece) (left : List ℕ) (xs ys : List PlacedPiece)
    → is_some differs ≡ true → differs_or differs left xs ≡ differs_or differs left ys
sticky (Some piece) left xs ys h = refl
sticky None left xs ys h = absurd cc

some_from : (differs : Option Piece) → is_none differs ≡ false → is_some differs ≡ true
some_from None h = absurd cc
some_from (Some piece) h = refl

-- where there is no file, or a piece of it didn't stand, no piece changes what is told
pub shut : (file : Option Compared) (xs ys : List PlacedPiece) → is_compared_open file ≡ false
    → behind_of file xs ≡ behind_of file ys
shut None xs ys h = refl
shut (Some file) xs ys h = sticky file.differs file.left.now xs ys (some_from file.differs h)

pub stood : (differs : Option Piece) (left now text : List ℕ) (piece : Piece)
    (pieces : List PlacedPiece) → is_some differs ≡ false → begins left text ≡ true
    → now ≡ drop (length text) left
    → differs_or differs now pieces ≡ differs_or differs left (piece_placed piece text ∷ pieces)
stood (Some other) left now text piece pieces none h is = absurd cc
stood None left now text piece pieces none h is =
    ap (differing pieces) is
    ∙ sym (ap (λ b. if b then differing pieces (drop (length text) left) else Some piece) h)

pub fell : (differs : Option Piece) (left text : List ℕ) (piece : Piece) (pieces : List PlacedPiece)
    → is_some differs ≡ false → begins left text ≡ false
    → Some piece ≡ differs_or differs left (piece_placed piece text ∷ pieces)
fell (Some other) left text piece pieces none h = absurd cc
fell None left text piece pieces none h =
    sym (ap (λ b. if b then differing pieces (drop (length text) left) else Some piece) h)

-- ---- the end

pub ended : (differs : Option Piece) (left : List ℕ) → is_some differs ≡ true
    → differs ≡ differs_or differs left []
ended (Some piece) left h = refl
ended None left h = absurd cc

pub at_end : (differs : Option Piece) (left : List ℕ) → is_some differs ≡ false
    → end_differs left ≡ differs_or differs left []
at_end (Some piece) left h = absurd cc
at_end None left h = refl

-- ---- one piece of a list more

pub next_compared : (before now all : List PlacedPiece → Option Piece) (xs : List PlacedPiece)
    (k : ℕ) (x : PlacedPiece) → k < length xs → get_or xs k x ≡ x
    → ((rest : List PlacedPiece) → before (drop k xs ++ rest) ≡ all rest)
    → ((rest : List PlacedPiece) → now rest ≡ before (x ∷ rest))
    → (rest : List PlacedPiece) → now (drop (k + 1) xs ++ rest) ≡ all rest
next_compared before now all xs k x l is so_far compares rest =
    compares (drop (k + 1) xs ++ rest)
    ∙ ap (λ (y : PlacedPiece). before ((y ∷ drop (k + 1) xs) ++ rest)) (sym is)
    ∙ sym (at_drop_more (λ ys. before (ys ++ rest)) xs k x l) ∙ so_far rest

pub all_compared : (before all : List PlacedPiece → Option Piece) (xs : List PlacedPiece) (k : ℕ)
    → length xs ≤ k
    → ((rest : List PlacedPiece) → before (drop k xs ++ rest) ≡ all rest)
    → (rest : List PlacedPiece) → before rest ≡ all rest
all_compared before all xs k l so_far rest = sym (at_drop_all (λ ys. before (ys ++ rest)) xs k l)
    ∙ so_far rest

-- three lists of pieces, one behind the other
pub three_compared : (one two three all : List PlacedPiece → Option Piece)
    (xs ys zs : List PlacedPiece)
    → ((rest : List PlacedPiece) → one rest ≡ all (xs ++ rest))
    → ((rest : List PlacedPiece) → two rest ≡ one (ys ++ rest))
    → ((rest : List PlacedPiece) → three rest ≡ two (zs ++ rest))
    → three [] ≡ all (xs ++ (ys ++ zs))
three_compared one two three all xs ys zs p q r =
    r [] ∙ q (zs ++ []) ∙ p (ys ++ (zs ++ [])) ∙ ap (λ t. all (xs ++ (ys ++ t))) (append_none zs)
  where
    append_none : (ts : List PlacedPiece) → ts ++ [] ≡ ts
    append_none [] = refl
    append_none (t ∷ ts) = ap (λ us. t ∷ us) (append_none ts)

-- ---- flags

raised_length : (flags : List Bool) (found : Option ℕ) → length (raised_at flags found)
    ≡ length flags
raised_length flags None = refl
raised_length flags (Some k) = elim (cases_lt k (length flags)) [
  | inl lt ↦ ap (λ b. length (if b then set flags k true else flags)) (lt-ltb k (length flags) lt)
      ∙ length-set flags k true
  | inr ge ↦ ap (λ b. length (if b then set flags k true else flags)) (le-ltb k (length flags) ge)
]

raised_here : (flags : List Bool) (found : Option ℕ) (i : ℕ) → i < length flags
    → get_or (raised_at flags found) i false ≡ (get_or flags i false || is_found_at found i)
raised_here flags None i l = sym (or-false (get_or flags i false))
raised_here flags (Some k) i l = elim (cases_lt k (length flags)) [
  | inl lt ↦
      ap (λ b. get_or (if b then set flags k true else flags) i false) (lt-ltb k (length flags) lt)
      ∙ elim (cases_eq k i) [
        | inl same ↦
            ap (λ j. get_or (set flags k true) j false) (sym same)
            ∙ get_or-set_same flags k true false lt
            ∙ sym (or-true (get_or flags i false)) ∙ ap (λ b. get_or flags i false || b)
            (sym (eq-eqb k i same))
        | inr differ ↦
            get_or-set_other flags k i true false (λ s. differ (sym s))
            ∙ sym (or-false (get_or flags i false))
            ∙ ap (λ b. get_or flags i false || b) (sym (ne_eqb k i differ))
      ]
  | inr ge ↦
      ap (λ b. get_or (if b then set flags k true else flags) i false) (le-ltb k (length flags) ge)
      ∙ sym (or-false (get_or flags i false))
      ∙ ap (λ b. get_or flags i false || b) (sym (ne_eqb k i (λ s. omega (arith, l, ge, s))))
]

-- no entry was decided yet
pub none_raised : (w : Walk) (n : ℕ) (flags : List Bool) → n ≡ length w.rules.rules
    → flags ≡ replicate n false → AreRaised w 0 flags
none_raised w n flags each is = record {
  each_spec = ap length is ∙ length-replicate n false ∙ each;
  raised = λ i l. ap (λ fs. get_or fs i false) is
      ∙ get_or-replicate n i false false (omega (arith, l, each));
}

-- the flag of what decides one entry more is raised
pub raised_more : (w : Walk) (e : ℕ) (old now : List Bool) (found : Option ℕ) → AreRaised w e old
    → found ≡ deciding w e → now ≡ raised_at old found → AreRaised w (e + 1) now
raised_more w e old now found before is made = record {
  each_spec = ap length made ∙ raised_length old found ∙ before.each_spec;
  raised = λ i l.
      ap (λ flags. get_or flags i false) made
      ∙ raised_here old found i (omega (arith, l, before.each_spec))
      ∙ ap₂ (λ b f. b || is_found_at f i) (before.raised i l) is
      ∙ ap (λ m. any_below m (λ d. is_found_at (deciding w d) i)) (sym (add-one e));
}

-- ---- the specifications

unflagged_same : (w : Walk) (flags : List Bool) (m : ℕ) → AreRaised w (walk_count w) flags
    → m ≤ length w.rules.rules
    → map (unflagged_piece w.rules flags) (all_numbers m) ≡ map (spec_piece w) (all_numbers m)
unflagged_same w flags zero raised l = refl
unflagged_same w flags (suc m) raised l =
    map-append (unflagged_piece w.rules flags) (all_numbers m) (m ∷ [])
    ∙ ap₂ (λ ps b. ps ++ piece_placed (Rule m)
    (optional_text (if b then None else line_of_spec (slice_get w.rules.rules m))) ∷ [])
    (unflagged_same w flags m raised (omega (arith, l))) (raised.raised m (omega (arith, l)))
    ∙ sym (map-append (spec_piece w) (all_numbers m) (m ∷ []))

pub specs_are : (w : Walk) (flags : List Bool) → w.options.warn_unmatched ≡ true
    → AreRaised w (walk_count w) flags
    → map (unflagged_piece w.rules flags) (all_numbers (length w.rules.rules)) ≡ spec_pieces w
specs_are w flags warned raised =
    unflagged_same w flags (length w.rules.rules) raised (omega arith)
    ∙ sym (ap (λ b. if b then map (spec_piece w) (all_numbers (length w.rules.rules)) else [])
    warned)
