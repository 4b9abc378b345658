-- The records of a text, from its first one on.
use Rattle.std.proofs.Common.{◌≡◌, ◌∙◌, ap, sym, refl, ℕ, ◌+◌, ◌<◌, ◌==◌, true, false, List, []}
use Rattle.std.proofs.Common.{◌∷◌, ◌++◌, length, append_assoc, arith}
use borrow.Author.Tests.{eqb-true}
use Rattle.std.specs.Prelude.{Result, Ok, Err}
use Rattle.std.specs.List.{slice_split}
use Rattle.label_base.specs.Lines.{with_front}
use Rattle.label_base.proofs.LineLemmas.{split_cons}
use Rattle.find_records.specs.declared.format.Format.{Format}
use Rattle.find_records.specs.Record.{Record}
use Rattle.find_records.specs.declared.fault.RecordsFault.{RecordsFault}
use Rattle.find_records.specs.Grammar.{is_nul, with_ends, path_pieces, meaning, onto, all_from}
use Rattle.find_records.specs.Grammar.{records_from}

more_pieces : (f y : List ℕ) (ys : List (List ℕ)) → with_ends (f ∷ y ∷ ys) ≡ (f, true) ∷ with_ends
    (y ∷ ys)
more_pieces [] y ys = refl
more_pieces (b ∷ bs) y ys = refl

pieces_more : (bytes f r : List ℕ) → slice_split is_nul bytes ≡ f ∷ slice_split is_nul r
    → path_pieces bytes ≡ (f, true) ∷ path_pieces r
pieces_more bytes f r h =
    let c = split_cons is_nul r in
    ap with_ends (h ∙ ap (λ ps. f ∷ ps) c.2) ∙ more_pieces f c.0 c.1
    ∙ sym (ap (λ ps. (f, true) ∷ with_ends ps) c.2)

pieces_last : (bytes : List ℕ) → 0 < length bytes → slice_split is_nul bytes ≡ bytes ∷ []
    → path_pieces bytes ≡ (bytes, false) ∷ []
pieces_last [] n h = absurd (omega arith)
pieces_last (b ∷ bs) n h = ap with_ends h

pub records_none : (format : Format) (most number : ℕ) (bytes : List ℕ) → (length bytes == 0) ≡ true
    → records_from format most number bytes ≡ Ok []
unfolding records_from
records_none format most number [] h = refl
records_none format most number (b ∷ bs) h = absurd (omega (arith, eqb-true (length (b ∷ bs)) 0 h))

pub records_more : (format : Format) (most number : ℕ) (bytes f r : List ℕ)
    → slice_split is_nul bytes ≡ f ∷ slice_split is_nul r → records_from format most number bytes
    ≡ onto (meaning format most number f true) (records_from format most (number + 1) r)
unfolding records_from
records_more format most number bytes f r h =
    ap (all_from format most number) (pieces_more bytes f r h)

pub records_last : (format : Format) (most number : ℕ) (bytes f : List ℕ) → 0 < length bytes
    → slice_split is_nul bytes ≡ f ∷ [] → f ≡ bytes → records_from format most number bytes
    ≡ onto (meaning format most number f false) (records_from format most (number + 1) [])
unfolding records_from
records_last format most number bytes f n h e =
    ap (all_from format most number) (pieces_last bytes n (h ∙ ap (λ p. p ∷ []) e)
    ∙ ap (λ p. (p, false) ∷ []) (sym e))

-- the first record goes to the end of those in front
pub front_more : (front : List Record) (first : Record) (rest : Result (List Record) RecordsFault)
    → with_front front (onto (Ok first) rest) ≡ with_front (front ++ first ∷ []) rest
front_more front first (Ok rest) = ap Ok (sym (append_assoc front (first ∷ []) rest))
front_more front first (Err why) = refl
