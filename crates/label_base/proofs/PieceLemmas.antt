-- A text of pieces, one piece longer.
use Rattle.std.proofs.Common.{◌≡◌, ◌∙◌, ap, ℕ, ◌+◌, ◌<◌, List, [], ◌∷◌, ◌++◌, length, take}
use Rattle.std.proofs.Common.{append-nil}
use Rattle.std.specs.List.{concat}
use Rattle.std.specs.Prelude.{get_or}
use Rattle.std.proofs.lemmas.List.{take_more}
use Rattle.std.proofs.lemmas.List.Folds.{concat-append}

pub concat_more : (pieces : List (List ℕ)) (piece : List ℕ)
    → concat (pieces ++ piece ∷ []) ≡ concat pieces ++ piece
concat_more pieces piece =
    concat-append pieces (piece ∷ []) ∙ ap (λ t. concat pieces ++ t) (append-nil piece)

-- the pieces before a place, and the one there
pub concat_taken : (pieces : List (List ℕ)) (i : ℕ) (d : List ℕ) → i < length pieces
    → concat (take (i + 1) pieces) ≡ concat (take i pieces) ++ get_or pieces i d
concat_taken pieces i d within =
    ap concat (take_more pieces i d within) ∙ concat_more (take i pieces) (get_or pieces i d)
