-- A text that is written piece after piece, and a front of it.
use Rattle.std.proofs.Common.{◌≡◌, ◌∙◌, ap, sym, subst, ℕ, ◌+◌, ◌<◌, List, ◌∷◌, ◌++◌, length}
use Rattle.std.proofs.Common.{append_assoc, drop, take}
use Rattle.std.specs.Prelude.{OnErr, Option, Result, Ok, Err, get_or}
use Rattle.std.specs.List.{concat}
use Rattle.std.specs.Io.KnownBytes.{Appends}
use Rattle.std.proofs.lemmas.List.{drop_more, take-append-drop}
use Rattle.std.proofs.lemmas.List.Folds.{concat-append}
use Rattle.std.proofs.Math.Seq.{take-append_seam}
use Rattle.input_output.specs.Sink.{AppendsFront}
use Rattle.input_output.proofs.Known.{Appends-then}
use Rattle.label_base.proofs.PieceLemmas.{concat_taken}

-- what was written is a front of the whole
pub front_of : (old new : Option (List ℕ)) (front rest whole : List ℕ)
    → whole ≡ front ++ rest → Appends old new front → AppendsFront old new whole
front_of old new front rest whole is written = (
  length front,
  subst (λ t. Appends old new t)
      (sym (ap (take (length front)) is ∙ take-append_seam front rest)) written,
)

-- the pieces before a place, a front of the one there, and what is left
pub cut_within : (pieces : List (List ℕ)) (i n : ℕ) (d : List ℕ) → i < length pieces
    → concat pieces ≡ (concat (take i pieces) ++ take n (get_or pieces i d))
    ++ (drop n (get_or pieces i d) ++ concat (drop (i + 1) pieces))
cut_within pieces i n d within =
    let so_far = concat (take i pieces) in
    let piece = get_or pieces i d in
    let behind = concat (drop (i + 1) pieces) in
    ap concat (sym (take-append-drop i pieces)) ∙ concat-append (take i pieces) (drop i pieces)
    ∙ ap (λ t. so_far ++ concat t) (drop_more pieces i d within)
    ∙ ap (λ t. so_far ++ (t ++ behind)) (sym (take-append-drop n piece))
    ∙ ap (λ t. so_far ++ t) (append_assoc (take n piece) (drop n piece) behind)
    ∙ sym (append_assoc so_far (take n piece) (drop n piece ++ behind))

-- some pieces were written, and then a front of the next
pub front_then : (a b c : Option (List ℕ)) (pieces : List (List ℕ)) (i : ℕ) (d : List ℕ)
    → i < length pieces → Appends a b (concat (take i pieces))
    → AppendsFront b c (get_or pieces i d) → AppendsFront a c (concat pieces)
front_then a b c pieces i d within before (n, written) =
    let piece = get_or pieces i d in
    front_of a c (concat (take i pieces) ++ take n piece)
    (drop n piece ++ concat (drop (i + 1) pieces)) (concat pieces)
    (cut_within pieces i n d within)
    (Appends-then a b c (concat (take i pieces)) (take n piece) before written)

-- some pieces were written, and then the next
pub piece_then : (a b c : Option (List ℕ)) (pieces : List (List ℕ)) (i : ℕ) (d : List ℕ)
    → i < length pieces → Appends a b (concat (take i pieces)) → Appends b c (get_or pieces i d)
    → Appends a c (concat (take (i + 1) pieces))
piece_then a b c pieces i d within before written =
    subst (λ t. Appends a c t) (sym (concat_taken pieces i d within))
    (Appends-then a b c (concat (take i pieces)) (get_or pieces i d) before written)

pub on_err_too : {T E P : Type 0} (r : Result T E) → P → OnErr r P
on_err_too (Ok done) p = tt
on_err_too (Err fault) p = p
