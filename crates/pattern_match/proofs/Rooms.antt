-- Marks and the room for them, seen apart.
use Rattle.std.proofs.Common.{◌≡◌, ◌∙◌, ap, ℕ, List, ◌++◌, length, take, drop, append-nil, arith}
use Rattle.std.proofs.lemmas.List.{drop_all, take_all}
use Rattle.pattern_match.specs.States.{Held}

pub held_is : {a b : Held} → a ≡ b → a.marks ≡ b.marks
held_is e = ap (λ (h : Held). h.marks) e

-- a whole list that was written over is what was written
pub written : (new old : List ℕ) (n : ℕ) → length new ≡ length old → n ≡ length new
    → take n (new ++ drop (length new) old) ≡ new
written new old n e f =
    ap (λ rest. take n (new ++ rest)) (drop_all (length new) old (omega arith))
    ∙ ap (take n) (append-nil new) ∙ take_all n new (omega arith)
