-- One text more.
use Rattle.std.proofs.Common.{◌≡◌, ◌∙◌, ap, sym, ℕ, ◌+◌, List, ◌++◌, append_assoc, add-one}
use Rattle.sample_tree.specs.Sample.{texts_below}

pub one_more : (text : ℕ → List ℕ) (front old new : List ℕ) (n : ℕ) → new ≡ old ++ text n
    → old ≡ front ++ texts_below text n → new ≡ front ++ texts_below text (n + 1)
one_more text front old new n added so_far =
    added ∙ ap (λ t. t ++ text n) so_far ∙ append_assoc front (texts_below text n) (text n)
    ∙ ap (λ m. front ++ texts_below text m) (sym (add-one n))
