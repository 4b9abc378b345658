-- Numbers that are kept under texts.
use Rattle.std.specs.Prelude.{ℕ, List, Option}
use Rattle.std.specs.Map.{lookup}
use Rattle.std.specs.declared.vec.Vec.{Vec}
use Rattle.label_base.specs.Text.{same_bytes}

-- the number under the text
abbrev pub number_under : {A : Type 0} → List ℕ → List (Vec ℕ A × ℕ) → Option ℕ
number_under text entries = lookup (λ key. same_bytes text key.items) entries
