-- The table is what the definition says of each byte, by computing.
use Rattle.std.proofs.Common.{◌≡◌, ◌∙◌, ap, sym, refl, ℕ, ◌<◌, ◌==◌, Bool, true, List, length}
use Rattle.std.proofs.Common.{get_or, map, arith}
use Rattle.std.specs.List.{range_with_len}
use Rattle.std.proofs.lemmas.List.{get_or-map}
use Rattle.std.proofs.lemmas.List.FromFn.{get_or-map-range_with_len}
use Rattle.pattern_syntax.specs.declared.exact.TheConstants.{MARKS}
use Rattle.pattern_syntax.specs.Exact.{is_itself}
use Rattle.pattern_syntax.proofs.exact.is_itself.Goals as goal

no_mark : ℕ → Bool
no_mark byte = byte == 45

from_table : (table : List ℕ) (b : ℕ) → length table ≡ 256 → b < 256
    → map no_mark table ≡ map is_itself (range_with_len 0 256)
    → no_mark (get_or table b 0) ≡ is_itself b
unfolding no_mark
from_table table b size within same =
    sym (get_or-map no_mark table b 0 true (omega (arith, size)))
    ∙ ap (λ bytes. get_or bytes b true) same
    ∙ get_or-map-range_with_len is_itself 0 256 b b true within (omega arith)

pub returns : goal.returns
unfolding no_mark
returns c = from_table MARKS c.args.b refl (omega arith) refl
