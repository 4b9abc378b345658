-- The table is what the definition says of each byte, by computing.
use Rattle.std.proofs.Common.{◌≡◌, ◌∙◌, ap, sym, refl, ℕ, ◌<◌, ◌==◌, Bool, true, List, length}
use Rattle.std.proofs.Common.{get_or, map, arith}
use Rattle.std.specs.Prelude.{not}
use Rattle.std.specs.List.{range_with_len}
use Rattle.std.proofs.lemmas.List.{get_or-map}
use Rattle.std.proofs.lemmas.List.FromFn.{get_or-map-range_with_len}
use Rattle.context_syntax.specs.declared.context.TheConstants.{COLON, WORD_BYTES}
use Rattle.context_syntax.specs.Context.{is_word_byte}
use Rattle.context_syntax.proofs.context.may_stand_in_word.Goals as goal

stands : ℕ → Bool
stands byte = not (byte == COLON)

from_table : (table : List ℕ) (b : ℕ) → length table ≡ 256 → b < 256
    → map stands table ≡ map is_word_byte (range_with_len 0 256)
    → stands (get_or table b 0) ≡ is_word_byte b
unfolding stands
from_table table b size within same =
    sym (get_or-map stands table b 0 true (omega (arith, size)))
    ∙ ap (λ bytes. get_or bytes b true) same
    ∙ get_or-map-range_with_len is_word_byte 0 256 b b true within (omega arith)

pub returns : goal.returns
unfolding stands
returns c = from_table WORD_BYTES c.args.b refl (omega arith) refl
