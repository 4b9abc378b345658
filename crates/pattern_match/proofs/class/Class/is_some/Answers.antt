use Rattle.std.proofs.Common.{◌≡◌, ◌∙◌, sym, Bool, true, false, refl}
use Rattle.pattern_syntax.specs.ByteSet.{has_byte, bytes_with}
use Rattle.pattern_match.specs.Residuals.{is_some_list}
use Rattle.pattern_match.proofs.Classes.{some_bytes, no_bytes}
use Rattle.pattern_match.proofs.class.Class.is_some.Goals as goal

pub returns-in-Set : goal.returns-in-Set
returns-in-Set c = rw c.in-Set.is (at c.has_text_byte.result refl)
  where
    at : (v : Bool) → c.has_text_byte.result ≡ v → c.has_text_byte.result ≡ is_some_list
        (bytes_with (has_byte c.in-Set.set))
    at true e = let x = c.has_text_byte.ensures.found e in
        e ∙ sym (some_bytes (has_byte c.in-Set.set) x.0 x.1 x.2 x.3)
    at false e = e ∙ sym (no_bytes (has_byte c.in-Set.set) (c.has_text_byte.ensures.none e))
