use Rattle.pattern_match.proofs.Classes.{byte_lacks, set_each}
use Rattle.pattern_match.proofs.class.Class.has_each.Goals as goal

pub returns-in-Byte : goal.returns-in-Byte
returns-in-Byte c = (λ e. cc, λ h. absurd (byte_lacks c.args.self.now _ c.in-Byte.is h))

pub returns-in-Set : goal.returns-in-Set
returns-in-Set c =
    rw c.in-Set.is (set_each c.in-Set.set c.has_each_text_byte.result c.has_each_text_byte.ensures)
