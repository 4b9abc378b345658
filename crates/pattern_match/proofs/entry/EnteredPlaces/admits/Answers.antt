use Rattle.std.specs.Bool.{one_answer}
use Rattle.std.proofs.lemmas.Bool.Decides.{Decides-like}
use Rattle.pattern_match.proofs.EachByte.{bytes_each, class_each, each_byte}
use Rattle.pattern_match.proofs.entry.EnteredPlaces.admits.Goals as goal

pub returns-in-ByEach : goal.returns-in-ByEach
returns-in-ByEach c = let class = c.args.class.now in rw c.in-ByEach.is
    (one_answer c.has_each.result _
    (Decides-like c.has_each.result (class_each class) (bytes_each class) c.has_each.ensures)
    (each_byte _))
