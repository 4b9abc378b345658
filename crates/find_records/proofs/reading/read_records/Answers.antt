use Rattle.find_records.proofs.Taking.{answer_of, shown_nothing}
use Rattle.find_records.proofs.reading.read_records.Goals as goal

pub returns-clause-of_format : goal.returns-clause-of_format
returns-clause-of_format g c = answer_of c.args.format c.end.result _ c.end.ensures.answer
    c.in_ok-take_pieces.ensures.of_format
