use Rattle.home_contexts.proofs.GivenLines.{line_accepted, line_many, line_refused}
use Rattle.home_contexts.proofs.giving.check_line.Goals as goal
use Rattle.home_contexts.proofs.giving.check_line.Goals.{in-Ok, in-Err-Why-Refused}
use Rattle.home_contexts.proofs.giving.check_line.Goals.{in-Err-Why-TooMany, in-Err-OutOfMemory}

pub returns : goal.returns
returns c =
    elim c.match-read_specs.branch [
      | in-Ok w ↦ rw w.result-is (λ fields parts same. line_accepted c.args.line.now fields _ parts
          same w.in-Ok.ensures.read)
      | in-Err-Why-Refused w ↦
          rw w.result-is (λ fields parts same. line_refused c.args.number c.args.line.now fields _
          parts same (rw (w.in-Err-Why-Refused.field-0-is, w.in-Err-Why-Refused.field-0-0-is)
          at w.in-Err-Why-Refused.ensures.read))
      | in-Err-Why-TooMany w ↦
          rw w.result-is (λ fields parts same. line_many c.args.line.now fields parts same (rw
          (w.in-Err-Why-TooMany.field-0-is, w.in-Err-Why-TooMany.field-0-0-is) at
          w.in-Err-Why-TooMany.ensures.read))
      | in-Err-OutOfMemory w ↦ rw w.result-is (λ fields parts same. tt)
    ]
