use Rattle.walk_steps.proofs.EndLemmas.{ended_is_the_end, one_end}
use Rattle.walk_steps.proofs.law.ends_are_one.Goals as goal

pub returns-clause-end : goal.returns-clause-end
returns-clause-end c = λ open_job wanted claimed state leads sound least ended. ended_is_the_end
    c.args.shape.now open_job wanted claimed state c.requires leads sound least ended

pub returns-clause-one : goal.returns-clause-one
returns-clause-one c = λ open_job wanted a b. one_end c.args.shape.now open_job wanted a b
