-- What contracts see of the answer of a walk.
use Rattle.relabel_core.specs.Walk.{Walk}
use Rattle.relabel_core.specs.Walked.{walk_of}
use Rattle.relabel_core.specs.declared.walked.Walked.{Walked}

-- the walk that is answered
abbrev pub walk_in : Walked → Walk
walk_in walked = walk_of walked.input
