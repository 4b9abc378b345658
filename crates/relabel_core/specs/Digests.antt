-- What contracts see of the digests after a walk.
use Rattle.relabel_core.specs.Answer.{walk_in}
use Rattle.relabel_core.specs.Walk.{Walk}
use Rattle.relabel_core.specs.declared.digests.Digests.{Digests}

-- the walk after which they are
abbrev pub walk_before : Digests → Walk
walk_before digests = walk_in digests.walked.now
