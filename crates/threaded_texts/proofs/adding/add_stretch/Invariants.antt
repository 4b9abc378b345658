use Rattle.std.proofs.Common.{◌≡◌, ◌++◌}
use Rattle.threaded_texts.specs.Stretch.{stretch}
use Rattle.threaded_texts.proofs.adding.add_stretch.Given as goal

-- the texts so far
abbrev pub invariant-texts : goal.invariant-texts
invariant-texts g l = l.to ≡ l.initial.to ++ stretch (g.T.Texts.text l.texts) l.part.first l.i
