use Rattle.path_subs.specs.Listed.{AreSubsListed}
use Rattle.path_subs.proofs.sub_list.list_all.Given as goal

-- the lines so far are listed
abbrev pub invariant-lines : goal.invariant-lines
invariant-lines l = AreSubsListed l.lines l.i l.last.entries l.marks.items l.longest
