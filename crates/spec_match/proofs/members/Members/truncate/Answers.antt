use Rattle.std.proofs.Common.{◌∙◌, ap, List, arith, take}
use Rattle.spec_match.specs.Alive.{Alive}
use Rattle.spec_match.proofs.MemberLemmas.{members_cut, length_cut}
use Rattle.spec_match.proofs.members.Members.truncate.Goals as goal

pub invariant_of-self : goal.invariant_of-self
invariant_of-self c =
    rw (c.truncate-2.ensures.items, c.truncate.ensures.items, c.index.ensures)
    (length_cut c.self.inside.words.items c.self.inside.members.items c.args.n c.index.result.now
    c.self.invariant (omega arith))

pub returns : goal.returns
returns c =
    rw (c.truncate-2.ensures.items, c.truncate.ensures.items, c.index.ensures)
    (members_cut c.self.inside.words.items c.self.inside.members.items c.args.n c.index.result.now
    c.self.invariant (omega arith) ∙ ap (λ (l : List Alive). take c.args.n l) c.self.view_is)
