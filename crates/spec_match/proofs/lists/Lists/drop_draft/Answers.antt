use Rattle.std.proofs.Common.{[], ap, ◌∙◌}
use Rattle.spec_match.specs.Written.{Written, lists_written}
use Rattle.spec_match.proofs.ListLemmas.{cut}
use Rattle.spec_match.proofs.lists.Lists.drop_draft.Goals as goal

pub returns : goal.returns
returns c =
    cut c.self.inside.members c.truncate.new.self c.self.inside.spans.items c.self.inside.done
    c.self.invariant.within c.self.invariant.done c.truncate.ensures
    ∙ ap (λ (w : Written). lists_written w.lists []) c.self.view_is
