use Rattle.std.proofs.Common.{subst}
use Rattle.pattern_match.proofs.OneText.{text_leads_not}
use Rattle.spec_match.specs.Memberships.{IsTestOf}
use Rattle.spec_match.proofs.membership.Membership.takes_all.Goals as goal

pub returns-in-ByStart-clause-exact : goal.returns-in-ByStart-clause-exact
returns-in-ByStart-clause-exact c =
    let one = subst (IsTestOf c.args.pattern.now.tree) c.in-ByStart.is c.requires.test in
    text_leads_not c.args.pattern.now.tree c.args.states.now.known one.0 c.requires.own
