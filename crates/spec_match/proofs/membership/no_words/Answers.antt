use Rattle.std.proofs.Common.{sym}
use Rattle.spec_match.proofs.ScratchLemmas.{one_text_room, one_text_words}
use Rattle.spec_match.proofs.membership.no_words.Goals as goal

pub returns-clause-value : goal.returns-clause-value
returns-clause-value c = sym (one_text_words c.args.pattern.now.tree c.requires)

pub returns-clause-room : goal.returns-clause-room
returns-clause-room c = one_text_room c.args.pattern.now.tree 0 c.requires
