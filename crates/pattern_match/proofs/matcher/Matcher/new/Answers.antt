use Rattle.std.proofs.Common.{◌∙◌, ap, sym}
use Rattle.pattern_syntax.specs.Literal.{literal_start_of}
use Rattle.pattern_syntax.specs.Starts.{behind_start}
use Rattle.pattern_syntax.proofs.BehindLemmas.{joined_whole}
use Rattle.pattern_match.proofs.matcher.Matcher.new.Goals as goal

pub invariant_of-result : goal.invariant_of-result
invariant_of-result c =
    let w = joined_whole c.args.pattern.now.tree c.start.result.now c.new.result c.start.ensures
    c.new.ensures in
    record {
      start = c.start.ensures ∙ ap literal_start_of (sym w);
      behind = c.new.ensures ∙ ap behind_start (sym w);
    }

pub returns : goal.returns
returns c = joined_whole c.args.pattern.now.tree c.start.result.now c.new.result c.start.ensures
    c.new.ensures
