use Rattle.pattern_syntax.proofs.BehindLemmas.{rest_alone}
use Rattle.pattern_syntax.proofs.KeptLemmas.{again_whole, again_language}
use Rattle.pattern_syntax.proofs.PlainLemmas.{below_again}
use Rattle.pattern_syntax.proofs.pattern.Pattern.rest.Goals as goal

pub returns-in-Ok-clause-whole : goal.returns-in-Ok-clause-whole
returns-in-Ok-clause-whole c = again_whole _ _ c.in-Ok.rest.items c.args.self.now c.self.view_is
    (rw (c.text_in-text.ensures, c.as_slice.ensures.value) at c.in-Ok.ensures)

pub returns-in-Ok-clause-alone : goal.returns-in-Ok-clause-alone
returns-in-Ok-clause-alone c = rest_alone _ c.in-Ok.rest.items c.in-Ok.ensures.1

pub returns-in-Ok-clause-language : goal.returns-in-Ok-clause-language
returns-in-Ok-clause-language c = again_language _ _ c.in-Ok.rest.items c.args.self.now
    c.self.view_is (rw (c.text_in-text.ensures, c.as_slice.ensures.value) at c.in-Ok.ensures)

pub returns-then-has_all_below-clause-whole : goal.returns-then-has_all_below-clause-whole
returns-then-has_all_below-clause-whole c =
    let b = rw (c.text_in-text.ensures, c.as_slice.ensures.value) at
    (c.has_all_below.ensures c.if-has_all_below.true) in
    again_whole _ _ c.in_ok-nodes.nodes.items c.args.self.now c.self.view_is
    (below_again _ _ c.in_ok-nodes.nodes.items b c.in_ok-nodes.ensures)

pub returns-then-has_all_below-clause-alone : goal.returns-then-has_all_below-clause-alone
returns-then-has_all_below-clause-alone c =
    rest_alone _ c.in_ok-nodes.nodes.items
    (below_again _ _ c.in_ok-nodes.nodes.items (c.has_all_below.ensures c.if-has_all_below.true)
    c.in_ok-nodes.ensures).1

pub returns-then-has_all_below-clause-language : goal.returns-then-has_all_below-clause-language
returns-then-has_all_below-clause-language c =
    let b = rw (c.text_in-text.ensures, c.as_slice.ensures.value) at
    (c.has_all_below.ensures c.if-has_all_below.true) in
    again_language _ _ c.in_ok-nodes.nodes.items c.args.self.now c.self.view_is
    (below_again _ _ c.in_ok-nodes.nodes.items b c.in_ok-nodes.ensures)
