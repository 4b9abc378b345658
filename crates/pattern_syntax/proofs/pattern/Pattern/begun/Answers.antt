use Rattle.pattern_syntax.proofs.KeptLemmas.{begun_kept, begun_value}
use Rattle.pattern_syntax.proofs.pattern.Pattern.begun.Goals as goal

pub invariant_of-result : goal.invariant_of-result
invariant_of-result c =
    begun_kept c.in_ok-from_slice.field-0.items c.args.text.now c.args.count c.args.is_alone
    c.requires.within c.in_ok-from_slice.ensures.items c.requires.read

pub returns : goal.returns
returns c = begun_value c.in_ok-from_slice.field-0.items c.args.text.now
    c.in_ok-from_slice.ensures.items
