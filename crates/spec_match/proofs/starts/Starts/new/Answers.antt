use Rattle.std.proofs.Common.{◌≡◌, ◌∙◌, ◌+◌, ◌*◌, ◌%◌, ◌<◌, ◌++◌, ◌∷◌, [], ap, arith, length, set}
use Rattle.std.proofs.Common.{slice_index, subst, sym}
use Rattle.std.proofs.lemmas.List.{get_or_default}
use Rattle.pattern_syntax.specs.Literal.{literal_start_of}
use Rattle.spec_match.specs.Alive.{pattern_at}
use Rattle.spec_match.specs.Chains.{AreChained, hashed, own_bucket}
use Rattle.spec_match.specs.StatesFor.{patterns_of}
use Rattle.spec_match.specs.declared.compiled_spec.CompiledSpec.{CompiledSpec}
use Rattle.spec_match.proofs.AnswerLemmas.{pattern_of_rule}
use Rattle.spec_match.proofs.ChainLemmas.{chained_on}
use Rattle.spec_match.proofs.starts.Starts.new.Goals as goal

pub rules-preserved : goal.rules-preserved
rules-preserved c =
    let rules = c.args.rules.now in
    let count = 2 * length rules + 1 in
    let i = c.rules.i in
    let heads = c.rules.heads.items in
    let rule = c.index-rules-i.result in
    let bucket = c.hash_of-hash.result % count in
    let pattern : rule.spec.pattern ≡ pattern_at (patterns_of rules) i =
    ap (λ (r : CompiledSpec). r.spec.pattern) c.index-rules-i.is
    ∙ pattern_of_rule rules i rule (omega arith) in
    let own : bucket ≡ own_bucket rules count i =
    ap (λ h. h % count)
    (c.hash_of-hash.ensures ∙ ap (hashed 0) (c.start.ensures ∙ ap literal_start_of pattern)) in
    let within : bucket < count = omega arith in
    let last : c.index-last.result.now ≡ slice_index heads bucket = c.index-last.ensures
    ∙ sym (get_or_default heads bucket 0 c.index-last.result.now
    (omega (arith, within, c.rules.invariant.buckets))) in
    let more = c.in_ok-push.ensures.items ∙ ap (λ x. c.rules.previous.items ++ x ∷ []) last in
    subst (AreChained rules count (i + 1) (set heads bucket (i + 1))) (sym more)
    (chained_on rules count i bucket heads c.rules.previous.items own within c.rules.invariant)
