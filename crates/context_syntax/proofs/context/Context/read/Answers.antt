use Rattle.std.proofs.Common.{◌∙◌, ap, sym, arith, rules}
use Rattle.context_syntax.specs.Context.{is_range}
use Rattle.context_syntax.proofs.ContextText.{read_text}
use Rattle.context_syntax.proofs.Spelling.{no_spelling, sound}
use Rattle.context_syntax.proofs.WordLemmas.{behind_within, no_kind, no_range, no_role, no_user}
use Rattle.context_syntax.proofs.context.Context.read.Goals as goal

pub returns-clause-spelled : goal.returns-clause-spelled
returns-clause-spelled c = sound _ _ (search rules)

pub returns-in_default-clause-no_context : goal.returns-in_default-clause-no_context
returns-in_default-clause-no_context c = λ _.
    no_spelling c.args.bytes.now (no_user c.args.bytes.now c.in_default.ensures.none)

pub returns-in_default-behind_word-clause-no_context :
    goal.returns-in_default-behind_word-clause-no_context
returns-in_default-behind_word-clause-no_context c = λ _.
    no_spelling c.args.bytes.now (no_role c.args.bytes.now c.in-Some.rest.now
    c.in-Some.ensures.some.0 c.in-Some.ensures.some.1 c.in_default-behind_word.ensures.none)

pub returns-in_default-cut_word-clause-no_context :
    goal.returns-in_default-cut_word-clause-no_context
returns-in_default-cut_word-clause-no_context c = λ _.
    no_spelling c.args.bytes.now (no_kind c.args.bytes.now c.in-Some.rest.now
    c.in-Some-behind_word.rest.now c.in-Some.ensures.some.0 c.in-Some-behind_word.ensures.some.0
    c.in-Some.ensures.some.1 c.in-Some-behind_word.ensures.some.1
    c.in_default-cut_word.ensures.none)

pub returns-then-not-is_range_or_none-clause-no_context :
    goal.returns-then-not-is_range_or_none-clause-no_context
returns-then-not-is_range_or_none-clause-no_context c = λ _.
    no_spelling c.args.bytes.now (no_range c.args.bytes.now c.in-Some.rest.now
    c.in-Some-behind_word.rest.now c.in-Some.ensures.some.0 c.in-Some-behind_word.ensures.some.0
    c.in-Some.ensures.some.1 c.in-Some-behind_word.ensures.some.1 c.in-Some-cut_word.ensures.word
    (ap is_range (sym c.in-Some-cut_word.ensures.behind) ∙ sym c.is_range_or_none.ensures
    ∙ c.if-not-is_range_or_none.true))

pub overflow_sub-kind_at : goal.overflow_sub-kind_at
overflow_sub-kind_at c =
    let first = behind_within c.args.bytes.now c.in-Some.rest.now c.in-Some.ensures.some.0 in
    let second = behind_within c.in-Some.rest.now c.in-Some-behind_word.rest.now
    c.in-Some-behind_word.ensures.some.0 in
    omega (arith, first, second)

pub kept-requires : goal.kept-requires
kept-requires c =
    read_text c.args.bytes.now c.in-Some.rest.now c.in-Some-behind_word.rest.now _
    c.in-Some.ensures.some.0 c.in-Some-behind_word.ensures.some.0
    c.in-Some-cut_word.ensures.front c.in-Some.ensures.some.1
    c.in-Some-behind_word.ensures.some.1 c.in-Some-cut_word.ensures.word
    (ap is_range (sym c.in-Some-cut_word.ensures.behind) ∙ sym c.is_range_or_none.ensures
    ∙ c.if-not-is_range_or_none.false)
