use Rattle.std.proofs.Common.{◌≡◌, ◌∙◌, ◌++◌, ◌<◌, ap, sym, refl, subst, append-nil, drop, IfOk}
use Rattle.std.proofs.Common.{OnOk}
use Rattle.std.specs.Prelude.{Some, None}
use Rattle.tool_words.specs.declared.letters.Takes.TheVariants.{Flag as Alone}
use Rattle.tool_words.proofs.LetterLemmas.{alone_ascii, alone_more, letter_more, letters_end}
use Rattle.tool_words.proofs.LetterLemmas.{value_ascii}
use Rattle.tool_words.proofs.cutting.add_letters.Goals as goal

pub first_byte-letter-requires-text-text : goal.first_byte-letter-requires-text-text
first_byte-letter-requires-text-text c κs = c.letters.invariant.text

pub behind_first-requires-clause-ascii : goal.behind_first-requires-clause-ascii
behind_first-requires-clause-ascii c =
    subst (λ b. b < 128) (sym c.first_byte-letter.ensures)
    (value_ascii c.args.tool.now _ _
    (sym (rw c.in-Some-Value.field-0-is at c.in-Some-Value.ensures.value)))

pub behind_first-left-requires-clause-ascii : goal.behind_first-left-requires-clause-ascii
behind_first-left-requires-clause-ascii c =
    subst (λ b. b < 128) (sym c.first_byte-letter.ensures)
    (alone_ascii c.args.tool.now _
    (sym (rw c.in-Some-Flag.field-0-is at c.in-Some-Flag.ensures.value)))

pub returns-in-Some-Value-clause-expects : goal.returns-in-Some-Value-clause-expects
returns-in-Some-Value-clause-expects c =
    let says = letter_more c.args.tool.now c.args.index c.letters.left.now
    c.behind_first.result.now _ _ c.letters-test.true c.first_byte-letter.ensures
    (rw c.in-Some-Value.field-0-is at c.in-Some-Value.ensures.value) c.behind_first.ensures in
    subst (λ e. IfOk c.add_valued.result (λ expects. expects ≡ e))
    (sym (ap (λ s. s.1) says) ∙ c.letters.invariant.expects) c.add_valued.ensures.expects

pub returns-in-Some-Value-clause-items : goal.returns-in-Some-Value-clause-items
returns-in-Some-Value-clause-items c =
    let says = letter_more c.args.tool.now c.args.index c.letters.left.now
    c.behind_first.result.now _ _ c.letters-test.true c.first_byte-letter.ensures
    (rw c.in-Some-Value.field-0-is at c.in-Some-Value.ensures.value) c.behind_first.ensures in
    subst (λ xs. OnOk c.add_valued.result (c.add_valued.new.items ≡ xs))
    (sym (ap (λ s. c.letters.items ++ s.0) says) ∙ c.letters.invariant.items)
    c.add_valued.ensures.items

pub returns-in-None-clause-expects : goal.returns-in-None-clause-expects
returns-in-None-clause-expects c =
    let says = letter_more c.args.tool.now c.args.index c.letters.left.now
    (drop 1 c.letters.left.now) _ None c.letters-test.true c.first_byte-letter.ensures
    c.in-None.ensures.value refl in
    subst (λ e. IfOk c.add_refused.result (λ expects. expects ≡ e))
    (sym (ap (λ s. s.1) says) ∙ c.letters.invariant.expects) c.add_refused.ensures.expects

pub returns-in-None-clause-items : goal.returns-in-None-clause-items
returns-in-None-clause-items c =
    let says = letter_more c.args.tool.now c.args.index c.letters.left.now
    (drop 1 c.letters.left.now) _ None c.letters-test.true c.first_byte-letter.ensures
    c.in-None.ensures.value refl in
    subst (λ xs. OnOk c.add_refused.result (c.add_refused.new.items ≡ xs))
    (sym (ap (λ s. c.letters.items ++ s.0) says) ∙ c.letters.invariant.items)
    c.add_refused.ensures.items

pub letters-preserved : goal.letters-preserved
letters-preserved c =
    let says = letter_more c.args.tool.now c.args.index c.letters.left.now
    c.behind_first-left.result.now _ (Some Alone) c.letters-test.true
    c.first_byte-letter.ensures
    (rw c.in-Some-Flag.field-0-is at c.in-Some-Flag.ensures.value)
    c.behind_first-left.ensures in
    record {
      items = alone_more c.args.tool.now c.args.index c.letters.left.now
          c.behind_first-left.result.now c.args.letters.now _ c.letters.items c.add.new.items
          c.args.items.now says c.in_ok-add-in-Some-Flag.ensures c.letters.invariant.items;
      expects = sym (ap (λ s. s.1) says) ∙ c.letters.invariant.expects;
      text = c.behind_first-left.utf8;
    }

pub returns-clause-expects : goal.returns-clause-expects
returns-clause-expects c =
    sym (ap (λ s. s.1)
    (letters_end c.args.tool.now c.args.index c.letters.left.now c.letters-test.false))
    ∙ c.letters.invariant.expects

pub returns-clause-items : goal.returns-clause-items
returns-clause-items c =
    sym (append-nil _)
    ∙ sym (ap (λ s. c.letters.items ++ s.0)
    (letters_end c.args.tool.now c.args.index c.letters.left.now c.letters-test.false))
    ∙ c.letters.invariant.items
