use Rattle.std.proofs.Common.{rules, ◌∙◌, ◌<◌, ◌^◌, length, ap, ap₂, arith}
use Rattle.relabel_core.specs.Numbers.{entered_if}
use Rattle.relabel_core.specs.Walked.{walk_of}
use Rattle.relabel_core.proofs.NotedLemmas.{few_indices, gives_is, noted_more}
use Rattle.relabel_core.proofs.noting.note_entry.Goals as goal

pub returns-clause-noted : goal.returns-clause-noted
returns-clause-noted c =
    let input = c.args.input.now in
    let noted = c.args.noted.now in
    let fits : c.len.result < 2 ^ 32 = search rules in
    noted_more (walk_of input) c.args.e noted.decided.items noted.winners.items
    c.put_number.new.numbers.items c.enter_if.new.numbers.items
    c.args.found c.does_give.result c.requires.noted c.requires.entry
    (omega (arith, c.requires.entry, c.requires.fit.few))
    c.requires.found
    c.does_give.ensures
    (few_indices c.args.found (length input.rules.now.rules) c.requires.within
    (omega (arith, c.len.ensures, fits)))
    c.put_number.ensures
    (c.enter_if.ensures ∙ ap (λ g. entered_if c.does_give.result noted.winners.items g c.args.e)
    c.group-group.ensures.value)

pub returns-clause-winners : goal.returns-clause-winners
returns-clause-winners c =
    let noted = c.args.noted.now in
    c.enter_if.ensures
    ∙ ap₂ (λ gives g. entered_if gives noted.winners.items g c.args.e)
    (gives_is (walk_of c.args.input.now) c.args.e c.args.found c.does_give.result c.requires.found
    c.does_give.ensures) c.group-group.ensures.value
