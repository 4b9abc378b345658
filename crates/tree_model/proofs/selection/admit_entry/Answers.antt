use Rattle.std.proofs.Common.{◌≡◌, ◌∙◌, ◌||◌, ◌<◌, true, false, get_or, length, refl, sym, rules}
use Rattle.std.proofs.Common.{arith}
use Rattle.std.proofs.lemmas.List.{get_or_read}
use Rattle.tree_model.specs.Selection.{admits, is_admitted}
use Rattle.tree_model.proofs.AdmittedLemmas.{flags_there}
use Rattle.tree_model.proofs.SelectLemmas.{flags_marked}
use Rattle.tree_model.proofs.selection.admit_entry.Goals as goal

pub returns-then-index : goal.returns-then-index
returns-then-index c = λ before flags.
    let within : c.args.o < length c.args.live.now.items =
    omega (arith, c.requires.within, c.requires.flags) in
    let set : c.index.result.now ≡ true = search rules in
    let there : get_or c.args.live.now.items c.args.o false ≡ true =
    sym (get_or_read c.args.live.now.items c.args.o c.index.result.now within c.index.ensures
    false) ∙ set in
    flags_there c.args.sorted.now c.args.choice.now before c.args.live.now.items c.args.o
    c.requires.within flags there

pub returns : goal.returns
returns c = λ before flags.
    flags_marked (length c.args.sorted.now) (is_admitted c.args.choice.now c.args.sorted.now before)
    (admits c.args.choice.now c.args.sorted.now c.args.o)
    (λ e. is_admitted c.args.choice.now c.args.sorted.now before e || admits c.args.choice.now
    c.args.sorted.now c.args.o e)
    c.args.live.now.items c.mark_operand.new.live.items flags c.mark_operand.ensures (λ e. refl)
