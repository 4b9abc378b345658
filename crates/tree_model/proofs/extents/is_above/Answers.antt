use Rattle.std.proofs.Common.{◌∙◌, ap, sym}
use Rattle.std.proofs.lemmas.Bool.{le-ltb, lt-ltb}
use Rattle.std.specs.Prelude.{◌&&◌, get_or, nat_lt}
use Rattle.tree_model.specs.Extents.{is_directory}
use Rattle.tree_model.proofs.ParentLemmas.{above_is}
use Rattle.tree_model.proofs.extents.is_above.Goals as goal

pub returns-then-e-word_at : goal.returns-then-e-word_at
returns-then-e-word_at c =
    let test = lt-ltb c.args.e (get_or c.args.ends.now c.args.d 0)
    (rw c.word_at.ensures at c.if-e-word_at.true) in
    c.is_directory.ensures ∙ sym (ap (λ b. b && is_directory c.args.sorted.now c.args.d) test)
    ∙ above_is c.args.sorted.now c.requires.by_path c.args.ends.now c.args.d c.args.e
    c.requires.ends c.requires.before c.requires.known

pub returns-else-e-word_at : goal.returns-else-e-word_at
returns-else-e-word_at c =
    let test = le-ltb c.args.e (get_or c.args.ends.now c.args.d 0)
    (rw c.word_at.ensures at c.if-e-word_at.false) in
    ap (nat_lt c.args.e) c.word_at.ensures ∙ test
    ∙ sym (ap (λ b. b && is_directory c.args.sorted.now c.args.d) test)
    ∙ above_is c.args.sorted.now c.requires.by_path c.args.ends.now c.args.d c.args.e
    c.requires.ends c.requires.before c.requires.known
