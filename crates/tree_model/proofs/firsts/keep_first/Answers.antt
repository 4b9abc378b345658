use Rattle.std.proofs.Common.{◌∙◌, ap, sym, cond}
use Rattle.std.specs.BTreeMap as tree
use Rattle.std.specs.Ordering.{is_eq}
use Rattle.std.specs.Prelude.{Some}
use Rattle.tree_model.specs.Firsts.{inode_cmp}
use Rattle.tree_model.proofs.InOrderLemmas.{first_here, put_again, put_new, shown_first}
use Rattle.tree_model.proofs.firsts.keep_first.Goals as goal

pub returns-in-Some-clause-put : goal.returns-in-Some-clause-put
returns-in-Some-clause-put c =
    put_again c.args.inodes.now c.args.e c.requires.within c.args.kept.now c.requires.put
    c.in-Some.first.now
    (ap (tree.get inode_cmp c.args.kept.now) (sym c.get-inode.ensures)
    ∙ sym c.in-Some.ensures.value)

pub returns-in-Some-clause-first : goal.returns-in-Some-clause-first
returns-in-Some-clause-first c =
    shown_first c.args.inodes.now c.args.e c.requires.within c.args.kept.now c.requires.put
    c.in-Some.first.now
    (ap (tree.get inode_cmp c.args.kept.now) (sym c.get-inode.ensures)
    ∙ sym c.in-Some.ensures.value)

pub returns-clause-put : goal.returns-clause-put
returns-clause-put c =
    put_new c.args.inodes.now c.args.e c.requires.within c.args.kept.now c.requires.put
    c.insert.new.self
    (ap (tree.get inode_cmp c.args.kept.now) (sym c.get-inode.ensures)
    ∙ sym c.in_default.ensures.value)
    (λ q. c.in_ok-insert.ensures.updates.0 q
    ∙ ap (λ i. cond (is_eq (inode_cmp i q)) (Some c.args.e) (tree.get inode_cmp c.args.kept.now q))
    c.get-inode.ensures)

pub returns-clause-first : goal.returns-clause-first
returns-clause-first c =
    first_here c.args.inodes.now c.args.e c.requires.within c.args.kept.now c.requires.put
    (ap (tree.get inode_cmp c.args.kept.now) (sym c.get-inode.ensures)
    ∙ sym c.in_default.ensures.value)
