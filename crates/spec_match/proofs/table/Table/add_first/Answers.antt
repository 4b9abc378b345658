use Rattle.std.proofs.Common.{◌∙◌, ap, map, subst, sym}
use Rattle.spec_match.specs.Remembering.{IsTableOf, kept}
use Rattle.spec_match.specs.StatesFor.{patterns_of, spec_in}
use Rattle.spec_match.specs.Written.{Written}
use Rattle.spec_match.proofs.TableLemmas.{nothing_kept}
use Rattle.spec_match.proofs.table.Table.add_first.Goals as goal

pub returns-then-not-start_all-clause-table : goal.returns-then-not-start_all-clause-table
returns-then-not-start_all-clause-table c =
    subst (λ k. IsTableOf (patterns_of c.args.rules.now) (map spec_in c.args.rules.now) k)
    (sym c.requires.kept
    ∙ ap (λ ls. kept c.args.self.now.cuts ls c.args.self.now.next.items
    c.args.self.now.answers.items c.args.self.now.stays.items)
    (sym (ap (λ (w : Written). w.lists) c.drop_draft.ensures ∙ c.start_all.ensures.lists)))
    (nothing_kept (patterns_of c.args.rules.now) (map spec_in c.args.rules.now)
    c.args.self.now.cuts)

pub returns-clause-table : goal.returns-clause-table
returns-clause-table c =
    let ps = patterns_of c.args.rules.now in
    let specs = map spec_in c.args.rules.now in
    let before =
    ap (λ ls. kept c.args.self.now.cuts ls c.args.self.now.next.items
    c.args.self.now.answers.items c.args.self.now.stays.items) c.start_all.ensures.lists
    ∙ c.requires.kept in
    c.add.ensures.table ps specs
    (subst (IsTableOf ps specs) (sym before) (nothing_kept ps specs c.args.self.now.cuts))
    (record {
      own = c.start_all.ensures.own c.if-not-start_all.false;
      first = λ _. c.start_all.ensures.alive c.if-not-start_all.false;
    })
