use Rattle.std.proofs.Common.{◌∷◌, ◌∙◌, [], ◌≡◌, ◌<◌, ◌+◌, ◌*◌, ap, arith, length, map, rules, set}
use Rattle.std.proofs.Common.{subst, sym}
use Rattle.spec_match.specs.Alive.{LeadsBy, alive_list}
use Rattle.spec_match.specs.Listed.{IsListed}
use Rattle.spec_match.specs.Remembering.{IsGrown, IsTableOf, Kept, kept}
use Rattle.spec_match.specs.StatesFor.{patterns_of, spec_in}
use Rattle.spec_match.specs.Tables.{kept_in, list_for}
use Rattle.spec_match.specs.Written.{Written}
use Rattle.spec_match.proofs.TableLemmas.{grown_by, grown_longer, kept_same, step_noted}
use Rattle.spec_match.proofs.table.Table.learn.Goals as goal

pub step_all-requires : goal.step_all-requires
step_all-requires c = record {
  states = c.requires.states;
  own = c.requires.table.own;
  draft = c.requires.draft;
  from = c.requires.from;
  some = omega (arith, c.if-byte-eq0.false);
}

pub number_of-requires : goal.number_of-requires
number_of-requires c = record {
  states = c.step_all.ensures.states;
  table = rw c.step_all.ensures.lists c.requires.table;
  own = c.step_all.ensures.own c.if-not-step_all.false;
  begun = rw c.step_all.ensures.lists c.requires.begun;
}

pub returns-then-not-step_all : goal.returns-then-not-step_all
returns-then-not-step_all c =
    let old = c.args.self.now in
    let lists = ap (λ (w : Written). w.lists) c.drop_draft.ensures ∙ c.step_all.ensures.lists in
    let as_before = c.fill.ensures.kept
    ∙ ap (λ ls. kept old.cuts ls old.next.items old.answers.items old.stays.items) lists in
    let same = kept_same (patterns_of c.args.rules.now) (map spec_in c.args.rules.now) (kept_in old)
    (kept_in c.fill.new.self) as_before c.requires.table c.requires.begun in
    record {
      states = c.step_all.ensures.states;
      table = same.0;
      cuts = ap (λ (k : Kept). k.cuts) as_before;
      draft = c.fill.ensures.draft ∙ ap (λ (w : Written). w.draft) c.drop_draft.ensures;
      begun = same.1;
      grown = same.2;
      trail = c.fill.ensures.trail;
      within = tt;
      leads = tt;
    }

pub returns-in-None : goal.returns-in-None
returns-in-None c =
    let old = c.args.self.now.lists.lists in
    let table = c.number_of.new.self in
    let grown = subst (λ ls. IsGrown ls table.lists.lists) c.step_all.ensures.lists
    c.number_of.ensures.grown in
    let begun : 0 < length table.lists.lists =
    omega (arith, c.requires.begun, grown_longer old table.lists.lists grown) in
    let same = kept_same (patterns_of c.args.rules.now) (map spec_in c.args.rules.now)
    (kept_in table) (kept_in c.fill-in-None.new.self) c.fill-in-None.ensures.kept
    c.number_of.ensures.table begun in
    record {
      states = c.number_of.ensures.states;
      table = same.0;
      cuts = ap (λ (k : Kept). k.cuts) c.fill-in-None.ensures.kept ∙ c.number_of.ensures.cuts;
      draft = c.fill-in-None.ensures.draft ∙ c.number_of.ensures.draft;
      begun = same.1;
      grown = subst (λ ls. IsGrown old ls)
          (sym (ap (λ (k : Kept). k.lists) c.fill-in-None.ensures.kept)) grown;
      trail = c.fill-in-None.ensures.trail ∙ c.number_of.ensures.trail;
      within = tt;
      leads = tt;
    }

pub returns-in_default : goal.returns-in_default
returns-in_default c =
    let old = c.args.self.now.lists.lists in
    let new = c.number_of.new.self.lists.lists in
    let grown = subst (λ ls. IsGrown ls new) c.step_all.ensures.lists c.number_of.ensures.grown in
    record {
      states = c.number_of.ensures.states;
      table = c.number_of.ensures.table;
      cuts = c.number_of.ensures.cuts;
      draft = c.number_of.ensures.draft;
      begun = omega (arith, c.requires.begun, grown_longer old new grown);
      grown = grown;
      trail = c.number_of.ensures.trail;
      within = c.in-Some.ensures.within;
      leads = rw c.in-Some.ensures.found (c.step_all.ensures.leads c.if-not-step_all.false);
    }

pub returns-in-Ok : goal.returns-in-Ok
returns-in-Ok c =
    let ps = patterns_of c.args.rules.now in
    let specs = map spec_in c.args.rules.now in
    let from = c.args.from in
    let IsFor = list_for c.args.rules.now c.args.self.now in
    let old = c.args.self.now.lists.lists in
    let table = c.number_of.new.self in
    let new = table.lists.lists in
    let grown = subst (λ ls. IsGrown ls new) c.step_all.ensures.lists c.number_of.ensures.grown in
    let longer = grown_longer old new grown in
    let leads = subst (λ l. LeadsBy IsFor (c.args.byte ∷ []) (alive_list old from) l)
    (sym c.in-Some.ensures.found) (c.step_all.ensures.leads c.if-not-step_all.false) in
    let there = subst
    (λ cuts. LeadsBy (IsListed cuts ps specs) (c.args.byte ∷ []) (alive_list new from)
    (alive_list new c.in-Some.to)) (sym c.number_of.ensures.cuts)
    (subst (λ l. LeadsBy IsFor (c.args.byte ∷ []) l (alive_list new c.in-Some.to))
    (sym (grown_by old new from grown c.requires.from)) leads) in
    let same : c.in-Some.to ≡ c.in-Ok.noted = search rules in
    record {
      states = c.number_of.ensures.states;
      table = subst
          (λ n. IsTableOf ps specs
          (kept table.cuts new (set table.next.items (256 * from + c.args.byte) n)
          table.answers.items table.stays.items)) same
          (step_noted ps specs (kept_in table) from c.args.byte c.in-Some.to
          c.number_of.ensures.table (omega (arith, c.requires.from, longer)) (omega arith)
          c.in-Some.ensures.within there);
      cuts = c.number_of.ensures.cuts;
      draft = c.number_of.ensures.draft;
      begun = omega (arith, c.requires.begun, longer);
      grown = grown;
      trail = c.number_of.ensures.trail;
      within = c.in-Some.ensures.within;
      leads = leads;
    }
