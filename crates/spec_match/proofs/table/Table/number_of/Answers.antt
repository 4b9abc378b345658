use Rattle.std.proofs.Common.{◌∷◌, ◌∙◌, [], ap, append-nil, map, refl, rules, sym}
use Rattle.spec_match.specs.Remembering.{Kept}
use Rattle.spec_match.specs.StatesFor.{patterns_of, spec_in}
use Rattle.spec_match.specs.Written.{Written}
use Rattle.spec_match.proofs.TableLemmas.{added_last, can_be_added}
use Rattle.spec_match.proofs.table.Table.number_of.Goals as goal

pub note_stays-requires : goal.note_stays-requires
note_stays-requires c =
    let ps = patterns_of c.args.rules.now in
    let old = c.args.self.now.lists in
    let added = ap (λ (k : Kept). k.lists) c.in_ok-number-in-Err.ensures.some in
    record {
      states = c.requires.states;
      table = c.add.ensures.table ps (map spec_in c.args.rules.now) c.requires.table
          (can_be_added ps old c.requires.own c.requires.begun);
      number = (added_last old.lists c.add.new.self.lists.lists old.draft
          c.in_ok-number-in-Err.number added c.in_ok-number-in-Err.ensures.number).0;
    }

pub returns-in-Ok : goal.returns-in-Ok
returns-in-Ok c = rw c.drop_draft.ensures (record {
  states = c.requires.states;
  table = c.requires.table;
  cuts = refl;
  draft = refl;
  trail = refl;
  grown = ([], sym (append-nil c.args.self.now.lists.lists));
  within = c.in-Ok.ensures.within;
  found = c.in-Ok.ensures.found;
})

pub returns-in_err-number-in-Err : goal.returns-in_err-number-in-Err
returns-in_err-number-in-Err c =
    let ps = patterns_of c.args.rules.now in
    let old = c.args.self.now.lists in
    record {
      states = c.requires.states;
      table = c.add.ensures.table ps (map spec_in c.args.rules.now) c.requires.table
          (can_be_added ps old c.requires.own c.requires.begun);
      cuts = c.add.ensures.cuts;
      draft = c.add.ensures.draft;
      trail = c.add.ensures.trail;
      grown = (
        [],
        ap (λ (k : Kept). k.lists) c.in_err-number-in-Err.ensures.none
            ∙ sym (append-nil old.lists),
      );
      within = search rules;
      found = search rules;
    }

pub returns-in_ok-number-in-Err : goal.returns-in_ok-number-in-Err
returns-in_ok-number-in-Err c =
    let old = c.args.self.now.lists in
    let lists = ap (λ (w : Written). w.lists) c.note_stays.ensures.lists in
    let added = lists ∙ ap (λ (k : Kept). k.lists) c.in_ok-number-in-Err.ensures.some in
    let last = added_last old.lists c.note_stays.new.self.lists.lists old.draft
    c.in_ok-number-in-Err.number added c.in_ok-number-in-Err.ensures.number in
    record {
      states = c.note_stays.ensures.states;
      table = c.note_stays.ensures.table;
      cuts = c.note_stays.ensures.cuts ∙ c.add.ensures.cuts;
      draft = ap (λ (w : Written). w.draft) c.note_stays.ensures.lists ∙ c.add.ensures.draft;
      trail = c.note_stays.ensures.trail ∙ c.add.ensures.trail;
      grown = (old.draft ∷ [], added);
      within = last.0;
      found = last.1;
    }
