use Rattle.std.proofs.Common.{◌≡◌, ◌∙◌, sym, subst, length}
use Rattle.walk_steps.specs.Shaped.{IsValid}
use Rattle.tree_model.specs.Groups.{group_of}
use Rattle.tree_model.specs.Jobs.{shape_of}
use Rattle.tree_model.proofs.JobLemmas.{shape_is, shape_valid, shape_value, shown_all}
use Rattle.tree_model.proofs.KeptGroups.{group_count, group_shown}
use Rattle.tree_model.proofs.jobs.shape_in.Goals as goal

value : (c : goal.After-drop-jobs-2) → shape_value c.in_ok-all_parents.field-0
    c.in_ok-all_homes.field-0 c.in_ok-row_of.field-0 c.args.groups.now.total
    ≡ shape_of c.args.sorted.now
value c = shape_is c.args.sorted.now _ _ _ _ c.in_ok-all_parents.ensures c.in_ok-all_homes.ensures
    (c.in_ok-row_of.ensures ∙ c.as_slice-3.ensures.value
    ∙ shown_all (group_of c.args.sorted.now) (length c.args.sorted.now)
    c.args.groups.now.group_of.items
    (group_count c.args.sorted.now _ _ _ c.requires.groups.lists)
    (group_shown c.args.sorted.now _ _ _ c.requires.groups.lists))
    c.requires.groups.total_is

pub returns-clause-value : goal.returns-clause-value
returns-clause-value c = value c

pub returns-clause-valid : goal.returns-clause-valid
returns-clause-valid c =
    subst IsValid (sym (value c)) (shape_valid c.args.sorted.now c.requires.by_path)
