use Rattle.std.proofs.Common.{◌∙◌, ap, sym}
use Rattle.std.specs.Prelude.{slice_get}
use Rattle.tree_model.specs.Jobs.{directories_in}
use Rattle.tree_model.proofs.NextLemmas.{next_none, next_some}
use Rattle.tree_model.proofs.jobs.is_next.Goals as goal

pub returns-in-Some : goal.returns-in-Some
returns-in-Some c =
    next_some c.args.sorted.now c.args.e c.in-Some.d c.requires.known
    (ap (slice_get (directories_in c.args.sorted.now)) (sym c.requires.before)
    ∙ ap (λ xs. slice_get xs c.args.before) (sym c.requires.all)
    ∙ sym c.number_at.ensures ∙ c.in-Some.is)

pub returns-in-None : goal.returns-in-None
returns-in-None c =
    next_none c.args.sorted.now c.args.e c.requires.known
    (ap (slice_get (directories_in c.args.sorted.now)) (sym c.requires.before)
    ∙ ap (λ xs. slice_get xs c.args.before) (sym c.requires.all)
    ∙ sym c.number_at.ensures ∙ c.in-None.is)
