use Rattle.std.proofs.Common.{◌≡◌, ◌∙◌, sym, subst, true}
use Rattle.std.specs.Prelude.{not}
use Rattle.std.specs.Cmp.{first_so}
use Rattle.dir_queue.specs.Passes.{MayOffer}
use Rattle.dir_queue.specs.Answers.{queue_view, queue_shape}
use Rattle.tree_model.specs.Extents.{is_directory}
use Rattle.relabel_core.specs.Walk.{skippable}
use Rattle.relabel_core.specs.Walked.{walk_of}
use Rattle.relabel_workers.specs.Worked.{is_to_be_given}
use Rattle.relabel_workers.proofs.ShareLemmas.{offer_right}
use Rattle.relabel_workers.proofs.job.give_job.Goals as goal

pub job_of-requires-clause-directory : goal.job_of-requires-clause-directory
job_of-requires-clause-directory g c =
    let w = walk_of c.args.site.now.input.now in
    first_so (is_directory w.entries c.args.e) (not (skippable w c.args.e))
    (sym c.is_to_be_given.ensures ∙ c.if-not-is_to_be_given.false)

pub offer-requires-clause-may : goal.offer-requires-clause-may
offer-requires-clause-may g c =
    let w = walk_of c.args.site.now.input.now in
    let give : is_to_be_given w c.args.e ≡ true = sym c.is_to_be_given.ensures
    ∙ c.if-not-is_to_be_given.false in
    subst (MayOffer (queue_view c.args.pass.now)) (sym c.job_of.ensures)
    (offer_right w c.rises.ensures (queue_view c.args.pass.now)
    (queue_shape c.args.site.now.queue.now)
    c.args.e c.requires.pass.parents c.requires.site.shape c.requires.entry give c.requires.home
    (c.requires.new give))
