use Rattle.std.proofs.Common.{◌≡◌, ◌∙◌, ap, sym, arith}
use Rattle.std.specs.Prelude.{None, Some}
use Rattle.tree_model.specs.Extents.{parent_of, parent_read}
use Rattle.tree_model.proofs.JobLemmas.{home_none, home_some, parent_known}
use Rattle.tree_model.proofs.jobs.home_of.Goals as goal

pub word_at-requires-in-Some : goal.word_at-requires-in-Some
word_at-requires-in-Some c =
    let there : parent_of c.args.sorted.now c.args.e ≡ Some c.in-Some.d =
    sym (c.parent_read.ensures ∙ ap parent_read c.word_at.ensures
    ∙ c.requires.parents.each c.args.e c.requires.known) ∙ c.in-Some.is in
    let known = parent_known c.args.sorted.now c.args.e c.in-Some.d there in
    omega (arith, known.0, c.requires.jobs.sized)

pub returns-in-Some : goal.returns-in-Some
returns-in-Some c =
    let there : parent_of c.args.sorted.now c.args.e ≡ Some c.in-Some.d =
    sym (c.parent_read.ensures ∙ ap parent_read c.word_at.ensures
    ∙ c.requires.parents.each c.args.e c.requires.known) ∙ c.in-Some.is in
    let known = parent_known c.args.sorted.now c.args.e c.in-Some.d there in
    c.word_at-in-Some.ensures ∙ c.requires.jobs.each c.in-Some.d known.0
    ∙ home_some c.args.sorted.now c.args.e c.in-Some.d there

pub returns-in-None : goal.returns-in-None
returns-in-None c =
    let there : parent_of c.args.sorted.now c.args.e ≡ None =
    sym (c.parent_read.ensures ∙ ap parent_read c.word_at.ensures
    ∙ c.requires.parents.each c.args.e c.requires.known) ∙ c.in-None.is in
    sym (home_none c.args.sorted.now c.args.e there)
