use Rattle.std.proofs.Common.{ap, sym}
use Rattle.std.specs.Prelude.{Ok}
use Rattle.policy_files.specs.Files.{version_specs}
use Rattle.run_input.proofs.ReadsLemmas.{followed, forgotten, refused, valued}
use Rattle.policy_files.proofs.reading.read_spec_list.Goals as goal

pub returns-in_err-first-clause-read : goal.returns-in_err-first-clause-read
unfolding version_specs
returns-in_err-first-clause-read g c = refused _ _ _ _ _ _ _ _ _ _ c.from_residual.ensures.1
    c.in_err-first.ensures.read

pub returns-in_err-home-clause-read : goal.returns-in_err-home-clause-read
unfolding version_specs
returns-in_err-home-clause-read g c =
    let home = rw c.len.ensures at c.in_err-home.ensures.read in
    followed _ _ _ _ _ _ _ _ _ _ _ c.in_ok-first.ensures.read
    (refused _ _ _ _ _ _ _ _ _ _ c.from_residual-in_err-home.ensures.1 home)

pub returns-in_err-local-clause-read : goal.returns-in_err-local-clause-read
unfolding version_specs
returns-in_err-local-clause-read g c =
    let home = rw c.len.ensures at c.in_ok-home.ensures.read in
    let local = rw (c.len.ensures, c.len-2.ensures) at c.in_err-local.ensures.read in
    followed _ _ _ _ _ _ _ _ _ _ _ c.in_ok-first.ensures.read
    (followed _ _ _ _ _ _ _ _ _ _ _ home
    (refused _ _ _ _ _ _ _ _ _ _ c.from_residual-in_err-local.ensures.1 local))

pub returns-in_err-ordered-clause-read : goal.returns-in_err-ordered-clause-read
unfolding version_specs
returns-in_err-ordered-clause-read g c =
    let home = rw c.len.ensures at c.in_ok-home.ensures.read in
    let local = rw (c.len.ensures, c.len-2.ensures) at c.in_ok-local.ensures.read in
    followed _ _ _ _ _ _ _ _ _ _ _ c.in_ok-first.ensures.read
    (followed _ _ _ _ _ _ _ _ _ _ _ home
    (forgotten _ _ _ _ _ _ _ _ _ _ c.from_residual-in_err-ordered.ensures.1 local))

pub returns-clause-read : goal.returns-clause-read
unfolding version_specs
returns-clause-read g c =
    let home = rw c.len.ensures at c.in_ok-home.ensures.read in
    let local = rw (c.len.ensures, c.len-2.ensures) at c.in_ok-local.ensures.read in
    followed _ _ _ _ _ _ _ _ _ _ _ c.in_ok-first.ensures.read
    (followed _ _ _ _ _ _ _ _ _ _ _ home
    (valued _ _ _ _ _ _ _ _ _ _ local (λ fs. ap Ok (sym c.in_ok-ordered.ensures.list))))
