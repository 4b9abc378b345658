use Rattle.std.proofs.Common.{◌≡◌, ◌+◌, ◌<◌, subst, length, arith}
use Rattle.std.specs.Prelude.{Ok, Err}
use Rattle.std.specs.List.Sorted.{IsBinarySearchResult}
use Rattle.std.specs.Ordering.{nat_cmp}
use Rattle.tree_model.specs.Jobs.{job_of}
use Rattle.tree_model.proofs.JobLaws.{searched_job}
use Rattle.tree_model.proofs.jobs.job_in.Goals as goal

pub overflow_cast-result : goal.overflow_cast-result
overflow_cast-result c =
    let s : (c.in-Ok.index + 1 ≡ job_of c.args.sorted.now c.args.d)
    × (c.in-Ok.index < length c.args.sorted.now) =
    searched_job c.args.sorted.now c.args.directories.now c.args.d (Ok c.in-Ok.index) c.requires.all
    c.requires.known c.requires.directory
    (subst (λ r. IsBinarySearchResult (λ y. nat_cmp y c.args.d) c.args.directories.now r) c.in-Ok.is
    c.binary_search.ensures.position) in
    omega (arith, s.1, c.len-count.ensures, c.len-count.type_inv)

pub overflow_add-result : goal.overflow_add-result
overflow_add-result c =
    let s : (c.in-Ok.index + 1 ≡ job_of c.args.sorted.now c.args.d)
    × (c.in-Ok.index < length c.args.sorted.now) =
    searched_job c.args.sorted.now c.args.directories.now c.args.d (Ok c.in-Ok.index) c.requires.all
    c.requires.known c.requires.directory
    (subst (λ r. IsBinarySearchResult (λ y. nat_cmp y c.args.d) c.args.directories.now r) c.in-Ok.is
    c.binary_search.ensures.position) in
    omega (arith, s.1, c.len-count.ensures, c.len-count.type_inv)

pub unreachable-requires : goal.unreachable-requires
unreachable-requires c =
    searched_job c.args.sorted.now c.args.directories.now c.args.d (Err c.in-Err.field-0)
    c.requires.all c.requires.known c.requires.directory
    (subst (λ r. IsBinarySearchResult (λ y. nat_cmp y c.args.d) c.args.directories.now r)
    c.in-Err.is c.binary_search.ensures.position)

pub returns : goal.returns
returns c =
    let s : (c.in-Ok.index + 1 ≡ job_of c.args.sorted.now c.args.d)
    × (c.in-Ok.index < length c.args.sorted.now) =
    searched_job c.args.sorted.now c.args.directories.now c.args.d (Ok c.in-Ok.index) c.requires.all
    c.requires.known c.requires.directory
    (subst (λ r. IsBinarySearchResult (λ y. nat_cmp y c.args.d) c.args.directories.now r) c.in-Ok.is
    c.binary_search.ensures.position) in
    s.0
