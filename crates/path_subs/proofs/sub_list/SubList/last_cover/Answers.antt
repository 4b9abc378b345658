use Rattle.std.proofs.Common.{◌≡◌, ◌∙◌, ap, sym}
use Rattle.std.specs.Prelude.{None, Some}
use Rattle.file_paths.specs.PathRef.{path_of}
use Rattle.path_subs.specs.Listed.{last_covering}
use Rattle.path_subs.specs.Subs.{covering}
use Rattle.path_subs.proofs.ListedLemmas.{covered_by, covering_none, covering_some, index_within}
use Rattle.path_subs.proofs.sub_list.SubList.last_cover.Goals as goal

pub get-requires : goal.get-requires
get-requires c =
    let shown : Some c.in-Some.index ≡ last_covering c.self.inside.lines (path_of c.args.path.now) =
    sym c.in-Some.is ∙ c.last_covering.ensures c.self.inside.lines
    (rw c.as_slice.ensures.value c.self.invariant) in
    index_within c.self.inside.lines (path_of c.args.path.now) c.in-Some.index shown

pub returns-in-Some-clause-value : goal.returns-in-Some-clause-value
returns-in-Some-clause-value c =
    let shown : Some c.in-Some.index ≡ last_covering c.self.inside.lines (path_of c.args.path.now) =
    sym c.in-Some.is ∙ c.last_covering.ensures c.self.inside.lines
    (rw c.as_slice.ensures.value c.self.invariant) in
    sym (covering_some c.self.inside.lines (path_of c.args.path.now) c.in-Some.index
    c.get.result.now c.get.ensures shown)
    ∙ ap (λ subs. covering subs (path_of c.args.path.now)) c.self.view_is

pub returns-in-Some-clause-covers : goal.returns-in-Some-clause-covers
returns-in-Some-clause-covers c =
    let shown : Some c.in-Some.index ≡ last_covering c.self.inside.lines (path_of c.args.path.now) =
    sym c.in-Some.is ∙ c.last_covering.ensures c.self.inside.lines
    (rw c.as_slice.ensures.value c.self.invariant) in
    covered_by c.self.inside.lines (path_of c.args.path.now) c.in-Some.index c.get.result.now
    c.get.ensures shown

pub returns-in-None-clause-value : goal.returns-in-None-clause-value
returns-in-None-clause-value c =
    let shown : None
    ≡ last_covering c.self.inside.lines (path_of c.args.path.now) = sym c.in-None.is
    ∙ c.last_covering.ensures c.self.inside.lines (rw c.as_slice.ensures.value c.self.invariant)
    in
    sym (covering_none c.self.inside.lines (path_of c.args.path.now) shown)
    ∙ ap (λ subs. covering subs (path_of c.args.path.now)) c.self.view_is
