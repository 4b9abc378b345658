use Rattle.std.proofs.Common.{◌∷◌, [], refl}
use Rattle.std.specs.Prelude.{filter}
use Rattle.file_paths.specs.Path.{path_text}
use Rattle.file_paths.specs.PathRef.{path_of}
use Rattle.path_reasons.specs.Members.{does_speak, specs_seen}
use Rattle.path_reasons.proofs.ListLemmas.{filter_step, next_part, no_part}
use Rattle.path_reasons.proofs.members.in_order.Goals as goal

pub specs-preserved : goal.specs-preserved
specs-preserved c =
    let p = does_speak (path_text (path_of c.args.path.now)) in
    next_part (filter p) (λ y. filter p (y ∷ [])) (filter_step p) c.args.specs.now
    c.specs.spec-index c.spec-item.result (specs_seen c.specs.found.items) _ _ c.specs-test.true
    c.spec-item.is c.specs.invariant c.in_ok-add_member.ensures

pub returns : goal.returns
returns c =
    let p = does_speak (path_text (path_of c.args.path.now)) in
    no_part (filter p) c.args.specs.now c.specs.spec-index (specs_seen c.specs.found.items) _ refl
    c.specs-test.false c.specs.invariant
