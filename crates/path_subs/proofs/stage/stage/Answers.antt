use Rattle.std.proofs.Common.{◌∙◌, ap}
use Rattle.std.specs.Prelude.{is_some}
use Rattle.file_paths.specs.PathRef.{path_of}
use Rattle.path_subs.proofs.Covering.{is_some_covering}
use Rattle.path_subs.proofs.stage.stage.Goals as goal

pub returns-in_ok-replaced-in-Some-clause-variant :
    goal.returns-in_ok-replaced-in-Some-clause-variant
returns-in_ok-replaced-in-Some-clause-variant c = ap is_some c.in-Some.ensures.value
    ∙ is_some_covering c.args.subs.now (path_of c.args.path.now)

pub returns-in-None-clause-variant : goal.returns-in-None-clause-variant
returns-in-None-clause-variant c = ap is_some c.in-None.ensures.value
    ∙ is_some_covering c.args.subs.now (path_of c.args.path.now)
