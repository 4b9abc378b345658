use Rattle.std.specs.Option.{option_copied}
use Rattle.file_paths.specs.PathRef.{path_of}
use Rattle.path_reasons.proofs.RouteLemmas.{next_cover, no_cover}
use Rattle.path_reasons.proofs.covering.last_cover.Goals as goal

pub lines-preserved : goal.lines-preserved
lines-preserved c = record {
  covered = c.later-found.ensures.covers;
  last = next_cover (path_of c.args.path.now) c.args.lines.now c.lines.line-index
      c.line-item.result (option_copied c.lines.found) _ _ c.lines-test.true c.line-item.is
      c.lines.invariant.last c.later-found.ensures.value;
}

pub returns-clause-value : goal.returns-clause-value
returns-clause-value c =
    no_cover (path_of c.args.path.now) c.args.lines.now c.lines.line-index
    (option_copied c.lines.found) _ c.lines-test.false c.lines.invariant.last
