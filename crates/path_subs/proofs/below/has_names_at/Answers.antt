use Rattle.std.proofs.Common.{◌∙◌, sym, arith}
use Rattle.file_paths.specs.PathRef.{path_of}
use Rattle.path_subs.proofs.NamesAt.{other_name, same_name}
use Rattle.path_subs.proofs.below.has_names_at.Goals as goal

pub returns-then-ne : goal.returns-then-ne
returns-then-ne c =
    sym (c.names.invariant.same ∙ other_name (path_of c.args.path.now) (path_of c.args.other.now)
    c.names.place c.names.i c.name-in-names.result.now c.name.result.now
    c.name-in-names.ensures.value c.name.ensures.value (sym c.ne.ensures ∙ c.if-ne.true))

pub names-preserved : goal.names-preserved
names-preserved c = record {
  same = c.names.invariant.same ∙ same_name (path_of c.args.path.now) (path_of c.args.other.now)
      c.names.place c.names.i c.name-in-names.result.now c.name.result.now
      c.name-in-names.ensures.value c.name.ensures.value (sym c.ne.ensures ∙ c.if-ne.false);
  within = omega arith;
}
