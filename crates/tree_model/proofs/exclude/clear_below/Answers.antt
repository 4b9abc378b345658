use Rattle.std.proofs.Common.{◌∙◌, refl, sym, arith}
use Rattle.file_paths.specs.PathRef.{path_of}
use Rattle.tree_model.proofs.ExcludeLemmas.{under_all, under_more, under_none, under_step}
use Rattle.tree_model.proofs.ExcludeLemmas.{under_upto, under_within}
use Rattle.tree_model.proofs.exclude.clear_below.Goals as goal

pub extents-init : goal.extents-init
extents-init c = record {
  from = omega arith;
  flags = refl;
  cleared = under_none c.args.sorted.now c.requires.by_path c.args.ends.now c.requires.ends
      (path_of c.args.path.now) c.first_from-first.result c.args.live.now.items c.requires.flags
      c.first_from-first.ensures;
}

pub fill-requires-clause-order : goal.fill-requires-clause-order
fill-requires-clause-order c =
    let more = under_more c.args.sorted.now c.requires.by_path c.args.ends.now c.requires.ends
    (path_of c.args.path.now) c.extents.c (sym c.is_below.ensures ∙ c.extents-test.true) in
    omega (arith, more)

pub fill-requires-clause-within : goal.fill-requires-clause-within
fill-requires-clause-within c =
    let upto = under_upto c.args.sorted.now c.requires.by_path c.args.ends.now c.requires.ends
    (path_of c.args.path.now) c.extents.c (sym c.is_below.ensures ∙ c.extents-test.true) in
    omega (arith, upto, c.extents.invariant.flags, c.requires.flags)

pub extents-smaller : goal.extents-smaller
extents-smaller c =
    let more = under_more c.args.sorted.now c.requires.by_path c.args.ends.now c.requires.ends
    (path_of c.args.path.now) c.extents.c (sym c.is_below.ensures ∙ c.extents-test.true) in
    let within = under_within c.args.sorted.now c.requires.by_path c.args.ends.now c.requires.ends
    (path_of c.args.path.now) c.extents.c (sym c.is_below.ensures ∙ c.extents-test.true) in
    omega (arith, more, within)

pub extents-preserved : goal.extents-preserved
extents-preserved c =
    let more = under_more c.args.sorted.now c.requires.by_path c.args.ends.now c.requires.ends
    (path_of c.args.path.now) c.extents.c (sym c.is_below.ensures ∙ c.extents-test.true) in
    record {
      from = omega (arith, more, c.extents.invariant.from);
      flags = c.fill.ensures.sized ∙ c.extents.invariant.flags;
      cleared = under_step c.args.sorted.now c.requires.by_path c.args.ends.now c.requires.ends
          (path_of c.args.path.now) c.extents.c (sym c.is_below.ensures ∙ c.extents-test.true)
          c.args.live.now.items c.extents.live.items c.fill.new.live.items
          c.extents.invariant.cleared
          c.fill.ensures;
    }

pub returns : goal.returns
returns c = under_all c.args.sorted.now c.requires.by_path c.args.ends.now c.requires.ends
    (path_of c.args.path.now) c.first_from-first.result c.extents.c c.args.live.now.items
    c.extents.live.items
    c.requires.flags c.first_from-first.ensures c.extents.invariant.from
    (sym c.is_below.ensures ∙ c.extents-test.false) c.extents.invariant.cleared
