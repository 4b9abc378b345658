use Rattle.std.proofs.Common.{◌<◌, ◌≡◌, ◌+◌, ◌∙◌, ap, length, arith}
use Rattle.std.specs.Prelude.{min}
use Rattle.label_base.specs.Bounded.{greatest_below}
use Rattle.file_paths.specs.Path.{path_text}
use Rattle.file_paths.specs.PathRef.{path_of}
use Rattle.path_subs.specs.Listed.{sub_fits_at, sub_at}
use Rattle.path_subs.proofs.ListedLemmas.{found_all, found_next, found_none}
use Rattle.path_subs.proofs.sub_list.last_covering.Goals as goal

pub ends-init : goal.ends-init
ends-init c = λ subs listed. found_none subs c.args.last.now.entries c.args.marks.now c.args.longest
    listed (path_of c.args.path.now) c.args.path.now.normal.1

pub ends-preserved : goal.ends-preserved
ends-preserved c = λ subs listed.
    let within : c.ends.place < length (path_text (path_of c.args.path.now)) =
    omega (
      arith,
      c.ends-test.true,
      c.places_within-most.ensures,
      ap length
          c.as_text-text.ensures.value,
    ) in
    c.greater-found.ensures
    ∙ found_next subs c.args.last.now.entries c.args.marks.now c.args.longest listed
    (path_of c.args.path.now) c.args.path.now.normal.1 c.ends.place c.ends.found
    c.number_at.result within
    (c.ends.invariant subs listed)
    (c.number_at.ensures subs c.args.longest listed
    ∙ ap (λ text. greatest_below (length subs)
    (λ i. sub_fits_at text (c.ends.place + 1) (sub_at subs i))) c.as_text-text.ensures.value)

pub returns : goal.returns
returns c = λ subs listed.
    let whole : c.ends.place ≡ min (length (path_text (path_of c.args.path.now))) c.args.longest =
    omega (
      arith,
      c.ends-test.false,
      c.ends.auto.place-end,
      c.places_within-most.ensures,
      ap
          length c.as_text-text.ensures.value,
    ) in
    found_all subs c.args.last.now.entries c.args.marks.now c.args.longest listed
    (path_of c.args.path.now) c.args.path.now.normal.1 c.ends.place c.ends.found whole
    (c.ends.invariant subs listed)
