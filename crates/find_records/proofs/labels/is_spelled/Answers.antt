use Rattle.std.proofs.Common.{◌∙◌, ap, sym, refl, length}
use Rattle.std.specs.Str.{bytes_eq}
use Rattle.std.proofs.lemmas.Option.{slice_get_read}
use Rattle.find_records.proofs.LabelLemmas.{label_shown}
use Rattle.find_records.proofs.labels.is_spelled.Goals as goal

pub returns-in-Some : goal.returns-in-Some
returns-in-Some c = λ same spelled.
    label_shown c.args.known.now c.args.number c.in-Some.found.now c.args.bytes.now
    (slice_get_read c.args.known.now (length c.args.known.now) c.args.number c.in-Some.found.now
    refl c.in-Some.ensures.lookup.3.0 c.in-Some.ensures.lookup.1)
    (ap (λ t. bytes_eq t c.args.bytes.now) (sym c.as_slice.ensures.value) ∙ sym c.eq.ensures ∙ same)
    spelled
