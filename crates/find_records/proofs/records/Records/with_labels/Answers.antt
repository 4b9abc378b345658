use Rattle.std.proofs.Common.{◌∙◌}
use Rattle.find_records.proofs.LabelledLemmas.{profiles_known, own_are_profiles, own_are_records}
use Rattle.find_records.proofs.LabelledLemmas.{own_are_rows}
use Rattle.find_records.proofs.records.Records.with_labels.Goals as goal

pub profile_rows-requires-clause-known : goal.profile_rows-requires-clause-known
profile_rows-requires-clause-known c =
    let s = c.self.inside in
    rw c.as_slice.ensures.value
    (profiles_known s.texts.items s.profiles s.rows.items c.self.invariant.within)

pub of_rows-requires : goal.of_rows-requires
of_rows-requires c =
    let s = c.self.inside in
    own_are_profiles s.texts.items _ s.profiles s.profiles s.rows.items c.args.numbers.now
    c.args.labels.now
    _ _ _ (c.in_ok-texts.ensures.items ∙ c.as_slice-2.ensures.value) c.in_ok-copies.ensures
    c.requires.few
    ((rw c.as_slice.ensures.value at c.in_ok-profiled.ensures) s.texts.items c.args.labels.now
    c.requires.known c.self.invariant.within)

pub invariant_of-result : goal.invariant_of-result
invariant_of-result c =
    let s = c.self.inside in
    own_are_rows s.texts.items _ s.profiles _ s.rows.items c.args.numbers.now c.args.labels.now _ _
    _
    (c.in_ok-texts.ensures.items ∙ c.as_slice-2.ensures.value) c.in_ok-copies.ensures
    c.requires.few
    ((rw c.as_slice.ensures.value at c.in_ok-profiled.ensures) s.texts.items c.args.labels.now
    c.requires.known c.self.invariant.within)
    c.of_rows.ensures c.self.invariant

pub returns : goal.returns
returns c =
    let s = c.self.inside in
    own_are_records s.texts.items _ s.profiles _ s.rows.items c.args.numbers.now c.args.labels.now _
    _
    _ (c.in_ok-texts.ensures.items ∙ c.as_slice-2.ensures.value) c.in_ok-copies.ensures
    c.requires.few
    ((rw c.as_slice.ensures.value at c.in_ok-profiled.ensures) s.texts.items c.args.labels.now
    c.requires.known c.self.invariant.within)
    c.args.self.now c.of_rows.ensures c.self.view_is
