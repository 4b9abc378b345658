use Rattle.std.proofs.Common.{◌≡◌, ◌<◌, ◌^◌, ◌-◌, ◌∙◌, ap, ◌++◌, ◌∷◌, [], length, arith}
use Rattle.std.proofs.lemmas.List.{length-map}
use Rattle.find_records.specs.Rows.{record_in}
use Rattle.find_records.specs.Entry.{record_seen}
use Rattle.find_records.proofs.RowLemmas.{on_err, rows_kept, rows_more, records_more, records_same}
use Rattle.find_records.proofs.records.Records.push.Goals as goal

pub invariant_of-self-2 : goal.invariant_of-self-2
invariant_of-self-2 c =
    let s = c.self.inside in
    let more : c.push.new.self.items ≡ s.rows.items ++ c.in_ok-row.row ∷ [] = c.in-Ok.ensures.items
    ∙ ap (λ rows. rows ++ c.in_ok-row.row ∷ []) c.reserve_row.ensures.same in
    let few : length s.rows.items < 2 ^ 32 - 1 =
    omega (
      arith,
      c.requires,
      ap length c.self.view_is,
      length-map s.rows.items
          (record_in s.texts.items s.profiles),
    ) in
    rows_more s.texts.items c.row_of.new.texts.items s.profiles c.row_of.new.profiles s.rows.items
    c.push.new.self.items c.in_ok-row.row
    c.row_of.ensures.more_texts c.row_of.ensures.more_profiles more few c.in_ok-row.ensures.within
    c.self.invariant

pub returns-clause-ok : goal.returns-clause-ok
returns-clause-ok c =
    let s = c.self.inside in
    let more : c.push.new.self.items ≡ s.rows.items ++ c.in_ok-row.row ∷ [] = c.in-Ok.ensures.items
    ∙ ap (λ rows. rows ++ c.in_ok-row.row ∷ []) c.reserve_row.ensures.same in
    records_more s.texts.items c.row_of.new.texts.items s.profiles c.row_of.new.profiles
    s.rows.items
    c.push.new.self.items c.in_ok-row.row _
    c.row_of.ensures.more_texts c.row_of.ensures.more_profiles more c.in_ok-row.ensures.value
    c.self.invariant
    ∙ ap (λ seen. seen ++ record_seen c.args.raw.now ∷ []) c.self.view_is

pub invariant_of-self-in_err-row : goal.invariant_of-self-in_err-row
invariant_of-self-in_err-row c =
    let s = c.self.inside in
    rows_kept s.texts.items c.row_of.new.texts.items s.profiles c.row_of.new.profiles s.rows.items
    c.reserve_row.new.rows.items
    c.row_of.ensures.more_texts c.in_err-row.ensures.same c.reserve_row.ensures.same
    c.self.invariant

pub returns-in_err-row-clause-err : goal.returns-in_err-row-clause-err
returns-in_err-row-clause-err c =
    let s = c.self.inside in
    on_err _ _
    (records_same s.texts.items c.row_of.new.texts.items s.profiles c.row_of.new.profiles
    s.rows.items
    c.reserve_row.new.rows.items
    c.row_of.ensures.more_texts c.in_err-row.ensures.same c.reserve_row.ensures.same
    c.self.invariant
    ∙ c.self.view_is)
