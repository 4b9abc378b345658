use Rattle.std.proofs.Common.{◌≡◌, ◌∙◌, ap, sym, subst}
use Rattle.file_paths.specs.PathText.{IsNormal}
use Rattle.find_records.specs.ProfileRef.{profile_lent}
use Rattle.find_records.specs.Rows.{row_text}
use Rattle.find_records.proofs.RowLemmas.{entry_is, row_read, within_at}
use Rattle.find_records.proofs.records.Records.entry.Goals as goal

pub get-profile-requires : goal.get-profile-requires
get-profile-requires c =
    let s = c.self.inside in
    let row = c.index-row.result.now in
    (within_at s.texts.items s.profiles s.rows.items c.args.i row c.self.invariant.within
    (row_read s.texts.items s.profiles c.args.self.now s.rows.items c.args.i row c.self.view_is
    c.requires c.index-row.ensures)).known

pub text_at-requires : goal.text_at-requires
text_at-requires c =
    let s = c.self.inside in
    let row = c.index-row.result.now in
    rw c.as_slice.ensures.value
    (within_at s.texts.items s.profiles s.rows.items c.args.i row c.self.invariant.within
    (row_read s.texts.items s.profiles c.args.self.now s.rows.items c.args.i row c.self.view_is
    c.requires c.index-row.ensures)).fits

pub of_text-requires : goal.of_text-requires
of_text-requires c =
    let s = c.self.inside in
    let row = c.index-row.result.now in
    let text : c.text_at.result.now ≡ row_text s.texts.items row = c.text_at.ensures
    ∙ ap (λ t. row_text t row) c.as_slice.ensures.value in
    subst IsNormal (sym text)
    (within_at s.texts.items s.profiles s.rows.items c.args.i row c.self.invariant.within
    (row_read s.texts.items s.profiles c.args.self.now s.rows.items c.args.i row c.self.view_is
    c.requires c.index-row.ensures)).normal

pub returns : goal.returns
returns c =
    let s = c.self.inside in
    let row = c.index-row.result.now in
    let text : c.text_at.result.now ≡ row_text s.texts.items row = c.text_at.ensures
    ∙ ap (λ t. row_text t row) c.as_slice.ensures.value in
    entry_is s.texts.items s.profiles c.args.self.now s.rows.items c.args.i row
    (profile_lent c.get-profile.result) c.text_at.result.now _ c.self.view_is
    (row_read s.texts.items s.profiles c.args.self.now s.rows.items c.args.i row c.self.view_is
    c.requires c.index-row.ensures)
    c.get-profile.ensures text c.of_text.ensures
