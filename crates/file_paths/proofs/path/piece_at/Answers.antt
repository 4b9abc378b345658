use Rattle.std.proofs.Common.{◌≡◌, ◌≤◌, ◌∙◌, ap, arith, add-one, suc, drop, length, []}
use Rattle.std.specs.List.{slice_split}
use Rattle.std.specs.Option.{option_copied}
use Rattle.label_base.specs.Cut.{pieces_left}
use Rattle.file_paths.specs.Path.{is_slash}
use Rattle.file_paths.proofs.PathLemmas.{pieces_behind_one, piece_found, none_behind}
use Rattle.file_paths.proofs.path.piece_at.Goals as goal

pub unreachable-requires : goal.unreachable-requires
unreachable-requires c =
    let pieces = slice_split is_slash c.args.text.now in
    let behind : drop (suc c.loop-passed.passed) pieces ≡ [] =
    pieces_behind_one pieces c.loop-passed.passed _ _
    (c.loop-passed.invariant ∙ c.cut_at.ensures.pieces)
    ∙ ap (λ o. pieces_left is_slash (option_copied o)) c.in_default.is in
    let few : length pieces ≤ suc c.loop-passed.passed =
    none_behind pieces (suc c.loop-passed.passed) behind in
    omega arith

pub loop-passed-preserved : goal.loop-passed-preserved
loop-passed-preserved c =
    rw add-one
    (pieces_behind_one (slice_split is_slash c.args.text.now) c.loop-passed.passed _ _
    (c.loop-passed.invariant ∙ c.cut_at.ensures.pieces)
    ∙ ap (λ o. pieces_left is_slash (option_copied o)) c.in-Some.is)

pub returns : goal.returns
returns c =
    let all : c.args.i ≡ c.loop-passed.passed = omega arith in
    rw all (piece_found (slice_split is_slash c.args.text.now) c.loop-passed.passed _ _
    (c.loop-passed.invariant ∙ c.cut_at-2.ensures.pieces))
