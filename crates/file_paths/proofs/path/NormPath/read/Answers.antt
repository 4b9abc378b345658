use Rattle.std.proofs.Common.{◌≡◌, sym, false, rules}
use Rattle.std.specs.List.{list_any}
use Rattle.file_paths.specs.Path.{is_dot_part, path_names}
use Rattle.file_paths.proofs.PathLemmas.{plain_normal, plain_undotted}
use Rattle.file_paths.proofs.path.NormPath.read.Goals as goal

pub invariant_of-result : goal.invariant_of-result
invariant_of-result c =
    rw c.in_ok-copy_of_text.ensures
    (plain_normal c.args.bytes.now (sym c.if-is_plain.ensures) c.if-bytes-ne-SLASH.false
    (sym c.if-contains.ensures.value))

pub returns-then-is_plain : goal.returns-then-is_plain
returns-then-is_plain c =
    let undotted : list_any is_dot_part (path_names c.args.bytes.now) ≡ false =
    plain_undotted c.args.bytes.now (sym c.if-is_plain.ensures) c.if-bytes-ne-SLASH.false in
    rw c.in_ok-copy_of_text.ensures (search (rules, undotted))
