use Rattle.std.proofs.Common.{◌≡◌, ◌∙◌, sym, false, rules}
use Rattle.std.specs.List.{list_any}
use Rattle.file_paths.specs.Path.{is_dot_part, path_names}
use Rattle.file_paths.proofs.PathLemmas.{plain_normal, plain_undotted}
use Rattle.file_paths.proofs.path_text.is_kept_text.Goals as goal

pub returns-clause-normal : goal.returns-clause-normal
returns-clause-normal c = λ plain. plain_normal c.args.bytes.now (sym c.is_plain.ensures ∙ plain)
    c.if-bytes-ne-SLASH.false (sym c.if-contains.ensures.value)

pub returns-clause-read : goal.returns-clause-read
returns-clause-read c = λ plain.
    let undotted : list_any is_dot_part (path_names c.args.bytes.now) ≡ false =
    plain_undotted c.args.bytes.now (sym c.is_plain.ensures ∙ plain)
    c.if-bytes-ne-SLASH.false in
    search (rules, undotted)
