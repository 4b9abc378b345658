-- What the lines of a substitution file say: a source and a target, as selabel_file(5) has them.
use Rattle.std.specs.Prelude.{ℕ, List, ◌∷◌, Result, Ok, Err}
use Rattle.label_base.specs.Lines.{lines_read}
use Rattle.file_paths.specs.Path.{Path, path_or}
use Rattle.label_base.specs.declared.lines.RefusedLine.{RefusedLine}
use Rattle.path_subs.specs.Subs.{SubValue}
use Rattle.path_subs.specs.declared.sub_fault.NoSub.{NoSub}

abbrev pub no_sub : NoSub
no_sub = record {}

-- both are paths, and the source isn't the root
abbrev pub with_paths : Result Path NoSub → Result Path NoSub → Result SubValue NoSub
with_paths (Ok (name ∷ names)) (Ok target) = Ok (record { source = name ∷ names; target = target })
with_paths source target = Err no_sub

-- the substitution that the fields of a line spell: a source and a target, whatever follows
abbrev pub sub_in : List (List ℕ) → Result SubValue NoSub
sub_in (source ∷ target ∷ more) = with_paths (path_or no_sub source) (path_or no_sub target)
sub_in fields = Err no_sub

-- the substitutions of a file, or its first refused line
abbrev pub subs_of : List ℕ → Result (List SubValue) (RefusedLine NoSub)
subs_of text = lines_read (λ number. sub_in) text
