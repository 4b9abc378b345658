-- The texts of paths, byte by byte: absolute, of nonempty names other than . and ..
use Rattle.std.specs.Prelude.{ℕ, Bool, true, false, ◌==◌, if◌then◌else◌, List, [], ◌∷◌, Option}
use Rattle.std.specs.Prelude.{Some, None}
use Rattle.policy_search.specs.declared.stage.TheConstants.{DOT, SLASH}
use Rattle.policy_search.specs.declared.stage.Stage.{Stage}
use Rattle.policy_search.specs.declared.stage.Stage.TheVariants.{Empty, Root, Slash, Dot, DotDot}
use Rattle.policy_search.specs.declared.stage.Stage.TheVariants.{Name}

abbrev pub stage_number : Stage → ℕ
stage_number Empty = 0
stage_number Root = 1
stage_number Slash = 2
stage_number Dot = 3
stage_number DotDot = 4
stage_number Name = 5

-- what was read is a path's text
abbrev pub is_end : Stage → Bool
is_end Empty = false
is_end Root = true
is_end Slash = false
is_end Dot = false
is_end DotDot = false
is_end Name = true

abbrev pub root_begun : ℕ → Option Stage
root_begun byte = if byte == SLASH then Some Root else None

abbrev pub name_begun : ℕ → Option Stage
name_begun byte = if byte == SLASH then None else if byte == DOT then Some Dot else Some Name

abbrev pub dot_read : ℕ → Option Stage
dot_read byte = if byte == SLASH then None else if byte == DOT then Some DotDot else Some Name

abbrev pub dots_read : ℕ → Option Stage
dots_read byte = if byte == SLASH then None else Some Name

abbrev pub name_read : ℕ → Option Stage
name_read byte = if byte == SLASH then Some Slash else Some Name

-- behind one byte more, other than 0; none where no path's text begins so
abbrev pub next_stage : Stage → ℕ → Option Stage
next_stage Empty byte = root_begun byte
next_stage Root byte = name_begun byte
next_stage Slash byte = name_begun byte
next_stage Dot byte = dot_read byte
next_stage DotDot byte = dots_read byte
next_stage Name byte = name_read byte

-- behind a text from a stage on
abbrev pub stage_behind : Option Stage → List ℕ → Option Stage
stage_behind None text = None
stage_behind (Some stage) [] = Some stage
stage_behind (Some stage) (byte ∷ text) = stage_behind (next_stage stage byte) text
