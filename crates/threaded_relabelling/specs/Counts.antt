-- How many workers there are.
use Rattle.std.specs.Prelude.{ℕ, ◌==◌, nat_lt, if◌then◌else◌}
use Rattle.tree_relabelling.specs.declared.letters.TheConstants.{MOST_WORKERS}

-- at least one, and no more than may be asked for
abbrev pub within : ℕ → ℕ
within count =
    if count == 0 then 1 else if nat_lt count MOST_WORKERS then count else MOST_WORKERS

-- as many as are asked for, or as there are cores where that is none
abbrev pub workers_for : (asked cores : ℕ) → ℕ
workers_for asked cores = if asked == 0 then within cores else within asked

-- how many of so many work for a tree of so many entries: each gets at least one entry
abbrev pub count_for : (count entries : ℕ) → ℕ
count_for count entries =
    if entries == 0 then 1 else if nat_lt entries count then entries else count
