-- A user for whose home contexts are made, as contracts see it.
use Rattle.std.specs.Prelude.{◌≡◌, ℕ, Bool, true, ◌&&◌, ◌||◌, ◌==◌, nat_le, not, List, length}
use Rattle.std.specs.List.{list_any}
use Rattle.label_base.specs.Lines.{is_blank}
use Rattle.label_base.specs.declared.cut.TheConstants.{LINE_FEED}
use Rattle.context_syntax.specs.Context.{is_word}
use Rattle.file_paths.specs.Path.{Path, path_text}
use Rattle.home_contexts.specs.declared.user.TheConstants.{LEAST_HOME_NAMES}

pub record UserValue : Type 0 where
  pub name : List ℕ
  pub role : List ℕ
  pub home : Path

-- a byte that ends a field
abbrev pub ends_field : ℕ → Bool
ends_field b = is_blank b || (b == LINE_FEED)

-- a home has a directory above it, and its text can stand in a field
abbrev pub is_home : Path → Bool
is_home home = nat_le LEAST_HOME_NAMES (length home) && not (list_any ends_field (path_text home))

abbrev pub is_user : UserValue → Bool
is_user user = is_word user.name && (is_word user.role && is_home user.home)

-- name and role are written as a context's type is, and the home may be one
pub record IsUser (user : UserValue) : Type 0 where
  pub name : is_word user.name ≡ true
  pub role : is_word user.role ≡ true
  pub home : is_home user.home ≡ true
