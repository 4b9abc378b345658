-- What the constants of this crate are, in letters and figures.
use Rattle.std.specs.Prelude.{◌≡◌}
use Rattle.label_base.specs.Spelling.{byte}
use Rattle.file_paths.specs.declared.path.TheConstants.{DOT, MOST_PATH_BYTES, SLASH}

pub record ConstantsAreStated : Type 0 where
  -- what parts the names of a path, and what the names . and .. are made of
  pub slash : SLASH ≡ byte "/"
  pub dot : DOT ≡ byte "."
  -- the most bytes of a path as it is given
  pub most_path_bytes : MOST_PATH_BYTES ≡ 4095
