-- What a directory's listing tells of the labels at and below it.
use Rattle.std.specs.Prelude.{◌≡◌, false, ◌++◌, Option, option_map}
use Rattle.file_paths.specs.Path.{Path, path_text}
use Rattle.label_base.specs.declared.kind.Asked.{Asked}
use Rattle.path_subs.specs.Subs.{substituted}
use Rattle.spec_reader.specs.SpecValue.{SpecValue}
use Rattle.spec_reader.specs.declared.spec.Decision.{Decision}
use Rattle.spec_match.specs.LastMatch.{last_match}
use Rattle.dir_digest.specs.Basis.{Basis}

abbrev pub decision_of : SpecValue → Decision
decision_of spec = spec.decision

-- what the last specification decides that applies to what is asked and whose language holds the
-- substituted path: a context, <<none>>, or nothing where there is none
unfoldable pub decided_at : Basis → Asked → Path → Option Decision
decided_at t asked path =
    option_map decision_of
    (last_match asked (path_text (substituted t.first t.second path)) t.specs)

-- by either basis labels change alike, and the same is decided for each path at or below the
-- directory
pub record AreAlike (t u : Basis) (dir : Path) : Type 0 where
  pub force : t.force ≡ u.force
  pub types : t.force ≡ false → t.types ≡ u.types
  pub decisions : (asked : Asked) (names : Path)
      → decided_at t asked (dir ++ names) ≡ decided_at u asked (dir ++ names)
