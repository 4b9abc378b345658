-- The grammar of a substitution file: a source and a target on each line, as selabel_file(5) has
-- them.
use Rattle.std.specs.Prelude.{◌≡◌, ℕ, ◌<◌, List, ◌∷◌, length, Result, Ok, Err}
use Rattle.label_base.specs.LineGrammar.{LinesMean}
use Rattle.file_paths.specs.Path.{path_read}
use Rattle.label_base.specs.declared.lines.RefusedLine.{RefusedLine}
use Rattle.path_subs.specs.Subs.{SubValue}
use Rattle.path_subs.specs.declared.sub_fault.NoSub.{NoSub}

-- the fields are source and target, and perhaps more that are passed over; both are paths, the
-- source not the root
pub record IsSub (fields : List (List ℕ)) (sub : SubValue) : Type 0 where
  pub source : List ℕ
  pub target : List ℕ
  pub rest : List (List ℕ)
  pub cut : fields ≡ source ∷ target ∷ rest
  pub source_path : path_read source ≡ Ok sub.source
  pub target_path : path_read target ≡ Ok sub.target
  pub below_root : 0 < length sub.source

-- what the fields of a line mean, whatever its number
abbrev pub SubFieldsMean : ℕ → List (List ℕ) → Result SubValue NoSub → Type 0
SubFieldsMean number fields (Ok sub) = IsSub fields sub
SubFieldsMean number fields (Err why) = (sub : SubValue) → ¬ IsSub fields sub

-- what the text of a file means
abbrev pub SubsMean : List ℕ → Result (List SubValue) (RefusedLine NoSub) → Type 0
SubsMean = LinesMean SubFieldsMean
