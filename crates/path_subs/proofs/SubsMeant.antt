-- The substitutions of a file are those that its grammar gives.
use Rattle.std.proofs.Common.{◌≡◌, ◌∙◌, ap, sym, refl, subst, ℕ, ◌<◌, List, [], ◌∷◌, length, arith}
use Rattle.std.specs.Prelude.{◌↔◌, Result, Ok, Err}
use Rattle.label_base.specs.Answers.{with_reason}
use Rattle.file_paths.specs.Path.{Path, path_or, path_read}
use Rattle.file_paths.specs.declared.path_fault.PathWhy.{PathWhy}
use Rattle.label_base.specs.declared.lines.RefusedLine.{RefusedLine}
use Rattle.label_base.proofs.LinesMeant.{lines_mean}
use Rattle.path_subs.specs.Subs.{SubValue}
use Rattle.path_subs.specs.SubGrammar.{SubFieldsMean, IsSub, SubsMean}
use Rattle.path_subs.specs.SubLines.{no_sub, sub_in, subs_of, with_paths}
use Rattle.path_subs.specs.declared.sub_fault.NoSub.{NoSub}

abbrev path_or_none : Result Path PathWhy → Result Path NoSub
path_or_none = with_reason (λ _. no_sub)

none_of_one : (fields : List (List ℕ)) (first : List ℕ) → fields ≡ first ∷ [] → (sub : SubValue)
    → ¬ IsSub fields sub
none_of_one fields first e sub h = let both : first ∷ [] ≡ h.source ∷ h.target ∷ h.rest =
    sym e ∙ h.cut in cc

paths_sound : (source target : List ℕ) (rest : List (List ℕ)) (from to : Result Path PathWhy)
    → path_read source ≡ from → path_read target ≡ to → SubFieldsMean 0 (source ∷ target ∷ rest)
    (with_paths (path_or_none from) (path_or_none to))
paths_sound source target rest (Ok (name ∷ names)) (Ok to) e f = record {
  source = source;
  target = target;
  rest = rest;
  cut = refl;
  source_path = e;
  target_path = f;
  below_root = omega arith;
}
paths_sound source target rest (Ok (name ∷ names)) (Err why) e f = λ sub h. let cut = h.cut in
    let path = h.target_path in cc
paths_sound source target rest (Ok []) to e f = λ sub h.
    let cut = h.cut in
    let path = h.source_path in
    let root : sub.source ≡ [] = cc in
    absurd (omega (arith, h.below_root, ap length root))
paths_sound source target rest (Err why) to e f = λ sub h. let cut = h.cut in let path =
    h.source_path in cc

fields_sound : (number : ℕ) (fields : List (List ℕ)) → SubFieldsMean number fields (sub_in fields)
fields_sound number [] = λ sub h. let cut = h.cut in cc
fields_sound number (first ∷ []) = none_of_one (first ∷ []) first refl
fields_sound number (source ∷ target ∷ rest) = paths_sound source target rest (path_read source)
    (path_read target) refl refl

made : (from : Path) (to : Path) → 0 < length from → with_paths (Ok from) (Ok to)
    ≡ Ok (record { source = from; target = to })
made [] to h = absurd (omega arith)
made (name ∷ names) to h = refl

err_complete : (fields : List (List ℕ)) (why : NoSub) (read : Result SubValue NoSub)
    → SubFieldsMean 0 fields read → ((sub : SubValue) → ¬ IsSub fields sub) → read ≡ Err why
err_complete fields why (Ok sub) h nothing = absurd (nothing sub h)
err_complete fields why (Err other) h nothing = refl

fields_complete : (number : ℕ) (fields : List (List ℕ)) (meant : Result SubValue NoSub)
    → SubFieldsMean number fields meant → sub_in fields ≡ meant
fields_complete number fields (Ok sub) h =
    ap sub_in h.cut
    ∙ ap (λ from. with_paths (path_or_none from) (path_or no_sub h.target)) h.source_path
    ∙ ap (λ to. with_paths (Ok sub.source) (path_or_none to)) h.target_path
    ∙ made sub.source sub.target h.below_root
fields_complete number fields (Err why) h =
    err_complete fields why (sub_in fields) (fields_sound 0 fields) h

fields_mean : (number : ℕ) (fields : List (List ℕ)) (meant : Result SubValue NoSub)
    → (sub_in fields ≡ meant) ↔ SubFieldsMean number fields meant
fields_mean number fields meant = (
  λ read. subst (SubFieldsMean number fields) read (fields_sound number fields),
  fields_complete
      number fields meant,
)

pub subs_mean : (text : List ℕ) (meant : Result (List SubValue) (RefusedLine NoSub))
    → (subs_of text ≡ meant) ↔ SubsMean text meant
subs_mean text meant = lines_mean SubFieldsMean (λ number. sub_in) fields_mean text meant
