-- Lines of a substitution file gone through, the last that covers kept.
use Rattle.std.specs.Prelude.{Option, Some, None, filter, map, option_map, if◌then◌else◌}
use Rattle.std.specs.List.{last_or}
use Rattle.std.proofs.Common.{◌≡◌, ◌∙◌, refl, sym, ap, ℕ, ◌+◌, ◌<◌, ◌≤◌, Bool, true, false, cond}
use Rattle.std.proofs.Common.{List}
use Rattle.std.proofs.Common.{◌∷◌, length, drop, get_or}
use Rattle.std.proofs.lemmas.List.{at_drop_more, drop_all}
use Rattle.file_paths.specs.Path.{Path}
use Rattle.path_subs.specs.Subs.{by_last, by_sub, covers, substituted}
use Rattle.path_reasons.specs.Routes.{changed_by, changed_in, covering_line, is_covered_by}
use Rattle.path_reasons.specs.Routes.{route_through}
use Rattle.path_reasons.specs.SubLines.{sub_of}
use Rattle.path_reasons.specs.declared.sub_line.SubLine.{SubLine}
use Rattle.path_reasons.proofs.ListLemmas.{last_mapped}

last_cond : {A : Type 0} (b : Bool) (o : Option A) (x : A) (xs : List A)
    → last_or o (cond b (x ∷ xs) xs) ≡ last_or (if b then Some x else o) xs
last_cond true o x xs = refl
last_cond false o x xs = refl

-- one line more
pub next_cover : (path : Path) (lines : List SubLine) (k : ℕ) (line : SubLine)
    (found now all : Option SubLine) → k < length lines → line ≡ get_or lines k line
    → last_or found (filter (is_covered_by path) (drop k lines)) ≡ all
    → now ≡ (if covers path line.sub then Some line else found)
    → last_or now (filter (is_covered_by path) (drop (k + 1) lines)) ≡ all
next_cover path lines k line found now all l is b n =
    let rest = filter (is_covered_by path) (drop (k + 1) lines) in
    let here : last_or found (filter (is_covered_by path) (drop k lines))
    ≡ last_or found (cond (is_covered_by path line) (line ∷ rest) rest) =
    at_drop_more (λ ys. last_or found (filter (is_covered_by path) ys)) lines k line l
    ∙ ap (λ x. last_or found (cond (is_covered_by path x) (x ∷ rest) rest)) (sym is) in
    ap (λ o. last_or o rest) n ∙ sym (last_cond (is_covered_by path line) found line rest)
    ∙ sym here ∙ b

pub no_cover : (path : Path) (lines : List SubLine) (k : ℕ) (found all : Option SubLine)
    → length lines ≤ k → last_or found (filter (is_covered_by path) (drop k lines)) ≡ all
    → found ≡ all
no_cover path lines k found all l b =
    ap (λ ys. last_or found (filter (is_covered_by path) ys)) (sym (drop_all k lines l)) ∙ b

by_either : (path : Path) (o : Option SubLine)
    → changed_by path o ≡ by_sub path (option_map sub_of o)
by_either path None = refl
by_either path (Some line) = refl

same_stage : (lines : List SubLine) (path : Path)
    → changed_in lines path ≡ by_last (map sub_of lines) path
same_stage lines path =
    by_either path (covering_line lines path)
    ∙ ap (by_sub path) (last_mapped sub_of (covers path) lines None)

-- the path that is looked up is the substituted one
pub same_path : (first second : List SubLine) (path : Path)
    → (route_through first second path).path
    ≡ substituted (map sub_of first) (map sub_of second) path
same_path first second path =
    same_stage second (changed_in first path)
    ∙ ap (by_last (map sub_of second)) (same_stage first path)
