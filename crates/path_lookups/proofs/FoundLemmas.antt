-- The lines of paths, one behind the other.
use Rattle.std.proofs.Common.{◌≡◌, ◌∙◌, sym, refl, ap, ℕ, ◌+◌, ◌<◌, ◌≤◌, Bool, true, false, List}
use Rattle.std.proofs.Common.{◌∷◌, ◌++◌, length, drop, get_or, append-nil, append_assoc, arith}
use Rattle.std.proofs.Common.{if◌then◌else◌}
use mir.Val.{bool_byte}
use Rattle.std.specs.Prelude.{filter, map}
use Rattle.std.proofs.lemmas.List.{at_drop_more, drop_all}
use Rattle.file_paths.specs.Path.{Path}
use Rattle.report_text.specs.Message.{MessageValue}
use Rattle.report_text.specs.Texts.{message_line, report_of}
use Rattle.path_lookups.specs.Verified.{count_unverified, is_unverified}

first_line : (message : Path → MessageValue) (path : Path) (paths : List Path)
    → report_of (map message (path ∷ paths)) ≡ message_line (message path)
    ++ report_of (map message paths)
unfolding report_of
first_line message path paths = refl

-- the line of one path more, of those that are left
pub next_line : (message : Path → MessageValue) (paths : List Path) (k : ℕ) (path : Path)
    (before now all : List ℕ) → k < length paths
    → path ≡ get_or paths k path → before ++ report_of (map message (drop k paths)) ≡ all
    → now ≡ before ++ message_line (message path)
    → now ++ report_of (map message (drop (k + 1) paths)) ≡ all
next_line message paths k path before now all l is b w =
    let rest = report_of (map message (drop (k + 1) paths)) in
    let here : report_of (map message (drop k paths)) ≡ message_line (message path) ++ rest =
    at_drop_more (λ ps. report_of (map message ps)) paths k path l
    ∙ first_line message (get_or paths k path) (drop (k + 1) paths)
    ∙ ap (λ p. message_line (message p) ++ rest) (sym is) in
    ap (λ t. t ++ rest) w ∙ append_assoc before (message_line (message path)) rest
    ∙ ap (λ t. before ++ t) (sym here) ∙ b

-- ---- how many say that a path is not verified

first_count : (message : Path → MessageValue) (path : Path) (paths : List Path)
    → count_unverified (map message (path ∷ paths))
    ≡ bool_byte (is_unverified (message path)) + count_unverified (map message paths)
first_count message path paths = counted (is_unverified (message path)) (message path)
    (map message paths)
  where
    counted : (b : Bool) (m : MessageValue) (ms : List MessageValue)
        → length (if b then m ∷ filter is_unverified ms else filter is_unverified ms)
        ≡ bool_byte b + length (filter is_unverified ms)
    counted true m ms = omega arith
    counted false m ms = omega arith

-- one path more, of those that are left
pub next_count : (message : Path → MessageValue) (paths : List Path) (k : ℕ) (path : Path)
    (before more all : ℕ) (shown : Bool) → k < length paths
    → path ≡ get_or paths k path → before + count_unverified (map message (drop k paths)) ≡ all
    → shown ≡ is_unverified (message path) → more ≡ bool_byte shown
    → before + more + count_unverified (map message (drop (k + 1) paths)) ≡ all
next_count message paths k path before more all shown l is b t m =
    let here : count_unverified (map message (drop k paths))
    ≡ bool_byte (is_unverified (message path)) + count_unverified
    (map message (drop (k + 1) paths)) =
    at_drop_more (λ ps. count_unverified (map message ps)) paths k path l
    ∙ first_count message (get_or paths k path) (drop (k + 1) paths)
    ∙ ap (λ p. bool_byte (is_unverified (message p)) + count_unverified
    (map message (drop (k + 1) paths))) (sym is) in
    let one = ap bool_byte t in
    omega (arith, here, b, m, one)

pub at_most_one : (b : Bool) → bool_byte b ≤ 1
at_most_one true = omega arith
at_most_one false = omega arith

pub no_line_left : (message : Path → MessageValue) (paths : List Path) (k : ℕ) (to all : List ℕ)
    → length paths ≤ k
    → to ++ report_of (map message (drop k paths)) ≡ all → to ≡ all
unfolding report_of
no_line_left message paths k to all l b =
    sym (append-nil to) ∙ ap (λ ps. to ++ report_of (map message ps)) (sym (drop_all k paths l)) ∙ b
