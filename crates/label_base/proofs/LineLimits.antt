-- What a line adds to the reading of a file, and what a limit means that can't be passed.
use Rattle.std.proofs.Common.{◌≡◌, ◌∙◌, ap, sym, refl, ℕ, zero, suc, ◌+◌, ◌≤◌, Bool, true, false}
use Rattle.std.proofs.Common.{cond, List, [], ◌∷◌, ◌++◌, length, take, arith, append_assoc}
use Rattle.std.proofs.lemmas.Bool.{le-ltb}
use Rattle.std.proofs.lemmas.List.FromFn.{length-enumerate_from}
use Rattle.std.specs.Prelude.{Option, Some, None, Result, Ok, Err, is_ok, nat_lt, take_while}
use Rattle.std.specs.List.{cons_option, enumerate_from, filter_map, prefix_len}
use Rattle.label_base.specs.Lines.{read_from, with_front, all_or_first, accepted, by_line, limited}
use Rattle.label_base.specs.Lines.{line_said, lines_of, lines_read, lines_within, values}
use Rattle.label_base.specs.Lines.{line_value, Adds}
use Rattle.label_base.specs.declared.lines.RefusedLine.{RefusedLine}
use Rattle.label_base.specs.declared.lines.LinesWhy.{LinesWhy}
use Rattle.label_base.specs.declared.lines.LinesWhy.TheVariants.{Refused, TooMany}
use Rattle.label_base.proofs.LineLengths.{lines_few}

module _ {B W : Type 0} (said : ℕ → List ℕ → Result (Option B) W) where
  -- the answer for these lines behind values that were read before
  abbrev pub answer : ℕ → List B → ℕ → List (List ℕ) → Result (List B) (LinesWhy W)
  answer room front number lines =
      limited room (front ++ accepted said (enumerate_from number lines))
      (with_front front (read_from said number lines))

  accepted-ok : (n : ℕ) (line : List ℕ) (lines : List (ℕ × List ℕ)) (value : Option B)
      → said n line ≡ Ok value → accepted said ((n, line) ∷ lines) ≡ cons_option value
      (accepted said lines)
  accepted-ok n line lines value h =
      let one : 1 + prefix_len (λ l. is_ok (said l.0 l.1)) lines
      ≡ suc (prefix_len (λ l. is_ok (said l.0 l.1)) lines) = omega arith in
      rw (h, one, h) refl

  with_value : (value : B) (values : List B) (refusal : Option (RefusedLine W))
      → all_or_first (value ∷ values) refusal ≡ with_front (value ∷ [])
      (all_or_first values refusal)
  with_value value values None = refl
  with_value value values (Some refusal) = refl

  read-nothing : (n : ℕ) (line : List ℕ) (lines : List (List ℕ)) → said n line ≡ Ok None
      → read_from said n (line ∷ lines) ≡ read_from said (n + 1) lines
  read-nothing n line lines h = rw h refl

  read-value : (n : ℕ) (line : List ℕ) (lines : List (List ℕ)) (value : B)
      → said n line ≡ Ok (Some value) → read_from said n (line ∷ lines) ≡ with_front (value ∷ [])
      (read_from said (n + 1) lines)
  read-value n line lines value h = rw h (with_value value _ _)

  front_more : (front : List B) (value : B) (read : Result (List B) (RefusedLine W))
      → with_front front (with_front (value ∷ []) read) ≡ with_front (front ++ value ∷ []) read
  front_more front value (Ok values) = ap Ok (sym (append_assoc front (value ∷ []) values))
  front_more front value (Err refusal) = refl

  adds : (room : ℕ) (old new : List B) (n : ℕ) (line : List ℕ) (lines : List (List ℕ))
      (meant : Result (Option B) W) → said n line ≡ meant → Adds meant old new
      → answer room old n (line ∷ lines) ≡ answer room new (n + 1) lines
  adds room old new n line lines (Ok None) h e =
      ap (λ values. limited room (old ++ values) (with_front old (read_from said n (line ∷ lines))))
      (accepted-ok n line (enumerate_from (n + 1) lines) None h)
      ∙ ap (λ read. limited room (old ++ accepted said (enumerate_from (n + 1) lines))
      (with_front old read)) (read-nothing n line lines h)
      ∙ ap (λ front. answer room front (n + 1) lines) (sym e)
  adds room old new n line lines (Ok (Some value)) h e =
      ap (λ values. limited room (old ++ values) (with_front old (read_from said n (line ∷ lines))))
      (accepted-ok n line (enumerate_from (n + 1) lines) (Some value) h)
      ∙ ap (λ values. limited room values (with_front old (read_from said n (line ∷ lines))))
      (sym (append_assoc old (value ∷ []) (accepted said (enumerate_from (n + 1) lines))))
      ∙ ap (λ read. limited room
      ((old ++ value ∷ []) ++ accepted said (enumerate_from (n + 1) lines)) read)
      (ap (with_front old) (read-value n line lines value h)
      ∙ front_more old value (read_from said (n + 1) lines))
      ∙ ap (λ front. answer room front (n + 1) lines) (sym e)
  adds room old new n line lines (Err why) h e = absurd e

  -- reading a line that adds what it says leaves the answer
  pub reads_on : (meant : Result (List B) (LinesWhy W)) (room : ℕ) (old new : List B) (n : ℕ)
      (line : List ℕ) (all lines : List (List ℕ))
      → meant ≡ answer room old n all → all ≡ line ∷ lines → Adds (said n line) old new
      → meant ≡ answer room new (n + 1) lines
  reads_on meant room old new n line all lines read first e =
      read ∙ ap (answer room old n) first ∙ adds room old new n line lines (said n line) refl e

-- ---- no more values than lines

module _ {A B : Type 0} (f : A → Option B) where
  kept_few : (o : Option B) (n : ℕ) (ys : List B) → length ys ≤ n → length (cons_option o ys)
      ≤ suc n
  kept_few None n ys h = omega (arith, h)
  kept_few (Some y) n ys h = omega (arith, h)

  few_values : (xs : List A) → length (filter_map f xs) ≤ length xs
  few_values [] = omega arith
  few_values (x ∷ xs) = kept_few (f x) (length xs) (filter_map f xs) (few_values xs)

take_few : {A : Type 0} (n : ℕ) (xs : List A) → length (take n xs) ≤ length xs
take_few zero xs = omega arith
take_few (suc n) [] = omega arith
take_few (suc n) (x ∷ xs) = omega (arith, take_few n xs)

by_room : {B W : Type 0} (room : ℕ) (past : Bool) (read : Result (List B) (LinesWhy W))
    → past ≡ false → cond past (Err TooMany) read ≡ read
by_room room true read h = cc
by_room room false read h = refl

-- a room that holds a value for each byte is never passed
pub read_within : {B W : Type 0} (room : ℕ) (meaning : ℕ → List (List ℕ) → Result B W)
    (text : List ℕ) → length text ≤ room → lines_within room meaning text
    ≡ by_line (lines_read meaning text)
read_within room meaning text h =
    let lines = enumerate_from 1 (lines_of text) in
    let found = take_while (λ l. is_ok (line_said meaning l.0 l.1)) lines in
    let few = few_values (λ l. line_value (line_said meaning l.0 l.1)) found in
    let taken = take_few (prefix_len (λ l. is_ok (line_said meaning l.0 l.1)) lines) lines in
    let many = length-enumerate_from 1 (lines_of text) in
    by_room room (nat_lt room (length (accepted (line_said meaning) lines)))
    (by_line (lines_read meaning text))
    (le-ltb room _ (omega (arith, few, taken, many, lines_few text, h)))

by_line_ok : {B W : Type 0} (read : Result (List B) (RefusedLine W)) (found : List B)
    → by_line read ≡ Ok found → read ≡ Ok found
by_line_ok (Ok values) found h = cc
by_line_ok (Err refusal) found h = cc

by_line_refused : {B W : Type 0} (read : Result (List B) (RefusedLine W)) (line : RefusedLine W)
    → by_line read ≡ Err (Refused line) → read ≡ Err line
by_line_refused (Ok values) line h = cc
by_line_refused (Err refusal) line h = cc

by_line_many : {B W : Type 0} (read : Result (List B) (RefusedLine W)) → by_line read ≡ Err TooMany
    → ⊥
by_line_many (Ok values) h = cc
by_line_many (Err refusal) h = cc

module _ {B W : Type 0} (room : ℕ) (meaning : ℕ → List (List ℕ) → Result B W) (text : List ℕ)
    (h : length text ≤ room) where
  pub read_all : (found : List B) → lines_within room meaning text ≡ Ok found
      → lines_read meaning text ≡ Ok found
  read_all found e =
      by_line_ok (lines_read meaning text) found (sym (read_within room meaning text h) ∙ e)

  pub read_refused : (line : RefusedLine W) → lines_within room meaning text ≡ Err (Refused line)
      → lines_read meaning text ≡ Err line
  read_refused line e = by_line_refused (lines_read meaning text) line
      (sym (read_within room meaning text h) ∙ e)

  pub never_many : lines_within room meaning text ≡ Err TooMany → ⊥
  never_many e = by_line_many (lines_read meaning text) (sym (read_within room meaning text h) ∙ e)
