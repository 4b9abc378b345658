-- What the lines of a file say is what their grammar says they mean, where what fields mean is told
-- by a relation.
use Rattle.std.proofs.Common.{◌≡◌, ◌∙◌, ap, sym, refl, subst, ℕ, ◌+◌, ◌≤◌, ◌==◌, true, false, cond}
use Rattle.std.proofs.Common.{List, [], ◌∷◌, ◌++◌, length, append_assoc, append-nil, length-append}
use Rattle.std.proofs.Common.{inl, inr, arith}
use Rattle.std.specs.Prelude.{◌⊎◌, ◌↔◌, Option, None, Result, Ok, Err, nat_lt}
use Rattle.std.specs.List.{enumerate_from}
use Rattle.std.proofs.lemmas.Bool.{eq-eqb, ne_eqb, eqb-true, eqb-false, lt-ltb, le-ltb, ltb-true}
use Rattle.std.proofs.lemmas.Bool.{ltb-false}
use Rattle.label_base.specs.declared.lines.TheConstants.{COMMENT_MARK}
use Rattle.label_base.specs.declared.lines.RefusedLine.{RefusedLine}
use Rattle.label_base.specs.declared.lines.LinesWhy.{LinesWhy}
use Rattle.label_base.specs.declared.lines.LinesWhy.TheVariants.{Refused, TooMany}
use Rattle.label_base.specs.Lines.{Adds, accepted, by_line, fields_of, fields_said, limited}
use Rattle.label_base.specs.Lines.{line_said, lines_of, lines_read, lines_within, read_from}
use Rattle.label_base.specs.Lines.{some_value, with_front}
use Rattle.label_base.specs.LineGrammar.{AreFields, AreLines, AreSaid, LinesMean, LinesMeanWithin}
use Rattle.label_base.specs.LineGrammar.{SayNothing, Says, LineStandsAt, none, nothing, value}
use Rattle.label_base.proofs.LineCuts.{fields_are, fields_sound, lines_are, lines_sound}
use Rattle.label_base.proofs.LineLimits.{answer, reads_on}

-- a refused line gives no value, and is the first refusal
none_accepted : {B W : Type 0} (said : ℕ → List ℕ → Result (Option B) W) (number : ℕ)
    (line : List ℕ) (lines : List (ℕ × List ℕ)) (why : W) → said number line ≡ Err why
    → accepted said ((number, line) ∷ lines) ≡ []
none_accepted said number line lines why h = rw h refl

first_refused : {B W : Type 0} (said : ℕ → List ℕ → Result (Option B) W) (number : ℕ)
    (line : List ℕ) (lines : List (List ℕ)) (why : W) → said number line ≡ Err why
    → read_from said number (line ∷ lines) ≡ Err (record { number = number; why = why })
first_refused said number line lines why h = rw h refl

module _ {B W : Type 0} (Means : ℕ → List (List ℕ) → Result B W → Type 0)
    (meaning : ℕ → List (List ℕ) → Result B W)
    (law : (number : ℕ) (fields : List (List ℕ)) (meant : Result B W)
    → (meaning number fields ≡ meant) ↔ Means number fields meant) where
  -- ---- a line

  abbrev said : ℕ → List ℕ → Result (Option B) W
  said = line_said meaning

  nothing_said_by : (number : ℕ) (fields : List (List ℕ)) → SayNothing fields
      → fields_said (meaning number) fields ≡ Ok None
  nothing_said_by number [] h = refl
  nothing_said_by number ([] ∷ fields) h = absurd h
  nothing_said_by number ((b ∷ bs) ∷ fields) h =
      ap (λ v. cond v (Ok None) (some_value (meaning number ((b ∷ bs) ∷ fields))))
      (eq-eqb b COMMENT_MARK h)

  nothing_said : (number : ℕ) (line : List ℕ) (fields : List (List ℕ)) → AreFields line fields
      → SayNothing fields → said number line ≡ Ok None
  nothing_said number line fields are h =
      ap (fields_said (meaning number)) ((fields_are line fields).1 are)
      ∙ nothing_said_by number fields h

  meant_said_by : (number : ℕ) (fields : List (List ℕ)) (meant : Result B W) → ¬ SayNothing fields
      → meaning number fields ≡ meant → fields_said (meaning number) fields ≡ some_value meant
  meant_said_by number [] meant h m = absurd (h tt)
  meant_said_by number ([] ∷ fields) meant h m = ap some_value m
  meant_said_by number ((b ∷ bs) ∷ fields) meant h m =
      ap (λ v. cond v (Ok None) (some_value (meaning number ((b ∷ bs) ∷ fields))))
      (ne_eqb b COMMENT_MARK h) ∙ ap some_value m

  meant_said : (number : ℕ) (line : List ℕ) (meant : Result B W) → Says Means number line meant
      → said number line ≡ some_value meant
  meant_said number line meant s =
      ap (fields_said (meaning number)) ((fields_are line s.fields).1 s.cut)
      ∙ meant_said_by number s.fields meant s.something
      ((law number s.fields meant).1 s.meaning)

  -- a line says nothing, or its fields mean something
  abbrev Blank : List ℕ → Type 0
  Blank line = (fields : List (List ℕ)) × AreFields line fields × SayNothing fields

  abbrev Shown : ℕ → List ℕ → Type 0
  Shown number line = Blank line ⊎ ((meant : Result B W) × Says Means number line meant)

  something : (number : ℕ) (line : List ℕ) (fields : List (List ℕ)) → AreFields line fields
      → ¬ SayNothing fields → Shown number line
  something number line fields are h =
      inr (
        meaning number fields,
        record {
          fields = fields;
          cut = are;
          something = h;
          meaning = (law number fields (meaning number fields)).0 refl;
        },
      )

  shown_by : (number : ℕ) (line : List ℕ) (fields : List (List ℕ)) → AreFields line fields
      → Shown number line
  shown_by number line [] are = inl ([], are, tt)
  shown_by number line ([] ∷ fields) are = something number line ([] ∷ fields) are (λ h. h)
  shown_by number line ((b ∷ bs) ∷ fields) are =
      elim (b == COMMENT_MARK) as (λ v. (b == COMMENT_MARK) ≡ v → Shown number line) [
        | true ↦ λ t. inl ((b ∷ bs) ∷ fields, are, eqb-true b COMMENT_MARK t)
        | false ↦ λ f. something number line ((b ∷ bs) ∷ fields) are (eqb-false b COMMENT_MARK f)
      ] refl

  shown : (number : ℕ) (line : List ℕ) → Shown number line
  shown number line = shown_by number line (fields_of line) (fields_sound line)

  -- ---- lines one after another

  abbrev answered : ℕ → List B → ℕ → List (List ℕ) → Result (List B) (LinesWhy W)
  answered = answer said

  on_nothing : (room : ℕ) (front : List B) (number : ℕ) (line : List ℕ)
      (fields lines : List (List ℕ)) → AreFields line fields → SayNothing fields
      → answered room front number (line ∷ lines) ≡ answered room front (number + 1) lines
  on_nothing room front number line fields lines are h =
      reads_on said (answered room front number (line ∷ lines)) room front front number line
      (line ∷ lines) lines refl refl
      (subst (λ m. Adds m front front) (sym (nothing_said number line fields are h)) refl)

  on_value : (room : ℕ) (front : List B) (number : ℕ) (line : List ℕ) (lines : List (List ℕ))
      (first : B) → Says Means number line (Ok first) → answered room front number (line ∷ lines)
      ≡ answered room (front ++ first ∷ []) (number + 1) lines
  on_value room front number line lines first s =
      reads_on said (answered room front number (line ∷ lines)) room front (front ++ first ∷ [])
      number line (line ∷ lines) lines refl refl
      (subst (λ m. Adds m front (front ++ first ∷ []))
      (sym (meant_said number line (Ok first) s)) refl)

  -- lines that say values are read, and then the others
  on_lines : (room : ℕ) (front : List B) (number : ℕ) (before after : List (List ℕ))
      (values : List B) → AreSaid Means number before values
      → answered room front number (before ++ after) ≡ answered room (front ++ values)
      (number + length before) after
  on_lines room front number before after values (none n) =
      ap (λ vs. answered room vs number after) (sym (append-nil front))
      ∙ ap (λ n. answered room (front ++ []) n after) (omega arith)
  on_lines room front number before after values (nothing n line fields lines vs are h others) =
      on_nothing room front number line fields (lines ++ after) are h
      ∙ on_lines room front (number + 1) lines after values others
      ∙ ap (λ n. answered room (front ++ values) n after) (omega arith)
  on_lines room front number before after values (value n line lines first rest s others) =
      on_value room front number line (lines ++ after) first s
      ∙ on_lines room (front ++ first ∷ []) (number + 1) lines after rest others
      ∙ ap (λ n. answered room ((front ++ first ∷ []) ++ rest) n after) (omega arith)
      ∙ ap (λ vs. answered room vs (number + length (line ∷ lines)) after)
      (append_assoc front (first ∷ []) rest)

  -- ---- where reading ends

  fits : (room : ℕ) (values : List B) (read : Result (List B) (RefusedLine W))
      → length values ≤ room → limited room values read ≡ by_line read
  fits room values read h = ap (λ v. cond v (Err TooMany) (by_line read))
      (le-ltb room (length values) h)

  at_end : (room : ℕ) (values : List B) (number : ℕ) → length values ≤ room
      → answered room values number [] ≡ Ok values
  at_end room values number h =
      ap (λ vs. limited room vs (Ok vs)) (append-nil values) ∙ fits room values (Ok values) h

  at_refused : (room : ℕ) (values : List B) (number : ℕ) (line : List ℕ) (after : List (List ℕ))
      (why : W) → length values ≤ room → Says Means number line (Err why)
      → answered room values number (line ∷ after)
      ≡ Err (Refused (record { number = number; why = why }))
  at_refused room values number line after why h s =
      let refused = meant_said number line (Err why) s in
      let refusal : RefusedLine W = record { number = number; why = why } in
      ap (λ vs. limited room (values ++ vs)
      (with_front values (read_from said number (line ∷ after))))
      (none_accepted said number line (enumerate_from (number + 1) after) why refused)
      ∙ ap (λ read. limited room (values ++ []) (with_front values read))
      (first_refused said number line after why refused)
      ∙ ap (λ vs. limited room vs (Err refusal)) (append-nil values)
      ∙ fits room values (Err refusal) h

  at_full : (room : ℕ) (values : List B) (number : ℕ) (line : List ℕ) (after : List (List ℕ))
      (next : B) → length values ≡ room → Says Means number line (Ok next)
      → answered room values number (line ∷ after) ≡ Err TooMany
  at_full room values number line after next h s =
      on_value room values number line after next s
      ∙ ap (λ v. cond v (Err TooMany)
      (by_line (with_front (values ++ next ∷ []) (read_from said (number + 1) after))))
      (lt-ltb room
      (length ((values ++ next ∷ []) ++ accepted said (enumerate_from (number + 1) after)))
      (omega (
        arith,
        length-append (values ++ next ∷ [])
            (accepted said (enumerate_from (number + 1) after)),
        length-append values (next ∷ []),
      )))

  -- ---- what is meant is read

  front_none : (read : Result (List B) (RefusedLine W)) → with_front [] read ≡ read
  front_none (Ok values) = refl
  front_none (Err refusal) = refl

  read_is : (room : ℕ) (text : List ℕ) → lines_within room meaning text ≡ answered room [] 1
      (lines_of text)
  read_is room text = ap (limited room (accepted said (enumerate_from 1 (lines_of text))))
      (sym (front_none (lines_read meaning text)))

  -- the lines before one are read
  up_to : (room : ℕ) (text : List ℕ) (number : ℕ) (values : List B) (meant : Result B W)
      (s : LineStandsAt Means text number values meant) → lines_within room meaning text
      ≡ answered room values number (s.line ∷ s.after)
  up_to room text number values meant s =
      read_is room text
      ∙ ap (answered room [] 1) ((lines_are text (s.before ++ s.line ∷ s.after)).1 s.lines)
      ∙ on_lines room [] 1 s.before (s.line ∷ s.after) values s.said
      ∙ ap (λ n. answered room values n (s.line ∷ s.after)) (omega (arith, s.count))

  within_complete : (room : ℕ) (text : List ℕ) (meant : Result (List B) (LinesWhy W))
      → LinesMeanWithin Means room text meant → lines_within room meaning text ≡ meant
  within_complete room text (Ok values) ((lines, are, are_said), few) =
      read_is room text
      ∙ ap (answered room [] 1) ((lines_are text lines).1 are ∙ sym (append-nil lines))
      ∙ on_lines room [] 1 lines [] values are_said
      ∙ at_end room values (1 + length lines) few
  within_complete room text (Err (Refused refused)) (values, s, few) =
      up_to room text refused.number values (Err refused.why) s
      ∙ at_refused room values refused.number s.line s.after refused.why few s.meaning
  within_complete room text (Err TooMany) (values, number, next, s, full) =
      up_to room text number values (Ok next) s ∙ at_full room values number s.line s.after next
      full s.meaning

  -- ---- what is read is meant

  said_more : (number : ℕ) (before after : List (List ℕ)) (values more : List B)
      → AreSaid Means number before values → AreSaid Means (number + length before) after more
      → AreSaid Means number (before ++ after) (values ++ more)
  said_more number before after values more (none n) h =
      subst (λ k. AreSaid Means k after more) (omega arith) h
  said_more number before after values more (nothing n line fields lines vs are empty others) h =
      nothing n line fields (lines ++ after) (vs ++ more) are empty
      (said_more (n + 1) lines after vs more others
      (subst (λ k. AreSaid Means k after more) (omega arith) h))
  said_more number before after values more (value n line lines first rest s others) h =
      value n line (lines ++ after) first (rest ++ more) s
      (said_more (n + 1) lines after rest more others
      (subst (λ k. AreSaid Means k after more) (omega arith) h))

  -- what the lines after some mean, behind the values of those
  abbrev Rest : ℕ → List ℕ → List (List ℕ) → List B → List (List ℕ) → Type 0
  Rest room text before values after =
      LinesMeanWithin Means room text (answered room values (length before + 1) after)

  stands : (text : List ℕ) (before : List (List ℕ)) (line : List ℕ) (after : List (List ℕ))
      (values : List B) (meant : Result B W) → AreLines text (before ++ line ∷ after)
      → AreSaid Means 1 before values → Says Means (length before + 1) line meant
      → LineStandsAt Means text (length before + 1) values meant
  stands text before line after values meant are are_said s = record {
    before = before;
    line = line;
    after = after;
    lines = are;
    said = are_said;
    count = refl;
    meaning = s;
  }

  one_more : (before : List (List ℕ)) (line : List ℕ) → length (before ++ line ∷ []) + 1
      ≡ length before + 1 + 1
  one_more before line = omega (arith, length-append before (line ∷ []))

  after_nothing : (room : ℕ) (text : List ℕ) (before : List (List ℕ)) (line : List ℕ)
      (after : List (List ℕ)) (values : List B) (fields : List (List ℕ)) → AreFields line fields
      → SayNothing fields → Rest room text (before ++ line ∷ []) values after
      → Rest room text before values (line ∷ after)
  after_nothing room text before line after values fields are empty h =
      subst (LinesMeanWithin Means room text)
      (ap (λ n. answered room values n after) (one_more before line)
      ∙ sym (on_nothing room values (length before + 1) line fields after are empty)) h

  after_value : (room : ℕ) (text : List ℕ) (before : List (List ℕ)) (line : List ℕ)
      (after : List (List ℕ)) (values : List B) (first : B) → Says Means (length before + 1) line
      (Ok first) → Rest room text (before ++ line ∷ []) (values ++ first ∷ []) after
      → Rest room text before values (line ∷ after)
  after_value room text before line after values first s h =
      subst (LinesMeanWithin Means room text)
      (ap (λ n. answered room (values ++ first ∷ []) n after) (one_more before line)
      ∙ sym (on_value room values (length before + 1) line after first s)) h

  rest_sound : (room : ℕ) (text : List ℕ) (before after : List (List ℕ)) (values : List B)
      → AreLines text (before ++ after) → AreSaid Means 1 before values → length values ≤ room
      → Rest room text before values after
  rest_sound room text before [] values are are_said few =
      subst (LinesMeanWithin Means room text) (sym (at_end room values (length before + 1) few))
      ((before, subst (AreLines text) (append-nil before) are, are_said), few)
  rest_sound room text before (line ∷ after) values are are_said few =
      let number : ℕ = length before + 1 in
      let moved : AreLines text ((before ++ line ∷ []) ++ after) =
      subst (AreLines text) (sym (append_assoc before (line ∷ []) after)) are in
      let place : number ≡ 1 + length before = omega arith in
      elim (shown number line) [
        | inl (fields, cut, empty) ↦
            let with_line = subst (AreSaid Means 1 (before ++ line ∷ [])) (append-nil values)
            (said_more 1 before (line ∷ []) values [] are_said
            (subst (λ k. AreSaid Means k (line ∷ []) []) place
            (nothing number line fields [] [] cut empty (none (number + 1))))) in
            after_nothing room text before line after values fields cut empty
            (rest_sound room text (before ++ line ∷ []) after values moved with_line few)
        | inr (Err why, s) ↦
            subst (LinesMeanWithin Means room text)
            (sym (at_refused room values number line after why few s))
            (values, stands text before line after values (Err why) are are_said s, few)
        | inr (Ok first, s) ↦
            let with_line = said_more 1 before (line ∷ []) values (first ∷ []) are_said
            (subst (λ k. AreSaid Means k (line ∷ []) (first ∷ [])) place
            (value number line [] first [] s (none (number + 1)))) in
            elim (nat_lt (length values) room) as (λ v. nat_lt (length values) room ≡ v
            → Rest room text before values (line ∷ after)) [
              | true ↦ λ t.
                  let room_left = ltb-true (length values) room t in
                  let fits_still : length (values ++ first ∷ []) ≤ room =
                  omega (arith, length-append values (first ∷ [])) in
                  after_value room text before line after values first s
                  (rest_sound room text (before ++ line ∷ []) after (values ++ first ∷ []) moved
                  with_line fits_still)
              | false ↦ λ f.
                  let no_room = ltb-false (length values) room f in
                  let full : length values ≡ room = omega arith in
                  subst (LinesMeanWithin Means room text)
                  (sym (at_full room values number line after first full s)) (
                    values,
                    number,
                    first,
                    stands text before line after values (Ok first) are
                        are_said s,
                    full,
                  )
            ] refl
      ]

  within_sound : (room : ℕ) (text : List ℕ)
      → LinesMeanWithin Means room text (lines_within room meaning text)
  within_sound room text =
      subst (LinesMeanWithin Means room text) (sym (read_is room text))
      (rest_sound room text [] (lines_of text) [] (lines_sound text) (none 1) (omega arith))

  -- what lines give is what they mean, where there is room for so many values
  pub lines_mean_within : (room : ℕ) (text : List ℕ) (meant : Result (List B) (LinesWhy W))
      → (lines_within room meaning text ≡ meant) ↔ LinesMeanWithin Means room text meant
  lines_mean_within room text meant = (
    λ read. subst (LinesMeanWithin Means room text) read (within_sound room text),
    within_complete room text meant,
  )

  -- ---- without a limit

  -- room for all values and for some more
  abbrev room_for : List ℕ → ℕ → ℕ
  room_for text n = length (accepted said (enumerate_from 1 (lines_of text))) + n

  unlimited : (text : List ℕ) (n : ℕ) → lines_within (room_for text n) meaning text
      ≡ by_line (lines_read meaning text)
  unlimited text n = fits (room_for text n) (accepted said (enumerate_from 1 (lines_of text)))
      (lines_read meaning text) (omega arith)

  without_limit : (room : ℕ) (text : List ℕ) (meant : Result (List B) (RefusedLine W))
      → LinesMeanWithin Means room text (by_line meant) → LinesMean Means text meant
  without_limit room text (Ok values) h = h.0
  without_limit room text (Err refused) h = (h.0, h.1)

  abbrev values_of : (text : List ℕ) (meant : Result (List B) (RefusedLine W))
      → LinesMean Means text meant → List B
  values_of text (Ok values) h = values
  values_of text (Err refused) h = h.0

  with_limit : (room : ℕ) (text : List ℕ) (meant : Result (List B) (RefusedLine W))
      (h : LinesMean Means text meant) → length (values_of text meant h) ≤ room
      → LinesMeanWithin Means room text (by_line meant)
  with_limit room text (Ok values) h few = (h, few)
  with_limit room text (Err refused) h few = (h.0, h.1, few)

  same_read : (a b : Result (List B) (RefusedLine W)) → by_line a ≡ by_line b → a ≡ b
  same_read (Ok x) (Ok y) h = cc
  same_read (Ok x) (Err y) h = cc
  same_read (Err x) (Ok y) h = cc
  same_read (Err x) (Err y) h = cc

  read_complete : (text : List ℕ) (meant : Result (List B) (RefusedLine W))
      → LinesMean Means text meant → lines_read meaning text ≡ meant
  read_complete text meant h =
      let n : ℕ = length (values_of text meant h) in
      same_read (lines_read meaning text) meant
      (sym (unlimited text n) ∙ within_complete (room_for text n) text (by_line meant)
      (with_limit (room_for text n) text meant h (omega arith)))

  read_sound : (text : List ℕ) → LinesMean Means text (lines_read meaning text)
  read_sound text =
      without_limit (room_for text 0) text (lines_read meaning text)
      (subst (LinesMeanWithin Means (room_for text 0) text) (unlimited text 0)
      (within_sound (room_for text 0) text))

  -- what lines give is what they mean
  pub lines_mean : (text : List ℕ) (meant : Result (List B) (RefusedLine W))
      → (lines_read meaning text ≡ meant) ↔ LinesMean Means text meant
  lines_mean text meant =
      (λ read. subst (LinesMean Means text) read (read_sound text), read_complete text meant)
