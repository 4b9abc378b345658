-- What a run of records means is what its grammar says.
use Rattle.std.proofs.Common.{◌≡◌, ◌∙◌, ap, sym, refl, subst, ℕ, zero, suc, ◌+◌, ◌<◌, ◌≤◌, Bool}
use Rattle.std.proofs.Common.{true, false, List, [], ◌∷◌, ◌++◌, length, append_assoc, append-nil}
use Rattle.std.proofs.Common.{length-append, inl, inr, arith}
use Rattle.std.specs.Prelude.{◌⊎◌, ◌↔◌, Contains, nat_lt, Result, Ok, Err}
use Rattle.std.proofs.lemmas.Bool.{lt-ltb, le-ltb, ltb-true, ltb-false}
use Rattle.label_base.specs.Lines.{with_front}
use Rattle.find_records.specs.declared.format.Format.{Format}
use Rattle.find_records.specs.Record.{AreOfFormat, Record}
use Rattle.find_records.specs.declared.reading.TheConstants.{NUL}
use Rattle.find_records.specs.declared.reading.RecordLimits.{RecordLimits}
use Rattle.find_records.specs.declared.fault.RecordWhy.{RecordWhy}
use Rattle.find_records.specs.declared.fault.RecordsFault.{RecordsFault}
use Rattle.find_records.specs.declared.fault.RecordsFault.TheVariants.{ReadFault, TooLong, TooMany}
use Rattle.find_records.specs.declared.fault.RecordsFault.TheVariants.{Refused, Unended}
use Rattle.find_records.specs.declared.fault.RecordsFault.TheVariants.{OutOfMemory}
use Rattle.find_records.specs.Grammar.{SpellsRecord, IsBadRecord, IsRun, none, more, RecordStandsAt}
use Rattle.find_records.specs.Grammar.{Means, numbered, record_ended, meaning, onto, record_of}
use Rattle.find_records.specs.Grammar.{records_from, records_of}
use Rattle.label_base.proofs.FirstCut.{IsCut, cut, pieces_at, pieces_lacking}
use Rattle.find_records.proofs.RecordGrammar.{RecordMeans, record_sound, record_complete}
use Rattle.find_records.proofs.RecordGrammar.{spelled_counts}
use Rattle.find_records.proofs.RunLemmas.{records_none, records_more, records_last, front_more}

-- ---- one record of a run

-- past the limit
past : (format : Format) (most number : ℕ) (bytes : List ℕ) (is_ended : Bool) → most < number
    → meaning format most number bytes is_ended ≡ Err TooMany
unfolding meaning
past format most number bytes is_ended h = rw (lt-ltb most number h) refl

-- within the limit
within : (format : Format) (most number : ℕ) (bytes : List ℕ) (is_ended : Bool) → number ≤ most
    → meaning format most number bytes is_ended ≡ record_ended format number bytes is_ended
unfolding meaning
within format most number bytes is_ended h = rw (le-ltb most number h) refl

ended_is : (format : Format) (number : ℕ) (bytes : List ℕ) (meant : Result Record RecordWhy)
    → record_of format bytes ≡ meant → record_ended format number bytes true ≡ numbered number meant
ended_is format number bytes meant h = ap (numbered number) h

-- the first record of bytes that have a NUL, and the last one
pub first_is : (format : Format) (most number : ℕ) (piece rest : List ℕ) → ¬ Contains piece NUL
    → records_from format most number (piece ++ NUL ∷ rest)
    ≡ onto (meaning format most number piece true) (records_from format most (number + 1) rest)
first_is format most number piece rest h = records_more format most number (piece ++ NUL ∷ rest)
    piece rest (pieces_at NUL piece rest h)

pub last_is : (format : Format) (most number : ℕ) (bytes : List ℕ) → 0 < length bytes
    → ¬ Contains bytes NUL → records_from format most number bytes
    ≡ onto (meaning format most number bytes false) (records_from format most (number + 1) [])
last_is format most number bytes some h = records_last format most number bytes bytes some
    (pieces_lacking NUL bytes h) refl

pub nothing_is : (format : Format) (most number : ℕ) → records_from format most number [] ≡ Ok []
nothing_is format most number = records_none format most number [] refl

onto_bad : (why : RecordsFault) (meant : Result Record RecordsFault)
    (rest : Result (List Record) RecordsFault) → meant ≡ Err why → onto meant rest ≡ Err why
onto_bad why meant rest h = ap (λ m. onto m rest) h

onto_good : (first : Record) (records : List Record) (rest : Result (List Record) RecordsFault)
    → onto (Ok first) (with_front records rest) ≡ with_front (first ∷ records) rest
onto_good first records (Ok rest) = refl
onto_good first records (Err why) = refl

pub front_none : (meant : Result (List Record) RecordsFault) → with_front [] meant ≡ meant
front_none (Ok records) = refl
front_none (Err why) = refl

-- ---- what is meant is read

-- good records are read, and then what is left
run_read : (format : Format) (most number : ℕ) (front left : List ℕ) (records : List Record)
    → IsRun format front records → number + length records ≤ most + 1
    → records_from format most number (front ++ left) ≡ with_front records
    (records_from format most (number + length records) left)
run_read format most number front left records none few =
    ap (λ n. records_from format most n left) (omega arith)
    ∙ sym (front_none (records_from format most (number + 0) left))
run_read format most number front left records (more bytes rest first others ends good run) few =
    ap (records_from format most number) (append_assoc bytes (NUL ∷ rest) left)
    ∙ first_is format most number bytes (rest ++ left) ends
    ∙ ap (λ m. onto m (records_from format most (number + 1) (rest ++ left)))
    (within format most number bytes true (omega arith)
    ∙ ended_is format number bytes (Ok first) (record_complete format bytes (Ok first) good))
    ∙ ap (onto (Ok first)) (run_read format most (number + 1) rest left others run (omega arith))
    ∙ onto_good first others (records_from format most (number + 1 + length others) left)
    ∙ ap (λ n. with_front (first ∷ others) (records_from format most n left)) (omega arith)

-- what is left behind good records decides
left_read : (format : Format) (most number : ℕ) (bytes left : List ℕ) (why : RecordsFault)
    (s : RecordStandsAt format bytes number left) → number ≤ most + 1
    → records_from format most number left ≡ Err why → records_from format most 1 bytes ≡ Err why
left_read format most number bytes left why s few h =
    ap (records_from format most 1) s.text
    ∙ run_read format most 1 s.front left s.records s.good (omega (arith, s.count))
    ∙ ap (λ n. with_front s.records (records_from format most n left)) (omega (arith, s.count))
    ∙ ap (with_front s.records) h

too_many_left : (format : Format) (most : ℕ) (left : List ℕ) → 0 < length left
    → (¬ Contains left NUL) ⊎ IsCut NUL left → records_from format most (most + 1) left
    ≡ Err TooMany
too_many_left format most left some (inl ends) =
    last_is format most (most + 1) left some ends
    ∙ onto_bad TooMany (meaning format most (most + 1) left false)
    (records_from format most (most + 1 + 1) [])
    (past format most (most + 1) left false (omega arith))
too_many_left format most left some (inr c) =
    ap (records_from format most (most + 1)) c.text
    ∙ first_is format most (most + 1) c.first c.rest c.lacks
    ∙ onto_bad TooMany (meaning format most (most + 1) c.first true)
    (records_from format most (most + 1 + 1) c.rest)
    (past format most (most + 1) c.first true (omega arith))

refused_left : (format : Format) (most number : ℕ) (bad rest : List ℕ) (why : RecordWhy)
    → number ≤ most → ¬ Contains bad NUL → IsBadRecord format bad why
    → records_from format most number (bad ++ NUL ∷ rest) ≡ Err (Refused number why)
refused_left format most number bad rest why few ends is_bad =
    first_is format most number bad rest ends
    ∙ onto_bad (Refused number why) (meaning format most number bad true)
    (records_from format most (number + 1) rest) (within format most number bad true few
    ∙ ended_is format number bad (Err why) (record_complete format bad (Err why) is_bad))

unended_left : (format : Format) (most number : ℕ) (left : List ℕ) → number ≤ most → 0 < length left
    → ¬ Contains left NUL → records_from format most number left ≡ Err (Unended number)
unended_left format most number left few some ends =
    last_is format most number left some ends
    ∙ onto_bad (Unended number) (meaning format most number left false)
    (records_from format most (number + 1) []) (within format most number left false few)

pub run_complete : (format : Format) (most : ℕ) (bytes : List ℕ)
    (meant : Result (List Record) RecordsFault) → Means format most bytes meant
    → records_from format most 1 bytes ≡ meant
run_complete format most bytes (Ok records) m =
    ap (records_from format most 1) (sym (append-nil bytes))
    ∙ run_read format most 1 bytes [] records m.0 (omega (arith, m.1))
    ∙ ap (with_front records) (nothing_is format most (1 + length records))
    ∙ ap Ok (append-nil records)
run_complete format most bytes (Err TooMany) m =
    left_read format most (most + 1) bytes m.left TooMany m.place (omega arith)
    (too_many_left format most m.left m.some (cut NUL m.left))
run_complete format most bytes (Err (Refused number why)) m =
    left_read format most number bytes (m.bad ++ NUL ∷ m.rest) (Refused number why) m.place
    (omega (arith, m.within)) (refused_left format most number m.bad m.rest why m.within m.ended
    m.is_bad)
run_complete format most bytes (Err (Unended number)) m =
    left_read format most number bytes m.left (Unended number) m.place (omega (arith, m.within))
    (unended_left format most number m.left m.within m.some m.unended)
run_complete format most bytes (Err ReadFault) m = absurd m
run_complete format most bytes (Err TooLong) m = absurd m
run_complete format most bytes (Err OutOfMemory) m = absurd m

-- ---- what is read is meant

run_more : (format : Format) (front : List ℕ) (records : List Record) (bytes : List ℕ)
    (found : Record) → IsRun format front records → ¬ Contains bytes NUL
    → SpellsRecord format bytes found → IsRun format (front ++ (bytes ++ NUL ∷ []))
    (records ++ found ∷ [])
run_more format front records bytes found none ends good = more bytes [] found [] ends good none
run_more format front records bytes found (more b rest first others lacks spells run) ends good =
    subst (λ t. IsRun format t (first ∷ (others ++ found ∷ [])))
    (sym (append_assoc b (NUL ∷ rest) (bytes ++ NUL ∷ [])))
    (more b (rest ++ (bytes ++ NUL ∷ [])) first (others ++ found ∷ []) lacks spells
    (run_more format rest others bytes found run ends good))

-- what is left behind good records, and what is read of it
abbrev LeftMeans : Format → ℕ → List ℕ → List Record → List ℕ → Result (List Record) RecordsFault
    → Type 0
LeftMeans format most front records left read =
    Means format most (front ++ left) (with_front records read)

stands : (format : Format) (front : List ℕ) (records : List Record) (left : List ℕ) (number : ℕ)
    → IsRun format front records → length records + 1 ≡ number
    → RecordStandsAt format (front ++ left) number left
stands format front records left number run count =
    record { front = front; records = records; text = refl; good = run; count = count }

nothing_sound : (format : Format) (most : ℕ) (front : List ℕ) (records : List Record)
    → IsRun format front records → length records ≤ most → LeftMeans format most front records []
    (records_from format most (length records + 1) [])
nothing_sound format most front records run few =
    subst (LeftMeans format most front records [])
    (sym (nothing_is format most (length records + 1))) (
      subst (λ t. IsRun format t (records ++ [])) (sym (append-nil front))
          (subst (IsRun format front) (sym (append-nil records)) run),
      subst (λ r. length r ≤ most) (sym (append-nil records)) few,
    )

too_many_sound : (format : Format) (most : ℕ) (front : List ℕ) (records : List Record)
    (left : List ℕ) → IsRun format front records → length records ≤ most → most < length records + 1
    → 0 < length left → LeftMeans format most front records left (Err TooMany)
too_many_sound format most front records left run few full some = record {
  left = left;
  place = stands format front records left (most + 1) run (omega arith);
  some = some;
}

unended_sound : (format : Format) (most : ℕ) (front : List ℕ) (records : List Record)
    (left : List ℕ) → IsRun format front records → length records ≤ most → 0 < length left
    → ¬ Contains left NUL → LeftMeans format most front records left
    (records_from format most (length records + 1) left)
unended_sound format most front records left run few some ends =
    let number : ℕ = length records + 1 in
    let read = last_is format most number left some ends in
    let rest = records_from format most (number + 1) [] in
    elim (nat_lt most number) as (λ b. nat_lt most number ≡ b → LeftMeans format most front records
    left (records_from format most number left)) [
      | true ↦ λ t.
          let full = ltb-true most number t in
          subst (LeftMeans format most front records left)
          (sym (read ∙ onto_bad TooMany (meaning format most number left false) rest
          (past format most number left false full)))
          (too_many_sound format most front records left run few full some)
      | false ↦ λ f.
          let few = ltb-false most number f in
          subst (LeftMeans format most front records left)
          (sym (read ∙ onto_bad (Unended number) (meaning format most number left false) rest
          (within format most number left false few))) (record {
            left = left;
            place = stands format front records left number run refl;
            within = few;
            some = some;
            unended = ends;
          })
    ] refl

-- a bad record is refused, and behind a good one reading goes on
one_sound : (format : Format) (most : ℕ) (front : List ℕ) (records : List Record)
    (piece rest : List ℕ) (one : Result Record RecordWhy) → IsRun format front records
    → length records + 1 ≤ most → ¬ Contains piece NUL → RecordMeans format piece one
    → ((found : Record) → SpellsRecord format piece found → LeftMeans format most front records
    (piece ++ NUL ∷ rest)
    (onto (Ok found) (records_from format most (length records + 1 + 1) rest)))
    → LeftMeans format most front records (piece ++ NUL ∷ rest)
    (onto (numbered (length records + 1) one)
    (records_from format most (length records + 1 + 1) rest))
one_sound format most front records piece rest (Ok found) run few ends spells next =
    next found spells
one_sound format most front records piece rest (Err why) run few ends bad next = record {
  bad = piece;
  rest = rest;
  place = stands format front records (piece ++ NUL ∷ rest) (length records + 1) run refl;
  within = few;
  ended = ends;
  is_bad = bad;
}

ended_sound : (format : Format) (most : ℕ) (front : List ℕ) (records : List Record)
    (piece rest : List ℕ) → IsRun format front records → length records ≤ most
    → ¬ Contains piece NUL
    → ((found : Record) → SpellsRecord format piece found → length records + 1 ≤ most
    → LeftMeans format most front records (piece ++ NUL ∷ rest)
    (onto (Ok found) (records_from format most (length records + 1 + 1) rest)))
    → LeftMeans format most front records (piece ++ NUL ∷ rest)
    (records_from format most (length records + 1) (piece ++ NUL ∷ rest))
ended_sound format most front records piece rest run few ends next =
    let number : ℕ = length records + 1 in
    let left : List ℕ = piece ++ NUL ∷ rest in
    let read = first_is format most number piece rest ends in
    let others = records_from format most (number + 1) rest in
    let some : 0 < length left = omega (arith, length-append piece (NUL ∷ rest)) in
    elim (nat_lt most number) as (λ b. nat_lt most number ≡ b → LeftMeans format most front records
    left (records_from format most number left)) [
      | true ↦ λ t.
          let full = ltb-true most number t in
          subst (LeftMeans format most front records left)
          (sym (read ∙ onto_bad TooMany (meaning format most number piece true) others
          (past format most number piece true full)))
          (too_many_sound format most front records left run few full some)
      | false ↦ λ f.
          let room = ltb-false most number f in
          subst (LeftMeans format most front records left)
          (sym (read ∙ ap (λ m. onto m others) (within format most number piece true room)))
          (one_sound format most front records piece rest (record_of format piece) run room ends
          (record_sound format piece) (λ found spells. next found spells room))
    ] refl

-- the first record of what is left goes to those in front
moved : (format : Format) (most : ℕ) (front : List ℕ) (records : List Record) (piece rest : List ℕ)
    (found : Record) → LeftMeans format most (front ++ (piece ++ NUL ∷ [])) (records ++ found ∷ [])
    rest (records_from format most (length (records ++ found ∷ []) + 1) rest)
    → LeftMeans format most front records (piece ++ NUL ∷ rest)
    (onto (Ok found) (records_from format most (length records + 1 + 1) rest))
moved format most front records piece rest found h =
    let text : (front ++ (piece ++ NUL ∷ [])) ++ rest ≡ front ++ (piece ++ NUL ∷ rest) =
    append_assoc front (piece ++ NUL ∷ []) rest
    ∙ ap (λ t. front ++ t) (append_assoc piece (NUL ∷ []) rest) in
    let count : length (records ++ found ∷ []) + 1 ≡ length records + 1 + 1 =
    omega (arith, length-append records (found ∷ [])) in
    subst (Means format most (front ++ (piece ++ NUL ∷ rest)))
    (sym (front_more records found (records_from format most (length records + 1 + 1) rest)))
    (subst (λ n. Means format most (front ++ (piece ++ NUL ∷ rest))
    (with_front (records ++ found ∷ []) (records_from format most n rest))) count
    (subst (λ t. Means format most t
    (with_front (records ++ found ∷ [])
    (records_from format most (length (records ++ found ∷ []) + 1) rest))) text h))

-- turns is no less than how many bytes are left
left_sound : (format : Format) (turns most : ℕ) (front : List ℕ) (records : List Record)
    (left : List ℕ) → length left ≤ turns → IsRun format front records → length records ≤ most
    → LeftMeans format most front records left (records_from format most (length records + 1) left)
left_sound format turns most front records [] short run few =
    nothing_sound format most front records run few
left_sound format zero most front records (b ∷ bs) short run few = absurd (omega arith)
left_sound format (suc turns) most front records (b ∷ bs) short run few =
    elim (cut NUL (b ∷ bs)) [
      | inl ends ↦ unended_sound format most front records (b ∷ bs) run few (omega arith) ends
      | inr c ↦
          let shorter : length c.rest ≤ turns =
          omega (arith, ap length c.text, length-append c.first (NUL ∷ c.rest)) in
          subst (λ l. LeftMeans format most front records l
          (records_from format most (length records + 1) l)) (sym c.text)
          (ended_sound format most front records c.first c.rest run few c.lacks
          (λ found spells room.
          moved format most front records c.first c.rest found
          (left_sound format turns most (front ++ (c.first ++ NUL ∷ [])) (records ++ found ∷ [])
          c.rest shorter (run_more format front records c.first found run c.lacks spells)
          (omega (arith, length-append records (found ∷ []))))))
    ]

pub run_sound : (format : Format) (most : ℕ) (bytes : List ℕ)
    → Means format most bytes (records_from format most 1 bytes)
run_sound format most bytes =
    subst (Means format most bytes) (front_none (records_from format most 1 bytes))
    (left_sound format (length bytes) most [] [] bytes (omega arith) none (omega arith))

-- the records of bytes are what the bytes mean, faults included
pub run_means : (format : Format) (limits : RecordLimits) (bytes : List ℕ)
    (meant : Result (List Record) RecordsFault) → (records_of format limits bytes ≡ meant) ↔ Means
    format limits.records bytes meant
run_means format limits bytes meant = (
  λ read. subst (Means format limits.records bytes) read (run_sound format limits.records bytes),
  λ means. run_complete format limits.records bytes meant means,
)

-- the records of a run are of its format
pub run_of : (format : Format) (bytes : List ℕ) (records : List Record) → IsRun format bytes records
    → AreOfFormat format records
run_of format bytes records none = tt
run_of format bytes records (more piece rest first others ends good run) =
    (spelled_counts format piece first good, run_of format rest others run)
