-- What is read so far, with the bytes that are still to come.
use Rattle.std.proofs.Common.{◌≡◌, ◌∙◌, ap, sym, subst, ℕ, ◌+◌, ◌<◌, true, false, List, [], ◌∷◌}
use Rattle.std.proofs.Common.{◌++◌, length, length-append, append_assoc, append-nil, arith}
use Rattle.std.specs.Prelude.{Contains, Option, Some, None, Result, Ok, Err}
use Rattle.label_base.specs.Answers.{Explains}
use Rattle.label_base.specs.Lines.{with_front}
use Rattle.find_records.specs.declared.format.Format.{Format}
use Rattle.find_records.specs.Record.{Record}
use Rattle.find_records.specs.declared.fault.RecordsFault.{RecordsFault}
use Rattle.find_records.specs.declared.fault.RecordsFault.TheVariants.{OutOfMemory}
use Rattle.find_records.specs.declared.reading.TheConstants.{NUL}
use Rattle.find_records.specs.Cause.{records_cause}
use Rattle.find_records.specs.Grammar.{meaning, onto, records_from}
use Rattle.find_records.specs.Reading.{with_one}
use Rattle.find_records.specs.SoFar.{refused_or}
use Rattle.find_records.proofs.RunGrammar.{first_is, last_is, nothing_is}
use Rattle.find_records.proofs.RunLemmas.{front_more}

abbrev list_or : List Record → Result (List Record) RecordsFault → List Record
list_or d (Ok xs) = xs
list_or d (Err why) = d

one_more : (format : Format) (most : ℕ) (old new : List Record) (refused : Option RecordsFault)
    (rest : List ℕ) (m : Result Record RecordsFault)
    → refused_or refused (Ok new) ≡ with_one old m
    → with_front old (onto m (records_from format most (length old + 1 + 1) rest))
    ≡ refused_or refused (with_front new (records_from format most (length new + 1) rest))
one_more format most old new None rest (Ok r) h =
    let e : old ++ r ∷ [] ≡ new = sym (ap (list_or old) h) in
    let n : length old + 1 + 1 ≡ length new + 1 =
    omega (arith, ap length e, length-append old (r ∷ [])) in
    front_more old r (records_from format most (length old + 1 + 1) rest)
    ∙ λ i. with_front (e i) (records_from format most (n i) rest)
one_more format most old new None rest (Err why) h = cc
one_more format most old new (Some fault) rest (Ok r) h = cc
one_more format most old new (Some fault) rest (Err why) h = sym h

-- a whole record behind those that were read
ended_meant : (format : Format) (most : ℕ) (old new : List Record) (refused : Option RecordsFault)
    (pending bytes rest : List ℕ)
    → ¬ Contains (pending ++ bytes) NUL
    → refused_or refused (Ok new) ≡ with_one old
    (meaning format most (length old + 1) (pending ++ bytes) true)
    → with_front old (records_from format most (length old + 1) (pending ++ (bytes ++ NUL ∷ rest)))
    ≡ refused_or refused (with_front new (records_from format most (length new + 1) rest))
ended_meant format most old new refused pending bytes rest lacks h =
    ap (λ t. with_front old (records_from format most (length old + 1) t))
    (sym (append_assoc pending bytes (NUL ∷ rest)))
    ∙ ap (with_front old) (first_is format most (length old + 1) (pending ++ bytes) rest lacks)
    ∙ one_more format most old new refused rest
    (meaning format most (length old + 1) (pending ++ bytes) true) h

-- ---- what is taken

-- the end of a record, where whole is all of it
pub taken_ended : (format : Format) (most : ℕ) (old new : List Record)
    (before refused : Option RecordsFault) (pending bytes whole after : List ℕ)
    → before ≡ None → whole ≡ pending ++ bytes → after ≡ [] → ¬ Contains whole NUL
    → refused_or refused (Ok new) ≡ with_one old (meaning format most (length old + 1) whole true)
    → (rest : List ℕ)
    → refused_or before
    (with_front old
    (records_from format most (length old + 1) (pending ++ (bytes ++ NUL ∷ rest))))
    ≡ refused_or refused
    (with_front new (records_from format most (length new + 1) (after ++ rest)))
taken_ended format most old new before refused pending bytes whole after b w a lacks h rest =
    ap (λ r. refused_or r
    (with_front old
    (records_from format most (length old + 1) (pending ++ (bytes ++ NUL ∷ rest))))) b
    ∙ ended_meant format most old new refused pending bytes rest
    (subst (λ t. ¬ Contains t NUL) w lacks)
    (h ∙ ap (λ t. with_one old (meaning format most (length old + 1) t true)) w)
    ∙ ap (λ t. refused_or refused
    (with_front new (records_from format most (length new + 1) (t ++ rest)))) (sym a)

-- ---- the end

pub explained : (fault : RecordsFault) (meant : Result (List Record) RecordsFault)
    → meant ≡ Err fault → Explains (records_cause fault) meant
explained OutOfMemory meant h = tt
explained fault meant h = h

bad_onto : (old : List Record) (why : RecordsFault) (rest : Result (List Record) RecordsFault)
    (m : Result Record RecordsFault) → m ≡ Err why → with_front old (onto m rest) ≡ Err why
bad_onto old why rest m h = ap (λ x. with_front old (onto x rest)) h

-- bytes are left behind the last NUL
pub last_meant : (format : Format) (most : ℕ) (old : List Record) (refused : Option RecordsFault)
    (pending : List ℕ) (why : RecordsFault) → refused ≡ None → 0 < length pending
    → ¬ Contains pending NUL
    → meaning format most (length old + 1) pending false ≡ Err why
    → refused_or refused
    (with_front old (records_from format most (length old + 1) (pending ++ []))) ≡ Err why
last_meant format most old refused pending why r some lacks h =
    (λ i. refused_or (r i)
    (with_front old (records_from format most (length old + 1) (append-nil pending i))))
    ∙ ap (with_front old) (last_is format most (length old + 1) pending some lacks)
    ∙ bad_onto old why (records_from format most (length old + 1 + 1) [])
    (meaning format most (length old + 1) pending false) h

-- nothing is left behind the last NUL
pub whole_meant : (format : Format) (most : ℕ) (old : List Record) (refused : Option RecordsFault)
    (pending : List ℕ) → refused ≡ None → pending ≡ []
    → refused_or refused
    (with_front old (records_from format most (length old + 1) (pending ++ []))) ≡ Ok old
whole_meant format most old refused pending r p =
    (λ i. refused_or (r i) (with_front old (records_from format most (length old + 1) (p i ++ []))))
    ∙ ap (with_front old) (nothing_is format most (length old + 1))
    ∙ ap Ok (append-nil old)
