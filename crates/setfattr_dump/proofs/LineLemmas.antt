-- What a line says, and what the lines behind it make of it.
use Rattle.std.proofs.Common.{◌≡◌, ◌∙◌, ap, sym, refl, subst, ℕ, ◌+◌, List, [], ◌∷◌, ◌++◌}
use Rattle.std.proofs.Common.{append_assoc, append-nil}
use Rattle.std.specs.Prelude.{◌==◌, Option, Some, None, is_some, option_map, Result, Ok, Err}
use Rattle.label_base.specs.Answers.{Answers, Explains}
use Rattle.label_base.specs.Cut.{front, behind}
use Rattle.label_base.specs.Escape.{in_front, unescaped, unescaped_left}
use Rattle.label_base.specs.Lines.{with_front}
use Rattle.file_paths.specs.Path.{Path, path_or}
use Rattle.label_base.specs.declared.lines.RefusedLine.{RefusedLine}
use Rattle.label_base.proofs.EscapeLemmas.{unescaped_cut}
use Rattle.setfattr_dump.specs.declared.dump.Attr.{Attr}
use Rattle.setfattr_dump.specs.declared.dump.Section.{Section}
use Rattle.setfattr_dump.specs.declared.fault.DumpWhy.{DumpWhy}
use Rattle.setfattr_dump.specs.declared.fault.DumpWhy.TheVariants.{BadName}
use Rattle.setfattr_dump.specs.declared.line.Said.{Said}
use Rattle.setfattr_dump.specs.declared.line.Said.TheVariants.{Ends, Names, Gives}
use Rattle.setfattr_dump.specs.declared.reading.SectionsSoFar.{SectionsSoFar}
use Rattle.setfattr_dump.specs.Reading.{line_read, name_read, open_section, said_then}
use Rattle.setfattr_dump.specs.Reading.{sections_from, spelled_path, with_slash}
use Rattle.setfattr_dump.specs.SoFar.{IsState, TakesSaid}

-- ---- names

pub without_escapes : (name plain : List ℕ) → plain ≡ front (λ b. b == 92) name
    → None ≡ behind (λ b. b == 92) name → unescaped name ≡ Some plain
without_escapes name plain f b =
    unescaped_cut name
    ∙ ap (λ o. in_front (front (λ b. b == 92) name) (unescaped_left o)) (sym b)
    ∙ ap Some (append-nil (front (λ b. b == 92) name) ∙ sym f)

pub spelled_by : {F : Type 0} (view : F → Option DumpWhy) (result : Result Path F)
    (name bytes : List ℕ) → unescaped name ≡ Some bytes → Answers (λ (path : Path). path) view
    result (path_or BadName (with_slash bytes)) → Answers (λ (path : Path). path) view result
    (name_read name)
unfolding name_read
spelled_by view result name bytes e h =
    subst (λ o. Answers (λ (path : Path). path) view result (spelled_path o)) (sym e) h

pub bad_escape : (name : List ℕ) → unescaped name ≡ None → name_read name ≡ Err BadName
unfolding name_read
bad_escape name e = ap spelled_path e

-- ---- lines

with_front-with_front : (first more : List Section)
    (read : Result (List Section) (RefusedLine DumpWhy)) → with_front first (with_front more read)
    ≡ with_front (first ++ more) read
with_front-with_front first more (Ok sections) = ap Ok (sym (append_assoc first more sections))
with_front-with_front first more (Err refused) = refl

-- what is read of the lines that are left, behind what is read so far
abbrev pub left_read : ℕ → SectionsSoFar → List (List ℕ)
    → Result (List Section) (RefusedLine DumpWhy)
left_read number s lines = with_front s.sections (sections_from number s.name s.attrs lines)

abbrev said_read : ℕ → SectionsSoFar → Result Said DumpWhy → List (List ℕ)
    → Result (List Section) (RefusedLine DumpWhy)
said_read number s said lines =
    with_front s.sections
    (said_then number s.name s.attrs said
    (λ other given. sections_from (number + 1) other given lines))

goes_to : (number : ℕ) (new : SectionsSoFar) (sections : List Section) (name : Option Path)
    (attrs : List Attr) (lines : List (List ℕ)) → IsState new sections name attrs
    → with_front sections (sections_from number name attrs lines) ≡ left_read number new lines
goes_to number new sections name attrs lines s = rw (s.sections_are, s.name_is, s.attrs_are) refl

taken_of : (number : ℕ) (old new : SectionsSoFar) (said : Result Said DumpWhy) (lines : List
    (List ℕ))
    → TakesSaid said old new → said_read number old said lines ≡ left_read (number + 1) new lines
taken_of number old new (Err why) lines t = absurd t
taken_of number old new (Ok Ends) lines t =
    with_front-with_front old.sections (open_section old.name old.attrs)
    (sections_from (number + 1) None [] lines)
    ∙ goes_to (number + 1) new (old.sections ++ open_section old.name old.attrs) None [] lines t
taken_of number old new (Ok (Names name)) lines t =
    with_front-with_front old.sections (open_section old.name old.attrs)
    (sections_from (number + 1) (Some name) [] lines)
    ∙ goes_to (number + 1) new (old.sections ++ open_section old.name old.attrs) (Some name) []
    lines t
taken_of number old new (Ok (Gives attr)) lines t = goes_to (number + 1) new old.sections old.name
    (old.attrs ++ attr ∷ []) lines t

-- a line that is taken
pub taken : (number : ℕ) (old new : SectionsSoFar) (line : List ℕ) (all lines : List (List ℕ))
    (meant : Result (List Section) (RefusedLine DumpWhy)) → left_read number old all ≡ meant
    → all ≡ line ∷ lines → TakesSaid (line_read (is_some old.name) line) old new
    → left_read (number + 1) new lines ≡ meant
unfolding sections_from
taken number old new line all lines meant h e t =
    sym (taken_of number old new (line_read (is_some old.name) line) lines t)
    ∙ sym (ap (left_read number old) e) ∙ h

-- a line that is refused
pub refused : (number : ℕ) (old : SectionsSoFar) (line : List ℕ) (all lines : List (List ℕ))
    (meant : Result (List Section) (RefusedLine DumpWhy)) (why : DumpWhy) → left_read number old all
    ≡ meant → all ≡ line ∷ lines → line_read (is_some old.name) line ≡ Err why
    → meant ≡ Err (record { number = number; why = why })
unfolding sections_from
refused number old line all lines meant why h e bad =
    sym h ∙ ap (left_read number old) e ∙ ap (λ said. said_read number old said lines) bad

-- no line is left
pub ended : (number : ℕ) (old new : SectionsSoFar) (all : List (List ℕ))
    (meant : Result (List Section) (RefusedLine DumpWhy)) → left_read number old all ≡ meant
    → all ≡ [] → IsState new (old.sections ++ open_section old.name old.attrs) None []
    → meant ≡ Ok new.sections
unfolding sections_from
ended number old new all meant h e s = sym h ∙ ap (left_read number old) e
    ∙ ap Ok (sym s.sections_are)

-- the first refused line, or want of memory
pub refused_or_none : (number : ℕ) (old : SectionsSoFar) (line : List ℕ) (all lines : List (List ℕ))
    (meant : Result (List Section) (RefusedLine DumpWhy)) (cause : Option DumpWhy)
    (shown : Option (RefusedLine DumpWhy))
    → shown ≡ option_map (λ why. record { number = number; why = why }) cause
    → left_read number old all ≡ meant → all ≡ line ∷ lines
    → Explains cause (line_read (is_some old.name) line) → Explains shown meant
refused_or_none number old line all lines meant None shown t h e bad =
    subst (λ o. Explains o meant) (sym t) tt
refused_or_none number old line all lines meant (Some why) shown t h e bad =
    subst (λ o. Explains o meant) (sym t) (refused number old line all lines meant why h e bad)
