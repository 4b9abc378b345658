-- What a dump reads as is what its grammar says, the first refused line included.
use Rattle.std.proofs.Common.{◌≡◌, ◌∙◌, ap, sym, refl, subst, ℕ, ◌+◌, true, false, List, [], ◌∷◌}
use Rattle.std.proofs.Common.{◌++◌, length, append_assoc, append-nil, length-append, arith}
use Rattle.std.specs.Prelude.{◌↔◌, Option, Some, None, is_some, Result, Ok, Err}
use Rattle.label_base.specs.LineGrammar.{AreLines}
use Rattle.label_base.specs.Lines.{lines_of, with_front}
use Rattle.file_paths.specs.Path.{Path}
use Rattle.label_base.proofs.LineCuts.{lines_are}
use Rattle.setfattr_dump.specs.declared.dump.Attr.{Attr}
use Rattle.setfattr_dump.specs.declared.dump.Section.{Section}
use Rattle.setfattr_dump.specs.declared.fault.DumpWhy.{DumpWhy}
use Rattle.setfattr_dump.specs.declared.line.Said.{Said}
use Rattle.setfattr_dump.specs.declared.line.Said.TheVariants.{Ends, Names, Gives}
use Rattle.setfattr_dump.specs.Grammar as grammar
use Rattle.setfattr_dump.specs.Grammar.{AreAttrs, AreSections, DumpMeans, IsAttr, IsBadLine, IsName}
use Rattle.setfattr_dump.specs.Grammar.{leaves_open, open_after}
use Rattle.setfattr_dump.specs.Reading.{dump_read, line_read, open_section, said_then}
use Rattle.setfattr_dump.specs.Reading.{sections_from}
use Rattle.setfattr_dump.proofs.LinesMeant.{LineMeans, line_sound, nonempty}
use Rattle.setfattr_dump.proofs.SectionsMeant.{Read, after_said, attrs_open, dump_complete}
use Rattle.setfattr_dump.proofs.SectionsMeant.{front_front, front_none, name_some, nothing_left}
use Rattle.setfattr_dump.proofs.SectionsMeant.{open_append}

-- ---- lines that are joined

sections_join : (first second : List (List ℕ)) (sections others : List Section)
    → AreSections first sections → AreSections second others
    → AreSections (first ++ second) (sections ++ others)
sections_join first second sections others grammar.none h = h
sections_join first second sections others (grammar.empty rest more are) h =
    grammar.empty (rest ++ second) (sections ++ others)
    (sections_join rest second sections others are h)
sections_join first second sections others
    (grammar.section line name inner attrs rest more is_name attributes are) h =
    subst (λ ls. AreSections (line ∷ ls) (record { name = name; attrs = attrs } ∷ (more ++ others)))
    (sym (append_assoc inner rest second))
    (grammar.section line name inner attrs (rest ++ second) (more ++ others) is_name attributes
    (sections_join rest second more others are h))

attrs_join : (inner : List (List ℕ)) (attrs : List Attr) (line : List ℕ) (attr : Attr)
    → AreAttrs inner attrs → IsAttr line attr → AreAttrs (inner ++ line ∷ []) (attrs ++ attr ∷ [])
attrs_join inner attrs line attr grammar.none h = grammar.more line attr [] [] h grammar.none
attrs_join inner attrs line attr (grammar.more first given rest others is_attr are) h =
    grammar.more first given (rest ++ line ∷ []) (others ++ attr ∷ []) is_attr
    (attrs_join rest others line attr are h)

-- ---- the lines before, the sections that they close, and the one that they leave open, if they do

data Stands : List (List ℕ) → List Section → Option Path → List Attr → Type 0 where
  closed : (before : List (List ℕ)) (sections : List Section)
      → AreSections before sections
      → leaves_open before ≡ false
      → Stands before sections None []
  opened : (front : List (List ℕ)) (sections : List Section) (line : List ℕ) (name : Path)
      (inner : List (List ℕ)) (attrs : List Attr)
      → AreSections front sections
      → IsName line name
      → AreAttrs inner attrs
      → Stands (front ++ line ∷ inner) sections (Some name) attrs

finished : (before : List (List ℕ)) (sections : List Section) (name : Option Path)
    (attrs : List Attr) → Stands before sections name attrs
    → AreSections before (sections ++ open_section name attrs)
finished before sections name attrs (closed lines others are ends) =
    subst (AreSections before) (sym (append-nil sections)) are
finished before sections name attrs
    (opened front others line path inner given are is_name attributes) =
    sections_join front (line ∷ inner) sections (record { name = path; attrs = attrs } ∷ []) are
    (subst (λ ls. AreSections (line ∷ ls) (record { name = path; attrs = attrs } ∷ []))
    (append-nil inner) (grammar.section line path inner attrs [] [] is_name attributes
    grammar.none))

opens : (before : List (List ℕ)) (sections : List Section) (name : Option Path) (attrs : List Attr)
    → Stands before sections name attrs → leaves_open before ≡ is_some name
opens before sections name attrs (closed lines others are ends) = ends
opens before sections name attrs
    (opened front others line path inner given are is_name attributes) =
    open_append false front (line ∷ inner)
    ∙ ap (λ o. open_after o inner) (nonempty line (name_some line path is_name))
    ∙ attrs_open inner attrs attributes

ended : (before : List (List ℕ)) (line : List ℕ) (sections : List Section) (name : Option Path)
    (attrs : List Attr) → line ≡ [] → Stands before sections name attrs
    → Stands (before ++ line ∷ []) (sections ++ open_section name attrs) None []
ended before line sections name attrs e s =
    let all : List Section = sections ++ open_section name attrs in
    let are : AreSections (before ++ [] ∷ []) (all ++ []) =
    sections_join before ([] ∷ []) all [] (finished before sections name attrs s)
    (grammar.empty [] [] grammar.none) in
    subst (λ l. Stands (before ++ l ∷ []) all None []) (sym e)
    (closed (before ++ [] ∷ []) all
    (subst (AreSections (before ++ [] ∷ [])) (append-nil all) are)
    (open_append false before ([] ∷ [])))

named : (before : List (List ℕ)) (line : List ℕ) (other : Path) (sections : List Section)
    (name : Option Path) (attrs : List Attr) → IsName line other → Stands before sections name attrs
    → Stands (before ++ line ∷ []) (sections ++ open_section name attrs) (Some other) []
named before line other sections name attrs is_name s =
    opened before (sections ++ open_section name attrs) line other [] []
    (finished before sections name attrs s) is_name grammar.none

given : (before : List (List ℕ)) (line : List ℕ) (attr : Attr) (sections : List Section)
    (name : Option Path) (attrs : List Attr) → IsAttr line attr → is_some name ≡ true
    → Stands before sections name attrs → Stands (before ++ line ∷ []) sections name
    (attrs ++ attr ∷ [])
given before line attr sections name attrs is_attr is_open (closed lines others are ends) = cc
given before line attr sections name attrs is_attr is_open
    (opened front others first path inner so_far are is_name attributes) =
    subst (λ ls. Stands ls sections (Some path) (attrs ++ attr ∷ []))
    (sym (append_assoc front (first ∷ inner) (line ∷ [])))
    (opened front sections first path (inner ++ line ∷ []) (attrs ++ attr ∷ []) are is_name
    (attrs_join inner attrs line attr attributes is_attr))

-- ---- line by line

-- what is read of the lines that are left, behind what stands
abbrev Goes : List ℕ → ℕ → List (List ℕ) → List Section → Option Path → List Attr → Type 0
Goes bytes number lines sections name attrs =
    DumpMeans bytes (with_front sections (sections_from number name attrs lines))

said_sound : (bytes : List ℕ) (before : List (List ℕ)) (line : List ℕ) (lines : List (List ℕ))
    (sections : List Section) (name : Option Path) (attrs : List Attr) (said : Result Said DumpWhy)
    → AreLines bytes (before ++ line ∷ lines)
    → Stands before sections name attrs
    → LineMeans (is_some name) line said
    → ((others : List Section) (other : Option Path) (more : List Attr)
    → Stands (before ++ line ∷ []) others other more → Goes bytes (length before + 1 + 1) lines
    others other more)
    → DumpMeans bytes
    (with_front sections
    (said_then (length before + 1) name attrs said
    (λ other more. sections_from (length before + 1 + 1) other more lines)))
said_sound bytes before line lines sections name attrs (Err why) cut s means next = record {
  before = before;
  line = line;
  after = lines;
  sections = sections ++ open_section name attrs;
  lines = cut;
  good = finished before sections name attrs s;
  count = refl;
  bad = subst (λ o. IsBadLine o line why) (sym (opens before sections name attrs s)) means;
}
said_sound bytes before line lines sections name attrs (Ok Ends) cut s means next =
    subst (DumpMeans bytes)
    (sym (front_front sections (open_section name attrs)
    (sections_from (length before + 1 + 1) None [] lines)))
    (next (sections ++ open_section name attrs) None []
    (ended before line sections name attrs means s))
said_sound bytes before line lines sections name attrs (Ok (Names other)) cut s means next =
    subst (DumpMeans bytes)
    (sym (front_front sections (open_section name attrs)
    (sections_from (length before + 1 + 1) (Some other) [] lines)))
    (next (sections ++ open_section name attrs) (Some other) []
    (named before line other sections name attrs means s))
said_sound bytes before line lines sections name attrs (Ok (Gives attr)) cut s means next =
    next sections name (attrs ++ attr ∷ [])
    (given before line attr sections name attrs means.0 means.1 s)

lines_sound : (bytes : List ℕ) (before lines : List (List ℕ)) (sections : List Section)
    (name : Option Path) (attrs : List Attr) → AreLines bytes (before ++ lines)
    → Stands before sections name attrs → Goes bytes (length before + 1) lines sections name attrs
lines_sound bytes before [] sections name attrs cut s =
    subst (DumpMeans bytes)
    (sym (ap (with_front sections) (nothing_left (length before + 1) name attrs)))
    (before, subst (AreLines bytes) (append-nil before) cut, finished before sections name attrs s)
lines_sound bytes before (line ∷ lines) sections name attrs cut s =
    let number : ℕ = length before + 1 in
    subst (λ r. DumpMeans bytes (with_front sections r))
    (sym (after_said number name attrs line lines (line_read (is_some name) line) refl))
    (said_sound bytes before line lines sections name attrs (line_read (is_some name) line) cut s
    (line_sound (is_some name) line)
    (λ others other more stands.
    subst (λ n. Goes bytes n lines others other more)
    (omega (arith, length-append before (line ∷ [])))
    (lines_sound bytes (before ++ line ∷ []) lines others other more
    (subst (AreLines bytes) (sym (append_assoc before (line ∷ []) lines)) cut) stands)))

dump_sound : (bytes : List ℕ) → DumpMeans bytes (dump_read bytes)
dump_sound bytes =
    subst (DumpMeans bytes) (front_none (dump_read bytes))
    (lines_sound bytes [] (lines_of bytes) [] None [] ((lines_are bytes (lines_of bytes)).0 refl)
    (closed [] [] grammar.none refl))

-- what a dump reads as is what it means
pub dump_means : (bytes : List ℕ) (meant : Read) → (dump_read bytes ≡ meant) ↔ DumpMeans bytes meant
dump_means bytes meant =
    (λ read. subst (DumpMeans bytes) read (dump_sound bytes), dump_complete bytes meant)
