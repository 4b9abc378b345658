-- The sections of a dump are those that its grammar gives, faults included.
use Rattle.std.proofs.Common.{◌≡◌, ◌∙◌, ap, sym, refl, subst, ℕ, ◌+◌, ◌<◌, Bool, true, false, List}
use Rattle.std.proofs.Common.{[], ◌∷◌, ◌++◌, length, append_assoc, append-nil, length-append, arith}
use Rattle.std.specs.Prelude.{Option, Some, None, is_some, Result, Ok, Err}
use Rattle.label_base.specs.LineGrammar.{AreLines}
use Rattle.label_base.specs.Lines.{with_front}
use Rattle.label_base.specs.Text.{is_nonempty}
use Rattle.file_paths.specs.Path.{Path}
use Rattle.label_base.specs.declared.lines.RefusedLine.{RefusedLine}
use Rattle.label_base.proofs.LineCuts.{lines_are}
use Rattle.setfattr_dump.specs.declared.dump.Attr.{Attr}
use Rattle.setfattr_dump.specs.declared.dump.Section.{Section}
use Rattle.setfattr_dump.specs.declared.fault.DumpWhy.{DumpWhy}
use Rattle.setfattr_dump.specs.declared.line.Said.{Said}
use Rattle.setfattr_dump.specs.declared.line.Said.TheVariants.{Ends, Names, Gives}
use Rattle.setfattr_dump.specs.declared.marks.TheConstants.{FILE_MARK}
use Rattle.setfattr_dump.specs.Grammar as grammar
use Rattle.setfattr_dump.specs.Grammar.{AreAttrs, AreSections, DumpMeans, IsBadLine, IsName}
use Rattle.setfattr_dump.specs.Grammar.{IsLineRefusedAt, leaves_open, open_after}
use Rattle.setfattr_dump.specs.Reading.{dump_read, line_read, open_section, said_then}
use Rattle.setfattr_dump.specs.Reading.{sections_from}
use Rattle.setfattr_dump.proofs.LinesMeant.{attr_line_read, attr_some, bad_line_read}
use Rattle.setfattr_dump.proofs.LinesMeant.{empty_line_read, name_line_read, nonempty}

abbrev pub Read : Type 0
Read = Result (List Section) (RefusedLine DumpWhy)

-- ---- what lines say, one after the other

pub after_said : (number : ℕ) (name : Option Path) (attrs : List Attr) (line : List ℕ)
    (lines : List (List ℕ)) (said : Result Said DumpWhy) → line_read (is_some name) line ≡ said
    → sections_from number name attrs (line ∷ lines) ≡ said_then number name attrs said
    (λ other given. sections_from (number + 1) other given lines)
unfolding sections_from
after_said number name attrs line lines said h =
    ap (λ s. said_then number name attrs s
    (λ other given. sections_from (number + 1) other given lines)) h

pub nothing_left : (number : ℕ) (name : Option Path) (attrs : List Attr)
    → sections_from number name attrs [] ≡ Ok (open_section name attrs)
unfolding sections_from
nothing_left number name attrs = refl

pub front_none : (read : Read) → with_front [] read ≡ read
front_none (Ok sections) = refl
front_none (Err why) = refl

pub front_front : (first more : List Section) (read : Read)
    → with_front first (with_front more read) ≡ with_front (first ++ more) read
front_front first more (Ok sections) = ap Ok (sym (append_assoc first more sections))
front_front first more (Err why) = refl

-- attributes are added to the section that is open
attrs_read : (number : ℕ) (name : Path) (so_far : List Attr) (lines after : List (List ℕ))
    (attrs : List Attr) → AreAttrs lines attrs → sections_from number (Some name) so_far
    (lines ++ after) ≡ sections_from (number + length lines) (Some name) (so_far ++ attrs) after
attrs_read number name so_far lines after attrs grammar.none =
    ap (λ n. sections_from n (Some name) so_far after) (omega arith)
    ∙ ap (λ given. sections_from (number + 0) (Some name) given after) (sym (append-nil so_far))
attrs_read number name so_far lines after attrs (grammar.more line attr rest others is_attr are) =
    after_said number (Some name) so_far line (rest ++ after) (Ok (Gives attr))
    (attr_line_read line attr is_attr)
    ∙ attrs_read (number + 1) name (so_far ++ attr ∷ []) rest after others are
    ∙ ap (λ n. sections_from n (Some name) ((so_far ++ attr ∷ []) ++ others) after) (omega arith)
    ∙ ap (λ given. sections_from (number + length lines) (Some name) given after)
    (append_assoc so_far (attr ∷ []) others)

-- ---- behind lines that are sections

pub open_append : (is_open : Bool) (first second : List (List ℕ))
    → open_after is_open (first ++ second) ≡ open_after (open_after is_open first) second
open_append is_open [] second = refl
open_append is_open (line ∷ lines) second = open_append (is_nonempty line) lines second

pub attrs_open : (lines : List (List ℕ)) (attrs : List Attr) → AreAttrs lines attrs
    → open_after true lines ≡ true
attrs_open lines attrs grammar.none = refl
attrs_open lines attrs (grammar.more line attr rest others is_attr are) =
    ap (λ o. open_after o rest) (nonempty line (attr_some line attr is_attr))
    ∙ attrs_open rest others are

pub name_some : (line : List ℕ) (name : Path) → IsName line name → 0 < length line
name_some line name n = omega (arith, ap length n.text, length-append FILE_MARK.now n.spelled)

-- the sections that are closed and the one that is open, if one is, behind these lines
pub record Reaches (before : List (List ℕ)) (all : List Section) : Type 0 where
  pub closed : List Section
  pub name : Option Path
  pub attrs : List Attr
  pub all_are : all ≡ closed ++ open_section name attrs
  pub opens : leaves_open before ≡ is_some name
  pub reads : (number : ℕ) (after : List (List ℕ)) → sections_from number None [] (before ++ after)
      ≡ with_front closed (sections_from (number + length before) name attrs after)

-- a section is open, and is closed by what comes behind it
closes_open : (number : ℕ) (name : Path) (attrs : List Attr) (lines after : List (List ℕ))
    (sections : List Section) → AreSections lines sections → 0 < length lines
    → sections_from number (Some name) attrs (lines ++ after)
    ≡ with_front (open_section (Some name) attrs) (sections_from number None [] (lines ++ after))
closes_open number name attrs lines after sections grammar.none some = absurd (omega arith)
closes_open number name attrs lines after sections (grammar.empty rest others are) some =
    let left = rest ++ after in
    after_said number (Some name) attrs [] left (Ok Ends) (empty_line_read true)
    ∙ ap (with_front (open_section (Some name) attrs))
    (sym (after_said number None [] [] left (Ok Ends) (empty_line_read false)
    ∙ front_none (sections_from (number + 1) None [] left)))
closes_open number name attrs lines after sections
    (grammar.section line other inner given rest others is_name attributes are) some =
    let left = (inner ++ rest) ++ after in
    after_said number (Some name) attrs line left (Ok (Names other))
    (name_line_read true line other is_name)
    ∙ ap (with_front (open_section (Some name) attrs))
    (sym (after_said number None [] line left (Ok (Names other))
    (name_line_read false line other is_name)
    ∙ front_none (sections_from (number + 1) (Some other) [] left)))

-- a name and its attributes
section_read : (number : ℕ) (line : List ℕ) (name : Path) (inner rest after : List (List ℕ))
    (attrs : List Attr) → IsName line name → AreAttrs inner attrs
    → sections_from number None [] ((line ∷ (inner ++ rest)) ++ after) ≡ sections_from
    (number + (1 + length inner)) (Some name) attrs (rest ++ after)
section_read number line name inner rest after attrs is_name attributes =
    after_said number None [] line ((inner ++ rest) ++ after) (Ok (Names name))
    (name_line_read false line name is_name)
    ∙ front_none (sections_from (number + 1) (Some name) [] ((inner ++ rest) ++ after))
    ∙ ap (sections_from (number + 1) (Some name) []) (append_assoc inner rest after)
    ∙ attrs_read (number + 1) name [] inner (rest ++ after) attrs attributes
    ∙ ap (λ n. sections_from n (Some name) attrs (rest ++ after)) (omega arith)

last_section : (line : List ℕ) (name : Path) (inner : List (List ℕ)) (attrs : List Attr)
    → IsName line name → AreAttrs inner attrs
    → Reaches (line ∷ (inner ++ [])) (record { name = name; attrs = attrs } ∷ [])
last_section line name inner attrs is_name attributes = record {
  closed = [];
  name = Some name;
  attrs = attrs;
  all_are = refl;
  opens = ap (λ lines. open_after (is_nonempty line) lines) (append-nil inner)
      ∙ ap (λ o. open_after o inner) (nonempty line (name_some line name is_name))
      ∙ attrs_open inner attrs attributes;
  reads = λ number after.
      section_read number line name inner [] after attrs is_name attributes
      ∙ ap (λ n. sections_from n (Some name) attrs after)
      (omega (arith, ap length (append-nil inner)))
      ∙ sym (front_none (sections_from (number + length (line ∷ (inner ++ []))) (Some name) attrs
      after));
}

more_sections : (line : List ℕ) (name : Path) (inner : List (List ℕ)) (attrs : List Attr)
    (rest : List (List ℕ)) (others : List Section) → IsName line name → AreAttrs inner attrs
    → AreSections rest others → 0 < length rest → Reaches rest others
    → leaves_open rest ≡ open_after true rest
    → Reaches (line ∷ (inner ++ rest)) (record { name = name; attrs = attrs } ∷ others)
more_sections line name inner attrs rest others is_name attributes are some r same = record {
  closed = record { name = name; attrs = attrs } ∷ r.closed;
  name = r.name;
  attrs = r.attrs;
  all_are = ap (λ sections. record { name = name; attrs = attrs } ∷ sections) r.all_are;
  opens =
      ap (λ o. open_after o (inner ++ rest)) (nonempty line (name_some line name is_name))
      ∙ open_append true inner rest
      ∙ ap (λ o. open_after o rest) (attrs_open inner attrs attributes)
      ∙ sym same
      ∙ r.opens;
  reads = λ number after.
      let first = open_section (Some name) attrs in
      let n : ℕ = number + (1 + length inner) in
      section_read number line name inner rest after attrs is_name attributes
      ∙ closes_open n name attrs rest after others are some
      ∙ ap (with_front first) (r.reads n after)
      ∙ front_front first r.closed (sections_from (n + length rest) r.name r.attrs after)
      ∙ ap (λ k. with_front (first ++ r.closed) (sections_from k r.name r.attrs after))
      (omega (arith, length-append inner rest));
}

empty_more : (rest : List (List ℕ)) (others : List Section) → Reaches rest others
    → Reaches ([] ∷ rest) others
empty_more rest others r = record {
  closed = r.closed;
  name = r.name;
  attrs = r.attrs;
  all_are = r.all_are;
  opens = r.opens;
  reads = λ number after.
      after_said number None [] [] (rest ++ after) (Ok Ends) (empty_line_read false)
      ∙ front_none (sections_from (number + 1) None [] (rest ++ after))
      ∙ r.reads (number + 1) after
      ∙ ap (λ k. with_front r.closed (sections_from k r.name r.attrs after)) (omega arith);
}

nothing_more : (lines : List (List ℕ)) (sections : List Section) → AreSections lines sections
    → lines ≡ [] → sections ≡ []
nothing_more lines sections grammar.none e = refl
nothing_more lines sections (grammar.empty rest others are) e = cc
nothing_more lines sections (grammar.section line name inner attrs rest others is_name attributes
    are) e = cc

pub reaches : (lines : List (List ℕ)) (sections : List Section) → AreSections lines sections
    → Reaches lines sections
reaches lines sections grammar.none = record {
  closed = [];
  name = None;
  attrs = [];
  all_are = refl;
  opens = refl;
  reads = λ number after. ap (λ n. sections_from n None [] after) (omega arith)
      ∙ sym (front_none (sections_from (number + 0) None [] after));
}
reaches lines sections (grammar.empty rest others are) =
    empty_more rest sections (reaches rest sections are)
reaches lines sections (grammar.section line name inner attrs [] others is_name attributes are) =
    subst (λ more. Reaches (line ∷ (inner ++ [])) (record { name = name; attrs = attrs } ∷ more))
    (sym (nothing_more [] others are refl))
    (last_section line name inner attrs is_name attributes)
reaches lines sections (grammar.section line name inner attrs (next ∷ rest) others is_name
    attributes are) =
    more_sections line name inner attrs (next ∷ rest) others is_name attributes are (omega arith)
    (reaches (next ∷ rest) others are) refl

-- ---- what is meant is read

all_read : (lines : List (List ℕ)) (sections : List Section) → AreSections lines sections
    → sections_from 1 None [] lines ≡ Ok sections
all_read lines sections are =
    let r = reaches lines sections are in
    ap (sections_from 1 None []) (sym (append-nil lines))
    ∙ r.reads 1 []
    ∙ ap (with_front r.closed) (nothing_left (1 + length lines) r.name r.attrs)
    ∙ ap Ok (sym r.all_are)

pub sections_read : (bytes : List ℕ) (lines : List (List ℕ)) (sections : List Section)
    → AreLines bytes lines → AreSections lines sections → dump_read bytes ≡ Ok sections
sections_read bytes lines sections cut are =
    ap (sections_from 1 None []) ((lines_are bytes lines).1 cut) ∙ all_read lines sections are

refused_read : (bytes : List ℕ) (number : ℕ) (why : DumpWhy) → IsLineRefusedAt bytes number why
    → dump_read bytes ≡ Err (record { number = number; why = why })
refused_read bytes number why h =
    let r = reaches h.before h.sections h.good in
    ap (sections_from 1 None []) ((lines_are bytes (h.before ++ h.line ∷ h.after)).1 h.lines)
    ∙ r.reads 1 (h.line ∷ h.after)
    ∙ ap (with_front r.closed) (after_said (1 + length h.before) r.name r.attrs h.line h.after
    (Err why) (bad_line_read (is_some r.name) h.line why
    (subst (λ o. IsBadLine o h.line why) r.opens h.bad)))
    ∙ ap (λ (n : ℕ). Err (record { number = n; why = why })) (omega (arith, h.count))

pub dump_complete : (bytes : List ℕ) (meant : Read) → DumpMeans bytes meant
    → dump_read bytes ≡ meant
dump_complete bytes (Ok sections) m = sections_read bytes m.0 sections m.1 m.2
dump_complete bytes (Err refused) m = refused_read bytes refused.number refused.why m
