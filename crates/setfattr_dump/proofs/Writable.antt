-- What was read can be written.
use Rattle.std.proofs.Common.{◌≡◌, ◌∙◌, ap, sym, refl, subst, ℕ, ◌≤◌, Bool, true, false, cond, List}
use Rattle.std.proofs.Common.{[], ◌∷◌, ◌++◌, length, drop, append_assoc, arith}
use Rattle.std.specs.Prelude.{◌==◌, ◌&&◌, not, nat_le, nat_lt, filter, Contains, slice_index, Ok}
use Rattle.std.specs.Prelude.{Err, if◌then◌else◌}
use Rattle.std.specs.List.{AllByRecursion, list_all, list_any, slice_split, onto_first}
use Rattle.std.proofs.lemmas.Bool.Decides.{nat_tests}
use Rattle.std.proofs.lemmas.Bool.{and_from, or_parts}
use Rattle.label_base.specs.LineGrammar as cuts
use Rattle.label_base.specs.LineGrammar.{AreLines}
use Rattle.label_base.specs.Text.{is_nonempty}
use Rattle.file_paths.specs.Path.{Path, is_dot_part, is_slash, path_names, path_read, path_text}
use Rattle.file_paths.specs.Path.{with_slashes}
use Rattle.file_paths.specs.declared.path_fault.PathWhy.TheVariants.{Empty, PathTooLong, HasNul}
use Rattle.file_paths.specs.declared.path_fault.PathWhy.TheVariants.{NotAbsolute, DotPart}
use Rattle.label_base.proofs.FirstCut.{lacks_first, lacks_others}
use Rattle.file_paths.proofs.PathLengths.{short_text}
use Rattle.setfattr_dump.specs.declared.dump.Attr.{Attr}
use Rattle.setfattr_dump.specs.declared.dump.Section.{Section}
use Rattle.setfattr_dump.specs.declared.marks.TheConstants.{FILE_MARK}
use Rattle.setfattr_dump.specs.Grammar as grammar
use Rattle.setfattr_dump.specs.Grammar.{AreAttrs, AreSections, IsAttr, IsName}
use Rattle.setfattr_dump.specs.Reading.{dump_read, with_slash}
use Rattle.setfattr_dump.specs.Texts.{are_writable, is_key, is_file_line, is_readable}
use Rattle.setfattr_dump.proofs.DumpMeant.{dump_means}
use Rattle.setfattr_dump.proofs.LinesMeant.{mark_found, marked_rest, nonempty}

-- ---- names

record IsRead (bytes : List ℕ) (name : Path) : Type 0 where
  pub some : (length bytes == 0) ≡ false
  pub short : nat_lt 4095 (length bytes) ≡ false
  pub absolute : (slice_index bytes 0 == 47) ≡ true
  pub no_dots : list_any is_dot_part (path_names bytes) ≡ false
  pub names : path_names bytes ≡ name

shown : (a b c d e : Bool) (n p : Path)
    → (if a then Err Empty else if b then Err PathTooLong else if c then Err HasNul else if not
    d then Err NotAbsolute else if e then Err DotPart else Ok n) ≡ Ok p → (a ≡ false) × (b ≡ false)
    × (d ≡ true) × (e ≡ false) × (n ≡ p)
shown true b c d e n p h = cc
shown false true c d e n p h = cc
shown false false true d e n p h = cc
shown false false false false e n p h = cc
shown false false false true true n p h = cc
shown false false false true false n p h = (refl, refl, refl, refl, cc)

read_so : (bytes : List ℕ) (name : Path) → path_read bytes ≡ Ok name → IsRead bytes name
read_so bytes name h =
    let t = shown (length bytes == 0) (nat_lt 4095 (length bytes)) (list_any (λ b. b == 0) bytes)
    (slice_index bytes 0 == 47) (list_any is_dot_part (path_names bytes)) (path_names bytes)
    name h in
    record { some = t.0; short = t.1; absolute = t.2; no_dots = t.3; names = t.4 }

few : (n : ℕ) → nat_lt 4095 n ≡ false → n ≤ 4095
few n h = grind (arith, nat_tests)

within : (n : ℕ) → n ≤ 4095 → nat_le n 4095 ≡ true
within n h = grind (arith, nat_tests)

first_slash : (v : Bool) (x : ℕ) (pieces : List (List ℕ)) → v ≡ true
    → filter is_nonempty (cond v ([] ∷ pieces) (onto_first x pieces)) ≡ filter is_nonempty pieces
first_slash v x pieces h = rw h refl

text_short : (name : Path) → length (with_slashes name) ≤ 4095 → length (path_text name) ≤ 4095
text_short [] h = omega arith
text_short (first ∷ names) h = h

names_short : (bytes : List ℕ) (name : Path) → IsRead bytes name → length (path_text name) ≤ 4095
names_short [] name r = let e = r.some in cc
names_short (x ∷ bs) name r =
    let same : name ≡ path_names bs = sym r.names
    ∙ first_slash (is_slash x) x (slice_split is_slash bs) r.absolute in
    let long : length (x ∷ bs) ≤ 4095 = few (length (x ∷ bs)) r.short in
    text_short name
    (subst (λ n. length (with_slashes n) ≤ 4095) (sym same) (omega (arith, short_text bs)))

readable : (bytes : List ℕ) (name : Path) → IsRead bytes name → is_readable name ≡ true
readable bytes name r =
    and_from (nat_le (length (path_text name)) 4095) (not (list_any is_dot_part name))
    (within (length (path_text name)) (names_short bytes name r))
    (ap not (ap (list_any is_dot_part) (sym r.names) ∙ r.no_dots))

name_readable : (line : List ℕ) (name : Path) → IsName line name → is_readable name ≡ true
name_readable line name n =
    readable (with_slash n.bytes) name (read_so (with_slash n.bytes) name n.path)

-- ---- keys

none_of : (byte : ℕ) (bytes : List ℕ) → ¬ Contains bytes byte → list_any (λ b. b == byte) bytes
    ≡ false
none_of byte [] h = refl
none_of byte (b ∷ bs) h = rw (lacks_first byte b bs h) (none_of byte bs (lacks_others byte b bs h))

none_in_front : (byte : ℕ) (front rest : List ℕ) → list_any (λ b. b == byte) (front ++ rest) ≡ false
    → list_any (λ b. b == byte) front ≡ false
none_in_front byte [] rest h = refl
none_in_front byte (b ∷ bs) rest h =
    let parts = or_parts (b == byte) (list_any (λ b. b == byte) (bs ++ rest)) h in
    rw parts.0 (none_in_front byte bs rest parts.1)

unmarked : (line key rest : List ℕ) (v : Bool) → line ≡ key ++ rest → is_file_line line ≡ false
    → is_file_line key ≡ v → v ≡ false
unmarked line key rest false e h k = refl
unmarked line key rest true e h k =
    let behind : List ℕ = drop (length FILE_MARK.now) key in
    let text : line ≡ FILE_MARK.now ++ (behind ++ rest) =
    e ∙ ap (λ t. t ++ rest) (marked_rest key k) ∙ append_assoc FILE_MARK.now behind rest in
    let marked = mark_found line (behind ++ rest) text in
    cc

four : (p q r s : Bool) → p ≡ true → q ≡ false → r ≡ false → s ≡ false
    → (p && not q && not r && not s) ≡ true
four p q r s hp hq hr hs = rw (hp, hq, hr, hs) refl

key_writable : (line : List ℕ) (attr : Attr) → ¬ Contains line 10 → IsAttr line attr
    → is_key attr.key ≡ true
key_writable line attr lacks a =
    let key = attr.key in
    four (is_nonempty key) (list_any (λ b. b == 61) key) (list_any (λ b. b == 10) key)
    (is_file_line key)
    (nonempty key a.key.some) (none_of 61 key a.key.no_equals)
    (none_in_front 10 key (61 ∷ a.given) (ap (list_any (λ b. b == 10)) (sym a.key.text)
    ∙ none_of 10 line lacks))
    (unmarked line key (61 ∷ a.given) (is_file_line key) a.key.text a.other refl)

-- ---- lines

abbrev NoFeed : List ℕ → Type 0
NoFeed line = ¬ Contains line 10

lines_lack : (text : List ℕ) (lines : List (List ℕ)) → AreLines text lines
    → AllByRecursion NoFeed lines
lines_lack text lines cuts.none = tt
lines_lack text lines (cuts.last line some lacks) = (lacks, tt)
lines_lack text lines (cuts.more line rest others lacks are) = (lacks, lines_lack rest others are)

behind : (first second : List (List ℕ)) → AllByRecursion NoFeed (first ++ second)
    → AllByRecursion NoFeed second
behind [] second h = h
behind (line ∷ lines) second h = behind lines second h.1

attrs_writable : (inner rest : List (List ℕ)) (attrs : List Attr)
    → AllByRecursion NoFeed (inner ++ rest) → AreAttrs inner attrs
    → list_all (λ attr. is_key attr.key) attrs ≡ true
attrs_writable inner rest attrs lack grammar.none = refl
attrs_writable inner rest attrs lack (grammar.more line attr lines others is_attr are) =
    and_from (is_key attr.key) (list_all (λ attr. is_key attr.key) others)
    (key_writable line attr lack.0 is_attr) (attrs_writable lines rest others lack.1 are)

sections_writable : (lines : List (List ℕ)) (sections : List Section) → AllByRecursion NoFeed lines
    → AreSections lines sections → are_writable sections ≡ true
sections_writable lines sections lack grammar.none = refl
sections_writable lines sections lack (grammar.empty rest others are) =
    sections_writable rest sections lack.1 are
sections_writable lines sections lack
    (grammar.section line name inner attrs rest others is_name attributes are) =
    and_from (is_readable name && list_all (λ attr. is_key attr.key) attrs) (are_writable others)
    (and_from (is_readable name) (list_all (λ attr. is_key attr.key) attrs)
    (name_readable line name is_name) (attrs_writable inner rest attrs lack.1 attributes))
    (sections_writable rest others (behind inner rest lack.1) are)

-- what was read can be written
pub read_writable : (bytes : List ℕ) (sections : List Section) → dump_read bytes ≡ Ok sections
    → are_writable sections ≡ true
read_writable bytes sections h =
    let m = (dump_means bytes (Ok sections)).0 h in
    sections_writable m.0 sections (lines_lack bytes m.0 m.1) m.2
