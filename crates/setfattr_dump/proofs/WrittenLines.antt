-- The lines of what is written, and that none of its parts has a line feed.
use Rattle.std.proofs.Common.{◌≡◌, ◌∙◌, ap, sym, refl, subst, ℕ, zero, suc, ◌+◌, ◌/◌, ◌%◌, ◌<◌, ◌≤◌}
use Rattle.std.proofs.Common.{Bool, true, false, cond, List, [], ◌∷◌, ◌++◌, length, append_assoc}
use Rattle.std.proofs.Common.{arith}
use Rattle.std.specs.Prelude.{◌==◌, ◌&&◌, not, slice_index, Contains, Result, Ok, Err, IfOk}
use Rattle.std.specs.List.{AllByRecursion, list_all, list_any}
use Rattle.std.proofs.lemmas.Bool.{eqb-false, ne_eqb, or_from, or_parts}
use Rattle.std.proofs.lemmas.Bool.Decides.{nat_tests}
use Rattle.std.specs.Cmp.{first_so, second_so}
use Rattle.hex.specs.Hex.{encode_with, lower_digits}
use Rattle.label_base.specs.Escape.{escaped, escaped_byte, is_plain_byte}
use Rattle.label_base.specs.LineGrammar as cuts
use Rattle.label_base.specs.LineGrammar.{AreLines}
use Rattle.label_base.specs.Text.{is_nonempty}
use Rattle.file_paths.specs.Path.{Path, path_read, path_text}
use Rattle.label_base.proofs.FirstCut.{lacks_nothing, lacks_more}
use Rattle.setfattr_dump.specs.declared.dump.Attr.{Attr}
use Rattle.setfattr_dump.specs.declared.dump.Section.{Section}
use Rattle.setfattr_dump.specs.declared.marks.TheConstants.{FILE_MARK, HEX_MARK, QUOTE_ESCAPE}
use Rattle.setfattr_dump.specs.declared.marks.TheConstants.{QUOTE_MARK}
use Rattle.setfattr_dump.specs.Grammar as grammar
use Rattle.setfattr_dump.specs.Grammar.{AreAttrs, AreSections, IsAttr, IsName}
use Rattle.setfattr_dump.specs.Reading.{dump_read, with_slash}
use Rattle.setfattr_dump.specs.ReadsBack.{AttrReads, NameReads, SectionReads}
use Rattle.setfattr_dump.specs.Texts.{are_writable, attr_line, attrs_text, dump_text, is_key}
use Rattle.setfattr_dump.specs.Texts.{is_file_line, is_readable, is_writable, section_text}
use Rattle.setfattr_dump.specs.Values.{hex_byte, hex_bytes, is_digest, quoted_byte, quoted_bytes}
use Rattle.setfattr_dump.specs.Values.{value_text}
use Rattle.setfattr_dump.proofs.LinesMeant.{mark_found, marked_rest}
use Rattle.setfattr_dump.proofs.SectionsMeant.{sections_read}

-- ---- bytes without a certain one

pub lacks : (byte : ℕ) (bytes : List ℕ) → list_any (λ b. b == byte) bytes ≡ false
    → ¬ Contains bytes byte
lacks byte [] h = lacks_nothing byte
lacks byte (b ∷ bs) h =
    let parts = or_parts (b == byte) (list_any (λ b. b == byte) bs) h in
    lacks_more byte b bs (λ e. eqb-false b byte parts.0 e) (lacks byte bs parts.1)

joined : (byte : ℕ) (first second : List ℕ) → list_any (λ b. b == byte) first ≡ false
    → list_any (λ b. b == byte) second ≡ false → list_any (λ b. b == byte) (first ++ second) ≡ false
joined byte [] second h k = k
joined byte (b ∷ bs) second h k =
    let parts = or_parts (b == byte) (list_any (λ b. b == byte) bs) h in
    or_from (b == byte) (list_any (λ b. b == byte) (bs ++ second)) parts.0
    (joined byte bs second parts.1 k)

abbrev no_feed : List ℕ → Type 0
no_feed bytes = list_any (λ b. b == 10) bytes ≡ false

plain_feed : (b : ℕ) → is_plain_byte b ≡ true → (b == 10) ≡ false
plain_feed b h = grind (arith, nat_tests)

digit_feed : (n : ℕ) → 11 ≤ n → (n == 10) ≡ false
digit_feed n h = ne_eqb n 10 (λ e. absurd (omega arith))

escape_feed : (b : ℕ) → no_feed (92 ∷ (48 + b / 64) ∷ (48 + b / 8 % 8) ∷ (48 + b % 8) ∷ [])
escape_feed b =
    rw (
      digit_feed (48 + b / 64) (omega arith),
      digit_feed (48 + b / 8 % 8) (omega arith),
      digit_feed (48 + b % 8) (omega arith),
    ) refl

byte_feed : (b : ℕ) (p : Bool) → is_plain_byte b ≡ p
    → no_feed (cond p (b ∷ []) (92 ∷ (48 + b / 64) ∷ (48 + b / 8 % 8) ∷ (48 + b % 8) ∷ []))
byte_feed b true h = rw (plain_feed b h) refl
byte_feed b false h = escape_feed b

escaped_feed : (bytes : List ℕ) → no_feed (escaped bytes)
escaped_feed [] = refl
escaped_feed (b ∷ bs) = joined 10 (escaped_byte b) (escaped bs) (byte_feed b (is_plain_byte b) refl)
    (escaped_feed bs)

quote_feed : (b : ℕ) (q : Bool) → no_feed (cond q QUOTE_ESCAPE.now (escaped_byte b))
quote_feed b true = refl
quote_feed b false = byte_feed b (is_plain_byte b) refl

quoted_feed : (bytes : List ℕ) → no_feed (quoted_bytes bytes)
quoted_feed [] = refl
quoted_feed (b ∷ bs) = joined 10 (quoted_byte b) (quoted_bytes bs) (quote_feed b (b == 34))
    (quoted_feed bs)

feed_at : (bytes : List ℕ) (i : ℕ) → no_feed bytes → (slice_index bytes i == 10) ≡ false
feed_at [] i h = refl
feed_at (b ∷ bs) zero h = (or_parts (b == 10) (list_any (λ b. b == 10) bs) h).0
feed_at (b ∷ bs) (suc i) h = feed_at bs i (or_parts (b == 10) (list_any (λ b. b == 10) bs) h).1

pair_feed : (b : ℕ) → no_feed (hex_byte b)
unfolding encode_with
pair_feed b = or_from _ _ (feed_at lower_digits (b / 16) refl)
    (or_from _ _ (feed_at lower_digits (b % 16) refl) refl)

digits_feed : (bytes : List ℕ) → no_feed (hex_bytes bytes)
digits_feed [] = refl
digits_feed (b ∷ bs) = joined 10 (hex_byte b) (hex_bytes bs) (pair_feed b) (digits_feed bs)

value_by : (key value : List ℕ) (v : Bool)
    → no_feed (cond v (HEX_MARK.now ++ hex_bytes value)
    ((QUOTE_MARK.now ++ quoted_bytes value) ++ QUOTE_MARK.now))
value_by key value true = joined 10 HEX_MARK.now (hex_bytes value) refl (digits_feed value)
value_by key value false = joined 10 (QUOTE_MARK.now ++ quoted_bytes value) QUOTE_MARK.now
    (joined 10 QUOTE_MARK.now (quoted_bytes value) refl (quoted_feed value)) refl

value_feed : (key value : List ℕ) → no_feed (value_text key value)
value_feed key value = value_by key value (is_digest key)

-- ---- keys

-- what the test of a key says
pub record IsKey (key : List ℕ) : Type 0 where
  pub some : 0 < length key
  pub equals : list_any (λ b. b == 61) key ≡ false
  pub feed : no_feed key
  pub mark : is_file_line key ≡ false

all_four : (p q r s : Bool) → (p && not q && not r && not s) ≡ true → (p ≡ true) × (q ≡ false)
    × (r ≡ false) × (s ≡ false)
all_four true false false false h = (refl, refl, refl, refl)
all_four true false false true h = cc
all_four true false true s h = cc
all_four true true r s h = cc
all_four false q r s h = cc

nonempty : (bytes : List ℕ) → is_nonempty bytes ≡ true → 0 < length bytes
nonempty [] h = cc
nonempty (b ∷ bs) h = omega arith

pub is_key_of : (key : List ℕ) → is_key key ≡ true → IsKey key
is_key_of key h =
    let f = all_four (is_nonempty key) (list_any (λ b. b == 61) key) (list_any (λ b. b == 10) key)
    (is_file_line key) h in
    record { some = nonempty key f.0; equals = f.1; feed = f.2; mark = f.3 }

-- a mark without the byte that ends a key begins the key where it begins the line
begins_key : (mark key more rest : List ℕ) → list_any (λ b. b == 61) mark ≡ false
    → key ++ 61 ∷ more ≡ mark ++ rest → (others : List ℕ) × (key ≡ mark ++ others)
begins_key [] key more rest h e = (key, refl)
begins_key (m ∷ ms) [] more rest h e =
    let parts = or_parts (m == 61) (list_any (λ b. b == 61) ms) h in
    let same : m ≡ 61 = cc in
    absurd (eqb-false m 61 parts.0 same)
begins_key (m ∷ ms) (k ∷ ks) more rest h e =
    let parts = or_parts (m == 61) (list_any (λ b. b == 61) ms) h in
    let head : k ≡ m = cc in
    let tail : ks ++ 61 ∷ more ≡ ms ++ rest = cc in
    let found = begins_key ms ks more rest parts.1 tail in
    (found.0, ap (λ b. b ∷ ks) head ∙ ap (λ bs. m ∷ bs) found.1)

unmarked : (key more : List ℕ) (v : Bool) → is_file_line key ≡ false
    → is_file_line (key ++ 61 ∷ more) ≡ v → v ≡ false
unmarked key more false h e = refl
unmarked key more true h e =
    let found = begins_key FILE_MARK.now key more _ refl (marked_rest (key ++ 61 ∷ more) e) in
    let marked = mark_found key found.0 found.1 in
    cc

-- ---- lines of a section

attr_is : (attr : Attr) → IsKey attr.key → AttrReads attr
    → IsAttr (attr.key ++ 61 ∷ value_text attr.key attr.value) attr
attr_is attr k reads = record {
  other = unmarked attr.key (value_text attr.key attr.value) _ k.mark refl;
  given = value_text attr.key attr.value;
  key = record { text = refl; some = k.some; no_equals = lacks 61 attr.key k.equals };
  value = reads;
}

attr_feed : (attr : Attr) → IsKey attr.key
    → no_feed (attr.key ++ 61 ∷ value_text attr.key attr.value)
attr_feed attr k = joined 10 attr.key (61 ∷ value_text attr.key attr.value) k.feed
    (value_feed attr.key attr.value)

attr_cut : (key value rest : List ℕ) → attr_line key value ++ rest
    ≡ (key ++ 61 ∷ value_text key value) ++ 10 ∷ rest
attr_cut key value rest = simp append_assoc

-- a text that goes on with these lines, and begins with attributes
record AttrsWritten (attrs : List Attr) (rest : List ℕ) (lines : List (List ℕ)) : Type 0 where
  pub inner : List (List ℕ)
  pub cut : AreLines (attrs_text attrs ++ rest) (inner ++ lines)
  pub are : AreAttrs inner attrs

attrs_cut : (attr : Attr) (attrs : List Attr) (rest : List ℕ)
    → (attr.key ++ 61 ∷ value_text attr.key attr.value) ++ 10 ∷ (attrs_text attrs ++ rest)
    ≡ attrs_text (attr ∷ attrs) ++ rest
unfolding attrs_text
attrs_cut attr attrs rest = sym (attr_cut attr.key attr.value (attrs_text attrs ++ rest))
    ∙ sym (append_assoc (attr_line attr.key attr.value) (attrs_text attrs) rest)

attrs_written : (attrs : List Attr) (rest : List ℕ) (lines : List (List ℕ)) → AreLines rest lines
    → list_all (λ attr. is_key attr.key) attrs ≡ true → AllByRecursion AttrReads attrs
    → AttrsWritten attrs rest lines
unfolding attrs_text
attrs_written [] rest lines cut keys reads = record { inner = []; cut = cut; are = grammar.none }
attrs_written (attr ∷ attrs) rest lines cut keys reads =
    let w = attrs_written attrs rest lines cut
    (second_so (is_key attr.key) (list_all (λ attr. is_key attr.key) attrs) keys) reads.1 in
    let k = is_key_of attr.key
    (first_so (is_key attr.key) (list_all (λ attr. is_key attr.key) attrs) keys) in
    let line : List ℕ = attr.key ++ 61 ∷ value_text attr.key attr.value in
    record {
      inner = line ∷ w.inner;
      cut = subst (λ t. AreLines t (line ∷ (w.inner ++ lines))) (attrs_cut attr attrs rest)
          (cuts.more line (attrs_text attrs ++ rest) (w.inner ++ lines)
          (lacks 10 line (attr_feed attr k)) w.cut);
      are = grammar.more line attr w.inner attrs (attr_is attr k reads.0) w.are;
    }

slashed : (name : Path) → with_slash (path_text name) ≡ path_text name
slashed [] = refl
slashed (first ∷ names) = refl

name_is : (name : Path) → NameReads name → IsName (FILE_MARK.now ++ escaped (path_text name)) name
name_is name r = record {
  spelled = escaped (path_text name);
  bytes = path_text name;
  text = refl;
  stands_for = r.stands_for;
  path = subst (λ t. path_read t ≡ Ok name) (sym (slashed name)) r.path;
}

record Written (text : List ℕ) (sections : List Section) : Type 0 where
  pub lines : List (List ℕ)
  pub cut : AreLines text lines
  pub are : AreSections lines sections

section_cut : (section : Section) (rest : List ℕ)
    → (FILE_MARK.now ++ escaped (path_text section.name))
    ++ 10 ∷ (attrs_text section.attrs ++ 10 ∷ rest) ≡ section_text section ++ rest
section_cut section rest = simp append_assoc

written : (sections : List Section) → are_writable sections ≡ true
    → AllByRecursion SectionReads sections → Written (dump_text sections) sections
unfolding dump_text
written [] can reads = record { lines = []; cut = cuts.none; are = grammar.none }
written (section ∷ sections) can reads =
    let this = first_so (is_writable section) (list_all is_writable sections) can in
    let w = written sections (second_so (is_writable section) (list_all is_writable sections) can)
    reads.1 in
    let name = (reads.0).name
    (first_so (is_readable section.name) (list_all (λ attr. is_key attr.key) section.attrs)
    this) in
    let last : AreLines (10 ∷ dump_text sections) ([] ∷ w.lines) =
    cuts.more [] (dump_text sections) w.lines (lacks_nothing 10) w.cut in
    let a = attrs_written section.attrs (10 ∷ dump_text sections) ([] ∷ w.lines) last
    (second_so (is_readable section.name) (list_all (λ attr. is_key attr.key) section.attrs)
    this) (reads.0).attrs in
    let line : List ℕ = FILE_MARK.now ++ escaped (path_text section.name) in
    record {
      lines = line ∷ (a.inner ++ [] ∷ w.lines);
      cut = subst (λ t. AreLines t (line ∷ (a.inner ++ [] ∷ w.lines)))
          (section_cut section (dump_text sections))
          (cuts.more line (attrs_text section.attrs ++ 10 ∷ dump_text sections)
          (a.inner ++ [] ∷ w.lines)
          (lacks 10 line (joined 10 FILE_MARK.now (escaped (path_text section.name)) refl
          (escaped_feed (path_text section.name)))) a.cut);
      are = grammar.section line section.name a.inner section.attrs ([] ∷ w.lines) sections
          (name_is section.name name) a.are (grammar.empty w.lines sections w.are);
    }

-- what was written is read back
pub reads_back : (sections : List Section) → are_writable sections ≡ true
    → AllByRecursion SectionReads sections → dump_read (dump_text sections) ≡ Ok sections
reads_back sections can reads =
    let w = written sections can reads in
    sections_read (dump_text sections) w.lines sections w.cut w.are

pub written_back : {E : Type 0} (result : Result (List ℕ) E) (given sections : List Section)
    → given ≡ sections → are_writable sections ≡ true → IfOk result (λ text. text ≡ dump_text given)
    → IfOk result (λ _. AllByRecursion SectionReads given)
    → IfOk result (λ text. dump_read text ≡ Ok sections)
written_back (Ok text) given sections same can is reads =
    ap dump_read (is ∙ ap dump_text same)
    ∙ reads_back sections can (subst (AllByRecursion SectionReads) same reads)
written_back (Err e) given sections same can is reads = tt
