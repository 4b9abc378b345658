-- A line says what the grammar of its line gives it.
use Rattle.std.proofs.Common.{◌≡◌, ◌∙◌, ap, sym, refl, subst, ℕ, ◌<◌, Bool, true, false, cond, List}
use Rattle.std.proofs.Common.{[], ◌∷◌, ◌++◌, length, drop, inl, inr, arith, length-append}
use Rattle.std.specs.Prelude.{◌==◌, Contains, Option, Some, None, Result, Ok, Err}
use Rattle.std.proofs.lemmas.Bool.Decides.{Decides-eqb}
use Rattle.std.proofs.lemmas.List.Prefix.{front_rest}
use Rattle.std.proofs.lemmas.Slice.Eq.{starts_is}
use Rattle.label_base.specs.Answers.{with_reason}
use Rattle.label_base.specs.Cut.{front, behind}
use Rattle.label_base.specs.Escape.{unescaped}
use Rattle.label_base.specs.Text.{is_nonempty}
use Rattle.file_paths.specs.Path.{Path, path_read}
use Rattle.file_paths.specs.declared.path_fault.PathWhy.{PathWhy}
use Rattle.label_base.proofs.FirstCut.{IsCut, cut, front_at, behind_at, behind_none}
use Rattle.setfattr_dump.specs.declared.dump.Attr.{Attr}
use Rattle.setfattr_dump.specs.declared.fault.DumpWhy.{DumpWhy}
use Rattle.setfattr_dump.specs.declared.fault.DumpWhy.TheVariants.{NoSection, BadName, NoValue}
use Rattle.setfattr_dump.specs.declared.fault.DumpWhy.TheVariants.{BadValue}
use Rattle.setfattr_dump.specs.declared.line.Said.{Said}
use Rattle.setfattr_dump.specs.declared.line.Said.TheVariants.{Ends, Names, Gives}
use Rattle.setfattr_dump.specs.declared.marks.TheConstants.{EQUALS, FILE_MARK}
use Rattle.setfattr_dump.specs.Grammar.{HasKey, IsAttr, IsBadLine, IsName, IsValue}
use Rattle.setfattr_dump.specs.Reading.{attr_read, attr_said, line_read, name_read, names}
use Rattle.setfattr_dump.specs.Reading.{spelled_path, attr_given, with_slash, value_then}
use Rattle.setfattr_dump.specs.Texts.{is_file_line}
use Rattle.setfattr_dump.specs.Values.{value_or_bad, value_read}
use Rattle.setfattr_dump.proofs.ValuesMeant.{value_complete, value_sound}

-- ---- the mark

pub marked_rest : (line : List ℕ) → is_file_line line ≡ true → line ≡ FILE_MARK.now
    ++ drop (length FILE_MARK.now) line
unfolding is_file_line
marked_rest line h = (starts_is Decides-eqb line FILE_MARK.now (is_file_line line) refl).0 h

pub mark_found : (line rest : List ℕ) → line ≡ FILE_MARK.now ++ rest → is_file_line line ≡ true
unfolding is_file_line
mark_found line rest e = (starts_is Decides-eqb line FILE_MARK.now (is_file_line line) refl).1 rest
    e

behind_mark : (line rest : List ℕ) → line ≡ FILE_MARK.now ++ rest → drop (length FILE_MARK.now) line
    ≡ rest
behind_mark line rest e = front_rest line FILE_MARK.now rest e

-- ---- names

abbrev path_or_bad : Result Path PathWhy → Result Path DumpWhy
path_or_bad = with_reason (λ _. BadName)

path_found : (o : Option (List ℕ)) (bytes : List ℕ) (name : Path) → o ≡ Some bytes
    → path_read (with_slash bytes) ≡ Ok name → spelled_path o ≡ Ok name
path_found o bytes name e h = ap spelled_path e ∙ ap path_or_bad h

name_complete : (line spelled : List ℕ) (name : Path) → line ≡ FILE_MARK.now ++ spelled
    → IsName line name → name_read spelled ≡ Ok name
unfolding name_read
name_complete line spelled name e h =
    let same : spelled ≡ h.spelled = sym (behind_mark line spelled e)
    ∙ behind_mark line h.spelled h.text in
    path_found (unescaped spelled) h.bytes name (ap unescaped same ∙ h.stands_for) h.path

record IsSpelled (o : Option (List ℕ)) (name : Path) : Type 0 where
  pub bytes : List ℕ
  pub found : o ≡ Some bytes
  pub path : path_read (with_slash bytes) ≡ Ok name

path_ok : (read : Result Path PathWhy) (name : Path) → path_or_bad read ≡ Ok name → read ≡ Ok name
path_ok (Ok path) name h = cc
path_ok (Err why) name h = cc

spelled_of : (o : Option (List ℕ)) (name : Path) → spelled_path o ≡ Ok name → IsSpelled o name
spelled_of None name h = cc
spelled_of (Some bytes) name h =
    record { bytes = bytes; found = refl; path = path_ok (path_read (with_slash bytes)) name h }

name_sound : (line : List ℕ) (name : Path) → is_file_line line ≡ true
    → name_read (drop (length FILE_MARK.now) line) ≡ Ok name → IsName line name
unfolding name_read
name_sound line name marked h =
    let spelled = drop (length FILE_MARK.now) line in
    let s = spelled_of (unescaped spelled) name h in
    record {
      spelled = spelled;
      bytes = s.bytes;
      text = marked_rest line marked;
      stands_for = s.found;
      path = s.path;
    }

bad_path : (read : Result Path PathWhy) (why : DumpWhy) → path_or_bad read ≡ Err why → why ≡ BadName
bad_path (Ok path) why h = cc
bad_path (Err other) why h = cc

bad_spelled : (o : Option (List ℕ)) (why : DumpWhy) → spelled_path o ≡ Err why → why ≡ BadName
bad_spelled None why h = cc
bad_spelled (Some bytes) why h = bad_path (path_read (with_slash bytes)) why h

pub bad_name : (name : List ℕ) (why : DumpWhy) → name_read name ≡ Err why → why ≡ BadName
unfolding name_read
bad_name name why h = bad_spelled (unescaped name) why h

-- ---- keys and attributes

key_cut : (line key given : List ℕ) → HasKey line key given → (front (λ b. b == EQUALS) line ≡ key)
    × (behind (λ b. b == EQUALS) line ≡ Some given)
key_cut line key given k = (
  ap (front (λ b. b == EQUALS)) k.text ∙ front_at EQUALS key given k.no_equals,
  ap (behind (λ b. b == EQUALS)) k.text ∙ behind_at EQUALS key given k.no_equals,
)

pub nonempty : (bytes : List ℕ) → 0 < length bytes → is_nonempty bytes ≡ true
nonempty [] h = absurd (omega arith)
nonempty (b ∷ bs) h = refl

given_is : (key given : List ℕ) → 0 < length key → attr_given key (Some given) ≡ value_then key
    (value_or_bad (value_read given))
given_is key given some = rw (nonempty key some) refl

pub key_read : (line key given : List ℕ) → HasKey line key given
    → attr_read line ≡ value_then key (value_or_bad (value_read given))
unfolding attr_read
key_read line key given k =
    let c = key_cut line key given k in
    ap (λ f. attr_given f (behind (λ b. b == EQUALS) line)) c.0
    ∙ ap (attr_given key) c.1
    ∙ given_is key given k.some

pub attr_complete : (line : List ℕ) (attr : Attr) → IsAttr line attr → attr_read line ≡ Ok attr
attr_complete line attr a =
    key_read line attr.key a.given a.key
    ∙ ap (λ v. value_then attr.key (value_or_bad v)) (value_complete a.given attr.value a.value)

-- a line has a key, or none
data Keyed : List ℕ → Type 0 where
  has : (line key given : List ℕ) → HasKey line key given → Keyed line
  lacks : (line : List ℕ) → ((key given : List ℕ) → ¬ HasKey line key given)
      → attr_read line ≡ Err NoValue → Keyed line

no_equals : (line : List ℕ) → ¬ Contains line EQUALS → Keyed line
unfolding attr_read
no_equals line h =
    let none = behind_none EQUALS line h in
    lacks line
    (λ key given k. let found = (key_cut line key given k).1 in
    let apart : None ≡ Some given = sym none ∙ found in cc)
    (ap (attr_given (front (λ b. b == EQUALS) line)) none)

-- the first = ends the key
same_cut : (line key given : List ℕ) (c : IsCut EQUALS line) → HasKey line key given → c.first ≡ key
same_cut line key given c k =
    sym (ap (front (λ b. b == EQUALS)) c.text ∙ front_at EQUALS c.first c.rest c.lacks)
    ∙ (key_cut line key given k).0

some_equals : (line first rest : List ℕ) → line ≡ first ++ EQUALS ∷ rest → ¬ Contains first EQUALS
    → Keyed line
unfolding attr_read
some_equals line [] rest text h =
    let c : IsCut EQUALS line = record { first = []; rest = rest; text = text; lacks = h } in
    lacks line
    (λ key given k. let same : [] ≡ key = same_cut line key given c k in
    absurd (omega (arith, k.some, ap length same)))
    (ap (λ f. attr_given f (behind (λ b. b == EQUALS) line)) (ap (front (λ b. b == EQUALS)) text
    ∙ front_at EQUALS [] rest h)
    ∙ ap (attr_given []) (ap (behind (λ b. b == EQUALS)) text ∙ behind_at EQUALS [] rest h))
some_equals line (b ∷ bs) rest text h =
    has line (b ∷ bs) rest (record { text = text; some = omega arith; no_equals = h })

keyed : (line : List ℕ) → Keyed line
keyed line =
    elim (cut EQUALS line) [
      | inl h ↦ no_equals line h
      | inr c ↦ some_equals line c.first c.rest c.text c.lacks
    ]

-- ---- a line

-- what a line means where a section is open, or none is
abbrev pub LineMeans : Bool → List ℕ → Result Said DumpWhy → Type 0
LineMeans is_open line (Ok Ends) = line ≡ []
LineMeans is_open line (Ok (Names name)) = IsName line name
LineMeans is_open line (Ok (Gives attr)) = IsAttr line attr × (is_open ≡ true)
LineMeans is_open line (Err why) = IsBadLine is_open line why

apart : (line : List ℕ) → is_file_line line ≡ true → is_file_line line ≡ false → ⊥
apart line t f = cc

no_name : (line spelled : List ℕ) → line ≡ FILE_MARK.now ++ spelled
    → name_read spelled ≡ Err BadName → (name : Path) → ¬ IsName line name
no_name line spelled e h name n = let ok = name_complete line spelled name e n in cc

named_means : (is_open : Bool) (line : List ℕ) (read : Result Path DumpWhy)
    → is_file_line line ≡ true → name_read (drop (length FILE_MARK.now) line) ≡ read
    → LineMeans is_open line (names read)
named_means is_open line (Ok name) marked h = name_sound line name marked h
named_means is_open line (Err why) marked h =
    let spelled = drop (length FILE_MARK.now) line in
    let e : why ≡ BadName = bad_name spelled why h in
    subst (IsBadLine is_open line) (sym e) (
      spelled,
      marked_rest line marked,
      no_name line spelled (marked_rest line marked)
          (h ∙ ap Err e),
    )

value_means : (line key given : List ℕ) (value : Option (List ℕ)) → is_file_line line ≡ false
    → HasKey line key given → value_read given ≡ value
    → LineMeans true line (attr_said (value_then key (value_or_bad value)))
value_means line key given (Some value) other k h =
    (record { other = other; given = given; key = k; value = value_sound given value h }, refl)
value_means line key given None other k h = (
  other,
  refl,
  key,
  given,
  k,
  λ value is_value. let found = value_complete given value
      is_value in let clash : None ≡ Some value = sym h ∙ found in cc,
)

attr_means : (line : List ℕ) → 0 < length line → is_file_line line ≡ false → Keyed line
    → LineMeans true line (attr_said (attr_read line))
attr_means line some other (has l key given k) =
    subst (λ r. LineMeans true line (attr_said r)) (sym (key_read line key given k))
    (value_means line key given (value_read given) other k refl)
attr_means line some other (lacks l none read) =
    subst (λ r. LineMeans true line (attr_said r)) (sym read) (some, other, refl, none)

other_means : (is_open : Bool) (line : List ℕ) → 0 < length line → is_file_line line ≡ false
    → LineMeans is_open line (cond is_open (attr_said (attr_read line)) (Err NoSection))
other_means true line some other = attr_means line some other (keyed line)
other_means false line some other = (some, other, refl)

pub line_sound : (is_open : Bool) (line : List ℕ) → LineMeans is_open line (line_read is_open line)
unfolding line_read
line_sound is_open [] = refl
line_sound is_open (b ∷ bs) =
    let line : List ℕ = b ∷ bs in
    elim (is_file_line line) as (λ q. is_file_line line ≡ q
    → LineMeans is_open line
    (cond q (names (name_read (drop (length FILE_MARK.now) line)))
    (cond is_open (attr_said (attr_read line)) (Err NoSection)))) [
      | true ↦ λ t. named_means is_open line (name_read (drop (length FILE_MARK.now) line)) t refl
      | false ↦ λ f. other_means is_open line (omega arith) f
    ] refl

-- ---- what a line means is read

marked_read : (is_open : Bool) (line : List ℕ) → is_file_line line ≡ true → line_read is_open line
    ≡ names (name_read (drop (length FILE_MARK.now) line))
unfolding line_read is_file_line
marked_read is_open [] h = cc
marked_read is_open (b ∷ bs) h = rw h refl

unmarked_read : (is_open : Bool) (line : List ℕ) → 0 < length line → is_file_line line ≡ false
    → line_read is_open line ≡ cond is_open (attr_said (attr_read line)) (Err NoSection)
unfolding line_read
unmarked_read is_open [] some h = absurd (omega arith)
unmarked_read is_open (b ∷ bs) some h = rw h refl

pub name_line_read : (is_open : Bool) (line : List ℕ) (name : Path) → IsName line name
    → line_read is_open line ≡ Ok (Names name)
name_line_read is_open line name n =
    let marked = mark_found line n.spelled n.text in
    marked_read is_open line marked
    ∙ ap names (name_complete line (drop (length FILE_MARK.now) line) name (marked_rest line marked)
    n)

pub attr_some : (line : List ℕ) (attr : Attr) → IsAttr line attr → 0 < length line
attr_some line attr a =
    omega (arith, a.key.some, ap length a.key.text, length-append attr.key (EQUALS ∷ a.given))

pub attr_line_read : (line : List ℕ) (attr : Attr) → IsAttr line attr
    → line_read true line ≡ Ok (Gives attr)
attr_line_read line attr a = unmarked_read true line (attr_some line attr a) a.other
    ∙ ap attr_said (attr_complete line attr a)

pub empty_line_read : (is_open : Bool) → line_read is_open [] ≡ Ok Ends
unfolding line_read
empty_line_read is_open = refl

name_bad : (line spelled : List ℕ) (read : Result Path DumpWhy) → line ≡ FILE_MARK.now ++ spelled
    → ((name : Path) → ¬ IsName line name) → is_file_line line ≡ true
    → name_read (drop (length FILE_MARK.now) line) ≡ read → names read ≡ Err BadName
name_bad line spelled (Ok name) e none marked h = absurd (none name (name_sound line name marked h))
name_bad line spelled (Err why) e none marked h =
    ap Err (bad_name (drop (length FILE_MARK.now) line) why h)

attr_lacks : (line : List ℕ) → ((key given : List ℕ) → ¬ HasKey line key given) → Keyed line
    → attr_read line ≡ Err NoValue
attr_lacks line none (has l key given k) = absurd (none key given k)
attr_lacks line none (lacks l other read) = read

value_bad : (key given : List ℕ) (read : Option (List ℕ))
    → ((value : List ℕ) → ¬ IsValue given value) → value_read given ≡ read
    → value_then key (value_or_bad read) ≡ Err BadValue
value_bad key given None none h = refl
value_bad key given (Some value) none h = absurd (none value (value_sound given value h))

key_some : (line key given : List ℕ) → HasKey line key given → 0 < length line
key_some line key given k =
    omega (arith, k.some, ap length k.text, length-append key (EQUALS ∷ given))

pub bad_line_read : (is_open : Bool) (line : List ℕ) (why : DumpWhy) → IsBadLine is_open line why
    → line_read is_open line ≡ Err why
bad_line_read is_open line NoSection h =
    unmarked_read is_open line h.0 h.1
    ∙ ap (λ (o : Bool). cond o (attr_said (attr_read line)) (Err NoSection)) h.2
bad_line_read is_open line BadName h =
    let marked = mark_found line h.0 h.1 in
    marked_read is_open line marked
    ∙ name_bad line h.0 (name_read (drop (length FILE_MARK.now) line)) h.1 h.2 marked refl
bad_line_read is_open line NoValue h =
    unmarked_read is_open line h.0 h.1
    ∙ ap (λ (o : Bool). cond o (attr_said (attr_read line)) (Err NoSection)) h.2
    ∙ ap attr_said (attr_lacks line h.3 (keyed line))
bad_line_read is_open line BadValue h =
    unmarked_read is_open line (key_some line h.2 h.3 h.4) h.0
    ∙ ap (λ (o : Bool). cond o (attr_said (attr_read line)) (Err NoSection)) h.1
    ∙ ap attr_said (key_read line h.2 h.3 h.4 ∙ value_bad h.2 h.3 (value_read h.3) h.5 refl)
