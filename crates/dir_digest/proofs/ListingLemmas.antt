-- Equal bytes of listings tell equal listings.
use Rattle.std.proofs.Common.{◌≡◌, ◌∙◌, ap, ap₂, sym, refl, subst, ℕ, ◌<◌, ◌^◌, ◌+◌, ◌*◌, ◌-◌, ◌==◌}
use Rattle.std.proofs.Common.{rules, Bool, true, false, ◌&&◌, not, List, [], ◌∷◌, ◌++◌, length}
use Rattle.std.proofs.Common.{Option, Some, None, decimal, get_or, append_assoc, arith}
use Rattle.std.specs.Char.{is_ascii_digit}
use Rattle.std.specs.List.{flat_map, list_all, AllByRecursion}
use Rattle.std.proofs.lemmas.Bool.{and_parts, or_from, or_parts}
use Rattle.std.proofs.lemmas.Bool.Decides.{Decides-eqb}
use Rattle.std.proofs.lemmas.Fmt.{decimal_injective, digits_decimal}
use Rattle.std.proofs.lemmas.Str.Parse.{IsNumeralModel, numerals_by_fold}
use Rattle.std.specs.Str.{all_ascii_digits}
use Rattle.file_paths.specs.Path.{Path, are_names, is_name, is_name_byte, path_names, path_text}
use Rattle.file_paths.specs.Path.{with_slashes}
use Rattle.file_paths.proofs.PathLemmas.{names_back}
use Rattle.label_base.specs.declared.kind.EntryKind.{EntryKind}
use Rattle.label_base.specs.declared.kind.EntryKind.TheVariants.{Regular, Directory, Link, Pipe}
use Rattle.label_base.specs.declared.kind.EntryKind.TheVariants.{Socket, Block, Char, Other}
use Rattle.find_records.specs.declared.format.Format.{Format}
use Rattle.find_records.specs.declared.format.Format.TheVariants.{One, Two}
use Rattle.context_syntax.specs.Context.{ContextValue, IsContext, context_of, context_text}
use Rattle.context_syntax.specs.Context.{is_range, is_range_byte, is_word, is_word_byte, range_text}
use Rattle.context_syntax.proofs.Spelling.{read_back}
use Rattle.path_subs.specs.Subs.{SubValue}
use Rattle.spec_reader.specs.SpecValue.{is_spec_kind}
use Rattle.label_base.specs.Kind.{field_kind}
use Rattle.spec_reader.specs.declared.spec.Decision.TheVariants.{Leave, Give}
use Rattle.spec_reader.specs.declared.spec.Decision.{Decision}
use Rattle.dir_digest.specs.Listing.{Line, Listing}
use Rattle.dir_digest.specs.ListingBytes.{AreCountable, AreTypes, ListingFields, IsContextDecision}
use Rattle.dir_digest.specs.ListingBytes.{IsLine, IsListing, IsNamesSub, counted, decision_field}
use Rattle.dir_digest.specs.ListingBytes.{field_bytes, listing_fields, has_nul, kind_field}
use Rattle.dir_digest.specs.ListingBytes.{line_fields, listing_bytes, listing_mark, mode_fields}
use Rattle.dir_digest.specs.ListingBytes.{name_field, shared_fields, sub_fields}
use Rattle.dir_digest.specs.Spelled.{nul_ended}

pub head_is : {X : Type 0} (x y : X) (xs ys : List X) → x ∷ xs ≡ y ∷ ys → x ≡ y
head_is x y xs ys e = cc

tail_is : {X : Type 0} (x y : X) (xs ys : List X) → x ∷ xs ≡ y ∷ ys → xs ≡ ys
tail_is x y xs ys e = cc

-- ---- no field has a NUL

abbrev NoNul : List ℕ → Type 0
NoNul field = has_nul field ≡ false

never : true ≡ false → ⊥
never e = cc

-- bytes that pass a test that NUL doesn't
without_nul : (p : ℕ → Bool) → p 0 ≡ false → (bytes : List ℕ) → list_all p bytes ≡ true
    → NoNul bytes
without_nul p z [] h = refl
without_nul p z (b ∷ bytes) h =
    let both = and_parts (p b) (list_all p bytes) h in
    or_from (b == 0) (has_nul bytes) (other b (b == 0) refl both.0) (without_nul p z bytes both.1)
  where
    other : (b : ℕ) (v : Bool) → (b == 0) ≡ v → p b ≡ true → (b == 0) ≡ false
    other b true e h = absurd (never (sym h ∙ ap p ((Decides-eqb b 0).0 e) ∙ z))
    other b false e h = e

nul_behind : (a b : List ℕ) → NoNul a → NoNul b → NoNul (a ++ b)
nul_behind [] b h k = k
nul_behind (x ∷ a) b h k =
    let both = or_parts (x == 0) (has_nul a) h in
    or_from (x == 0) (has_nul (a ++ b)) both.0 (nul_behind a b both.1 k)

name_no_nul : (name : List ℕ) → is_name name ≡ true → NoNul name
name_no_nul [] h = refl
name_no_nul (b ∷ bs) h = without_nul is_name_byte refl (b ∷ bs) h

slashes_no_nul : (names : Path) → are_names names ≡ true → NoNul (with_slashes names)
slashes_no_nul [] h = refl
slashes_no_nul (name ∷ names) h =
    let both = and_parts (is_name name) (are_names names) h in
    nul_behind (47 ∷ name) (with_slashes names) (name_no_nul name both.0)
    (slashes_no_nul names both.1)

path_no_nul : (path : Path) → are_names path ≡ true → NoNul (path_text path)
path_no_nul [] h = refl
path_no_nul (name ∷ names) h = slashes_no_nul (name ∷ names) h

read_on : ℕ → List ℕ → ℕ
read_on n [] = n
read_on n (c ∷ cs) = read_on (10 * n + (c - 48)) cs

digits : IsNumeralModel (λ ds. all_ascii_digits ds ≡ true) (read_on 0)
unfolding read_on
digits = numerals_by_fold _ (search rules) read_on (search rules)

digits_no_nul : (ds : List ℕ) → all_ascii_digits ds ≡ true → NoNul ds
digits_no_nul [] h = refl
digits_no_nul (d ∷ ds) h =
    let both = and_parts (is_ascii_digit d) (all_ascii_digits ds) h in
    or_from (d == 0) (has_nul ds)
    (or_parts (d == 0) false
    (without_nul is_ascii_digit refl (d ∷ []) (ap (λ b. b && true) both.0))).0
    (digits_no_nul ds both.1)

decimal_no_nul : (n : ℕ) → n < 2 ^ 64 → NoNul (decimal n)
decimal_no_nul n l = digits_no_nul (decimal n) (digits_decimal digits n l)

word_no_nul : (word : List ℕ) → is_word word ≡ true → NoNul word
word_no_nul word h =
    without_nul is_word_byte refl word
    (and_parts (not (length word == 0)) (list_all is_word_byte word) h).1

range_no_nul : (range : Option (List ℕ)) → is_range range ≡ true → NoNul (range_text range)
range_no_nul None h = refl
range_no_nul (Some bytes) h =
    without_nul is_range_byte refl bytes
    (and_parts (not (length bytes == 0)) (list_all is_range_byte bytes) h).1

context_no_nul : (c : ContextValue) → IsContext c → NoNul (context_text c)
context_no_nul c h =
    nul_behind (c.user ++ 58 ∷ c.role ++ 58 ∷ c.kind) (range_text c.range)
    (nul_behind (c.user ++ 58 ∷ c.role) (58 ∷ c.kind)
    (nul_behind c.user (58 ∷ c.role) (word_no_nul c.user h.user) (word_no_nul c.role h.role))
    (word_no_nul c.kind h.kind))
    (range_no_nul c.range h.range)

kind_no_nul : (kind : Option EntryKind) → NoNul (kind_field kind)
kind_no_nul None = refl
kind_no_nul (Some Regular) = refl
kind_no_nul (Some Directory) = refl
kind_no_nul (Some Link) = refl
kind_no_nul (Some Pipe) = refl
kind_no_nul (Some Socket) = refl
kind_no_nul (Some Block) = refl
kind_no_nul (Some Char) = refl
kind_no_nul (Some Other) = refl

mark_no_nul : (format : Format) → NoNul (listing_mark format)
mark_no_nul One = refl
mark_no_nul Two = refl

decision_no_nul : (d : Decision) → IsContextDecision d → NoNul (decision_field d)
decision_no_nul Leave h = refl
decision_no_nul (Give context) h = context_no_nul context h

abbrev AreClean : ListingFields → Type 0
AreClean fields = AllByRecursion NoNul fields

clean_behind : (first rest : ListingFields) → AreClean first → AreClean rest
    → AreClean (first ++ rest)
clean_behind [] rest h k = k
clean_behind (field ∷ first) rest h k = (h.0, clean_behind first rest h.1 k)

each_clean : {X : Type 0} (Is : X → Type 0) (f : X → ListingFields)
    → ((x : X) → Is x → AreClean (f x)) → (xs : List X) → AllByRecursion Is xs
    → AreClean (flat_map f xs)
each_clean Is f clean [] h = tt
each_clean Is f clean (x ∷ xs) h = clean_behind (f x) (flat_map f xs) (clean x h.0)
    (each_clean Is f clean xs h.1)

counted_clean : {X : Type 0} (Is : X → Type 0) (f : X → ListingFields)
    → ((x : X) → Is x → AreClean (f x)) → (xs : List X) → AreCountable Is xs
    → AreClean (counted f xs)
counted_clean Is f clean xs h = (decimal_no_nul (length xs) h.0, each_clean Is f clean xs h.1)

sub_clean : (sub : SubValue) → IsNamesSub sub → AreClean (sub_fields sub)
sub_clean sub h = (path_no_nul sub.source h.0, (path_no_nul sub.target h.1, tt))

line_clean : (line : Line) → IsLine line → AreClean (line_fields line)
line_clean line h =
    (h.text, (kind_no_nul line.kind, (decision_no_nul line.decision h.decision, tt)))

abbrev IsWord : List ℕ → Type 0
IsWord name = is_word name ≡ true

words_each : (names : ListingFields) → list_all is_word names ≡ true → AllByRecursion IsWord names
words_each [] h = tt
words_each (name ∷ names) h =
    let both = and_parts (is_word name) (list_all is_word names) h in
    (both.0, words_each names both.1)

mode_clean : (force : Bool) (types : ListingFields) → AreTypes force types
    → AreClean (mode_fields force types)
mode_clean true types h = (refl, tt)
mode_clean false types h = (
  refl,
  counted_clean IsWord name_field (λ name w. (word_no_nul name w, tt)) types
      (h.0, words_each types h.1),
)

listing_clean : (l : Listing) → IsListing l → AreClean (listing_fields l)
unfolding listing_fields
listing_clean l h = (
  mark_no_nul l.format,
  (
    path_no_nul l.path h.path,
    clean_behind (shared_fields l.force l.types l.first l.second) (counted line_fields l.lines)
        (clean_behind (mode_fields l.force l.types)
        (counted sub_fields l.first ++ counted sub_fields l.second)
        (mode_clean l.force l.types h.types)
        (clean_behind (counted sub_fields l.first) (counted sub_fields l.second)
        (counted_clean IsNamesSub sub_fields sub_clean l.first h.first)
        (counted_clean IsNamesSub sub_fields sub_clean l.second h.second)))
        (counted_clean IsLine line_fields line_clean l.lines h.lines),
  ),
)

-- ---- fields are told by their bytes

-- a field without NUL, up to its NUL
field_cut : (a b r s : List ℕ) → NoNul a → NoNul b → a ++ 0 ∷ r ≡ b ++ 0 ∷ s → (a ≡ b) × (r ≡ s)
field_cut [] [] r s m n e = (refl, tail_is 0 0 r s e)
field_cut [] (y ∷ b) r s m n e =
    let z : y ≡ 0 = sym (head_is 0 y r (b ++ 0 ∷ s) e) in
    absurd (never (subst (λ c. (c == 0) ≡ false) z (or_parts (y == 0) (has_nul b) n).0))
field_cut (x ∷ a) [] r s m n e =
    let z : x ≡ 0 = head_is x 0 (a ++ 0 ∷ r) s e in
    absurd (never (subst (λ c. (c == 0) ≡ false) z (or_parts (x == 0) (has_nul a) m).0))
field_cut (x ∷ a) (y ∷ b) r s m n e =
    let rest = field_cut a b r s (or_parts (x == 0) (has_nul a) m).1
    (or_parts (y == 0) (has_nul b) n).1
    (tail_is x y (a ++ 0 ∷ r) (b ++ 0 ∷ s) e) in
    (ap₂ (λ h t. h ∷ t) (head_is x y (a ++ 0 ∷ r) (b ++ 0 ∷ s) e) rest.0, rest.1)

nothing_left : (f : List ℕ) (rest : List ℕ) → nul_ended f ++ rest ≡ [] → ⊥
nothing_left [] rest e = cc
nothing_left (x ∷ f) rest e = cc

fields_same : (fs gs : ListingFields) → AreClean fs → AreClean gs → field_bytes fs ≡ field_bytes gs
    → fs ≡ gs
fields_same [] [] m n e = refl
fields_same [] (g ∷ gs) m n e = absurd (nothing_left g (field_bytes gs) (sym e))
fields_same (f ∷ fs) [] m n e = absurd (nothing_left f (field_bytes fs) e)
fields_same (f ∷ fs) (g ∷ gs) m n e =
    let both = field_cut f g (field_bytes fs) (field_bytes gs) m.0 n.0
    (sym (append_assoc f (0 ∷ []) (field_bytes fs)) ∙ e ∙ append_assoc g (0 ∷ []) (field_bytes gs))
    in
    ap₂ (λ h t. h ∷ t) both.0 (fields_same fs gs m.1 n.1 both.1)

-- ---- what fields tell

-- fields in front of others tell what they are the fields of, and what follows
abbrev Shows : {X : Type 0} → (X → Type 0) → (X → ListingFields) → Type 0
Shows {X} Is f = (x y : X) (r s : ListingFields) → Is x → Is y → f x ++ r ≡ f y ++ s → (x ≡ y)
    × (r ≡ s)

each_shows : {X : Type 0} (Is : X → Type 0) (f : X → ListingFields) → Shows Is f
    → (xs ys : List X) (r s : ListingFields) → AllByRecursion Is xs → AllByRecursion Is ys
    → length xs ≡ length ys
    → flat_map f xs ++ r ≡ flat_map f ys ++ s → (xs ≡ ys) × (r ≡ s)
each_shows Is f shows [] [] r s m n l e = (refl, e)
each_shows Is f shows [] (y ∷ ys) r s m n l e = absurd (omega (arith, l))
each_shows Is f shows (x ∷ xs) [] r s m n l e = absurd (omega (arith, l))
each_shows Is f shows (x ∷ xs) (y ∷ ys) r s m n l e =
    let first = shows x y (flat_map f xs ++ r) (flat_map f ys ++ s) m.0 n.0
    (sym (append_assoc (f x) (flat_map f xs) r) ∙ e ∙ append_assoc (f y) (flat_map f ys) s) in
    let rest = each_shows Is f shows xs ys r s m.1 n.1 (omega (arith, l)) first.1 in
    (ap₂ (λ h t. h ∷ t) first.0 rest.0, rest.1)

counted_shows : {X : Type 0} (Is : X → Type 0) (f : X → ListingFields) → Shows Is f
    → Shows (AreCountable Is) (counted f)
counted_shows Is f shows xs ys r s m n e =
    each_shows Is f shows xs ys r s m.1 n.1
    (decimal_injective (length xs) (length ys) m.0 n.0
    (head_is (decimal (length xs)) (decimal (length ys)) (flat_map f xs ++ r)
    (flat_map f ys ++ s) e))
    (tail_is (decimal (length xs)) (decimal (length ys)) (flat_map f xs ++ r) (flat_map f ys ++ s)
    e)

path_back : (path : Path) → are_names path ≡ true → path_names (path_text path) ≡ path
path_back [] h = refl
path_back (name ∷ names) h = names_back (name ∷ names) h

path_same : (p q : Path) → are_names p ≡ true → are_names q ≡ true → path_text p ≡ path_text q
    → p ≡ q
path_same p q a b e = sym (path_back p a) ∙ ap path_names e ∙ path_back q b

sub_shows : Shows IsNamesSub sub_fields
sub_shows x y r s m n e =
    let source =
    path_same x.source y.source m.0 n.0
    (head_is (path_text x.source) (path_text y.source) (path_text x.target ∷ r)
    (path_text y.target ∷ s) e) in
    let rest = tail_is (path_text x.source) (path_text y.source) (path_text x.target ∷ r)
    (path_text y.target ∷ s) e in
    let target =
    path_same x.target y.target m.1 n.1
    (head_is (path_text x.target) (path_text y.target) r s rest) in (
      λ i. record { source = source i; target = target i },
      tail_is (path_text x.target)
          (path_text y.target) r s rest,
    )

name_shows : Shows IsWord name_field
name_shows x y r s m n e = (head_is x y r s e, tail_is x y r s e)

kind_back : (kind : Option EntryKind) → is_spec_kind kind ≡ true → field_kind (kind_field kind)
    ≡ kind
kind_back None h = refl
kind_back (Some Regular) h = refl
kind_back (Some Directory) h = refl
kind_back (Some Link) h = refl
kind_back (Some Pipe) h = refl
kind_back (Some Socket) h = refl
kind_back (Some Block) h = refl
kind_back (Some Char) h = refl
kind_back (Some Other) h = cc

kind_same : (a b : Option EntryKind) → is_spec_kind a ≡ true → is_spec_kind b ≡ true
    → kind_field a ≡ kind_field b → a ≡ b
kind_same a b ha hb e = sym (kind_back a ha) ∙ ap field_kind e ∙ kind_back b hb

-- the decision that a field says
said_by : Option ContextValue → Decision
said_by None = Leave
said_by (Some c) = Give c

decision_back : (d : Decision) → IsContextDecision d → said_by (context_of (decision_field d)) ≡ d
unfolding said_by
decision_back Leave h = refl
decision_back (Give c) h = ap said_by (read_back c h)

decision_same : (a b : Decision) → IsContextDecision a → IsContextDecision b
    → decision_field a ≡ decision_field b → a ≡ b
decision_same a b ha hb e = sym (decision_back a ha) ∙ ap (λ text. said_by (context_of text)) e
    ∙ decision_back b hb

line_shows : Shows IsLine line_fields
line_shows x y r s m n e =
    let text = head_is x.text y.text (kind_field x.kind ∷ decision_field x.decision ∷ r)
    (kind_field y.kind ∷ decision_field y.decision ∷ s) e in
    let e1 = tail_is x.text y.text (kind_field x.kind ∷ decision_field x.decision ∷ r)
    (kind_field y.kind ∷ decision_field y.decision ∷ s) e in
    let kind = kind_same x.kind y.kind m.kind n.kind
    (head_is (kind_field x.kind) (kind_field y.kind) (decision_field x.decision ∷ r)
    (decision_field y.decision ∷ s) e1) in
    let e2 = tail_is (kind_field x.kind) (kind_field y.kind) (decision_field x.decision ∷ r)
    (decision_field y.decision ∷ s) e1 in
    let decision = decision_same x.decision y.decision m.decision n.decision
    (head_is (decision_field x.decision) (decision_field y.decision) r s e2) in (
      λ i. record { text = text i; kind = kind i; decision = decision i },
      tail_is
          (decision_field x.decision) (decision_field y.decision) r s e2,
    )

-- what the fields of a mode tell
record SameMode (a b : Bool) (types others : ListingFields) (r s : ListingFields) : Type 0 where
  force : a ≡ b
  types_are : types ≡ others
  rest : r ≡ s

letters_differ : ◌≡◌ {A = List ℕ} (70 ∷ []) (84 ∷ []) → ⊥
letters_differ e = absurd (omega (arith, head_is 70 84 [] [] e))

mode_shows : (a b : Bool) (types others : ListingFields) (r s : ListingFields) → AreTypes a types
    → AreTypes b others → mode_fields a types ++ r ≡ mode_fields b others ++ s
    → SameMode a b types others r s
mode_shows true true types others r s m n e =
    record { force = refl; types_are = m ∙ sym n; rest = tail_is (70 ∷ []) (70 ∷ []) r s e }
mode_shows true false types others r s m n e =
    absurd (letters_differ (head_is (70 ∷ []) (84 ∷ []) r (counted name_field others ++ s) e))
mode_shows false true types others r s m n e =
    absurd (letters_differ (sym (head_is (84 ∷ []) (70 ∷ []) (counted name_field types ++ r) s e)))
mode_shows false false types others r s m n e =
    let both = counted_shows IsWord name_field name_shows types others r s
    (m.0, words_each types m.1) (n.0, words_each others n.1)
    (tail_is (84 ∷ []) (84 ∷ []) (counted name_field types ++ r) (counted name_field others ++ s) e)
    in
    record { force = refl; types_are = both.0; rest = both.1 }

-- marks differ in their last byte
marks_differ : listing_mark One ≡ listing_mark Two → ⊥
marks_differ e = (let last : 49 ≡ 50 = ap (λ mark. get_or mark 16 0) e in omega (arith, last))

mark_same : (a b : Format) → listing_mark a ≡ listing_mark b → a ≡ b
mark_same One One e = refl
mark_same One Two e = absurd (marks_differ e)
mark_same Two One e = absurd (marks_differ (sym e))
mark_same Two Two e = refl

-- the fields in front of others, each list behind the one before
abbrev in_turn : Listing → ListingFields
in_turn l = mode_fields l.force l.types
    ++ (counted sub_fields l.first ++ (counted sub_fields l.second ++ counted line_fields l.lines))

turned : (l : Listing) → listing_fields l ≡ listing_mark l.format ∷ path_text l.path ∷ in_turn l
unfolding listing_fields
turned l =
    let mode = mode_fields l.force l.types in
    let first = counted sub_fields l.first in
    let second = counted sub_fields l.second in
    let lines = counted line_fields l.lines in
    ap (λ rest. listing_mark l.format ∷ path_text l.path ∷ rest)
    (append_assoc mode (first ++ second) lines
    ∙ ap (λ rest. mode ++ rest) (append_assoc first second lines))

-- equal bytes tell equal listings
pub listing_same : (a b : Listing) → IsListing a → IsListing b → listing_bytes a ≡ listing_bytes b
    → a ≡ b
unfolding listing_bytes
listing_same a b m n e =
    let e0 : listing_mark a.format ∷ path_text a.path ∷ in_turn a ≡ listing_mark
    b.format ∷ path_text b.path ∷ in_turn b =
    sym (turned a) ∙ fields_same (listing_fields a) (listing_fields b) (listing_clean a m)
    (listing_clean b n) e ∙ turned b in
    let format =
    mark_same a.format b.format
    (head_is (listing_mark a.format) (listing_mark b.format) (path_text a.path ∷ in_turn a)
    (path_text b.path ∷ in_turn b) e0) in
    let e1 = tail_is (listing_mark a.format) (listing_mark b.format) (path_text a.path ∷ in_turn a)
    (path_text b.path ∷ in_turn b) e0 in
    let path = path_same a.path b.path m.path n.path
    (head_is (path_text a.path) (path_text b.path) (in_turn a) (in_turn b) e1) in
    let subs_a =
    counted sub_fields a.first ++ (counted sub_fields a.second ++ counted line_fields a.lines)
    in
    let subs_b =
    counted sub_fields b.first ++ (counted sub_fields b.second ++ counted line_fields b.lines)
    in
    let mode = mode_shows a.force b.force a.types b.types subs_a subs_b m.types n.types
    (tail_is (path_text a.path) (path_text b.path) (in_turn a) (in_turn b) e1) in
    let first = counted_shows IsNamesSub sub_fields sub_shows a.first b.first
    (counted sub_fields a.second ++ counted line_fields a.lines)
    (counted sub_fields b.second ++ counted line_fields b.lines) m.first n.first mode.rest in
    let second = counted_shows IsNamesSub sub_fields sub_shows a.second b.second
    (counted line_fields a.lines) (counted line_fields b.lines) m.second n.second first.1 in
    let lines = counted_shows IsLine line_fields line_shows a.lines b.lines [] [] m.lines n.lines
    (ap (λ fields. fields ++ []) second.1) in
    (λ i. record {
      format = format i;
      path = path i;
      force = mode.force i;
      types = mode.types_are i;
      first = first.0 i;
      second = second.0 i;
      lines = lines.0 i;
    })
