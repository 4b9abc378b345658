-- Each text of a sample is a record.
use Rattle.std.proofs.Common.{◌≡◌, ◌∙◌, ap, refl, ℕ, ◌+◌, ◌-◌, ◌/◌, ◌%◌, ◌<◌, ◌≤◌, ◌^◌, Bool, true}
use Rattle.std.proofs.Common.{false, List, [], ◌∷◌, ◌++◌, length, take, drop, decimal, append_assoc}
use Rattle.std.proofs.Common.{length-append, arith}
use Rattle.std.specs.Prelude.{Some, None, Ok, Contains, ◌&&◌, not, ◌==◌, if◌then◌else◌}
use Rattle.std.specs.List.{list_all}
use Rattle.std.specs.Option.{unwrap_or}
use Rattle.std.proofs.lemmas.Bool.{and_from}
use Rattle.std.proofs.lemmas.Bool.Decides.{nat_tests}
use Rattle.label_base.specs.Number.{is_digit, number_of}
use Rattle.label_base.specs.declared.kind.EntryKind.{EntryKind}
use Rattle.label_base.specs.declared.kind.EntryKind.TheVariants.{Directory, Regular}
use Rattle.label_base.proofs.FirstCut.{lacks_more, lacks_nothing}
use Rattle.file_paths.specs.Path.{Path, path_read}
use Rattle.context_syntax.specs.Label.{label_of}
use Rattle.find_records.specs.Record.{Record}
use Rattle.find_records.specs.declared.format.Format.TheVariants.{One}
use Rattle.find_records.specs.Grammar.{SpellsRecord, kind_of}
use Rattle.sample_tree.specs.Sample.{directory_text, file_front, file_text}
use Rattle.sample_tree.specs.declared.records.TheConstants.{DIRECTORY, END, FILE, FIRST_DIRECTORY}
use Rattle.sample_tree.specs.declared.records.TheConstants.{FIRST_FILE, IN_DIRECTORY, IN_ROOT}
use Rattle.sample_tree.specs.declared.records.TheConstants.{LABELLED_A, LABELLED_B}
use Rattle.sample_tree.specs.declared.records.TheConstants.{MOST_DIRECTORIES, ROOT, UNLABELLED}
use Rattle.sample_tree.proofs.DigitLemmas.{Writes, all_join, all_more, lacks_by, written}
use Rattle.sample_tree.proofs.NameLemmas.{one_name, two_names}

-- ---- the records that are meant

-- the label between the inode and the path
abbrev label_in : List ℕ → List ℕ
label_in front = take (length front - 4) (drop 1 front)

abbrev record_of : EntryKind → ℕ → List ℕ → Path → Record
record_of kind inode label path =
    record {
      kind = kind;
      device = 1;
      inode = inode;
      links = None;
      label = label_of label;
      path = path;
    }

abbrev pub root : Record
root = record_of Directory 1 (take 27 (drop 6 ROOT.now)) []

abbrev pub directory : ℕ → Record
directory k = record_of Directory (FIRST_DIRECTORY + k) (label_in IN_ROOT.now)
    ((100 ∷ decimal k) ∷ [])

abbrev pub file : ℕ → Record
file i =
    record_of Regular (FIRST_FILE + i / 2) (label_in (file_front (i / 2)))
    ((100 ∷ decimal (i % MOST_DIRECTORIES)) ∷ (102 ∷ decimal i) ∷ [])

-- ---- the texts

-- the text is this record, behind which a NUL stands, and has few bytes
pub record IsLine (text : List ℕ) (found : Record) : Type 0 where
  pub piece : List ℕ
  pub text_is : text ≡ piece ++ 0 ∷ []
  pub ends : ¬ Contains piece 0
  pub good : SpellsRecord One piece found
  pub short : length text ≤ 60

abbrev is_plain : ℕ → Bool
is_plain b = not (b == 32) && not (b == 0)

abbrev is_ended : ℕ → Bool
is_ended b = not (b == 0)

-- a label between two spaces, and the front of a path
record IsFront (front : List ℕ) : Type 0 where
  cut : front ≡ 32 ∷ (label_in front ++ 32 ∷ 47 ∷ 100 ∷ [])
  plain : list_all is_plain (label_in front) ≡ true
  whole : list_all is_ended front ≡ true
  short : length front ≤ 30

digit_plain : (b : ℕ) → is_digit b ≡ true → is_plain b ≡ true
digit_plain b h = grind (arith, nat_tests)

digit_ended : (b : ℕ) → is_digit b ≡ true → is_ended b ≡ true
digit_ended b h = grind (arith, nat_tests)

module _ (letter : ℕ) (kind : EntryKind) (inode : ℕ) (ds front rest : List ℕ) (path : Path)
    (shown : kind_of (letter ∷ []) ≡ Some kind) (other : letter ≡ 32 → ⊥) (number : Writes inode ds)
    (f : IsFront front) (read : path_read (47 ∷ 100 ∷ rest) ≡ Ok path) where
  spelled : SpellsRecord One (letter ∷ 32 ∷ 49 ∷ 32 ∷ (ds ++ (front ++ rest)))
      (record_of kind inode (label_in front) path)
  spelled = record {
    fields = record {
      letter = letter ∷ [];
      device = 49 ∷ [];
      inode = ds;
      links = None;
      label = label_in front;
      path = 47 ∷ 100 ∷ rest;
    };
    cut = record {
      text = ap (λ t. letter ∷ 32 ∷ 49 ∷ 32 ∷ (ds ++ (t ++ rest))) f.cut ∙ simp append_assoc;
      letter = lacks_more 32 letter [] other (lacks_nothing 32);
      device = lacks_by is_digit 32 (49 ∷ []) refl refl;
      inode = lacks_by is_digit 32 ds refl number.digits;
      links = tt;
      label = lacks_by is_plain 32 (label_in front) refl f.plain;
    };
    record_is = record {
      kind = shown;
      device = refl;
      inode = number.number;
      links = refl;
      label = refl;
      path = read;
    };
  }

  -- such a text, and its NUL
  line : (text : List ℕ) → text ≡ (letter ∷ 32 ∷ 49 ∷ 32 ∷ (ds ++ (front ++ rest))) ++ 0 ∷ []
      → is_ended letter ≡ true → list_all is_ended rest ≡ true → length rest ≤ 16
      → IsLine text (record_of kind inode (label_in front) path)
  line text e letter_ended rest_ended short =
      let behind =
      all_join is_ended ds (front ++ rest)
      (all_more is_digit is_ended digit_ended ds number.digits)
      (all_join is_ended front rest f.whole rest_ended) in
      record {
        piece = letter ∷ 32 ∷ 49 ∷ 32 ∷ (ds ++ (front ++ rest));
        text_is = e;
        ends = lacks_by is_ended 0 (letter ∷ 32 ∷ 49 ∷ 32 ∷ (ds ++ (front ++ rest))) refl
            (all_join is_ended (letter ∷ 32 ∷ 49 ∷ 32 ∷ []) (ds ++ (front ++ rest))
            (all_join is_ended (letter ∷ []) (32 ∷ 49 ∷ 32 ∷ [])
            (and_from (is_ended letter) true letter_ended refl) refl) behind);
        good = spelled;
        short = omega (
          arith,
          ap length e,
          length-append (letter ∷ 32 ∷ 49 ∷ 32 ∷ (ds ++ (front ++ rest)))
              (0 ∷ []),
          length-append ds (front ++ rest),
          length-append front rest,
          number.short,
          f.short,
        );
      }

-- ---- directories

in_root : IsFront IN_ROOT.now
in_root = record { cut = refl; plain = refl; whole = refl; short = omega arith }

directory_spread : (ds es : List ℕ) → DIRECTORY.now ++ ds ++ IN_ROOT.now ++ es ++ END.now
    ≡ (100 ∷ 32 ∷ 49 ∷ 32 ∷ (ds ++ (IN_ROOT.now ++ es))) ++ 0 ∷ []
directory_spread ds es = simp append_assoc

pub directory_line : (k : ℕ) → k < 100 → IsLine (directory_text k) (directory k)
unfolding directory_text
directory_line k few =
    let name = written k (omega arith) in
    line 100 Directory (FIRST_DIRECTORY + k) (decimal (FIRST_DIRECTORY + k)) IN_ROOT.now (decimal k)
    ((100 ∷ decimal k) ∷ []) refl (λ e. absurd (omega arith))
    (written (FIRST_DIRECTORY + k) (omega arith)) in_root
    (one_name (decimal k) name.digits name.short)
    (directory_text k) (directory_spread (decimal (FIRST_DIRECTORY + k)) (decimal k)) refl
    (all_more is_digit is_ended digit_ended (decimal k) name.digits) (omega (arith, name.short))

-- ---- files

front_by : (first second : Bool)
    → IsFront (if first then LABELLED_A.now else if second then LABELLED_B.now else UNLABELLED.now)
front_by true second = record { cut = refl; plain = refl; whole = refl; short = omega arith }
front_by false true = record { cut = refl; plain = refl; whole = refl; short = omega arith }
front_by false false = record { cut = refl; plain = refl; whole = refl; short = omega arith }

front_of : (j : ℕ) → IsFront (file_front j)
unfolding file_front
front_of j = front_by (j % 3 == 0) (j % 3 == 1)

file_spread : (ds front ms es : List ℕ) → FILE.now ++ ds ++ front ++ ms ++ IN_DIRECTORY.now ++ es
    ++ END.now ≡ (102 ∷ 32 ∷ 49 ∷ 32 ∷ (ds ++ (front ++ (ms ++ 47 ∷ 102 ∷ es)))) ++ 0 ∷ []
file_spread ds front ms es = simp append_assoc

pub file_line : (i : ℕ) → i < 1000000 → IsLine (file_text i) (file i)
unfolding file_text
file_line i few =
    let inode : FIRST_FILE + i / 2 < 10 ^ 7 = omega arith in
    let into = written (i % MOST_DIRECTORIES) (omega arith) in
    let name = written i (omega arith) in
    let names = 47 ∷ 102 ∷ decimal i in
    line 102 Regular (FIRST_FILE + i / 2) (decimal (FIRST_FILE + i / 2)) (file_front (i / 2))
    (decimal (i % MOST_DIRECTORIES) ++ names)
    ((100 ∷ decimal (i % MOST_DIRECTORIES)) ∷ (102 ∷ decimal i) ∷ []) refl
    (λ e. absurd (omega arith)) (written (FIRST_FILE + i / 2) inode) (front_of (i / 2))
    (two_names (decimal (i % MOST_DIRECTORIES)) (decimal i) into.digits into.short name.digits
    name.short)
    (file_text i) (file_spread (decimal (FIRST_FILE + i / 2)) (file_front (i / 2))
    (decimal (i % MOST_DIRECTORIES)) (decimal i)) refl
    (all_join is_ended (decimal (i % MOST_DIRECTORIES)) names
    (all_more is_digit is_ended digit_ended (decimal (i % MOST_DIRECTORIES)) into.digits)
    (all_join is_ended (47 ∷ 102 ∷ []) (decimal i) refl
    (all_more is_digit is_ended digit_ended (decimal i) name.digits)))
    (omega (arith, length-append (decimal (i % MOST_DIRECTORIES)) names, into.short, name.short))

-- ---- the root

pub root_line : IsLine ROOT.now root
root_line = record {
  piece = take 35 ROOT.now;
  text_is = refl;
  ends = lacks_by is_ended 0 (take 35 ROOT.now) refl refl;
  good = record {
    fields = record {
      letter = 100 ∷ [];
      device = 49 ∷ [];
      inode = 49 ∷ [];
      links = None;
      label = take 27 (drop 6 ROOT.now);
      path = 47 ∷ [];
    };
    cut = record {
      text = refl;
      letter = lacks_by is_plain 32 (100 ∷ []) refl refl;
      device = lacks_by is_plain 32 (49 ∷ []) refl refl;
      inode = lacks_by is_plain 32 (49 ∷ []) refl refl;
      links = tt;
      label = lacks_by is_plain 32 (take 27 (drop 6 ROOT.now)) refl refl;
    };
    record_is = record {
      kind = refl;
      device = refl;
      inode = refl;
      links = refl;
      label = refl;
      path = refl;
    };
  };
  short = omega arith;
}

-- ---- the record of a path

-- the number behind the first byte of a name
abbrev number_in : List ℕ → ℕ
number_in name = unwrap_or (number_of (drop 1 name)) 0

-- the record that a sample has at a path
abbrev pub placed_at : Path → Record
placed_at [] = root
placed_at (name ∷ []) = directory (number_in name)
placed_at (name ∷ second ∷ rest) = file (number_in second)

pub directory_placed : (k : ℕ) → k < 100 → placed_at (directory k).path ≡ directory k
directory_placed k few = ap (λ n. directory (unwrap_or n 0)) (written k (omega arith)).number

pub file_placed : (i : ℕ) → i < 1000000 → placed_at (file i).path ≡ file i
file_placed i few = ap (λ n. file (unwrap_or n 0)) (written i (omega arith)).number
