-- The texts of a sample are a run of records, each of which is known by its path.
use Rattle.std.proofs.Common.{◌≡◌, refl, sym, subst, ℕ, zero, suc, ◌+◌, ◌*◌, ◌<◌, ◌≤◌, List, []}
use Rattle.std.proofs.Common.{◌∷◌, ◌++◌, length, min, append_assoc, length-append, arith}
use Rattle.std.specs.List.{AllByRecursion}
use Rattle.find_records.specs.Record.{Record}
use Rattle.find_records.specs.declared.format.Format.{Format}
use Rattle.find_records.specs.declared.format.Format.TheVariants.{One}
use Rattle.find_records.specs.Grammar.{IsRun, none, more}
use Rattle.sample_tree.specs.Sample.{directory_text, file_text, sample_records, texts_below}
use Rattle.sample_tree.specs.declared.records.TheConstants.{MOST_DIRECTORIES, ROOT}
use Rattle.sample_tree.proofs.LineLemmas.{IsLine, directory, directory_line, directory_placed, file}
use Rattle.sample_tree.proofs.LineLemmas.{file_line, file_placed, placed_at, root, root_line}

run_join : (format : Format) (front rest : List ℕ) (first others : List Record)
    → IsRun format front first → IsRun format rest others
    → IsRun format (front ++ rest) (first ++ others)
run_join format front rest first others none run = run
run_join format front rest first others (more bytes left found later ends good run) behind =
    subst (λ t. IsRun format t (found ∷ (later ++ others)))
    (sym (append_assoc bytes (0 ∷ left) rest))
    (more bytes (left ++ rest) found (later ++ others) ends good
    (run_join format left rest later others run behind))

abbrev pub IsPlaced : Record → Type 0
IsPlaced found = placed_at found.path ≡ found

all_join : (first others : List Record) → AllByRecursion IsPlaced first
    → AllByRecursion IsPlaced others → AllByRecursion IsPlaced (first ++ others)
all_join [] others h g = g
all_join (found ∷ first) others h g = (h.0, all_join first others h.1 g)

-- the text is these records, of which each is the one at its path; there are so many, and few bytes
pub record AreLines (text : List ℕ) (records : List Record) (count : ℕ) : Type 0 where
  pub run : IsRun One text records
  pub placed : AllByRecursion IsPlaced records
  pub counted : length records ≡ count
  pub short : length text ≤ 60 * count

one : (text : List ℕ) (found : Record) → IsLine text found → IsPlaced found
    → AreLines text (found ∷ []) 1
one text found l placed = record {
  run = subst (λ t. IsRun One t (found ∷ [])) (sym l.text_is)
      (more l.piece [] found [] l.ends l.good none);
  placed = (placed, tt);
  counted = refl;
  short = omega (arith, l.short);
}

join : (front rest : List ℕ) (first others : List Record) (m n count : ℕ) → AreLines front first m
    → AreLines rest others n → count ≡ m + n → AreLines (front ++ rest) (first ++ others) count
join front rest first others m n count a b e = record {
  run = run_join One front rest first others a.run b.run;
  placed = all_join first others a.placed b.placed;
  counted = omega (arith, length-append first others, a.counted, b.counted, e);
  short = omega (arith, length-append front rest, a.short, b.short, e);
}

-- the records of the numbers below n
abbrev records_below : (ℕ → Record) → ℕ → List Record
records_below at zero = []
records_below at (suc n) = records_below at n ++ at n ∷ []

below : (text : ℕ → List ℕ) (at : ℕ → Record) (n : ℕ)
    → ((k : ℕ) → k < n → IsLine (text k) (at k) × IsPlaced (at k))
    → AreLines (texts_below text n) (records_below at n) n
below text at zero each = record { run = none; placed = tt; counted = refl; short = omega arith }
below text at (suc n) each =
    let last = each n (omega arith) in
    join (texts_below text n) (text n) (records_below at n) (at n ∷ []) n 1 (suc n)
    (below text at n (λ k few. each k (omega arith))) (one (text n) (at n) last.0 last.1)
    (omega arith)

-- the records of a sample with so many files
abbrev pub sampled : ℕ → List Record
sampled n = (root ∷ [])
    ++ (records_below directory (min n MOST_DIRECTORIES) ++ records_below file n)

pub sample_lines : (n : ℕ) → n ≤ 1000000 → AreLines (sample_records n) (sampled n)
    (1 + (min n MOST_DIRECTORIES + n))
unfolding sample_records
sample_lines n few =
    let most = min n MOST_DIRECTORIES in
    join ROOT.now (texts_below directory_text most ++ texts_below file_text n) (root ∷ [])
    (records_below directory most ++ records_below file n) 1 (most + n) (1 + (most + n))
    (one ROOT.now root root_line refl)
    (join (texts_below directory_text most) (texts_below file_text n) (records_below directory most)
    (records_below file n) most n (most + n)
    (below directory_text directory most (λ k l. let b : k < 100 = omega arith in
    (directory_line k b, directory_placed k b)))
    (below file_text file n (λ k l. let b : k < 1000000 = omega arith in
    (file_line k b, file_placed k b))) refl) refl
