-- A tree has no more entries than there are records, and they are of the records' format.
use Rattle.std.proofs.Common.{◌≡◌, ℕ, ◌+◌, ◌≤◌, List, [], ◌∷◌, length, ap, arith, subst}
use Rattle.std.specs.Prelude.{Option, Some, None, Ok}
use Rattle.std.specs.declared.cmp.Ordering.{Ordering}
use Rattle.std.specs.declared.cmp.Ordering.TheVariants.{Less, Equal, Greater}
use Rattle.file_paths.specs.Path.{path_cmp}
use Rattle.find_records.specs.Record.{AreOfFormat, CountsBy, Record}
use Rattle.find_records.specs.declared.format.Format.{Format}
use Rattle.tree_model.specs.Entries.{doubled, entered, entries_of, entry_placed, tree_of}
use Rattle.tree_model.specs.Entries.{unless_doubled}

placed_few : (order : Ordering) (r e : Record) (es behind : List Record)
    → length behind ≤ length es + 1 → length (entry_placed order r e es behind) ≤ length es + 2
placed_few Less r e es behind h = omega arith
placed_few Equal r e es behind h = omega arith
placed_few Greater r e es behind h = omega (arith, h)

entered_few : (r : Record) (es : List Record) → length (entered r es) ≤ length es + 1
entered_few r [] = omega arith
entered_few r (e ∷ es) =
    omega (arith, placed_few (path_cmp r.path e.path) r e es (entered r es) (entered_few r es))

entries_few : (records : List Record) → length (entries_of records) ≤ length records
unfolding entries_of
entries_few [] = omega arith
entries_few (r ∷ rs) = omega (arith, entered_few r (entries_of rs), entries_few rs)

few_unless : (numbers : Option (ℕ × ℕ)) (entries tree : List Record)
    → unless_doubled numbers entries ≡ Ok tree → length tree ≤ length entries
few_unless None entries tree is = let same : entries ≡ tree = cc in omega (arith, ap length same)
few_unless (Some numbers) entries tree is = absurd (cc)

pub tree_few : (records tree : List Record) → tree_of records ≡ Ok tree
    → length tree ≤ length records
tree_few records tree is =
    omega (arith, few_unless (doubled records) (entries_of records) tree is, entries_few records)

placed_of : (format : Format) (order : Ordering) (r e : Record) (es behind : List Record)
    → CountsBy format r.links → AreOfFormat format (e ∷ es) → AreOfFormat format behind
    → AreOfFormat format (entry_placed order r e es behind)
placed_of format Less r e es behind one all rest = (one, all)
placed_of format Equal r e es behind one all rest = all
placed_of format Greater r e es behind one all rest = (all.0, rest)

entered_of : (format : Format) (r : Record) (es : List Record) → CountsBy format r.links
    → AreOfFormat format es → AreOfFormat format (entered r es)
entered_of format r [] one all = (one, tt)
entered_of format r (e ∷ es) one all = placed_of format (path_cmp r.path e.path) r e es
    (entered r es) one all (entered_of format r es one all.1)

entries_of_format : (format : Format) (records : List Record) → AreOfFormat format records
    → AreOfFormat format (entries_of records)
unfolding entries_of
entries_of_format format [] all = tt
entries_of_format format (r ∷ rs) all =
    entered_of format r (entries_of rs) all.0 (entries_of_format format rs all.1)

of_unless : (format : Format) (numbers : Option (ℕ × ℕ)) (entries tree : List Record)
    → unless_doubled numbers entries ≡ Ok tree → AreOfFormat format entries
    → AreOfFormat format tree
of_unless format None entries tree is all = let same : entries ≡ tree = cc in
    subst (AreOfFormat format) same all
of_unless format (Some numbers) entries tree is all = absurd (cc)

pub tree_of_format : (format : Format) (records tree : List Record) → tree_of records ≡ Ok tree
    → AreOfFormat format records → AreOfFormat format tree
tree_of_format format records tree is all = of_unless format (doubled records) (entries_of records)
    tree is (entries_of_format format records all)
