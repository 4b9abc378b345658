use Rattle.std.proofs.Common.{◌≡◌, ◌≤◌, sym, subst, arith, length}
use Rattle.std.specs.Prelude.{None, Ok}
use Rattle.tree_model.specs.Entries.{doubled, entries_of, tree_of}
use Rattle.tree_model.specs.Tree.{ByPath}
use Rattle.tree_model.proofs.EntryLemmas.{entries_pairs, entries_same}
use Rattle.tree_model.proofs.PlaceLemmas.{calm_tree, kept_tree}
use Rattle.tree_model.proofs.sorted.Sorted.new.Goals as goal

answer : (c : goal.In_ok-records) → tree_of c.args.records ≡ Ok c.in_ok-records.records
answer c = c.in_ok-records.ensures.answer

none : (c : goal.In_ok-records) → doubled c.args.records ≡ None
none c = calm_tree (doubled c.args.records) (entries_of c.args.records) c.in_ok-records.records
    (answer c)

kept : (c : goal.In_ok-records) → c.in_ok-records.records ≡ entries_of c.args.records
kept c = kept_tree (doubled c.args.records) (entries_of c.args.records) c.in_ok-records.records
    (answer c)

pub invariant_of-result : goal.invariant_of-result
invariant_of-result c =
    let fewer : length c.in_ok-records.records ≤ length c.args.records =
    c.in_ok-records.ensures.fewer in
    record {
      by_path = subst ByPath (sym (kept c)) (entries_pairs c.args.records);
      few = omega (arith, fewer, c.requires);
    }

pub returns-clause-by_path : goal.returns-clause-by_path
returns-clause-by_path c = subst ByPath (sym (kept c)) (entries_pairs c.args.records)

pub returns-clause-same : goal.returns-clause-same
returns-clause-same c = entries_same c.args.records c.in_ok-records.records (kept c) (none c)
