-- Records with their numbers, and their order.
use Rattle.std.specs.Prelude.{ℕ, ◌+◌, ◌-◌, List, [], ◌∷◌}
use Rattle.std.specs.Cmp.{IsTotalOrder, then_total, on_total, nat_cmp_total}
use Rattle.std.specs.Cmp.Lexicographic.{lists_total, nat_list_cmp_total}
use Rattle.std.specs.Ordering.{nat_cmp, then_cmp, on}
use Rattle.std.specs.declared.cmp.Ordering.{Ordering}
use Rattle.file_paths.specs.Path.{path_cmp}
use Rattle.find_records.specs.Record.{Record}

pub record Numbered : Type 0 where
  pub number : ℕ
  pub item : Record

-- by path, and then by number
abbrev pub numbered_cmp : Numbered → Numbered → Ordering
numbered_cmp = then_cmp (on (λ n. n.item.path) path_cmp) (on (λ n. n.number) nat_cmp)

pub numbered_total : IsTotalOrder numbered_cmp
numbered_total =
    then_total (on_total (λ n. n.item.path) (lists_total nat_list_cmp_total))
    (on_total (λ n. n.number) nat_cmp_total)

-- the records with their numbers, from n on
abbrev pub numbered_from : ℕ → List Record → List Numbered
numbered_from n [] = []
numbered_from n (r ∷ rs) = record { number = n; item = r } ∷ numbered_from (n + 1) rs

abbrev pub numbered_record : Numbered → Record
numbered_record n = n.item

-- where the record stands among all, counted from 0
abbrev pub place_of : Numbered → ℕ
place_of n = n.number - 1
