use Rattle.std.proofs.Common.{◌∙◌, ap}
use Rattle.context_syntax.specs.TypeNames.{set_of}
use Rattle.std.specs.Str.{bytes_eq}
use Rattle.std.proofs.lemmas.List.Filters.{dedup_is}
use Rattle.context_syntax.proofs.NameSets.{dedup_row, set_of-dedup}
use Rattle.context_syntax.proofs.type_names.without_repeats.Goals as goal

pub returns-clause-row : goal.returns-clause-row
returns-clause-row c = rw (dedup_is bytes_eq _ _ c.dedup.ensures.filtered)
    (dedup_row _ _ c.requires c.sort_unstable.ensures.permutation c.sort_unstable.ensures.sorted)

pub returns-clause-set : goal.returns-clause-set
returns-clause-set c = ap set_of (dedup_is bytes_eq _ _ c.dedup.ensures.filtered)
    ∙ set_of-dedup _ _ c.sort_unstable.ensures.permutation
