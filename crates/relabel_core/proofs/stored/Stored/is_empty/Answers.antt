use Rattle.relabel_core.proofs.StoredLemmas.{empty_kept, none_kept}
use Rattle.relabel_core.proofs.stored.Stored.is_empty.Goals as goal

pub returns : goal.returns
returns c =
    let stored = c.args.self.now.by_directory in (
      λ is. empty_kept stored (c.is_empty.ensures.0 is),
      λ none. c.is_empty.ensures.1 (none_kept stored none),
    )
