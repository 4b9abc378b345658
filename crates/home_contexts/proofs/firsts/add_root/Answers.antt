use Rattle.std.proofs.Common.{◌∙◌, ap, sym}
use Rattle.std.specs.Prelude.{not}
use Rattle.std.specs.List.{list_any}
use Rattle.label_base.specs.Text.{same_bytes}
use Rattle.home_contexts.specs.Making.{key_texts}
use Rattle.home_contexts.proofs.Chosen.{any_key}
use Rattle.home_contexts.proofs.firsts.add_root.Goals as goal

pub returns-clause-new : goal.returns-clause-new
returns-clause-new c =
    c.in_ok-added.ensures.added
    ∙ ap not (sym (any_key c.in_ok-key.key.items c.args.seen.now.keys))
    ∙ ap (λ root. not (list_any (same_bytes root) (key_texts c.args.seen.now.keys)))
    c.in_ok-key.ensures.items
