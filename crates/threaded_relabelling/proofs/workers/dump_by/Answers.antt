use Rattle.std.proofs.Common.{◌∙◌, ap, ◌++◌}
use Rattle.setfattr_dump.specs.Texts.{dump_text}
use Rattle.relabel_core.specs.Changes.{changes}
use Rattle.relabel_core.specs.Digests.{walk_before}
use Rattle.threaded_relabelling.proofs.workers.dump_by.Goals as goal

pub returns : goal.returns
returns g c =
    c.in_ok-dump.ensures
    ∙ ap (λ t. t ++ dump_text (changes (walk_before c.in_ok-digests.digests)))
    (c.in_ok-empty.ensures ∙ c.new.ensures)
    ∙ ap (λ w. dump_text (changes w)) c.in_ok-digests.ensures
