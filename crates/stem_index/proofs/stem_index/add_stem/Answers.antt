use Rattle.std.proofs.Common.{◌∙◌, ap, length, ◌++◌, ◌∷◌, [], arith}
use Rattle.label_base.specs.NumberUnder.{number_under}
use Rattle.stem_index.proofs.StemLemmas.{kept_at}
use Rattle.stem_index.proofs.stem_index.add_stem.Goals as goal

pub returns-clause-kept : goal.returns-clause-kept
returns-clause-kept c =
    kept_at c.args.stems.now.items c.args.stem.now c.in_ok-key.key c.args.last.now.entries
    c.insert.new.self.entries c.args.before.now.items c.in_ok-earlier.earlier c.len.result
    c.push_last.new.items.items c.push_last-2.new.items.items
    c.in_ok-key.ensures.items (omega (arith, c.len.ensures, ap length c.reserve.ensures.items))
    c.in_ok-earlier.ensures.entries (c.in_ok-earlier.ensures.old
    ∙ ap (λ t. number_under t c.args.last.now.entries) c.in_ok-key.ensures.items)
    (c.push_last.ensures ∙ ap (λ s. s ++ c.in_ok-kept.kept ∷ []) c.reserve.ensures.items
    ∙ ap (λ t. c.args.stems.now.items ++ t ∷ []) c.in_ok-kept.ensures)
    (c.push_last-2.ensures ∙ ap (λ b. b ++ c.in_ok-earlier.earlier ∷ []) c.reserve-2.ensures.items)
    c.requires.few c.requires.kept
