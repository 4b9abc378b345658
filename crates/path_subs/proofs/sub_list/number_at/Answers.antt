use Rattle.std.proofs.Common.{◌∙◌, ap, sym, false}
use Rattle.std.specs.Prelude.{get_or}
use Rattle.path_subs.proofs.ListedLemmas.{fits_inside, fits_unmarked, mark_front}
use Rattle.path_subs.proofs.sub_list.number_at.Goals as goal

pub returns-then-not-ends_name_at : goal.returns-then-not-ends_name_at
returns-then-not-ends_name_at c = λ subs longest listed.
    fits_inside subs c.args.last.now.entries c.args.marks.now longest listed c.args.text.now
    c.args.end (sym c.ends_name_at.ensures ∙ c.if-not-ends_name_at.true)

pub returns-then-not-is_marked : goal.returns-then-not-is_marked
returns-then-not-is_marked c = λ subs longest listed.
    fits_unmarked subs c.args.last.now.entries c.args.marks.now longest listed c.args.text.now
    c.args.end
    (ap (λ m. get_or c.args.marks.now m false)
    (mark_front c.args.text.now c.args.end c.requires.above c.requires.within)
    ∙ sym c.is_marked.ensures ∙ c.if-not-is_marked.true)
