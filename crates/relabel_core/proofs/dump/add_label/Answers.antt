use Rattle.std.proofs.Common.{◌∙◌, ap, sym, ◌++◌}
use Rattle.std.specs.Prelude.{option_map}
use Rattle.context_syntax.specs.Context.{context_text}
use Rattle.context_syntax.specs.ContextRef.{context_lent}
use Rattle.setfattr_dump.specs.Texts.{attr_line, attrs_text}
use Rattle.setfattr_dump.specs.declared.marks.TheConstants.{LABEL_KEY}
use Rattle.relabel_core.specs.Changes.{given_attrs, label_attr}
use Rattle.relabel_core.proofs.DumpLemmas.{one_attr}
use Rattle.relabel_core.proofs.dump.add_label.Goals as goal

pub returns-in_ok-add_attr-in-Some : goal.returns-in_ok-add_attr-in-Some
returns-in_ok-add_attr-in-Some c =
    c.in_ok-add_attr-in-Some.ensures
    ∙ ap (λ value. c.args.to.now ++ attr_line LABEL_KEY.now value)
    (c.as_slice.ensures ∙ c.in_ok-add-in-Some.ensures
    ∙ ap (λ text. text ++ context_text (context_lent c.in-Some.context)) c.clear.ensures)
    ∙ one_attr c.args.to.now (label_attr (context_text (context_lent c.in-Some.context)))
    ∙ ap (λ change. c.args.to.now ++ attrs_text (given_attrs (option_map context_lent change)))
    (sym c.in-Some.is)
