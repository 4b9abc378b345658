use Rattle.std.proofs.Common.{◌∙◌, ap, sym, ◌++◌}
use Rattle.setfattr_dump.specs.Texts.{attr_line, attrs_text}
use Rattle.setfattr_dump.specs.declared.marks.TheConstants.{DIGEST_KEY}
use Rattle.relabel_core.specs.Changes.{digest_attr, renewed_attrs}
use Rattle.relabel_core.proofs.DumpLemmas.{one_attr}
use Rattle.relabel_core.proofs.dump.add_digest.Goals as goal

pub returns-in_ok-add_attr-in-Some : goal.returns-in_ok-add_attr-in-Some
returns-in_ok-add_attr-in-Some c =
    c.in_ok-add_attr-in-Some.ensures ∙ ap (λ value. c.args.to.now ++ attr_line DIGEST_KEY.now value)
    c.as_bytes.ensures
    ∙ one_attr c.args.to.now (digest_attr c.in-Some.digest)
    ∙ ap (λ change. c.args.to.now ++ attrs_text (renewed_attrs change)) (sym c.in-Some.is)
