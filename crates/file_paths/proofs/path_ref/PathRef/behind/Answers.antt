use Rattle.std.proofs.Common.{◌∙◌, ap, sym, subst, refl, []}
use Rattle.file_paths.specs.Path.{path_names}
use Rattle.file_paths.specs.PathText.{IsNormal}
use Rattle.file_paths.proofs.PathMoves.{moved}
use Rattle.file_paths.proofs.path_ref.PathRef.behind.Goals as goal

pub text_behind-requires : goal.text_behind-requires
text_behind-requires c =
    (moved c.args.self.now.text.now c.args.top.now.text.now [] c.args.self.now.normal
    c.args.top.now.normal (refl, refl) c.requires).0

pub invariant_of-result : goal.invariant_of-result
invariant_of-result c =
    let made = moved c.args.self.now.text.now c.args.top.now.text.now [] c.args.self.now.normal
    c.args.top.now.normal (refl, refl) c.requires in
    record { normal = subst IsNormal (sym c.text_behind.ensures) made.2 }

pub returns : goal.returns
returns c =
    ap path_names c.text_behind.ensures
    ∙ (moved c.args.self.now.text.now c.args.top.now.text.now [] c.args.self.now.normal
    c.args.top.now.normal (refl, refl) c.requires).1
