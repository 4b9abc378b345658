use Rattle.std.proofs.Common.{◌∙◌, ap}
use Rattle.std.specs.Prelude.{List, is_some}
use Rattle.file_paths.specs.Path.{path_text}
use Rattle.file_paths.specs.PathRef.{path_of}
use Rattle.label_base.specs.declared.kind.Asked.TheVariants.{Any}
use Rattle.spec_match.specs.LastMatch.{last_index}
use Rattle.spec_reader.specs.SpecValue.{SpecValue}
use Rattle.path_reasons.proofs.MemberLemmas.{alone}
use Rattle.path_reasons.proofs.members.does_speak.Goals as goal

pub returns : goal.returns
returns c =
    let text = path_text (path_of c.args.path.now) in
    c.is_some.ensures ∙ ap is_some c.in_ok-found.ensures.index
    ∙ ap (λ (specs : List SpecValue). is_some (last_index Any text specs)) c.from_ref.ensures.value
    ∙ alone text c.args.spec.now
