use Rattle.std.proofs.Common.{subst, sym}
use Rattle.relabel_core.specs.Walked.{IsFor}
use Rattle.relabel_core.proofs.FormatLemmas.{have_links}
use Rattle.relabel_core.proofs.SelectedLemmas.{selected_is_for}
use Rattle.relabel_core.proofs.input.walk_input.Goals as goal

pub returns-clause-fit : goal.returns-clause-fit
returns-clause-fit c =
    let choice = c.args.choice.now in
    let entries = c.args.tree.now in
    record {
      by_path = c.rises.ensures;
      selected = subst (λ chosen. IsFor entries choice.operands chosen) (sym c.requires.chosen)
          (selected_is_for choice entries);
      format = have_links c.args.options.format entries c.requires.format;
      few = c.requires.few;
    }
