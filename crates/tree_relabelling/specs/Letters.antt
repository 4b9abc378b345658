-- The words of setfiles(8) and restorecon(8): their options and operands.
use Rattle.std.specs.Prelude.{Some, None}
use Rattle.tool_words.specs.Tool.{Tool}
use Rattle.tool_words.specs.declared.letters.Form.TheVariants.{Name}
use Rattle.tool_words.specs.declared.letters.Others.TheVariants.{Paths}
use Rattle.tree_relabelling.specs.declared.letters.TheConstants.{BASE, RESTORECON_LETTERS}
use Rattle.tree_relabelling.specs.declared.letters.TheConstants.{SETFILES_LETTERS}

abbrev pub setfiles : Tool
setfiles = record {
  letters = SETFILES_LETTERS.now;
  first = Some (record { letter = BASE; form = Name });
  others = Paths;
}

abbrev pub restorecon : Tool
restorecon = record { letters = RESTORECON_LETTERS.now; first = None; others = Paths }
