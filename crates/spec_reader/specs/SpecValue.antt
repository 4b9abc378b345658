-- A specification, as contracts see it.
use Rattle.std.specs.Prelude.{◌≡◌, ℕ, Bool, true, List, Option, Some, None, Ok}
use Rattle.label_base.specs.Kind.{has_names}
use Rattle.label_base.specs.declared.kind.EntryKind.{EntryKind}
use Rattle.file_roles.specs.declared.role.Part.{Part}
use Rattle.pattern_syntax.specs.Tree.{Tree}
use Rattle.pattern_syntax.specs.Reading.{pattern_of}
use Rattle.spec_reader.specs.declared.spec.Decision.{Decision}

pub record SpecValue : Type 0 where
  pub text : List ℕ
  pub pattern : Tree
  pub kind : Option EntryKind
  pub decision : Decision
  pub part : Part
  pub line : ℕ

-- a kind that a type field can name, or none
abbrev pub is_spec_kind : Option EntryKind → Bool
is_spec_kind None = true
is_spec_kind (Some kind) = has_names kind

-- the pattern is what the text reads as, and the kind is one that a type field can name
pub record IsSpec (spec : SpecValue) : Type 0 where
  pub pattern : pattern_of spec.text ≡ Ok spec.pattern
  pub kind : is_spec_kind spec.kind ≡ true
