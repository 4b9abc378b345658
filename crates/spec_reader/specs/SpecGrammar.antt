-- The grammar of a file of specifications: a pattern, perhaps a type, and a context on each line,
-- as selabel_file(5) has them.
use Rattle.std.specs.Prelude.{◌≡◌, ℕ, ◌<◌, List, [], ◌∷◌, length, Option, Some, None, IsSome}
use Rattle.std.specs.Prelude.{Result, Ok, Err}
use Rattle.label_base.specs.declared.kind.EntryKind.{EntryKind}
use Rattle.file_roles.specs.declared.role.Part.{Part}
use Rattle.label_base.specs.declared.lines.LinesWhy.{LinesWhy}
use Rattle.label_base.specs.LineGrammar.{LinesMeanWithin}
use Rattle.context_syntax.specs.Context.{SpellsContext}
use Rattle.pattern_syntax.specs.Reading.{pattern_of}
use Rattle.label_base.specs.Kind.{field_kind}
use Rattle.spec_reader.specs.SpecValue.{SpecValue}
use Rattle.spec_reader.specs.declared.line.TheConstants.{NO_CONTEXT}
use Rattle.spec_reader.specs.declared.spec.Decision.{Decision}
use Rattle.spec_reader.specs.declared.spec.Decision.TheVariants.{Leave, Give}
use Rattle.spec_reader.specs.declared.spec_fault.SpecWhy.{SpecWhy}
use Rattle.spec_reader.specs.declared.spec_fault.SpecWhy.TheVariants.{MissingContext, BadKind}
use Rattle.spec_reader.specs.declared.spec_fault.SpecWhy.TheVariants.{BadContext, BadPattern}

-- what stands in a line
pub record SpecParts : Type 0 where
  pub pattern : List ℕ
  pub type : Option (List ℕ)
  pub context : List ℕ

-- two fields are pattern and context; of more the second is the type, and what follows the third is
-- passed over
abbrev pub parts_of : List (List ℕ) → Option SpecParts
parts_of (pattern ∷ context ∷ []) =
    Some (record { pattern = pattern; type = None; context = context })
parts_of (pattern ∷ type ∷ context ∷ rest) =
    Some (record { pattern = pattern; type = Some type; context = context })
parts_of fields = None

-- a type names a kind; without one a specification is for every kind
abbrev pub IsKind : Option (List ℕ) → Option EntryKind → Type 0
IsKind None kind = kind ≡ None
IsKind (Some type) kind = IsSome kind × (field_kind type ≡ kind)

-- files keep the labels that they have, or they get the context that the field spells
abbrev pub SpellsDecision : List ℕ → Decision → Type 0
SpellsDecision field Leave = field ≡ NO_CONTEXT.now
SpellsDecision field (Give context) = SpellsContext field context

-- the fields of the line with this number say this specification
pub record IsSpecOf (part : Part) (number : ℕ) (fields : List (List ℕ)) (spec : SpecValue) : Type 0
  where
    pub parts : SpecParts
    pub cut : parts_of fields ≡ Some parts
    pub text : parts.pattern ≡ spec.text
    pub pattern : pattern_of spec.text ≡ Ok spec.pattern
    pub kind : IsKind parts.type spec.kind
    pub decision : SpellsDecision parts.context spec.decision
    pub file : part ≡ spec.part
    pub line : number ≡ spec.line

abbrev pub HasKind : SpecParts → Type 0
HasKind parts = (kind : Option EntryKind) × IsKind parts.type kind

abbrev pub HasDecision : SpecParts → Type 0
HasDecision parts = (decision : Decision) × SpellsDecision parts.context decision

-- what is wrong with the parts, where nothing before it is
abbrev pub AreBadParts : SpecParts → SpecWhy → Type 0
AreBadParts parts MissingContext = ⊥
AreBadParts parts BadKind = ¬ HasKind parts
AreBadParts parts BadContext = HasKind parts × (¬ HasDecision parts)
AreBadParts parts (BadPattern why) =
    HasKind parts × HasDecision parts × (pattern_of parts.pattern ≡ Err why)

-- what the fields of the line with this number mean
abbrev pub SpecFieldsMean : Part → ℕ → List (List ℕ) → Result SpecValue SpecWhy → Type 0
SpecFieldsMean part number fields (Ok spec) = IsSpecOf part number fields spec
SpecFieldsMean part number fields (Err MissingContext) = length fields < 2
SpecFieldsMean part number fields (Err why) =
    (parts : SpecParts) × (parts_of fields ≡ Some parts) × AreBadParts parts why

-- what the text of a file means, where there is room for so many specifications
abbrev pub SpecsMean : Part → ℕ → List ℕ → Result (List SpecValue) (LinesWhy SpecWhy) → Type 0
SpecsMean part = LinesMeanWithin (SpecFieldsMean part)
