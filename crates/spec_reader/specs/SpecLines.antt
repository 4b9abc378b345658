-- What the lines of a file_contexts file say, as selabel_file(5) has it: a pattern, a type or none,
-- and a context.
use Rattle.std.specs.Prelude.{ℕ, List, [], ◌∷◌, Option, Some, None, Result, Ok, Err, if◌then◌else◌}
use Rattle.label_base.specs.declared.kind.EntryKind.{EntryKind}
use Rattle.file_roles.specs.declared.role.Part.{Part}
use Rattle.label_base.specs.declared.lines.LinesWhy.{LinesWhy}
use Rattle.label_base.specs.Lines.{lines_within}
use Rattle.label_base.specs.Text.{same_bytes}
use Rattle.context_syntax.specs.Context.{ContextValue, context_of}
use Rattle.pattern_syntax.specs.Tree.{Tree}
use Rattle.pattern_syntax.specs.Reading.{pattern_of}
use Rattle.pattern_syntax.specs.declared.pattern_fault.PatternWhy.{PatternWhy}
use Rattle.spec_reader.specs.SpecValue.{SpecValue}
use Rattle.label_base.specs.Kind.{field_kind}
use Rattle.spec_reader.specs.declared.line.TheConstants.{NO_CONTEXT}
use Rattle.spec_reader.specs.declared.spec.Decision.{Decision}
use Rattle.spec_reader.specs.declared.spec.Decision.TheVariants.{Leave, Give}
use Rattle.spec_reader.specs.declared.spec_fault.SpecWhy.{SpecWhy}
use Rattle.spec_reader.specs.declared.spec_fault.SpecWhy.TheVariants.{MissingContext, BadKind}
use Rattle.spec_reader.specs.declared.spec_fault.SpecWhy.TheVariants.{BadContext, BadPattern}

abbrev pub with_tree : Part → ℕ → List ℕ → Option EntryKind → Decision → Result Tree PatternWhy
    → Result SpecValue SpecWhy
with_tree part line text kind decision (Ok pattern) =
    Ok (record {
      text = text;
      pattern = pattern;
      kind = kind;
      decision = decision;
      part = part;
      line = line;
    })
with_tree part line text kind decision (Err why) = Err (BadPattern why)

-- the pattern is looked at last
unfoldable pub with_pattern : Part → ℕ → List ℕ → Option EntryKind → Decision
    → Result SpecValue SpecWhy
with_pattern part line text kind decision = with_tree part line text kind decision (pattern_of text)

abbrev pub with_context : Part → ℕ → List ℕ → Option EntryKind → Option ContextValue
    → Result SpecValue SpecWhy
with_context part line text kind None = Err BadContext
with_context part line text kind (Some context) = with_pattern part line text kind (Give context)

unfoldable pub with_decision : Part → ℕ → List ℕ → Option EntryKind → List ℕ
    → Result SpecValue SpecWhy
with_decision part line text kind field =
    if same_bytes field NO_CONTEXT.now then with_pattern part line text kind Leave
    else with_context part line text kind (context_of field)

abbrev pub with_type : Part → ℕ → List ℕ → Option EntryKind → List ℕ → Result SpecValue SpecWhy
with_type part line text None field = Err BadKind
with_type part line text (Some kind) field = with_decision part line text (Some kind) field

-- what the fields of the line with this number say: pattern and context, or pattern, type and
-- context; what follows is passed over
abbrev pub spec_of_fields : Part → ℕ → List (List ℕ) → Result SpecValue SpecWhy
spec_of_fields part line (text ∷ context ∷ []) = with_decision part line text None context
spec_of_fields part line (text ∷ kind ∷ context ∷ more) =
    with_type part line text (field_kind kind) context
spec_of_fields part line fields = Err MissingContext

-- the specifications of a file, or its first line that is refused or gives one too many
abbrev pub specs_of : Part → ℕ → List ℕ → Result (List SpecValue) (LinesWhy SpecWhy)
specs_of part room text = lines_within room (spec_of_fields part) text
