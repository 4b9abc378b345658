-- The specifications of a file are those that its grammar gives.
use Rattle.std.proofs.Common.{◌≡◌, ◌∙◌, ap, sym, refl, subst, ℕ, ◌<◌, true, false, cond, List, []}
use Rattle.std.proofs.Common.{◌∷◌, length, arith}
use Rattle.std.specs.Prelude.{◌↔◌, Option, Some, None, Result, Ok, Err}
use Rattle.std.proofs.lemmas.Slice.Eq.{bytes_eq-Decides}
use Rattle.label_base.specs.Text.{same_bytes}
use Rattle.label_base.specs.declared.kind.EntryKind.{EntryKind}
use Rattle.file_roles.specs.declared.role.Part.{Part}
use Rattle.label_base.specs.declared.lines.LinesWhy.{LinesWhy}
use Rattle.label_base.proofs.LinesMeant.{lines_mean_within}
use Rattle.context_syntax.specs.Context.{ContextValue, context_of}
use Rattle.context_syntax.proofs.Spelling.{complete, no_spelling, sound}
use Rattle.pattern_syntax.specs.Tree.{Tree}
use Rattle.pattern_syntax.specs.Reading.{pattern_of}
use Rattle.pattern_syntax.specs.declared.pattern_fault.PatternWhy.{PatternWhy}
use Rattle.spec_reader.specs.SpecGrammar.{AreBadParts, SpecFieldsMean, HasDecision, HasKind}
use Rattle.spec_reader.specs.SpecGrammar.{SpellsDecision, IsKind, SpecParts, SpecsMean, parts_of}
use Rattle.label_base.specs.Kind.{field_kind}
use Rattle.spec_reader.specs.SpecLines.{spec_of_fields, specs_of, with_context, with_decision}
use Rattle.spec_reader.specs.SpecLines.{with_pattern, with_tree, with_type}
use Rattle.spec_reader.specs.SpecValue.{SpecValue}
use Rattle.spec_reader.specs.declared.line.TheConstants.{NO_CONTEXT}
use Rattle.spec_reader.specs.declared.spec.Decision.{Decision}
use Rattle.spec_reader.specs.declared.spec.Decision.TheVariants.{Leave, Give}
use Rattle.spec_reader.specs.declared.spec_fault.SpecWhy.{SpecWhy}
use Rattle.spec_reader.specs.declared.spec_fault.SpecWhy.TheVariants.{MissingContext, BadKind}
use Rattle.spec_reader.specs.declared.spec_fault.SpecWhy.TheVariants.{BadContext, BadPattern}

-- ---- what is read is meant

-- what is meant where the fields have these parts
abbrev PartsMean : Part → ℕ → SpecParts → Result SpecValue SpecWhy → Type 0
PartsMean part number parts meant = (fields : List (List ℕ)) → parts_of fields ≡ Some parts
    → SpecFieldsMean part number fields meant

bad_parts : (part : Part) (number : ℕ) (parts : SpecParts) (why : SpecWhy) → AreBadParts parts why
    → PartsMean part number parts (Err why)
bad_parts part number parts MissingContext bad = absurd bad
bad_parts part number parts BadKind bad = λ fields cut. (parts, cut, bad)
bad_parts part number parts BadContext bad = λ fields cut. (parts, cut, bad)
bad_parts part number parts (BadPattern why) bad = λ fields cut. (parts, cut, bad)

tree_sound : (part : Part) (number : ℕ) (parts : SpecParts) (kind : Option EntryKind)
    (decision : Decision) (read : Result Tree PatternWhy) → pattern_of parts.pattern ≡ read
    → IsKind parts.type kind → SpellsDecision parts.context decision
    → PartsMean part number parts (with_tree part number parts.pattern kind decision read)
tree_sound part number parts kind decision (Ok tree) e k d = λ fields cut. record {
  parts = parts;
  cut = cut;
  text = refl;
  pattern = e;
  kind = k;
  decision = d;
  file = refl;
  line = refl;
}
tree_sound part number parts kind decision (Err why) e k d =
    bad_parts part number parts (BadPattern why) ((kind, k), (decision, d), e)

pattern_sound : (part : Part) (number : ℕ) (parts : SpecParts) (kind : Option EntryKind)
    (decision : Decision) → IsKind parts.type kind → SpellsDecision parts.context decision
    → PartsMean part number parts (with_pattern part number parts.pattern kind decision)
unfolding with_pattern
pattern_sound part number parts kind decision k d =
    tree_sound part number parts kind decision (pattern_of parts.pattern) refl k d

no_decision : (parts : SpecParts) → same_bytes parts.context NO_CONTEXT.now ≡ false
    → context_of parts.context ≡ None → ¬ HasDecision parts
no_decision parts other none (Leave, same) = let is =
    (bytes_eq-Decides parts.context NO_CONTEXT.now).1 same in cc
no_decision parts other none (Give context, spells) = no_spelling parts.context none context spells

context_sound : (part : Part) (number : ℕ) (parts : SpecParts) (kind : Option EntryKind)
    (read : Option ContextValue) → context_of parts.context ≡ read
    → same_bytes parts.context NO_CONTEXT.now ≡ false → IsKind parts.type kind
    → PartsMean part number parts (with_context part number parts.pattern kind read)
context_sound part number parts kind (Some context) e other k =
    pattern_sound part number parts kind (Give context) k (sound parts.context context e)
context_sound part number parts kind None e other k =
    bad_parts part number parts BadContext ((kind, k), no_decision parts other e)

decision_sound : (part : Part) (number : ℕ) (parts : SpecParts) (kind : Option EntryKind)
    → IsKind parts.type kind
    → PartsMean part number parts (with_decision part number parts.pattern kind parts.context)
unfolding with_decision
decision_sound part number parts kind k =
    elim (same_bytes parts.context NO_CONTEXT.now) as
    (λ v. same_bytes parts.context NO_CONTEXT.now ≡ v
    → PartsMean part number parts
    (cond v (with_pattern part number parts.pattern kind Leave)
    (with_context part number parts.pattern kind (context_of parts.context)))) [
      | true ↦ λ t. pattern_sound part number parts kind Leave k
          ((bytes_eq-Decides parts.context NO_CONTEXT.now).0 t)
      | false ↦ λ f. context_sound part number parts kind (context_of parts.context) refl f k
    ] refl

-- a specification with a type
abbrev typed : List ℕ → List ℕ → List ℕ → SpecParts
typed pattern type context = record { pattern = pattern; type = Some type; context = context }

no_kind : (pattern type context : List ℕ) → field_kind type ≡ None
    → ¬ HasKind (typed pattern type context)
no_kind pattern type context none (Some kind, h) = let e = h.1 in cc
no_kind pattern type context none (None, h) = let e = h.0 in cc

type_sound : (part : Part) (number : ℕ) (pattern type context : List ℕ) (kind : Option EntryKind)
    → field_kind type ≡ kind → PartsMean part number (typed pattern type context)
    (with_type part number pattern kind context)
type_sound part number pattern type context (Some kind) e =
    decision_sound part number (typed pattern type context) (Some kind) (refl, e)
type_sound part number pattern type context None e =
    bad_parts part number (typed pattern type context) BadKind (no_kind pattern type context e)

fields_sound : (part : Part) (number : ℕ) (fields : List (List ℕ))
    → SpecFieldsMean part number fields (spec_of_fields part number fields)
fields_sound part number [] = omega arith
fields_sound part number (pattern ∷ []) = omega arith
fields_sound part number (pattern ∷ context ∷ []) =
    decision_sound part number (record { pattern = pattern; type = None; context = context }) None
    refl (pattern ∷ context ∷ []) refl
fields_sound part number (pattern ∷ type ∷ context ∷ rest) =
    type_sound part number pattern type context (field_kind type) refl
    (pattern ∷ type ∷ context ∷ rest) refl

-- ---- what is meant is read

abbrev with_parts : Part → ℕ → List ℕ → Option (List ℕ) → List ℕ → Result SpecValue SpecWhy
with_parts part number pattern None context = with_decision part number pattern None context
with_parts part number pattern (Some type) context = with_type part number pattern (field_kind type)
    context

abbrev from_parts : Part → ℕ → SpecParts → Result SpecValue SpecWhy
from_parts part number parts = with_parts part number parts.pattern parts.type parts.context

parts_read : (part : Part) (number : ℕ) (fields : List (List ℕ)) (parts : SpecParts)
    → parts_of fields ≡ Some parts → spec_of_fields part number fields ≡ from_parts part number
    parts
parts_read part number [] parts cut = cc
parts_read part number (pattern ∷ []) parts cut = cc
parts_read part number (pattern ∷ context ∷ []) parts cut =
    let same : record { pattern = pattern; type = None; context = context } ≡ parts = cc in
    ap (from_parts part number) same
parts_read part number (pattern ∷ type ∷ context ∷ rest) parts cut =
    let same : typed pattern type context ≡ parts = cc in
    ap (from_parts part number) same

kind_complete : (part : Part) (number : ℕ) (pattern : List ℕ) (type : Option (List ℕ))
    (context : List ℕ) (kind : Option EntryKind) → IsKind type kind
    → with_parts part number pattern type context ≡ with_decision part number pattern kind context
kind_complete part number pattern None context kind k =
    ap (λ v. with_decision part number pattern v context) (sym k)
kind_complete part number pattern (Some type) context (Some kind) (some, e) =
    ap (λ v. with_type part number pattern v context) e
kind_complete part number pattern (Some type) context None (some, e) = cc

-- the mark of no context spells none
marks_none : (context : ContextValue) → context_of NO_CONTEXT.now ≡ Some context → ⊥
marks_none context h = cc

decision_complete : (part : Part) (number : ℕ) (pattern : List ℕ) (kind : Option EntryKind)
    (field : List ℕ) (decision : Decision) → SpellsDecision field decision
    → with_decision part number pattern kind field ≡ with_pattern part number pattern kind decision
unfolding with_decision
decision_complete part number pattern kind field Leave d =
    ap (λ v. cond v (with_pattern part number pattern kind Leave)
    (with_context part number pattern kind (context_of field)))
    ((bytes_eq-Decides field NO_CONTEXT.now).1 d)
decision_complete part number pattern kind field (Give context) d =
    let read = complete field context d in
    elim (same_bytes field NO_CONTEXT.now) as (λ v. same_bytes field NO_CONTEXT.now ≡ v
    → cond v (with_pattern part number pattern kind Leave)
    (with_context part number pattern kind (context_of field)) ≡ with_pattern part number
    pattern kind (Give context)) [
      | true ↦ λ t. absurd
          (marks_none context (ap context_of (sym ((bytes_eq-Decides field NO_CONTEXT.now).0 t))
          ∙ read))
      | false ↦ λ f. ap (with_context part number pattern kind) read
    ] refl

pattern_complete : (part : Part) (number : ℕ) (pattern : List ℕ) (kind : Option EntryKind)
    (decision : Decision) (read : Result Tree PatternWhy) → pattern_of pattern ≡ read
    → with_pattern part number pattern kind decision ≡ with_tree part number pattern kind decision
    read
unfolding with_pattern
pattern_complete part number pattern kind decision read e =
    ap (with_tree part number pattern kind decision) e

same_spec : (part : Part) (number : ℕ) (text : List ℕ) (spec : SpecValue) → text ≡ spec.text
    → part ≡ spec.part → number ≡ spec.line → with_tree part number text spec.kind spec.decision
    (Ok spec.pattern) ≡ Ok spec
same_spec part number text spec e f g =
    λ i. Ok (record {
      text = e i;
      pattern = spec.pattern;
      kind = spec.kind;
      decision = spec.decision;
      part = f i;
      line = g i;
    })

no_kind_read : (part : Part) (number : ℕ) (parts : SpecParts) (kind : Option EntryKind)
    (type : List ℕ) → parts.type ≡ Some type → field_kind type ≡ kind → ¬ HasKind parts
    → with_type part number parts.pattern kind parts.context ≡ Err BadKind
no_kind_read part number parts (Some kind) type has e bad =
    absurd (bad (Some kind, subst (λ t. IsKind t (Some kind)) (sym has) (refl, e)))
no_kind_read part number parts None type has e bad = refl

bad_kind_read : (part : Part) (number : ℕ) (parts : SpecParts) (type : Option (List ℕ))
    → parts.type ≡ type → ¬ HasKind parts → with_parts part number parts.pattern type parts.context
    ≡ Err BadKind
bad_kind_read part number parts None has bad =
    absurd (bad (None, subst (λ t. IsKind t None) (sym has) refl))
bad_kind_read part number parts (Some type) has bad =
    no_kind_read part number parts (field_kind type) type has refl bad

bad_context_from : (part : Part) (number : ℕ) (parts : SpecParts) (kind : Option EntryKind)
    (read : Option ContextValue) → context_of parts.context ≡ read → ¬ HasDecision parts
    → with_context part number parts.pattern kind read ≡ Err BadContext
bad_context_from part number parts kind (Some context) e bad =
    absurd (bad (Give context, sound parts.context context e))
bad_context_from part number parts kind None e bad = refl

bad_context_read : (part : Part) (number : ℕ) (parts : SpecParts) (kind : Option EntryKind)
    → ¬ HasDecision parts → with_decision part number parts.pattern kind parts.context
    ≡ Err BadContext
unfolding with_decision
bad_context_read part number parts kind bad =
    elim (same_bytes parts.context NO_CONTEXT.now) as
    (λ v. same_bytes parts.context NO_CONTEXT.now ≡ v
    → cond v (with_pattern part number parts.pattern kind Leave)
    (with_context part number parts.pattern kind (context_of parts.context)) ≡ Err BadContext) [
      | true ↦ λ t. absurd (bad (Leave, (bytes_eq-Decides parts.context NO_CONTEXT.now).0 t))
      | false ↦ λ f. bad_context_from part number parts kind (context_of parts.context) refl bad
    ] refl

few_read : (part : Part) (number : ℕ) (fields : List (List ℕ)) → length fields < 2
    → spec_of_fields part number fields ≡ Err MissingContext
few_read part number [] few = refl
few_read part number (pattern ∷ []) few = refl
few_read part number (pattern ∷ context ∷ rest) few = absurd (omega arith)

bad_read : (part : Part) (number : ℕ) (parts : SpecParts) (why : SpecWhy) → AreBadParts parts why
    → from_parts part number parts ≡ Err why
bad_read part number parts MissingContext bad = absurd bad
bad_read part number parts BadKind bad = bad_kind_read part number parts parts.type refl bad
bad_read part number parts BadContext ((kind, k), bad) =
    kind_complete part number parts.pattern parts.type parts.context kind k
    ∙ bad_context_read part number parts kind bad
bad_read part number parts (BadPattern why) ((kind, k), (decision, d), e) =
    kind_complete part number parts.pattern parts.type parts.context kind k
    ∙ decision_complete part number parts.pattern kind parts.context decision d
    ∙ pattern_complete part number parts.pattern kind decision (Err why) e

fields_complete : (part : Part) (number : ℕ) (fields : List (List ℕ))
    (meant : Result SpecValue SpecWhy) → SpecFieldsMean part number fields meant
    → spec_of_fields part number fields ≡ meant
fields_complete part number fields (Ok spec) h =
    parts_read part number fields h.parts h.cut
    ∙ kind_complete part number h.parts.pattern h.parts.type h.parts.context spec.kind h.kind
    ∙ decision_complete part number h.parts.pattern spec.kind h.parts.context spec.decision
    h.decision
    ∙ pattern_complete part number h.parts.pattern spec.kind spec.decision (Ok spec.pattern)
    (ap pattern_of h.text ∙ h.pattern)
    ∙ same_spec part number h.parts.pattern spec h.text h.file h.line
fields_complete part number fields (Err MissingContext) h = few_read part number fields h
fields_complete part number fields (Err BadKind) (parts, cut, bad) =
    parts_read part number fields parts cut ∙ bad_read part number parts BadKind bad
fields_complete part number fields (Err BadContext) (parts, cut, bad) =
    parts_read part number fields parts cut ∙ bad_read part number parts BadContext bad
fields_complete part number fields (Err (BadPattern why)) (parts, cut, bad) =
    parts_read part number fields parts cut ∙ bad_read part number parts (BadPattern why) bad

fields_mean : (part : Part) (number : ℕ) (fields : List (List ℕ)) (meant : Result SpecValue SpecWhy)
    → (spec_of_fields part number fields ≡ meant) ↔ SpecFieldsMean part number fields meant
fields_mean part number fields meant = (
  λ read. subst (SpecFieldsMean part number fields) read (fields_sound part number fields),
  fields_complete part number fields meant,
)

-- what is read of a file is what its text means
pub specs_mean : (part : Part) (room : ℕ) (text : List ℕ)
    (meant : Result (List SpecValue) (LinesWhy SpecWhy)) → (specs_of part room text ≡ meant) ↔
    SpecsMean part room text meant
specs_mean part room text meant = lines_mean_within (SpecFieldsMean part) (spec_of_fields part)
    (fields_mean part) room text meant
