-- The text is read back as one specification for each of its lines.
use Rattle.std.proofs.Common.{◌≡◌, ◌∙◌, sym, refl, ap, subst, ℕ, suc, ◌+◌, ◌≤◌, true, false, cond}
use Rattle.std.proofs.Common.{List, [], ◌∷◌, ◌++◌, length, map, append_assoc, arith}
use Rattle.std.specs.Prelude.{Option, Some, None, Result, Ok, Err, is_ok, not}
use Rattle.std.specs.List.{cons_option, filter_map, list_all}
use Rattle.std.proofs.lemmas.Bool.{and_parts, eqb-false, false≢true}
use Rattle.label_base.specs.Lines.{first_of, is_comment, lines_of}
use Rattle.label_base.specs.LineGrammar.{AreLines, AreSaid, SayNothing, more, none, value}
use Rattle.label_base.specs.Text.{same_bytes}
use Rattle.label_base.specs.declared.kind.EntryKind.{EntryKind}
use Rattle.file_roles.specs.declared.role.Part.{Part}
use Rattle.file_roles.specs.declared.role.Part.TheVariants.{Homedirs}
use Rattle.label_base.specs.declared.lines.RefusedLine.{RefusedLine}
use Rattle.label_base.proofs.LineCuts.{fields_are, lines_are}
use Rattle.label_base.proofs.LinesMeant.{lines_mean_within}
use Rattle.context_syntax.specs.Context.{ContextValue, context_of}
use Rattle.pattern_syntax.specs.Reading.{pattern_of}
use Rattle.pattern_syntax.specs.Tree.{Tree}
use Rattle.pattern_syntax.specs.declared.pattern_fault.PatternWhy.{PatternWhy}
use Rattle.spec_reader.specs.SpecLines.{spec_of_fields, with_context, with_decision, with_pattern}
use Rattle.spec_reader.specs.SpecLines.{with_tree, with_type}
use Rattle.spec_reader.specs.SpecValue.{SpecValue}
use Rattle.label_base.specs.Kind.{field_kind}
use Rattle.spec_reader.specs.declared.line.TheConstants.{NO_CONTEXT}
use Rattle.spec_reader.specs.declared.spec.Decision.{Decision}
use Rattle.spec_reader.specs.declared.spec.Decision.TheVariants.{Give, Leave}
use Rattle.spec_reader.specs.declared.spec_fault.SpecWhy.{SpecWhy}
use Rattle.home_contexts.specs.Homes.{Given, IsReadBack, first_refusal, refusal, refusal_of}
use Rattle.home_contexts.specs.Homes.{homes_text}
use Rattle.home_contexts.specs.Making.{are_parts, is_home_given, is_part}
use Rattle.home_contexts.proofs.GivenLines.{body, body_cut, body_lacks, line_body, not_true}

-- ---- whether a line is a specification doesn't depend on its number

tree_either : (part : Part) (n m : ℕ) (text : List ℕ) (kind : Option EntryKind) (decision :
    Decision) (read : Result Tree PatternWhy) → is_ok (with_tree part n text kind decision read) ≡
    is_ok (with_tree part m text kind decision read)
tree_either part n m text kind decision (Ok pattern) = refl
tree_either part n m text kind decision (Err why) = refl

pattern_either : (part : Part) (n m : ℕ) (text : List ℕ) (kind : Option EntryKind) (decision :
    Decision) → is_ok (with_pattern part n text kind decision) ≡ is_ok (with_pattern part m text
    kind decision)
unfolding with_pattern
pattern_either part n m text kind decision = tree_either part n m text kind decision (pattern_of
    text)

context_either : (part : Part) (n m : ℕ) (text : List ℕ) (kind : Option EntryKind) (context : Option
    ContextValue) → is_ok (with_context part n text kind context) ≡ is_ok (with_context part m
    text kind context)
context_either part n m text kind None = refl
context_either part n m text kind (Some context) = pattern_either part n m text kind (Give context)

decision_either : (part : Part) (n m : ℕ) (text : List ℕ) (kind : Option EntryKind) (field : List ℕ)
    → is_ok (with_decision part n text kind field) ≡ is_ok (with_decision part m text kind field)
unfolding with_decision
decision_either part n m text kind field =
    elim (same_bytes field NO_CONTEXT.now) as (λ v. is_ok (cond v (with_pattern part n text kind
    Leave) (with_context part n text kind (context_of field))) ≡ is_ok (cond v (with_pattern
    part m text kind Leave) (with_context part m text kind (context_of field)))) [
      | true ↦ pattern_either part n m text kind Leave
      | false ↦ context_either part n m text kind (context_of field)
    ]

type_either : (part : Part) (n m : ℕ) (text : List ℕ) (kind : Option EntryKind) (field : List ℕ) →
    is_ok (with_type part n text kind field) ≡ is_ok (with_type part m text kind field)
type_either part n m text None field = refl
type_either part n m text (Some kind) field = decision_either part n m text (Some kind) field

spec_either : (part : Part) (n m : ℕ) (fields : List (List ℕ))
    → is_ok (spec_of_fields part n fields) ≡
    is_ok (spec_of_fields part m fields)
spec_either part n m [] = refl
spec_either part n m (text ∷ []) = refl
spec_either part n m (text ∷ context ∷ []) = decision_either part n m text None context
spec_either part n m (text ∷ kind ∷ context ∷ others) = type_either part n m text (field_kind kind)
    context

ok_value : (read : Result SpecValue SpecWhy) → is_ok read ≡ true → (spec : SpecValue) × (read ≡ Ok
    spec)
ok_value (Ok spec) h = (spec, refl)
ok_value (Err why) h = absurd (false≢true h)

not_refused : (number : ℕ) (read : Result SpecValue SpecWhy) → refusal_of number read ≡ None → is_ok
    read ≡ true
not_refused number (Ok spec) h = refl
not_refused number (Err why) h = absurd (let e : Some (record { number = number; why = why }) ≡ None
    = h in cc)

-- ---- all lines

fine_first : (found : Option (RefusedLine SpecWhy)) (g : Given) (gs : List Given) → refusal g ≡
    found → first_refusal (g ∷ gs) ≡ None → (refusal g ≡ None) × (first_refusal gs ≡ None)
fine_first None g gs e h = (
  e,
  let f : first_refusal (g ∷ gs) ≡ first_refusal gs = ap (λ (o : Option
      (RefusedLine SpecWhy)). first_of (cons_option o (filter_map refusal gs))) e in sym f ∙ h,
)
fine_first (Some refused) g gs e h =
    absurd (let f : first_refusal (g ∷ gs) ≡ Some refused = ap (λ (o : Option (RefusedLine
    SpecWhy)). first_of (cons_option o (filter_map refusal gs))) e in let n : Some refused ≡
    None = sym f ∙ h in cc)

text_lines : (given : List Given) → list_all is_home_given given ≡ true
    → AreLines (homes_text given) (map
    (λ g. body g.fields) given)
text_lines [] h = none
text_lines (g ∷ gs) h =
    let both = and_parts (is_home_given g) (list_all is_home_given gs) h in
    let cut : homes_text (g ∷ gs) ≡ body g.fields ++ 10 ∷ homes_text gs =
    ap (λ line. line ++ homes_text gs)
    (line_body g.fields) ∙ append_assoc (body g.fields) (10 ∷ []) (homes_text gs) in
    subst (λ text. AreLines text (map (λ g. body g.fields) (g ∷ gs))) (sym cut) (more (body
    g.fields) (homes_text gs) (map (λ g. body g.fields) gs) (body_lacks g.fields both.0)
    (text_lines gs both.1))

bodies_counted : (given : List Given) → length (map (λ g. body g.fields) given) ≡ length given
bodies_counted [] = refl
bodies_counted (g ∷ gs) = ap suc (bodies_counted gs)

abbrev Means : ℕ → List (List ℕ) → Result SpecValue SpecWhy → Type 0
Means number fields meant = spec_of_fields Homedirs number fields ≡ meant

says_something : (fields : List (List ℕ)) → are_parts fields ≡ true → ¬ SayNothing fields
says_something [] h = absurd (false≢true h)
says_something ([] ∷ fields) h = λ nothing. nothing
says_something ((b ∷ bs) ∷ fields) h =
    eqb-false b 35 (not_true (is_comment (b ∷ bs)) (and_parts (not (is_comment (b ∷ bs))) (list_all
    is_part ((b ∷ bs) ∷ fields)) h).0)

record AllSaid (number : ℕ) (given : List Given) : Type 0 where
  specs : List SpecValue
  said : AreSaid Means number (map (λ g. body g.fields) given) specs
  counted : length specs ≡ length given

all_said : (number : ℕ) (given : List Given) → list_all is_home_given given ≡ true
    → first_refusal given
    ≡ None → AllSaid number given
all_said number [] h fine = record { specs = []; said = none number; counted = refl }
all_said number (g ∷ gs) h fine =
    let both = and_parts (is_home_given g) (list_all is_home_given gs) h in
    let here = fine_first (refusal g) g gs refl fine in
    let spec = ok_value (spec_of_fields Homedirs number g.fields)
    (spec_either Homedirs number 1 g.fields ∙
    not_refused g.number (spec_of_fields Homedirs 1 g.fields) here.0) in
    let rest = all_said (number + 1) gs both.1 here.1 in
    record {
      specs = spec.0 ∷ rest.specs;
      said = value number (body g.fields) (map (λ g. body g.fields) gs) spec.0 rest.specs
          (record {
            fields = g.fields;
            cut = (fields_are (body g.fields) g.fields).0 (body_cut
                g.fields both.0);
            something = says_something g.fields both.0;
            meaning = spec.1;
          })
          rest.said;
      counted = ap suc rest.counted;
    }

pub reads_back : (given : List Given) (text : List ℕ) → text ≡ homes_text given
    → list_all is_home_given
    given ≡ true → first_refusal given ≡ None → length given ≤ 65536 → IsReadBack text
reads_back given text same h fine few =
    let found = all_said 1 given h fine in
    let lines = (lines_are (homes_text given) (map (λ g. body g.fields) given)).1
    (text_lines given h)
    in
    let count : length (lines_of (homes_text given)) ≡ length given = ap length lines
    ∙ bodies_counted
    given in
    subst IsReadBack (sym same) (record {
      specs = found.specs;
      read = (lines_mean_within Means (spec_of_fields Homedirs)
          (λ number fields meant. (λ e. e, λ e. e))
          65536 (homes_text given) (Ok found.specs)).1 (
            (map (λ g. body g.fields) given, text_lines given h, found.said),
            omega (
              arith,
              found.counted,
              few,
            ),
          );
      one_each = found.counted ∙ sym count;
    })
