-- What accepted files of specifications and of substitutions say.
use Rattle.std.proofs.Common.{◌≡◌, sym, refl, subst, ℕ, ◌+◌, ◌≤◌, ◌==◌, Bool}
use Rattle.std.proofs.Common.{true, false, cond, List, ◌∷◌, length, arith, length-append}
use Rattle.std.specs.Prelude.{Option, Some, None, Result, Ok, Err, nat_lt, slice_index, not}
use Rattle.std.specs.Prelude.{if◌then◌else◌}
use Rattle.std.specs.List.{AllByRecursion, list_any}
use Rattle.label_base.specs.declared.kind.EntryKind.{EntryKind}
use Rattle.label_base.specs.declared.kind.EntryKind.TheVariants.{Regular, Directory, Link, Pipe}
use Rattle.label_base.specs.declared.kind.EntryKind.TheVariants.{Socket, Block, Char, Other}
use Rattle.label_base.specs.declared.cut.TheConstants.{LINE_FEED}
use Rattle.label_base.specs.Kind.{field_kind, is_kind_name, names_of}
use Rattle.label_base.specs.LineGrammar.{AreLines, AreSaid, LinesMean}
use Rattle.label_base.specs.LineGrammar as lines
use Rattle.file_roles.specs.declared.role.Part.{Part}
use Rattle.file_paths.specs.Path.{Path, are_names, is_dot_part, path_names, path_read}
use Rattle.file_paths.specs.declared.path_fault.PathWhy.TheVariants.{Empty, PathTooLong, HasNul}
use Rattle.file_paths.specs.declared.path_fault.PathWhy.TheVariants.{NotAbsolute, DotPart}
use Rattle.file_paths.proofs.PathLemmas.{names_ok}
use Rattle.dir_digest.specs.Basis.{IsReadSpec}
use Rattle.dir_digest.specs.ListingBytes.{IsContextDecision, IsNamesSub}
use Rattle.spec_reader.specs.SpecGrammar.{IsKind, IsSpecOf, SpecFieldsMean, SpellsDecision}
use Rattle.spec_reader.specs.SpecLines.{specs_of}
use Rattle.spec_reader.specs.SpecValue.{SpecValue, is_spec_kind}
use Rattle.spec_reader.specs.declared.spec.Decision.{Decision}
use Rattle.spec_reader.specs.declared.spec.Decision.TheVariants.{Give, Leave}
use Rattle.spec_reader.proofs.SpecsMeant.{specs_mean}
use Rattle.path_subs.specs.Subs.{SubValue}
use Rattle.path_subs.specs.SubGrammar.{IsSub, SubFieldsMean}
use Rattle.path_subs.specs.SubLines.{subs_of}
use Rattle.path_subs.proofs.SubsMeant.{subs_mean}

-- ---- lines

-- what is true of what the fields of each line mean is true of each value
pub each_said : {B W : Type 0} (Means : ℕ → List (List ℕ) → Result B W → Type 0) (P : B → Type 0)
    → ((number : ℕ) (fields : List (List ℕ)) (value : B) → Means number fields (Ok value) → P value)
    → (number : ℕ) (ls : List (List ℕ)) (values : List B) → AreSaid Means number ls values
    → AllByRecursion P values
each_said Means P law number ls values (lines.none n) = tt
each_said Means P law number ls values (lines.nothing n line fields rest vs are h others) =
    each_said Means P law (n + 1) rest vs others
each_said Means P law number ls values (lines.value n line rest first vs said others) =
    (law n said.fields first said.meaning, each_said Means P law (n + 1) rest vs others)

few_said : {B W : Type 0} (Means : ℕ → List (List ℕ) → Result B W → Type 0) (number : ℕ)
    (ls : List (List ℕ)) (values : List B) → AreSaid Means number ls values
    → length values ≤ length ls
few_said Means number ls values (lines.none n) = omega arith
few_said Means number ls values (lines.nothing n line fields rest vs are h others) =
    omega (arith, few_said Means (n + 1) rest vs others)
few_said Means number ls values (lines.value n line rest first vs said others) =
    omega (arith, few_said Means (n + 1) rest vs others)

few_lines : (text : List ℕ) (ls : List (List ℕ)) → AreLines text ls → length ls ≤ length text
few_lines text ls lines.none = omega arith
few_lines text ls (lines.last line some h) = omega (arith, some)
few_lines text ls (lines.more line rest others h are) =
    omega (arith, few_lines rest others are, length-append line (LINE_FEED ∷ rest))

-- a text gives no more values than it has bytes
pub few_values : {B W : Type 0} (Means : ℕ → List (List ℕ) → Result B W → Type 0) (text : List ℕ)
    (values : List B) → LinesMean Means text (Ok values) → length values ≤ length text
few_values Means text values h =
    omega (arith, few_lines text h.0 h.1, few_said Means 1 h.0 values h.2)

-- ---- paths

no_nul : (a b c d e : Bool) (n p : Path)
    → (if a then Err Empty else if b then Err PathTooLong else if c then Err HasNul else if not
    d then Err NotAbsolute else if e then Err DotPart else Ok n) ≡ Ok p → (c ≡ false) × (n ≡ p)
no_nul true b c d e n p h = cc
no_nul false true c d e n p h = cc
no_nul false false true d e n p h = cc
no_nul false false false false e n p h = cc
no_nul false false false true true n p h = cc
no_nul false false false true false n p h = (refl, cc)

-- a path that was read is made of names
pub read_names : (bytes : List ℕ) (path : Path) → path_read bytes ≡ Ok path → are_names path ≡ true
read_names bytes path h =
    let t = no_nul (length bytes == 0) (nat_lt 4095 (length bytes)) (list_any (λ b. b == 0) bytes)
    (slice_index bytes 0 == 47) (list_any is_dot_part (path_names bytes)) (path_names bytes)
    path h in
    subst (λ p. are_names p ≡ true) t.1 (names_ok bytes t.0)

-- ---- substitutions

pub subs_read : (text : List ℕ) (subs : List SubValue) → subs_of text ≡ Ok subs
    → (length subs ≤ length text) × AllByRecursion IsNamesSub subs
subs_read text subs h =
    let means = (subs_mean text (Ok subs)).0 h in (
      few_values SubFieldsMean text subs means,
      each_said SubFieldsMean IsNamesSub
          (λ number fields sub (is : IsSub fields sub). (
            read_names is.source sub.source is.source_path,
            read_names is.target sub.target is.target_path,
          )) 1 means.0 subs means.2,
    )

-- ---- specifications

abbrev is : List ℕ → EntryKind → Bool
is text kind = is_kind_name (names_of kind).type_field text

no_other : (a b c d e f g : Bool)
    → cond a (Some Regular) (cond b (Some Directory) (cond c (Some Link) (cond d (Some Pipe)
    (cond e (Some Socket) (cond f (Some Block) (cond g (Some Char) None)))))) ≡ Some Other → ⊥
no_other true b c d e f g h = cc
no_other false true c d e f g h = cc
no_other false false true d e f g h = cc
no_other false false false true e f g h = cc
no_other false false false false true f g h = cc
no_other false false false false false true g h = cc
no_other false false false false false false true h = cc
no_other false false false false false false false h = cc

found_kind : (text : List ℕ) (kind : EntryKind) → field_kind text ≡ Some kind
    → is_spec_kind (Some kind) ≡ true
found_kind text Other h =
    absurd (no_other (is text Regular) (is text Directory) (is text Link) (is text Pipe)
    (is text Socket) (is text Block) (is text Char) h)
found_kind text kind h = refl

kind_named : (type : Option (List ℕ)) (kind : Option EntryKind) → IsKind type kind
    → is_spec_kind kind ≡ true
kind_named None kind h = subst (λ k. is_spec_kind k ≡ true) (sym h) refl
kind_named (Some type) None h = refl
kind_named (Some type) (Some kind) h = found_kind type kind h.1

decided : (field : List ℕ) (decision : Decision) → SpellsDecision field decision
    → IsContextDecision decision
decided field Leave h = tt
decided field (Give context) h = h.parts

spec_read : (part : Part) (number : ℕ) (fields : List (List ℕ)) (spec : SpecValue)
    → IsSpecOf part number fields spec → IsReadSpec spec
spec_read part number fields spec is = record {
  is_spec = record {
    pattern = is.pattern;
    kind = kind_named is.parts.type spec.kind is.kind;
  };
  decision = decided is.parts.context spec.decision is.decision;
}

pub specs_read : (part : Part) (room : ℕ) (text : List ℕ) (specs : List SpecValue)
    → specs_of part room text ≡ Ok specs
    → (length specs ≤ room) × AllByRecursion IsReadSpec specs
specs_read part room text specs h =
    let means = (specs_mean part room text (Ok specs)).0 h in (
      means.1,
      each_said (SpecFieldsMean part) IsReadSpec (spec_read part) 1 means.0.0 specs means.0.2,
    )
