-- The rules of accepted files are what the theorem on skipping asks of rules.
use Rattle.std.proofs.Common.{◌≡◌, ap, refl, subst, ℕ, zero, suc, ◌-◌, ◌≤◌, ◌<◌, ◌^◌}
use Rattle.std.proofs.Common.{Bool, true, false, cond, List, [], ◌∷◌, ◌++◌, length, map, filter}
use Rattle.std.proofs.Common.{length-append, arith}
use Rattle.std.specs.Prelude.{Option, Some, None, Result, Ok, Err, nat_lt}
use Rattle.std.specs.List.{AllByRecursion, list_all}
use Rattle.std.proofs.lemmas.Bool.Decides.{nat_tests}
use Rattle.label_base.specs.declared.lines.LinesWhy.{LinesWhy}
use Rattle.label_base.specs.declared.lines.RefusedLine.{RefusedLine}
use Rattle.input_output.specs.Store.{Files, content}
use Rattle.file_roles.specs.Roles.{may_be_absent, most_bytes, role, role_name}
use Rattle.file_roles.specs.declared.list.NamedFile.{NamedFile}
use Rattle.file_roles.specs.declared.role.FileRole.{FileRole}
use Rattle.file_roles.specs.declared.role.Part.TheVariants.{Base, Homedirs, Local, Subs, SubsDist}
use Rattle.file_roles.specs.declared.role.Part.TheVariants.{Customizable}
use Rattle.context_syntax.specs.Context.{is_word}
use Rattle.context_syntax.specs.TypeNames.{NameSet, names_in_order, types_read}
use Rattle.context_syntax.specs.declared.customizable.NoTypeName.{NoTypeName}
use Rattle.spec_reader.specs.SpecLines.{specs_of}
use Rattle.spec_reader.specs.SpecValue.{SpecValue}
use Rattle.spec_reader.specs.declared.spec_fault.SpecWhy.{SpecWhy}
use Rattle.spec_order.specs.Order.{in_order, is_exact_spec, is_pattern_spec}
use Rattle.spec_order.proofs.OrderLemmas.{length_in_order}
use Rattle.path_subs.specs.Subs.{SubValue}
use Rattle.path_subs.specs.SubLines.{subs_of}
use Rattle.path_subs.specs.declared.sub_fault.NoSub.{NoSub}
use Rattle.path_subs.specs.declared.subs.Subs as both
use Rattle.run_faults.specs.Causes.{and_then}
use Rattle.run_faults.specs.declared.cause.Cause.{Cause}
use Rattle.run_faults.specs.declared.cause.Cause.TheVariants.{Limit}
use Rattle.run_faults.specs.declared.cause.LimitKind.TheVariants.{File}
use Rattle.run_input.specs.Files.{FilesSay, absent, file_bytes, just, part_bytes, part_says}
use Rattle.run_input.specs.Files.{read_on}
use Rattle.dir_digest.specs.Basis.{AreRead, IsReadSpec}
use Rattle.dir_digest.specs.ListingBytes.{AreCountable, IsNamesSub}
use Rattle.policy_files.specs.Files.{part_specs, part_subs, specs_from, subs_for, subs_from}
use Rattle.policy_files.specs.Files.{customizable_types, types_from, version_specs}
use Rattle.policy_files.specs.Rules.{rest_for, rules_for, rules_with}
use Rattle.relabel_core.specs.DigestBasis.{basis_by}
use Rattle.relabel_core.specs.declared.options.Options.{Options}
use Rattle.label_rules.specs.declared.rules.Rules.{Rules}
use Rattle.policy_rehearsal.specs.declared.files.Policy.{Policy}
use Rattle.policy_rehearsal.specs.Files.{policies_below, policy_for, rules_read, with_types}
use Rattle.policy_rehearsal.proofs.AcceptedLines.{specs_read, subs_read}
use Rattle.policy_rehearsal.proofs.AcceptedTypes.{types_are}

-- ---- stages

-- a value behind a stage is that of the next one, for what the stage gave
parted : {A B : Type 0} (stage : Result A Cause) (next : A → Result B Cause) (value : B)
    → and_then stage next ≡ Ok value → (a : A) × (stage ≡ Ok a) × (next a ≡ Ok value)
parted (Ok a) next value h = (a, refl, h)
parted (Err cause) next value h = absurd cc

went_on : {A B : Type 0} (part : FilesSay A) (next : A → FilesSay B) (value : B)
    → (read_on part next).says ≡ Ok value
    → (a : A) × (part.says ≡ Ok a) × ((next a).says ≡ Ok value)
unfolding read_on
went_on part next value h = parted part.says (λ a. (next a).says) value h

-- ---- a file is within its limit

within : (most n : ℕ) → nat_lt most n ≡ false → n ≤ most
within most n h = grind (arith, nat_tests)

few_none : (most : ℕ) (bytes : List ℕ) → ◌≡◌ {A = Result (List ℕ) Cause} (Ok []) (Ok bytes)
    → length bytes ≤ most
few_none most bytes h = let same : [] ≡ bytes = cc in omega (arith, ap length same)

absent_few : (list : List NamedFile) (r : FileRole) (bytes : List ℕ) → absent list r ≡ Ok bytes
    → (may : Bool) → may_be_absent r.part ≡ may → length bytes ≤ most_bytes r.part
absent_few list r bytes h true may = few_none (most_bytes r.part) bytes (rw may at h)
absent_few list r bytes h false may = let e = rw may at h in absurd cc

short_by : (most : ℕ) (bytes found : List ℕ) (cause : Cause) (long : Bool)
    → nat_lt most (length found) ≡ long
    → ◌≡◌ {A = Result (List ℕ) Cause} (cond long (Err cause) (Ok found)) (Ok bytes)
    → length bytes ≤ most
short_by most bytes found cause true is h = absurd cc
short_by most bytes found cause false is h =
    let same : found ≡ bytes = cc in
    subst (λ (bs : List ℕ). length bs ≤ most) same (within most (length found) is)

file_short : (list : List NamedFile) (r : FileRole) (found : Option (List ℕ)) (bytes : List ℕ)
    → file_bytes list r found ≡ Ok bytes → length bytes ≤ most_bytes r.part
file_short list r None bytes h = absent_few list r bytes h (may_be_absent r.part) refl
file_short list r (Some found) bytes h =
    short_by (most_bytes r.part) bytes found (Limit (File r))
    (nat_lt (most_bytes r.part) (length found)) refl h

part_short : (list : List NamedFile) (r : FileRole) (known : Files) (bytes : List ℕ)
    → part_bytes list r known ≡ Ok bytes → length bytes ≤ most_bytes r.part
unfolding part_bytes
part_short list r known bytes h = file_short list r (content known (role_name list r)) bytes h

-- ---- specifications

specs_by : (r : FileRole) (read : Result (List SpecValue) (LinesWhy SpecWhy))
    (specs : List SpecValue) → specs_from r read ≡ Ok specs → read ≡ Ok specs
specs_by r (Ok found) specs h = cc
specs_by r (Err why) specs h = absurd cc

file_specs : (list : List NamedFile) (r : FileRole) (room : ℕ) (known : Files)
    (specs : List SpecValue) → (part_specs list r room known).says ≡ Ok specs
    → (length specs ≤ room) × AllByRecursion IsReadSpec specs
unfolding part_specs
file_specs list r room known specs h =
    let (bytes, says, next) =
    went_on (part_says list r known)
    (λ bytes. just (specs_from r (specs_of r.part room bytes))) specs h in
    specs_read r.part room bytes specs (specs_by r (specs_of r.part room bytes) specs next)

each_more : {A : Type 0} (P : A → Type 0) (xs ys : List A) → AllByRecursion P xs
    → AllByRecursion P ys → AllByRecursion P (xs ++ ys)
each_more P [] ys h k = k
each_more P (x ∷ xs) ys h k = (h.0, each_more P xs ys h.1 k)

kept_step : {A : Type 0} (P : A → Type 0) (x : A) (xs : List A) (b : Bool) → P x
    → AllByRecursion P xs → AllByRecursion P (cond b (x ∷ xs) xs)
kept_step P x xs true a h = (a, h)
kept_step P x xs false a h = h

each_kept : {A : Type 0} (P : A → Type 0) (q : A → Bool) (xs : List A) → AllByRecursion P xs
    → AllByRecursion P (filter q xs)
each_kept P q [] h = tt
each_kept P q (x ∷ xs) h = kept_step P x (filter q xs) (q x) h.0 (each_kept P q xs h.1)

each_ordered : (specs : List SpecValue) → AllByRecursion IsReadSpec specs
    → AllByRecursion IsReadSpec (in_order specs)
each_ordered specs h = each_more IsReadSpec (filter is_pattern_spec specs)
    (filter is_exact_spec specs) (each_kept IsReadSpec is_pattern_spec specs h)
    (each_kept IsReadSpec is_exact_spec specs h)

ordered : (specs : List SpecValue) → length specs < 2 ^ 64 → AllByRecursion IsReadSpec specs
    → AreCountable IsReadSpec (in_order specs)
ordered specs few all = (omega (arith, few, length_in_order specs), each_ordered specs all)

same_ok : {A : Type 0} (a b : A) → ◌≡◌ {A = Result A Cause} (Ok a) (Ok b) → a ≡ b
same_ok a b h = cc

-- the limit of specifications, which isn't public in its crate
abbrev most_specs : ℕ
most_specs = 65536

few_joined : (first home local : List SpecValue) → length first ≤ most_specs
    → length home ≤ most_specs - length first
    → length local ≤ most_specs - length first - length home
    → length (first ++ home ++ local) < 2 ^ 64
few_joined first home local a b c =
    omega (arith, a, b, c, length-append (first ++ home) local, length-append first home)

pub specs_accepted : (list : List NamedFile) (version : ℕ) (known : Files) (specs : List SpecValue)
    → (version_specs list version known).says ≡ Ok specs → AreCountable IsReadSpec specs
unfolding version_specs
specs_accepted list version known specs h =
    let (first, a, h1) =
    went_on (part_specs list (role Base version) most_specs known) _ specs h in
    let (home, b, h2) = went_on
    (part_specs list (role Homedirs version) (most_specs - length first) known) _ specs h1 in
    let (local, c, h3) = went_on (part_specs list (role Local version)
    (most_specs - length first - length home) known) _ specs h2 in
    let all_first = file_specs list (role Base version) most_specs known first a in
    let all_home = file_specs list (role Homedirs version) (most_specs - length first) known home
    b in
    let all_local = file_specs list (role Local version)
    (most_specs - length first - length home) known local c in
    subst (AreCountable IsReadSpec) (same_ok (in_order (first ++ home ++ local)) specs h3)
    (ordered (first ++ home ++ local)
    (few_joined first home local all_first.0 all_home.0 all_local.0)
    (each_more IsReadSpec (first ++ home) local
    (each_more IsReadSpec first home all_first.1 all_home.1) all_local.1))

-- ---- substitutions

subs_by : (r : FileRole) (read : Result (List SubValue) (RefusedLine NoSub)) (subs : List SubValue)
    → subs_from r read ≡ Ok subs → read ≡ Ok subs
subs_by r (Ok found) subs h = cc
subs_by r (Err why) subs h = absurd cc

file_subs : (list : List NamedFile) (r : FileRole) (known : Files) (subs : List SubValue)
    → most_bytes r.part < 2 ^ 64 → (part_subs list r known).says ≡ Ok subs
    → AreCountable IsNamesSub subs
unfolding part_subs
file_subs list r known subs few h =
    let (bytes, says, next) = went_on (part_says list r known)
    (λ bytes. just (subs_from r (subs_of bytes))) subs h in
    let read = subs_read bytes subs (subs_by r (subs_of bytes) subs next) in
    (omega (arith, few, read.0, part_short list r known bytes says), read.1)

record AreSubs (subs : both.Subs) : Type 0 where
  pub first : AreCountable IsNamesSub subs.first
  pub second : AreCountable IsNamesSub subs.second

subs_accepted : (list : List NamedFile) (version : ℕ) (known : Files) (subs : both.Subs)
    → (subs_for list version known).says ≡ Ok subs → AreSubs subs
unfolding subs_for
subs_accepted list version known subs h =
    let (first, a, h1) = went_on (part_subs list (role Subs version) known) _ subs h in
    let (second, b, h2) = went_on (part_subs list (role SubsDist version) known) _ subs h1 in
    subst AreSubs (same_ok (record { first = first; second = second }) subs h2) (record {
      first = file_subs list (role Subs version) known first (omega arith) a;
      second = file_subs list (role SubsDist version) known second (omega arith) b;
    })

-- ---- types

types_by : (read : Result NameSet (RefusedLine NoTypeName)) (types : NameSet)
    → types_from read ≡ Ok types → read ≡ Ok types
types_by (Ok found) types h = cc
types_by (Err why) types h = absurd cc

record AreTypeNames (types : NameSet) : Type 0 where
  pub few : length (names_in_order types) < 2 ^ 64
  pub words : list_all is_word (names_in_order types) ≡ true

types_accepted : (bytes : List ℕ) (types : NameSet) → length bytes < 2 ^ 64
    → types_from (types_read bytes) ≡ Ok types → AreTypeNames types
types_accepted bytes types few h =
    let read = types_are bytes types (types_by (types_read bytes) types h) in
    record { few = omega (arith, few, read.0); words = read.1 }

-- ---- policies

record IsPolicy (policy : Policy) : Type 0 where
  pub specs : AreCountable IsReadSpec policy.specs
  pub subs : AreSubs policy.subs

policy_accepted : (list : List NamedFile) (version : ℕ) (known : Files) (policy : Policy)
    → (policy_for list version known).says ≡ Ok policy → IsPolicy policy
unfolding policy_for
policy_accepted list version known policy h =
    let (specs, a, h1) = went_on (version_specs list version known) _ policy h in
    let (subs, b, h2) = went_on (subs_for list version known) _ policy h1 in
    subst IsPolicy (same_ok (record { specs = specs; subs = subs }) policy h2) (record {
      specs = specs_accepted list version known specs a;
      subs = subs_accepted list version known subs b;
    })

policies_accepted : (list : List NamedFile) (n : ℕ) (known : Files) (policies : List Policy)
    → (policies_below list n known).says ≡ Ok policies → AllByRecursion IsPolicy policies
unfolding policies_below
policies_accepted list zero known policies h =
    subst (AllByRecursion IsPolicy) (same_ok [] policies h) tt
policies_accepted list (suc n) known policies h =
    let (before, a, h1) = went_on (policies_below list n known) _ policies h in
    let (policy, b, h2) = went_on (policy_for list n known) _ policies h1 in
    subst (AllByRecursion IsPolicy) (same_ok (before ++ policy ∷ []) policies h2)
    (each_more IsPolicy before (policy ∷ []) (policies_accepted list n known before a)
    (policy_accepted list n known policy b, tt))

-- what the theorem on skipping asks of rules, whatever the options
abbrev pub IsAccepted : Rules → Type 0
IsAccepted rules = (options : Options) → AreRead (basis_by rules options)

accepted : (specs : List SpecValue) (subs : both.Subs) (types : NameSet)
    → AreCountable IsReadSpec specs → AreSubs subs → AreTypeNames types
    → IsAccepted (rules_with specs subs types)
accepted specs subs types s b t = λ options. record {
  types_few = t.few;
  types = t.words;
  first = b.first;
  second = b.second;
  specs = s;
}

typed : (types : NameSet) (policies : List Policy) → AreTypeNames types
    → AllByRecursion IsPolicy policies → AllByRecursion IsAccepted (map (with_types types) policies)
typed types [] t h = tt
typed types (policy ∷ policies) t h = (
  accepted policy.specs policy.subs types h.0.specs h.0.subs t,
  typed types policies t h.1,
)

-- so are the rules of several policies that were read
pub rules_accepted : (list : List NamedFile) (count : ℕ) (known : Files) (rules : List Rules)
    → (rules_read list count known).says ≡ Ok rules → AllByRecursion IsAccepted rules
unfolding rules_read
rules_accepted list count known rules h =
    let (policies, a, h1) = went_on (policies_below list count known) _ rules h in
    let (bytes, b, h2) = went_on (part_says list (role Customizable 0) known) _ rules h1 in
    let (types, c, h3) = parted (types_from (types_read bytes)) _ rules h2 in
    let short = part_short list (role Customizable 0) known bytes b in
    subst (AllByRecursion IsAccepted) (same_ok (map (with_types types) policies) rules h3)
    (typed types policies (types_accepted bytes types (omega (arith, short)) c)
    (policies_accepted list count known policies a))

-- ---- the only policy of a run

file_types : (list : List NamedFile) (known : Files) (types : NameSet)
    → (customizable_types list known).says ≡ Ok types → AreTypeNames types
unfolding customizable_types
file_types list known types h =
    let (bytes, a, next) = went_on (part_says list (role Customizable 0) known) _ types h in
    let short = part_short list (role Customizable 0) known bytes a in
    types_accepted bytes types (omega (arith, short)) next

rest_accepted : (list : List NamedFile) (known : Files) (rest : both.Subs × NameSet)
    → (rest_for list known).says ≡ Ok rest → AreSubs rest.0 × AreTypeNames rest.1
unfolding rest_for
rest_accepted list known rest h =
    let (subs, a, h1) = went_on (subs_for list 0 known) _ rest h in
    let (types, b, h2) = went_on (customizable_types list known) _ rest h1 in
    subst (λ (r : both.Subs × NameSet). AreSubs r.0 × AreTypeNames r.1)
    (same_ok (subs, types) rest h2)
    (subs_accepted list 0 known subs a, file_types list known types b)

-- so are the rules of one policy that were read
pub policy_rules_accepted : (list : List NamedFile) (known : Files) (rules : Rules)
    → (rules_for list known).says ≡ Ok rules → IsAccepted rules
unfolding rules_for
policy_rules_accepted list known rules h =
    let (specs, a, h1) = went_on (version_specs list 0 known) _ rules h in
    let (rest, b, h2) = went_on (rest_for list known) _ rules h1 in
    let both = rest_accepted list known rest b in
    subst IsAccepted (same_ok (rules_with specs rest.0 rest.1) rules h2)
    (accepted specs rest.0 rest.1 (specs_accepted list 0 known specs a) both.0 both.1)
