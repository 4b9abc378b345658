-- What a sample's own files say: the base file is accepted, and the others are absent.
use Rattle.std.proofs.Common.{◌≡◌, ◌∙◌, ap, refl, ℕ, ◌-◌, Bool, true, false, cond, List, [], ◌++◌}
use Rattle.std.proofs.Common.{length, arith}
use Rattle.std.specs.Prelude.{Some, None, IsOk, Result, Ok, Err}
use Rattle.std.specs.FinMap as map
use Rattle.std.specs.FinMap.{get-empty, get-insert}
use Rattle.std.specs.Ordering.{eq_by_cmp, nat_cmp}
use Rattle.std.specs.Cmp.Lexicographic.{slice_cmp, nat_list_cmp_total}
use Rattle.std.proofs.lemmas.Bool.{le-ltb}
use Rattle.input_output.specs.Store.{content}
use Rattle.label_base.specs.declared.lines.LinesWhy.TheVariants.{TooMany}
use Rattle.file_roles.specs.Roles.{role}
use Rattle.file_roles.specs.declared.role.Part.{Part}
use Rattle.file_roles.specs.declared.role.Part.TheVariants.{Base, Homedirs, Local, Subs, SubsDist}
use Rattle.file_roles.specs.declared.role.Part.TheVariants.{Customizable}
use Rattle.context_syntax.specs.TypeNames.{set_of}
use Rattle.spec_reader.specs.SpecLines.{specs_of}
use Rattle.spec_reader.specs.SpecValue.{SpecValue}
use Rattle.spec_order.specs.Order.{in_order}
use Rattle.run_faults.specs.Causes.{and_then}
use Rattle.run_input.specs.Files.{FilesSay, file_bytes, just, part_bytes, part_says, read_on}
use Rattle.policy_files.specs.Files.{customizable_types, version_specs, part_specs, part_subs}
use Rattle.policy_files.specs.Files.{specs_from, subs_for}
use Rattle.policy_files.specs.Rules.{rest_for, rules_for, rules_with}
use Rattle.label_rules.specs.declared.rules.Rules.{Rules}
use Rattle.sample_tree.specs.Plan.{own_files, own_names, own_rules}
use Rattle.sample_tree.specs.declared.records.TheConstants.{SPECS}
use Rattle.sample_tree.specs.declared.tool.TheConstants.{OWN_FILE}
use Rattle.sample_tree.proofs.OwnFile.{specs_ok}

-- ---- the bytes of the files

content_is : (name : List ℕ) (same : Bool) → eq_by_cmp (slice_cmp nat_cmp) name OWN_FILE.now ≡ same
    → content own_files name ≡ cond same (Some SPECS.now) None
content_is name same e =
    get-insert nat_list_cmp_total map.empty OWN_FILE.now SPECS.now name
    ∙ ap (λ b. cond b (Some SPECS.now) (map.get {R = slice_cmp nat_cmp} map.empty name)) e
    ∙ ap (cond same (Some SPECS.now)) (get-empty (slice_cmp nat_cmp) name)

base_bytes : part_bytes own_names (role Base 0) own_files ≡ Ok SPECS.now
unfolding part_bytes
base_bytes = ap (file_bytes own_names (role Base 0)) (content_is OWN_FILE.now true refl)

homedirs_bytes : part_bytes own_names (role Homedirs 0) own_files ≡ Ok []
unfolding part_bytes
homedirs_bytes = ap (file_bytes own_names (role Homedirs 0)) (content_is _ false refl)

local_bytes : part_bytes own_names (role Local 0) own_files ≡ Ok []
unfolding part_bytes
local_bytes = ap (file_bytes own_names (role Local 0)) (content_is _ false refl)

subs_bytes : part_bytes own_names (role Subs 0) own_files ≡ Ok []
unfolding part_bytes
subs_bytes = ap (file_bytes own_names (role Subs 0)) (content_is _ false refl)

dist_bytes : part_bytes own_names (role SubsDist 0) own_files ≡ Ok []
unfolding part_bytes
dist_bytes = ap (file_bytes own_names (role SubsDist 0)) (content_is _ false refl)

types_bytes : part_bytes own_names (role Customizable 0) own_files ≡ Ok []
unfolding part_bytes
types_bytes = ap (file_bytes own_names (role Customizable 0)) (content_is _ false refl)

-- ---- what they say

read_is : {A B : Type 0} (part : FilesSay A) (next : A → FilesSay B) (a : A) (b : B)
    → part.says ≡ Ok a → (next a).says ≡ Ok b → (read_on part next).says ≡ Ok b
unfolding read_on
read_is part next a b first behind = ap (λ said. and_then said (λ value. (next value).says)) first
    ∙ behind

ok_value : {A E : Type 0} (r : Result A E) → IsOk r → (value : A) × (r ≡ Ok value)
ok_value (Ok value) is = (value, refl)
ok_value (Err e) is = cc

-- the specifications of the base file
base_specs : List SpecValue
base_specs = (ok_value (specs_of Base 65536 SPECS.now) specs_ok).0

base_read : specs_of Base 65536 SPECS.now ≡ Ok base_specs
unfolding base_specs
base_read = (ok_value (specs_of Base 65536 SPECS.now) specs_ok).1

nothing_read : (part : Part) (room : ℕ) → specs_from (role part 0) (specs_of part room []) ≡ Ok []
nothing_read part room = ap (λ b. specs_from (role part 0) (cond b (Err TooMany) (Ok [])))
    (le-ltb room 0 (omega arith))

base_says : (part_specs own_names (role Base 0) 65536 own_files).says ≡ Ok base_specs
unfolding part_specs
base_says = read_is (part_says own_names (role Base 0) own_files)
    (λ bytes. just (specs_from (role Base 0) (specs_of Base 65536 bytes))) SPECS.now base_specs
    base_bytes (ap (specs_from (role Base 0)) base_read)

homedirs_say : (room : ℕ) → (part_specs own_names (role Homedirs 0) room own_files).says ≡ Ok []
unfolding part_specs
homedirs_say room = read_is (part_says own_names (role Homedirs 0) own_files)
    (λ bytes. just (specs_from (role Homedirs 0) (specs_of Homedirs room bytes))) [] []
    homedirs_bytes (nothing_read Homedirs room)

local_says : (room : ℕ) → (part_specs own_names (role Local 0) room own_files).says ≡ Ok []
unfolding part_specs
local_says room = read_is (part_says own_names (role Local 0) own_files)
    (λ bytes. just (specs_from (role Local 0) (specs_of Local room bytes))) [] [] local_bytes
    (nothing_read Local room)

subs_say : (part_subs own_names (role Subs 0) own_files).says ≡ Ok []
unfolding part_subs
subs_say = read_is (part_says own_names (role Subs 0) own_files) _ [] [] subs_bytes refl

dist_says : (part_subs own_names (role SubsDist 0) own_files).says ≡ Ok []
unfolding part_subs
dist_says = read_is (part_says own_names (role SubsDist 0) own_files) _ [] [] dist_bytes refl

types_say : (customizable_types own_names own_files).says ≡ Ok (set_of [])
unfolding customizable_types
types_say = read_is (part_says own_names (role Customizable 0) own_files) _ [] (set_of [])
    types_bytes refl

list_says : (version_specs own_names 0 own_files).says ≡ Ok (in_order (base_specs ++ [] ++ []))
unfolding version_specs
list_says = read_is (part_specs own_names (role Base 0) 65536 own_files) _ base_specs _ base_says
    (read_is (part_specs own_names (role Homedirs 0) (65536 - length base_specs) own_files) _ [] _
    (homedirs_say _)
    (read_is (part_specs own_names (role Local 0) (65536 - length base_specs - 0) own_files) _ [] _
    (local_says _) refl))

both_say : (subs_for own_names 0 own_files).says ≡ Ok (record { first = []; second = [] })
unfolding subs_for
both_say = read_is (part_subs own_names (role Subs 0) own_files) _ [] _ subs_say
    (read_is (part_subs own_names (role SubsDist 0) own_files) _ [] _ dist_says refl)

rest_says : (rest_for own_names own_files).says ≡ Ok (record { first = []; second = [] }, set_of [])
unfolding rest_for
rest_says = read_is (subs_for own_names 0 own_files) _ (record { first = []; second = [] }) _
    both_say (read_is (customizable_types own_names own_files) _ (set_of []) _ types_say refl)

-- the rules that a sample's own files give
pub sample_rules : Rules
sample_rules = rules_with (in_order (base_specs ++ [] ++ [])) (record { first = []; second = [] })
    (set_of [])

pub own_say : own_rules.says ≡ Ok sample_rules
unfolding rules_for sample_rules
own_say = read_is (version_specs own_names 0 own_files) _ (in_order (base_specs ++ [] ++ [])) _
    list_says (read_is (rest_for own_names own_files) _
    (record { first = []; second = [] }, set_of []) _ rest_says refl)
