-- Reading the files of policies, one after the other.
use Rattle.std.proofs.Common.{◌≡◌, refl, subst, sym, ℕ, zero, suc, ◌+◌, ◌<◌, ◌≤◌, List, [], ◌∷◌}
use Rattle.std.proofs.Common.{◌++◌, ◌∙◌, ap, ap₂, map, append_assoc, append-nil, drop, get_or}
use Rattle.std.proofs.Common.{length, add-one, arith, inl, inr}
use Rattle.std.specs.Prelude.{Option, Result, Ok, Err}
use Rattle.std.specs.Result.{IsErrAnd}
use Rattle.std.proofs.lemmas.Bool.{cases_lt}
use Rattle.std.proofs.lemmas.List.{at_drop_more, drop_all, map-append}
use Rattle.input_output.specs.Store.{Files}
use Rattle.file_roles.specs.declared.list.NamedFile.{NamedFile}
use Rattle.run_faults.specs.Causes.{CauseCounts, Counts}
use Rattle.run_faults.specs.declared.cause.Cause.{Cause}
use Rattle.run_faults.specs.declared.cause.Cause.TheVariants.{OutOfMemory}
use Rattle.context_syntax.specs.TypeNames.{NameSet}
use Rattle.label_rules.specs.declared.rules.Rules.{Rules}
use Rattle.policy_files.specs.Names.{policy_names}
use Rattle.run_input.specs.Files.{Reads, just, read_on}
use Rattle.run_input.proofs.ReadsLemmas.{all_some, followed, forgotten, no_calls, refused, valued}
use Rattle.policy_rehearsal.specs.Files.{files_named, version_names, policies_below, policy_for}
use Rattle.policy_rehearsal.specs.Files.{with_types}
use Rattle.policy_rehearsal.specs.declared.files.Policy.{Policy}

-- one policy more is read behind those before
more : {S : Type 0} (files : S → Option Files) (calls : S → Option ℕ) (read_faults write_faults : S
    → ℕ) (list : List NamedFile) (k : ℕ) (store mid now : S) (old : List Policy)
    (result : Result (List Policy) Cause)
    → Reads files calls read_faults write_faults (policies_below list k) store mid (Ok old)
    → Reads files calls read_faults write_faults
    (λ fs. read_on (policy_for list k fs) (λ policy. just (Ok (old ++ policy ∷ [])))) mid now
    result
    → Reads files calls read_faults write_faults (policies_below list (k + 1)) store now result
unfolding policies_below
more files calls read_faults write_faults list k store mid now old result before this =
    subst (λ n. Reads files calls read_faults write_faults (policies_below list n) store now result)
    (sym (add-one k))
    (followed files calls read_faults write_faults (policies_below list k) _ store mid now old
    result before this)

-- where one policy is refused, all are
later : {S : Type 0} (files : S → Option Files) (calls : S → Option ℕ) (read_faults write_faults : S
    → ℕ) (list : List NamedFile) (n k : ℕ) (store now : S) (cause : Cause) → k ≤ n
    → Reads files calls read_faults write_faults (policies_below list k) store now (Err cause)
    → Reads files calls read_faults write_faults (policies_below list n) store now (Err cause)
unfolding policies_below
later files calls read_faults write_faults list zero k store now cause l read =
    subst (λ m. Reads files calls read_faults write_faults (policies_below list m) store now
    (Err cause)) {x = k} {y = 0} (omega (arith, l)) read
later files calls read_faults write_faults list (suc n) k store now cause l read =
    elim (cases_lt n k) [
      | inl lt ↦ subst (λ m. Reads files calls read_faults write_faults (policies_below list m)
          store now (Err cause)) {x = k} {y = suc n} (omega (arith, l, lt)) read
      | inr le ↦ refused files calls read_faults write_faults (policies_below list n) _ store now
          cause (Err cause) refl
          (later files calls read_faults write_faults list n k store now cause le read)
    ]

refused_all : {S : Type 0} (files : S → Option Files) (calls : S → Option ℕ)
    (read_faults write_faults : S → ℕ) (list : List NamedFile) (n k : ℕ) (store now : S)
    (cause : Cause) (result : Result (List Policy) Cause) → k ≤ n
    → IsErrAnd result (λ shown. shown ≡ cause)
    → Reads files calls read_faults write_faults (policies_below list k) store now result
    → Reads files calls read_faults write_faults (policies_below list n) store now result
refused_all files calls read_faults write_faults list n k store now cause (Ok policies) l is read =
    absurd is
refused_all files calls read_faults write_faults list n k store now cause (Err shown) l is read =
    later files calls read_faults write_faults list n k store now shown l read

nothing_read : {S : Type 0} (files : S → Option Files) (calls : S → Option ℕ)
    (read_faults write_faults : S → ℕ) (list : List NamedFile) (store : S)
    → Reads files calls read_faults write_faults (policies_below list 0) store store (Ok [])
unfolding policies_below
nothing_read files calls read_faults write_faults list store = record {
  same = refl;
  unwritten = refl;
  gives = all_some (files store) (λ fs. refl);
  opens = all_some (files store) (λ fs. no_calls (calls store));
  counts = refl;
  kinds = tt;
}

pub none_read : {S : Type 0} (files : S → Option Files) (calls : S → Option ℕ)
    (read_faults write_faults : S → ℕ) (list : List NamedFile) (store : S) (none : List Policy)
    → none ≡ []
    → Reads files calls read_faults write_faults (policies_below list 0) store store (Ok none)
none_read files calls read_faults write_faults list store none is =
    subst (λ (ps : List Policy). Reads files calls read_faults write_faults (policies_below list 0)
    store store (Ok ps)) (sym is)
    (nothing_read files calls read_faults write_faults list store)

pub one_read : {S : Type 0} (files : S → Option Files) (calls : S → Option ℕ)
    (read_faults write_faults : S → ℕ) (list : List NamedFile) (k : ℕ) (store mid now : S)
    (old new : List Policy) (policy : Policy)
    → new ≡ old ++ policy ∷ []
    → Reads files calls read_faults write_faults (policies_below list k) store mid (Ok old)
    → Reads files calls read_faults write_faults (policy_for list k) mid now (Ok policy)
    → Reads files calls read_faults write_faults (policies_below list (k + 1)) store now (Ok new)
one_read files calls read_faults write_faults list k store mid now old new policy is before this =
    more files calls read_faults write_faults list k store mid now old (Ok new) before
    (valued files calls read_faults write_faults (policy_for list k) _ mid now policy new this
    (λ fs i. Ok (sym is i)))

pub one_refused : {S : Type 0} (files : S → Option Files) (calls : S → Option ℕ)
    (read_faults write_faults : S → ℕ) (list : List NamedFile) (k n : ℕ) (store mid now : S)
    (old : List Policy) (cause : Cause) (result : Result (List Policy) Cause)
    → k + 1 ≤ n → IsErrAnd result (λ shown. shown ≡ cause)
    → Reads files calls read_faults write_faults (policies_below list k) store mid (Ok old)
    → Reads files calls read_faults write_faults (policy_for list k) mid now (Err cause)
    → Reads files calls read_faults write_faults (policies_below list n) store now result
one_refused files calls read_faults write_faults list k n store mid now old cause result l is before
    this =
    refused_all files calls read_faults write_faults list n (k + 1) store now cause result l is
    (more files calls read_faults write_faults list k store mid now old result before
    (refused files calls read_faults write_faults (policy_for list k) _ mid now cause result is
    this))

pub one_forgotten : {S : Type 0} (files : S → Option Files) (calls : S → Option ℕ)
    (read_faults write_faults : S → ℕ) (list : List NamedFile) (k n : ℕ) (store mid now : S)
    (old : List Policy) (policy : Policy) (result : Result (List Policy) Cause)
    → k + 1 ≤ n → IsErrAnd result (λ shown. shown ≡ OutOfMemory)
    → Reads files calls read_faults write_faults (policies_below list k) store mid (Ok old)
    → Reads files calls read_faults write_faults (policy_for list k) mid now (Ok policy)
    → Reads files calls read_faults write_faults (policies_below list n) store now result
one_forgotten files calls read_faults write_faults list k n store mid now old policy result l is
    before this =
    refused_all files calls read_faults write_faults list n (k + 1) store now OutOfMemory result l
    is
    (more files calls read_faults write_faults list k store mid now old result before
    (forgotten files calls read_faults write_faults (policy_for list k) _ mid now policy result is
    this))

-- ---- types

pub counted_by : {B : Type 0} (cause : Cause) (result : Result B Cause)
    → IsErrAnd result (λ shown. shown ≡ cause)
    → ((count : ℕ) → CauseCounts count count cause) → (count : ℕ) → Counts count count result
counted_by cause (Ok value) is counts = absurd is
counted_by cause (Err shown) is counts = λ count. subst (λ (k : Cause). CauseCounts count count k)
    (sym is) (counts count)

-- one policy more with its types
pub typed_more : (meant : Result NameSet Cause) (before : List Policy) (policy : Policy)
    (own types : NameSet) (old new : List Rules) (made : Rules)
    → meant ≡ Ok own → new ≡ old ++ made ∷ [] → made ≡ with_types own policy
    → (meant ≡ Ok types → old ≡ map (with_types types) before) → meant ≡ Ok types
    → new ≡ map (with_types types) (before ++ policy ∷ [])
typed_more meant before policy own types old new made own_is added made_is so_far is =
    let same : own ≡ types = cc in
    added
    ∙ ap₂ (λ front last. front ++ last ∷ []) (so_far is)
    (made_is ∙ ap (λ (t : NameSet). with_types t policy) same)
    ∙ sym (map-append (with_types types) before (policy ∷ []))

-- ---- names

-- there are files to read
pub some_named : (bases : List (List ℕ)) → files_named bases ≡ [] → ⊥
some_named [] none = absurd cc
some_named (base ∷ bases) none = absurd cc

-- the files of one policy more, of those that are left
pub names_next : (bases : List (List ℕ)) (k version : ℕ) (base name : List ℕ)
    (before now all : List NamedFile) → k < length bases
    → base ≡ get_or bases k base → name ≡ base
    → before ++ version_names version (drop k bases) ≡ all → now ≡ before ++ policy_names version
    name
    → now ++ version_names (version + 1) (drop (k + 1) bases) ≡ all
names_next bases k version base name before now all l is named so_far added =
    let rest = version_names (version + 1) (drop (k + 1) bases) in
    let here : version_names version (drop k bases) ≡ policy_names version name ++ rest =
    at_drop_more (version_names version) bases k base l
    ∙ ap (λ b. policy_names version b ++ rest) (sym is ∙ sym named) in
    ap (λ t. t ++ rest) added ∙ append_assoc before (policy_names version name) rest
    ∙ ap (λ t. before ++ t) (sym here) ∙ so_far

pub names_end : (bases : List (List ℕ)) (k version : ℕ) (before all : List NamedFile)
    → length bases ≤ k
    → before ++ version_names version (drop k bases) ≡ all → before ≡ all
names_end bases k version before all l so_far =
    sym (append-nil before) ∙ ap (λ bs. before ++ version_names version bs)
    (sym (drop_all k bases l)) ∙ so_far
