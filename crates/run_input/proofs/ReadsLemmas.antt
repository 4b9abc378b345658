-- What is left where parts of the files are read one after the other.
use Rattle.std.specs.Prelude.{ℕ, zero, suc, ◌+◌, ◌≤◌, List, Option, Some, None, Result, Ok, Err}
use Rattle.std.specs.Prelude.{IfErr, IfSome}
use Rattle.std.proofs.Common.{◌≡◌, ◌∙◌, refl, subst, sym, ap, arith}
use Rattle.std.specs.Result.{IsErrAnd}
use Rattle.input_output.specs.Source.{next_count}
use Rattle.input_output.specs.Store.{Calls, Files, calls_after}
use Rattle.run_faults.specs.Causes.{Counts, Explained, Gives, IsFileCause, and_then}
use Rattle.run_faults.specs.declared.cause.Cause.{Cause}
use Rattle.run_faults.specs.declared.cause.Cause.TheVariants.{OutOfMemory, ReadFault}
use Rattle.run_input.specs.Files.{CallsUpTo, CauseOpens, FilesSay, OpensFile, Reads, just}
use Rattle.run_input.specs.Files.{opened_next, read_on}

pub all_some : {A : Type 0} {Q : A → Type 0} (found : Option A) → ((x : A) → Q x) → IfSome found Q
all_some None each = tt
all_some (Some x) each = each x

-- an explained cause goes through what follows
pub explained_next : {A B : Type 0} (meant : Result A Cause) (next : A → Result B Cause)
    (cause : Cause) → Explained meant cause → Explained (and_then meant next) cause
explained_next meant next ReadFault shown = tt
explained_next meant next OutOfMemory shown = tt
explained_next meant next cause shown = ap (λ r. and_then r next) shown

-- ---- calls, one after the other

begun : (n : ℕ) → n ≡ 0 + n
begun n = omega arith

one_more : (first second : ℕ) → suc (first + second) ≡ suc first + second
one_more first second = omega arith

after_both : (count first second : ℕ) → calls_after (calls_after count first) second ≡ calls_after
    count (first + second)
after_both count zero second = ap (calls_after count) (begun second)
after_both count (suc first) second = after_both (next_count count) first second
    ∙ ap (calls_after count) (one_more first second)

pub calls_on : (old mid now : Option ℕ) (first second : ℕ) → Calls old mid first
    → Calls mid now second → Calls old now (first + second)
calls_on None mid now first second one two = tt
calls_on (Some count) None now first second one two = absurd (cc)
calls_on (Some count) (Some between) now first second one two =
    let same : between ≡ calls_after count first = cc in
    two ∙ ap (λ (n : ℕ). Some (calls_after n second)) same ∙ ap Some (after_both count first second)

pub no_calls : (old : Option ℕ) → Calls old old 0
no_calls None = tt
no_calls (Some count) = refl

up_to_on : (old mid now : Option ℕ) (first second : ℕ) → Calls old mid first
    → CallsUpTo mid now second → CallsUpTo old now (first + second)
up_to_on old mid now first second one two =
    (first + two.0, omega (arith, two.1), calls_on old mid now first two.0 one two.2)

pub up_to_more : (old now : Option ℕ) (most more : ℕ) → most ≤ more → CallsUpTo old now most
    → CallsUpTo old now more
up_to_more old now most more later made = (made.0, omega (arith, later, made.1), made.2)

cause_on : (old mid now : Option ℕ) (first second : ℕ) (cause : Cause) → Calls old mid first
    → CauseOpens mid now second cause → CauseOpens old now (first + second) cause
cause_on old mid now first second ReadFault one two = up_to_on old mid now first second one two
cause_on old mid now first second OutOfMemory one two = up_to_on old mid now first second one two
cause_on old mid now first second cause one two = calls_on old mid now first second one two

opens_on : {V : Type 0} (old mid now : Option ℕ) (first second : ℕ) (result : Result V Cause)
    → Calls old mid first → OpensFile mid now second result → OpensFile old now (first + second)
    result
opens_on old mid now first second (Ok value) one two = calls_on old mid now first second one two
opens_on old mid now first second (Err cause) one two =
    cause_on old mid now first second cause one two

-- one file was opened
pub opens_one : {V : Type 0} (old now : Option ℕ) (result : Result V Cause) → Calls old now 1
    → OpensFile old now 1 result
opens_one old now (Ok value) made = made
opens_one old now (Err ReadFault) made = (1, omega arith, made)
opens_one old now (Err OutOfMemory) made = (1, omega arith, made)
opens_one old now (Err cause) made = made

-- no file was
pub opens_none : {V : Type 0} (old : Option ℕ) (result : Result V Cause)
    → OpensFile old old 0 result
opens_none old (Ok value) = no_calls old
opens_none old (Err ReadFault) = (0, omega arith, no_calls old)
opens_none old (Err OutOfMemory) = (0, omega arith, no_calls old)
opens_none old (Err cause) = no_calls old

-- ---- a part, and what is read behind it

same_sum : (n : ℕ) → n ≡ n + 0
same_sum n = omega arith

-- a part that is refused opens no further file
opened_refused : {A B : Type 0} (part : FilesSay A) (next : A → FilesSay B) (cause : Cause)
    → part.says ≡ Err cause → part.opened ≡ (read_on part next).opened
unfolding read_on
opened_refused {A} part next cause is =
    same_sum part.opened
    ∙ ap (λ (r : Result A Cause). part.opened + opened_next r (λ value. (next value).opened))
    (sym is)

opened_more : {A B : Type 0} (part : FilesSay A) (next : A → FilesSay B)
    → part.opened ≤ (read_on part next).opened
unfolding read_on
opened_more part next = omega arith

opened_followed : {A B : Type 0} (part : FilesSay A) (next : A → FilesSay B) (value : A)
    → part.says ≡ Ok value → part.opened + (next value).opened ≡ (read_on part next).opened
unfolding read_on
opened_followed {A} part next value is =
    ap (λ (r : Result A Cause). part.opened + opened_next r (λ v. (next v).opened)) (sym is)

opens_refused : {A B : Type 0} (part : FilesSay A) (next : A → FilesSay B) (old now : Option ℕ)
    (cause : Cause) → Explained part.says cause → CauseOpens old now part.opened cause
    → CauseOpens old now (read_on part next).opened cause
opens_refused part next old now ReadFault explained opens =
    up_to_more old now _ _ (opened_more part next) opens
opens_refused part next old now OutOfMemory explained opens =
    up_to_more old now _ _ (opened_more part next) opens
opens_refused part next old now cause explained opens =
    subst (Calls old now) (opened_refused part next cause explained) opens

gives_refused : {A B : Type 0} (part : FilesSay A) (next : A → FilesSay B) (cause : Cause)
    → Explained part.says cause → Explained (read_on part next).says cause
unfolding read_on
gives_refused part next cause given = explained_next part.says (λ value. (next value).says) cause
    given

gives_followed : {A B : Type 0} (part : FilesSay A) (next : A → FilesSay B) (value : A)
    (result : Result B Cause) → part.says ≡ Ok value → Gives (next value).says result
    → Gives (read_on part next).says result
unfolding read_on
gives_followed {A} part next value result is gives =
    subst (λ (r : Result A Cause). Gives (and_then r (λ v. (next v).says)) result) (sym is) gives

each_some : {A : Type 0} {P Q : A → Type 0} (found : Option A) → ((x : A) → P x → Q x)
    → IfSome found P → IfSome found Q
each_some None each held = held
each_some (Some x) each held = each x held

both_some : {A : Type 0} {P Q R : A → Type 0} (found : Option A) → ((x : A) → P x → Q x → R x)
    → IfSome found P → IfSome found Q → IfSome found R
both_some None each first second = first
both_some (Some x) each first second = each x first second

three_some : {A : Type 0} {P Q R T : A → Type 0} (found : Option A)
    → ((x : A) → P x → Q x → R x → T x) → IfSome found P → IfSome found Q → IfSome found R
    → IfSome found T
three_some None each first second third = first
three_some (Some x) each first second third = each x first second third

module _ {S : Type 0} (files : S → Option Files) (calls : S → Option ℕ)
    (read_faults write_faults : S → ℕ) where
  -- a part that is refused
  pub refused : {A B : Type 0} (meant : Files → FilesSay A) (next : Files → A → FilesSay B)
      (store now : S) (cause : Cause) (result : Result B Cause)
      → IsErrAnd result (λ shown. shown ≡ cause)
      → Reads files calls read_faults write_faults meant store now (Err cause)
      → Reads files calls read_faults write_faults (λ fs. read_on (meant fs) (next fs)) store
      now result
  refused meant next store now cause (Ok value) is read = absurd is
  refused meant next store now cause (Err shown) is read =
      let meant_too : Reads files calls read_faults write_faults
      (λ fs. read_on (meant fs) (next fs)) store now (Err cause) = record {
        same = read.same;
        unwritten = read.unwritten;
        gives = each_some (files store) (λ fs. gives_refused (meant fs) (next fs) cause) read.gives;
        opens = both_some (files store)
            (λ fs. opens_refused (meant fs) (next fs) (calls store) (calls now) cause) read.gives
            read.opens;
        counts = read.counts;
        kinds = read.kinds;
      } in
      subst (λ (k : Cause). Reads files calls read_faults write_faults
      (λ fs. read_on (meant fs) (next fs)) store now (Err k)) (sym is) meant_too

  -- a part, and what is read behind it
  pub followed : {A B : Type 0} (meant : Files → FilesSay A) (next : Files → A → FilesSay B)
      (store mid now : S) (a : A) (result : Result B Cause)
      → Reads files calls read_faults write_faults meant store mid (Ok a)
      → Reads files calls read_faults write_faults (λ fs. next fs a) mid now result
      → Reads files calls read_faults write_faults (λ fs. read_on (meant fs) (next fs)) store now
      result
  followed meant next store mid now a result first second = record {
    same = second.same ∙ first.same;
    unwritten = second.unwritten ∙ first.unwritten;
    gives = both_some (files store) (λ fs. gives_followed (meant fs) (next fs) a result) first.gives
        (subst (λ shown. IfSome shown (λ fs. Gives (next fs a).says result)) first.same
        second.gives);
    opens = three_some (files store)
        (λ fs is one two. subst (λ (n : ℕ). OpensFile (calls store) (calls now) n result)
        (opened_followed (meant fs) (next fs) a is)
        (opens_on (calls store) (calls mid) (calls now) (meant fs).opened (next fs a).opened result
        one two))
        first.gives first.opens
        (subst (λ shown. IfSome shown
        (λ fs. OpensFile (calls mid) (calls now) (next fs a).opened result)) first.same
        second.opens);
    counts = subst (λ n. Counts n (read_faults now) result) first.counts second.counts;
    kinds = second.kinds;
  }

  -- a part, and what is made of it
  pub ended : {A B : Type 0} (meant : Files → FilesSay A) (next : Files → A → Result B Cause)
      (store now : S) (a : A) (result : Result B Cause) → Reads files calls read_faults write_faults
      meant store now (Ok a)
      → ((fs : Files) → Gives (next fs a) result) → ((count : ℕ) → Counts count count result)
      → IfErr result IsFileCause
      → Reads files calls read_faults write_faults
      (λ fs. read_on (meant fs) (λ value. just (next fs value))) store now result
  ended meant next store now a result first gives uncounted kinds =
      followed meant (λ fs value. just (next fs value)) store now now a result first (record {
        same = refl;
        unwritten = refl;
        gives = all_some (files now) gives;
        opens = all_some (files now) (λ fs. opens_none (calls now) result);
        counts = uncounted (read_faults now);
        kinds = kinds;
      })

  pub valued : {A B : Type 0} (meant : Files → FilesSay A) (next : Files → A → Result B Cause)
      (store now : S) (a : A) (b : B) → Reads files calls read_faults write_faults meant store now
      (Ok a)
      → ((fs : Files) → next fs a ≡ Ok b) → Reads files calls read_faults write_faults
      (λ fs. read_on (meant fs) (λ value. just (next fs value))) store now (Ok b)
  valued meant next store now a b first is =
      ended meant next store now a (Ok b) first is (λ count. refl) tt

  -- no memory for what is made of a part
  pub forgotten : {A B : Type 0} (meant : Files → FilesSay A) (next : Files → A → Result B Cause)
      (store now : S) (a : A) (result : Result B Cause)
      → IsErrAnd result (λ shown. shown ≡ OutOfMemory)
      → Reads files calls read_faults write_faults meant store now (Ok a)
      → Reads files calls read_faults write_faults
      (λ fs. read_on (meant fs) (λ value. just (next fs value))) store now result
  forgotten meant next store now a (Ok value) is first = absurd is
  forgotten meant next store now a (Err shown) is first =
      subst (λ (k : Cause). Reads files calls read_faults write_faults
      (λ fs. read_on (meant fs) (λ value. just (next fs value))) store now (Err k)) (sym is)
      (ended meant next store now a (Err OutOfMemory) first (λ fs. tt) (λ count. refl) tt)

  -- one file
  pub opened_one : (meant : Files → Result (List ℕ) Cause) (store now : S)
      (result : Result (List ℕ) Cause) → files now ≡ files store
      → write_faults now ≡ write_faults store
      → IfSome (files store) (λ fs. Gives (meant fs) result) → Calls (calls store) (calls now) 1
      → Counts (read_faults store) (read_faults now) result → IfErr result IsFileCause
      → Reads files calls read_faults write_faults (λ fs. record { opened = 1; says = meant fs })
      store now result
  opened_one meant store now result same unwritten gives made counts kinds = record {
    same = same;
    unwritten = unwritten;
    gives = gives;
    opens = all_some (files store) (λ fs. opens_one (calls store) (calls now) result made);
    counts = counts;
    kinds = kinds;
  }
