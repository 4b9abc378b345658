-- One job more, one entry more, and the work of two.
use Rattle.std.proofs.Common.{◌≡◌, ◌∙◌, sym, refl, ap, subst, ℕ, ◌<◌, ◌⊎◌, inl, inr, Bool, true}
use Rattle.std.proofs.Common.{false, true≢false, List, [], ◌∷◌, ◌++◌, arith}
use Rattle.std.proofs.lemmas.Bool.{cases_eq, cases_lt}
use Rattle.std.proofs.lemmas.List.{map-append}
use Rattle.std.proofs.lemmas.List.Elements.{All-append, All-nil, All-push}
use Rattle.walk_steps.specs.Lists.{times}
use Rattle.walk_steps.proofs.ListLemmas.{hit_other, hit_same, times_append}
use Rattle.inode_claims.specs.declared.rule.Call.{Call}
use Rattle.inode_claims.specs.Claiming.{IsClaimed, call_of, calls_where, is_call_at}
use Rattle.std.specs.Prelude.{Some, not}
use Rattle.std.specs.Cmp.{first_so}
use Rattle.tree_model.specs.Extents.{is_directory}
use Rattle.tree_model.specs.Groups.{group_of}
use Rattle.tree_model.specs.Jobs.{entries_of_job, entry_home, job_directory, job_of}
use Rattle.tree_model.proofs.JobLaws.{directory_back}
use Rattle.relabel_core.specs.Walk.{Walk, walk_count as count_entries, skippable}
use Rattle.relabel_workers.specs.Alone.{IsNoteOf, gives_alone, noted_in}
use Rattle.relabel_workers.specs.Worked.{AddsCall, IsDone, IsHandled, IsOffered, IsRightCall}
use Rattle.relabel_workers.specs.Worked.{given_with, is_to_be_given}
use Rattle.relabel_workers.specs.declared.note.Note.{Note}
use Rattle.relabel_workers.proofs.ListLemmas.{at_call, both_called, call_is, called_times}
use Rattle.relabel_workers.proofs.ListLemmas.{count_append, hit_is, job_held, job_holds, job_once}
use Rattle.relabel_workers.proofs.ListLemmas.{job_times}

-- ---- the parts of a list of two

in_two : (n : ℕ) (xs ys : List ℕ) → 0 < times n (xs ++ ys) → (0 < times n xs) ⊎ (0 < times n ys)
in_two n xs ys h = let a = times_append n xs ys in
    elim (cases_lt 0 (times n xs)) [ inl lt ↦ inl lt | inr ge ↦ inr (omega (arith, a, h, ge)) ]

in_first : (n : ℕ) (xs ys : List ℕ) → 0 < times n xs → 0 < times n (xs ++ ys)
in_first n xs ys h = let a = times_append n xs ys in omega (arith, a, h)

in_second : (n : ℕ) (xs ys : List ℕ) → 0 < times n ys → 0 < times n (xs ++ ys)
in_second n xs ys h = let a = times_append n xs ys in omega (arith, a, h)

noted_two : (e : ℕ) (xs ys : List Note) → 0 < times e (noted_in (xs ++ ys))
    → (0 < times e (noted_in xs)) ⊎ (0 < times e (noted_in ys))
noted_two e xs ys h =
    in_two e (noted_in xs) (noted_in ys)
    (subst (λ l. 0 < times e l) (map-append (λ (n : Note). n.entry) xs ys) h)

noted_first : (e : ℕ) (xs ys : List Note) → 0 < times e (noted_in xs)
    → 0 < times e (noted_in (xs ++ ys))
noted_first e xs ys h = subst (λ l. 0 < times e l) (sym (map-append (λ (n : Note). n.entry) xs ys))
    (in_first e (noted_in xs) (noted_in ys) h)

noted_second : (e : ℕ) (xs ys : List Note) → 0 < times e (noted_in ys)
    → 0 < times e (noted_in (xs ++ ys))
noted_second e xs ys h = subst (λ l. 0 < times e l) (sym (map-append (λ (n : Note). n.entry) xs ys))
    (in_second e (noted_in xs) (noted_in ys) h)

called_two : (g p : ℕ) (xs ys : List Call) → IsClaimed g p (xs ++ ys)
    → IsClaimed g p xs ⊎ IsClaimed g p ys
called_two g p xs ys h =
    let a = count_append (is_call_at g p) xs ys in
    elim (cases_lt 0 (calls_where (is_call_at g p) xs))
    [ inl lt ↦ inl lt | inr ge ↦ inr (omega (arith, a, h, ge)) ]

called_first : (g p : ℕ) (xs ys : List Call) → IsClaimed g p xs → IsClaimed g p (xs ++ ys)
called_first g p xs ys h = let a = count_append (is_call_at g p) xs ys in omega (arith, a, h)

called_second : (g p : ℕ) (xs ys : List Call) → IsClaimed g p ys → IsClaimed g p (xs ++ ys)
called_second g p xs ys h = let a = count_append (is_call_at g p) xs ys in omega (arith, a, h)

-- ---- more of everything

still_right : (w : Walk) (taken more : List ℕ) (g p : ℕ)
    → ((j : ℕ) → 0 < times j taken → 0 < times j more) → IsRightCall w taken g p
    → IsRightCall w more g p
still_right w taken more g p keeps r =
    record {
      known = r.known;
      gives = r.gives;
      own = r.own;
      home = keeps (entry_home w.entries p)
          r.home;
    }

still_handled : (w : Walk) (given more : List ℕ) (calls all : List Call) (noted after : List ℕ)
    (e : ℕ)
    → ((j : ℕ) → 0 < times j given → 0 < times j more)
    → ((g p : ℕ) → IsClaimed g p calls → IsClaimed g p all)
    → ((x : ℕ) → 0 < times x noted → 0 < times x after)
    → IsHandled w given calls noted e → IsHandled w more all after e
still_handled w given more calls all noted after e gives claims notes h = record {
  offered = λ b. gives (job_of w.entries e) (h.offered b);
  claimed = λ b. claims (group_of w.entries e) e (h.claimed b);
  is_noted = notes e h.is_noted;
}

-- ---- a job is taken

pub job_taken : (w : Walk) (job : ℕ) (taken given : List ℕ) (calls : List Call) (notes : List Note)
    → IsDone w [] taken given calls notes → times job taken ≡ 0
    → IsDone w (entries_of_job w.entries job) (taken ++ job ∷ []) given calls notes
job_taken w job taken given calls notes d none = record {
  once = job_once w.entries job;
  held = λ e h. let k = job_held w.entries job e h in
      (k.0, in_second (entry_home w.entries e) taken (job ∷ []) (here e k.1));
  given_are = λ j h. let o = d.given_are j h in record {
    directory = o.directory;
    known = o.known;
    own = o.own;
    to_give = o.to_give;
    gone = apart o.directory o.home;
    home = in_first (entry_home w.entries o.directory) taken (job ∷ []) o.home;
  };
  calls_are = λ g p h. still_right w taken (taken ++ job ∷ []) g p
      (λ j k. in_first j taken (job ∷ []) k) (d.calls_are g p h);
  claimed_each = λ e l g.
      let before = d.claimed_each e l g in
      let here = job_times w.entries job e l in
      let more = times_append (entry_home w.entries e) taken (job ∷ []) in
      omega (arith, before, here, more);
  each = λ e l h. elim (in_two (entry_home w.entries e) taken (job ∷ []) h) [
    | inl old ↦ elim (d.each e l old)
        [ inl some ↦ absurd (omega (arith, some)) | inr done ↦ inr done ]
    | inr new ↦ inl
        (job_holds w.entries job e l
        (sym (hit_is job (entry_home w.entries e) (omega (arith, new)))))
  ];
  notes_are = d.notes_are;
  noted_are = λ e h. let k = d.noted_are e h in
      (k.0, in_first (entry_home w.entries e) taken (job ∷ []) k.1);
}
  where
    here : (e : ℕ) → entry_home w.entries e ≡ job → 0 < times (entry_home w.entries e) (job ∷ [])
    here e s = let z = hit_same job (entry_home w.entries e) (sym s) in omega (arith, z)

    apart : (e : ℕ) → 0 < times (entry_home w.entries e) taken
        → times e (entries_of_job w.entries job) ≡ 0
    apart e h = elim (cases_lt 0 (times e (entries_of_job w.entries job))) [
      | inl lt ↦ absurd (let k = job_held w.entries job e lt in
          let z : times (entry_home w.entries e) taken ≡ 0 = ap (λ j. times j taken) k.1 ∙ none in
          omega (arith, z, h))
      | inr ge ↦ omega (arith, ge)
    ]

-- ---- an entry is done

given_keeps : (b : Bool) (given : List ℕ) (job j : ℕ) → 0 < times j given
    → 0 < times j (given_with b given job)
given_keeps true given job j h = in_first j given (job ∷ []) h
given_keeps false given job j h = h

given_new : (b : Bool) (given : List ℕ) (job j : ℕ) → 0 < times j (given_with b given job)
    → (0 < times j given) ⊎ ((b ≡ true) × (job ≡ j))
given_new true given job j h =
    elim (in_two j given (job ∷ []) h)
    [ inl old ↦ inl old | inr new ↦ inr (refl, hit_is job j (omega (arith, new))) ]
given_new false given job j h = inl h

given_here : (b : Bool) (given : List ℕ) (job : ℕ) → b ≡ true
    → 0 < times job (given_with b given job)
given_here true given job h = in_second job given (job ∷ []) (let z = hit_same job job refl in
    omega (arith, z))
given_here false given job h = absurd (true≢false (sym h))

calls_keep : (b : Bool) (g p : ℕ) (old new : List Call) → AddsCall b g p old new → (h x : ℕ)
    → IsClaimed h x old → IsClaimed h x new
calls_keep true g p old new a h x c =
    subst (λ l. IsClaimed h x l) (sym a.1) (called_first h x old (call_of g p a.0 ∷ []) c)
calls_keep false g p old new a h x c = subst (λ l. IsClaimed h x l) (sym a) c

calls_new : (b : Bool) (g p : ℕ) (old new : List Call) → AddsCall b g p old new → (h x : ℕ)
    → IsClaimed h x new → IsClaimed h x old ⊎ ((b ≡ true) × (g ≡ h) × (p ≡ x))
calls_new true g p old new a h x c =
    elim (called_two h x old (call_of g p a.0 ∷ []) (subst (λ l. IsClaimed h x l) a.1 c)) [
      | inl older ↦ inl older
      | inr one ↦ (let s = call_is g p h x a.0 (omega (arith, one)) in inr (refl, s.0, s.1))
    ]
calls_new false g p old new a h x c = inl (subst (λ l. IsClaimed h x l) a c)

calls_here : (b : Bool) (g p : ℕ) (old new : List Call) → AddsCall b g p old new → b ≡ true
    → IsClaimed g p new
calls_here true g p old new a h =
    subst (λ l. IsClaimed g p l) (sym a.1)
    (called_second g p old (call_of g p a.0 ∷ []) (let z = at_call g p a.0 in omega (arith, z)))
calls_here false g p old new a h = absurd (true≢false (sym h))

-- two directories with one job are one
one_directory : (w : Walk) (d e : ℕ) → d < count_entries w → e < count_entries w
    → is_directory w.entries d ≡ true → is_directory w.entries e ≡ true
    → job_of w.entries d ≡ job_of w.entries e → d ≡ e
one_directory w d e l m f g same =
    let there : Some d ≡ Some e = sym (directory_back w.entries d l f)
    ∙ ap (job_directory w.entries) same ∙ directory_back w.entries e m g in
    cc

-- nothing that was given is the job of an entry that is left
pub not_given : (w : Walk) (e : ℕ) (rest taken given : List ℕ) (calls : List Call)
    (notes : List Note) → IsDone w (e ∷ rest) taken given calls notes
    → is_to_be_given w e ≡ true → times (job_of w.entries e) given ≡ 0
not_given w e rest taken given calls notes d g =
    elim (cases_lt 0 (times (job_of w.entries e) given)) [
      | inl lt ↦ absurd (
          let o = d.given_are (job_of w.entries e) lt in
          let same : o.directory ≡ e = one_directory w o.directory e o.known (d.held e first).0
          (first_so (is_directory w.entries o.directory) (not (skippable w o.directory))
          o.to_give)
          (first_so (is_directory w.entries e) (not (skippable w e)) g) o.own in
          let none : times e (e ∷ rest) ≡ 0 = ap (λ x. times x (e ∷ rest)) (sym same) ∙ o.gone in
          omega (arith, none, first))
      | inr ge ↦ omega (arith, ge)
    ]
  where
    first : 0 < times e (e ∷ rest)
    first = let z = hit_same e e refl in omega (arith, z)

pub entry_done : (w : Walk) (e : ℕ) (rest taken given gives : List ℕ) (calls all : List Call)
    (notes : List Note) (note : Note) → IsDone w (e ∷ rest) taken given calls notes
    → gives ≡ given_with (is_to_be_given w e) given (job_of w.entries e)
    → AddsCall (gives_alone w e) (group_of w.entries e) e calls all → note.entry ≡ e
    → IsNoteOf w note
    → IsDone w rest taken gives all (notes ++ note ∷ [])
entry_done w e rest taken given gives calls all notes note d is a same right = record {
  once = λ x. let o = d.once x in omega (arith, o);
  held = λ x h. d.held x (left x h);
  given_are = λ j h. elim
      (given_new (is_to_be_given w e) given (job_of w.entries e) j
      (subst (λ l. 0 < times j l) is h)) [
        | inl old ↦ (let o = d.given_are j old in record {
          directory = o.directory;
          known = o.known;
          own = o.own;
          to_give = o.to_give;
          gone = (let z = o.gone in omega (arith, z));
          home = o.home;
        })
        | inr new ↦ record {
          directory = e;
          known = (d.held e first).0;
          own = new.1;
          to_give = new.0;
          gone = (let o = d.once e in let z = hit_same e e refl in omega (arith, o, z));
          home = (d.held e first).1;
        }
      ];
  calls_are = λ g p h.
      elim (calls_new (gives_alone w e) (group_of w.entries e) e calls all a g p h) [
        | inl old ↦ d.calls_are g p old
        | inr new ↦ subst (λ x. IsRightCall w taken g x) new.2
            (record {
              known = (d.held e first).0;
              gives = new.0;
              own = new.1;
              home = (d.held e first).1;
            })
      ];
  claimed_each = λ x l g.
      let before = d.claimed_each x l g in
      let more = called_times (gives_alone w e) (group_of w.entries e) e calls all a x
      (λ this. ap (gives_alone w) this ∙ g) in
      omega (arith, before, more);
  each = λ x l t. elim (d.each x l t) [
    | inl some ↦ elim (cases_eq e x) [
      | inl this ↦ inr (subst (λ y. IsHandled w gives all (noted_in (notes ++ note ∷ [])) y) this
          here)
      | inr other ↦ inl (let z = hit_other e x other in omega (arith, some, z))
    ]
    | inr done ↦ inr
        (still_handled w given gives calls all (noted_in notes) (noted_in (notes ++ note ∷ [])) x
        (λ j h. subst (λ l. 0 < times j l) (sym is)
        (given_keeps (is_to_be_given w e) given (job_of w.entries e) j h))
        (calls_keep (gives_alone w e) (group_of w.entries e) e calls all a)
        (λ y h. noted_first y notes (note ∷ []) h) done)
  ];
  notes_are = All-push (IsNoteOf w) notes note d.notes_are right;
  noted_are = λ x h. elim (noted_two x notes (note ∷ []) h) [
    | inl old ↦ d.noted_are x old
    | inr new ↦ d.held x (let s = hit_is note.entry x (omega (arith, new)) in
        let z = hit_same e x (sym same ∙ s) in omega (arith, z))
  ];
}
  where
    first : 0 < times e (e ∷ rest)
    first = let z = hit_same e e refl in omega (arith, z)

    left : (x : ℕ) → 0 < times x rest → 0 < times x (e ∷ rest)
    left x h = omega (arith, h)

    here : IsHandled w gives all (noted_in (notes ++ note ∷ [])) e
    here = record {
      offered = λ b. subst (λ l. 0 < times (job_of w.entries e) l) (sym is)
          (given_here (is_to_be_given w e) given (job_of w.entries e) b);
      claimed = calls_here (gives_alone w e) (group_of w.entries e) e calls all a;
      is_noted = noted_second e notes (note ∷ []) (let z = hit_same note.entry e same in
          omega (arith, z));
    }

-- ---- nothing is done, and the work of two is

pub none_done : (w : Walk) → IsDone w [] [] [] [] []
none_done w = record {
  once = λ e. omega arith;
  held = λ e h. absurd (omega (arith, h));
  given_are = λ j h. absurd (omega (arith, h));
  calls_are = λ g p h. absurd (omega (arith, h));
  claimed_each = λ e l g. omega arith;
  each = λ e l h. absurd (omega (arith, h));
  notes_are = All-nil (IsNoteOf w);
  noted_are = λ e h. absurd (omega (arith, h));
}

pub both_done : (w : Walk) (taken taken' given given' : List ℕ) (calls calls' : List Call)
    (notes notes' : List Note) → IsDone w [] taken given calls notes
    → IsDone w [] taken' given' calls' notes'
    → IsDone w [] (taken ++ taken') (given ++ given') (calls ++ calls') (notes ++ notes')
both_done w taken taken' given given' calls calls' notes notes' a b = record {
  once = λ e. omega arith;
  held = λ e h. absurd (omega (arith, h));
  given_are = λ j h. elim (in_two j given given' h) [
    | inl old ↦ offered taken (λ i k. in_first i taken taken' k) j (a.given_are j old)
    | inr new ↦ offered taken' (λ i k. in_second i taken taken' k) j (b.given_are j new)
  ];
  calls_are = λ g p h. elim (called_two g p calls calls' h) [
    | inl old ↦ still_right w taken (taken ++ taken') g p (λ i k. in_first i taken taken' k)
        (a.calls_are g p old)
    | inr new ↦ still_right w taken' (taken ++ taken') g p (λ i k. in_second i taken taken' k)
        (b.calls_are g p new)
  ];
  claimed_each = λ e l g.
      let old = a.claimed_each e l g in
      let new = b.claimed_each e l g in
      let called = both_called e calls calls' in
      let took = times_append (entry_home w.entries e) taken taken' in
      omega (arith, old, new, called, took);
  each = λ e l h. elim (in_two (entry_home w.entries e) taken taken' h) [
    | inl old ↦ elim (a.each e l old) [
      | inl some ↦ absurd (omega (arith, some))
      | inr done ↦ inr (still_handled w given (given ++ given') calls (calls ++ calls')
          (noted_in notes) (noted_in (notes ++ notes')) e
          (λ j k. in_first j given given' k) (λ g p k. called_first g p calls calls' k)
          (λ x k. noted_first x notes notes' k) done)
    ]
    | inr new ↦ elim (b.each e l new) [
      | inl some ↦ absurd (omega (arith, some))
      | inr done ↦ inr (still_handled w given' (given ++ given') calls' (calls ++ calls')
          (noted_in notes') (noted_in (notes ++ notes')) e
          (λ j k. in_second j given given' k) (λ g p k. called_second g p calls calls' k)
          (λ x k. noted_second x notes notes' k) done)
    ]
  ];
  notes_are = All-append (IsNoteOf w) notes notes' a.notes_are b.notes_are;
  noted_are = λ e h. elim (noted_two e notes notes' h) [
    | inl old ↦ (let k = a.noted_are e old in
        (k.0, in_first (entry_home w.entries e) taken taken' k.1))
    | inr new ↦ (let k = b.noted_are e new in
        (k.0, in_second (entry_home w.entries e) taken taken' k.1))
  ];
}
  where
    offered : (some : List ℕ) → ((i : ℕ) → 0 < times i some → 0 < times i (taken ++ taken'))
        → (j : ℕ) → IsOffered w [] some j → IsOffered w [] (taken ++ taken') j
    offered some keeps j o =
        record {
          directory = o.directory;
          known = o.known;
          own = o.own;
          to_give = o.to_give;
          gone = o.gone;
          home = keeps (entry_home w.entries o.directory) o.home;
        }
