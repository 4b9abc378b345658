-- What is remembered stays right while lists are added and entries are noted.
use Rattle.std.proofs.Common.{◌≡◌, ◌≢◌, ◌∙◌, sym, refl, ap, subst, ℕ, zero, suc, ◌+◌, ◌-◌, ◌*◌, ◌/◌}
use Rattle.std.proofs.Common.{◌%◌, ◌<◌, ◌≤◌, ◌==◌, inl, inr, Bool, true, false, List, [], ◌∷◌, ◌++◌}
use Rattle.std.proofs.Common.{Option, append-nil, length, length-append, length-set, get_or}
use Rattle.std.proofs.Common.{get_or-set_same, get_or-set_other, set, slice_index, replicate}
use Rattle.std.proofs.Common.{eqb-true, eq-eqb, true≢false, arith}
use Rattle.std.proofs.Math.ListN.{get_or-append}
use Rattle.std.proofs.lemmas.List.{get_or_default, get_or_push, length-replicate}
use Rattle.spec_match.proofs.ChainLemmas.{before_or_last}
use Rattle.std.specs.List.{All}
use Rattle.label_base.specs.declared.kind.Asked.{Asked}
use Rattle.label_base.specs.declared.kind.Asked.TheVariants.{Any, Of}
use Rattle.label_base.specs.declared.kind.EntryKind.TheVariants.{Regular, Directory, Link, Pipe}
use Rattle.label_base.specs.declared.kind.EntryKind.TheVariants.{Socket, Block, Char, Other}
use Rattle.pattern_syntax.specs.Tree.{Tree}
use Rattle.spec_reader.specs.SpecValue.{SpecValue}
use Rattle.spec_match.specs.Alive.{Alive, AreAlive, IsOwn, LeadsBy, alive_list}
use Rattle.spec_match.specs.Listed.{IsListed, Stays}
use Rattle.spec_match.specs.Remembering.{AreStaying, CanBeAdded, Kept, HasAnswer, HasStep, IsAnswer}
use Rattle.spec_match.specs.Remembering.{IsGrown, IsListNoted, IsStep, IsTableOf, Remembers}
use Rattle.spec_match.specs.Remembering.{asked_number, asked_numbered, decoded, kept, with_list}
use Rattle.spec_match.specs.Written.{Written}

recalled : (R : ℕ → ℕ → Type 0) (row : List ℕ) (p known : ℕ) → Remembers R row → p < length row
    → known ≡ get_or row p known → 0 < known → R p (known - 1)
recalled R row p known m w e h =
    m.entry p (known - 1) (get_or_default row p 0 known w ∙ sym e ∙ omega (arith, h))

entry_by : (R : ℕ → ℕ → Type 0) (row : List ℕ) (p x q v : ℕ) (same : Bool) → (q == p) ≡ same
    → p < length row → Remembers R row → ((v : ℕ) → x ≡ suc v → R p v) → slice_index (set row p x) q
    ≡ suc v → R q v
entry_by R row p x q v true t w m h e =
    let same : q ≡ p = eqb-true q p t in
    subst (λ k. R k v) (sym same)
    (h v (sym (get_or-set_same row p x 0 w) ∙ ap (λ k. slice_index (set row p x) k) (sym same)
    ∙ e))
entry_by R row p x q v false t w m h e =
    let other : q ≢ p = λ same. true≢false (sym (eq-eqb q p same) ∙ t) in
    m.entry q v (sym (get_or-set_other row p q x 0 other) ∙ e)

noted : (R : ℕ → ℕ → Type 0) (row : List ℕ) (p x : ℕ) → p < length row
    → ((v : ℕ) → x ≡ suc v → R p v) → Remembers R row → Remembers R (set row p x)
noted R row p x w h m = record { entry = λ q v e. entry_by R row p x q v (q == p) refl w m h e }

none_there : (n p : ℕ) → slice_index (replicate n 0) p ≡ 0
none_there zero p = refl
none_there (suc n) zero = refl
none_there (suc n) (suc p) = none_there n p

-- a row behind which nothing is known
longer : (R : ℕ → ℕ → Type 0) (row : List ℕ) (n : ℕ) → Remembers R row
    → Remembers R (row ++ replicate n 0)
longer R row n m = record { entry = λ p v e. m.entry p v (at row p v n e) }
  where
    at : (row : List ℕ) (p v n : ℕ) → slice_index (row ++ replicate n 0) p ≡ suc v
        → slice_index row p ≡ suc v
    at [] p v n e = absurd (omega (arith, e, none_there n p))
    at (x ∷ row) zero v n e = e
    at (x ∷ row) (suc p) v n e = at row p v n e

weaker : (R S : ℕ → ℕ → Type 0) (row : List ℕ) → ((p v : ℕ) → R p v → S p v) → Remembers R row
    → Remembers S row
weaker R S row f m = record { entry = λ p v e. f p v (m.entry p v e) }

list_kept : (old more : List (List Alive)) (i : ℕ) → i < length old → alive_list (old ++ more) i
    ≡ alive_list old i
list_kept old more i l = get_or-append old more [] i l

steps_kept : (IsFor : List ℕ → List Alive → Type 0) (lists : List (List Alive)) (new : List Alive)
    (row : List ℕ) → Remembers (IsStep IsFor lists) row
    → Remembers (IsStep IsFor (lists ++ new ∷ [])) row
steps_kept IsFor lists new row m =
    weaker (IsStep IsFor lists) (IsStep IsFor (lists ++ new ∷ [])) row (λ p v h. record {
      from_within = omega (arith, h.from_within, length-append lists (new ∷ []));
      to_within = omega (arith, h.to_within, length-append lists (new ∷ []));
      leads = rw (
        list_kept lists (new ∷ []) (p / 256) h.from_within,
        list_kept lists (new ∷ [])
            (suc v) h.to_within,
      ) h.leads;
    }) m

answers_kept : (IsFor : List ℕ → List Alive → Type 0) (specs : List SpecValue)
    (lists : List (List Alive)) (new : List Alive) (row : List ℕ)
    → Remembers (IsListNoted IsFor specs lists) row
    → Remembers (IsListNoted IsFor specs (lists ++ new ∷ [])) row
answers_kept IsFor specs lists new row m =
    weaker (IsListNoted IsFor specs lists) (IsListNoted IsFor specs (lists ++ new ∷ [])) row
    (λ p v h. record {
      within = omega (arith, h.within, length-append lists (new ∷ []));
      answer = λ text a. h.answer text
          (subst (λ list. IsFor text list) (list_kept lists (new ∷ []) (p / 9) h.within) a);
    }) m

pub nothing_kept : (ps : List Tree) (specs : List SpecValue) (cuts : Bool)
    → IsTableOf ps specs (kept cuts [] [] [] [])
nothing_kept ps specs cuts = record {
  own = λ i l. absurd (omega (arith, l));
  first = λ l. absurd (omega (arith, l));
  rows = refl;
  answer_rows = refl;
  steps = record { entry = λ p v e. absurd (omega (arith, e)) };
  answers = record { entry = λ p v e. absurd (omega (arith, e)) };
  stays_rows = refl;
  stays = λ i l. absurd (omega (arith, l));
}

own_more : (ps : List Tree) (lists : List (List Alive)) (new : List Alive)
    → ((i : ℕ) → i < length lists → All (IsOwn ps) (alive_list lists i)) → All (IsOwn ps) new
    → (i : ℕ) → i < length (lists ++ new ∷ []) → All (IsOwn ps) (alive_list (lists ++ new ∷ []) i)
own_more ps lists new own this i l =
    elim (before_or_last i (length lists) (omega (arith, l, length-append lists (new ∷ [])))) [
      | inl before ↦ subst (All (IsOwn ps)) (sym (list_kept lists (new ∷ []) i before))
          (own i before)
      | inr here ↦ subst (All (IsOwn ps)) (sym (get_or_push lists new [] i here)) this
    ]

first_more : (ps : List Tree) (lists : List (List Alive)) (new : List Alive)
    → (0 < length lists → AreAlive ps [] (length ps) (alive_list lists 0))
    → (length lists ≡ 0 → AreAlive ps [] (length ps) new)
    → AreAlive ps [] (length ps) (alive_list (lists ++ new ∷ []) 0)
first_more ps [] new first this = this refl
first_more ps (x ∷ lists) new first this = first (omega arith)

stays_more : (IsFor : List ℕ → List Alive → Type 0) (lists : List (List Alive)) (new : List Alive)
    (row : List Bool) → length row ≡ length lists → AreStaying IsFor lists row
    → AreStaying IsFor (lists ++ new ∷ []) (row ++ false ∷ [])
stays_more IsFor lists new row n s i l e =
    elim (before_or_last i (length lists) (omega (arith, l, length-append lists (new ∷ [])))) [
      | inl before ↦ subst (Stays IsFor) (sym (list_kept lists (new ∷ []) i before))
          (s i before (sym (get_or-append row (false ∷ []) false i (omega (arith, n, before))) ∙ e))
      | inr here ↦ absurd (true≢false (sym e ∙ get_or_push row false false i (n ∙ here)))
    ]

pub added : (ps : List Tree) (specs : List SpecValue) (k : Kept) (new : List Alive)
    → IsTableOf ps specs k → All (IsOwn ps) new
    → (length k.lists ≡ 0 → AreAlive ps [] (length ps) new) → IsTableOf ps specs (with_list k new)
added ps specs k new t own first = record {
  own = own_more ps k.lists new t.own own;
  first = λ _. first_more ps k.lists new t.first first;
  rows = omega (
    arith,
    t.rows,
    length-append k.next (replicate 256 0),
    length-append k.lists
        (new ∷ []),
    length-replicate {A = ℕ} 256 0,
  );
  answer_rows =
      omega (
        arith,
        t.answer_rows,
        length-append k.answers (replicate 9 0),
        length-append k.lists
            (new ∷ []),
        length-replicate {A = ℕ} 9 0,
      );
  steps = longer (IsStep (IsListed k.cuts ps specs) (k.lists ++ new ∷ [])) k.next 256
      (steps_kept (IsListed k.cuts ps specs) k.lists new k.next t.steps);
  answers = longer (IsListNoted (IsListed k.cuts ps specs) specs (k.lists ++ new ∷ [])) k.answers 9
      (answers_kept (IsListed k.cuts ps specs) specs k.lists new k.answers t.answers);
  stays_rows =
      omega (
        arith,
        t.stays_rows,
        length-append k.stays (false ∷ []),
        length-append k.lists
            (new ∷ []),
      );
  stays = stays_more (IsListed k.cuts ps specs) k.lists new k.stays t.stays_rows t.stays;
}

pub step_noted : (ps : List Tree) (specs : List SpecValue) (k : Kept) (from byte to : ℕ)
    → IsTableOf ps specs k → from < length k.lists → byte < 256 → to < length k.lists
    → LeadsBy (IsListed k.cuts ps specs) (byte ∷ []) (alive_list k.lists from)
    (alive_list k.lists to)
    → IsTableOf ps specs (kept k.cuts k.lists (set k.next (256 * from + byte) to) k.answers k.stays)
step_noted ps specs k from byte to t f b o leads = record {
  own = t.own;
  first = t.first;
  rows = length-set k.next (256 * from + byte) to ∙ t.rows;
  answer_rows = t.answer_rows;
  steps = noted (IsStep (IsListed k.cuts ps specs) k.lists) k.next (256 * from + byte) to
      (omega (arith, t.rows, f, b)) (λ v e.
      let q : (256 * from + byte) / 256 ≡ from = omega (arith, b) in
      let r : (256 * from + byte) % 256 ≡ byte = omega (arith, b) in
      rw (q, r, ← e) (record { from_within = f; to_within = o; leads = leads })) t.steps;
  answers = t.answers;
  stays_rows = t.stays_rows;
  stays = t.stays;
}

-- what the flag of a list tells
pub stays_shown : (ps : List Tree) (specs : List SpecValue) (k : Kept) (number : ℕ) (flag : Bool)
    → IsTableOf ps specs k → number < length k.lists → flag ≡ get_or k.stays number flag
    → flag ≡ true → Stays (IsListed k.cuts ps specs) (alive_list k.lists number)
stays_shown ps specs k number flag t l e is =
    t.stays number l (get_or_default k.stays number false flag (omega (arith, t.stays_rows, l))
    ∙ sym e ∙ is)

pub step_known : (IsFor : List ℕ → List Alive → Type 0) (lists : List (List Alive)) (next : List ℕ)
    (from byte known : ℕ) → Remembers (IsStep IsFor lists) next → from < length lists → byte < 256
    → length next ≡ 256 * length lists → known ≡ slice_index next (256 * from + byte) → 0 < known
    → HasStep IsFor lists from byte known
step_known IsFor lists next from byte known t f b rows e h =
    let q : (256 * from + byte) / 256 ≡ from = omega (arith, b) in
    let r : (256 * from + byte) % 256 ≡ byte = omega (arith, b) in
    let s : suc (known - 1) ≡ known = omega (arith, h) in
    let p = 256 * from + byte in
    let had : HasStep IsFor lists (p / 256) (p % 256) (suc (known - 1)) =
    t.entry p (known - 1) (sym e ∙ sym s) in
    subst (λ n. HasStep IsFor lists n byte known) q
    (subst (λ n. HasStep IsFor lists (p / 256) n known) r
    (subst (λ n. HasStep IsFor lists (p / 256) (p % 256) n) s had))

asked_back : (asked : Asked) → asked_numbered (asked_number asked) ≡ asked
asked_back Any = refl
asked_back (Of Regular) = refl
asked_back (Of Directory) = refl
asked_back (Of Link) = refl
asked_back (Of Pipe) = refl
asked_back (Of Socket) = refl
asked_back (Of Block) = refl
asked_back (Of Char) = refl
asked_back (Of Other) = refl

pub answer_noted : (ps : List Tree) (specs : List SpecValue) (k : Kept) (list number : ℕ)
    (asked : Asked) (x : ℕ) (found : Option ℕ) → number ≡ asked_number asked → number < 9
    → IsTableOf ps specs k → list < length k.lists
    → ((text : List ℕ) → IsListed k.cuts ps specs text (alive_list k.lists list)
    → IsAnswer asked text specs found) → ((v : ℕ) → x ≡ suc v → found ≡ decoded v)
    → IsTableOf ps specs (kept k.cuts k.lists k.next (set k.answers (9 * list + number) x) k.stays)
answer_noted ps specs k list number asked x found n b t l answer code = record {
  own = t.own;
  first = t.first;
  rows = t.rows;
  answer_rows = length-set k.answers (9 * list + number) x ∙ t.answer_rows;
  steps = t.steps;
  answers = noted (IsListNoted (IsListed k.cuts ps specs) specs k.lists) k.answers
      (9 * list + number) x (omega (arith, t.answer_rows, l, b)) (λ v e.
      let q : (9 * list + number) / 9 ≡ list = omega (arith, b) in
      let r : (9 * list + number) % 9 ≡ number = omega (arith, b) in
      let same : asked ≡ asked_numbered number = sym (asked_back asked)
      ∙ ap asked_numbered (sym n) in
      rw (q, r) (record {
        within = l;
        answer = λ text a. subst
            (λ w. IsAnswer (asked_numbered number) text specs w) (code v e)
            (subst (λ w. IsAnswer w text specs found) same (answer text a));
      })) t.answers;
  stays_rows = t.stays_rows;
  stays = t.stays;
}

pub answer_recalled : (ps : List Tree) (specs : List SpecValue) (k : Kept) (list number : ℕ)
    (asked : Asked) (known : ℕ) → number ≡ asked_number asked → number < 9 → IsTableOf ps specs k
    → list < length k.lists → known ≡ get_or k.answers (9 * list + number) known → 0 < known
    → (text : List ℕ) → IsListed k.cuts ps specs text (alive_list k.lists list)
    → IsAnswer asked text specs (decoded (known - 1))
answer_recalled ps specs k list number asked known n b t l e h text a =
    let q : (9 * list + number) / 9 ≡ list = omega (arith, b) in
    let r : (9 * list + number) % 9 ≡ number = omega (arith, b) in
    let p = 9 * list + number in
    let Is : ℕ → ℕ → Type 0 = λ i n. HasAnswer (IsListed k.cuts ps specs) specs k.lists i n
    (known - 1) in
    let there : Is (p / 9) (p % 9) = recalled (IsListNoted (IsListed k.cuts ps specs) specs k.lists)
    k.answers p known t.answers (omega (arith, t.answer_rows, l, b)) e h in
    let had = subst (λ n. Is n number) q (subst (λ n. Is (p / 9) n) r there) in
    subst (λ w. IsAnswer w text specs (decoded (known - 1)))
    (ap asked_numbered n ∙ asked_back asked) (had.answer text a)

pub grown_by : (old new : List (List Alive)) (i : ℕ) → IsGrown old new → i < length old
    → alive_list new i ≡ alive_list old i
grown_by old new i g l = ap (λ ls. alive_list ls i) g.1 ∙ list_kept old g.0 i l

pub grown_longer : (old new : List (List Alive)) → IsGrown old new → length old ≤ length new
grown_longer old new g =
    omega (arith, ap (λ (ls : List (List Alive)). length ls) g.1, length-append old g.0)

-- where there is a list, whatever members are own may become another
pub can_be_added : (ps : List Tree) (w : Written) → All (IsOwn ps) w.draft → 0 < length w.lists
    → CanBeAdded ps w
can_be_added ps w own some =
    record { own = own; first = λ none. absurd (omega (arith, none, some)) }

-- the list that was added last
pub added_last : (old new : List (List Alive)) (list : List Alive) (number : ℕ)
    → new ≡ old ++ list ∷ [] → number ≡ length old → (number < length new)
    × (alive_list new number ≡ list)
added_last old new list number e n = (
  omega (arith, n, ap (λ (ls : List (List Alive)). length ls) e, length-append old (list ∷ [])),
  ap (λ ls. alive_list ls number) e ∙ get_or_push old list [] number (sym n),
)

-- where what is kept is as it was, so is all that is known of it
pub kept_same : (ps : List Tree) (specs : List SpecValue) (old new : Kept) → new ≡ old
    → IsTableOf ps specs old → 0 < length old.lists → IsTableOf ps specs new
    × (0 < length new.lists) × IsGrown old.lists new.lists
kept_same ps specs old new e t some = (
  subst (IsTableOf ps specs) (sym e) t,
  subst (λ (k : Kept). 0 < length k.lists) (sym e) some,
  ([], ap (λ (k : Kept). k.lists) e ∙ sym (append-nil old.lists)),
)
