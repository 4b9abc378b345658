-- What passes show, and what share hold, after a step.
use Rattle.std.proofs.Common.{◌≡◌, ◌∙◌, sym, refl, ap, subst, ℕ, ◌+◌, ◌<◌, ◌≤◌, true, false, List}
use Rattle.std.proofs.Common.{[], ◌∷◌, ◌++◌, ◌-◌, ◌^◌, length, map, min, Bool, Some, arith}
use Rattle.std.proofs.Common.{length-append}
use mir.Val.{bool_byte}
use Rattle.std.specs.Prelude.{IfOk, filter, not}
use Rattle.std.specs.Prelude.{Result, Ok, Err}
use Rattle.std.specs.Cmp.{first_so}
use Rattle.std.proofs.lemmas.List.{length-map}
use Rattle.std.proofs.lemmas.List.Elements.{All-pop}
use Rattle.walk_steps.specs.Lists.{times}
use Rattle.walk_steps.specs.declared.shape.Shape.{Shape}
use Rattle.walk_steps.proofs.ListLemmas.{hit_same}
use Rattle.inode_claims.specs.declared.claims.ClaimPass.{ClaimPass}
use Rattle.inode_claims.specs.declared.rule.ClaimView.{ClaimView}
use Rattle.inode_claims.specs.Claiming as claiming
use Rattle.inode_claims.specs.Answers.{IsPassOf, claim_view}
use Rattle.dir_queue.specs.declared.queue.QueuePass.{QueuePass}
use Rattle.dir_queue.specs.declared.rule.QueueView.{QueueView}
use Rattle.dir_queue.specs.Passes as passes
use Rattle.dir_queue.specs.Passes.{MayOffer, parent_in, with_taken}
use Rattle.dir_queue.specs.Answers.{IsQueuePassOf, passes_of_queue, queue_view, queue_shape}
use Rattle.find_records.specs.Record.{Record}
use Rattle.tree_model.specs.Extents.{is_directory}
use Rattle.tree_model.specs.Tree.{ByPath}
use Rattle.tree_model.specs.Groups.{group_of}
use Rattle.tree_model.specs.Jobs as jobs
use Rattle.tree_model.specs.Jobs.{directories_in, entries_of_job, entry_home, job_of}
use Rattle.relabel_core.specs.Walk.{Walk, walk_count, skippable}
use Rattle.relabel_workers.specs.Alone.{IsNoteOf, decided_alone, gives_alone}
use Rattle.relabel_workers.specs.Held.{AreFreshPasses, Common, HasHandWorked, HasWorked}
use Rattle.relabel_workers.specs.Held.{IsHandReady, IsReady}
use Rattle.relabel_workers.specs.Held.{StandFor, claims_stand, queue_stands}
use Rattle.relabel_workers.specs.Worked.{AddsCall, IsDone, given_with, is_to_be_given}
use Rattle.relabel_workers.specs.Worked.{jobs_given}
use Rattle.relabel_workers.specs.declared.share.Share.{Share}
use Rattle.relabel_workers.specs.declared.share.Hand.{Hand}
use Rattle.relabel_workers.specs.declared.note.Note.{Note}
use Rattle.relabel_workers.proofs.EndLemmas.{job_within, parent_home}
use Rattle.relabel_workers.proofs.ListLemmas.{held_few, passes_on, passing_few}
use Rattle.relabel_workers.proofs.WorkedLemmas.{both_done, entry_done, job_taken, none_done}
use Rattle.relabel_workers.proofs.WorkedLemmas.{not_given}

-- ---- rows of passes

module _ (s : Common) (qs ps : List QueuePass) (cs ds : List ClaimPass) (q : QueuePass)
    (c : ClaimPass) (rows : AreFreshPasses s qs cs)
    (one : qs ≡ ps ++ q ∷ []) (two : cs ≡ ds ++ c ∷ []) where
  pub rows_left : AreFreshPasses s ps ds
  rows_left = record {
    paired = (let a = rows.paired in let b = ap length one in let d = ap length two in
        let e = length-append ps (q ∷ []) in let f = length-append ds (c ∷ []) in
        omega (arith, a, b, d, e, f));
    queues = (All-pop (λ p. IsQueuePassOf s.queue p
        × (queue_view p ≡ passes.fresh_queue (queue_shape s.queue).parents (passes_of_queue s.queue)
        1))
        qs ps (Some q) one rows.queues).0;
    claimers = (All-pop (λ p. IsPassOf s.claims p × (claim_view p ≡ claiming.fresh_claims 1)) cs ds
        (Some c) two rows.claimers).0;
  }

  pub queue_next : IsQueuePassOf s.queue q
      × (queue_view q ≡ passes.fresh_queue (queue_shape s.queue).parents (passes_of_queue s.queue)
      1)
  queue_next =
      (All-pop (λ p. IsQueuePassOf s.queue p
      × (queue_view p ≡ passes.fresh_queue (queue_shape s.queue).parents (passes_of_queue s.queue)
      1))
      qs ps (Some q) one rows.queues).1

  pub claim_next : IsPassOf s.claims c × (claim_view c ≡ claiming.fresh_claims 1)
  claim_next =
      (All-pop (λ p. IsPassOf s.claims p × (claim_view p ≡ claiming.fresh_claims 1)) cs ds (Some c)
      two rows.claimers).1

-- as many passes of the one kind as of the other
pub none_or_both : (s : Common) (qs ps : List QueuePass) (cs : List ClaimPass) (q : QueuePass)
    → AreFreshPasses s qs cs → qs ≡ ps ++ q ∷ []
    → cs ≡ [] → ⊥
none_or_both s qs ps cs q rows one two =
    let a = rows.paired in
    let b = ap length one in
    let d = ap length two in
    let e = length-append ps (q ∷ []) in
    omega (arith, a, b, d, e)

-- ---- share

abbrev IsDoneBy : Walk → List ℕ → QueueView → ClaimView → List Note → Type 0
IsDoneBy w left q k notes = IsDone w left q.taken q.given k.calls notes

-- with other views and notes that are the same
pub same_done : (w : Walk) (left : List ℕ) (q r : QueueView) (k l : ClaimView) (m n : List Note)
    → q ≡ r → k ≡ l → m ≡ n → IsDoneBy w left q k m → IsDoneBy w left r l n
same_done w left q r k l m n a b c d =
    subst (λ x. IsDoneBy w left r l x) c
    (subst (λ x. IsDoneBy w left r x m) b (subst (λ x. IsDoneBy w left x k m) a d))

pub fresh_done : (w : Walk) (q : QueueView) (k : ClaimView) (notes : List Note) (parents : List ℕ)
    (n i j : ℕ) → q ≡ passes.fresh_queue parents n i → k ≡ claiming.fresh_claims j → notes ≡ []
    → IsDone w [] q.taken q.given k.calls notes
fresh_done w q k notes parents n i j a b c = same_done w [] (passes.fresh_queue parents n i) q
    (claiming.fresh_claims j) k [] notes (sym a) (sym b) (sym c) (none_done w)

pub joined_done : (w : Walk) (q q' r : QueueView) (k k' l : ClaimView) (m m' n : List Note)
    → r ≡ passes.queues_joined q q' → l ≡ claiming.claims_joined k k' → n ≡ m ++ m'
    → IsDone w [] q.taken q.given k.calls m → IsDone w [] q'.taken q'.given k'.calls m'
    → IsDone w [] r.taken r.given l.calls n
joined_done w q q' r k k' l m m' n a b c d e =
    same_done w [] (passes.queues_joined q q') r (claiming.claims_joined k k') l (m ++ m') n (sym a)
    (sym b) (sym c)
    (both_done w q.taken q'.taken q.given q'.given k.calls k'.calls m m' d e)

-- ---- one entry

pub skips_at : (w : Walk) (note : Note) (e : ℕ) → note.entry ≡ e → IsNoteOf w note
    → note.finding.skippable ≡ skippable w e
skips_at w note e same n = n.skips_is ∙ ap (skippable w) same

pub decided_at : (w : Walk) (note : Note) (e : ℕ) → note.entry ≡ e → IsNoteOf w note
    → note.decided ≡ decided_alone w e
decided_at w note e same n = n.decided_is ∙ ap (decided_alone w) same

pub entry_added : (w : Walk) (e : ℕ) (rest : List ℕ) (q r : QueueView) (k l : ClaimView)
    (m n : List Note) (note : Note) → r.taken ≡ q.taken
    → r.given ≡ given_with (is_to_be_given w e) q.given (job_of w.entries e)
    → AddsCall (gives_alone w e) (group_of w.entries e) e k.calls l.calls → n ≡ m ++ note ∷ []
    → note.entry ≡ e → IsNoteOf w note → IsDone w (e ∷ rest) q.taken q.given k.calls m
    → IsDone w rest r.taken r.given l.calls n
entry_added w e rest q r k l m n note took gave called more same right d =
    subst (λ x. IsDone w rest x r.given l.calls n) (sym took)
    (subst (λ x. IsDone w rest q.taken r.given l.calls x) (sym more)
    (entry_done w e rest q.taken q.given r.given k.calls l.calls m note d gave called same
    right))

-- what is known of the first entry that is left
pub first_left : (w : Walk) (left : List ℕ) (e : ℕ) (rest : List ℕ) (q : QueueView) (k : ClaimView)
    (notes : List Note) → left ≡ e ∷ rest → IsDone w left q.taken q.given k.calls notes
    → (e < walk_count w) × (0 < times (entry_home w.entries e) q.taken)
    × (is_to_be_given w e ≡ true → times (job_of w.entries e) q.given ≡ 0)
first_left w left e rest q k notes is d =
    let t : IsDone w (e ∷ rest) q.taken q.given k.calls notes =
    subst (λ l. IsDone w l q.taken q.given k.calls notes) is d in
    let h = t.held e (let z = hit_same e e refl in omega (arith, z)) in
    (h.0, h.1, λ g. not_given w e rest q.taken q.given k.calls notes t g)

-- and what is done is that all but it and the rest is
pub next_done : (w : Walk) (left : List ℕ) (e : ℕ) (rest : List ℕ) (q : QueueView) (k : ClaimView)
    (notes : List Note) → left ≡ e ∷ rest → IsDone w left q.taken q.given k.calls notes
    → IsDone w (e ∷ rest) q.taken q.given k.calls notes
next_done w left e rest q k notes is d = subst (λ l. IsDone w l q.taken q.given k.calls notes) is d

-- a job more where one is to be given, and a call more where a context is given
pub given_is : (w : Walk) (e : ℕ) (q r : QueueView) → is_to_be_given w e ≡ true
    → r ≡ passes.with_job_given q (job_of w.entries e) → r.given ≡ given_with (is_to_be_given w e)
    q.given (job_of w.entries e)
given_is w e q r give is = ap (λ (v : QueueView). v.given) is
    ∙ ap (λ b. given_with b q.given (job_of w.entries e)) (sym give)

pub given_none : (w : Walk) (e : ℕ) (q : QueueView) → is_to_be_given w e ≡ false
    → q.given ≡ given_with (is_to_be_given w e) q.given (job_of w.entries e)
given_none w e q give = ap (λ b. given_with b q.given (job_of w.entries e)) (sym give)

pub called_is : (w : Walk) (e answer : ℕ) (k l : ClaimView) → gives_alone w e ≡ true
    → l ≡ claiming.with_call k (group_of w.entries e) e answer
    → AddsCall (gives_alone w e) (group_of w.entries e) e k.calls l.calls
called_is w e answer k l give is = subst (λ b. AddsCall b (group_of w.entries e) e k.calls l.calls)
    (sym give) (answer, ap (λ (v : ClaimView). v.calls) is)

pub called_none : (w : Walk) (e : ℕ) (k : ClaimView) → gives_alone w e ≡ false
    → AddsCall (gives_alone w e) (group_of w.entries e) e k.calls k.calls
called_none w e k give = subst (λ b. AddsCall b (group_of w.entries e) e k.calls k.calls) (sym give)
    refl

-- ---- one job

-- how many jobs were given before an entry and behind it
pub given_on : (w : Walk) (left : List ℕ) (e : ℕ) (rest : List ℕ) (given next job byte : ℕ)
    (one : Bool) → left ≡ e ∷ rest → one ≡ is_to_be_given w e → byte ≡ bool_byte one
    → given + length (filter (is_to_be_given w) left) ≡ jobs_given w job
    → next ≡ min (given + byte) (2 ^ 32 - 1) → walk_count w < 2 ^ 32
    → next + length (filter (is_to_be_given w) rest) ≡ jobs_given w job
given_on w left e rest given next job byte one is one_is byte_is so_far next_is few =
    let start = ap (λ l. given + length (filter (is_to_be_given w) l)) is in
    let more = passes_on (is_to_be_given w e) e (filter (is_to_be_given w) rest) in
    let same = byte_is ∙ ap bool_byte one_is in
    let passing = passing_few (is_to_be_given w) (entries_of_job w.entries job) in
    let held = held_few w.entries job in
    omega (arith, start, more, same, so_far, next_is, few, passing, held)

pub none_left : (w : Walk) (left : List ℕ) (given job : ℕ) → left ≡ []
    → given + length (filter (is_to_be_given w) left) ≡ jobs_given w job
    → given ≡ jobs_given w job
none_left w left given job is so_far =
    let start = ap (λ l. given + length (filter (is_to_be_given w) l)) is in
    omega (arith, start, so_far)

pub taken_done : (w : Walk) (job : ℕ) (q r : QueueView) (k : ClaimView) (m : List Note)
    → r ≡ with_taken q job → times job q.taken ≡ 0 → IsDone w [] q.taken q.given k.calls m
    → IsDone w (entries_of_job w.entries job) r.taken r.given k.calls m
taken_done w job q r k m is new d =
    subst (λ (v : QueueView). IsDone w (entries_of_job w.entries job) v.taken v.given k.calls m)
    (sym is) (job_taken w job q.taken q.given k.calls m d new)

pub job_known : (entries : List Record) (shape : Shape) (job : ℕ) → shape ≡ jobs.shape_of entries
    → job ≤ length shape.parents → job ≤ length (directories_in entries)
job_known entries shape job is l = let e = ap (λ (s : Shape). length s.parents) is in
    let m = length-map (directories_in entries) (entry_home entries) in omega (arith, e, m, l)

-- ---- what passes stand for

pub stands_same : (a b : Share) → queue_view b.queue ≡ queue_view a.queue
    → claim_view b.claims ≡ claim_view a.claims → StandFor a 0 b
stands_same a b q k = record {
  queue_more = ap (λ (v : QueueView). v.stands_for) q ∙ omega arith;
  claims_more = ap (λ (v : ClaimView). v.stands_for) k ∙ omega arith;
}

pub stands_on : (a b c : Share) (m n k : ℕ) → StandFor a m b → StandFor b n c → m + n ≡ k
    → StandFor a k c
stands_on a b c m n k x y s = record {
  queue_more = (let p = x.queue_more in let q = y.queue_more in omega (arith, p, q, s));
  claims_more = (let p = x.claims_more in let q = y.claims_more in omega (arith, p, q, s));
}

-- where a worker ends another may begin
pub ended : {c : Common} {a b : Share} {n : ℕ} → HasWorked c a n b → IsReady c b
ended w = record { own = w.own; done = w.done }

pub hand_ended : {c : Common} {a b : Hand} {n : ℕ} → HasHandWorked c a n b → IsHandReady c b
hand_ended w = record { ready = ended w.worked; scratch = w.scratch }

-- what a thread and the caller brought back, who stand for themselves and for the rest of the row
pub hand_queue : {E : Type 0} (a b c d : Share) (n : ℕ) (r : Result Hand E) → StandFor a n b
    → StandFor c 0 d
    → IfOk r (λ after. (queue_stands after.share ≡ queue_stands b + queue_stands d)
    × (claims_stand after.share ≡ claims_stand b + claims_stand d))
    → IfOk r (λ after. queue_stands after.share ≡ queue_stands a + queue_stands c + n)
hand_queue a b c d n (Ok h) x y s = let p = x.queue_more in let q = y.queue_more in let z = s.0 in
    omega (arith, p, q, z)
hand_queue a b c d n (Err e) x y s = tt

pub hand_claims : {E : Type 0} (a b c d : Share) (n : ℕ) (r : Result Hand E) → StandFor a n b
    → StandFor c 0 d
    → IfOk r (λ after. (queue_stands after.share ≡ queue_stands b + queue_stands d)
    × (claims_stand after.share ≡ claims_stand b + claims_stand d))
    → IfOk r (λ after. claims_stand after.share ≡ claims_stand a + claims_stand c + n)
hand_claims a b c d n (Ok h) x y s = let p = x.claims_more in let q = y.claims_more in
    let z = s.1 in omega (arith, p, q, z)
hand_claims a b c d n (Err e) x y s = tt

-- ---- a job may be given

pub offer_right : (w : Walk) (up : ByPath w.entries) (q : QueueView) (shape : Shape) (e : ℕ)
    → q.parents ≡ shape.parents → shape ≡ jobs.shape_of w.entries → e < walk_count w
    → is_to_be_given w e ≡ true → 0 < times (entry_home w.entries e) q.taken
    → times (job_of w.entries e) q.given ≡ 0 → MayOffer q (job_of w.entries e)
offer_right w up q shape e parents is l give home new =
    let same : q.parents ≡ map (entry_home w.entries) (directories_in w.entries) =
    parents ∙ ap (λ (s : Shape). s.parents) is in
    let dir : is_directory w.entries e ≡ true =
    first_so (is_directory w.entries e) (not (skippable w e)) give in
    record {
      positive = omega arith;
      within = subst (λ ps. job_of w.entries e ≤ length ps) (sym same) (job_within w up e l dir);
      parent = subst (λ ps. 0 < times (parent_in ps (job_of w.entries e)) q.taken) (sym same)
          (subst (λ j. 0 < times j q.taken) (sym (parent_home w up e l dir)) home);
      new = new;
    }
