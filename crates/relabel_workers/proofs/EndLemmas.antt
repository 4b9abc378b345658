-- Where workers end: the taken jobs are the open ones, all that lies there is noted, and the
-- winners are those of the walk.
use Rattle.std.proofs.Common.{◌≡◌, ◌∙◌, sym, refl, ap, subst, ℕ, zero, suc, ◌+◌, ◌-◌, ◌<◌, ◌≤◌, ◌^◌}
use Rattle.std.proofs.Common.{◌==◌, ◌&&◌, ◌⊎◌, ⊎_elim, inl, inr, Bool, true, false, not, cond}
use Rattle.std.proofs.Common.{true≢false, eq-eqb, ne_eqb, List, [], ◌∷◌, length, map, get_or, min}
use Rattle.std.proofs.Common.{Some, None, arith}
use Rattle.std.specs.Prelude.{All, is_some, slice_get}
use Rattle.std.specs.List.{position_or_len}
use Rattle.std.specs.Cmp.{first_so, second_so}
use Rattle.std.proofs.lemmas.Bool.{and_parts, cases_eq, cases_lt, eqb-true, false_from_ne_true}
use Rattle.std.proofs.lemmas.List.{get_or-map, length-map}
use Rattle.std.proofs.lemmas.List.Elements.{All-cons, All-head, All-nil, All-tail}
use Rattle.std.proofs.lemmas.Option.{get_or_from_slice_get, slice_get_within}
use Rattle.walk_steps.specs.Lists.{times}
use Rattle.walk_steps.specs.Shaped as shaped
use Rattle.walk_steps.specs.Shaped.{IsValid, entry_count, group_of_entry, last_job}
use Rattle.walk_steps.specs.Sound.{IsLeast, Sound, WordsAreLeast}
use Rattle.walk_steps.specs.Ends.{HasEnded, IsTheEnd, LeadsToJob}
use Rattle.walk_steps.specs.declared.machine.TheConstants.{NONE_WORD}
use Rattle.walk_steps.specs.declared.machine.WalkState.{WalkState}
use Rattle.walk_steps.specs.declared.shape.Shape.{Shape}
use Rattle.walk_steps.proofs.ListLemmas.{hit_other, hit_same}
use Rattle.inode_claims.specs.declared.rule.Call.{Call}
use Rattle.inode_claims.specs.declared.rule.ClaimView.{ClaimView}
use Rattle.inode_claims.specs.declared.winners.Winners.{Winners}
use Rattle.inode_claims.specs.Answers.{AnswersAll, Wins, winner_of, claim_word_at}
use Rattle.inode_claims.specs.Claiming.{IsClaimed, least_claimed}
use Rattle.dir_queue.specs.declared.rule.QueueView.{QueueView}
use Rattle.dir_queue.specs.Answers.{one_worker}
use Rattle.label_base.specs.Bounded.{all_numbers, least_below}
use Rattle.label_base.proofs.BoundedLemmas.{count_numbers, least_is, least_none}
use Rattle.tree_model.specs.Extents.{is_directory}
use Rattle.tree_model.specs.Groups.{group_of, groups_in}
use Rattle.tree_model.specs.Jobs.{directories_in, entry_home, job_directory, job_of, shape_of}
use Rattle.tree_model.specs.Tree.{ByPath}
use Rattle.tree_model.proofs.JobLaws.{directory_back, home_shown, jobs_are}
use Rattle.tree_model.proofs.JobLemmas.{mapped_at, shape_valid}
use Rattle.relabel_core.specs.Walk.{Walk, can_win, walk_count, count_wanted, is_skipped, is_wanted}
use Rattle.relabel_core.specs.Walk.{skippable, wanted, winner}
use Rattle.relabel_workers.specs.Alone.{IsNoteOf, is_job_open, lies_open, noted_in}
use Rattle.relabel_workers.specs.PutBack.{AreAllNoted, AreWinnersClaimed, IsOpenNote}
use Rattle.relabel_workers.specs.Worked.{IsDone, IsOffered, is_to_be_given, positions_claimed}
use Rattle.relabel_workers.specs.declared.note.Note.{Note}
use Rattle.relabel_workers.proofs.ListLemmas.{called_exact, claimed_position, count_if}
use Rattle.relabel_workers.proofs.ListLemmas.{filtered_few, least_met, position_claimed}
use Rattle.relabel_workers.proofs.OpenLemmas.{open_skipped, open_wanted, shut_skipped}
use Rattle.relabel_workers.proofs.OpenLemmas.{wanted_walked}

not_true : (b : Bool) → not b ≡ true → b ≡ false
not_true true h = absurd (true≢false (sym h))
not_true false h = refl

true_of : (b : Bool) → (b ≡ false → ⊥) → b ≡ true
true_of true h = refl
true_of false h = absurd (h refl)

module _ (w : Walk) (up : ByPath w.entries) where
  abbrev shape : Shape
  shape = shape_of w.entries

  job_open : (job d : ℕ) → job_directory w.entries job ≡ Some d
      → is_job_open w job ≡ not (is_skipped w d)
  job_open job d h = ap (lies_open w) h

  -- ---- what leads to open jobs is open

  parent_open : (job d : ℕ) → job_directory w.entries job ≡ Some d
      → is_job_open w (shaped.parent_job shape job) ≡ is_job_open w (entry_home w.entries d)
  parent_open job d h =
      ap (lies_open w) ((jobs_are w.entries).parent job d h ∙ sym (home_shown w.entries d))

  home_open : (e : ℕ) → e < walk_count w → is_skipped w e ≡ false
      → is_job_open w (entry_home w.entries e) ≡ true
  home_open e l h = true_of (is_job_open w (entry_home w.entries e))
      (λ shut. true≢false (sym (shut_skipped w up e l shut) ∙ h))

  home_is : (e : ℕ) → e < walk_count w → shaped.home_of shape e ≡ entry_home w.entries e
  home_is e l = mapped_at (entry_home w.entries) (walk_count w) e l

  group_is : (e : ℕ) → e < walk_count w → group_of_entry shape e ≡ group_of w.entries e
  group_is e l = mapped_at (group_of w.entries) (walk_count w) e l

  entries_are : entry_count shape ≡ walk_count w
  entries_are = length-map (all_numbers (walk_count w)) (entry_home w.entries)
      ∙ count_numbers (walk_count w)

  jobs_count : last_job shape ≡ length (directories_in w.entries)
  jobs_count = length-map (directories_in w.entries) (entry_home w.entries)

  pub leads : LeadsToJob shape (is_job_open w) (is_wanted w)
  leads = record {
    root = refl;
    parents = λ job low high lies.
        let each = (jobs_are w.entries).each job low high in
        let over : is_skipped w each.0 ≡ false =
        not_true (is_skipped w each.0) (sym (job_open job each.0 each.1.there) ∙ lies) in
        parent_open job each.0 each.1.there ∙ home_open each.0 each.1.known over;
    homes = λ e l h.
        let m : e < walk_count w = omega (arith, l, entries_are) in
        ap (is_job_open w) (home_is e m) ∙ home_open e m (wanted_walked w e h);
  }

  -- where the directory stands among all
  abbrev place : ℕ → ℕ
  place d = position_or_len (λ x. x == d) (directories_in w.entries)

  stands : (d : ℕ) → d < walk_count w → is_directory w.entries d ≡ true
      → slice_get (directories_in w.entries) (place d) ≡ Some d
  stands d l dir = directory_back w.entries d l dir

  -- the job that holds a directory's job is the directory's home
  pub parent_home : (d : ℕ) → d < walk_count w → is_directory w.entries d ≡ true
      → shaped.parent_job shape (job_of w.entries d) ≡ entry_home w.entries d
  parent_home d l dir =
      let there = stands d l dir in
      let at : suc (place d) - 1 ≡ place d = omega arith in
      ap (λ k. get_or (map (entry_home w.entries) (directories_in w.entries)) k 0) at
      ∙ get_or-map (entry_home w.entries) (directories_in w.entries) (place d) 0 0
      (slice_get_within (directories_in w.entries) (place d) d there)
      ∙ ap (entry_home w.entries) (get_or_from_slice_get (directories_in w.entries) (place d) d 0
      there)

  pub job_within : (d : ℕ) → d < walk_count w → is_directory w.entries d ≡ true
      → job_of w.entries d ≤ last_job shape
  job_within d l dir =
      let within : place d < length (directories_in w.entries) =
      slice_get_within (directories_in w.entries) (place d) d (stands d l dir) in
      let c = jobs_count in
      omega (arith, within, c)

  -- ---- what is given is open

  module _ (taken given : List ℕ) (calls : List Call) (notes : List Note) (winners : Winners)
      (done : IsDone w [] taken given calls notes)
      (sound : Sound shape
      (record { queue = []; taken = taken ∷ []; given = given ∷ []; words = [] }))
      (wins : Wins (groups_in w.entries) calls winners)
      (all : AnswersAll (groups_in w.entries) calls winners) where
    abbrev state : WalkState
    state = record {
      queue = [];
      taken = taken ∷ [];
      given = given ∷ [];
      words = winners.words.items;
    }

    pub state_sound : Sound shape state
    state_sound =
        record {
          workers = sound.workers;
          placed = sound.placed;
          once = sound.once;
          inside = sound.inside;
          parents = sound.parents;
        }

    given_or_root : (job : ℕ) → 0 < times job taken → (0 ≡ job) ⊎ (0 < times job given)
    given_or_root job h = elim (cases_eq 0 job) [
      | inl e ↦ inl e
      | inr ne ↦ inr (let p = sound.placed job in let z = hit_other 0 job ne in
          omega (arith, p, z, h))
    ]

    not_over : (d : ℕ) → is_to_be_given w d ≡ true → skippable w d ≡ false
    not_over d h =
        not_true (skippable w d) (second_so (is_directory w.entries d) (not (skippable w d)) h)

    one_of : (d : ℕ) → is_to_be_given w d ≡ true → is_directory w.entries d ≡ true
    one_of d h = first_so (is_directory w.entries d) (not (skippable w d)) h

    -- a job that was given is open where the home of its directory is
    offered_open : (job : ℕ) → (o : IsOffered w [] taken job)
        → is_job_open w (entry_home w.entries o.directory) ≡ true → is_job_open w job ≡ true
    offered_open job o lies =
        ap (is_job_open w) (sym o.own)
        ∙ job_open (job_of w.entries o.directory) o.directory
        (directory_back w.entries o.directory o.known (one_of o.directory o.to_give))
        ∙ ap not (open_skipped w up o.directory o.known lies ∙ not_over o.directory o.to_give)

    home_less : (job : ℕ) → (o : IsOffered w [] taken job) → entry_home w.entries o.directory < job
    home_less job o =
        let dir = one_of o.directory o.to_give in
        let less = (shape_valid w.entries up).parents (job_of w.entries o.directory) (omega arith)
        (job_within o.directory o.known dir) in
        let same = parent_home o.directory o.known dir in
        let own = o.own in
        omega (arith, less, same, own)

    -- by the number of a job, since its parent's is less
    pub taken_open : (most job : ℕ) → job ≤ most → 0 < times job taken → is_job_open w job ≡ true
    taken_open zero job le h = ap (is_job_open w) {x = job} {y = 0} (omega (arith, le))
    taken_open (suc most) job le h = elim (given_or_root job h) [
      | inl e ↦ ap (is_job_open w) {x = job} {y = 0} (sym e)
      | inr g ↦ (
          let o = done.given_are job g in
          let less = home_less job o in
          offered_open job o
          (taken_open most (entry_home w.entries o.directory) (omega (arith, less, le)) o.home))
    ]

    home_taken_open : (e : ℕ) → 0 < times (entry_home w.entries e) taken
        → is_job_open w (entry_home w.entries e) ≡ true
    home_taken_open e h = taken_open (entry_home w.entries e) (entry_home w.entries e) (omega arith)
        h

    given_open : (job : ℕ) → 0 < times job given → is_job_open w job ≡ true
    given_open job g = let o = done.given_are job g in
        offered_open job o (home_taken_open o.directory o.home)

    -- ---- nothing is left to do

    taken_is : (job : ℕ) → 0 < times job taken + 0 → 0 < times job taken
    taken_is job h = omega (arith, h)

    has_children : (job : ℕ) → 0 < job → job ≤ last_job shape → is_job_open w job ≡ true
        → 0 < times (shaped.parent_job shape job) taken + 0 → 0 < times job given + 0
    has_children job low high lies h =
        let c = jobs_count in
        let each = (jobs_are w.entries).each job low high in
        let d = each.0 in
        let is = each.1 in
        let over : is_skipped w d ≡ false =
        not_true (is_skipped w d) (sym (job_open job d is.there) ∙ lies) in
        let to : is_job_open w (entry_home w.entries d) ≡ true = home_open d is.known over in
        let alone : skippable w d ≡ false = sym (open_skipped w up d is.known to) ∙ over in
        let home : shaped.parent_job shape job ≡ entry_home w.entries d =
        ap (shaped.parent_job shape) (sym is.back) ∙ parent_home d is.known is.is_one in
        let took : 0 < times (entry_home w.entries d) taken =
        subst (λ j. 0 < times j taken) home (taken_is (shaped.parent_job shape job) h) in
        elim (done.each d is.known took) [
          | inl some ↦ absurd (omega (arith, some))
          | inr handled ↦
              (let g = subst (λ j. 0 < times j given) is.back
              (handled.offered (to_give d is.is_one alone)) in omega (arith, g))
        ]
      where
        to_give : (d : ℕ) → is_directory w.entries d ≡ true → skippable w d ≡ false
            → is_to_be_given w d ≡ true
        to_give d dir alone = rw (dir, alone) refl

    has_entries : (e : ℕ) → e < entry_count shape → is_wanted w e ≡ true
        → 0 < times (shaped.home_of shape e) taken + 0 → 0 < times e (positions_claimed calls)
    has_entries e l wants h =
        let c = entries_are in
        let m : e < walk_count w = omega (arith, l, c) in
        let took : 0 < times (entry_home w.entries e) taken =
        subst (λ j. 0 < times j taken) (home_is e m) (taken_is (shaped.home_of shape e) h) in
        elim (done.each e m took) [
          | inl some ↦ absurd (omega (arith, some))
          | inr handled ↦ claimed_position (group_of w.entries e) e calls
              (handled.claimed (open_wanted w up e m (home_taken_open e took) ∙ wants))
        ]

    only_wanted : (e : ℕ) → 0 < times e (positions_claimed calls) → (e < entry_count shape)
        × (is_wanted w e ≡ true)
    only_wanted e h =
        let c = position_claimed e calls h in
        let r = done.calls_are c.group e c.claimed in
        let n = entries_are in
        let l = r.known in
        (omega (arith, l, n), sym (open_wanted w up e r.known (home_taken_open e r.home)) ∙ r.gives)

    pub ended : HasEnded shape (is_job_open w) (is_wanted w) (positions_claimed calls) state
    ended = record {
      drained = refl;
      only_open = λ job h. given_open job (omega (arith, h));
      only_wanted = only_wanted;
      children = has_children;
      entries = has_entries;
    }

    pub words_least : WordsAreLeast shape (positions_claimed calls) state.words
    words_least = record { sized = wins.sized; least = least_word }
      where
        least_word : (group : ℕ) → group < groups_in w.entries
            → IsLeast (λ e. (0 < times e (positions_claimed calls)) ×
            (group_of_entry shape e ≡ group))
            (get_or winners.words.items group 0)
        least_word group l = record { low = low; met = met }
          where
            low : (e : ℕ) → (0 < times e (positions_claimed calls)) ×
                (group_of_entry shape e ≡ group)
                → get_or winners.words.items group 0 ≤ e
            low e h =
                let c = position_claimed e calls h.0 in
                let r = done.calls_are c.group e c.claimed in
                let same : c.group ≡ group = sym r.own ∙ sym (group_is e r.known) ∙ h.1 in
                wins.low group e l (subst (λ g. IsClaimed g e calls) same c.claimed)

            there : (e : ℕ) → IsClaimed group e calls → (0 < times e (positions_claimed calls))
                × (group_of_entry shape e ≡ group)
            there e c = let r = done.calls_are group e c in
                (claimed_position group e calls c, group_is e r.known ∙ r.own)

            met : (get_or winners.words.items group 0 ≡ NONE_WORD) ⊎
                ((0 < times (get_or winners.words.items group 0) (positions_claimed calls))
                × (group_of_entry shape (get_or winners.words.items group 0) ≡ group))
            met = let is : get_or winners.words.items group 0 ≡ least_claimed group calls =
                all.least group l in
                ⊎_elim (λ e. inl (is ∙ e))
                (λ c. inr (subst (λ e. (0 < times e (positions_claimed calls))
                × (group_of_entry shape e ≡ group)) (sym is)
                (there (least_claimed group calls) c))) (least_met group calls)

    -- ---- what follows from the end

    module _ (end : IsTheEnd shape (is_job_open w) (is_wanted w) state)
        (few : walk_count w < 2 ^ 32) where
      open_notes : (some : List Note) → All (IsNoteOf w) some
          → ((e : ℕ) → 0 < times e (noted_in some) → 0 < times (entry_home w.entries e) taken)
          → All (IsOpenNote w) some
      open_notes [] a h = All-nil (IsOpenNote w)
      open_notes (note ∷ some) a h =
          All-cons (IsOpenNote w) note some
          (record {
            noted = All-head (IsNoteOf w) note some a;
            lies = home_taken_open note.entry
                (h note.entry (let z = hit_same note.entry note.entry refl in omega (arith, z)));
          })
          (open_notes some (All-tail (IsNoteOf w) note some a) (λ e k. h e (omega (arith, k))))

      home_within : (e : ℕ) → e < walk_count w → entry_home w.entries e ≤ last_job shape
      home_within e l =
          let n = entries_are in
          subst (λ j. j ≤ last_job shape) (home_is e l)
          ((shape_valid w.entries up).homes e (omega (arith, l, n)))

      pub all_noted : AreAllNoted w notes
      all_noted = record {
        notes_are = open_notes notes done.notes_are (λ e h. (done.noted_are e h).1);
        whole = λ e l lies. elim
            (done.each e l
            (taken_is (entry_home w.entries e)
            ((end.taken (entry_home w.entries e)).1 (home_within e l, lies)))) [
              | inl some ↦ absurd (omega (arith, some))
              | inr handled ↦ handled.is_noted
            ];
      }

      -- the word of a group says its winner
      winner_shown : (g : ℕ) → IsLeast (λ e. (e < entry_count shape) × (is_wanted w e ≡ true)
          × (group_of_entry shape e ≡ g)) (claim_word_at winners g)
          → winner_of winners g ≡ winner w g
      unfolding winner
      winner_shown g least = ⊎_elim none some least.met
        where
          can : (e : ℕ) → e < walk_count w → can_win w g e ≡ true → (e < entry_count shape)
              × (is_wanted w e ≡ true) × (group_of_entry shape e ≡ g)
          can e l h =
              let p = and_parts (group_of w.entries e == g) (is_some (wanted w e)) h in
              let n = entries_are in
              (omega (arith, l, n), p.1, group_is e l ∙ eqb-true (group_of w.entries e) g p.0)

          none : claim_word_at winners g ≡ NONE_WORD
              → winner_of winners g ≡ least_below (walk_count w) (can_win w g)
          none e =
              ap (λ b. cond b None (Some (claim_word_at winners g)))
              (eq-eqb (claim_word_at winners g) NONE_WORD e)
              ∙ sym (least_none (walk_count w) (can_win w g)
              (λ k l. false_from_ne_true (can_win w g k)
              (λ h. let low = least.low k (can k l h) in omega (arith, low, e, l, few))))

          some : (claim_word_at winners g < entry_count shape)
              × (is_wanted w (claim_word_at winners g) ≡ true)
              × (group_of_entry shape (claim_word_at winners g) ≡ g)
              → winner_of winners g ≡ least_below (walk_count w) (can_win w g)
          some f =
              let n = entries_are in
              let k : ℕ = claim_word_at winners g in
              let l : claim_word_at winners g < walk_count w =
              (let within = f.0 in omega (arith, within, n)) in
              let own : group_of w.entries (claim_word_at winners g) ≡ g =
              sym (group_is (claim_word_at winners g) l) ∙ f.2 in
              let wins_here : can_win w g (claim_word_at winners g) ≡ true =
              both (group_of w.entries (claim_word_at winners g) == g)
              (is_some (wanted w (claim_word_at winners g)))
              (eq-eqb (group_of w.entries (claim_word_at winners g)) g own) f.1 in
              ap (λ b. cond b None (Some (claim_word_at winners g)))
              (ne_eqb (claim_word_at winners g) NONE_WORD (λ e. omega (arith, e, l, few)))
              ∙ sym (least_is (walk_count w) (can_win w g) (claim_word_at winners g) l wins_here
              (λ j m. false_from_ne_true (can_win w g j)
              (λ h. let low = least.low j (can j (omega (arith, m, l)) h) in
              omega (arith, low, m))))
            where
              both : (a b : Bool) → a ≡ true → b ≡ true → (a && b) ≡ true
              both true b h k = k
              both false b h k = absurd (true≢false (sym h))

      pub are_winners : AreWinnersClaimed w winners
      are_winners = record { sized = wins.sized; each = λ g l. winner_shown g (end.words g l) }

      called_once : (e : ℕ) → e < walk_count w
          → times e (positions_claimed calls) ≡ count_if (is_wanted w e)
      called_once e l = by_case (is_wanted w e) refl
        where
          by_case : (b : Bool) → is_wanted w e ≡ b → times e (positions_claimed calls) ≡ count_if b
          by_case true h =
              let lies = home_open e l (wanted_walked w e h) in
              let took = taken_is (entry_home w.entries e)
              ((end.taken (entry_home w.entries e)).1 (home_within e l, lies)) in
              let once = sound.once (entry_home w.entries e) in
              let each = done.claimed_each e l (open_wanted w up e l lies ∙ h) in
              omega (arith, took, once, each)
          by_case false h = elim (cases_lt 0 (times e (positions_claimed calls))) [
            | inl lt ↦ absurd (true≢false (sym (only_wanted e lt).1 ∙ h))
            | inr ge ↦ omega (arith, ge)
          ]

      pub all_calls : (claims : ℕ) → claims ≡ min (length calls) NONE_WORD
          → claims ≡ count_wanted w
      all_calls claims is =
          let all = called_exact (walk_count w) (is_wanted w) calls called_once known in
          let most = filtered_few (is_wanted w) (walk_count w) in
          omega (arith, all, most, is, few)
        where
          known : (e : ℕ) → 0 < times e (positions_claimed calls) → e < walk_count w
          known e h = let c = position_claimed e calls h in
              (done.calls_are c.group e c.claimed).known

-- ---- what workers closed

-- the law of ends, for one shape
abbrev pub HaveOneEnd : Shape → Type 0
HaveOneEnd given =
    (open_job wanted : ℕ → Bool) (claimed : List ℕ) (state : WalkState)
    → LeadsToJob given open_job wanted → Sound given state
    → WordsAreLeast given claimed state.words
    → HasEnded given open_job wanted claimed state → IsTheEnd given open_job wanted state

pub record IsClosed (w : Walk) (notes : List Note) (winners : Winners) : Type 0 where
  pub noted : AreAllNoted w notes
  pub won : AreWinnersClaimed w winners
  pub claimed : winners.claims ≡ count_wanted w

pub closed : (w : Walk) (up : ByPath w.entries) → walk_count w < 2 ^ 32 → (given : Shape)
    → given ≡ shape_of w.entries → HaveOneEnd given
    → (q : QueueView) (k : ClaimView) (notes : List Note) (winners : Winners)
    → IsDone w [] q.taken q.given k.calls notes → Sound given (one_worker q)
    → (groups : ℕ) → groups ≡ groups_in w.entries → Wins groups k.calls winners
    → AnswersAll groups k.calls winners → winners.claims ≡ min (length k.calls) NONE_WORD
    → IsClosed w notes winners
closed w up few given is one q k notes winners done sound groups same wins all claims =
    let law : HaveOneEnd (shape_of w.entries) = subst HaveOneEnd is one in
    let s : Sound (shape_of w.entries) (one_worker q) =
    subst (λ x. Sound x (one_worker q)) is sound in
    let v : Wins (groups_in w.entries) k.calls winners =
    subst (λ n. Wins n k.calls winners) same wins in
    let a : AnswersAll (groups_in w.entries) k.calls winners =
    subst (λ n. AnswersAll n k.calls winners) same all in
    let end = law (is_job_open w) (is_wanted w) (positions_claimed k.calls)
    (record {
      queue = [];
      taken = q.taken ∷ [];
      given = q.given ∷ [];
      words = winners.words.items;
    }) (leads w up)
    (state_sound w up q.taken q.given k.calls notes winners done s v a)
    (words_least w up q.taken q.given k.calls notes winners done s v a)
    (ended w up q.taken q.given k.calls notes winners done s v a) in
    record {
      noted = all_noted w up q.taken q.given k.calls notes winners done s v a end few;
      won = are_winners w up q.taken q.given k.calls notes winners done s v a end few;
      claimed = all_calls w up q.taken q.given k.calls notes winners done s v a end few
          winners.claims claims;
    }
