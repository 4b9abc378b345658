-- Runs over a tree as runs over an abstract one.
use Rattle.std.proofs.Common.{◌≡◌, ◌∙◌, ap, ap₂, sym, refl, subst, ℕ, ◌<◌, Bool, true, false, ◌&&◌}
use Rattle.std.proofs.Common.{List, [], ◌∷◌, ◌++◌, drop, length, map, get_or, inl, inr, IfOk}
use Rattle.std.proofs.Common.{Result, Ok, Err, option_and_then}
use std.Path.{fun_ext}
use Rattle.sha1.specs.Sha1.{sha1}
use Rattle.std.proofs.lemmas.Slice.Eq.{bytes_eq-Decides}
use Rattle.std.proofs.lemmas.List.{map_push}
use Rattle.file_paths.proofs.PathMoves.{below_front}
use Rattle.file_paths.specs.Path.{are_names, at_or_below}
use Rattle.label_base.specs.Bounded.{all_below, implies}
use Rattle.label_base.specs.Kind.{same_kind}
use Rattle.label_base.specs.declared.kind.Asked.TheVariants.{Of}
use Rattle.label_base.specs.declared.kind.EntryKind.TheVariants.{Directory}
use Rattle.context_syntax.specs.LabelEqual.{label_decides}
use Rattle.dir_digest.specs.Alike.{AreAlike}
use Rattle.dir_digest.specs.Basis.{AreRead}
use Rattle.dir_digest.proofs.AlikeLemmas.{bytes_alike}
use Rattle.find_records.specs.Record.{Record}
use Rattle.tree_model.specs.Extents.{is_directory}
use Rattle.tree_model.specs.Groups.{closed_at, group_of}
use Rattle.tree_model.specs.Selection.{selected_by, whole_at}
use Rattle.skip_runs.specs.Relabel as runs
use Rattle.skip_runs.specs.Skipping as skipping
use Rattle.skip_runs.specs.Skipping.{IsLike}
use Rattle.skip_runs.proofs.Runs.{like_after, one_more_keeps, skipping_keeps}
use Rattle.relabel_core.specs.Answer.{walk_in}
use Rattle.relabel_core.specs.Walk.{StoredDigests, Walk, new_label, skippable}
use Rattle.label_rules.specs.LookUp.{context_in}
use Rattle.relabel_core.specs.Walked.{walk_for}
use Rattle.relabel_core.specs.declared.walked.Walked.{Walked}
use Rattle.relabel_runs.specs.Laws.{IsNow, KeepsLabels, NoneSkipped, OneMoreRunKeepsLabels}
use Rattle.relabel_runs.specs.Laws.{SkippingKeepsLabels}
use Rattle.relabel_runs.specs.Premises.{AreTreeRuns, HasTreeRun, IsDigested, run_basis}
use Rattle.relabel_runs.specs.Runs.{IsBareState, TreeRun, TreeState, state_after, end, end_off}
use Rattle.relabel_runs.specs.Runs.{tree_labelled, not_skipping, records_read_as, walk_at}
use Rattle.relabel_runs.proofs.DecideLemmas.{given_alike, given_settles}
use Rattle.relabel_runs.proofs.OutlineLemmas.{SameOutline, count_same, group_same, kind_in}
use Rattle.relabel_runs.proofs.OutlineLemmas.{kinds_same, path_in, paths_same, selected_same}
use Rattle.relabel_runs.proofs.ClosedLemmas.{closed_holds, closed_seen}
use Rattle.relabel_runs.proofs.LabelledLemmas.{alike_read, alike_seen, label_there}
use Rattle.relabel_runs.proofs.ShownLemmas.{context_shown}
use Rattle.relabel_runs.proofs.WalkLemmas.{as_decision, context_for, digest_after_same, kinds}
use Rattle.relabel_runs.proofs.WalkLemmas.{label_same, run_by, run_of, state_of, tree_of}

abbrev run_in : List Record → TreeRun → runs.Relabelling kinds
run_in entries run =
    run_by (path_in entries) (kind_in entries) (selected_by run.choice entries).live
    (closed_at (records_read_as run.options.format entries)) run.rules run.options

abbrev state_in : TreeState → runs.State kinds
state_in s = record { labels = s.labels; digests = s.digests }

-- ---- a run over the tree in a state

tree_same : (a b : List Record) → SameOutline a b → tree_of a ≡ tree_of b
tree_same a b alike =
    λ i. record {
      count = count_same a b alike i;
      group_of = λ e. group_same a b e alike i;
      is_directory = λ d. same_kind (kinds_same a b alike i d) Directory;
      in_extent = λ d e. at_or_below (paths_same a b alike i e) (paths_same a b alike i d);
    }

-- the tree as a run sees it in a state
abbrev seen : List Record → TreeState → TreeRun → List Record
seen entries s run = tree_labelled (records_read_as run.options.format entries) s.labels

seen_alike : (entries : List Record) (s : TreeState) (run : TreeRun)
    → SameOutline (seen entries s run) entries
seen_alike entries s run = alike_seen run.options.format entries s.labels

run_same : (entries : List Record) (s : TreeState) (run : TreeRun) → run_of (walk_at entries s run)
    ≡ run_in entries run
run_same entries s run =
    let here = seen entries s run in
    let alike = seen_alike entries s run in
    λ i. run_by (paths_same here entries alike i) (kinds_same here entries alike i)
    (selected_same here entries run.choice alike i)
    (closed_seen (records_read_as run.options.format entries) s.labels i) run.rules run.options

same_state : (a b : runs.State kinds) → ((g : ℕ) → a.labels g ≡ b.labels g)
    → ((d : ℕ) → a.digests d ≡ b.digests d) → a ≡ b
same_state a b l d i = record { labels = λ g. l g i; digests = λ x. d x i }

after_same : (entries : List Record) (s : TreeState) (run : TreeRun)
    → state_in (state_after entries s run) ≡ runs.after (tree_of entries)
    (state_of (walk_at entries s run)) (run_in entries run)
after_same entries s run =
    let w = walk_at entries s run in
    let tree = tree_same (seen entries s run) entries (seen_alike entries s run) in
    let same = run_same entries s run in
    same_state (state_in (state_after entries s run))
    (runs.after (tree_of entries) (state_of w) (run_in entries run))
    (λ g. label_same w g ∙ ap₂ (λ t r. (runs.after t (state_of w) r).labels g) tree same)
    (λ d. digest_after_same w d ∙ ap₂ (λ t r. (runs.after t (state_of w) r).digests d) tree same)

like_now : (entries : List Record) (s : TreeState) (run : TreeRun)
    → IsLike (tree_of entries) (state_of (walk_at entries s run)) (state_in s)
like_now entries s run =
    record {
      labels = λ e l. label_there run.options.format entries s.labels e l;
      digests = λ d l y.
          refl;
    }

like_through : {t : runs.WalkedTree} {a b c : runs.State kinds} → IsLike t a b → IsLike t b c
    → IsLike t a c
like_through h k =
    record {
      labels = λ e l. h.labels e l ∙ k.labels e l;
      digests = λ d l y. h.digests d l y ∙ k.digests d l y;
    }

like_step : (entries : List Record) (s : TreeState) (s' : runs.State kinds) (run : TreeRun)
    → IsLike (tree_of entries) (state_in s) s'
    → IsLike (tree_of entries) (state_in (state_after entries s run))
    (runs.after (tree_of entries) s' (run_in entries run))
like_step entries s s' run like =
    let w = walk_at entries s run in
    subst (λ a. IsLike (tree_of entries) a (runs.after (tree_of entries) s' (run_in entries run)))
    (sym (after_same entries s run))
    (like_after kinds (tree_of entries) (run_in entries run) (state_of w) s'
    (like_through (like_now entries s run) like))

-- ---- runs one after the other

like_end : (entries : List Record) (list : List TreeRun) (s : TreeState) (s' : runs.State kinds)
    → IsLike (tree_of entries) (state_in s) s'
    → IsLike (tree_of entries) (state_in (end entries s list))
    (runs.after_all (tree_of entries) s' (map (run_in entries) list))
like_end entries [] s s' like = like
like_end entries (run ∷ list) s s' like =
    like_end entries list (state_after entries s run)
    (runs.after (tree_of entries) s' (run_in entries run)) (like_step entries s s' run like)

like_itself : (t : runs.WalkedTree) (s : runs.State kinds) → IsLike t s s
like_itself t s = record { labels = λ e l. refl; digests = λ d l y. refl }

no_skip : (a c x : Bool) → (((a && false) && c) && x) ≡ false
no_skip true c x = refl
no_skip false c x = refl

skips_off : (entries : List Record) (run : TreeRun) (s : runs.State kinds)
    → runs.skippable_in (tree_of entries) (run_in entries (not_skipping run)) s ≡ (λ d. false)
skips_off entries run s =
    fun_ext (λ d. no_skip (is_directory entries d)
    (runs.whole (tree_of entries) (run_in entries (not_skipping run)) d)
    (runs.is_current_in kinds (s.digests d) ((run_in entries (not_skipping run)).listing d)))

run_off : (entries : List Record) (run : TreeRun) (s : runs.State kinds)
    → runs.after (tree_of entries) s (run_in entries (not_skipping run)) ≡ runs.after_off
    (tree_of entries) s (run_in entries run)
run_off entries run s =
    ap (λ skip. runs.walk_leaves (tree_of entries) (run_in entries (not_skipping run))
    (runs.walked_in (tree_of entries) (run_in entries (not_skipping run)) skip) s)
    (skips_off entries run s)

end_is_off : (entries : List Record) (list : List TreeRun) (s : runs.State kinds)
    → runs.after_all (tree_of entries) s (map (run_in entries) (map not_skipping list))
    ≡ runs.after_all_off (tree_of entries) s (map (run_in entries) list)
end_is_off entries [] s = refl
end_is_off entries (run ∷ list) s =
    ap (λ s. runs.after_all (tree_of entries) s (map (run_in entries) (map not_skipping list)))
    (run_off entries run s)
    ∙ end_is_off entries list (runs.after_off (tree_of entries) s (run_in entries run))

-- ---- what is asked of runs

-- the run that an abstract one is made of
record Made (entries : List Record) (list : List TreeRun) (r : runs.Relabelling kinds) : Type 0
  where
    run : TreeRun
    has : HasTreeRun list run
    is : run_in entries run ≡ r

made : (entries : List Record) (list : List TreeRun) (r : runs.Relabelling kinds)
    → skipping.HasRelabelling (map (run_in entries) list) r → Made entries list r
made entries [] r h = absurd h
made entries (first ∷ list) r h =
    elim h [
      | inl e ↦ record { run = first; has = inl refl; is = e }
      | inr there ↦ (let m = made entries list r there in
          record { run = m.run; has = inr m.has; is = m.is })
    ]

run_settles : (entries : List Record) (run : TreeRun) → skipping.Settles (run_in entries run)
run_settles entries run label new wanted e = given_settles run.options.force run.rules.types label
    new wanted e

decided_alike : (entries : List Record) (a b : TreeRun) (d e : ℕ)
    → AreAlike (run_basis a) (run_basis b) (path_in entries d)
    → at_or_below (path_in entries e) (path_in entries d) ≡ true
    → (run_in entries a).decision e ≡ (run_in entries b).decision e
decided_alike entries a b d e alike inside =
    let top = path_in entries d in
    let path = path_in entries e in
    let kind = kind_in entries e in
    let names = drop (length top) path in
    let front : path ≡ top ++ names = below_front path top inside in
    ap (λ p. as_decision (context_for a.rules p kind)) front
    ∙ ap as_decision (context_shown a.rules a.options (top ++ names) kind
    ∙ ap (option_and_then context_in) (alike.decisions (Of kind) names)
    ∙ sym (context_shown b.rules b.options (top ++ names) kind))
    ∙ ap (λ p. as_decision (context_for b.rules p kind)) (sym front)

runs_agree : (entries : List Record) (a b : TreeRun) (d : ℕ) → are_names (path_in entries d) ≡ true
    → AreRead (run_basis a) → AreRead (run_basis b)
    → (run_in entries a).listing d ≡ (run_in entries b).listing d
    → skipping.Agree (tree_of entries) (run_in entries a) (run_in entries b) d
runs_agree entries a b d named ra rb e =
    let alike = bytes_alike (run_basis a) (run_basis b) ra rb (path_in entries d) named e in
    record {
      decision = λ x l i. decided_alike entries a b d x alike i;
      decide = λ label wanted. given_alike a.options.force b.options.force a.rules.types
          b.rules.types alike.force alike.types label wanted;
    }

agree_made : (entries : List Record) (list : List TreeRun) (a b : runs.Relabelling kinds) (d : ℕ)
    → AreTreeRuns entries list → Made entries list a → Made entries list b
    → d < length entries → a.listing d ≡ b.listing d → skipping.Agree (tree_of entries) a b d
agree_made entries list a b d all ma mb l e =
    let from : skipping.Agree (tree_of entries) (run_in entries ma.run) (run_in entries mb.run) d =
    runs_agree entries ma.run mb.run d (all.paths d l) (all.read ma.run ma.has)
    (all.read mb.run mb.has)
    (ap (λ (r : runs.Relabelling kinds). r.listing d) ma.is ∙ e
    ∙ sym (ap (λ (r : runs.Relabelling kinds). r.listing d) mb.is)) in
    subst (λ r. skipping.Agree (tree_of entries) a r d) mb.is
    (subst (λ r. skipping.Agree (tree_of entries) r (run_in entries mb.run) d) ma.is from)

-- a directory is whole as the run's records tell it where it is so in the abstract run
whole_read : (entries : List Record) (run : TreeRun) (d : ℕ)
    → whole_at (records_read_as run.options.format entries) (selected_by run.choice entries).live d
    ≡ runs.whole (tree_of entries) (run_in entries run) d
whole_read entries run d =
    let here = records_read_as run.options.format entries in
    let alike = alike_read run.options.format entries in
    let live = (selected_by run.choice entries).live in
    ap₂ (λ n path. closed_at here d && all_below n
    (λ e. implies (at_or_below (path e) (path d)) (get_or live e false)))
    (count_same here entries alike) (paths_same here entries alike)

digested : (entries : List Record) (run : TreeRun) (d : ℕ)
    → skipping.IsListedDirectory (tree_of entries) (run_in entries run) d → IsDigested entries run d
digested entries run d h =
    record {
      inside = h.inside;
      digests = h.digests;
      directory = h.directory;
      whole = whole_read entries run d ∙ h.whole_in;
    }

clash_made : (entries : List Record) (list : List TreeRun) (a b : runs.Relabelling kinds) (d e : ℕ)
    → AreTreeRuns entries list → Made entries list a → Made entries list b
    → skipping.IsListedDirectory (tree_of entries) a d
    → skipping.IsListedDirectory (tree_of entries) b e → sha1 (a.listing d) ≡ sha1 (b.listing e)
    → a.listing d ≡ b.listing e
clash_made entries list a b d e all ma mb la lb h =
    let there = λ (r : runs.Relabelling kinds). r.listing d in
    let here = λ (r : runs.Relabelling kinds). r.listing e in
    ap there (sym ma.is)
    ∙ all.no_clash ma.run mb.run ma.has mb.has d e
    (digested entries ma.run d
    (subst (λ r. skipping.IsListedDirectory (tree_of entries) r d) (sym ma.is) la))
    (digested entries mb.run e
    (subst (λ r. skipping.IsListedDirectory (tree_of entries) r e) (sym mb.is) lb))
    (ap (λ (r : runs.Relabelling kinds). sha1 (r.listing d)) ma.is ∙ h
    ∙ ap (λ (r : runs.Relabelling kinds). sha1 (r.listing e)) (sym mb.is))
    ∙ ap here mb.is

-- a directory that a run takes as closed holds its groups
closed_made : (entries : List Record) (run : TreeRun) (d : ℕ)
    → closed_at (records_read_as run.options.format entries) d ≡ true
    → skipping.HoldsGroups (tree_of entries) d
closed_made entries run d h =
    let here = records_read_as run.options.format entries in
    subst (λ t. skipping.HoldsGroups t d)
    (tree_same here entries (alike_read run.options.format entries)) (closed_holds here d h)

are_runs : (entries : List Record) (list : List TreeRun) → AreTreeRuns entries list
    → skipping.AreRelabellings (tree_of entries)
    (skipping.HasRelabelling (map (run_in entries) list))
are_runs entries list all =
    record {
      settle = λ r h. (let m = made entries list r h in
          subst (λ (r : runs.Relabelling kinds). skipping.Settles r) m.is
          (run_settles entries m.run));
      closed = λ r h d l directory closed.
          (let m = made entries list r h in
          closed_made entries m.run d (ap (λ (r : runs.Relabelling kinds). r.closed d) m.is
          ∙ closed));
      agree = λ a b ha hb d l directory e. agree_made entries list a b d all
          (made entries list a ha) (made entries list b hb) l e;
      no_clash = λ a b ha hb d e la lb h. clash_made entries list a b d e all
          (made entries list a ha) (made entries list b hb) la lb h;
    }

exact : skipping.AreExact kinds
exact = record { labels = label_decides; digests = bytes_eq-Decides }

-- ---- theorems

off_labels : (entries : List Record) (list : List TreeRun) (s : TreeState) (e : ℕ)
    → e < length entries
    → (end_off entries s list).labels (group_of entries e)
    ≡ (runs.after_all_off (tree_of entries) (state_in s) (map (run_in entries) list)).labels
    (group_of entries e)
off_labels entries list s e l =
    (like_end entries (map not_skipping list) s (state_in s)
    (like_itself (tree_of entries) (state_in s))).labels e l
    ∙ ap (λ (end : runs.State kinds). end.labels (group_of entries e))
    (end_is_off entries list (state_in s))

pub skipping_keeps_labels : SkippingKeepsLabels
skipping_keeps_labels entries list all s bare e l =
    (like_end entries list s (state_in s) (like_itself (tree_of entries) (state_in s))).labels e l
    ∙ skipping_keeps kinds exact (tree_of entries) (map (run_in entries) list)
    (are_runs entries list all) (state_in s) bare (group_of entries e)
    ∙ sym (off_labels entries list s e l)

one_more_over : (tree : List Record) (stored : StoredDigests) (run : TreeRun) (list : List TreeRun)
    → AreTreeRuns tree (list ++ run ∷ [])
    → (s : TreeState) → IsBareState s → IsNow (records_read_as run.options.format tree) stored
    (end tree s list)
    → (e : ℕ) → e < length (records_read_as run.options.format tree)
    → new_label (walk_for (records_read_as run.options.format tree) run.choice run.rules run.options
    stored) (group_of (records_read_as run.options.format tree) e)
    ≡ (end_off tree s (list ++ run ∷ [])).labels
    (group_of (records_read_as run.options.format tree) e)
one_more_over tree stored run list all s bare now e l =
    let here = records_read_as run.options.format tree in
    let alike = alike_read run.options.format tree in
    let w = walk_for here run.choice run.rules run.options stored in
    let more = map_push (run_in tree) list run in
    let trees : tree_of here ≡ tree_of tree = tree_same here tree alike in
    let run_is : run_of w ≡ run_in tree run =
    λ i. run_by (paths_same here tree alike i) (kinds_same here tree alike i)
    (selected_same here tree run.choice alike i) (closed_at here) run.rules run.options in
    let group : group_of here e ≡ group_of tree e = group_same here tree e alike in
    let inside : e < length tree = subst (λ n. e < n) (count_same here tree alike) l in
    let now_like : IsLike (tree_of here) (state_of w) (state_in (end tree s list)) =
    record { labels = now.labels; digests = now.digests } in
    let like : IsLike (tree_of tree) (state_of w)
    (runs.after_all (tree_of tree) (state_in s) (map (run_in tree) list)) =
    like_through (subst (λ t. IsLike t (state_of w) (state_in (end tree s list))) trees now_like)
    (like_end tree list s (state_in s) (like_itself (tree_of tree) (state_in s))) in
    label_same w (group_of here e)
    ∙ ap₂ (λ t r. (runs.after t (state_of w) r).labels (group_of here e)) trees run_is
    ∙ ap (λ g. (runs.after (tree_of tree) (state_of w) (run_in tree run)).labels g) group
    ∙ one_more_keeps kinds exact (tree_of tree) (map (run_in tree) list) (run_in tree run)
    (subst (λ rs. skipping.AreRelabellings (tree_of tree) (skipping.HasRelabelling rs)) more
    (are_runs tree (list ++ run ∷ []) all)) (state_in s) bare (state_of w) like e inside
    ∙ ap (λ rs. (runs.after_all_off (tree_of tree) (state_in s) rs).labels (group_of tree e))
    (sym more)
    ∙ sym (off_labels tree (list ++ run ∷ []) s e inside)
    ∙ ap (end_off tree s (list ++ run ∷ [])).labels (sym group)

pub one_more_run_keeps_labels : OneMoreRunKeepsLabels
one_more_run_keeps_labels entries stored run tree seen list all s bare =
    subst (λ entries. IsNow entries stored (end tree s list) → (e : ℕ) → e < length entries
    → new_label (walk_for entries run.choice run.rules run.options stored) (group_of entries e)
    ≡ (end_off tree s (list ++ run ∷ [])).labels (group_of entries e))
    (sym seen) (one_more_over tree stored run list all s bare)

pub none_skipped : NoneSkipped
unfolding skippable
none_skipped entries s run d = refl

kept_by_walk : (entries : List Record) (stored : StoredDigests) (run : TreeRun) (w : Walk)
    → w ≡ walk_for entries run.choice run.rules run.options stored
    → KeepsLabels entries stored run w
kept_by_walk entries stored run w e = subst (λ w. KeepsLabels entries stored run w) (sym e)
    (one_more_run_keeps_labels entries stored run)

pub kept_if_ok : {E : Type 0} (entries : List Record) (stored : StoredDigests) (run : TreeRun)
    (w : Walk) → w ≡ walk_for entries run.choice run.rules run.options stored
    → (result : Result Walked E) → IfOk result (λ walked. walk_in walked ≡ w)
    → IfOk result (λ walked. KeepsLabels entries stored run (walk_in walked))
kept_if_ok entries stored run w e (Ok walked) h = kept_by_walk entries stored run (walk_in walked)
    (h ∙ e)
kept_if_ok entries stored run w e (Err error) h = tt
