-- What a walk decides, skips and digests depends on no label.
use Rattle.std.proofs.Common.{◌≡◌, subst, ℕ, ◌<◌, ◌==◌, false, List}
use Rattle.std.proofs.Common.{get_or}
use Rattle.std.specs.Prelude.{◌&&◌, ◌||◌, not, if◌then◌else◌, is_some, Some, None}
use Rattle.label_base.specs.Bounded.{any_below, least_below}
use Rattle.label_base.specs.declared.kind.Asked.TheVariants.{Of}
use Rattle.file_paths.specs.Path.{at_or_below}
use Rattle.context_syntax.specs.TypeNames.{names_in_order}
use Rattle.context_syntax.specs.declared.label.Label.{Label}
use Rattle.dir_digest.specs.Digest.{digest_at}
use Rattle.find_records.specs.Record.{Record}
use Rattle.tree_model.specs.Groups.{groups_in, label_in}
use Rattle.tree_model.specs.Labelled.{DifferInLabels}
use Rattle.tree_model.proofs.GroupLemmas.{has_first}
use Rattle.tree_model.proofs.LabelledLemmas.{differ}
use Rattle.label_rules.specs.LookUp.{given_at, index_asked}
use Rattle.relabel_core.specs.Swept.{renewal}
use Rattle.relabel_core.specs.Walk.{Walk, deciding, digest_now}
use Rattle.relabel_core.specs.Walk.{is_current, is_renewed, is_skipped, is_skipped_first, skippable}
use Rattle.relabel_core.specs.Walk.{skips, walked, wanted, winner}
use Rattle.relabel_runs.specs.Runs.{tree_labelled}
use Rattle.relabel_runs.proofs.LabelledLemmas.{alike_labelled, label_set, links_labelled}
use Rattle.relabel_runs.proofs.OutlineLemmas.{count_same, inodes_same, kinds_same, paths_same}

-- the same walk over other entries
abbrev pub over : Walk → List Record → Walk
over w new = record w { entries = new }

-- ---- where labels alone differ

digest_same : (w : Walk) (new : List Record) → DifferInLabels w.entries new → (d : ℕ)
    → digest_now (over w new) d ≡ digest_now w d
unfolding digest_now
digest_same w new s d i =
    digest_at w.options.format w.options.force (names_in_order w.rules.types) w.rules.subs.first
    w.rules.subs.second w.rules.rules (s.paths d i)

skippable_same : (w : Walk) (new : List Record) → DifferInLabels w.entries new → (d : ℕ)
    → skippable (over w new) d ≡ skippable w d
unfolding skippable
skippable_same w new s d i =
    skips w && (s.directories d i && s.whole w.live d i) && is_current (w.stored d)
    (digest_same w new s d i)

is_skipped_same : (w : Walk) (new : List Record) → DifferInLabels w.entries new → (e : ℕ)
    → is_skipped (over w new) e ≡ is_skipped w e
unfolding is_skipped
is_skipped_same w new s e i =
    any_below (s.count i)
    (λ d. skippable_same w new s d i && at_or_below (s.paths e i) (s.paths d i))

pub first_same : (w : Walk) (new : List Record) → DifferInLabels w.entries new → (e : ℕ)
    → is_skipped_first (over w new) e ≡ is_skipped_first w e
unfolding is_skipped_first
first_same w new s e i =
    skippable_same w new s e i
    && not (any_below (s.count i)
    (λ d. skippable_same w new s d i && at_or_below (s.paths e i) (s.paths d i) && not
    (d == e)))

walked_same : (w : Walk) (new : List Record) → DifferInLabels w.entries new → (e : ℕ)
    → walked (over w new) e ≡ walked w e
unfolding walked
walked_same w new s e i = get_or w.live e false && not (is_skipped_same w new s e i)

deciding_same : (w : Walk) (new : List Record) → DifferInLabels w.entries new → (e : ℕ)
    → deciding (over w new) e ≡ deciding w e
unfolding deciding
deciding_same w new s e i =
    if walked_same w new s e i then index_asked w.rules (s.paths e i) (Of (s.kinds e i)) else None

pub wanted_same : (w : Walk) (new : List Record) → DifferInLabels w.entries new → (e : ℕ)
    → wanted (over w new) e ≡ wanted w e
unfolding wanted
wanted_same w new s e i = given_at w.rules.rules (deciding_same w new s e i)

pub winner_same : (w : Walk) (new : List Record) → DifferInLabels w.entries new → (g : ℕ)
    → winner (over w new) g ≡ winner w g
unfolding winner
winner_same w new s g i =
    least_below (s.count i) (λ e. (s.groups e i == g) && is_some (wanted_same w new s e i))

renewed_same : (w : Walk) (new : List Record) → DifferInLabels w.entries new → (d : ℕ)
    → is_renewed (over w new) d ≡ is_renewed w d
unfolding is_renewed
renewed_same w new s d i =
    (w.options.digests || w.options.ignore_digests) && walked_same w new s d i
    && (s.directories d i && s.whole w.live d i)

pub renewal_same : (w : Walk) (new : List Record) → DifferInLabels w.entries new → (d : ℕ)
    → renewal (over w new) d ≡ renewal w d
renewal_same w new s d i = if not w.options.dry && renewed_same w new s d i then Some
    (digest_same w new s d i) else None

-- ---- a tree with other labels of its groups

pub differs : (entries : List Record) (labels : ℕ → Label)
    → DifferInLabels entries (tree_labelled entries labels)
differs entries labels =
    let new = tree_labelled entries labels in
    let alike = alike_labelled entries labels in
    differ entries new (count_same new entries alike) (λ e i. paths_same new entries alike i e)
    (λ e i. kinds_same new entries alike i e) (λ e i. inodes_same new entries alike i e)
    (λ e i. links_labelled entries labels i e)

-- each group has its label
pub label_is : (entries : List Record) (labels : ℕ → Label) (g : ℕ) → g < groups_in entries
    → label_in (tree_labelled entries labels) g ≡ labels g
label_is entries labels g l =
    let first = has_first entries g l in
    subst (λ n. label_in (tree_labelled entries labels) n ≡ labels n) first.own
    (label_set entries labels _ first.within)
