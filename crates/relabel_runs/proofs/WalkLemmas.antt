-- A walk as a run over an abstract tree.
use Rattle.std.proofs.Common.{◌≡◌, ◌∙◌, ap, ap₂, sym, refl, ℕ, ◌==◌, Bool, true, false, cond, ◌&&◌}
use Rattle.std.proofs.Common.{◌||◌, not, List, length, get_or, Option, Some, None, is_some}
use Rattle.std.proofs.Common.{option_and_then}
use Rattle.sha1.specs.Sha1.{sha1}
use Rattle.std.proofs.lemmas.Bool.{and_parts}
use Rattle.label_base.specs.Text.{same_bytes}
use Rattle.file_paths.specs.Path.{Path}
use Rattle.label_base.specs.declared.kind.EntryKind.{EntryKind}
use Rattle.label_base.specs.declared.kind.Asked.TheVariants.{Of}
use Rattle.label_base.proofs.BoundedLemmas.{any_same, least_case, least_same}
use Rattle.context_syntax.specs.Context.{ContextValue}
use Rattle.context_syntax.specs.Label.{same_label}
use Rattle.context_syntax.specs.declared.label.Label.{Label}
use Rattle.spec_reader.specs.SpecValue.{SpecValue}
use Rattle.dir_digest.specs.Digest.{digest_at, void_digest}
use Rattle.dir_digest.specs.ListingBytes.{listing_bytes}
use Rattle.dir_digest.specs.Basis.{listing_on}
use Rattle.find_records.specs.Record.{Record}
use Rattle.tree_model.specs.Extents.{entry_at, in_extent, is_directory}
use Rattle.tree_model.specs.Groups.{closed_at, group_of, label_in}
use Rattle.tree_model.specs.Selection.{whole_at}
use Rattle.relabel_core.specs.declared.options.Options.{Options}
use Rattle.skip_runs.specs.Relabel as runs
use Rattle.skip_runs.specs.Relabel.{Decision, Nothing, Give, Kinds, WalkedTree}
use Rattle.label_rules.specs.Decide.{label_by, verdict_for}
use Rattle.relabel_core.specs.DigestBasis.{basis_by}
use Rattle.relabel_core.specs.Walk.{Walk, can_win, walk_count, deciding, digest_after, digest_now}
use Rattle.relabel_core.specs.Walk.{has_changed_name, is_changed, is_current, is_outdated}
use Rattle.relabel_core.specs.Walk.{is_renewed, is_skipped, new_label, skippable, verdict_where}
use Rattle.relabel_core.specs.Walk.{walked, wanted, winner}
use Rattle.label_rules.specs.LookUp.{given_at, index_asked, index_for}
use Rattle.label_rules.specs.declared.rules.Rules.{Rules}
use Rattle.relabel_runs.proofs.DecideLemmas.{given, label_given}
use Rattle.relabel_runs.proofs.OutlineLemmas.{kind_in, path_in}

-- labels and contexts as they are, listings by their bytes, and the digests of these
abbrev pub kinds : Kinds
kinds =
    record {
      Label = Label;
      Context = ContextValue;
      Listing = List ℕ;
      Digest = List ℕ;
      same_label = same_label;
      same_digest = same_bytes;
      digest_of = sha1;
      zero_digest = void_digest;
    }

abbrev pub tree_of : List Record → WalkedTree
tree_of entries =
    record {
      count = length entries;
      group_of = group_of entries;
      is_directory = is_directory entries;
      in_extent = in_extent entries;
    }

abbrev pub as_decision : Option ContextValue → Decision ContextValue
as_decision None = Nothing
as_decision (Some context) = Give context

-- the context that is decided for an entry with this path and kind
abbrev pub context_for : Rules → Path → EntryKind → Option ContextValue
context_for rules path kind = given_at rules.rules (index_asked rules path (Of kind))

abbrev pub run_by : (path : ℕ → Path) (kind : ℕ → EntryKind) → (live : List Bool)
    → (closed : ℕ → Bool) → Rules → Options → runs.Relabelling kinds
run_by path kind live closed rules options =
    record {
      live = λ e. get_or live e false;
      closed = closed;
      decision = λ e. as_decision (context_for rules (path e) (kind e));
      decide = λ label wanted. given (verdict_for label wanted options.force rules.types);
      listing = λ d. listing_bytes (listing_on (basis_by rules options) (path d));
      dry = options.dry;
      skips = options.digests;
      renews = options.ignore_digests;
    }

abbrev pub run_of : Walk → runs.Relabelling kinds
run_of w = run_by (path_in w.entries) (kind_in w.entries) w.live (closed_at w.entries) w.rules
    w.options

abbrev pub state_of : Walk → runs.State kinds
state_of w = record { labels = label_in w.entries; digests = w.stored }

-- what the run walks
abbrev walks : Walk → ℕ → Bool
walks w = runs.walked_in (tree_of w.entries) (run_of w)
    (runs.skippable_in (tree_of w.entries) (run_of w) (state_of w))

-- ---- what is skipped

current_same : (stored : Option (List ℕ)) (digest listing : List ℕ) → digest ≡ sha1 listing
    → is_current stored digest ≡ runs.is_current_in kinds stored listing
current_same None digest listing e = refl
current_same (Some stored) digest listing e =
    ap (λ d. not (same_bytes stored void_digest) && same_bytes stored d) e

digest_same : (w : Walk) (d : ℕ) → digest_now w d ≡ sha1 ((run_of w).listing d)
unfolding digest_now digest_at
digest_same w d = refl

turned : (a b c x : Bool) → ((a && (b && c)) && x) ≡ (((b && a) && c) && x)
turned true true c x = refl
turned true false c x = refl
turned false true c x = refl
turned false false c x = refl

skip_same : (w : Walk) (d : ℕ) → skippable w d ≡ runs.skippable_in (tree_of w.entries) (run_of w)
    (state_of w) d
unfolding skippable
skip_same w d =
    turned (w.options.digests && not w.options.ignore_digests) (is_directory w.entries d)
    (whole_at w.entries w.live d) (is_current (w.stored d) (digest_now w d))
    ∙ ap (λ b. ((is_directory w.entries d && (w.options.digests && not w.options.ignore_digests))
    && whole_at w.entries w.live d) && b)
    (current_same (w.stored d) (digest_now w d) ((run_of w).listing d) (digest_same w d))

walked_same : (w : Walk) (e : ℕ) → walked w e ≡ walks w e
unfolding walked is_skipped
walked_same w e =
    ap (λ b. get_or w.live e false && not b)
    (any_same (walk_count w) (λ d. skippable w d && in_extent w.entries d e)
    (λ d. runs.skippable_in (tree_of w.entries) (run_of w) (state_of w) d && in_extent w.entries
    d e)
    (λ d l. ap (λ b. b && in_extent w.entries d e) (skip_same w d)))

-- ---- who wins

gives_some : (o : Option ContextValue) → is_some o ≡ runs.gives_context (as_decision o)
gives_some None = refl
gives_some (Some context) = refl

context_back : (o : Option ContextValue) → runs.decided_context (as_decision o) ≡ o
context_back None = refl
context_back (Some context) = refl

is_given : (specs : List SpecValue) (index : Option ℕ) (b : Bool)
    → is_some (given_at specs (cond b index None))
    ≡ (b && runs.gives_context (as_decision (given_at specs index)))
is_given specs index true = gives_some (given_at specs index)
is_given specs index false = refl

given_there : (specs : List SpecValue) (index : Option ℕ) (b : Bool)
    → is_some (given_at specs (cond b index None)) ≡ true → given_at specs (cond b index None)
    ≡ runs.decided_context (as_decision (given_at specs index))
given_there specs index true h = sym (context_back (given_at specs index))
given_there specs index false h = cc

wins_same : (w : Walk) (g e : ℕ) → can_win w g e ≡ runs.can_win_in (tree_of w.entries) (run_of w)
    (walks w) g e
unfolding wanted deciding
wins_same w g e =
    ap (λ b. (group_of w.entries e == g) && b)
    (is_given w.rules.rules (index_for w.rules (entry_at w.entries e)) (walked w e)
    ∙ ap (λ b. b && runs.gives_context
    (as_decision (given_at w.rules.rules (index_for w.rules (entry_at w.entries e)))))
    (walked_same w e))

winner_same : (w : Walk) (g : ℕ) → winner w g ≡ runs.winner_in (tree_of w.entries) (run_of w)
    (walks w) g
unfolding winner
winner_same w g =
    least_same (walk_count w) (can_win w g)
    (runs.can_win_in (tree_of w.entries) (run_of w) (walks w) g) (λ e l. wins_same w g e)

wanted_there : (w : Walk) (e : ℕ) → is_some (wanted w e) ≡ true
    → wanted w e ≡ runs.decided_context ((run_of w).decision e)
unfolding wanted deciding
wanted_there w e h = given_there w.rules.rules (index_for w.rules (entry_at w.entries e))
    (walked w e) h

wanted_same : (w : Walk) (g : ℕ) → option_and_then (wanted w) (winner w g) ≡ runs.wanted_by
    (run_of w) (winner w g)
unfolding winner
wanted_same w g =
    least_case (walk_count w) (can_win w g)
    (λ o. option_and_then (wanted w) o ≡ runs.wanted_by (run_of w) o) refl
    (λ k l h. wanted_there w k (and_parts (group_of w.entries k == g) (is_some (wanted w k)) h).1)

-- ---- labels

verdict_same : (w : Walk) (g : ℕ) (o : Option ContextValue)
    → label_by (verdict_where w g o) (label_in w.entries g) ≡ runs.relabelled (run_of w)
    (label_in w.entries g) o
verdict_same w g None = refl
verdict_same w g (Some context) =
    sym (label_given (verdict_for (label_in w.entries g) context w.options.force w.rules.types)
    (label_in w.entries g))

-- the label that a group gets, where the run isn't dry
relabelled_same : (w : Walk) (g : ℕ)
    → label_by (verdict_where w g (option_and_then (wanted w) (winner w g))) (label_in w.entries g)
    ≡ runs.new_label_in (tree_of w.entries) (run_of w) (walks w) (label_in w.entries) g
relabelled_same w g =
    verdict_same w g (option_and_then (wanted w) (winner w g))
    ∙ ap (λ o. runs.relabelled (run_of w) (label_in w.entries g) o)
    (wanted_same w g ∙ ap (λ found. runs.wanted_by (run_of w) found) (winner_same w g))

labels_of : (b : Bool) (s n : runs.State kinds) (g : ℕ) → cond b (s.labels g) (n.labels g)
    ≡ (cond b s n).labels g
labels_of true s n g = refl
labels_of false s n g = refl

digests_of : (b : Bool) (s n : runs.State kinds) (d : ℕ) → cond b (s.digests d) (n.digests d)
    ≡ (cond b s n).digests d
digests_of true s n d = refl
digests_of false s n d = refl

-- what a run leaves that isn't dry
abbrev left : Walk → runs.State kinds
left w =
    record {
      labels = runs.new_label_in (tree_of w.entries) (run_of w) (walks w) (label_in w.entries);
      digests = runs.new_digest (tree_of w.entries) (run_of w) (walks w) (state_of w);
    }

pub label_same : (w : Walk) (g : ℕ)
    → new_label w g ≡ (runs.after (tree_of w.entries) (state_of w) (run_of w)).labels g
label_same w g =
    ap (λ label. cond w.options.dry (label_in w.entries g) label) (relabelled_same w g)
    ∙ labels_of w.options.dry (state_of w) (left w) g

-- ---- digests

wet_label : (w : Walk) (g : ℕ) → w.options.dry ≡ false
    → new_label w g ≡ runs.new_label_in (tree_of w.entries) (run_of w) (walks w)
    (label_in w.entries) g
wet_label w g wet =
    ap (λ b. cond b (label_in w.entries g)
    (label_by (verdict_where w g (option_and_then (wanted w) (winner w g)))
    (label_in w.entries g))) wet ∙ relabelled_same w g

above_same : (w : Walk) (d : ℕ) → w.options.dry ≡ false → has_changed_name w d ≡ runs.above_change
    (tree_of w.entries) (run_of w) (walks w) (label_in w.entries) d
unfolding has_changed_name
above_same w d wet =
    any_same (walk_count w) (λ e. in_extent w.entries d e && is_changed w (group_of w.entries e))
    (λ e. in_extent w.entries d e && runs.changed (tree_of w.entries) (run_of w) (walks w)
    (label_in w.entries) (group_of w.entries e))
    (λ e l. ap (λ label. in_extent w.entries d e && not
    (same_label label (label_in w.entries (group_of w.entries e))))
    (wet_label w (group_of w.entries e) wet))

renewed_turned : (a b c x : Bool) → ((x && a) && (b && c)) ≡ (((b && a) && c) && x)
renewed_turned true true true true = refl
renewed_turned true true true false = refl
renewed_turned true true false true = refl
renewed_turned true true false false = refl
renewed_turned true false c true = refl
renewed_turned true false c false = refl
renewed_turned false true c true = refl
renewed_turned false true c false = refl
renewed_turned false false c true = refl
renewed_turned false false c false = refl

renewed_same : (w : Walk) (d : ℕ) → is_renewed w d ≡ runs.renewed (tree_of w.entries) (run_of w)
    (walks w) d
unfolding is_renewed
renewed_same w d =
    renewed_turned (walked w d) (is_directory w.entries d) (whole_at w.entries w.live d)
    (w.options.digests || w.options.ignore_digests)
    ∙ ap (λ b. ((is_directory w.entries d && b) && whole_at w.entries w.live d)
    && (w.options.digests || w.options.ignore_digests)) (walked_same w d)

zeroed_same : (stored : Option (List ℕ)) (void : Bool)
    → cond (is_some stored && void) (Some void_digest) stored ≡ runs.zeroed kinds stored void
zeroed_same None void = refl
zeroed_same (Some stored) true = refl
zeroed_same (Some stored) false = refl

new_digest_same : (w : Walk) (d : ℕ) → w.options.dry ≡ false
    → cond (is_renewed w d) (Some (digest_now w d))
    (cond (is_outdated w d) (Some void_digest) (w.stored d)) ≡ runs.new_digest
    (tree_of w.entries) (run_of w) (walks w) (state_of w) d
new_digest_same w d wet =
    ap₂ (λ b digest. cond b (Some digest) (cond (is_outdated w d) (Some void_digest) (w.stored d)))
    (renewed_same w d) (digest_same w d)
    ∙ ap (λ rest. cond (runs.renewed (tree_of w.entries) (run_of w) (walks w) d)
    (Some (sha1 ((run_of w).listing d))) rest)
    (ap (λ b. cond (is_some (w.stored d) && b) (Some void_digest) (w.stored d)) (above_same w d wet)
    ∙ zeroed_same (w.stored d)
    (runs.above_change (tree_of w.entries) (run_of w) (walks w) (label_in w.entries) d))

dry_or : {X : Type 0} (b : Bool) (x y z : X) → (b ≡ false → y ≡ z) → cond b x y ≡ cond b x z
dry_or true x y z h = refl
dry_or false x y z h = h refl

pub digest_after_same : (w : Walk) (d : ℕ)
    → digest_after w d ≡ (runs.after (tree_of w.entries) (state_of w) (run_of w)).digests d
unfolding digest_after
digest_after_same w d =
    dry_or w.options.dry (w.stored d)
    (cond (is_renewed w d) (Some (digest_now w d))
    (cond (is_outdated w d) (Some void_digest) (w.stored d)))
    (runs.new_digest (tree_of w.entries) (run_of w) (walks w) (state_of w) d) (new_digest_same w d)
    ∙ digests_of w.options.dry (state_of w) (left w) d
