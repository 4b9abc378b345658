-- A directory, a file in it, and a specification for the file.
use Rattle.std.proofs.Common.{◌≡◌, ◌∙◌, ap, sym, refl, subst, ℕ, zero, suc, ◌<◌, true, false, List}
use Rattle.std.proofs.Common.{[], ◌∷◌, length, inl, inr, arith}
use Rattle.std.specs.Prelude.{codes, None, Ok}
use Rattle.std.specs.List.{list_all}
use Rattle.label_base.specs.declared.kind.EntryKind.TheVariants.{Directory, Regular}
use Rattle.file_roles.specs.declared.role.Part.TheVariants.{Base}
use Rattle.file_paths.specs.Path.{are_names}
use Rattle.context_syntax.specs.Context.{ContextValue, IsContext, is_word}
use Rattle.context_syntax.specs.TypeNames.{names_in_order, set_of}
use Rattle.context_syntax.specs.declared.label.Label.TheVariants.{Absent, Is}
use Rattle.context_syntax.proofs.NameSets.{empty_row, names_in_order-set_of}
use Rattle.pattern_syntax.specs.Tree.{Both, Nothing, Set, Tree}
use Rattle.pattern_syntax.specs.Language.{holds}
use Rattle.pattern_syntax.specs.Brackets.{dash_part, inner_bracket, item_at, part_behind}
use Rattle.pattern_syntax.specs.Brackets.{parts_from, set_at}
use Rattle.pattern_syntax.specs.ByteSet.{bytes_with}
use Rattle.pattern_syntax.specs.Reading.{first_fault, pattern_of, reads_as}
use Rattle.pattern_syntax.specs.Tokens.{end_anchor, group_at, marked_repeat, repeat_or_byte}
use Rattle.pattern_syntax.specs.Tokens.{start_anchor, token_at, tokens_from}
use Rattle.spec_reader.specs.SpecValue.{SpecValue}
use Rattle.spec_reader.specs.declared.spec.Decision.TheVariants.{Give}
use Rattle.find_records.specs.Record.{Record}
use Rattle.find_records.specs.declared.format.Format.TheVariants.{One}
use Rattle.tree_model.specs.Extents.{entry_at, is_directory}
use Rattle.tree_model.specs.Groups.{label_in}
use Rattle.tree_model.specs.declared.choice.Choice.{Choice}
use Rattle.dir_digest.specs.Basis.{AreRead}
use Rattle.spec_match.specs.LastMatch.{last_index}
use Rattle.label_rules.specs.LookUp.{index_asked}
use Rattle.label_rules.specs.declared.rules.Rules.{Rules}
use Rattle.relabel_core.specs.Walk.{deciding, is_skipped, new_label, skippable, walked, wanted}
use Rattle.relabel_core.specs.Walk.{winner}
use Rattle.relabel_core.specs.declared.options.Options.{Options}
use Rattle.relabel_runs.specs.Premises.{AreTreeRuns, HasTreeRun, IsDigested, NoDigestClash}
use Rattle.relabel_runs.specs.Premises.{listing_in, run_basis}
use Rattle.relabel_runs.specs.Runs.{TreeRun, TreeState, walk_at}
use Rattle.relabel_runs.specs.Witness.{TreeRunsHappen}

abbrev context : ContextValue
context = record { user = codes "u"; role = codes "r"; kind = codes "t"; range = None }

abbrev tree : Tree
tree = Both (Both Nothing (Set (47 ∷ []))) (Set (97 ∷ []))

abbrev spec : SpecValue
spec = record {
  text = codes "/a";
  pattern = tree;
  kind = None;
  decision = Give context;
  part = Base;
  line = 1;
}

abbrev directory : Record
directory =
    record { kind = Directory; device = 1; inode = 1; links = None; label = Absent; path = [] }

abbrev file : Record
file = record {
  kind = Regular;
  device = 1;
  inode = 2;
  links = None;
  label = Absent;
  path = (97 ∷ []) ∷ [];
}

abbrev small : List Record
small = directory ∷ file ∷ []

abbrev rules : Rules
rules = record {
  rules = spec ∷ [];
  subs = record { first = []; second = [] };
  types = set_of [];
}

abbrev choice : Choice
choice = record { operands = [] ∷ []; excluded = []; recurse = true; one_device = false }

abbrev options : Options
options = record {
  force = false;
  dry = false;
  digests = true;
  ignore_digests = false;
  verbose = false;
  warn_unmatched = false;
  strict_links = false;
  ignore_absent = false;
  format = One;
}

abbrev run : TreeRun
run = record { rules = rules; choice = choice; options = options }

-- ---- what is asked

no_types : [] ≡ names_in_order (set_of [])
no_types = names_in_order-set_of [] empty_row.ordered

reads : pattern_of (codes "/a") ≡ Ok tree
unfolding first_fault pattern_of reads_as end_anchor group_at marked_repeat repeat_or_byte
    start_anchor token_at tokens_from dash_part inner_bracket item_at part_behind parts_from set_at
    bytes_with
reads = refl

is_context : IsContext context
is_context = record { user = refl; role = refl; kind = refl; range = refl }

are_read : AreRead (run_basis run)
are_read = record {
  types_few = omega (arith, ap length no_types);
  types = ap (list_all is_word) (sym no_types);
  first = (omega arith, tt);
  second = (omega arith, tt);
  specs = (
    omega arith,
    (record { is_spec = record { pattern = reads; kind = refl }; decision = is_context }, tt),
  );
}

same_run : (r : TreeRun) → HasTreeRun (run ∷ run ∷ []) r → run ≡ r
same_run r has = elim has [ inl e ↦ e | inr has ↦ elim has [ inl e ↦ e | inr h ↦ absurd h ] ]

first_alone : (d : ℕ) → d < 2 → is_directory small d ≡ true → d ≡ 0
first_alone zero l h = refl
first_alone (suc zero) l h = absurd cc
first_alone (suc (suc d)) l h = absurd (omega (arith, l))

none_clash : NoDigestClash small (run ∷ run ∷ [])
none_clash a b has_a has_b d e is_d is_e same =
    ap (λ (r : TreeRun). listing_in r (entry_at small d).path)
    (sym (same_run a has_a) ∙ same_run b has_b)
    ∙ ap (λ x. listing_in b (entry_at small x).path)
    (first_alone d is_d.inside is_d.directory ∙ sym (first_alone e is_e.inside is_e.directory))

named : (d : ℕ) → d < 2 → are_names (entry_at small d).path ≡ true
named zero l = refl
named (suc zero) l = refl
named (suc (suc d)) l = absurd (omega (arith, l))

are_runs : AreTreeRuns small (run ∷ run ∷ [])
are_runs = record {
  paths = named;
  read = λ r has. subst (λ (r : TreeRun). AreRead (run_basis r)) (same_run r has) are_read;
  no_clash = none_clash;
}

-- ---- what happens

abbrev start : TreeState
start = record { labels = label_in small; digests = λ d. None }

is_digested : IsDigested small run 0
is_digested = record { inside = omega arith; digests = refl; directory = refl; whole = refl }

given : new_label (walk_at small start run) 1 ≡ Is context
unfolding deciding is_skipped skippable walked wanted winner index_asked last_index holds
given = refl

pub tree_runs_happen : TreeRunsHappen
tree_runs_happen = record {
  entries = small;
  run = run;
  are_runs = are_runs;
  s = start;
  bare = λ d. refl;
  directory = 0;
  digested = is_digested;
  entry = 1;
  changes = λ e. let c : Is context ≡ Absent = sym given ∙ e in absurd cc;
}
