-- Runs that relabel one tree, one after the other, and the state that they leave.
use Rattle.std.specs.Prelude.{◌≡◌, ℕ, ◌||◌, false, List, [], ◌∷◌, Option, None, map}
use Rattle.label_base.specs.Bounded.{all_numbers}
use Rattle.context_syntax.specs.declared.label.Label.{Label}
use Rattle.find_records.specs.Record.{Record}
use Rattle.find_records.specs.declared.format.Format.{Format}
use Rattle.find_records.specs.declared.format.Format.TheVariants.{One, Two}
use Rattle.tree_model.specs.Groups.{groups_in}
use Rattle.tree_model.specs.Labelled as tree
use Rattle.relabel_core.specs.declared.options.Options.{Options}
use Rattle.tree_model.specs.declared.choice.Choice.{Choice}
use Rattle.relabel_core.specs.Walk.{StoredDigests, Walk, digest_after, new_label}
use Rattle.relabel_core.specs.Walked.{walk_for}
use Rattle.label_rules.specs.declared.rules.Rules.{Rules}

-- a run: what decides labels, what it is asked for, and how it goes; its options tell the format of
-- its records
pub record TreeRun : Type 0 where
  pub rules : Rules
  pub choice : Choice
  pub options : Options

-- What runs change of a tree: the label of each group, which are the names of one inode, and the
-- digest that is stored for each directory that has one. All else of the tree stays as it is, the
-- link counts included.
pub record TreeState : Type 0 where
  pub labels : ℕ → Label
  pub digests : StoredDigests

-- the tree with these labels of its groups
abbrev pub tree_labelled : List Record → (ℕ → Label) → List Record
tree_labelled entries labels = tree.labelled (map labels (all_numbers (groups_in entries))) entries

-- what a record has of a link count: nothing where the format has none
abbrev pub links_read : Format → Option ℕ → Option ℕ
links_read One links = None
links_read Two links = links

-- the tree as records of a format tell it
abbrev pub records_read_as : Format → List Record → List Record
records_read_as format entries =
    map (λ (entry : Record). record entry { links = links_read format entry.links }) entries

-- the walk of a run over the tree in a state
abbrev pub walk_at : List Record → TreeState → TreeRun → Walk
walk_at entries s run =
    walk_for (tree_labelled (records_read_as run.options.format entries) s.labels) run.choice
    run.rules
    run.options s.digests

-- the state after a run
abbrev pub state_after : List Record → TreeState → TreeRun → TreeState
state_after entries s run =
    record {
      labels = new_label (walk_at entries s run);
      digests = digest_after (walk_at entries s run);
    }

-- the state after all runs, in their order
abbrev pub end : List Record → TreeState → List TreeRun → TreeState
end entries s [] = s
end entries s (run ∷ runs) = end entries (state_after entries s run) runs

-- The same run with skipping off: digests are made, if it makes any, and none is looked at.
abbrev pub not_skipping : TreeRun → TreeRun
not_skipping run =
    record run {
      options = record run.options {
        digests = false;
        ignore_digests = run.options.digests || run.options.ignore_digests;
      };
    }

-- the state after all runs, each with skipping off
abbrev pub end_off : List Record → TreeState → List TreeRun → TreeState
end_off entries s runs = end entries s (map not_skipping runs)

-- no directory has a digest
abbrev pub IsBareState : TreeState → Type 0
IsBareState s = (d : ℕ) → s.digests d ≡ None
