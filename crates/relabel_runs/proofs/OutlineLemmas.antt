-- Trees that differ in labels and link counts alone are the same in all else.
use Rattle.std.proofs.Common.{◌≡◌, ◌∙◌, ap, ap₂, sym, refl, ℕ, zero, suc, ◌+◌, ◌==◌, Bool, false}
use Rattle.std.proofs.Common.{cond, ◌&&◌, ◌||◌, not, nat_lt, List, [], ◌∷◌, length, map, Option}
use Rattle.std.proofs.Common.{Some, None}
use std.Path.{fun_ext}
use Rattle.std.specs.List.{list_any, position_or_len, prefix_len}
use Rattle.std.proofs.lemmas.List.{length-map}
use Rattle.label_base.specs.Bounded.{all_below, all_numbers, implies}
use Rattle.file_paths.specs.Path.{Path, at_or_below}
use Rattle.label_base.specs.declared.kind.EntryKind.{EntryKind}
use Rattle.context_syntax.specs.declared.label.Label.TheVariants.{Absent}
use Rattle.find_records.specs.Record.{Record}
use Rattle.tree_model.specs.Extents.{entry_at}
use Rattle.tree_model.specs.Groups.{group_of, inodes_behind}
use Rattle.tree_model.specs.Links.{inode_of, same_inode}
use Rattle.tree_model.specs.Selection.{admits_found, is_chosen, selected_by}
use Rattle.tree_model.specs.Tree.{find_in, is_entry_at}
use Rattle.tree_model.specs.declared.choice.Choice.{Choice}

-- an entry without its label and its link count
abbrev pub outline : Record → Record
outline entry = record entry { links = None; label = Absent }

-- trees that are the same but for labels and link counts
abbrev pub SameOutline : List Record → List Record → Type 0
SameOutline a b = map outline a ≡ map outline b

abbrev pub path_in : List Record → ℕ → Path
path_in entries e = (entry_at entries e).path

abbrev pub kind_in : List Record → ℕ → EntryKind
kind_in entries e = (entry_at entries e).kind

abbrev pub inode_at : List Record → ℕ → ℕ × ℕ
inode_at entries e = inode_of (entry_at entries e)

abbrev pub links_at : List Record → ℕ → Option ℕ
links_at entries e = (entry_at entries e).links

abbrev finder : List Record → Path → Option ℕ
finder entries path = find_in path entries

-- ---- what an outline keeps

inodes_kept : (es : List Record) → map inode_of (map outline es) ≡ map inode_of es
inodes_kept [] = refl
inodes_kept (e ∷ es) = ap (λ rest. inode_of e ∷ rest) (inodes_kept es)

path_kept : (es : List Record) (e : ℕ) → (entry_at (map outline es) e).path ≡ (entry_at es e).path
path_kept [] e = refl
path_kept (x ∷ es) zero = refl
path_kept (x ∷ es) (suc e) = path_kept es e

kind_kept : (es : List Record) (e : ℕ) → (entry_at (map outline es) e).kind ≡ (entry_at es e).kind
kind_kept [] e = refl
kind_kept (x ∷ es) zero = refl
kind_kept (x ∷ es) (suc e) = kind_kept es e

inode_kept : (es : List Record) (e : ℕ) → inode_of (entry_at (map outline es) e)
    ≡ inode_of (entry_at es e)
inode_kept [] e = refl
inode_kept (x ∷ es) zero = refl
inode_kept (x ∷ es) (suc e) = inode_kept es e

place_kept : (path : Path) (es : List Record) → prefix_len (λ x. not (is_entry_at path x))
    (map outline es) ≡ prefix_len (λ x. not (is_entry_at path x)) es
place_kept path [] = refl
place_kept path (e ∷ es) = ap (λ k. cond (not (is_entry_at path e)) (1 + k) 0) (place_kept path es)

-- what an outline keeps is the same in trees that are alike
kept_same : {X : Type 0} (f : List Record → X) (a b : List Record)
    → ((es : List Record) → f (map outline es) ≡ f es) → SameOutline a b → f a ≡ f b
kept_same f a b kept alike = sym (kept a) ∙ ap f alike ∙ kept b

pub count_same : (a b : List Record) → SameOutline a b → length a ≡ length b
count_same a b alike = kept_same length a b (λ es. length-map es outline) alike

pub paths_same : (a b : List Record) → SameOutline a b → path_in a ≡ path_in b
paths_same a b alike = kept_same path_in a b (λ es. fun_ext (λ e. path_kept es e)) alike

pub kinds_same : (a b : List Record) → SameOutline a b → kind_in a ≡ kind_in b
kinds_same a b alike = kept_same kind_in a b (λ es. fun_ext (λ e. kind_kept es e)) alike

pub inodes_same : (a b : List Record) → SameOutline a b → inode_at a ≡ inode_at b
inodes_same a b alike = kept_same inode_at a b (λ es. fun_ext (λ e. inode_kept es e)) alike

find_same : (a b : List Record) → SameOutline a b → finder a ≡ finder b
find_same a b alike =
    kept_same finder a b
    (λ es. fun_ext (λ path. ap₂ (λ k n. cond (nat_lt k n) (Some k) None) (place_kept path es)
    (length-map es outline))) alike

pub group_same : (a b : List Record) (e : ℕ) → SameOutline a b → group_of a e ≡ group_of b e
group_same a b e alike =
    kept_same (λ es. group_of es e) a b
    (λ es. ap₂ (λ inode inodes. position_or_len (same_inode inode) (inodes_behind [] inodes))
    (inode_kept es e) (inodes_kept es)) alike

-- ---- what a choice selects

abbrev stays_by : (n : ℕ) (path : ℕ → Path) (inode : ℕ → ℕ × ℕ) (o e : ℕ) → Bool
stays_by n path inode o e =
    all_below n (λ a. implies (at_or_below (path a) (path o) && at_or_below (path e) (path a))
    ((inode a).0 == (inode o).0))

abbrev admits_by : Choice → (n : ℕ) (path : ℕ → Path) (inode : ℕ → ℕ × ℕ) → Option ℕ → ℕ → Bool
admits_by choice n path inode None e = false
admits_by choice n path inode (Some o) e =
    at_or_below (path e) (path o)
    && ((choice.recurse || (o == e)) && (not choice.one_device || stays_by n path inode o e))

abbrev live_by : Choice → (n : ℕ) (path : ℕ → Path) (inode : ℕ → ℕ × ℕ) → (Path → Option ℕ) → ℕ
    → Bool
live_by choice n path inode find e =
    list_any (λ operand. admits_by choice n path inode (find operand) e) choice.operands
    && not (list_any (λ excluded. at_or_below (path e) excluded) choice.excluded)

found_is : (choice : Choice) (entries : List Record) (e : ℕ) (o : Option ℕ)
    → admits_found choice entries o e ≡ admits_by choice (length entries) (path_in entries)
    (inode_at entries) o e
found_is choice entries e None = refl
found_is choice entries e (Some o) = refl

admitting : Choice → List Record → ℕ → Path → Bool
admitting choice entries e path = admits_found choice entries (find_in path entries) e

admitting_by : Choice → List Record → ℕ → Path → Bool
admitting_by choice entries e path = admits_by choice (length entries) (path_in entries)
    (inode_at entries) (find_in path entries) e

admitting_is : (choice : Choice) (entries : List Record) (e : ℕ) → admitting choice entries e
    ≡ admitting_by choice entries e
unfolding admitting admitting_by
admitting_is choice entries e = fun_ext (λ path. found_is choice entries e (find_in path entries))

live_is : (choice : Choice) (entries : List Record) (e : ℕ) → is_chosen choice entries e
    ≡ live_by choice (length entries) (path_in entries) (inode_at entries) (finder entries) e
unfolding admitting admitting_by
live_is choice entries e =
    ap (λ test. list_any test choice.operands && not
    (list_any (λ excluded. at_or_below (path_in entries e) excluded) choice.excluded))
    (admitting_is choice entries e)

live_same : (a b : List Record) (choice : Choice) (e : ℕ) → SameOutline a b → is_chosen choice a e
    ≡ is_chosen choice b e
live_same a b choice e alike =
    live_is choice a e
    ∙ ap (λ n. live_by choice n (path_in a) (inode_at a) (finder a) e) (count_same a b alike)
    ∙ ap (λ path. live_by choice (length b) path (inode_at a) (finder a) e) (paths_same a b alike)
    ∙ ap (λ inode. live_by choice (length b) (path_in b) inode (finder a) e) (inodes_same a b alike)
    ∙ ap (λ find. live_by choice (length b) (path_in b) (inode_at b) find e) (find_same a b alike)
    ∙ sym (live_is choice b e)

pub selected_same : (a b : List Record) (choice : Choice) → SameOutline a b
    → (selected_by choice a).live ≡ (selected_by choice b).live
selected_same a b choice alike =
    ap₂ (λ test n. map test (all_numbers n)) (fun_ext (λ e. live_same a b choice e alike))
    (count_same a b alike)
