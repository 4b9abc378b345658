-- A tree whose labels change, and nothing else.
use Rattle.std.proofs.Common.{◌≡◌, ◌∙◌, ap, sym, refl, subst, ℕ, zero, suc, ◌+◌, ◌<◌, ◌==◌, inl}
use Rattle.std.proofs.Common.{inr, Bool, false, cond, List, [], ◌∷◌, length, map, filter, get_or}
use Rattle.std.proofs.Common.{arith}
use Rattle.std.specs.Prelude.{◌&&◌, ◌||◌, not, nat_lt, is_some, Option, Some, None}
use Rattle.std.specs.List.{position, prefix_len}
use Rattle.std.specs.declared.cmp.Ordering.TheVariants.{Less}
use Rattle.std.proofs.Math.Path.{fun_ext}
use Rattle.std.proofs.lemmas.Bool.{cases_lt}
use Rattle.std.proofs.lemmas.List.{ext_get_or, get_or_default, get_or-map, length-map}
use Rattle.std.proofs.Math.ListN.{get_or-eq_default}
use Rattle.label_base.specs.Bounded.{all_below, all_numbers, greatest_below, implies}
use Rattle.file_paths.specs.Path.{Path, path_cmp, at_or_below, strictly_below}
use Rattle.label_base.proofs.BoundedLemmas.{count_numbers}
use Rattle.context_syntax.specs.declared.label.Label.{Label}
use Rattle.context_syntax.specs.declared.label.Label.TheVariants.{Absent}
use Rattle.find_records.specs.Labelled.{with_label, with_labels}
use Rattle.find_records.specs.Places.{ArePlaces, no_record}
use Rattle.find_records.specs.Record.{Record}
use Rattle.tree_model.specs.Entries.{same_path}
use Rattle.tree_model.specs.Extents.{entry_at, extent_of, in_extent, is_above, is_directory}
use Rattle.tree_model.specs.Extents.{one_behind, parent_of}
use Rattle.tree_model.specs.GroupLists.{AreGroupStarts, groups_behind, names_below}
use Rattle.tree_model.specs.Groups.{closed_at, group_of, groups_in, has_more_names, is_met}
use Rattle.tree_model.specs.Groups.{inodes_behind, inodes_of}
use Rattle.tree_model.specs.Jobs.{directories_in}
use Rattle.tree_model.specs.Kept.{IsTreeKept}
use Rattle.tree_model.specs.Labelled.{DifferInLabels, labelled, labelled_at}
use Rattle.tree_model.specs.Links.{inode_of, same_inode}
use Rattle.tree_model.specs.Selection.{absent_from, admits_found, is_admitted, is_excluded}
use Rattle.tree_model.specs.Selection.{is_chosen, selected_by, stays_on, whole_at}
use Rattle.tree_model.specs.Tree.{ByPath, IsTree, find_in}
use Rattle.tree_model.specs.declared.groups.Groups.{Groups}
use Rattle.tree_model.specs.declared.choice.Choice.{Choice}
use Rattle.tree_model.proofs.DeadLemmas.{number_at}

-- ---- numbers

pub mapped_at : {X : Type 0} (f : ℕ → X) → (n e : ℕ) (d : X) → e < n
    → get_or (map f (all_numbers n)) e d ≡ f e
mapped_at f n e d l = get_or-map f (all_numbers n) e 0 d (omega (arith, l, count_numbers n))
    ∙ ap f (number_at n e l)

-- ---- as records are labelled by numbers

pub with_count : (labels : List Label) (ns : List ℕ) (rs : List Record) → length ns ≡ length rs
    → length (with_labels labels ns rs) ≡ length rs
with_count labels [] [] e = refl
with_count labels [] (r ∷ rs) e = absurd (omega (arith, e))
with_count labels (n ∷ ns) [] e = absurd (omega (arith, e))
with_count labels (n ∷ ns) (r ∷ rs) e = ap suc (with_count labels ns rs (omega (arith, e)))

pub with_at : (labels : List Label) (ns : List ℕ) (rs : List Record) (e : ℕ) → length ns ≡ length rs
    → e < length rs
    → get_or (with_labels labels ns rs) e no_record
    ≡ with_label (get_or labels (get_or ns e 0) Absent) (get_or rs e no_record)
with_at labels [] [] e s l = absurd (omega (arith, l))
with_at labels [] (r ∷ rs) e s l = absurd (omega (arith, s))
with_at labels (n ∷ ns) [] e s l = absurd (omega (arith, s))
with_at labels (n ∷ ns) (r ∷ rs) zero s l = refl
with_at labels (n ∷ ns) (r ∷ rs) (suc e) s l =
    with_at labels ns rs e (omega (arith, s)) (omega (arith, l))

pub with_groups : (labels : List Label) (groups : List ℕ) (entries : List Record)
    → length groups ≡ length entries
    → ((e : ℕ) → e < length entries → get_or groups e 0 ≡ group_of entries e)
    → with_labels labels groups entries ≡ labelled labels entries
with_groups labels groups entries s own =
    ext_get_or no_record (with_labels labels groups entries) (labelled labels entries)
    (with_count labels groups entries s ∙ sym (count_numbers (length entries))
    ∙ sym (length-map (all_numbers (length entries)) (labelled_at labels entries)))
    (λ e l.
    let w : e < length entries = omega (arith, l, with_count labels groups entries s) in
    with_at labels groups entries e s w
    ∙ ap (λ g. with_label (get_or labels g Absent) (entry_at entries e)) (own e w)
    ∙ sym (mapped_at (labelled_at labels entries) (length entries) e no_record w))

-- ---- what stays

-- a part of each record is the same
stays : {X : Type 0} (f : Record → X) → (old new : List Record) → length new ≡ length old
    → ((e : ℕ) → e < length old → f (entry_at new e) ≡ f (entry_at old e)) → (e : ℕ)
    → f (entry_at new e) ≡ f (entry_at old e)
stays f old new s h e = elim (cases_lt e (length old)) [
  | inl lt ↦ h e lt
  | inr ge ↦ ap f (get_or-eq_default new no_record {n = e} (omega (arith, ge, s))
      ∙ sym (get_or-eq_default old no_record {n = e} ge))
]

prefix_map : {X Y : Type 0} (p : Y → Bool) (f : X → Y) → (xs : List X)
    → prefix_len (λ x. p (f x)) xs ≡ prefix_len p (map f xs)
prefix_map p f [] = refl
prefix_map p f (x ∷ xs) = ap (λ n. cond (p (f x)) (1 + n) 0) (prefix_map p f xs)

position_map : {X Y : Type 0} (p : Y → Bool) (f : X → Y) → (xs : List X)
    → position (λ x. p (f x)) xs ≡ position p (map f xs)
position_map p f xs =
    (λ i. cond (nat_lt (prefix_map (λ y. not (p y)) f xs i) (sym (length-map xs f) i))
    (Some (prefix_map (λ y. not (p y)) f xs i)) None)

abbrev admitted_if : Bool → Bool → Bool → Bool → Bool
admitted_if inside chosen one_device stays = inside && (chosen && (not one_device || stays))

module _ (old new : List Record) (count : length new ≡ length old)
    (paths : (e : ℕ) → (entry_at new e).path ≡ (entry_at old e).path)
    (kinds : (e : ℕ) → (entry_at new e).kind ≡ (entry_at old e).kind)
    (inodes : (e : ℕ) → inode_of (entry_at new e) ≡ inode_of (entry_at old e))
    (links : (e : ℕ) → (entry_at new e).links ≡ (entry_at old e).links) where
  insides : in_extent new ≡ in_extent old
  insides = fun_ext (λ d. fun_ext (λ e i. at_or_below (paths e i) (paths d i)))

  directories : (d : ℕ) → is_directory new d ≡ is_directory old d
  directories d =
      ap (λ k. is_directory
      (record { kind = k; device = 0; inode = 0; links = None; label = Absent; path = [] } ∷ []) 0)
      (kinds d)

  aboves : is_above new ≡ is_above old
  aboves = fun_ext (λ e. fun_ext (λ d i. directories d i && strictly_below (paths e i) (paths d i)))

  extents : (d : ℕ) → extent_of new d ≡ extent_of old d
  extents d i = one_behind (greatest_below (count i) (insides i d))

  parents : (e : ℕ) → parent_of new e ≡ parent_of old e
  parents e i = greatest_below (count i) (aboves i e)

  pub rises : ByPath old → ByPath new
  rises up i j d l m =
      let shown : (k : ℕ) → k < length new → get_or new k d ≡ entry_at new k =
      λ k h. get_or_default new k d no_record h in
      subst (λ p. path_cmp p (get_or new j d).path ≡ Less)
      (sym (ap (λ r. r.path) (shown i (omega (arith, l, m))) ∙ paths i))
      (subst (λ p. path_cmp (entry_at old i).path p ≡ Less)
      (sym (ap (λ r. r.path) (shown j m) ∙ paths j))
      (up i j no_record l (omega (arith, m, count))))

  all_same : {X : Type 0} (f : Record → X) → ((e : ℕ) → f (entry_at new e) ≡ f (entry_at old e))
      → map f new ≡ map f old
  all_same f h =
      ext_get_or (f no_record) (map f new) (map f old)
      (length-map new f ∙ count ∙ sym (length-map old f))
      (λ e l.
      let w : e < length new = omega (arith, l, length-map new f) in
      get_or-map f new e no_record (f no_record) w ∙ h e
      ∙ sym (get_or-map f old e no_record (f no_record) (omega (arith, w, count))))

  own_inodes : inodes_of new ≡ inodes_of old
  own_inodes = ap (inodes_behind []) (all_same inode_of inodes)

  groups : (e : ℕ) → group_of new e ≡ group_of old e
  groups e i = prefix_len (λ x. not (same_inode (inodes e i) x)) (own_inodes i)

  own_directories : directories_in new ≡ directories_in old
  own_directories = let same : is_directory new ≡ is_directory old = fun_ext directories in
      λ i. filter (same i) (all_numbers (count i))

  names : (e : ℕ) → has_more_names new e ≡ has_more_names old e
  names e i = directories e i || is_met (links e i)
      (length (filter (λ x. groups x i == groups e i) (all_numbers (count i))))

  closed : closed_at new ≡ closed_at old
  closed = fun_ext (λ d i.
      all_below (count i)
      (λ e. implies (insides i d e)
      (all_below (count i) (λ x. implies (groups x i == groups e i) (insides i d x))))
      && all_below (count i) (λ e. implies (insides i d e) (names e i)))

  founds : (path : Path) → find_in path new ≡ find_in path old
  founds path =
      position_map (λ p. same_path p path) (λ r. r.path) new
      ∙ ap (position (λ p. same_path p path)) (all_same (λ r. r.path) paths)
      ∙ sym (position_map (λ p. same_path p path) (λ r. r.path) old)

  stay_on : (o e : ℕ) → stays_on new o e ≡ stays_on old o e
  stay_on o e i =
      all_below (count i)
      (λ a. implies (insides i o a && insides i a e) ((inodes a i).0 == (inodes o i).0))

  admit : (choice : Choice) (found : Option ℕ) (e : ℕ) → admits_found choice new found e
      ≡ admits_found choice old found e
  admit choice None e = refl
  admit choice (Some o) e = λ i. admitted_if (insides i o e) (choice.recurse || (o == e))
      choice.one_device (stay_on o e i)

  admitted : (choice : Choice) (operands : List Path) (e : ℕ) → is_admitted choice new operands e
      ≡ is_admitted choice old operands e
  admitted choice [] e = refl
  admitted choice (p ∷ ps) e =
      λ i. (ap (λ found. admits_found choice new found e) (founds p)
      ∙ admit choice (find_in p old) e) i || admitted choice ps e i

  excluded : (left : List Path) (e : ℕ) → is_excluded new left e ≡ is_excluded old left e
  excluded [] e = refl
  excluded (p ∷ ps) e = λ i. at_or_below (paths e i) p || excluded ps e i

  lives : (choice : Choice) → is_chosen choice new ≡ is_chosen choice old
  lives choice =
      fun_ext (λ e i. admitted choice choice.operands e i && not (excluded choice.excluded e i))

  absents : (index : ℕ) (operands : List Path) → absent_from index new operands ≡ absent_from index
      old operands
  absents index [] = refl
  absents index (p ∷ ps) = λ i. cond (is_some (founds p i)) (absents (suc index) ps i)
      (index ∷ absents (suc index) ps i)

  pub selections : (choice : Choice) → selected_by choice new ≡ selected_by choice old
  selections choice i =
      record {
        live = map (lives choice i) (all_numbers (count i));
        absent = absents 0
            choice.operands i;
      }

  wholes : (live : List Bool) (d : ℕ) → whole_at new live d ≡ whole_at old live d
  wholes live d i =
      closed i d && all_below (count i) (λ e. implies (insides i d e) (get_or live e false))

  pub differ : DifferInLabels old new
  differ = record {
    count = count;
    paths = paths;
    kinds = kinds;
    links = links;
    directories = directories;
    found = founds;
    parents = parents;
    extents = extents;
    groups = groups;
    group_count = ap length own_inodes;
    selected = selections;
    whole = wholes;
  }

  pub kept_too : (ends ends' : List ℕ) (had has : Groups) (dirs dirs' : List ℕ) → ends' ≡ ends
      → dirs' ≡ dirs → has.total ≡ had.total → has.group_of.items ≡ had.group_of.items
      → has.names.items ≡ had.names.items
      → has.starts.items ≡ had.starts.items → has.closed.items ≡ had.closed.items
      → IsTreeKept old ends had dirs → IsTreeKept new ends' has dirs'
  kept_too ends ends' had has dirs dirs' e same t g n s c k = record {
    by_path = rises k.by_path;
    ends_are = record {
      count = ap length e ∙ k.ends_are.count ∙ sym count;
      each = λ d low l. ap (λ ws. get_or ws d 0) e ∙ k.ends_are.each d low (omega (arith, l, count))
          ∙ sym (extents d);
    };
    groups_are = record {
      total_is = t ∙ k.groups_are.total_is ∙ ap length (sym own_inodes);
      lists = record {
        groups_are = g ∙ k.groups_are.lists.groups_are
            ∙ ap (groups_behind []) (sym (all_same inode_of inodes));
        names_are = n ∙ k.groups_are.lists.names_are
            ∙ sym (λ i. names_below (g i) (length (own_inodes i)));
        starts_are = subst (λ gs. AreGroupStarts gs (groups_in new + 1) has.starts.items) (sym g)
            (subst (λ m. AreGroupStarts had.group_of.items (m + 1) has.starts.items)
            (ap length (sym own_inodes))
            (subst (AreGroupStarts had.group_of.items (groups_in old + 1)) (sym s)
            k.groups_are.lists.starts_are));
      };
      count = ap length c ∙ k.groups_are.count ∙ sym count;
      closed_are = λ d l. ap (λ fs. get_or fs d false) c
          ∙ k.groups_are.closed_are d (omega (arith, l, count)) ∙ sym (ap (λ f. f d) closed);
    };
    directories_are = same ∙ k.directories_are ∙ sym own_directories;
  }

-- ---- labels by numbers

module _ (labels : List Label) (numbers : List ℕ) (entries : List Record)
    (counted : length numbers ≡ length entries) where
  abbrev new : List Record
  new = with_labels labels numbers entries

  with_part : {X : Type 0} (f : Record → X)
      → ((label : Label) (r : Record) → f (with_label label r) ≡ f r) → (e : ℕ)
      → f (entry_at new e) ≡ f (entry_at entries e)
  with_part f h e =
      stays f entries new (with_count labels numbers entries counted)
      (λ k l. ap f (with_at labels numbers entries k counted l)
      ∙ h (get_or labels (get_or numbers k 0) Absent) (entry_at entries k)) e

  pub with_tree : IsTree entries → IsTree new
  with_tree tree = record {
    by_path = rises entries new (with_count labels numbers entries counted)
        (with_part (λ r. r.path) (λ l r. refl)) (with_part (λ r. r.kind) (λ l r. refl))
        (with_part inode_of (λ l r. refl)) (with_part (λ r. r.links) (λ l r. refl)) tree.by_path;
    few = omega (arith, with_count labels numbers entries counted, tree.few);
  }

  pub with_differ : DifferInLabels entries new
  with_differ = differ entries new (with_count labels numbers entries counted)
      (with_part (λ r. r.path) (λ l r. refl)) (with_part (λ r. r.kind) (λ l r. refl))
      (with_part inode_of (λ l r. refl)) (with_part (λ r. r.links) (λ l r. refl))

  pub with_kept : (ends ends' : List ℕ) (had has : Groups) (dirs dirs' : List ℕ) → ends' ≡ ends
      → dirs' ≡ dirs → has.total ≡ had.total → has.group_of.items ≡ had.group_of.items
      → has.names.items ≡ had.names.items
      → has.starts.items ≡ had.starts.items → has.closed.items ≡ had.closed.items
      → IsTreeKept entries ends had dirs → IsTreeKept new ends' has dirs'
  with_kept = kept_too entries new (with_count labels numbers entries counted)
      (with_part (λ r. r.path) (λ l r. refl)) (with_part (λ r. r.kind) (λ l r. refl))
      (with_part inode_of (λ l r. refl)) (with_part (λ r. r.links) (λ l r. refl))

-- numbers below a bound are places
pub are_places : (count : ℕ) (numbers : List ℕ)
    → ((e : ℕ) → e < length numbers → get_or numbers e 0 < count) → ArePlaces count numbers
are_places count [] h = tt
are_places count (n ∷ ns) h =
    (h 0 (omega arith), are_places count ns (λ e l. h (suc e) (omega (arith, l))))
