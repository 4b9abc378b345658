-- What the tests of equality decide.
use Rattle.std.proofs.Common.{◌≡◌, ◌∙◌, ap, sym, refl, subst, ℕ, ◌==◌, Bool, true, false, List}
use Rattle.std.proofs.Common.{eq-eqb}
use borrow.Author.Tests.{eqb-true}
use Rattle.std.proofs.lemmas.Bool.{false_from_ne_true, and_from, not-true, and_parts}
use Rattle.std.proofs.lemmas.Bool.{not_from_false}
use Rattle.std.specs.Prelude.{Option, Some, None, ◌&&◌, not, if◌then◌else◌}
use Rattle.std.specs.Ordering.{is_eq, nat_cmp}
use Rattle.std.specs.Cmp.Lexicographic.{lists_ties, texts_ties, slice_cmp, pointwise_decides}
use Rattle.std.specs.Cmp.Lexicographic.{bytes_decides}
use Rattle.label_base.specs.Text.{same_bytes}
use Rattle.file_paths.specs.Path.{Path, path_cmp}
use Rattle.label_base.specs.Kind.{kind_number, same_kind}
use Rattle.label_base.specs.declared.kind.EntryKind.{EntryKind}
use Rattle.label_base.specs.declared.kind.EntryKind.TheVariants.{Regular, Directory, Link, Pipe}
use Rattle.label_base.specs.declared.kind.EntryKind.TheVariants.{Socket, Block, Char, Other}
use Rattle.context_syntax.specs.Context.{ContextValue, same_context, same_option}
use Rattle.context_syntax.specs.Label.{same_label}
use Rattle.context_syntax.specs.declared.label.Label.{Label}
use Rattle.context_syntax.specs.declared.label.Label.TheVariants.{Absent, Odd, Is}
use Rattle.find_records.specs.Record.{Record}
use Rattle.tree_model.specs.Entries.{same_links, same_path, same_record, contradicts}

pub path_exact : (a b : Path) → same_path a b ≡ true → a ≡ b
path_exact a b h = (pointwise_decides bytes_decides a b).0 h

pub path_same : (a b : Path) → a ≡ b → same_path a b ≡ true
path_same a b h = (pointwise_decides bytes_decides a b).1 h

pub same_path_is : (a b : Path) → same_path a b ≡ is_eq (path_cmp a b)
same_path_is a b = lists_ties (slice_cmp nat_cmp) texts_ties a b

kind_from : ℕ → EntryKind
kind_from n =
    if n == 0 then Regular else if n == 1 then Directory else if n == 2 then Link else if n == 3
    then Pipe else if n == 4 then Socket else if n == 5 then Block else if n == 6 then Char
    else Other

kind_back : (k : EntryKind) → kind_from (kind_number k) ≡ k
unfolding kind_from
kind_back Regular = refl
kind_back Directory = refl
kind_back Link = refl
kind_back Pipe = refl
kind_back Socket = refl
kind_back Block = refl
kind_back Char = refl
kind_back Other = refl

kind_exact : (a b : EntryKind) → same_kind a b ≡ true → a ≡ b
kind_exact a b h = sym (kind_back a) ∙ ap kind_from (eqb-true (kind_number a) (kind_number b) h)
    ∙ kind_back b

option_exact : (a b : Option (List ℕ)) → same_option a b ≡ true → a ≡ b
option_exact None None h = refl
option_exact None (Some y) h = cc
option_exact (Some x) None h = cc
option_exact (Some x) (Some y) h = ap Some ((bytes_decides x y).0 h)

pub option_same : (a : Option (List ℕ)) → same_option a a ≡ true
option_same None = refl
option_same (Some x) = (bytes_decides x x).1 refl

context_exact : (a b : ContextValue) → same_context a b ≡ true → a ≡ b
context_exact a b h =
    let p = and_parts (same_bytes a.user b.user && same_bytes a.role b.role && same_bytes a.kind
    b.kind) (same_option a.range b.range) h in
    let q = and_parts (same_bytes a.user b.user && same_bytes a.role b.role)
    (same_bytes a.kind b.kind) p.0 in
    let r = and_parts (same_bytes a.user b.user) (same_bytes a.role b.role) q.0 in
    let user = (bytes_decides a.user b.user).0 r.0 in
    let role = (bytes_decides a.role b.role).0 r.1 in
    let kind = (bytes_decides a.kind b.kind).0 q.1 in
    let range = option_exact a.range b.range p.1 in
    λ i. record { user = user i; role = role i; kind = kind i; range = range i }

context_same : (a : ContextValue) → same_context a a ≡ true
context_same a =
    and_from _ _
    (and_from _ _
    (and_from _ _ ((bytes_decides a.user a.user).1 refl) ((bytes_decides a.role a.role).1 refl))
    ((bytes_decides a.kind a.kind).1 refl)) (option_same a.range)

label_exact : (a b : Label) → same_label a b ≡ true → a ≡ b
label_exact Absent Absent h = refl
label_exact Absent (Odd y) h = cc
label_exact Absent (Is y) h = cc
label_exact (Odd x) Absent h = cc
label_exact (Odd x) (Odd y) h = ap Odd ((bytes_decides x y).0 h)
label_exact (Odd x) (Is y) h = cc
label_exact (Is x) Absent h = cc
label_exact (Is x) (Odd y) h = cc
label_exact (Is x) (Is y) h = ap Is (context_exact x y h)

label_same : (a : Label) → same_label a a ≡ true
label_same Absent = refl
label_same (Odd x) = (bytes_decides x x).1 refl
label_same (Is x) = context_same x

links_exact : (a b : Option ℕ) → same_links a b ≡ true → a ≡ b
links_exact None None h = refl
links_exact None (Some y) h = cc
links_exact (Some x) None h = cc
links_exact (Some x) (Some y) h = ap Some (eqb-true x y h)

links_same : (a : Option ℕ) → same_links a a ≡ true
links_same None = refl
links_same (Some x) = eq-eqb x x refl

pub record_exact : (a b : Record) → same_record a b ≡ true → a ≡ b
record_exact a b h =
    let p = and_parts ((a.inode == b.inode) && (a.device == b.device) && same_kind a.kind b.kind
    && same_links a.links b.links && same_label a.label b.label) (same_path a.path b.path) h in
    let q = and_parts ((a.inode == b.inode) && (a.device == b.device) && same_kind a.kind b.kind
    && same_links a.links b.links) (same_label a.label b.label) p.0 in
    let t = and_parts ((a.inode == b.inode) && (a.device == b.device) && same_kind a.kind b.kind)
    (same_links a.links b.links) q.0 in
    let r = and_parts ((a.inode == b.inode) && (a.device == b.device)) (same_kind a.kind b.kind)
    t.0 in
    let s = and_parts (a.inode == b.inode) (a.device == b.device) r.0 in
    let inode = eqb-true a.inode b.inode s.0 in
    let device = eqb-true a.device b.device s.1 in
    let kind = kind_exact a.kind b.kind r.1 in
    let links = links_exact a.links b.links t.1 in
    let label = label_exact a.label b.label q.1 in
    let path = path_exact a.path b.path p.1 in
    λ i. record {
      kind = kind i;
      device = device i;
      inode = inode i;
      links = links i;
      label = label
          i;
      path = path i;
    }

pub record_same : (a : Record) → same_record a a ≡ true
record_same a =
    and_from _ _
    (and_from _ _
    (and_from _ _
    (and_from _ _ (and_from _ _ (eq-eqb a.inode a.inode refl) (eq-eqb a.device a.device refl))
    (eq-eqb (kind_number a.kind) (kind_number a.kind) refl)) (links_same a.links))
    (label_same a.label)) (path_same a.path a.path refl)

pub conflict_itself : (a : Record) → contradicts a a ≡ false
conflict_itself a = rw (record_same a, path_same a.path a.path refl) refl

apart : (v w : Bool) → (v ≡ true → ⊥) → (v && w) ≡ false
apart true w h = absurd (h refl)
apart false w h = refl

-- records of two paths don't contradict each other
pub conflict_apart : (a b : Record) → (a.path ≡ b.path → ⊥) → contradicts a b ≡ false
conflict_apart a b h = apart (same_path a.path b.path) (not (same_record a b))
    (λ t. h (path_exact a.path b.path t))

pub conflict_at : (a b c d : Record) → a ≡ c → b ≡ d → contradicts a b ≡ contradicts c d
conflict_at a b c d e f = λ i. contradicts (e i) (f i)

-- what records say that contradict each other
pub conflict_path : (a b : Record) → contradicts a b ≡ true → a.path ≡ b.path
conflict_path a b h =
    path_exact a.path b.path (and_parts (same_path a.path b.path) (not (same_record a b)) h).0

pub conflict_differs : (a b : Record) → contradicts a b ≡ true → same_record a b ≡ false
conflict_differs a b h =
    not-true (same_record a b) (and_parts (same_path a.path b.path) (not (same_record a b)) h).1

pub conflict_from : (a b : Record) → a.path ≡ b.path → same_record a b ≡ false
    → contradicts a b ≡ true
conflict_from a b p d = and_from (same_path a.path b.path) (not (same_record a b))
    (path_same a.path b.path p) (not_from_false (same_record a b) d)

pub differs_back : (a b : Record) → same_record a b ≡ false → same_record b a ≡ false
differs_back a b d = false_from_ne_true (same_record b a) (λ t. let e = record_exact b a t in
    let s : same_record a b ≡ true = subst (λ z. same_record z b ≡ true) e (record_same b) in cc)

pub conflict_back : (a b : Record) → contradicts a b ≡ true → contradicts b a ≡ true
conflict_back a b h = conflict_from b a (sym (conflict_path a b h))
    (differs_back a b (conflict_differs a b h))

no_conflict : (v w : Bool) → v ≡ true → (v && not w) ≡ false → w ≡ true
no_conflict true true p h = refl
no_conflict true false p h = cc
no_conflict false w p h = cc

-- records of one path that don't contradict each other are the same
pub peace_same : (a b : Record) → a.path ≡ b.path → contradicts a b ≡ false → a ≡ b
peace_same a b p h =
    record_exact a b
    (no_conflict (same_path a.path b.path) (same_record a b) (path_same a.path b.path p) h)
