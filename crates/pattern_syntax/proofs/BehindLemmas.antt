-- A pattern's language is its literal start, and behind it the language of the rest.
use Rattle.std.proofs.Common.{◌≡◌, refl, sym, ◌∙◌, ap, subst, ℕ, ◌+◌, ◌≤◌, ◌==◌, Bool, true, false}
use Rattle.std.proofs.Common.{List, [], ◌∷◌, ◌++◌, length, Option, Some, None, arith, append_assoc}
use Rattle.std.proofs.Common.{append-nil, length-append}
use Rattle.pattern_syntax.proofs.PartsLemmas.{only_byte, joined_parts, start_literal}
use Rattle.std.specs.Cmp.{first_so, second_so}
use Rattle.std.proofs.lemmas.List.Sums.{fold_push}
use Rattle.std.specs.Prelude.{◌||◌, unwrap_or, ◌↔◌}
use Rattle.std.specs.List.{list_any}
use Rattle.pattern_syntax.specs.Tree.{Tree, tree_from, Set, Nothing, Both, Either, Repeat}
use Rattle.pattern_syntax.specs.Language.{In}
use Rattle.pattern_syntax.specs.Shape.{is_proper, is_sequence}
use Rattle.pattern_syntax.specs.Literal.{single_byte, single_bytes, start_joined, literal_start_of}
use Rattle.pattern_syntax.specs.Parts.{with_byte, bytes_tree, pattern_tree, Follows, IsPattern}
use Rattle.pattern_syntax.specs.Nodes.{after_node, after_nodes, nodes_tree, trees_behind}
use Rattle.pattern_syntax.specs.Nodes.{rest_tree}
use Rattle.pattern_syntax.specs.declared.node.Node.{Node}
use Rattle.pattern_syntax.specs.declared.node.Node.TheVariants as node
use Rattle.pattern_syntax.specs.Starts.{unless_literal, behind_start, set_in_front, StartParts}
use Rattle.pattern_syntax.specs.Starts.{with_start}

one_passes : (b c : ℕ) → list_any (λ x. x == c) (b ∷ []) ≡ true → b ≡ c
one_passes b c h = at (b == c) refl h
  where
    at : (v : Bool) → (b == c) ≡ v → (v || false) ≡ true → b ≡ c
    at true e h = grind arith
    at false e h = cc

passes_one : (b : ℕ) → list_any (λ x. x == b) (b ∷ []) ≡ true
passes_one b = let e : (b == b) ≡ true = grind arith in rw e refl

-- the language of a single byte
byte_text : (t : Tree) (b : ℕ) → single_byte t ≡ Some b → (text : List ℕ)
    → (In t text → text ≡ b ∷ []) × (text ≡ b ∷ [] → In t text)
byte_text (Set bytes) b h text = let e = only_byte bytes b h in (
  λ i. i.1 ∙ ap (λ c. c ∷ [])
      (sym (one_passes b i.0 (subst (λ (w : List ℕ). list_any (λ x. x == i.0) w ≡ true) e i.2))),
  λ q. (b, q, subst (λ (w : List ℕ). list_any (λ x. x == b) w ≡ true) (sym e) (passes_one b)),
)
byte_text Nothing b h text = cc
byte_text (Both f s) b h text = cc
byte_text (Either l r) b h text = cc
byte_text (Repeat least most x) b h text = cc

-- the language of single bytes
pub literal_text : (t : Tree) (bytes : List ℕ) → single_bytes t ≡ Some bytes → (text : List ℕ)
    → (In t text → text ≡ bytes) × (text ≡ bytes → In t text)
literal_text Nothing bytes h text = let e : [] ≡ bytes = cc in (λ i. i ∙ e, λ i. i ∙ sym e)
literal_text (Both f s) bytes h text =
    let j = joined_parts (single_bytes f) (single_byte s) bytes h in (
      λ i. i.2 ∙ ap (λ w. w ++ i.1) ((literal_text f j.0 j.2 i.0).0 i.3)
          ∙ ap (λ w. j.0 ++ w) ((byte_text s j.1 j.3 i.1).0 i.4) ∙ sym j.4,
      λ q. (
        j.0,
        j.1 ∷ [],
        q ∙ j.4,
        (literal_text f j.0 j.2 j.0).1 refl,
        (byte_text s j.1 j.3 (j.1 ∷ [])).1 refl,
      ),
    )
literal_text (Set bs) bytes h text = cc
literal_text (Either l r) bytes h text = cc
literal_text (Repeat least most x) bytes h text = cc

both_cut : (f s : Tree) (o : Option (List ℕ)) → start_joined (single_bytes f) (single_byte s) ≡ o
    → ((text : List ℕ) → (In f text → Follows (literal_start_of f) (behind_start f) text)
    × (Follows (literal_start_of f) (behind_start f) text → In f text)) → (text : List ℕ)
    → (In (Both f s) text → Follows (unwrap_or o (literal_start_of f))
    (unless_literal o (Both (behind_start f) s)) text)
    × (Follows (unwrap_or o (literal_start_of f)) (unless_literal o (Both (behind_start f) s)) text
    → In (Both f s) text)
both_cut f s (Some bytes) e ih text = let l = literal_text (Both f s) bytes e in (
  λ i. ([], (l text).0 i ∙ sym (append-nil bytes), refl),
  λ w. (l text).1 (w.1 ∙ ap (λ r. bytes ++ r) w.2 ∙ append-nil bytes),
)
both_cut f s None e ih text = (
  λ i. let a = (ih i.0).0 i.3 in (
    a.0 ++ i.1,
    i.2 ∙ ap (λ w. w ++ i.1) a.1 ∙ append_assoc (literal_start_of f) a.0 i.1,
    (a.0, i.1, refl, a.2, i.4),
  ),
  λ w. (
    literal_start_of f ++ w.2.0,
    w.2.1,
    w.1 ∙ ap (λ r. literal_start_of f ++ r) w.2.2
        ∙ sym (append_assoc (literal_start_of f) w.2.0 w.2.1),
    (ih (literal_start_of f ++ w.2.0)).1
        (w.2.0, refl, w.2.3),
    w.2.4,
  ),
)

-- the text of a pattern is its start, and then a text of the rest
pub cut_behind_start : (t : Tree) (text : List ℕ)
    → (In t text → Follows (literal_start_of t) (behind_start t) text)
    × (Follows (literal_start_of t) (behind_start t) text → In t text)
cut_behind_start (Both f s) text = both_cut f s (start_joined (single_bytes f) (single_byte s)) refl
    (cut_behind_start f) text
cut_behind_start (Set bytes) text =
    (λ i. (text, refl, i), λ w. subst (λ r. In (Set bytes) r) (sym w.1) w.2)
cut_behind_start Nothing text = (λ i. (text, refl, i), λ w. w.1 ∙ w.2)
cut_behind_start (Either l r) text =
    (λ i. (text, refl, i), λ w. subst (λ r1. In (Either l r) r1) (sym w.1) w.2)
cut_behind_start (Repeat least most x) text =
    (λ i. (text, refl, i), λ w. subst (λ r. In (Repeat least most x) r) (sym w.1) w.2)

pub text_begins : (t : Tree) (start : List ℕ) → start ≡ literal_start_of t → (text : List ℕ)
    → In t text → (rest : List ℕ) × (text ≡ start ++ rest)
text_begins t start e text h = let r = (cut_behind_start t text).0 h in
    (r.0, r.1 ∙ ap (λ (l : List ℕ). l ++ r.0) (sym e))

-- nodes never look into the tree at a stack's bottom
abbrev pub last_in_front : Tree → List Tree → List Tree
last_in_front front [] = []
last_in_front front (t ∷ []) = set_in_front front t ∷ []
last_in_front front (t ∷ u ∷ us) = t ∷ last_in_front front (u ∷ us)

node_below : (front : Tree) (n : Node) (t : Tree) (ts : List Tree)
    → after_node n (last_in_front front (t ∷ ts)) ≡ last_in_front front (after_node n (t ∷ ts))
node_below front (node.Byte b) t ts = refl
node_below front (node.Set set) t ts = refl
node_below front node.Nothing t ts = refl
node_below front node.Both t [] = refl
node_below front node.Both t (u ∷ []) = refl
node_below front node.Both t (u ∷ v ∷ vs) = refl
node_below front node.Either t [] = refl
node_below front node.Either t (u ∷ []) = refl
node_below front node.Either t (u ∷ v ∷ vs) = refl
node_below front (node.Repeat least most) t [] = refl
node_below front (node.Repeat least most) t (u ∷ us) = refl

node_leaves : (n : Node) (t : Tree) (ts : List Tree) → (u : Tree) × (us : List Tree)
    × (after_node n (t ∷ ts) ≡ u ∷ us)
node_leaves (node.Byte b) t ts = (_, _, refl)
node_leaves (node.Set set) t ts = (_, _, refl)
node_leaves node.Nothing t ts = (_, _, refl)
node_leaves node.Both t [] = (_, _, refl)
node_leaves node.Both t (u ∷ us) = (_, _, refl)
node_leaves node.Either t [] = (_, _, refl)
node_leaves node.Either t (u ∷ us) = (_, _, refl)
node_leaves (node.Repeat least most) t ts = (_, _, refl)

pub nodes_below : (front : Tree) (ns : List Node) (t : Tree) (ts : List Tree)
    → after_nodes ns (last_in_front front (t ∷ ts)) ≡ last_in_front front (after_nodes ns (t ∷ ts))
nodes_below front [] t ts = refl
nodes_below front (n ∷ ns) t ts =
    let l = node_leaves n t ts in
    ap (after_nodes ns) (node_below front n t ts ∙ ap (last_in_front front) l.2)
    ∙ nodes_below front ns l.0 l.1 ∙ ap (λ s. last_in_front front (after_nodes ns s)) (sym l.2)

one_in_front : (front : Tree) (stack : List Tree) (t : Tree) → last_in_front front stack ≡ t ∷ []
    → (u : Tree) × (stack ≡ u ∷ []) × (set_in_front front u ≡ t)
one_in_front front [] t h = cc
one_in_front front (u ∷ []) t h = (u, refl, cc)
one_in_front front (u ∷ v ∷ []) t h = cc
one_in_front front (u ∷ v ∷ w ∷ ws) t h = cc

-- the tree of nodes behind a front has the front before the tree of the nodes
pub front_before : (front : Tree) (ns : List Node) (t : Tree) → after_nodes ns (front ∷ []) ≡ t ∷ []
    → (u : Tree) × (after_nodes ns (Nothing ∷ []) ≡ u ∷ []) × (set_in_front front u ≡ t)
front_before front ns t h = one_in_front front (after_nodes ns (Nothing ∷ [])) t
    (sym (nodes_below front ns Nothing []) ∙ h)

-- with an empty front a tree stays as it is
pub empty_front : (t : Tree) → set_in_front Nothing t ≡ t
empty_front (Set bytes) = refl
empty_front Nothing = refl
empty_front (Both f s) = ap (λ x. Both x s) (empty_front f)
empty_front (Either l r) = ap (λ x. Either x r) (empty_front l)
empty_front (Repeat least most x) = ap (Repeat least most) (empty_front x)

-- single bytes in front stay single bytes, and grow
longer_front : (front : Tree) (start : List ℕ) (t : Tree) (bytes : List ℕ)
    → single_bytes front ≡ Some start → single_bytes (set_in_front front t) ≡ Some bytes
    → length start ≤ length bytes
longer_front front start Nothing bytes e h = let f : start ≡ bytes = cc in rw f (omega arith)
longer_front front start (Both f s) bytes e h =
    let j = joined_parts (single_bytes (set_in_front front f)) (single_byte s) bytes h in
    let l = longer_front front start f j.0 e j.2 in
    let n : length bytes ≡ length j.0 + 1 = ap length j.4 ∙ length-append j.0 (j.1 ∷ []) in
    omega arith
longer_front front start (Set bs) bytes e h = cc
longer_front front start (Either l r) bytes e h = cc
longer_front front start (Repeat least most x) bytes e h = cc

pub literal_behind : (t : Tree) (bytes : List ℕ) → single_bytes t ≡ Some bytes
    → behind_start t ≡ Nothing
literal_behind Nothing bytes h = refl
literal_behind (Both f s) bytes h = ap (λ o. unless_literal o (Both (behind_start f) s)) h
literal_behind (Set bs) bytes h = cc
literal_behind (Either l r) bytes h = cc
literal_behind (Repeat least most x) bytes h = cc

-- a sequence behind single bytes, which are its start, is what stands behind its start
pub behind_front : (front : Tree) (start : List ℕ) (t : Tree) → single_bytes front ≡ Some start
    → is_sequence t ≡ true → is_proper (set_in_front front t) ≡ true
    → literal_start_of (set_in_front front t) ≡ start → behind_start (set_in_front front t) ≡ t
behind_front front start Nothing e s p h = literal_behind front start e
behind_front front start (Set bytes) e s p h = cc
behind_front front start (Either l r) e s p h = cc
behind_front front start (Repeat least most x) e s p h = cc
behind_front front start (Both f g) e s p h =
    at (start_joined (single_bytes (set_in_front front f)) (single_byte g)) refl h
    (behind_front front start f e
    (sequence_in_front f (first_so (is_sequence (set_in_front front f)) _ p))
    (first_so (is_proper (set_in_front front f)) _
    (second_so (is_sequence (set_in_front front f)) _ p)))
  where
    sequence_in_front : (f : Tree) → is_sequence (set_in_front front f) ≡ true
        → is_sequence f ≡ true
    sequence_in_front Nothing h = refl
    sequence_in_front (Both x y) h = refl
    sequence_in_front (Set bytes) h = h
    sequence_in_front (Either l r) h = h
    sequence_in_front (Repeat least most x) h = h

    at : (o : Option (List ℕ)) → start_joined (single_bytes (set_in_front front f)) (single_byte g)
        ≡ o → unwrap_or o (literal_start_of (set_in_front front f)) ≡ start
        → (literal_start_of (set_in_front front f) ≡ start → behind_start (set_in_front front f)
        ≡ f) → unless_literal o (Both (behind_start (set_in_front front f)) g) ≡ Both f g
    at None q h ih = ap (λ x. Both x g) (ih h)
    at (Some bytes) q h ih =
        let j = joined_parts (single_bytes (set_in_front front f)) (single_byte g) bytes q in
        let l = longer_front front start f j.0 e j.2 in
        let n : length bytes ≡ length j.0 + 1 = ap length j.4 ∙ length-append j.0 (j.1 ∷ []) in
        let m : length bytes ≡ length start = ap length h in
        absurd (omega arith)

sequence_behind : (front t : Tree) → is_sequence (set_in_front front t) ≡ true
    → is_sequence t ≡ true
sequence_behind front Nothing h = refl
sequence_behind front (Both x y) h = refl
sequence_behind front (Set bytes) h = h
sequence_behind front (Either l r) h = h
sequence_behind front (Repeat least most x) h = h

sequence_parts : (t : Tree) (ns : List Node) → is_proper t ≡ true → is_sequence t ≡ true
    → after_nodes ns (bytes_tree (literal_start_of t) ∷ []) ≡ t ∷ []
    → StartParts t (literal_start_of t) (nodes_tree (node.Nothing ∷ ns))
sequence_parts t ns p s h =
    let front = bytes_tree (literal_start_of t) in
    let u = front_before front ns t h in
    let e : nodes_tree (node.Nothing ∷ ns) ≡ u.0 = ap tree_from u.1 in
    let q : is_sequence u.0 ≡ true = sequence_behind front u.0 (ap is_sequence u.2 ∙ s) in
    let b : behind_start (set_in_front front u.0) ≡ u.0 =
    behind_front front (literal_start_of t) u.0 (start_literal (literal_start_of t)) q
    (ap is_proper u.2 ∙ p) (ap literal_start_of u.2) in
    record {
      whole = ap (set_in_front front) e ∙ u.2;
      behind = e ∙ sym b ∙ ap behind_start u.2;
    }

-- what has no start stands behind it whole
other_parts : (t : Tree) (ns : List Node) → literal_start_of t ≡ [] → behind_start t ≡ t
    → after_nodes ns (bytes_tree (literal_start_of t) ∷ []) ≡ t ∷ []
    → StartParts t (literal_start_of t) (nodes_tree (node.Nothing ∷ ns))
other_parts t ns s b h =
    let u = front_before (bytes_tree (literal_start_of t)) ns t h in
    let e : nodes_tree (node.Nothing ∷ ns) ≡ u.0 = ap tree_from u.1 in
    let n : u.0 ≡ t = sym (empty_front u.0) ∙ ap (λ l. set_in_front (bytes_tree l) u.0) (sym s)
    ∙ u.2 in
    record {
      whole = ap (set_in_front (bytes_tree (literal_start_of t))) e ∙ u.2;
      behind = e ∙ n ∙ sym b;
    }

-- the nodes behind the literal start are what stands behind it
pub parts_are : (t : Tree) (ns : List Node) → is_proper t ≡ true
    → after_nodes ns (bytes_tree (literal_start_of t) ∷ []) ≡ t ∷ []
    → StartParts t (literal_start_of t) (nodes_tree (node.Nothing ∷ ns))
parts_are (Both f g) ns p h = sequence_parts (Both f g) ns p refl h
parts_are Nothing ns p h = sequence_parts Nothing ns p refl h
parts_are (Set bytes) ns p h = other_parts (Set bytes) ns refl refl h
parts_are (Either l r) ns p h = other_parts (Either l r) ns refl refl h
parts_are (Repeat least most x) ns p h = other_parts (Repeat least most x) ns refl refl h

byte_set : (t : Tree) (b : ℕ) → single_byte t ≡ Some b → t ≡ Set (b ∷ [])
byte_set (Set bytes) b h = ap Set (only_byte bytes b h)
byte_set Nothing b h = cc
byte_set (Both f s) b h = cc
byte_set (Either l r) b h = cc
byte_set (Repeat least most x) b h = cc

-- a sequence of single bytes is that of its bytes
literal_tree : (t : Tree) (bytes : List ℕ) → single_bytes t ≡ Some bytes → bytes_tree bytes ≡ t
literal_tree Nothing bytes h = let e : [] ≡ bytes = cc in ap bytes_tree (sym e)
literal_tree (Both f s) bytes h =
    let j = joined_parts (single_bytes f) (single_byte s) bytes h in
    ap bytes_tree j.4 ∙ fold_push with_byte Nothing j.0 j.1
    ∙ ap (λ (x : Tree). Both x (Set (j.1 ∷ []))) (literal_tree f j.0 j.2)
    ∙ ap (Both f) (sym (byte_set s j.1 j.3))
literal_tree (Set bs) bytes h = cc
literal_tree (Either l r) bytes h = cc
literal_tree (Repeat least most x) bytes h = cc

-- a pattern is its start and what stands behind it
pub whole_again : (t : Tree) → with_start (literal_start_of t) (behind_start t) ≡ t
whole_again (Set bytes) = refl
whole_again Nothing = refl
whole_again (Both f s) =
    at (start_joined (single_bytes f) (single_byte s)) refl (whole_again f)
  where
    at : (o : Option (List ℕ)) → start_joined (single_bytes f) (single_byte s) ≡ o
        → with_start (literal_start_of f) (behind_start f) ≡ f
        → with_start (unwrap_or o (literal_start_of f))
        (unless_literal o (Both (behind_start f) s)) ≡ Both f s
    at None h e = ap (λ x. Both x s) e
    at (Some bytes) h e = literal_tree (Both f s) bytes h
whole_again (Either l r) = ap (λ x. Either x r) (empty_front l)
whole_again (Repeat least most x) = ap (Repeat least most) (empty_front x)

pub joined_whole : (t : Tree) (start : List ℕ) (rest : Tree) → start ≡ literal_start_of t
    → rest ≡ behind_start t → with_start start rest ≡ t
joined_whole t start rest s r = ap (λ l. with_start l rest) s
    ∙ ap (with_start (literal_start_of t)) r ∙ whole_again t

-- what a pattern says of its parts
pub starts_apart : (start : List ℕ) (rest : List Node) (t : Tree) → t ≡ pattern_tree start rest
    → IsPattern start rest → (text : List ℕ) → In t text ↔ Follows start (rest_tree rest) text
starts_apart start rest t v p text =
    let l : literal_start_of t ≡ start = ap literal_start_of v ∙ p.literal in
    let whole : after_nodes rest (bytes_tree (literal_start_of t) ∷ []) ≡ t ∷ [] =
    ap (λ (b : List ℕ). after_nodes rest (bytes_tree b ∷ [])) l ∙ p.builds
    ∙ ap (λ (u : Tree). u ∷ []) (sym v) in
    let parts = parts_are t rest (ap is_proper v ∙ p.proper) whole in
    let cut = cut_behind_start t text in (
      λ (i : In t text). subst (λ (b : List ℕ). Follows b (rest_tree rest) text) l
          (subst (λ (u : Tree). Follows (literal_start_of t) u text) (sym parts.behind)
          (cut.0 i)),
      λ (f : Follows start (rest_tree rest) text).
          cut.1 (subst (λ (u : Tree). Follows (literal_start_of t) u text) parts.behind
          (subst (λ (b : List ℕ). Follows b (rest_tree rest) text) (sym l) f)),
    )

pub rest_alone : (start : List ℕ) (rest : List Node) → IsPattern start rest
    → trees_behind rest ≡ rest_tree rest ∷ []
rest_alone start rest p =
    let u = front_before (bytes_tree start) rest (pattern_tree start rest) p.builds in
    u.1 ∙ ap (λ (t : Tree). t ∷ []) (sym (ap tree_from u.1))
