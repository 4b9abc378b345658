-- The nodes of a pattern begin with its literal start.
use Rattle.std.proofs.Common.{◌≡◌, ◌∙◌, sym, refl, ap, subst, ℕ, suc, zero, ◌+◌, ◌==◌, ◌≤◌}
use Rattle.std.proofs.Common.{Bool, true, false, ◌&&◌, List, [], ◌∷◌, ◌++◌, length, map, drop}
use Rattle.std.proofs.Common.{get_or, append_assoc, append-nil, arith}
use Rattle.std.specs.Prelude.{Option, Some, None, unwrap_or}
use Rattle.std.proofs.lemmas.List.{length-map, length_push, get_or_push}
use Rattle.std.specs.Cmp.{first_so, second_so}
use Rattle.pattern_syntax.specs.ByteSet.{only_of}
use Rattle.pattern_syntax.specs.Tree as tree
use Rattle.pattern_syntax.specs.Tree.{Tree, TreeNode, tree_nodes}
use Rattle.pattern_syntax.specs.Nodes.{after_node, after_nodes, trees_behind, rest_tree}
use Rattle.pattern_syntax.specs.Shape.{is_proper, is_sequence, is_choice, tree_size, stack_size}
use Rattle.pattern_syntax.specs.Literal.{single_byte, start_joined, single_bytes, literal_start_of}
use Rattle.pattern_syntax.specs.Literal.{node_code, code_byte, led_byte, is_several}
use Rattle.pattern_syntax.specs.Parts.{lead_of, start_nodes}
use Rattle.pattern_syntax.specs.declared.node.Node.{Node}
use Rattle.pattern_syntax.specs.declared.node.Node.TheVariants as node

-- ---- each node does its part: their number is that of the tree's nodes

abbrev stack_nodes : List Tree → List TreeNode
stack_nodes [] = []
stack_nodes (t ∷ stack) = stack_nodes stack ++ tree_nodes t

node_adds : (n : Node) (stack : List Tree) → stack_size (after_node n stack) ≤ stack_size stack + 1
node_adds (node.Byte b) stack = omega arith
node_adds (node.Set set) stack = omega arith
node_adds node.Nothing stack = omega arith
node_adds node.Both [] = omega arith
node_adds node.Both (a ∷ []) = omega arith
node_adds node.Both (a ∷ b ∷ stack) = omega arith
node_adds node.Either [] = omega arith
node_adds node.Either (a ∷ []) = omega arith
node_adds node.Either (a ∷ b ∷ stack) = omega arith
node_adds (node.Repeat least most) [] = omega arith
node_adds (node.Repeat least most) (a ∷ stack) = omega arith

nodes_add : (ns : List Node) (stack : List Tree) → stack_size (after_nodes ns stack)
    ≤ stack_size stack + length ns
nodes_add [] stack = omega arith
nodes_add (n ∷ ns) stack = let a = node_adds n stack in let b = nodes_add ns (after_node n stack) in
    omega (arith, a, b)

node_exact : (n : Node) (stack : List Tree) → stack_size stack + 1 ≤ stack_size (after_node n stack)
    → stack_nodes (after_node n stack) ≡ stack_nodes stack ++ node_code n ∷ []
node_exact (node.Byte b) stack h = refl
node_exact (node.Set set) stack h = refl
node_exact node.Nothing stack h = refl
node_exact node.Both [] h = absurd (omega arith)
node_exact node.Both (a ∷ []) h = absurd (omega arith)
node_exact node.Both (a ∷ b ∷ stack) h = simp append_assoc
node_exact node.Either [] h = absurd (omega arith)
node_exact node.Either (a ∷ []) h = absurd (omega arith)
node_exact node.Either (a ∷ b ∷ stack) h = simp append_assoc
node_exact (node.Repeat least most) [] h = absurd (omega arith)
node_exact (node.Repeat least most) (a ∷ stack) h = simp append_assoc

nodes_exact : (ns : List Node) (stack : List Tree) → stack_size stack + length ns
    ≤ stack_size (after_nodes ns stack) → stack_nodes (after_nodes ns stack) ≡ stack_nodes stack
    ++ map node_code ns
nodes_exact [] stack h = sym (append-nil (stack_nodes stack))
nodes_exact (n ∷ ns) stack h =
    let a = nodes_add ns (after_node n stack) in
    let b = node_adds n stack in
    nodes_exact ns (after_node n stack) (omega (arith, a, b, h))
    ∙ ap (λ (l : List TreeNode). l ++ map node_code ns)
    (node_exact n stack (omega (arith, a, b, h)))
    ∙ append_assoc (stack_nodes stack) (node_code n ∷ []) (map node_code ns)

whole_nodes : (ns : List Node) (t : Tree) → after_nodes ns [] ≡ t ∷ [] → length ns ≡ tree_size t
    → map node_code ns ≡ tree_nodes t
whole_nodes ns t e h =
    let s = ap stack_size e in
    sym (nodes_exact ns [] (omega (arith, s, h))) ∙ ap stack_nodes e

-- ---- the literal start among a tree's nodes

-- the bytes of the single bytes that are joined to the sequence before them, one after another
abbrev pub leads : Option ℕ → Bool → List ℕ → List ℕ
leads (Some b) true rest = b ∷ rest
leads (Some b) false rest = []
leads None joins rest = []

abbrev pub leading_bytes : List TreeNode → List ℕ
leading_bytes [] = []
leading_bytes (node ∷ []) = []
leading_bytes (node ∷ next ∷ nodes) = leads (code_byte node) (next.0 == 2) (leading_bytes nodes)

abbrev Begins : List TreeNode → Type 0
Begins nodes = (n : TreeNode) × (ns : List TreeNode) × (nodes ≡ n ∷ ns) × ((n.0 == 2) ≡ false)

begins : (t : Tree) (rest : List TreeNode) → Begins (tree_nodes t ++ rest)
begins (tree.Set bytes) rest = ((0, (bytes, (0, None))), rest, refl, refl)
begins tree.Nothing rest = ((1, ([], (0, None))), rest, refl, refl)
begins (tree.Both first second) rest = subst Begins (sym (append_assoc (tree_nodes first) _ rest))
    (begins first _)
begins (tree.Either left right) rest = subst Begins (sym (append_assoc (tree_nodes left) _ rest))
    (begins left _)
begins (tree.Repeat least most piece) rest =
    subst Begins (sym (append_assoc (tree_nodes piece) _ rest)) (begins piece _)

no_lead : (o : Option ℕ) (rest : List ℕ) → leads o false rest ≡ []
no_lead None rest = refl
no_lead (Some b) rest = refl

-- behind a whole tree comes a node that joins it to nothing
cut_short : (t : Tree) (rest : List TreeNode) → Begins rest → leading_bytes (tree_nodes t ++ rest)
    ≡ []
cut_short (tree.Set bytes) rest h =
    ap (λ (l : List TreeNode). leading_bytes ((0, (bytes, (0, None))) ∷ l)) h.2
    ∙ ap (λ (t : Bool). leads (only_of bytes) t (leading_bytes h.1)) h.3
    ∙ no_lead (only_of bytes) (leading_bytes h.1)
cut_short tree.Nothing rest h = ap (λ (l : List TreeNode). leading_bytes ((1, ([], (0, None))) ∷ l))
    h.2
cut_short (tree.Both first second) rest h =
    ap leading_bytes
    (append_assoc (tree_nodes first) (tree_nodes second ++ (2, ([], (0, None))) ∷ []) rest)
    ∙ cut_short first ((tree_nodes second ++ (2, ([], (0, None))) ∷ []) ++ rest)
    (subst Begins (sym (append_assoc (tree_nodes second) ((2, ([], (0, None))) ∷ []) rest))
    (begins second _))
cut_short (tree.Either left right) rest h =
    ap leading_bytes (append_assoc (tree_nodes left) (tree_nodes right ++ (3, ([], (0, None))) ∷ [])
    rest)
    ∙ cut_short left ((tree_nodes right ++ (3, ([], (0, None))) ∷ []) ++ rest)
    (subst Begins (sym (append_assoc (tree_nodes right) ((3, ([], (0, None))) ∷ []) rest))
    (begins right _))
cut_short (tree.Repeat least most piece) rest h =
    ap leading_bytes (append_assoc (tree_nodes piece) ((4, ([], (least, most))) ∷ []) rest)
    ∙ cut_short piece ((4, ([], (least, most))) ∷ rest) ((4, ([], (least, most))), rest, refl, refl)

alone : (b : TreeNode) (rest : List TreeNode) → code_byte b ≡ None → leading_bytes (b ∷ rest) ≡ []
alone b [] h = refl
alone b (n ∷ rest) h = ap (λ (o : Option ℕ). leads o (n.0 == 2) (leading_bytes rest)) h

not_single : (t : Tree) (rest : List TreeNode) → single_byte t ≡ None
    → leading_bytes (tree_nodes t ++ rest) ≡ []
not_single (tree.Set bytes) rest h = alone (0, (bytes, (0, None))) rest h
not_single tree.Nothing rest h = alone (1, ([], (0, None))) rest refl
not_single (tree.Both first second) rest h =
    ap leading_bytes
    (append_assoc (tree_nodes first) (tree_nodes second ++ (2, ([], (0, None))) ∷ []) rest)
    ∙ cut_short first ((tree_nodes second ++ (2, ([], (0, None))) ∷ []) ++ rest)
    (subst Begins (sym (append_assoc (tree_nodes second) ((2, ([], (0, None))) ∷ []) rest))
    (begins second _))
not_single (tree.Either left right) rest h =
    ap leading_bytes (append_assoc (tree_nodes left) (tree_nodes right ++ (3, ([], (0, None))) ∷ [])
    rest)
    ∙ cut_short left ((tree_nodes right ++ (3, ([], (0, None))) ∷ []) ++ rest)
    (subst Begins (sym (append_assoc (tree_nodes right) ((3, ([], (0, None))) ∷ []) rest))
    (begins right _))
not_single (tree.Repeat least most piece) rest h =
    ap leading_bytes (append_assoc (tree_nodes piece) ((4, ([], (least, most))) ∷ []) rest)
    ∙ cut_short piece ((4, ([], (least, most))) ∷ rest) ((4, ([], (least, most))), rest, refl, refl)

abbrev started : Option (List ℕ) → List ℕ → List ℕ → List ℕ
started None start rest = start
started (Some bytes) start rest = bytes ++ rest

pub single_is_start : (t : Tree) (bytes : List ℕ) → single_bytes t ≡ Some bytes
    → literal_start_of t ≡ bytes
single_is_start (tree.Set bs) bytes h = absurd (let f : None ≡ Some bytes = h in cc)
single_is_start tree.Nothing bytes h = let f : Some [] ≡ Some bytes = h in cc
single_is_start (tree.Both first second) bytes h =
    ap (λ (o : Option (List ℕ)). unwrap_or o (literal_start_of first)) h
single_is_start (tree.Either left right) bytes h = absurd (let f : None ≡ Some bytes = h in cc)
single_is_start (tree.Repeat least most piece) bytes h =
    absurd (let f : None ≡ Some bytes = h in cc)

abbrev IsStarted : Tree → List TreeNode → Type 0
IsStarted t tail = (rest : List TreeNode) → leading_bytes (tail ++ rest) ≡ started (single_bytes t)
    (literal_start_of t) (leading_bytes rest)

single_set : (t : Tree) (b : ℕ) (rest : List TreeNode) → single_byte t ≡ Some b
    → leading_bytes (tree_nodes t ++ (2, ([], (0, None))) ∷ rest) ≡ b ∷ leading_bytes rest
single_set (tree.Set bytes) b rest h = ap (λ (o : Option ℕ). leads o true (leading_bytes rest)) h
single_set tree.Nothing b rest h = absurd (let f : None ≡ Some b = h in cc)
single_set (tree.Both first second) b rest h = absurd (let f : None ≡ Some b = h in cc)
single_set (tree.Either left right) b rest h = absurd (let f : None ≡ Some b = h in cc)
single_set (tree.Repeat least most piece) b rest h = absurd (let f : None ≡ Some b = h in cc)

joined_started : (first second : Tree) (rest : List TreeNode) (before : Option (List ℕ))
    (last : Option ℕ) → single_bytes first ≡ before → single_byte second ≡ last
    → started before (literal_start_of first)
    (leading_bytes (tree_nodes second ++ (2, ([], (0, None))) ∷ rest))
    ≡ started (start_joined before last)
    (unwrap_or (start_joined before last) (literal_start_of first)) (leading_bytes rest)
joined_started first second rest None last e f = refl
joined_started first second rest (Some bytes) None e f =
    ap (λ (l : List ℕ). bytes ++ l) (not_single second ((2, ([], (0, None))) ∷ rest) f)
    ∙ append-nil bytes ∙ sym (single_is_start first bytes e)
joined_started first second rest (Some bytes) (Some b) e f =
    ap (λ (l : List ℕ). bytes ++ l) (single_set second b rest f)
    ∙ sym (append_assoc bytes (b ∷ []) (leading_bytes rest))

abbrev Tail : Tree → Type 0
Tail t = (tail : List TreeNode) × (tree_nodes t ≡ (1, ([], (0, None))) ∷ tail) × IsStarted t tail

tail_of : (t : Tree) → is_proper t ≡ true → is_sequence t ≡ true → Tail t
tail_of (tree.Set bytes) h k = absurd (let f : false ≡ true = k in cc)
tail_of tree.Nothing h k = ([], refl, λ rest. refl)
tail_of (tree.Both first second) h k =
    let p = second_so (is_sequence first) (is_proper first && is_proper second) h in
    let a = tail_of first (first_so (is_proper first) (is_proper second) p)
    (first_so (is_sequence first) (is_proper first && is_proper second) h) in
    let back = tree_nodes second ++ (2, ([], (0, None))) ∷ [] in (
      a.0 ++ back,
      ap (λ (l : List TreeNode). l ++ back) a.1,
      λ (rest : List TreeNode).
          ap leading_bytes (append_assoc a.0 back rest) ∙ a.2 (back ++ rest)
          ∙ ap (λ (l : List TreeNode). started (single_bytes first) (literal_start_of first)
          (leading_bytes l)) (append_assoc (tree_nodes second) ((2, ([], (0, None))) ∷ []) rest)
          ∙ joined_started first second rest (single_bytes first) (single_byte second) refl refl,
    )
tail_of (tree.Either left right) h k = absurd (let f : false ≡ true = k in cc)
tail_of (tree.Repeat least most piece) h k = absurd (let f : false ≡ true = k in cc)

started_whole : (t : Tree) (o : Option (List ℕ)) → single_bytes t ≡ o
    → started o (literal_start_of t) [] ≡ literal_start_of t
started_whole t None e = refl
started_whole t (Some bytes) e = append-nil bytes ∙ sym (single_is_start t bytes e)

-- behind the first node stand the bytes of the literal start
pub start_of_nodes : (ns : List Node) (t : Tree) → map node_code ns ≡ tree_nodes t
    → is_proper t ≡ true → is_sequence t ≡ true → leading_bytes (drop 1 (map node_code ns))
    ≡ literal_start_of t
start_of_nodes ns t e h k =
    let a = tail_of t h k in
    ap (λ (l : List TreeNode). leading_bytes (drop 1 l)) (e ∙ a.1)
    ∙ ap leading_bytes (sym (append-nil a.0)) ∙ a.2 [] ∙ started_whole t (single_bytes t) refl

-- ---- the last node, and the walk over the nodes

abbrev root_code : Tree → TreeNode
root_code (tree.Set bytes) = (0, (bytes, (0, None)))
root_code tree.Nothing = (1, ([], (0, None)))
root_code (tree.Both first second) = (2, ([], (0, None)))
root_code (tree.Either left right) = (3, ([], (0, None)))
root_code (tree.Repeat least most piece) = (4, ([], (least, most)))

root_last : (t : Tree) → (front : List TreeNode) × (tree_nodes t ≡ front ++ root_code t ∷ [])
root_last (tree.Set bytes) = ([], refl)
root_last tree.Nothing = ([], refl)
root_last (tree.Both first second) = (
  tree_nodes first ++ tree_nodes second,
  sym
      (append_assoc (tree_nodes first) (tree_nodes second) _),
)
root_last (tree.Either left right) =
    (tree_nodes left ++ tree_nodes right, sym (append_assoc (tree_nodes left) (tree_nodes right) _))
root_last (tree.Repeat least most piece) = (tree_nodes piece, refl)

code_at : (ns : List Node) (i : ℕ) (d : Node) → get_or (map node_code ns) i (node_code d)
    ≡ node_code (get_or ns i d)
code_at [] i d = refl
code_at (n ∷ ns) zero d = refl
code_at (n ∷ ns) (suc i) d = code_at ns i d

pub last_code : (ns : List Node) (t : Tree) (i : ℕ) (d : Node) → map node_code ns ≡ tree_nodes t
    → i + 1 ≡ length ns → node_code (get_or ns i d) ≡ root_code t
last_code ns t i d e h =
    let r = root_last t in
    let l = ap length (e ∙ r.1) in
    let m : length (r.0 ++ root_code t ∷ []) ≡ length r.0 + 1 = length_push r.0 (root_code t) in
    let n = length-map ns node_code in
    sym (code_at ns i d) ∙ ap (λ (l : List TreeNode). get_or l i (node_code d)) (e ∙ r.1)
    ∙ get_or_push r.0 (root_code t) (node_code d) i (omega (arith, l, m, n, h))

root_several : (t : Tree) → ((root_code t).0 == 3) ≡ is_several t
root_several (tree.Set bytes) = refl
root_several tree.Nothing = refl
root_several (tree.Both first second) = refl
root_several (tree.Either left right) = refl
root_several (tree.Repeat least most piece) = refl

pub last_several : (ns : List Node) (t : Tree) (i : ℕ) (d : Node) → map node_code ns ≡ tree_nodes t
    → i + 1 ≡ length ns → ((node_code (get_or ns i d)).0 == 3) ≡ is_several t
last_several ns t i d e h = ap (λ (n : TreeNode). n.0 == 3) (last_code ns t i d e h)
    ∙ root_several t

pub several_start : (t : Tree) → is_several t ≡ true → literal_start_of t ≡ []
several_start (tree.Set bytes) h = refl
several_start tree.Nothing h = refl
several_start (tree.Both first second) h = absurd (let f : false ≡ true = h in cc)
several_start (tree.Either left right) h = refl
several_start (tree.Repeat least most piece) h = refl

pub not_several : (t : Tree) → is_several t ≡ false → is_choice t ≡ true → is_sequence t ≡ true
not_several (tree.Set bytes) h k = k
not_several tree.Nothing h k = refl
not_several (tree.Both first second) h k = refl
not_several (tree.Either left right) h k = absurd (let f : true ≡ false = h in cc)
not_several (tree.Repeat least most piece) h k = k

drop_codes : (n : ℕ) (ns : List Node) → drop n (map node_code ns) ≡ map node_code (drop n ns)
drop_codes zero ns = refl
drop_codes (suc n) [] = refl
drop_codes (suc n) (m ∷ ns) = drop_codes n ns

-- the bytes that the nodes from a place on lead with
abbrev pub leading_from : ℕ → List Node → List ℕ
leading_from at ns = leading_bytes (map node_code (drop at ns))

pub leading_start : (ns : List Node) (t : Tree) → map node_code ns ≡ tree_nodes t
    → is_proper t ≡ true → is_sequence t ≡ true → leading_from 1 ns ≡ literal_start_of t
leading_start ns t e h k = ap leading_bytes (sym (drop_codes 1 ns)) ∙ start_of_nodes ns t e h k

lead_none : (o : Option ℕ) (joins : Bool) (rest : List ℕ) → led_byte o joins ≡ None
    → leads o joins rest ≡ []
lead_none (Some b) true rest h = absurd (let f : Some b ≡ None = h in cc)
lead_none (Some b) false rest h = refl
lead_none None joins rest h = refl

-- behind an empty sequence the nodes build one tree, of a pattern's shape
pub record AreWholeNodes (nodes : List Node) : Type 0 where
  pub builds : trees_behind nodes ≡ rest_tree nodes ∷ []
  pub proper : is_proper (rest_tree nodes) ≡ true
  pub choice : is_choice (rest_tree nodes) ≡ true
  pub size : length nodes + 1 ≡ tree_size (rest_tree nodes)

-- behind the first node stand nodes that lead with the literal start, or the last says that there
-- are several sides
pub whole_codes : (ns : List Node) → AreWholeNodes ns → map node_code (node.Nothing ∷ ns)
    ≡ tree_nodes (rest_tree ns)
whole_codes ns w = whole_nodes (node.Nothing ∷ ns) (rest_tree ns) w.builds (let s = w.size in
    omega (arith, s))

one_behind : (n : Node) (ns : List Node) (i : ℕ) (d : Node) → get_or (n ∷ ns) (i + 1) d
    ≡ get_or ns i d
one_behind n ns i d = let e : i + 1 ≡ suc i = omega arith in ap (λ (k : ℕ). get_or (n ∷ ns) k d) e

pub whole_several : (ns : List Node) (i : ℕ) (d : Node) → AreWholeNodes ns → i + 1 ≡ length ns
    → ((node_code (get_or ns i d)).0 == 3) ≡ is_several (rest_tree ns)
whole_several ns i d w h =
    ap (λ (n : Node). (node_code n).0 == 3) (sym (one_behind node.Nothing ns i d))
    ∙ last_several (node.Nothing ∷ ns) (rest_tree ns) (i + 1) d (whole_codes ns w)
    (omega (arith, h))

pub whole_leads : (ns : List Node) → AreWholeNodes ns → is_several (rest_tree ns) ≡ false
    → leading_from 0 ns ≡ literal_start_of (rest_tree ns)
whole_leads ns w s = leading_start (node.Nothing ∷ ns) (rest_tree ns) (whole_codes ns w) w.proper
    (not_several (rest_tree ns) s w.choice)

pub start_leads : (start : List ℕ) (nodes : List Node) → leading_from 0 (start_nodes start ++ nodes)
    ≡ start ++ leading_from 0 nodes
start_leads [] nodes = refl
start_leads (b ∷ start) nodes = ap (λ (l : List ℕ). b ∷ l) (start_leads start nodes)

pub no_leads : (nodes : List Node) → lead_of nodes ≡ None → leading_from 0 nodes ≡ []
no_leads [] h = refl
no_leads (n ∷ []) h = refl
no_leads (n ∷ m ∷ nodes) h = lead_none _ _ (leading_from 0 nodes) h
