-- A list of operations that spells a tree, taken apart at its end.
use Rattle.std.proofs.Common.{◌≡◌, refl, sym, ◌∙◌, ap, subst, ℕ, zero, suc, ◌+◌, ◌-◌, ◌<◌, ◌≤◌}
use Rattle.std.proofs.Common.{List, [], ◌∷◌, ◌++◌, length, map, take, drop, get_or, Option}
use Rattle.std.proofs.Common.{append_assoc, arith, length-append}
use Rattle.std.proofs.Math.Seq.{split_at, take-append_seam, drop-append_seam}
use Rattle.std.proofs.lemmas.List.{drop_all, length-map}
use Rattle.std.proofs.lemmas.List.{map-append, take-map, drop-map}
use Rattle.pattern_syntax.specs.Shape.{tree_size}
use Rattle.pattern_syntax.specs.Tree.{Tree, TreeNode, Set, Nothing, Both, Either, Repeat}
use Rattle.pattern_syntax.specs.Tree.{tree_nodes, tree_from, built, tree_again}
use Rattle.pattern_syntax.specs.declared.node.Node.{Node}
use Rattle.pattern_match.specs.Operations.{SeenOperation, seen_node, seen_operation, last_node}
use Rattle.pattern_match.specs.Operations.{last_seen, tree_operations, operations_tree, SpellTree}
use Rattle.pattern_match.specs.Spelling.{stack_operations, SpellTrees}
use Rattle.pattern_match.specs.declared.operation.Operation.{Operation}

-- ---- the tree that is spelled

abbrev node_of : SeenOperation → TreeNode
node_of s = s.0

two_nodes : (t u : Tree) (last : SeenOperation) (n : TreeNode)
    → map node_of (tree_operations t) ≡ tree_nodes t
    → map node_of (tree_operations u) ≡ tree_nodes u → node_of last ≡ n
    → map node_of (tree_operations t ++ (tree_operations u ++ last ∷ []))
    ≡ tree_nodes t ++ (tree_nodes u ++ n ∷ [])
two_nodes t u last n e f g =
    map-append node_of (tree_operations t) (tree_operations u ++ last ∷ [])
    ∙ ap (λ l. map node_of (tree_operations t) ++ l)
    (map-append node_of (tree_operations u) (last ∷ []))
    ∙ rw (e, f, g) refl

nodes_alone : (t : Tree) → map node_of (tree_operations t) ≡ tree_nodes t
nodes_alone (Set bytes) = refl
nodes_alone Nothing = refl
nodes_alone (Both first second) =
    two_nodes first second _ _ (nodes_alone first) (nodes_alone second) refl
nodes_alone (Either left right) =
    two_nodes left right _ _ (nodes_alone left) (nodes_alone right) refl
nodes_alone (Repeat least most piece) =
    map-append node_of (tree_operations piece) (last_seen (Repeat least most piece) ∷ [])
    ∙ ap (λ l. l ++ last_node (Repeat least most piece) ∷ []) (nodes_alone piece)

nodes_seen : (operations : List Operation)
    → map node_of (map seen_operation operations) ≡ map (λ o. seen_node o.node) operations
nodes_seen [] = refl
nodes_seen (o ∷ os) = ap (λ l. seen_node o.node ∷ l) (nodes_seen os)

pub spelled_tree : (operations : List Operation) (t : Tree) → SpellTree operations t
    → operations_tree operations ≡ t
spelled_tree operations t e =
    ap (λ l. tree_from (built l []))
    (sym (nodes_seen operations) ∙ ap (λ l. map node_of l) e ∙ nodes_alone t) ∙ tree_again t

-- the tree of operations is spelled by them, as soon as some tree is
pub spell_own : (operations : List Operation) (t : Tree) → SpellTree operations t
    → SpellTree operations (operations_tree operations)
spell_own operations t e = rw (spelled_tree operations t e) e

-- ---- the last operation

abbrev pub front : Tree → List SeenOperation
front (Set bytes) = []
front Nothing = []
front (Both first second) = tree_operations first ++ tree_operations second
front (Either left right) = tree_operations left ++ tree_operations right
front (Repeat least most piece) = tree_operations piece

pub ends_with : (t : Tree) → tree_operations t ≡ front t ++ last_seen t ∷ []
ends_with (Set bytes) = refl
ends_with Nothing = refl
ends_with (Both first second) =
    sym (append_assoc (tree_operations first) (tree_operations second) (_ ∷ []))
ends_with (Either left right) =
    sym (append_assoc (tree_operations left) (tree_operations right) (_ ∷ []))
ends_with (Repeat least most piece) = refl

same_ends : {X : Type 0} (xs ys : List X) (x y : X) → xs ++ x ∷ [] ≡ ys ++ y ∷ []
    → (xs ≡ ys) × (x ≡ y)
same_ends [] [] x y e = (refl, cc)
same_ends [] (b ∷ ys) x y e =
    let n : 1 ≡ length (b ∷ ys ++ y ∷ []) = ap length e in
    let m = length-append (b ∷ ys) (y ∷ []) in absurd (omega arith)
same_ends (a ∷ xs) [] x y e =
    let n : length (a ∷ xs ++ x ∷ []) ≡ 1 = ap length e in
    let m = length-append (a ∷ xs) (x ∷ []) in absurd (omega arith)
same_ends (a ∷ xs) (b ∷ ys) x y e =
    let below = same_ends xs ys x y cc in
    let f : a ≡ b = cc in (rw (f, below.0) refl, below.1)

-- what stands before the last operation, and that one itself
last_of : (operations before : List Operation) (last : Operation) (t : Tree) (trees : List Tree)
    → operations ≡ before ++ last ∷ [] → SpellTrees operations (t ∷ trees)
    → (map seen_operation before ≡ stack_operations trees ++ front t)
    × (seen_operation last ≡ last_seen t)
last_of operations before last t trees e s =
    same_ends (map seen_operation before) (stack_operations trees ++ front t)
    (seen_operation last) (last_seen t)
    (sym (map-append seen_operation before (last ∷ [])) ∙ sym (ap (map seen_operation) e) ∙ s
    ∙ ap (λ l. stack_operations trees ++ l) (ends_with t)
    ∙ sym (append_assoc (stack_operations trees) (front t) (last_seen t ∷ [])))

-- the last one by its index
ended : (operations : List Operation) (last d : Operation)
    → last ≡ get_or operations (length operations - 1) d → 0 < length operations
    → operations ≡ take (length operations - 1) operations ++ last ∷ []
ended operations last d e some =
    split_at operations (length operations - 1) d (omega arith)
    ∙ ap (λ l. take (length operations - 1) operations
    ++ get_or operations (length operations - 1) d ∷ l)
    (drop_all (suc (length operations - 1)) operations (omega arith))
    ∙ ap (λ o. take (length operations - 1) operations ++ o ∷ []) (sym e)

pub seen_last : (operations : List Operation) (last d : Operation) (t : Tree) (trees : List Tree)
    → last ≡ get_or operations (length operations - 1) d → 0 < length operations
    → SpellTrees operations (t ∷ trees) → seen_operation last ≡ last_seen t
seen_last operations last d t trees e some s =
    (last_of operations (take (length operations - 1) operations) last t trees
    (ended operations last d e some) s).1

-- ---- the part before the last one

two_count : (t u : Tree) (last : SeenOperation) → length (tree_operations t) ≡ tree_size t
    → length (tree_operations u) ≡ tree_size u
    → length (tree_operations t ++ (tree_operations u ++ last ∷ [])) ≡ tree_size t + tree_size u + 1
two_count t u last e f =
    let n = length-append (tree_operations t) (tree_operations u ++ last ∷ []) in
    let m = length-append (tree_operations u) (last ∷ []) in
    omega arith

pub size_counts : (t : Tree) → length (tree_operations t) ≡ tree_size t
size_counts (Set bytes) = refl
size_counts Nothing = refl
size_counts (Both first second) =
    two_count first second _ (size_counts first) (size_counts second)
size_counts (Either left right) = two_count left right _ (size_counts left) (size_counts right)
size_counts (Repeat least most piece) =
    length-append (tree_operations piece) (last_seen (Repeat least most piece) ∷ [])
    ∙ ap (λ n. n + 1) (size_counts piece)

-- empty operations spell no part
pub not_empty : (operations : List Operation) (t : Tree) (trees : List Tree)
    → length operations ≤ 0 → SpellTrees operations (t ∷ trees) → ⊥
not_empty operations t trees none s =
    let e = ap length (s ∙ ap (λ l. stack_operations trees ++ l) (ends_with t)) in
    let n = length-map operations seen_operation in
    let m = length-append (stack_operations trees) (front t ++ last_seen t ∷ []) in
    let k = length-append (front t) (last_seen t ∷ []) in
    omega arith

pub seam : (operations : List Operation) (t : Tree) (trees : List Tree) (nodes : ℕ)
    → nodes ≡ tree_size t → SpellTrees operations (t ∷ trees)
    → length operations - nodes ≡ length (stack_operations trees)
seam operations t trees nodes e s =
    let k = ap length s in
    let n = length-map operations seen_operation in
    let m = length-append (stack_operations trees) (tree_operations t) in
    let c = size_counts t in
    omega arith

pub front_trees : (operations before : List Operation) (t : Tree) (trees : List Tree) (start : ℕ)
    → start ≡ length (stack_operations trees) → before ≡ take start operations
    → SpellTrees operations (t ∷ trees) → SpellTrees before trees
front_trees operations before t trees start k b s =
    ap (map seen_operation) b ∙ sym (take-map seen_operation start operations)
    ∙ ap (take start) s ∙ ap (λ n. take n (stack_operations trees ++ tree_operations t)) k
    ∙ take-append_seam (stack_operations trees) (tree_operations t)

pub cut_trees : (operations before behind : List Operation) (t : Tree) (trees : List Tree)
    (start : ℕ) → start ≡ length (stack_operations trees) → before ≡ take start operations
    → behind ≡ drop start operations → SpellTrees operations (t ∷ trees)
    → SpellTrees before trees × SpellTree behind t
cut_trees operations before behind t trees start k b d s = (
  front_trees operations before t trees start k b s,
  ap (map seen_operation) d ∙ sym (drop-map seen_operation start operations)
      ∙ ap (drop start) s ∙ ap (λ n. drop n (stack_operations trees ++ tree_operations t)) k
      ∙ drop-append_seam (stack_operations trees) (tree_operations t),
)

-- ---- shapes

-- the tree is made of two, which the operations before the last one spell
pub record IsOfTwo (make : Tree → Tree → Tree) (before : List Operation) (t : Tree) : Type 0 where
  pub first : Tree
  pub second : Tree
  pub tree : t ≡ make first second
  pub spell : SpellTrees before (second ∷ first ∷ [])

pub record IsRepeated (least : ℕ) (most : Option ℕ) (before : List Operation) (t : Tree)
    : Type 0 where
  pub piece : Tree
  pub tree : t ≡ Repeat least most piece
  pub spell : SpellTree before piece

-- what the tree is made of, by the code of its last node
abbrev IsMade : ℕ → List ℕ → ℕ → Option ℕ → List Operation → Tree → Type 0
IsMade zero bytes least most before t = t ≡ Set bytes
IsMade (suc zero) bytes least most before t = t ≡ Nothing
IsMade (suc (suc zero)) bytes least most before t = IsOfTwo Both before t
IsMade (suc (suc (suc zero))) bytes least most before t = IsOfTwo Either before t
IsMade (suc (suc (suc (suc n)))) bytes least most before t = IsRepeated least most before t

abbrev pub IsMadeOf : TreeNode → List Operation → Tree → Type 0
IsMadeOf n before t = IsMade n.0 n.1.0 n.1.1.0 n.1.1.1 before t

made : (t : Tree) (before : List Operation) → map seen_operation before ≡ front t
    → IsMadeOf (last_node t) before t
made (Set bytes) before e = refl
made Nothing before e = refl
made (Both first second) before e =
    record { first = first; second = second; tree = refl; spell = e }
made (Either left right) before e =
    record { first = left; second = right; tree = refl; spell = e }
made (Repeat least most piece) before e = record { piece = piece; tree = refl; spell = e }

pub made_of : (operations before : List Operation) (last : Operation) (node : Node) (t : Tree)
    → operations ≡ before ++ last ∷ [] → last.node ≡ node → SpellTree operations t
    → IsMadeOf (seen_node node) before t
made_of operations before last node t e f s =
    let parts = last_of operations before last t [] e s in
    let same : last_node t ≡ seen_node node = sym (ap (λ s. s.0) parts.1) ∙ ap seen_node f in
    subst (λ n. IsMadeOf n before t) same (made t before parts.0)

pub made_again : (make : Tree → Tree → Tree) (before : List Operation) (t x y : Tree)
    → (made : IsOfTwo make before t) → (x ≡ made.first) × (y ≡ made.second) → make x y ≡ t
made_again make before t x y made e = rw (e.0, e.1) (sym made.tree)
