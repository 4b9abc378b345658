-- Parts that are repeated zero times are found from left to right, and passed over.
use Rattle.std.proofs.Common.{◌≡◌, ◌≢◌, refl, sym, ◌∙◌, ap, subst, ℕ, suc, ◌+◌, ◌-◌, ◌<◌, ◌==◌}
use Rattle.std.proofs.Common.{Bool, true, false, List, [], ◌∷◌, ◌++◌, length, take, set, get_or}
use Rattle.std.proofs.Common.{◌⊎◌, inl, inr, arith, append-nil}
use Rattle.std.proofs.lemmas.List.{length-set, reverse-append, take_more, get_or-set_same}
use Rattle.std.proofs.lemmas.List.{get_or-set_other}
use Rattle.std.specs.Prelude.{reverse, Option, Some, None, slice_index, slice_get}
use Rattle.std.specs.Option.{option_to_list}
use Rattle.std.proofs.lemmas.Bool.{cases_eq}
use Rattle.pattern_syntax.proofs.BuildingLemmas.{after_append}
use Rattle.std.specs.Cmp.{first_so, second_so}
use Rattle.pattern_syntax.specs.Tree as tree
use Rattle.pattern_syntax.specs.Tree.{Tree}
use Rattle.pattern_syntax.specs.Nodes.{after_node, after_nodes}
use Rattle.pattern_syntax.specs.declared.node.Node.{Node}
use Rattle.pattern_syntax.specs.declared.node.Node.TheVariants.{Byte, Set, Nothing, Both, Either}
use Rattle.pattern_syntax.specs.declared.node.Node.TheVariants.{Repeat}
use Rattle.pattern_match.specs.Residuals.{is_some_list}
use Rattle.pattern_match.specs.Automaton.{Automaton, automaton, bare, repeated_automaton}
use Rattle.pattern_match.specs.Building.{HoldsTrees, Builds, IsNodePut}
use Rattle.pattern_match.specs.Skipping.{is_zero_repeat, trees_before, IsSkip, AreNodeStarts}
use Rattle.pattern_match.specs.Skipping.{IsSkipNoted}
use Rattle.pattern_match.proofs.Stacks.{pushed}
use Rattle.pattern_match.proofs.Language.{is_zero}

pub one_before : (nodes : List Node) (k : ℕ) (d : Node) → k < length nodes
    → trees_before nodes (k + 1) ≡ after_node (get_or nodes k d) (trees_before nodes k)
one_before nodes k d l = ap (λ (ns : List Node). after_nodes ns []) (take_more nodes k d l)
    ∙ after_append (take k nodes) (get_or nodes k d) []

-- a part repeated zero times has the automaton of the empty text
pub zero_times : (a : Automaton) → bare true ≡ repeated_automaton 0 (Some 0) a
zero_times a = at (is_some_list a.places) refl
  where
    at : (v : Bool) → is_some_list a.places ≡ v → bare true ≡ repeated_automaton 0 (Some 0) a
    at true e = rw e refl
    at false e = rw e refl

pub put_zero : (old new : List Automaton) (a : Automaton) → a ≡ bare true → new ≡ old ++ a ∷ []
    → (trees : List Tree) (part : Tree) → HoldsTrees old trees
    → HoldsTrees new (tree.Repeat 0 (Some 0) part ∷ trees)
unfolding automaton
put_zero old new a e n =
    λ trees part h. rw n
    (pushed old trees a (tree.Repeat 0 (Some 0) part) h (e ∙ zero_times (automaton part)))

pub put_skip : (nodes : List Node) (old new : List Automaton) (start end : ℕ) → start < end
    → IsSkip nodes start end
    → ((trees : List Tree) (part : Tree) → HoldsTrees old trees
    → HoldsTrees new (tree.Repeat 0 (Some 0) part ∷ trees))
    → HoldsTrees old (trees_before nodes start) → IsNodePut nodes new start (end + 1)
put_skip nodes old new start end l s p h = record {
  later = omega arith;
  within = let w = s.within in omega arith;
  holds = subst (λ ts. HoldsTrees new ts) (sym s.builds) (p (trees_before nodes start) s.part h);
}

pub put_node : (nodes : List Node) (old new : List Automaton) (at : ℕ) (d : Node)
    → at < length nodes → Builds (get_or nodes at d) old new
    → HoldsTrees old (trees_before nodes at) → IsNodePut nodes new at (at + 1)
put_node nodes old new at d l b h = record {
  later = omega arith;
  within = omega arith;
  holds = subst (λ ts. HoldsTrees new ts) (sym (one_before nodes at d l))
      (b (trees_before nodes at) h);
}

last_first : (xs : List ℕ) (x : ℕ) → reverse (xs ++ x ∷ []) ≡ x ∷ reverse xs
last_first xs x = reverse-append xs (x ∷ [])

-- a leaf begins a tree
leaf_starts : (nodes : List Node) (starts skips new : List ℕ) (k : ℕ) (part : Tree)
    → trees_before nodes (k + 1) ≡ part ∷ trees_before nodes k → new ≡ starts ++ k ∷ []
    → IsSkipNoted nodes starts skips k → IsSkipNoted nodes new skips (k + 1)
leaf_starts nodes starts skips new k part e n h = record {
  starts_are = subst (λ w. AreNodeStarts nodes w (k + 1)) (sym (ap reverse n ∙ last_first starts k))
      (omega arith, (part, e), h.starts_are);
  skips_are = h.skips_are;
  room = h.room;
}

is_leaf : Node → Bool
is_leaf (Byte b) = true
is_leaf (Set set) = true
is_leaf Nothing = true
is_leaf Both = false
is_leaf Either = false
is_leaf (Repeat least most) = false

leaf_tree : (n : Node) (ts : List Tree) → is_leaf n ≡ true → (part : Tree)
    × (after_node n ts ≡ part ∷ ts)
unfolding is_leaf
leaf_tree (Byte b) ts h = (_, refl)
leaf_tree (Set set) ts h = (_, refl)
leaf_tree Nothing ts h = (_, refl)
leaf_tree Both ts h = cc
leaf_tree Either ts h = cc
leaf_tree (Repeat least most) ts h = cc

noted_leaf : (nodes : List Node) (starts skips new : List ℕ) (k : ℕ) (d : Node) → k < length nodes
    → is_leaf (get_or nodes k d) ≡ true → new ≡ starts ++ k ∷ [] → IsSkipNoted nodes starts skips k
    → IsSkipNoted nodes new skips (k + 1)
noted_leaf nodes starts skips new k d l i n h = let t =
    leaf_tree (get_or nodes k d) (trees_before nodes k) i in
    leaf_starts nodes starts skips new k t.0 (one_before nodes k d l ∙ t.1) n h

pub noted_byte : (nodes : List Node) (starts skips new : List ℕ) (k b : ℕ) (d : Node)
    → k < length nodes → get_or nodes k d ≡ Byte b → new ≡ starts ++ k ∷ []
    → IsSkipNoted nodes starts skips k → IsSkipNoted nodes new skips (k + 1)
unfolding is_leaf
noted_byte nodes starts skips new k b d l e n h =
    noted_leaf nodes starts skips new k d l (ap is_leaf e) n h

pub noted_set : (nodes : List Node) (starts skips new : List ℕ) (k : ℕ) (set : _) (d : Node)
    → k < length nodes → get_or nodes k d ≡ Set set → new ≡ starts ++ k ∷ []
    → IsSkipNoted nodes starts skips k → IsSkipNoted nodes new skips (k + 1)
unfolding is_leaf
noted_set nodes starts skips new k set d l e n h =
    noted_leaf nodes starts skips new k d l (ap is_leaf e) n h

pub noted_nothing : (nodes : List Node) (starts skips new : List ℕ) (k : ℕ) (d : Node)
    → k < length nodes → get_or nodes k d ≡ Nothing → new ≡ starts ++ k ∷ []
    → IsSkipNoted nodes starts skips k → IsSkipNoted nodes new skips (k + 1)
unfolding is_leaf
noted_nothing nodes starts skips new k d l e n h =
    noted_leaf nodes starts skips new k d l (ap is_leaf e) n h

-- two trees become one
abbrev joined_tree : Bool → Tree → Tree → Tree
joined_tree true a b = tree.Both a b
joined_tree false a b = tree.Either a b

join_starts : (nodes : List Node) (rest : List ℕ) (start k : ℕ) (v : Bool)
    → ((a b : Tree) (ts : List Tree) → trees_before nodes k ≡ b ∷ (a ∷ ts)
    → trees_before nodes (k + 1) ≡ joined_tree v a b ∷ ts) → AreNodeStarts nodes (start ∷ rest) k
    → AreNodeStarts nodes rest (k + 1)
join_starts nodes [] start k v f h = tt
join_starts nodes (s ∷ rest) start k v f (l, (b, e), (m, (a, g), more)) =
    (omega arith, (joined_tree v a b, f a b (trees_before nodes s) (e ∙ ap (λ ts. b ∷ ts) g)), more)

popped : (nodes : List Node) (starts new : List ℕ) (x k : ℕ) (v : Bool)
    → ((a b : Tree) (ts : List Tree) → trees_before nodes k ≡ b ∷ (a ∷ ts)
    → trees_before nodes (k + 1) ≡ joined_tree v a b ∷ ts) → starts ≡ new ++ x ∷ []
    → AreNodeStarts nodes (reverse starts) k → AreNodeStarts nodes (reverse new) (k + 1)
popped nodes starts new x k v f e h =
    join_starts nodes (reverse new) x k v f
    (subst (λ w. AreNodeStarts nodes w k) (ap reverse e ∙ last_first new x) h)

join_node : (nodes : List Node) (k : ℕ) (d : Node) → k < length nodes → get_or nodes k d ≡ Both
    → (a b : Tree) (ts : List Tree) → trees_before nodes k ≡ b ∷ (a ∷ ts)
    → trees_before nodes (k + 1) ≡ tree.Both a b ∷ ts
join_node nodes k d l e a b ts h = one_before nodes k d l
    ∙ ap (λ n. after_node n (trees_before nodes k)) e ∙ ap (after_node Both) h

choice_node : (nodes : List Node) (k : ℕ) (d : Node) → k < length nodes → get_or nodes k d ≡ Either
    → (a b : Tree) (ts : List Tree) → trees_before nodes k ≡ b ∷ (a ∷ ts)
    → trees_before nodes (k + 1) ≡ tree.Either a b ∷ ts
choice_node nodes k d l e a b ts h = one_before nodes k d l
    ∙ ap (λ n. after_node n (trees_before nodes k)) e ∙ ap (after_node Either) h

pub noted_both : (nodes : List Node) (starts skips new : List ℕ) (x k : ℕ) (d : Node)
    → k < length nodes → get_or nodes k d ≡ Both → starts ≡ new ++ x ∷ []
    → IsSkipNoted nodes starts skips k → IsSkipNoted nodes new skips (k + 1)
noted_both nodes starts skips new x k d l e p h = record {
  starts_are = popped nodes starts new x k true (join_node nodes k d l e) p h.starts_are;
  skips_are = h.skips_are;
  room = h.room;
}

pub noted_either : (nodes : List Node) (starts skips new : List ℕ) (x k : ℕ) (d : Node)
    → k < length nodes → get_or nodes k d ≡ Either → starts ≡ new ++ x ∷ []
    → IsSkipNoted nodes starts skips k → IsSkipNoted nodes new skips (k + 1)
noted_either nodes starts skips new x k d l e p h = record {
  starts_are = popped nodes starts new x k false (choice_node nodes k d l e) p h.starts_are;
  skips_are = h.skips_are;
  room = h.room;
}

pub noted_none : (nodes : List Node) (starts skips : List ℕ) (k : ℕ) → starts ≡ []
    → IsSkipNoted nodes starts skips k → IsSkipNoted nodes starts skips (k + 1)
noted_none nodes starts skips k e h = record {
  starts_are = subst (λ w. AreNodeStarts nodes (reverse w) (k + 1)) (sym e) tt;
  skips_are = h.skips_are;
  room = h.room;
}

-- a repeat takes the last tree
repeat_starts : (nodes : List Node) (starts : List ℕ) (k least : ℕ) (most : Option ℕ) (d : Node)
    → k < length nodes → get_or nodes k d ≡ Repeat least most → AreNodeStarts nodes starts k
    → AreNodeStarts nodes starts (k + 1)
repeat_starts nodes [] k least most d l e h = tt
repeat_starts nodes (s ∷ rest) k least most d l e (m, (a, g), more) = (
  omega arith,
  (
    tree.Repeat least most a,
    one_before nodes k d l
        ∙ ap (λ n. after_node n (trees_before nodes k)) e ∙ ap (after_node (Repeat least most)) g,
  ),
  more,
)

pub noted_repeat : (nodes : List Node) (starts skips : List ℕ) (k least : ℕ) (most : Option ℕ)
    (d : Node) → k < length nodes → get_or nodes k d ≡ Repeat least most
    → IsSkipNoted nodes starts skips k → IsSkipNoted nodes starts skips (k + 1)
noted_repeat nodes starts skips k least most d l e h = record {
  starts_are = repeat_starts nodes (reverse starts) k least most d l e h.starts_are;
  skips_are = h.skips_are;
  room = h.room;
}

zero_node : (n : Node) → is_zero_repeat n ≡ true → n ≡ Repeat 0 (Some 0)
zero_node (Byte b) h = cc
zero_node (Set set) h = cc
zero_node Nothing h = cc
zero_node Both h = cc
zero_node Either h = cc
zero_node (Repeat least None) h = cc
zero_node (Repeat least (Some most)) h = let a = is_zero least (first_so (least == 0) _ h) in
    let b = is_zero most (second_so (least == 0) _ h) in rw (a, b) refl

pub start_within : (nodes : List Node) (starts skips front : List ℕ) (x k : ℕ) → k < length nodes
    → starts ≡ front ++ x ∷ [] → IsSkipNoted nodes starts skips k → x < length skips
start_within nodes starts skips front x k l e h =
    let a = subst (λ w. AreNodeStarts nodes w k) (ap reverse e ∙ last_first front x) h.starts_are in
    let b : x < k = a.0 in
    let r : length skips ≡ length nodes = h.room in
    omega arith

pub noted_zero : (nodes : List Node) (starts skips front : List ℕ) (x k : ℕ) (d : Node)
    → k < length nodes → is_zero_repeat (get_or nodes k d) ≡ true → starts ≡ front ++ x ∷ []
    → IsSkipNoted nodes starts skips k → IsSkipNoted nodes starts (set skips x k) (k + 1)
noted_zero nodes starts skips front x k d l z e h = record {
  starts_are = repeat_starts nodes (reverse starts) k 0 (Some 0) d l n h.starts_are;
  skips_are = λ start. at start (cases_eq start x);
  room = length-set skips x k ∙ h.room;
}
  where
    n : get_or nodes k d ≡ Repeat 0 (Some 0)
    n = zero_node (get_or nodes k d) z

    a : AreNodeStarts nodes (x ∷ reverse front) k
    a = subst (λ w. AreNodeStarts nodes w k) (ap reverse e ∙ last_first front x) h.starts_are

    new : IsSkip nodes x k
    new = record {
      order = let b : x < k = a.0 in omega arith;
      within = l;
      part = a.1.0;
      builds = one_before nodes k d l ∙ ap (λ m. after_node m (trees_before nodes k)) n
          ∙ ap (after_node (Repeat 0 (Some 0))) a.1.1;
    }

    at : (start : ℕ) → (start ≡ x) ⊎ (start ≢ x) → start < slice_index (set skips x k) start
        → IsSkip nodes start (slice_index (set skips x k) start)
    at start (inl q) m =
        let g : get_or (set skips x k) x 0 ≡ k =
        get_or-set_same skips x k 0 (start_within nodes starts skips front x k l e h) in
        let f : slice_index (set skips x k) start ≡ k = ap (slice_index (set skips x k)) q ∙ g in
        subst (λ i. IsSkip nodes start i) (sym f) (subst (λ i. IsSkip nodes i k) (sym q) new)
    at start (inr q) m =
        let g : slice_index (set skips x k) start ≡ slice_index skips start =
        get_or-set_other skips x start k 0 q in
        subst (λ i. IsSkip nodes start i) (sym g) (h.skips_are start (subst (λ i. start < i) g m))

-- what is popped
pub both_popped : (nodes : List Node) (starts skips new : List ℕ) (o : Option ℕ) (k : ℕ) (d : Node)
    → k < length nodes → get_or nodes k d ≡ Both → starts ≡ new ++ option_to_list o
    → (o ≡ None → starts ≡ []) → IsSkipNoted nodes starts skips k
    → IsSkipNoted nodes new skips (k + 1)
both_popped nodes starts skips new (Some x) k d l e p z h =
    noted_both nodes starts skips new x k d l e p h
both_popped nodes starts skips new None k d l e p z h = let q : starts ≡ new = p ∙ append-nil new in
    subst (λ w. IsSkipNoted nodes w skips (k + 1)) q (noted_none nodes starts skips k (z refl) h)

pub either_popped : (nodes : List Node) (starts skips new : List ℕ) (o : Option ℕ) (k : ℕ)
    (d : Node) → k < length nodes → get_or nodes k d ≡ Either → starts ≡ new ++ option_to_list o
    → (o ≡ None → starts ≡ []) → IsSkipNoted nodes starts skips k
    → IsSkipNoted nodes new skips (k + 1)
either_popped nodes starts skips new (Some x) k d l e p z h =
    noted_either nodes starts skips new x k d l e p h
either_popped nodes starts skips new None k d l e p z h = let q : starts ≡ new =
    p ∙ append-nil new in
    subst (λ w. IsSkipNoted nodes w skips (k + 1)) q (noted_none nodes starts skips k (z refl) h)

pub last_start : (xs : List ℕ) (x : ℕ) → Some x ≡ slice_get xs (length xs - 1) → (front : List ℕ)
    × (xs ≡ front ++ x ∷ [])
last_start [] x h = cc
last_start (y ∷ []) x h = let e : x ≡ y = cc in ([], rw e refl)
last_start (y ∷ z ∷ zs) x h =
    let n : length (y ∷ z ∷ zs) - 1 ≡ suc (length (z ∷ zs) - 1) = omega arith in
    let r = last_start (z ∷ zs) x (h ∙ ap (slice_get (y ∷ z ∷ zs)) n) in
    (y ∷ r.0, ap (λ w. y ∷ w) r.1)

pub pop_none : (starts : List ℕ) (n : ℕ) (o : Option ℕ) (x : ℕ) → length starts ≡ n
    → (0 < n → o ≡ Some x) → o ≡ None → starts ≡ []
pop_none [] n o x l h e = refl
pop_none (y ∷ ys) n o x l h e = let q : Some x ≡ None = sym (h (omega arith)) ∙ e in cc
