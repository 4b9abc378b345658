-- The bytes of a start, and the nodes behind them.
use Rattle.std.proofs.Common.{◌≡◌, ◌∙◌, sym, refl, ap, ℕ, ◌+◌, ◌*◌, ◌==◌, ◌<◌, ◌≤◌, Bool, true}
use Rattle.std.proofs.Common.{false, ◌&&◌, List, [], ◌∷◌, ◌++◌, length, drop, arith, append-nil}
use Rattle.std.proofs.Common.{get_or, length-append, subst, suc, zero}
use Rattle.std.specs.Prelude.{Option, Some, None, fold, take, option_map}
use Rattle.std.specs.List.{list_all}
use Rattle.std.proofs.lemmas.List.{get_or-append-add, take_all, take_more, drop_more}
use Rattle.std.proofs.lemmas.List.{length-take-le}
use Rattle.std.proofs.lemmas.List.Folds.{list_all-append}
use Rattle.std.proofs.lemmas.List.Sums.{fold_push, fold-append}
use Rattle.std.specs.Cmp.{first_so, second_so}
use Rattle.pattern_syntax.specs.ByteSet.{bytes_with, has_byte}
use Rattle.pattern_syntax.specs.Tree as tree
use Rattle.pattern_syntax.specs.Tree.{Tree, tree_from}
use Rattle.pattern_syntax.specs.Nodes.{after_node, after_nodes, trees_behind, rest_tree}
use Rattle.pattern_syntax.specs.Shape.{is_proper, is_sequence, is_choice, tree_size, stack_size}
use Rattle.pattern_syntax.specs.Shape.{are_text_bytes}
use Rattle.pattern_syntax.specs.Classes.{is_text_byte}
use Rattle.pattern_syntax.specs.Literal.{literal_start_of, node_code, code_byte, led_byte}
use Rattle.pattern_syntax.specs.Literal.{is_several}
use Rattle.pattern_syntax.specs.Parts.{with_byte, bytes_tree, pattern_tree, start_trees}
use Rattle.pattern_syntax.specs.Parts.{start_nodes, lone_byte, lead_of, AreParts, IsPattern}
use Rattle.pattern_syntax.specs.Exact.{is_itself}
use Rattle.pattern_syntax.specs.Tokens as tokens
use Rattle.pattern_syntax.specs.Reading.{Reading, positions, sequence_of, after_token, reads_as}
use Rattle.pattern_syntax.specs.Building.{IsBuilderOf, after_bytes, level_counts, capped}
use Rattle.pattern_syntax.specs.Building.{capped_positions, tree_on, outer_trees}
use Rattle.pattern_syntax.specs.declared.builder.Builder.{Builder}
use Rattle.pattern_syntax.specs.declared.builder.Level as counts
use Rattle.pattern_syntax.specs.declared.node.Node.{Node}
use Rattle.pattern_syntax.specs.declared.node.Node.TheVariants as node
use Rattle.pattern_syntax.proofs.BuildingLemmas.{after_append, sequence_proper, token_read}
use Rattle.pattern_syntax.proofs.TokenLemmas.{itself_from}
use Rattle.pattern_syntax.proofs.LiteralLemmas.{AreWholeNodes, whole_leads, whole_several}
use Rattle.pattern_syntax.proofs.LiteralLemmas.{several_start, start_leads, no_leads}
use Rattle.pattern_syntax.proofs.PartsLemmas.{only_byte}

-- ---- nodes that are added

pub nodes_joined : (xs ys : List Node) (stack : List Tree) → after_nodes (xs ++ ys) stack
    ≡ after_nodes ys (after_nodes xs stack)
nodes_joined [] ys stack = refl
nodes_joined (x ∷ xs) ys stack = nodes_joined xs ys (after_node x stack)

pub start_size : (bytes : List ℕ) → length (start_nodes bytes) ≡ 2 * length bytes
start_size [] = refl
start_size (b ∷ bytes) = let n = start_size bytes in omega (arith, n)

pub after_start : (bytes : List ℕ) (t : Tree) (stack : List Tree)
    → after_nodes (start_nodes bytes) (t ∷ stack) ≡ fold with_byte t bytes ∷ stack
after_start [] t stack = refl
after_start (b ∷ bytes) t stack = after_start bytes (with_byte t b) stack

led_pushed : (nodes : List Node) (n : Node) → lead_of nodes ≡ None
    → led_byte (lone_byte nodes) ((node_code n).0 == 2) ≡ None → lead_of (nodes ++ n ∷ []) ≡ None
led_pushed [] n h k = refl
led_pushed (m ∷ []) n h k = k
led_pushed (m ∷ k ∷ nodes) n h e = h

not_led : (o : Option ℕ) → led_byte o false ≡ None
not_led None = refl
not_led (Some b) = refl

pub led_put : (new old : List Node) (n : Node) → new ≡ old ++ n ∷ []
    → ((node_code n).0 == 2) ≡ false → lead_of old ≡ None → lead_of new ≡ None
led_put new old n e f h = ap lead_of e
    ∙ led_pushed old n h (ap (led_byte (lone_byte old)) f ∙ not_led (lone_byte old))

pub led_joined : (new old : List Node) → new ≡ old ++ node.Both ∷ [] → lone_byte old ≡ None
    → lead_of old ≡ None → lead_of new ≡ None
led_joined new old e f h = ap lead_of e
    ∙ led_pushed old node.Both h (ap (λ (o : Option ℕ). led_byte o true) f)

led_more : (nodes : List Node) (bytes : List ℕ) → lead_of nodes ≡ None
    → (length nodes ≡ 0 → ⊥) → lead_of (nodes ++ start_nodes bytes) ≡ None
led_more [] bytes h k = absurd (k refl)
led_more (n ∷ []) [] h k = refl
led_more (n ∷ []) (b ∷ bytes) h k = not_led (code_byte (node_code n))
led_more (n ∷ m ∷ nodes) bytes h k = h

pub led_extended : (new old : List Node) (bytes : List ℕ) → new ≡ old ++ start_nodes bytes
    → (length old ≡ 0 → ⊥) → lead_of old ≡ None → lead_of new ≡ None
led_extended new old bytes e k h = ap lead_of e ∙ led_more old bytes h k

-- ---- trees behind a start

pub trees_put : (start : List ℕ) (new old : List Node) (n : Node) → new ≡ old ++ n ∷ []
    → start_trees start new ≡ after_node n (start_trees start old)
trees_put start new old n e = ap (start_trees start) e ∙ after_append old n (bytes_tree start ∷ [])

byte_node : (n : Node) (b : ℕ) (stack : List Tree) → code_byte (node_code n) ≡ Some b
    → after_node n stack ≡ tree.Set (b ∷ []) ∷ stack
byte_node (node.Byte c) b stack h = ap (λ (l : List ℕ). tree.Set l ∷ stack) (only_byte (c ∷ []) b h)
byte_node (node.Set set) b stack h =
    ap (λ (l : List ℕ). tree.Set l ∷ stack) (only_byte (bytes_with (has_byte set)) b h)
byte_node node.Nothing b stack h = absurd (let f : None ≡ Some b = h in cc)
byte_node node.Both b stack h = absurd (let f : None ≡ Some b = h in cc)
byte_node node.Either b stack h = absurd (let f : None ≡ Some b = h in cc)
byte_node (node.Repeat least most) b stack h = absurd (let f : None ≡ Some b = h in cc)

pub lone_size : (nodes : List Node) (b : ℕ) → lone_byte nodes ≡ Some b → length nodes ≡ 1
lone_size [] b h = absurd (let f : None ≡ Some b = h in cc)
lone_size (n ∷ []) b h = refl
lone_size (n ∷ m ∷ nodes) b h = absurd (let f : None ≡ Some b = h in cc)

pub lone_joined : (start new : List ℕ) (nodes : List Node) (b : ℕ) → lone_byte nodes ≡ Some b
    → new ≡ start ++ b ∷ []
    → start_trees new [] ≡ after_node node.Both (start_trees start nodes)
lone_joined start new [] b h e = absurd (let f : None ≡ Some b = h in cc)
lone_joined start new (n ∷ []) b h e =
    ap (λ (s : List ℕ). bytes_tree s ∷ []) e
    ∙ ap (λ (t : Tree). t ∷ []) (fold_push with_byte tree.Nothing start b)
    ∙ ap (after_node node.Both) (sym (byte_node n b (bytes_tree start ∷ []) h))
lone_joined start new (n ∷ m ∷ nodes) b h e = absurd (let f : None ≡ Some b = h in cc)

no_nodes : (nodes : List Node) → length nodes ≡ 0 → nodes ≡ []
no_nodes [] h = refl
no_nodes (n ∷ nodes) h = absurd (omega arith)

pub bytes_joined : (start new bytes : List ℕ) (nodes : List Node) → length nodes ≡ 0
    → new ≡ start ++ bytes
    → start_trees new nodes ≡ after_nodes (start_nodes bytes) (start_trees start nodes)
bytes_joined start new bytes nodes h e =
    let none = no_nodes nodes h in
    ap (start_trees new) none
    ∙ ap (λ (s : List ℕ). bytes_tree s ∷ []) e
    ∙ ap (λ (t : Tree). t ∷ []) (fold-append with_byte tree.Nothing start bytes)
    ∙ sym (after_start bytes (bytes_tree start) [])
    ∙ ap (λ (ns : List Node). after_nodes (start_nodes bytes) (start_trees start ns)) (sym none)

pub trees_extended : (start bytes : List ℕ) (new old : List Node) → new ≡ old ++ start_nodes bytes
    → start_trees start new ≡ after_nodes (start_nodes bytes) (start_trees start old)
trees_extended start bytes new old e = ap (start_trees start) e
    ∙ nodes_joined old (start_nodes bytes) (bytes_tree start ∷ [])

pub size_extended : (bytes : List ℕ) (new old : List Node) → new ≡ old ++ start_nodes bytes
    → length new ≡ length old + 2 * length bytes
size_extended bytes new old e =
    let n = start_size bytes in
    ap length e ∙ length-append old (start_nodes bytes) ∙ omega (arith, n)

-- ---- bytes that are read

pub fold_positions : (bytes : List ℕ) (t : Tree) → positions (fold with_byte t bytes)
    ≡ positions t + length bytes
fold_positions [] t = omega arith
fold_positions (b ∷ bytes) t = let n = fold_positions bytes (with_byte t b) in omega (arith, n)

pub fold_size : (bytes : List ℕ) (t : Tree) → tree_size (fold with_byte t bytes)
    ≡ tree_size t + 2 * length bytes
fold_size [] t = omega arith
fold_size (b ∷ bytes) t = let n = fold_size bytes (with_byte t b) in omega (arith, n)

pub fold_proper : (bytes : List ℕ) (t : Tree) → is_sequence t ≡ true → is_proper t ≡ true
    → are_text_bytes bytes ≡ true → (is_sequence (fold with_byte t bytes) ≡ true)
    × (is_proper (fold with_byte t bytes) ≡ true)
fold_proper [] t s p h = (s, p)
fold_proper (b ∷ bytes) t s p h =
    let one = ap (λ (x : Bool). x && true) (first_so (is_text_byte b) (are_text_bytes bytes) h) in
    let q = sequence_proper t (Some (tree.Set (b ∷ []))) s p one in
    fold_proper bytes (with_byte t b) q.0 q.1
    (second_so (is_text_byte b) (are_text_bytes bytes) h)

abbrev behind_run : Reading → List ℕ → ℕ → Reading
behind_run read front b = record {
  level = record {
    sides = read.level.sides;
    sequence = fold with_byte (sequence_of read.level) front;
    piece = Some (tree.Set (b ∷ []));
  };
  outer = read.outer;
}

run_behind : (front : List ℕ) (read : Reading) (b : ℕ) → after_bytes read (front ++ b ∷ [])
    ≡ behind_run read front b
run_behind [] read b = refl
run_behind (c ∷ front) read b = run_behind front (after_token read (tokens.Bytes (c ∷ []))) b

run_level : (old : Builder) (read : Reading) (front : List ℕ) (count last b : ℕ)
    → old.level ≡ level_counts read.level → count ≡ capped_positions (sequence_of read.level)
    → last ≡ length front
    → record { sides = old.level.sides; sequence = capped (count + last); piece = Some 1 }
    ≡ level_counts (behind_run read front b).level
run_level old read front count last b l e f =
    let n = fold_positions front (sequence_of read.level) in
    let s : capped (count + last) ≡ capped_positions (fold with_byte (sequence_of read.level) front)
    = omega (arith, n, e, f) in
    ap (λ (o : Option ℕ). record { sides = o; sequence = capped (count + last); piece = Some 1 })
    (ap (λ (l : counts.Level). l.sides) l)
    ∙ ap (λ (k : ℕ). record {
      sides = option_map capped_positions read.level.sides;
      sequence = k;
      piece = Some 1;
    }) s

abbrev run_stack : Reading → List Tree
run_stack read = sequence_of read.level ∷ tree_on read.level.sides (outer_trees read.outer)

run_stands : (old new : Builder) (read : Reading) (front : List ℕ) (b count last : ℕ)
    → IsBuilderOf old read → last ≡ length front → are_text_bytes (front ++ b ∷ []) ≡ true
    → count ≡ capped_positions (sequence_of read.level)
    → start_trees new.start new.nodes.items
    ≡ tree.Set (b ∷ []) ∷ after_nodes (start_nodes front) (run_stack read)
    → 2 * length new.start + length new.nodes.items
    ≡ stack_size (run_stack read) + 2 * length front
    → lead_of new.nodes.items ≡ None
    → new.level
    ≡ record { sides = old.level.sides; sequence = capped (count + last); piece = Some 1 }
    → new.outer.items ≡ old.outer.items
    → IsBuilderOf new (behind_run read front b)
run_stands old new read front b count last s f text e trees size led level outer =
    let p = s.level_proper in
    let q = sequence_proper read.level.sequence read.level.piece p.shape p.sequence p.piece in
    let all = sym (list_all-append is_text_byte front (b ∷ [])) ∙ text in
    let r = fold_proper front (sequence_of read.level) q.0 q.1
    (first_so (are_text_bytes front) (are_text_bytes (b ∷ [])) all) in
    let n = fold_size front (sequence_of read.level) in
    record {
      trees = trees
          ∙ ap (λ (l : List Tree). tree.Set (b ∷ []) ∷ l)
          (after_start front (sequence_of read.level)
          (tree_on read.level.sides (outer_trees read.outer)));
      level = level ∙ run_level old read front count last b s.level e f;
      outer = outer ∙ s.outer;
      level_proper =
          record {
            sides = p.sides;
            shape = r.0;
            sequence = r.1;
            piece = second_so (are_text_bytes front) (are_text_bytes (b ∷ [])) all;
          };
      outer_proper = s.outer_proper;
      size = omega (arith, n, size);
      led = led;
    }

pub last_of : (bytes : List ℕ) (last : ℕ) → last + 1 ≡ length bytes
    → bytes ≡ take last bytes ++ get_or bytes last 0 ∷ []
last_of bytes last h =
    sym (take_all (last + 1) bytes (omega (arith, h))) ∙ take_more bytes last 0 (omega (arith, h))

pub bytes_stand : (old new : Builder) (read : Reading) (bytes : List ℕ) (count last : ℕ)
    → IsBuilderOf old read → last + 1 ≡ length bytes → are_text_bytes bytes ≡ true
    → count ≡ capped_positions (sequence_of read.level)
    → start_trees new.start new.nodes.items
    ≡ tree.Set (get_or bytes last 0 ∷ []) ∷ after_nodes (start_nodes (take last bytes))
    (run_stack read)
    → 2 * length new.start + length new.nodes.items
    ≡ stack_size (run_stack read) + 2 * last
    → lead_of new.nodes.items ≡ None
    → new.level
    ≡ record { sides = old.level.sides; sequence = capped (count + last); piece = Some 1 }
    → new.outer.items ≡ old.outer.items
    → IsBuilderOf new (after_bytes read bytes)
bytes_stand old new read bytes count last s h text e trees size led level outer =
    let front = take last bytes in
    let b = get_or bytes last 0 in
    let cut = last_of bytes last h in
    let f : length (take last bytes) ≡ last = length-take-le last bytes (omega (arith, h)) in
    subst (λ (r : Reading). IsBuilderOf new r)
    (sym (ap (after_bytes read) cut ∙ run_behind (take last bytes) read (get_or bytes last 0)))
    (run_stands old new read (take last bytes) (get_or bytes last 0) count last s (sym f)
    (ap are_text_bytes (sym cut) ∙ text) e trees (omega (arith, size, f)) led level outer)

-- ---- bytes that stand for themselves, at a place

pub run_read : (n end : ℕ) (read : Reading) (at : ℕ) (all : List ℕ) → at + n ≤ length all
    → list_all is_itself (take n (drop at all)) ≡ true
    → reads_as end read (tokens.tokens_from at 0 (drop at all))
    ≡ reads_as end (after_bytes read (take n (drop at all)))
    (tokens.tokens_from (at + n) 0 (drop (at + n) all))
run_read zero end read at all h p =
    let e : at ≡ at + 0 = omega arith in
    ap (λ (k : ℕ). reads_as end read (tokens.tokens_from k 0 (drop k all))) e
run_read (suc n) end read at all h p =
    let b = get_or all at 0 in
    let l : at < length all = omega arith in
    let cut = drop_more all at 0 l in
    let q : (is_itself b && list_all is_itself (take n (drop (at + 1) all))) ≡ true =
    ap (λ (xs : List ℕ). list_all is_itself (take (suc n) xs)) (sym cut) ∙ p in
    let e : at + 1 + n ≡ at + suc n = omega arith in
    token_read (reads_as end read (tokens.tokens_from at 0 (drop at all))) end read at all
    (tokens.Bytes (b ∷ [])) 1 l refl
    (itself_from at b all l refl (first_so (is_itself b)
    (list_all is_itself (take n (drop (at + 1) all))) q)) (omega arith) refl
    ∙ run_read n end (after_token read (tokens.Bytes (b ∷ []))) (at + 1) all (omega arith)
    (second_so (is_itself b) (list_all is_itself (take n (drop (at + 1) all))) q)
    ∙ ap (λ (k : ℕ). reads_as end
    (after_bytes (after_token read (tokens.Bytes (b ∷ []))) (take n (drop (at + 1) all)))
    (tokens.tokens_from k 0 (drop k all))) e
    ∙ ap (λ (xs : List ℕ). reads_as end (after_bytes read (take (suc n) xs))
    (tokens.tokens_from (at + suc n) 0 (drop (at + suc n) all))) (sym cut)

-- ---- a start, and nodes that begin with no byte of it

all_trees : (start : List ℕ) (nodes : List Node) → trees_behind (start_nodes start ++ nodes)
    ≡ start_trees start nodes
all_trees start nodes = nodes_joined (start_nodes start) nodes (tree.Nothing ∷ [])
    ∙ ap (λ (l : List Tree). after_nodes nodes l) (after_start start tree.Nothing [])

all_tree : (start : List ℕ) (nodes : List Node) → rest_tree (start_nodes start ++ nodes)
    ≡ pattern_tree start nodes
all_tree start nodes = ap tree_from (all_trees start nodes)

all_whole : (start : List ℕ) (nodes : List Node) → AreParts start nodes
    → AreWholeNodes (start_nodes start ++ nodes)
all_whole start nodes p =
    let t = all_tree start nodes in record {
      builds = all_trees start nodes ∙ p.builds ∙ ap (λ (u : Tree). u ∷ []) (sym t);
      proper = ap is_proper t ∙ p.proper;
      choice = ap is_choice t ∙ p.choice;
      size =
          let n = start_size start in
          let m = length-append (start_nodes start) nodes in
          let k = p.size in
          let e : length (start_nodes start ++ nodes) + 1 ≡ tree_size (pattern_tree start nodes)
          = omega (arith, n, m, k) in
          e ∙ ap tree_size (sym t);
    }

-- the last node says whether there are several sides
pub parts_several : (start : List ℕ) (nodes : List Node) (i : ℕ) (d : Node) → AreParts start nodes
    → i + 1 ≡ length nodes
    → ((node_code (get_or nodes i d)).0 == 3) ≡ is_several (pattern_tree start nodes)
parts_several start nodes i d p h =
    let m = length-append (start_nodes start) nodes in
    ap (λ (n : Node). (node_code n).0 == 3) (sym (get_or-append-add (start_nodes start) nodes i d))
    ∙ whole_several (start_nodes start ++ nodes) (length (start_nodes start) + i) d
    (all_whole start nodes p) (omega (arith, m, h))
    ∙ ap is_several (all_tree start nodes)

fold_single : (bytes : List ℕ) (t : Tree) → is_several t ≡ false
    → is_several (fold with_byte t bytes) ≡ false
fold_single [] t h = h
fold_single (b ∷ bytes) t h = fold_single bytes (with_byte t b) refl

pub start_single : (start : List ℕ) (nodes : List Node) → length nodes ≡ 0
    → false ≡ is_several (pattern_tree start nodes)
start_single start [] h = sym (fold_single start tree.Nothing refl)
start_single start (n ∷ nodes) h = absurd (omega arith)

pub parts_start : (start : List ℕ) (nodes : List Node) → AreParts start nodes
    → is_several (pattern_tree start nodes) ≡ false → IsPattern start nodes
parts_start start nodes p s =
    let t = all_tree start nodes in record {
      builds = p.builds;
      proper = p.proper;
      choice = p.choice;
      literal =
          ap literal_start_of (sym t)
          ∙ sym (whole_leads (start_nodes start ++ nodes) (all_whole start nodes p)
          (ap is_several t ∙ s))
          ∙ start_leads start nodes
          ∙ ap (λ (l : List ℕ). start ++ l) (no_leads nodes p.led) ∙ append-nil start;
      size = p.size;
    }

pub sides_tree : (start : List ℕ) (nodes all : List Node) → all ≡ start_nodes start ++ nodes
    → pattern_tree [] all ≡ pattern_tree start nodes
sides_tree start nodes all e = ap rest_tree e ∙ all_tree start nodes

pub sides_start : (start : List ℕ) (nodes all : List Node) → all ≡ start_nodes start ++ nodes
    → AreParts start nodes → is_several (pattern_tree start nodes) ≡ true → IsPattern [] all
sides_start start nodes all e p s =
    let t = sides_tree start nodes all e in record {
      builds = ap trees_behind e ∙ all_trees start nodes ∙ p.builds
          ∙ ap (λ (u : Tree). u ∷ []) (sym t);
      proper = ap is_proper t ∙ p.proper;
      choice = ap is_choice t ∙ p.choice;
      literal = several_start (pattern_tree [] all) (ap is_several t ∙ s);
      size =
          let w = (all_whole start nodes p).size in
          let n = ap length e in
          let k = ap tree_size (all_tree start nodes) in
          let m = ap tree_size t in
          omega (arith, w, n, k, m);
    }
