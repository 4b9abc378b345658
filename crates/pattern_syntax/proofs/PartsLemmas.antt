-- Sets of one byte, sequences of them, and whether a node stands behind a start.
use Rattle.std.proofs.Common.{◌≡◌, ◌∙◌, sym, refl, ap, ℕ, ◌==◌}
use Rattle.std.proofs.Common.{true, false, List, [], ◌∷◌, ◌++◌}
use Rattle.std.proofs.Common.{append_assoc, append-nil, arith, length, length-append, ◌+◌, ◌*◌, suc}
use Rattle.std.specs.Prelude.{Option, Some, None, fold, is_some}
use Rattle.std.proofs.lemmas.Bool.Decides.{nat_tests}
use Rattle.pattern_syntax.specs.ByteSet.{only_of}
use Rattle.pattern_syntax.specs.Tree as tree
use Rattle.pattern_syntax.specs.Tree.{Tree}
use Rattle.pattern_syntax.specs.Shape.{tree_size}
use Rattle.pattern_syntax.specs.Literal.{single_byte, single_bytes, start_joined}
use Rattle.pattern_syntax.specs.Parts.{with_byte, bytes_tree, pattern_tree, IsPattern}
use Rattle.pattern_syntax.specs.declared.node.Node.{Node}
use Rattle.pattern_syntax.proofs.LiteralLemmas.{single_is_start}

-- ---- sets of one byte

pub same_byte : (b : ℕ) → (b == b) ≡ true
same_byte b = grind (arith, nat_tests)

pub only_byte : (bytes : List ℕ) (b : ℕ) → only_of bytes ≡ Some b → bytes ≡ b ∷ []
only_byte [] b h = absurd (let f : None ≡ Some b = h in cc)
only_byte (x ∷ []) b h = let f : Some x ≡ Some b = h in let g : x ≡ b = cc in
    ap (λ (y : ℕ). y ∷ []) g
only_byte (x ∷ y ∷ bytes) b h = absurd (let f : None ≡ Some b = h in cc)

-- ---- a pattern of single bytes alone

pub joined_parts : (o : Option (List ℕ)) (p : Option ℕ) (bytes : List ℕ)
    → start_joined o p ≡ Some bytes
    → (start : List ℕ) × (b : ℕ) × (o ≡ Some start) × (p ≡ Some b) × (bytes ≡ start ++ b ∷ [])
joined_parts None p bytes h = cc
joined_parts (Some start) None bytes h = cc
joined_parts (Some start) (Some b) bytes h = (start, b, refl, refl, cc)

bytes_literal : (t : Tree) (start bytes : List ℕ) → single_bytes t ≡ Some start
    → single_bytes (fold with_byte t bytes) ≡ Some (start ++ bytes)
bytes_literal t start [] h = h ∙ ap Some (sym (append-nil start))
bytes_literal t start (b ∷ bs) h =
    let e : start_joined (single_bytes t) (Some b) ≡ Some (start ++ b ∷ []) = rw h refl in
    bytes_literal (with_byte t b) (start ++ b ∷ []) bs e
    ∙ ap Some (append_assoc start (b ∷ []) bs)

-- a start as a sequence
pub start_literal : (start : List ℕ) → single_bytes (bytes_tree start) ≡ Some start
start_literal start = bytes_literal tree.Nothing [] start refl

byte_size : (t : Tree) (b : ℕ) → single_byte t ≡ Some b → tree_size t ≡ 1
byte_size (tree.Set bytes) b h = refl
byte_size tree.Nothing b h = cc
byte_size (tree.Both first second) b h = cc
byte_size (tree.Either left right) b h = cc
byte_size (tree.Repeat least most piece) b h = cc

single_size : (t : Tree) (bytes : List ℕ) → single_bytes t ≡ Some bytes
    → tree_size t ≡ 2 * length bytes + 1
single_size tree.Nothing bytes h = let e : [] ≡ bytes = cc in let n = ap length e in
    omega (arith, n)
single_size (tree.Both first second) bytes h =
    let j = joined_parts (single_bytes first) (single_byte second) bytes h in
    let f = single_size first j.0 j.2 in
    let s = byte_size second j.1 j.3 in
    let n : length bytes ≡ length j.0 + 1 = ap length j.4 ∙ length-append j.0 (j.1 ∷ []) in
    omega (arith, f, s, n)
single_size (tree.Set bs) bytes h = cc
single_size (tree.Either left right) bytes h = cc
single_size (tree.Repeat least most piece) bytes h = cc

not_empty : (n : ℕ) → (suc n == 0) ≡ false
not_empty n = grind (arith, nat_tests)

-- no node stands behind the start just where the tree is single bytes alone
pub alone_shown : (start : List ℕ) (rest : List Node) → IsPattern start rest
    → (length rest == 0) ≡ is_some (single_bytes (pattern_tree start rest))
alone_shown start [] p = sym (ap is_some (start_literal start))
alone_shown start (n ∷ rest) p =
    not_empty (length rest) ∙ sym (by_bytes (single_bytes (pattern_tree start (n ∷ rest))) refl)
  where
    by_bytes : (o : Option (List ℕ)) → single_bytes (pattern_tree start (n ∷ rest)) ≡ o
        → is_some o ≡ false
    by_bytes None e = refl
    by_bytes (Some bytes) e =
        let same = ap length (sym (single_is_start (pattern_tree start (n ∷ rest)) bytes e)
        ∙ p.literal) in
        let s = single_size (pattern_tree start (n ∷ rest)) bytes e in
        let k = p.size in
        absurd (omega (arith, same, s, k))
