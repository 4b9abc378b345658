-- What is known of nodes stays right while nodes are added and steps are noted.
use Rattle.std.proofs.Common.{◌≡◌, ◌≢◌, ◌∙◌, sym, refl, ap, subst, ℕ, zero, suc, ◌+◌, ◌-◌, ◌*◌, ◌/◌}
use Rattle.std.proofs.Common.{◌%◌, ◌<◌, ◌≤◌, ◌==◌, inl, inr, Bool, true, false, List, [], ◌∷◌, ◌++◌}
use Rattle.std.proofs.Common.{length, length-append, length-set, length-drop, get_or, map}
use Rattle.std.proofs.Common.{get_or-set_same, get_or-set_other, set, slice_get, slice_index}
use Rattle.std.proofs.Common.{Option, Some, None, replicate, eqb-true, eq-eqb, true≢false, arith}
use Rattle.std.proofs.Math.ListN.{get_or-append}
use Rattle.std.proofs.lemmas.List.{get_or_default, get_or_push, length-replicate}
use Rattle.pattern_match.specs.States.{AreStatesOf, HasRoomFor, Progress, StandsFor}
use Rattle.pattern_match.specs.Onwards.{TakesAll}
use Rattle.pattern_syntax.specs.Language.{Opens, holds}
use Rattle.pattern_syntax.specs.Tree.{Tree}
use Rattle.policy_lists.specs.Lines.{HaveRoom, pattern_at, spec_of}
use Rattle.policy_lists.specs.Nodes.{Accepts, AreNodesBy, Covers, HasReached, IsBegun, IsNode}
use Rattle.policy_lists.specs.Nodes.{IsNoted, IsStepped, LeadsTo, StandsAt, decoded, line_of}
use Rattle.policy_lists.specs.Nodes.{node_coded, node_of, node_pattern, states_of}
use Rattle.policy_lists.specs.Rows.{AreMore, IsAdded, IsNumbered, row_at}
use Rattle.policy_lists.specs.declared.line.Line.{Line}
use Rattle.policy_lists.proofs.LineLemmas.{pattern_here, spec_here}
use Rattle.policy_lists.proofs.RowLemmas.{added, longer, none_more, row_kept}
use Rattle.spec_match.proofs.ChainLemmas.{before_or_last}
use Rattle.spec_match.proofs.ScratchLemmas.{marks_fit}
use Rattle.spec_match.specs.Remembering.{Remembers}

-- ---- rows of entries

recalled : (R : ℕ → ℕ → Type 0) (row : List ℕ) (p known : ℕ) → Remembers R row → p < length row
    → known ≡ get_or row p known → 0 < known → R p (known - 1)
recalled R row p known m w e h =
    m.entry p (known - 1) (get_or_default row p 0 known w ∙ sym e ∙ omega (arith, h))

entry_by : (R : ℕ → ℕ → Type 0) (row : List ℕ) (p x q v : ℕ) (same : Bool) → (q == p) ≡ same
    → p < length row → Remembers R row → ((v : ℕ) → x ≡ suc v → R p v)
    → slice_index (set row p x) q ≡ suc v → R q v
entry_by R row p x q v true t w m h e =
    let same : q ≡ p = eqb-true q p t in
    subst (λ k. R k v) (sym same)
    (h v (sym (get_or-set_same row p x 0 w) ∙ ap (λ k. slice_index (set row p x) k) (sym same)
    ∙ e))
entry_by R row p x q v false t w m h e =
    let other : q ≢ p = λ same. true≢false (sym (eq-eqb q p same) ∙ t) in
    m.entry q v (sym (get_or-set_other row p q x 0 other) ∙ e)

noted : (R : ℕ → ℕ → Type 0) (row : List ℕ) (p x : ℕ) → p < length row
    → ((v : ℕ) → x ≡ suc v → R p v) → Remembers R row → Remembers R (set row p x)
noted R row p x w h m = record { entry = λ q v e. entry_by R row p x q v (q == p) refl w m h e }

none_there : (n p : ℕ) → slice_index (replicate n 0) p ≡ 0
none_there zero p = refl
none_there (suc n) zero = refl
none_there (suc n) (suc p) = none_there n p

-- a row behind which nothing is known
unknown_behind : (R : ℕ → ℕ → Type 0) (row : List ℕ) (n : ℕ) → Remembers R row
    → Remembers R (row ++ replicate n 0)
unknown_behind R row n m = record { entry = λ p v e. m.entry p v (at row p v n e) }
  where
    at : (row : List ℕ) (p v n : ℕ) → slice_index (row ++ replicate n 0) p ≡ suc v
        → slice_index row p ≡ suc v
    at [] p v n e = absurd (omega (arith, e, none_there n p))
    at (x ∷ row) zero v n e = e
    at (x ∷ row) (suc p) v n e = at row p v n e

weaker : (R S : ℕ → ℕ → Type 0) (row : List ℕ) → ((p v : ℕ) → R p v → S p v) → Remembers R row
    → Remembers S row
weaker R S row f m = record { entry = λ p v e. f p v (m.entry p v e) }

-- ---- nodes are added

reached_kept : (lines : List Line) (byte : ℕ) (from : List ℕ) (old new : List (List ℕ)) (v : ℕ)
    → AreMore old new → v ≤ length old → LeadsTo lines byte from (node_coded old v)
    → LeadsTo lines byte from (node_coded new v)
reached_kept lines byte from old new zero m l h = h
reached_kept lines byte from old new (suc to) m l h =
    subst (λ row. LeadsTo lines byte from (Some row)) (sym (row_kept old new to m (omega
    (arith, l))))
    h

noted_kept : (lines : List Line) (old new : List (List ℕ)) (p v : ℕ) → AreMore old new
    → IsNoted lines old p v → IsNoted lines new p v
noted_kept lines old new p v m h = record {
  from = omega (arith, h.from, longer old new m);
  to = omega (arith, h.to, longer old new m);
  leads = subst (λ row. LeadsTo lines (p % 256) row (node_coded new v))
      (sym (row_kept old new (p / 256) m h.from))
      (reached_kept lines (p % 256) (row_at old (p / 256)) old new v m h.to h.leads);
}

-- what holds of each row holds of one more
each_more : (P : ℕ → List ℕ → Type 0) (rows : List (List ℕ)) (row : List ℕ)
    → ((n : ℕ) → n < length rows → P n (row_at rows n)) → P (length rows) row
    → (n : ℕ) → n < length (rows ++ row ∷ []) → P n (row_at (rows ++ row ∷ []) n)
each_more P rows row all this n l =
    elim (before_or_last n (length rows) (omega (arith, l, length-append rows (row ∷ [])))) [
      | inl before ↦ subst (P n) (sym (get_or-append rows (row ∷ []) [] n before)) (all n before)
      | inr here ↦ subst (P n) (sym (get_or_push rows row [] n here))
          (subst (λ k. P k row) here this)
    ]

flag_before : (flags : List Bool) (flag : Bool) (n : ℕ) → n < length flags
    → get_or (flags ++ flag ∷ []) n false ≡ get_or flags n false
flag_before flags flag n l = get_or-append flags (flag ∷ []) false n l

flag_last : (flags : List Bool) (flag : Bool) (n : ℕ) → length flags ≡ n
    → get_or (flags ++ flag ∷ []) n false ≡ flag
flag_last flags flag n e = get_or_push flags flag false n e

pub node_added : (lines : List Line) (nodes : List (List ℕ)) (next : List ℕ)
    (ends takes : List Bool) (width : ℕ) (node : List ℕ) (end take : Bool)
    → AreNodesBy lines nodes next ends takes width → IsNode lines node → Accepts lines node end
    → (take ≡ true → Covers lines node)
    → AreNodesBy lines (nodes ++ node ∷ []) (next ++ replicate 256 0) (ends ++ end ∷ [])
    (takes ++ take ∷ []) width
node_added lines nodes next ends takes width node end take h is accepts covers = record {
  room = h.room;
  each = each_more (λ n row. IsNode lines row) nodes node h.each is;
  rows = omega (
    arith,
    h.rows,
    length-append next (replicate 256 0),
    length-append nodes (node ∷ []),
    length-replicate {A = ℕ} 256 0,
  );
  steps = unknown_behind (IsNoted lines (nodes ++ node ∷ [])) next 256
      (weaker (IsNoted lines nodes) (IsNoted lines (nodes ++ node ∷ [])) next
      (λ p v. noted_kept lines nodes (nodes ++ node ∷ []) p v (node ∷ [], refl)) h.steps);
  ends_rows =
      omega (arith, h.ends_rows, length-append ends (end ∷ []), length-append nodes (node ∷ []));
  accepts = each_more (λ n row. Accepts lines row (get_or (ends ++ end ∷ []) n false)) nodes node
      (λ n l. subst (Accepts lines (row_at nodes n))
      (sym (flag_before ends end n (omega (arith, l, h.ends_rows)))) (h.accepts n l))
      (subst (Accepts lines node) (sym (flag_last ends end (length nodes) h.ends_rows)) accepts);
  takes_rows =
      omega (arith, h.takes_rows, length-append takes (take ∷ []), length-append nodes (node ∷ []));
  covers = each_more (λ n row. get_or (takes ++ take ∷ []) n false ≡ true → Covers lines row) nodes
      node
      (λ n l e. h.covers n l (sym (flag_before takes take n (omega (arith, l, h.takes_rows))) ∙ e))
      (λ e. covers (sym (flag_last takes take (length nodes) h.takes_rows) ∙ e));
}

pub step_noted : (lines : List Line) (nodes : List (List ℕ)) (next : List ℕ)
    (ends takes : List Bool) (width from byte code : ℕ) (to : Option ℕ)
    → AreNodesBy lines nodes next ends takes width → from < length nodes → byte < 256
    → ((v : ℕ) → code ≡ suc v → to ≡ decoded v) → HasReached lines byte (row_at nodes from) nodes to
    → AreNodesBy lines nodes (set next (256 * from + byte) code) ends takes width
step_noted lines nodes next ends takes width from byte code to h l b coded reached = record {
  room = h.room;
  each = h.each;
  rows = length-set next (256 * from + byte) code ∙ h.rows;
  steps = noted (IsNoted lines nodes) next (256 * from + byte) code (omega (arith, h.rows, l, b))
      (λ v e. one v (coded v e)) h.steps;
  ends_rows = h.ends_rows;
  accepts = h.accepts;
  takes_rows = h.takes_rows;
  covers = h.covers;
}
  where
    q : (256 * from + byte) / 256 ≡ from
    q = omega (arith, b)

    r : (256 * from + byte) % 256 ≡ byte
    r = omega (arith, b)

    by_code : (v : ℕ) → HasReached lines byte (row_at nodes from) nodes (decoded v)
        → (v ≤ length nodes) × LeadsTo lines byte (row_at nodes from) (node_coded nodes v)
    by_code zero g = (omega arith, g)
    by_code (suc n) g = (omega (arith, g.0), g.1)

    one : (v : ℕ) → to ≡ decoded v → IsNoted lines nodes (256 * from + byte) v
    one v e = let g = by_code v (subst (HasReached lines byte
        (row_at nodes from) nodes) e reached) in
        record {
          from = omega (arith, q, l);
          to = g.0;
          leads = rw (q, r) g.1;
        }

moved : (lines : List Line) (nodes : List (List ℕ)) (p from byte : ℕ) (to : Option (List ℕ))
    → p / 256 ≡ from → p % 256 ≡ byte
    → LeadsTo lines (p % 256) (row_at nodes (p / 256)) to
    → LeadsTo lines byte (row_at nodes from) to
moved lines nodes p from byte to q r h =
    subst (λ b. LeadsTo lines b (row_at nodes from) to) r
    (subst (λ n. LeadsTo lines (p % 256) (row_at nodes n) to) q h)

reached_by : (lines : List Line) (nodes : List (List ℕ)) (p from byte v : ℕ) → p / 256 ≡ from
    → p % 256 ≡ byte → IsNoted lines nodes p v
    → HasReached lines byte (row_at nodes from) nodes (decoded v)
reached_by lines nodes p from byte zero q r g = moved lines nodes p from byte None q r g.leads
reached_by lines nodes p from byte (suc n) q r g =
    (omega (arith, g.to), moved lines nodes p from byte (Some (row_at nodes n)) q r g.leads)

pub step_recalled : (lines : List Line) (nodes : List (List ℕ)) (next : List ℕ)
    (ends takes : List Bool) (width from byte known : ℕ)
    → AreNodesBy lines nodes next ends takes width → from < length nodes → byte < 256
    → known ≡ get_or next (256 * from + byte) known → 0 < known
    → IsStepped lines byte from nodes (decoded (known - 1)) nodes
step_recalled lines nodes next ends takes width from byte known h l b e some = record {
  more = none_more nodes;
  reached = reached_by lines nodes (256 * from + byte) from byte (known - 1) (omega (arith, b))
      (omega (arith, b)) (recalled (IsNoted lines nodes) next (256 * from + byte) known
      h.steps (omega (arith, h.rows, l, b)) e some);
}

-- ---- a node of a line with states

module _ (lines : List Line) (i : ℕ) (line : Line) (states : Progress)
    (within : i < length lines) (is : line ≡ get_or lines i line) where
  pattern : pattern_at lines i ≡ line.spec.pattern
  pattern = pattern_here lines i line within is

  pub line_made : AreStatesOf (pattern_at lines i) states → AreStatesOf line.spec.pattern states
  line_made made = subst (λ t. AreStatesOf t states) pattern made

  pub made_line : AreStatesOf line.spec.pattern states → AreStatesOf (pattern_at lines i) states
  made_line made = subst (λ t. AreStatesOf t states) (sym pattern) made

  pub line_room : (width : ℕ) → HaveRoom lines width → HasRoomFor line.spec.pattern width
  line_room width room = subst (λ t. HasRoomFor t width) pattern (room.each i within)

  pub is_node : AreStatesOf (pattern_at lines i) states → IsNode lines (node_of i states)
  is_node made = record { long = omega arith; within = within; made = made }

  pub accepts_node : (flag : Bool)
      → ((text : List ℕ) → StandsFor line.spec.pattern states text
      → flag ≡ holds line.spec.pattern text) → Accepts lines (node_of i states) flag
  accepts_node flag f = λ text s.
      subst (λ t. flag ≡ holds t text) (sym pattern)
      (f text (subst (λ t. StandsFor t states text) pattern s))

  pub covers_node : (flag : Bool) → (flag ≡ true → line.spec.kind ≡ None)
      → (flag ≡ true → (text : List ℕ) → StandsFor line.spec.pattern states text
      → TakesAll line.spec.pattern text) → flag ≡ true → Covers lines (node_of i states)
  covers_node flag any holds e = record {
    spec = line.spec;
    found = spec_here lines i line within is;
    any = any e;
    holds = λ text s. holds e text (subst (λ t. StandsFor t states text) pattern s);
  }

  pub stands_node : (text : List ℕ) → StandsFor line.spec.pattern states text
      → StandsAt lines text (node_of i states)
  stands_node text s = subst (λ t. StandsFor t states text) (sym pattern) s

pub row_last : (old new : List (List ℕ)) (row : List ℕ) (n : ℕ) → IsNumbered old row n new
    → length old ≤ n → new ≡ old ++ row ∷ []
row_last old new row n h l =
    elim h.place [ inl there ↦ absurd (omega (arith, there.1, l)) | inr last ↦ last.0 ]

-- the same behind the equations of what is kept now
pub completed : (lines : List Line) (nodes nodes' : List (List ℕ)) (next next' : List ℕ)
    (ends ends' takes takes' : List Bool) (width width' : ℕ) (node : List ℕ) (end take : Bool)
    → nodes' ≡ nodes ++ node ∷ [] → next' ≡ next ++ replicate 256 0 → ends' ≡ ends ++ end ∷ []
    → takes' ≡ takes ++ take ∷ [] → width' ≡ width
    → AreNodesBy lines nodes next ends takes width → IsNode lines node → Accepts lines node end
    → (take ≡ true → Covers lines node) → AreNodesBy lines nodes' next' ends' takes' width'
completed lines nodes nodes' next next' ends ends' takes takes' width width' node end take
    a b c d e h is accepts covers =
    rw (a, b, c, d, e)
    (node_added lines nodes next ends takes width node end take h is accepts covers)

-- the same with states that have as much room
pub with_room : (lines : List Line) (nodes : List (List ℕ)) (next : List ℕ)
    (ends takes : List Bool) (old new : ℕ) → new ≡ old → AreNodesBy lines nodes next ends takes old
    → AreNodesBy lines nodes next ends takes new
with_room lines nodes next ends takes old new e h =
    subst (AreNodesBy lines nodes next ends takes) (sym e) h

pub begun : (lines : List Line) (i : ℕ) (states : Progress) (old new : List (List ℕ)) (n : ℕ)
    → IsAdded old (node_of i states) n new → StandsAt lines [] (node_of i states)
    → IsBegun lines i old n new
begun lines i states old new n h stands = record {
  more = h.more;
  within = h.within;
  line_is = ap line_of h.is_row;
  stands = subst (StandsAt lines []) (sym h.is_row) stands;
}

-- a node with which it was gone on
module _ (lines : List Line) (nodes : List (List ℕ)) (next : List ℕ) (ends takes : List Bool)
    (width from : ℕ) (h : AreNodesBy lines nodes next ends takes width)
    (within : from < length nodes) where
  pub marks_within : length (states_of (row_at nodes from)).marks ≤ width
  marks_within =
      let own = h.each from within in
      marks_fit (node_pattern lines (row_at nodes from)) (states_of (row_at nodes from)) width
      own.made (h.room.each (line_of (row_at nodes from)) own.within)

  pub line_within : (number : ℕ) → number ≡ line_of (row_at nodes from) → number < length lines
  line_within number e = omega (arith, e, (h.each from within).within)

module _ (lines : List Line) (from : List ℕ) (number byte : ℕ) (line : Line) (old : Progress)
    (own : IsNode lines from) (n : number ≡ line_of from) (known : old ≡ states_of from)
    (is : line ≡ get_or lines number line) where
  at_node : pattern_at lines (line_of from) ≡ line.spec.pattern
  at_node = pattern_here lines (line_of from) line own.within (is ∙ ap (λ i. get_or lines i line) n)

  pub node_made : AreStatesOf line.spec.pattern old
  node_made = subst (AreStatesOf line.spec.pattern) (sym known)
      (subst (λ t. AreStatesOf t (states_of from)) at_node own.made)

  stands_old : (text : List ℕ) → StandsAt lines text from → StandsFor line.spec.pattern old text
  stands_old text s = subst (λ p. StandsFor line.spec.pattern p text) (sym known)
      (subst (λ t. StandsFor t (states_of from) text) at_node s)

  pub dead_behind : (new : Progress) (alive : Bool)
      → ((text : List ℕ) → StandsFor line.spec.pattern old text
      → StandsFor line.spec.pattern new (text ++ byte ∷ []))
      → ((text : List ℕ) → StandsFor line.spec.pattern new text → Opens line.spec.pattern text
      → alive ≡ true) → alive ≡ false → LeadsTo lines byte from None
  dead_behind new alive steps shown e = λ text s o.
      let opens : Opens line.spec.pattern (text ++ byte ∷ []) =
      subst (λ t. Opens t (text ++ byte ∷ [])) at_node o in
      true≢false (sym (shown (text ++ byte ∷ []) (steps text (stands_old text s)) opens) ∙ e)

  pub leads_to : (new : Progress) (to : List ℕ)
      → ((text : List ℕ) → StandsFor line.spec.pattern old text
      → StandsFor line.spec.pattern new (text ++ byte ∷ [])) → to ≡ node_of number new
      → LeadsTo lines byte from (Some to)
  leads_to new to steps e = (
    ap line_of e ∙ n,
    λ text s.
        subst (StandsAt lines (text ++ byte ∷ [])) (sym e)
        (subst (λ t. StandsFor t new (text ++ byte ∷ []))
        (sym (ap (pattern_at lines) n ∙ at_node)) (steps text (stands_old text s))),
  )

pub stepped : (lines : List Line) (byte from : ℕ) (old new : List (List ℕ)) (to : ℕ)
    (row : List ℕ) → IsAdded old row to new → LeadsTo lines byte (row_at old from) (Some row)
    → IsStepped lines byte from old (Some to) new
stepped lines byte from old new to row h leads = record {
  more = h.more;
  reached = (
    h.within,
    subst (λ r. LeadsTo lines byte (row_at old from) (Some r)) (sym h.is_row) leads,
  );
}

pub stopped : (lines : List Line) (byte from : ℕ) (old : List (List ℕ))
    → LeadsTo lines byte (row_at old from) None → IsStepped lines byte from old None old
stopped lines byte from old dead = record { more = none_more old; reached = dead }

-- what was reached is known from the nodes that were there
pub noted_step : (lines : List Line) (old nodes : List (List ℕ)) (next : List ℕ)
    (ends takes : List Bool) (width from byte code : ℕ) (to : Option ℕ)
    → AreNodesBy lines nodes next ends takes width → from < length old → byte < 256
    → ((v : ℕ) → code ≡ suc v → to ≡ decoded v) → IsStepped lines byte from old to nodes
    → AreNodesBy lines nodes (set next (256 * from + byte) code) ends takes width
noted_step lines old nodes next ends takes width from byte code to h l b coded s =
    step_noted lines nodes next ends takes width from byte code to h
    (omega (arith, l, longer old nodes s.more)) b coded
    (subst (λ row. HasReached lines byte row nodes to) (sym (row_kept old nodes from s.more l))
    s.reached)
