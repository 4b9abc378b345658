-- Lists of nodes, a byte on.
use Rattle.std.proofs.Common.{◌≡◌, ◌∙◌, sym, refl, ap, ap₂, subst, ℕ, zero, suc, ◌+◌, ◌<◌, ◌≤◌, inl}
use Rattle.std.proofs.Common.{inr, Bool, true, false, ◌&&◌, List, [], ◌∷◌, ◌++◌, length, map, drop}
use Rattle.std.proofs.Common.{Option, Some, None, slice_get, get_or, append-nil, append_assoc}
use Rattle.std.proofs.Common.{arith}
use Rattle.std.proofs.Common.{true≢false}
use Rattle.std.proofs.lemmas.List.{at_drop_more, drop_all, get_or_default, map_push}
use Rattle.std.specs.List.{find}
use Rattle.label_base.specs.Kind.{applies}
use Rattle.label_base.specs.declared.kind.Asked.{Asked}
use Rattle.label_base.specs.declared.kind.Asked.TheVariants.{Any, Of}
use Rattle.pattern_match.proofs.Holding.{holds_shows}
use Rattle.pattern_match.specs.Onwards.{AreTextBytes}
use Rattle.pattern_syntax.specs.Language.{Opens, holds}
use Rattle.pattern_syntax.specs.Tree.{Tree}
use Rattle.policy_lists.specs.Lines.{decided, does_fit, line_fits, pattern_at, spec_of}
use Rattle.policy_lists.specs.Lists.{AllStandAt, AreWithin, IsListOf, IsOneStepped, ListLeadsTo}
use Rattle.policy_lists.specs.Lists.{lines_of}
use Rattle.policy_lists.specs.Nodes.{Accepts, Covers, IsBegun, LeadsTo, StandsAt, line_of}
use Rattle.policy_lists.specs.Nodes.{node_pattern}
use Rattle.policy_lists.specs.Rows.{AreMore, AreRowNumbers, row_at, rows_at}
use Rattle.policy_lists.specs.declared.line.Line.{Line}
use Rattle.policy_lists.proofs.LineLemmas.{first_up_to, first_without, pattern_here}
use Rattle.policy_lists.proofs.LineLemmas.{pattern_of_spec}
use Rattle.policy_lists.proofs.LineLemmas.{spec_here}
use Rattle.policy_lists.proofs.RowLemmas.{number_at, numbers_kept, numbers_push, row_kept}
use Rattle.policy_lists.proofs.RowLemmas.{rows_kept}
use Rattle.policy_lists.proofs.RowLemmas.{rows_push}
use Rattle.spec_match.proofs.AnswerLemmas.{dead_behind}
use Rattle.spec_match.specs.LastMatch.{fits}
use Rattle.spec_reader.specs.SpecValue.{SpecValue}

-- ---- what fits

-- a line that is dead behind a text fits none that begins with it
fit_dead : (lines : List Line) (asked : Asked) (text more : List ℕ) (i : ℕ)
    (found : Option SpecValue) → slice_get (map spec_of lines) i ≡ found
    → (Opens (pattern_at lines i) text → ⊥) → does_fit asked (text ++ more) found ≡ false
fit_dead lines asked text more i None e dead = refl
fit_dead lines asked text more i (Some spec) e dead =
    dead_behind asked text more spec
    (λ o. dead (subst (λ t. Opens t text) (sym (pattern_of_spec lines i spec e)) o))

pub dead_line : (lines : List Line) (asked : Asked) (text more : List ℕ) (i : ℕ)
    → (Opens (pattern_at lines i) text → ⊥) → line_fits lines asked (text ++ more) i ≡ false
dead_line lines asked text more i dead =
    fit_dead lines asked text more i (slice_get (map spec_of lines) i) refl dead

any_applies : (asked : Asked) → applies None asked ≡ true
any_applies Any = refl
any_applies (Of kind) = refl

-- a line that covers a text fits each that begins with it
pub covering_line : (lines : List Line) (asked : Asked) (text more : List ℕ) (node : List ℕ)
    → Covers lines node → StandsAt lines text node → AreTextBytes more
    → line_fits lines asked (text ++ more) (line_of node) ≡ true
covering_line lines asked text more node c s bytes =
    let held : holds c.spec.pattern (text ++ more) ≡ true =
    (holds_shows c.spec.pattern (text ++ more)).1 (c.holds text s more bytes) in
    let kind : applies c.spec.kind asked ≡ true =
    ap (λ k. applies k asked) c.any ∙ any_applies asked in
    ap (does_fit asked (text ++ more)) c.found ∙ ap₂ (λ a b. a && b) kind held

-- ---- nodes of a list

stand_push : (lines : List Line) (text : List ℕ) (list : List (List ℕ)) (node : List ℕ)
    → AllStandAt lines text list → StandsAt lines text node
    → AllStandAt lines text (list ++ node ∷ [])
stand_push lines text [] node h s = (s, tt)
stand_push lines text (x ∷ list) node h s = (h.0, stand_push lines text list node h.1 s)

-- so far the list behind a byte was written, and the rest of the list from which it leads is left
pub record IsPartly (lines : List Line) (order text : List ℕ) (byte : ℕ)
    (draft rest : List (List ℕ)) : Type 0 where
  pub stand : AllStandAt lines (text ++ byte ∷ []) draft
  pub left : AllStandAt lines text rest
  pub decide : (asked : Asked) (more : List ℕ) → AreTextBytes more
      → decided lines (lines_of draft ++ lines_of rest) asked ((text ++ byte ∷ []) ++ more)
      ≡ decided lines order asked ((text ++ byte ∷ []) ++ more)

abbrev pub IsStepping : List Line → ℕ → List (List ℕ) → List (List ℕ) → List (List ℕ) → Type 0
IsStepping lines byte list draft rest =
    (order text : List ℕ) → IsListOf lines order text list
    → IsPartly lines order text byte draft rest

pub stepping_first : (lines : List Line) (byte : ℕ) (list : List (List ℕ)) → 0 < byte → byte < 256
    → IsStepping lines byte list [] list
stepping_first lines byte list some small = λ order text h. record {
  stand = tt;
  left = h.stand;
  decide = λ asked more bytes.
      ap (decided lines (lines_of list) asked) (append_assoc text (byte ∷ []) more)
      ∙ h.decide asked (byte ∷ more) (some, small, bytes)
      ∙ ap (decided lines order asked) (sym (append_assoc text (byte ∷ []) more));
}

pub stepping_dropped : (lines : List Line) (byte : ℕ) (list draft rest : List (List ℕ))
    (node : List ℕ) → LeadsTo lines byte node None → IsStepping lines byte list draft (node ∷ rest)
    → IsStepping lines byte list draft rest
stepping_dropped lines byte list draft rest node dead s = λ order text h.
    let p = s order text h in record {
      stand = p.stand;
      left = p.left.1;
      decide = λ asked more bytes.
          first_without (line_fits lines asked ((text ++ byte ∷ []) ++ more)) (lines_of draft)
          (lines_of rest) (line_of node)
          (dead_line lines asked (text ++ byte ∷ []) more (line_of node) (dead text p.left.0))
          ∙ p.decide asked more bytes;
    }

pub lines_push : (draft rest : List (List ℕ)) (node to : List ℕ) → line_of to ≡ line_of node
    → lines_of (draft ++ to ∷ []) ++ lines_of rest ≡ lines_of draft ++ lines_of (node ∷ rest)
lines_push draft rest node to e =
    ap (λ ls. ls ++ lines_of rest) (map_push line_of draft to)
    ∙ append_assoc (lines_of draft) (line_of to ∷ []) (lines_of rest)
    ∙ ap (λ i. lines_of draft ++ i ∷ lines_of rest) e

pub stepping_written : (lines : List Line) (byte : ℕ) (list draft rest : List (List ℕ))
    (node to : List ℕ) → LeadsTo lines byte node (Some to)
    → IsStepping lines byte list draft (node ∷ rest)
    → IsStepping lines byte list (draft ++ to ∷ []) rest
stepping_written lines byte list draft rest node to leads s = λ order text h.
    let p = s order text h in record {
      stand = stand_push lines (text ++ byte ∷ []) draft to p.stand (leads.1 text p.left.0);
      left = p.left.1;
      decide = λ asked more bytes.
          ap (λ ls. decided lines ls asked ((text ++ byte ∷ []) ++ more))
          (lines_push draft rest node to leads.0)
          ∙ p.decide asked more bytes;
    }

pub stepping_last : (lines : List Line) (byte : ℕ) (list draft : List (List ℕ))
    → IsStepping lines byte list draft [] → ListLeadsTo lines byte list draft
stepping_last lines byte list draft s = λ order text h.
    let p = s order text h in record {
      stand = p.stand;
      decide = λ asked more bytes.
          ap (λ ls. decided lines ls asked ((text ++ byte ∷ []) ++ more))
          (sym (append-nil (lines_of draft)))
          ∙ p.decide asked more bytes;
    }

-- where the node that was written last covers what follows, the rest makes no difference
pub stepping_ended : (lines : List Line) (byte : ℕ) (list draft rest : List (List ℕ))
    (to : List ℕ) → Covers lines to → IsStepping lines byte list (draft ++ to ∷ []) rest
    → ListLeadsTo lines byte list (draft ++ to ∷ [])
stepping_ended lines byte list draft rest to covers s = λ order text h.
    let p = s order text h in record {
      stand = p.stand;
      decide = λ asked more bytes.
          let t = (text ++ byte ∷ []) ++ more in
          let fits : line_fits lines asked t (line_of to) ≡ true =
          covering_line lines asked (text ++ byte ∷ []) more to covers
          (last_stands lines (text ++ byte ∷ []) draft to p.stand) bytes in
          ap (λ ls. decided lines ls asked t) (map_push line_of draft to)
          ∙ first_up_to (line_fits lines asked t) (lines_of draft) (lines_of rest) (line_of to) fits
          ∙ ap (λ ls. decided lines ls asked t)
          (sym (append_assoc (lines_of draft) (line_of to ∷ []) (lines_of rest))
          ∙ ap (λ ls. ls ++ lines_of rest) (sym (map_push line_of draft to)))
          ∙ p.decide asked more bytes;
    }
  where
    last_stands : (lines : List Line) (text : List ℕ) (draft : List (List ℕ)) (to : List ℕ)
        → AllStandAt lines text (draft ++ to ∷ []) → StandsAt lines text to
    last_stands lines text [] to h = h.0
    last_stands lines text (x ∷ draft) to h = last_stands lines text draft to h.1

-- ---- the loop over a list

pub record HasGoneOn (lines : List Line) (byte : ℕ) (first new : List (List ℕ)) (from : List ℕ)
    (index : ℕ) (list : List ℕ) (ends : Bool) : Type 0 where
  pub within : AreRowNumbers new list
  pub stepping : IsStepping lines byte (rows_at first from) (rows_at new list)
      (rows_at first (drop index from))
  pub ended : ends ≡ true → ListLeadsTo lines byte (rows_at first from) (rows_at new list)

module _ (lines : List Line) (byte : ℕ) (first old new : List (List ℕ)) (from : List ℕ)
    (index : ℕ) (inside : index < length from) (numbers : AreRowNumbers first from)
    (before : AreMore first old) (more : AreMore old new) where
  abbrev node : ℕ
  node = get_or from index 0

  same_row : row_at old node ≡ row_at first node
  same_row = row_kept first old node before (number_at first from index 0 inside numbers)

  rest_is : rows_at first (drop index from)
      ≡ row_at first node ∷ rows_at first (drop (index + 1) from)
  rest_is = at_drop_more (rows_at first) from index 0 inside

  stepping_here : (list : List ℕ) → AreRowNumbers old list
      → IsStepping lines byte (rows_at first from) (rows_at old list)
      (rows_at first (drop index from))
      → IsStepping lines byte (rows_at first from) (rows_at new list)
      (row_at first node ∷ rows_at first (drop (index + 1) from))
  stepping_here list w s =
      subst (λ rows. IsStepping lines byte (rows_at first from) rows
      (row_at first node ∷ rows_at first (drop (index + 1) from)))
      (sym (rows_kept old new list more w))
      (subst (IsStepping lines byte (rows_at first from) (rows_at old list)) rest_is s)

  pub one_on : (list list' : List ℕ) (ends : Bool) → AreRowNumbers old list
      → IsOneStepped lines byte (row_at old node) new list list' ends
      → IsStepping lines byte (rows_at first from) (rows_at old list)
      (rows_at first (drop index from))
      → HasGoneOn lines byte first new from (index + 1) list' ends
  one_on list list' ends w (inl d) s = record {
    within = subst (AreRowNumbers new) (sym d.same) (numbers_kept old new list more w);
    stepping = subst (λ ns. IsStepping lines byte (rows_at first from) (rows_at new ns)
        (rows_at first (drop (index + 1) from))) (sym d.same)
        (stepping_dropped lines byte (rows_at first from) (rows_at new list)
        (rows_at first (drop (index + 1) from)) (row_at first node)
        (subst (λ row. LeadsTo lines byte row None) same_row d.dead) (stepping_here list w s));
    ended = λ e. absurd (true≢false (sym e ∙ d.on));
  }
  one_on list list' ends w (inr d) s =
      let rest = rows_at first (drop (index + 1) from) in
      let to = row_at new d.node in
      let is : rows_at new list' ≡ rows_at new list ++ to ∷ [] =
      ap (rows_at new) d.more ∙ rows_push new list d.node in
      let written : IsStepping lines byte (rows_at first from) (rows_at new list ++ to ∷ []) rest =
      stepping_written lines byte (rows_at first from) (rows_at new list) rest
      (row_at first node) to (subst (λ row. LeadsTo lines byte row (Some to)) same_row d.leads)
      (stepping_here list w s) in record {
        within = subst (AreRowNumbers new) (sym d.more)
            (numbers_push new list d.node d.within (numbers_kept old new list more w));
        stepping = subst (λ rows. IsStepping lines byte (rows_at first from) rows rest) (sym is)
            written;
        ended = λ e. subst (ListLeadsTo lines byte (rows_at first from)) (sym is)
            (stepping_ended lines byte (rows_at first from) (rows_at new list) rest to (d.covers e)
            written);
      }

pub all_gone : (lines : List Line) (byte : ℕ) (first new : List (List ℕ)) (from : List ℕ)
    (index : ℕ) (list : List ℕ) → length from ≤ index
    → IsStepping lines byte (rows_at first from) (rows_at new list)
    (rows_at first (drop index from)) → ListLeadsTo lines byte (rows_at first from)
    (rows_at new list)
all_gone lines byte first new from index list l s =
    stepping_last lines byte (rows_at first from) (rows_at new list)
    (subst (λ ns. IsStepping lines byte (rows_at first from) (rows_at new list) (rows_at first ns))
    (drop_all index from l) s)

-- ---- the first list

pub order_within : (count : ℕ) (order : List ℕ) (index d : ℕ) → index < length order
    → AreWithin count order → get_or order index d < count
order_within count [] index d l h = absurd (omega (arith, l))
order_within count (line ∷ order) zero d l h = h.0
order_within count (line ∷ order) (suc index) d l h =
    order_within count order index d (omega (arith, l)) h.1

pub record HasBegun (lines : List Line) (order : List ℕ) (rows : List (List ℕ)) (index : ℕ)
    (list : List ℕ) : Type 0 where
  pub within : AreRowNumbers rows list
  pub stand : AllStandAt lines [] (rows_at rows list)
  pub written : lines_of (rows_at rows list) ++ drop index order ≡ order

pub begun_first : (lines : List Line) (order : List ℕ) (rows : List (List ℕ)) (list : List ℕ)
    → list ≡ [] → HasBegun lines order rows 0 list
begun_first lines order rows list e =
    subst (HasBegun lines order rows 0) (sym e) (record { within = tt; stand = tt; written = refl })

pub begun_on : (lines : List Line) (order : List ℕ) (old new : List (List ℕ)) (index d node : ℕ)
    (list list' : List ℕ) → index < length order → IsBegun lines (get_or order index d) old node new
    → list' ≡ list ++ node ∷ [] → HasBegun lines order old index list
    → HasBegun lines order new (index + 1) list'
begun_on lines order old new index d node list list' l b e h =
    let kept = rows_kept old new list b.more h.within in
    let is : rows_at new list' ≡ rows_at old list ++ row_at new node ∷ [] =
    ap (rows_at new) e ∙ rows_push new list node ∙ ap (λ rows. rows ++ row_at new node ∷ []) kept in
    let front = lines_of (rows_at old list) in
    let behind = drop (index + 1) order in record {
      within = subst (AreRowNumbers new) (sym e)
          (numbers_push new list node b.within (numbers_kept old new list b.more h.within));
      stand = subst (AllStandAt lines []) (sym is)
          (stand_push lines [] (rows_at old list) (row_at new node) h.stand b.stands);
      written = ap (λ rows. lines_of rows ++ behind) is
          ∙ ap (λ ls. ls ++ behind) (map_push line_of (rows_at old list) (row_at new node))
          ∙ append_assoc front (line_of (row_at new node) ∷ []) behind
          ∙ ap (λ i. front ++ i ∷ behind) b.line_is
          ∙ sym (at_drop_more (λ ls. front ++ ls) order index d l)
          ∙ h.written;
    }

pub all_begun : (lines : List Line) (order : List ℕ) (rows : List (List ℕ)) (index : ℕ)
    (list : List ℕ) → length order ≤ index → HasBegun lines order rows index list
    → IsListOf lines order [] (rows_at rows list)
all_begun lines order rows index list l h =
    let all : lines_of (rows_at rows list) ≡ order =
    sym (append-nil (lines_of (rows_at rows list)))
    ∙ ap (λ ls. lines_of (rows_at rows list) ++ ls) (sym (drop_all index order l))
    ∙ h.written in record {
      stand = h.stand;
      decide = λ asked rest bytes. ap (λ ls. decided lines ls asked rest) all;
    }

-- ---- the line that decides

and_false : (a : Bool) → (a && false) ≡ false
and_false true = refl
and_false false = refl

and_true : (a : Bool) → (a && true) ≡ a
and_true true = refl
and_true false = refl

fit_not_held : (lines : List Line) (asked : Asked) (text : List ℕ) (i : ℕ)
    (found : Option SpecValue) → slice_get (map spec_of lines) i ≡ found
    → holds (pattern_at lines i) text ≡ false → does_fit asked text found ≡ false
fit_not_held lines asked text i None e h = refl
fit_not_held lines asked text i (Some spec) e h =
    ap (λ t. applies spec.kind asked && holds t text) (sym (pattern_of_spec lines i spec e))
    ∙ ap (λ v. applies spec.kind asked && v) h ∙ and_false (applies spec.kind asked)

-- a node in which no text ends doesn't fit
pub not_accepted : (lines : List Line) (asked : Asked) (node : List ℕ) (flag : Bool)
    → Accepts lines node flag → flag ≡ false → (text : List ℕ) → StandsAt lines text node
    → false ≡ line_fits lines asked text (line_of node)
not_accepted lines asked node flag accepts e text s =
    sym (fit_not_held lines asked text (line_of node) (slice_get (map spec_of lines) (line_of node))
    refl (sym (accepts text s) ∙ e))

pub accepted : (lines : List Line) (asked : Asked) (node : List ℕ) (flag : Bool) (i : ℕ)
    (line : Line) (applied : Bool) → Accepts lines node flag → flag ≡ true → i ≡ line_of node
    → line_of node < length lines → line ≡ get_or lines i line
    → applied ≡ applies line.spec.kind asked → (text : List ℕ) → StandsAt lines text node
    → applied ≡ line_fits lines asked text (line_of node)
accepted lines asked node flag i line applied accepts e n within is applies_is text s =
    let here = is ∙ ap (λ k. get_or lines k line) n in
    let held : holds line.spec.pattern text ≡ true =
    ap (λ t. holds t text) (sym (pattern_here lines (line_of node) line within here))
    ∙ sym (accepts text s) ∙ e in
    applies_is ∙ sym (and_true (applies line.spec.kind asked))
    ∙ ap (λ v. applies line.spec.kind asked && v) (sym held)
    ∙ ap (does_fit asked text) (sym (spec_here lines (line_of node) line within here))

pub flag_is : (flags : List Bool) (n : ℕ) (flag : Bool) → n < length flags
    → flag ≡ get_or flags n flag → get_or flags n false ≡ flag
flag_is flags n flag l e = get_or_default flags n false flag l ∙ sym e

-- the nodes of a list that were passed over don't fit
pub record IsPassedTo (lines : List Line) (asked : Asked) (text : List ℕ)
    (list rest : List (List ℕ)) : Type 0 where
  pub stand : AllStandAt lines text rest
  pub same : decided lines (lines_of rest) asked text ≡ decided lines (lines_of list) asked text

abbrev pub IsPassing : List Line → Asked → List (List ℕ) → List (List ℕ) → Type 0
IsPassing lines asked list rest =
    (text : List ℕ) → AllStandAt lines text list → IsPassedTo lines asked text list rest

pub passing_first : (lines : List Line) (asked : Asked) (list : List (List ℕ))
    → IsPassing lines asked list list
passing_first lines asked list = λ text h. record { stand = h; same = refl }

unfit : (p : ℕ → Bool) (i : ℕ) (rest : List ℕ) → p i ≡ false → find p rest ≡ find p (i ∷ rest)
unfit p i rest e = rw e refl

fit : (p : ℕ → Bool) (i : ℕ) (rest : List ℕ) → p i ≡ true → Some i ≡ find p (i ∷ rest)
fit p i rest e = rw e refl

listed_decides : (lines : List Line) (asked : Asked) (order text : List ℕ)
    (list : List (List ℕ)) → IsListOf lines order text list
    → decided lines (lines_of list) asked text ≡ decided lines order asked text
listed_decides lines asked order text list h =
    subst (λ t. decided lines (lines_of list) asked t ≡ decided lines order asked t)
    (append-nil text) (h.decide asked [] tt)

module _ (lines : List Line) (asked : Asked) (rows : List (List ℕ)) (list : List ℕ) (index : ℕ)
    (inside : index < length list)
    (passing : IsPassing lines asked (rows_at rows list) (rows_at rows (drop index list))) where
  abbrev passed_node : List ℕ
  passed_node = row_at rows (get_or list index 0)

  passing_here : IsPassing lines asked (rows_at rows list)
      (passed_node ∷ rows_at rows (drop (index + 1) list))
  passing_here = subst (IsPassing lines asked (rows_at rows list))
      (at_drop_more (rows_at rows) list index 0 inside) passing

  pub passing_on : (fits : Bool)
      → ((text : List ℕ) → StandsAt lines text passed_node
      → fits ≡ line_fits lines asked text (line_of passed_node)) → fits ≡ false
      → IsPassing lines asked (rows_at rows list) (rows_at rows (drop (index + 1) list))
  passing_on fits f e = λ text h.
      let p = passing_here text h in record {
        stand = p.stand.1;
        same = unfit (line_fits lines asked text) (line_of passed_node)
            (lines_of (rows_at rows (drop (index + 1) list))) (sym (f text p.stand.0) ∙ e)
            ∙ p.same;
      }

  pub passing_found : (fits : Bool) (found : ℕ)
      → ((text : List ℕ) → StandsAt lines text passed_node
      → fits ≡ line_fits lines asked text (line_of passed_node)) → fits ≡ true
      → found ≡ line_of passed_node → (order text : List ℕ)
      → IsListOf lines order text (rows_at rows list) → Some found ≡ decided lines order asked text
  passing_found fits found f e n order text h =
      let p = passing_here text h.stand in
      ap (λ i. Some i) n
      ∙ fit (line_fits lines asked text) (line_of passed_node)
      (lines_of (rows_at rows (drop (index + 1) list))) (sym (f text p.stand.0) ∙ e)
      ∙ p.same ∙ listed_decides lines asked order text (rows_at rows list) h

pub passed_all : (lines : List Line) (asked : Asked) (rows : List (List ℕ)) (list : List ℕ)
    (index : ℕ) → length list ≤ index
    → IsPassing lines asked (rows_at rows list) (rows_at rows (drop index list))
    → (order text : List ℕ) → IsListOf lines order text (rows_at rows list)
    → None ≡ decided lines order asked text
passed_all lines asked rows list index l passing order text h =
    let p = subst (λ ns. IsPassing lines asked (rows_at rows list) (rows_at rows ns))
    (drop_all index list l) passing text h.stand in
    p.same ∙ listed_decides lines asked order text (rows_at rows list) h
