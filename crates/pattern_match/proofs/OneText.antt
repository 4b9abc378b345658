-- A pattern that is its literal start alone.
use Rattle.std.proofs.Common.{◌≡◌, ◌∙◌, sym, refl, ap, subst, ℕ, ◌≤◌, false, true, List, []}
use Rattle.std.proofs.Common.{◌++◌, append-nil, length, inl, inr, arith}
use Rattle.std.specs.Prelude.{Option, Some, None, is_some}
use Rattle.std.specs.Cmp.{both_ways}
use Rattle.std.specs.Cmp.Lexicographic.{bytes_decides}
use Rattle.label_base.specs.Text.{same_bytes}
use Rattle.pattern_syntax.specs.Tree.{Tree, Nothing}
use Rattle.pattern_syntax.specs.Language.{In, holds}
use Rattle.pattern_syntax.specs.Literal.{literal_start_of, single_bytes}
use Rattle.pattern_match.specs.Automaton.{automaton}
use Rattle.pattern_syntax.specs.Starts.{behind_start}
use Rattle.pattern_match.specs.States.{AreMarksBy, AreMarksOf, AreStatesOf, IsBehind, Progress}
use Rattle.pattern_match.specs.States.{StandsFor, is_bare}
use Rattle.pattern_syntax.specs.Parts.{Follows}
use Rattle.pattern_syntax.proofs.BehindLemmas.{cut_behind_start, literal_behind}
use Rattle.pattern_match.proofs.Holding.{holds_shows}
use Rattle.pattern_match.specs.Settled.{StatesLeadOnward, StatesStay}
use Rattle.pattern_match.proofs.Ready.{bare_behind, bare_unmarked}
use Rattle.pattern_match.proofs.Standing.{Shows, false_shows, stands_at_start}

pub nothing_behind : (t : Tree) → is_some (single_bytes t) ≡ true → behind_start t ≡ Nothing
nothing_behind t h = by_bytes (single_bytes t) refl h
  where
    by_bytes : (o : Option (List ℕ)) → single_bytes t ≡ o → is_some o ≡ true
        → behind_start t ≡ Nothing
    by_bytes None e h = cc
    by_bytes (Some bytes) e h = literal_behind t bytes e

pub start_alone : (t : Tree) → behind_start t ≡ Nothing → (text : List ℕ)
    → holds t text ≡ same_bytes text (literal_start_of t)
start_alone t e text =
    let start = literal_start_of t in
    both_ways (holds t text) (same_bytes text start) (λ h.
    let f : Follows start Nothing text =
    subst (λ r. Follows start r text) e ((cut_behind_start t text).0 ((holds_shows t text).0 h))
    in
    (bytes_decides text start).1 (f.1 ∙ ap (λ r. start ++ r) f.2 ∙ append-nil start)) (λ h.
    (holds_shows t text).1
    ((cut_behind_start t text).1
    (subst (λ r. Follows start r text) (sym e) (
      [],
      (bytes_decides text start).0 h
          ∙ sym (append-nil start),
      refl,
    ))))

pub nothing_is_bare : is_bare Nothing ≡ true
unfolding automaton
nothing_is_bare = refl

-- no marks are those of a pattern without a rest
pub no_states : (states : Progress) → length states.marks ≡ 0 → (tree : Tree)
    → behind_start tree ≡ Nothing → AreStatesOf tree states
no_states states n tree e =
    let m : AreMarksOf Nothing states.marks = subst (λ b. AreMarksBy b Nothing states.marks)
    (sym nothing_is_bare) n in
    record { marks = subst (λ t. AreMarksOf t states.marks) (sym e) m }

-- nothing is left behind the marks of a pattern without a rest
pub none_left : (marks : List ℕ) → IsBehind Nothing marks []
none_left marks = (bare_behind Nothing marks [] nothing_is_bare).1 refl

pub text_begun : (states : Progress) → states.seen ≡ 0 → (tree : Tree) → behind_start tree ≡ Nothing
    → StandsFor tree states []
text_begun states z tree e =
    stands_at_start tree states z
    (subst (λ b. (text : List ℕ) → (IsBehind b states.marks text → In b text)
    × (In b text → IsBehind b states.marks text)) (sym e)
    (λ text. bare_behind Nothing states.marks text nothing_is_bare))

-- no place is marked of a pattern without a rest
pub text_leads_not : (t : Tree) (states : Progress) → behind_start t ≡ Nothing
    → AreStatesOf t states → Shows false (StatesLeadOnward t states)
text_leads_not t states e a =
    false_shows (StatesLeadOnward t states)
    (λ s. bare_unmarked (behind_start t) states.marks (ap is_bare e ∙ nothing_is_bare) a.marks
    s.behind.place s.behind.marked)

-- while its bytes are read, or all were read, another one leads on
pub text_stays_not : (t : Tree) (inside states : Progress) (n : ℕ) → behind_start t ≡ Nothing
    → inside ≡ states → n ≡ length (literal_start_of t) → inside.seen ≤ n
    → Shows false (StatesStay t states)
text_stays_not t inside states n e i l m = false_shows (StatesStay t states) at
  where
    at : StatesStay t states → ⊥
    at (inl a) = let q : inside.seen ≡ states.seen = ap (λ (p : Progress). p.seen) i in omega arith
    at (inr a) = let b : true ≡ false = sym nothing_is_bare ∙ ap is_bare (sym e) ∙ a.1.some in cc
