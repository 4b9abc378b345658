-- The states for specifications with their matchers are those for the specifications.
use Rattle.std.proofs.Common.{◌≡◌, ◌∙◌, sym, refl, ap, subst, ℕ, zero, suc, ◌<◌}
use Rattle.std.proofs.Common.{◌≤◌, ◌+◌, inl, inr, List, [], ◌∷◌, map, length, get_or, arith}
use Rattle.std.proofs.lemmas.List.{get_or_default, length-map}
use Rattle.spec_match.proofs.ChainLemmas.{before_or_last}
use Rattle.pattern_match.specs.States.{AreStatesOf, HasRoomFor, Progress, Working}
use Rattle.pattern_match.specs.States.{words_by, words_for}
use Rattle.pattern_syntax.specs.Starts.{behind_start}
use Rattle.pattern_match.proofs.OneText.{nothing_is_bare}
use Rattle.pattern_match.proofs.Ready.{marks_counted}
use Rattle.pattern_syntax.specs.Tree.{Tree, Nothing}
use Rattle.spec_match.specs.StatesFor.{AreStatesFor, HasRoomForEach, pattern_in, patterns_of}
use Rattle.spec_match.specs.StatesFor.{spec_in}
use Rattle.spec_match.specs.Scratches.{IsRoomReady, IsScratchOf}
use Rattle.spec_match.specs.Alive.{AreAlive, IsOwn}
use Rattle.spec_match.specs.Carrying.{Carrying, IsAliveAt, IsCarriedOf, StandsAt}
use Rattle.spec_match.specs.Workspaces.{IsWorkspaceFor, room_in}
use Rattle.spec_match.specs.declared.workspace.Workspace.{Workspace}
use Rattle.std.specs.List.{All}
use Rattle.file_paths.specs.Path.{Path, path_text}
use Rattle.spec_match.specs.declared.compiled_spec.CompiledSpec.{CompiledSpec}
use Rattle.spec_reader.specs.SpecValue.{SpecValue}

patterns_by_specs : (rules : List CompiledSpec) → map pattern_in (map spec_in rules) ≡ patterns_of
    rules
patterns_by_specs [] = refl
patterns_by_specs (r ∷ rules) = ap (λ ps. r.spec.pattern ∷ ps) (patterns_by_specs rules)

-- the rules of a list of specifications, and the specifications
module _ (rules : List CompiledSpec) (specs : List SpecValue) (same : map spec_in rules ≡ specs)
  where
    pub patterns_same : patterns_of rules ≡ map pattern_in specs
    patterns_same = sym (patterns_by_specs rules) ∙ ap (map pattern_in) same

    pub scratch_of : (w : Workspace) → IsWorkspaceFor rules w → IsScratchOf specs (room_in w)
    unfolding IsScratchOf
    scratch_of w ready = subst (λ ps. IsRoomReady ps specs (room_in w)) patterns_same
        (subst (λ ss. IsRoomReady (patterns_of rules) ss (room_in w)) same ready)

    pub ready_in : (w : Workspace) → IsScratchOf specs (room_in w) → IsWorkspaceFor rules w
    unfolding IsScratchOf
    ready_in w own = subst (λ ss. IsRoomReady (patterns_of rules) ss (room_in w)) (sym same)
        (subst (λ ps. IsRoomReady ps specs (room_in w)) (sym patterns_same) own)

    pub carried_of : (carried : Carrying) → All (IsOwn (patterns_of rules)) carried.alive
        → IsCarriedOf specs carried
    unfolding IsCarriedOf
    carried_of carried own = subst (λ ps. All (IsOwn ps) carried.alive) patterns_same own

    pub carried_by : (carried : Carrying) → IsCarriedOf specs carried
        → All (IsOwn (patterns_of rules)) carried.alive
    unfolding IsCarriedOf
    carried_by carried own = subst (λ ps. All (IsOwn ps) carried.alive) (sym patterns_same) own

    pub stands_of : (carried : Carrying) (path : Path)
        → IsAliveAt rules carried.is_root carried.alive
        path → StandsAt specs carried path
    unfolding StandsAt
    stands_of carried path at = (
      at.0,
      subst (λ ps. AreAlive ps (path_text path) (length ps) carried.alive) patterns_same
          at.1,
    )

    pub stands_by : (carried : Carrying) (path : Path) → StandsAt specs carried path
        → IsAliveAt rules carried.is_root carried.alive path
    unfolding StandsAt
    stands_by carried path at = (
      at.0,
      subst (λ ps. AreAlive ps (path_text path) (length ps) carried.alive)
          (sym patterns_same) at.1,
    )

pattern_here : (rules : List CompiledSpec) (i : ℕ) (d : CompiledSpec) → i < length rules
    → (get_or rules i d).spec.pattern ≡ get_or (patterns_of rules) i Nothing
pattern_here [] i d l = absurd (omega (arith, l))
pattern_here (r ∷ rules) zero d l = refl
pattern_here (r ∷ rules) (suc i) d l = pattern_here rules i d (omega (arith, l))

-- there is room for the marks of one specification's pattern
pub room_own : (rules : List CompiledSpec) (states : Working) (i : ℕ) (rule : CompiledSpec)
    → i < length rules → rule ≡ get_or rules i rule
    → AreStatesFor (patterns_of rules) states → HasRoomFor rule.spec.pattern states.room
room_own rules states i rule l e all =
    let within : i < length (patterns_of rules) =
    omega (arith, l, length-map rules (λ (r : CompiledSpec). r.spec.pattern)) in
    let p : get_or (patterns_of rules) i Nothing ≡ rule.spec.pattern =
    sym (ap (λ (r : CompiledSpec). r.spec.pattern) e ∙ pattern_here rules i rule l) in
    subst (λ t. HasRoomFor t states.room) p (all.own i within)

-- other states with as much room
pub states_kept : (patterns : List Tree) (old new : Working) → new.room ≡ old.room
    → AreStatesFor patterns old → AreStatesFor patterns new
states_kept patterns old new e all = record {
  own = λ i l. subst (HasRoomFor (get_or patterns i Nothing)) (sym e) (all.own i l);
}

-- what has room for each specification's pattern
pub room_all : (rules : List CompiledSpec) (states : Working)
    → HasRoomForEach rules (length rules) states.room
    → AreStatesFor (patterns_of rules) states
room_all [] states h = record { own = λ i l. absurd (omega (arith, l)) }
room_all (r ∷ rules) states h = record {
  own = λ i l. subst (λ t. HasRoomFor t states.room)
      (pattern_here (r ∷ rules) i r (omega (
        arith,
        l,
        length-map (r ∷ rules) (λ (x : CompiledSpec).
            x.spec.pattern),
      )))
      (h i (omega (arith, l, length-map (r ∷ rules) (λ (x : CompiledSpec). x.spec.pattern)))
      (get_or (r ∷ rules) i r) (get_or_default (r ∷ rules) i r (get_or (r ∷ rules) i r)
      (omega (arith, l, length-map (r ∷ rules) (λ (x : CompiledSpec). x.spec.pattern)))));
}

-- marks of a pattern are as many words as there is room for
pub marks_fit : (pattern : Tree) (known : Progress) (room : ℕ) → AreStatesOf pattern known
    → HasRoomFor pattern room → length known.marks ≤ room
marks_fit pattern known room made has =
    let n = marks_counted pattern known made in
    let m = has.words in
    omega arith

pub more_room : (pattern : Tree) (old new : ℕ) → old ≤ new → HasRoomFor pattern old
    → HasRoomFor pattern new
more_room pattern old new l h = record { words = let w = h.words in omega arith }

pub widest_on : (rules : List CompiledSpec) (n : ℕ) (item : CompiledSpec) (old new : ℕ)
    → n < length rules
    → item ≡ get_or rules n item → old ≤ new → HasRoomFor item.spec.pattern new
    → HasRoomForEach rules n old → HasRoomForEach rules (n + 1) new
widest_on rules n item old new within is l this all i below rule e =
    elim (before_or_last i n below) [
      | inl before ↦ more_room rule.spec.pattern old new l (all i before rule e)
      | inr last ↦ subst (λ (r : CompiledSpec). HasRoomFor r.spec.pattern new)
          (is ∙ get_or_default rules n item rule within
          ∙ ap (λ k. get_or rules k rule) last ∙ sym e) this
    ]

-- a pattern that is one text has no marks
pub one_text_words : (pattern : Tree) → behind_start pattern ≡ Nothing
    → words_for (behind_start pattern) ≡ 0
one_text_words pattern e = ap words_for e ∙ ap (λ v. words_by v Nothing) nothing_is_bare

pub one_text_room : (pattern : Tree) (room : ℕ) → behind_start pattern ≡ Nothing
    → HasRoomFor pattern room
one_text_room pattern room e = record { words = omega (arith, one_text_words pattern e) }
