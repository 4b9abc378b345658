-- Places stay what they are while places and lists are added.
use Rattle.std.proofs.Common.{◌≡◌, ◌∙◌, sym, refl, ap, ap₂, subst, ℕ, zero, suc, ◌+◌, ◌<◌, ◌≤◌, inl}
use Rattle.std.proofs.Common.{inr, ◌⊎◌, List, [], ◌∷◌, ◌++◌, length, length-append, append-nil}
use Rattle.std.proofs.Common.{append_assoc, get_or, slice_index, Option, Some, None, arith}
use Rattle.std.proofs.Math.ListN.{get_or-append}
use Rattle.std.proofs.lemmas.List.{get_or_default, get_or_push}
use Rattle.policy_lists.specs.Lists.{IsListOf}
use Rattle.policy_lists.specs.Numbered.{AreFurther, IsLed, NodeList, list_at, lists_in}
use Rattle.policy_lists.specs.Rows.{row_at}
use Rattle.policy_search.specs.Closed.{AreOrdered, GoesOn, HasGrown, LeadsIn}
use Rattle.policy_search.specs.Places.{ArePlaces, IsAt, IsFirst, IsNext, IsOneMore, IsPlaced}
use Rattle.policy_search.specs.Places.{IsSearch}
use Rattle.policy_search.specs.declared.search.Search.{Search}
use Rattle.policy_search.specs.Places.{IsReached, IsThere, PlaceLeadsTo, Policies, first_place}
use Rattle.policy_search.specs.Places.{key_of, place_at}
use Rattle.policy_search.specs.Stages.{next_stage, stage_behind, stage_number}
use Rattle.policy_search.specs.declared.place.Place.{Place}
use Rattle.policy_search.specs.declared.stage.Stage.{Stage}
use Rattle.policy_search.specs.declared.stage.Stage.TheVariants.{Empty, Root, Slash, Dot, DotDot}
use Rattle.policy_search.specs.declared.stage.Stage.TheVariants.{Name}
use Rattle.spec_match.proofs.ChainLemmas.{before_or_last}

-- ---- stages

pub stage_snoc : (from : Option Stage) (text : List ℕ) (byte : ℕ) (at : Stage) (to : Option Stage)
    → stage_behind from text ≡ Some at → next_stage at byte ≡ to
    → stage_behind from (text ++ byte ∷ []) ≡ to
stage_snoc None text byte at to e n = cc
stage_snoc (Some s) [] byte at to e n =
    let same : s ≡ at = cc in
    whole (next_stage s byte) ∙ ap (λ (t : Stage). next_stage t byte) same ∙ n
  where
    whole : (o : Option Stage) → stage_behind o [] ≡ o
    whole None = refl
    whole (Some t) = refl
stage_snoc (Some s) (b ∷ text) byte at to e n = stage_snoc (next_stage s b) text byte at to e n

numbered : ℕ → Stage
numbered zero = Empty
numbered (suc zero) = Root
numbered (suc (suc zero)) = Slash
numbered (suc (suc (suc zero))) = Dot
numbered (suc (suc (suc (suc zero)))) = DotDot
numbered (suc (suc (suc (suc (suc n))))) = Name

stage_is : (s : Stage) → numbered (stage_number s) ≡ s
unfolding numbered
stage_is Empty = refl
stage_is Root = refl
stage_is Slash = refl
stage_is Dot = refl
stage_is DotDot = refl
stage_is Name = refl

-- ---- lists and places are added

pub list_kept : (old new : List NodeList) (n : ℕ) → AreFurther old new → n < length old
    → list_at new n ≡ list_at old n
list_kept old new n m l = ap (λ lists. list_at lists n) m.1 ∙ get_or-append old m.0 [] n l

pub lists_longer : (old new : List NodeList) → AreFurther old new → length old ≤ length new
lists_longer old new m =
    omega (arith, ap (λ (lists : List NodeList). length lists) m.1, length-append old m.0)

pub further_twice : (a b c : List NodeList) → AreFurther a b → AreFurther b c → AreFurther a c
further_twice a b c m n =
    (m.0 ++ n.0, n.1 ∙ ap (λ lists. lists ++ n.0) m.1 ∙ append_assoc a m.0 n.0)

pub none_further : (lists : List NodeList) → AreFurther lists lists
none_further lists = ([], sym (append-nil lists))

pub record HasLists (lists : List NodeList) (place : Place) : Type 0 where
  pub first : place.first < length lists
  pub second : place.second < length lists

pub at_further : (ps : Policies) (old new : List NodeList) (place : Place) (text : List ℕ)
    → AreFurther old new → HasLists old place → IsAt ps old place text → IsAt ps new place text
at_further ps old new place text m w h = record {
  stage = h.stage;
  first = subst (IsListOf ps.lines ps.first text) (sym (list_kept old new place.first m w.first))
      h.first;
  second = subst (IsListOf ps.lines ps.second text)
      (sym (list_kept old new place.second m w.second)) h.second;
}

pub at_before : (ps : Policies) (old new : List NodeList) (place : Place) (text : List ℕ)
    → AreFurther old new → HasLists old place → IsAt ps new place text → IsAt ps old place text
at_before ps old new place text m w h = record {
  stage = h.stage;
  first = subst (IsListOf ps.lines ps.first text) (list_kept old new place.first m w.first)
      h.first;
  second = subst (IsListOf ps.lines ps.second text) (list_kept old new place.second m w.second)
      h.second;
}

pub leads_further : (ps : Policies) (old new : List NodeList) (byte : ℕ) (from to : Place)
    → AreFurther old new → HasLists old from → HasLists old to
    → PlaceLeadsTo ps old byte from to → PlaceLeadsTo ps new byte from to
leads_further ps old new byte from to m f t leads = λ text h.
    at_further ps old new to (text ++ byte ∷ []) m t
    (leads text (at_before ps old new from text m f h))

pub lists_of_place : (ps : Policies) (lists : List NodeList) (places : List Place)
    (rows : List (List ℕ)) (p : ℕ) → ArePlaces ps lists places rows → p < length places
    → HasLists lists (place_at places p)
lists_of_place ps lists places rows p h l =
    let placed = h.each p l in record { first = placed.first; second = placed.second }

placed_further : (ps : Policies) (old new : List NodeList) (places : List Place)
    (rows : List (List ℕ)) (p : ℕ) → AreFurther old new → ArePlaces ps old places rows
    → p < length places → IsPlaced ps new places p (place_at places p)
placed_further ps old new places rows p m h l =
    let placed = h.each p l in
    let place = place_at places p in
    let w = lists_of_place ps old places rows p h l in record {
      first = omega (arith, placed.first, lists_longer old new m);
      second = omega (arith, placed.second, lists_longer old new m);
      low = placed.low;
      reached = elim placed.reached [
        | inl first ↦ inl (record {
          at = at_further ps old new place [] m w first.at;
          depth = first.depth;
        })
        | inr next ↦ inr (record {
          before = next.before;
          depth = next.depth;
          leads = leads_further ps old new place.byte (place_at places place.parent) place m
              (lists_of_place ps old places rows place.parent h
              (omega (arith, next.before, l))) w next.leads;
        })
      ];
    }

pub places_further : (ps : Policies) (old new : List NodeList) (places : List Place)
    (rows : List (List ℕ)) → AreFurther old new → ArePlaces ps old places rows
    → ArePlaces ps new places rows
places_further ps old new places rows m h = record {
  count = h.count;
  keys = h.keys;
  each = λ p l. placed_further ps old new places rows p m h l;
}

pub place_kept : (places more : List Place) (p : ℕ) → p < length places
    → place_at (places ++ more) p ≡ place_at places p
place_kept places more p l = get_or-append places more first_place p l

placed_more : (ps : Policies) (lists : List NodeList) (places : List Place) (one : Place) (p : ℕ)
    (place : Place) → p ≤ length places → IsPlaced ps lists places p place
    → IsPlaced ps lists (places ++ one ∷ []) p place
placed_more ps lists places one p place l h = record {
  first = h.first;
  second = h.second;
  low = h.low;
  reached = elim h.reached [
    | inl first ↦ inl first
    | inr next ↦ (
        let same = place_kept places (one ∷ []) place.parent (omega (arith, next.before, l)) in
        inr (record {
          before = next.before;
          depth = next.depth ∙ ap (λ (x : Place). x.depth + 1) (sym same);
          leads = subst (λ (x : Place). PlaceLeadsTo ps lists place.byte x place) (sym same)
              next.leads;
        })
        )
  ];
}

pub places_push : (ps : Policies) (lists : List NodeList) (places : List Place)
    (rows : List (List ℕ)) (place : Place) → ArePlaces ps lists places rows
    → IsPlaced ps lists places (length places) place
    → ArePlaces ps lists (places ++ place ∷ []) (rows ++ key_of place ∷ [])
places_push ps lists places rows place h this = record {
  count = omega (
    arith,
    h.count,
    length-append places (place ∷ []),
    length-append rows (key_of place ∷ []),
  );
  keys = λ p l. elim (before_or_last p (length places)
      (omega (arith, l, length-append places (place ∷ [])))) [
        | inl before ↦ get_or-append rows (key_of place ∷ []) [] p (omega (arith, before, h.count))
            ∙ h.keys p before ∙ ap key_of (sym (place_kept places (place ∷ []) p before))
        | inr here ↦ get_or_push rows (key_of place) [] p (omega (arith, here, h.count))
            ∙ ap key_of (sym (get_or_push places place first_place p here))
      ];
  each = λ p l. elim (before_or_last p (length places)
      (omega (arith, l, length-append places (place ∷ [])))) [
        | inl before ↦ subst (IsPlaced ps lists (places ++ place ∷ []) p)
            (sym (place_kept places (place ∷ []) p before))
            (placed_more ps lists places place p (place_at places p) (omega (arith, before))
            (h.each p before))
        | inr here ↦ subst (IsPlaced ps lists (places ++ place ∷ []) p)
            (sym (get_or_push places place first_place p here))
            (placed_more ps lists places place p place (omega (arith, here))
            (subst (λ n. IsPlaced ps lists places n place) here this))
      ];
}

-- ---- places of one key are those of the same texts

pub same_key : (ps : Policies) (lists : List NodeList) (place other : Place) (text : List ℕ)
    → key_of other ≡ key_of place → IsAt ps lists place text → IsAt ps lists other text
same_key ps lists place other text e h =
    let stage : place.stage ≡ other.stage =
    sym (stage_is place.stage) ∙ ap (λ key. numbered (slice_index key 0)) (sym e)
    ∙ stage_is other.stage in
    let first : place.first ≡ other.first = ap (λ key. slice_index key 1) (sym e) in
    let second : place.second ≡ other.second = ap (λ key. slice_index key 2) (sym e) in record {
      stage = h.stage ∙ ap (λ s. Some s) stage;
      first = subst (λ n. IsListOf ps.lines ps.first text (list_at lists n)) first h.first;
      second = subst (λ n. IsListOf ps.lines ps.second text (list_at lists n)) second h.second;
    }

-- ---- a byte on

-- a place behind a byte, whose lists were found one after the other
module _ (ps : Policies) (old mid new : List NodeList) (from to : Place) (byte : ℕ)
    (stage : next_stage from.stage byte ≡ Some to.stage) (w : HasLists old from)
    (one : IsLed ps.lines byte from.first to.first old mid)
    (two : IsLed ps.lines byte from.second to.second mid new) where
  pub lists_on : AreFurther old new
  lists_on = further_twice old mid new one.further two.further

  pub place_leads : PlaceLeadsTo ps new byte from to
  place_leads = λ text h.
      let before = at_before ps old new from text lists_on w h in record {
        stage = stage_snoc (Some Empty) text byte from.stage (Some to.stage) h.stage stage;
        first = subst (IsListOf ps.lines ps.first (text ++ byte ∷ []))
            (sym (list_kept mid new to.first two.further one.within))
            (one.leads ps.first text before.first);
        second = two.leads ps.second text
            (subst (IsListOf ps.lines ps.second text)
            (sym (list_kept old mid from.second one.further w.second)) before.second);
      }

  pub place_within : HasLists new to
  place_within = record {
    first = omega (arith, one.within, lists_longer mid new two.further);
    second = two.within;
  }

-- ---- the order of depths

pub ordered_push : (places : List Place) (place : Place) (from : ℕ) → from < length places
    → place.depth ≡ (place_at places from).depth + 1 → AreOrdered places from
    → AreOrdered (places ++ place ∷ []) from
ordered_push places place from l e h = record {
  rising = λ p q a b. elim (before_or_last q (length places)
      (omega (arith, b, length-append places (place ∷ [])))) [
        | inl before ↦ (
            let pk = ap (λ (x : Place). x.depth) (place_kept places (place ∷ []) p
            (omega (arith, a, before))) in
            let qk = ap (λ (x : Place). x.depth) (place_kept places (place ∷ []) q before) in
            omega (arith, pk, qk, h.rising p q a before)
            )
        | inr here ↦ (
            let last = ap (λ (x : Place). x.depth) (get_or_push places place first_place q here) in
            elim (before_or_last p (length places) (omega (arith, a, here))) [
              | inl before ↦ (
                  let pk = ap (λ (x : Place). x.depth) (place_kept places (place ∷ []) p before) in
                  omega (arith, pk, last, e, h.near p before)
                  )
              | inr both ↦ (
                  let lp = ap (λ (x : Place). x.depth)
                  (get_or_push places place first_place p both) in
                  omega (arith, lp, last)
                  )
            ]
            )
      ];
  near = λ q b.
      let fk = ap (λ (x : Place). x.depth) (place_kept places (place ∷ []) from l) in
      elim (before_or_last q (length places)
      (omega (arith, b, length-append places (place ∷ [])))) [
        | inl before ↦ (
            let qk = ap (λ (x : Place). x.depth) (place_kept places (place ∷ []) q before) in
            omega (arith, fk, qk, h.near q before)
            )
        | inr here ↦ (
            let last = ap (λ (x : Place). x.depth) (get_or_push places place first_place q here) in
            omega (arith, fk, last, e)
            )
      ];
}

-- ---- a place was reached

pub record HasGone (ps : Policies) (lists : List NodeList) (places new_places : List Place)
    (rows : List (List ℕ)) (from byte : ℕ) : Type 0 where
  pub right : ArePlaces ps lists new_places rows
  pub ordered : AreOrdered new_places from
  pub more : List Place
  pub grown : new_places ≡ places ++ more
  pub leads : LeadsIn ps lists new_places byte (place_at new_places from)

module _ (ps : Policies) (lists : List NodeList) (places : List Place) (rows : List (List ℕ))
    (from byte : ℕ) (next : Place) (h : ArePlaces ps lists places rows)
    (l : from < length places) (o : AreOrdered places from) (w : HasLists lists next)
    (parent : next.parent ≡ from) (by_byte : next.byte ≡ byte)
    (depth : next.depth ≡ (place_at places from).depth + 1)
    (leads : PlaceLeadsTo ps lists byte (place_at places from) next) where
  placed_next : IsPlaced ps lists places (length places) next
  placed_next = record {
    first = w.first;
    second = w.second;
    low = omega (arith, depth, (h.each from l).low, l);
    reached = inr (record {
      before = omega (arith, parent, l);
      depth = depth ∙ ap (λ n. (place_at places n).depth + 1) (sym parent);
      leads = subst (λ n. PlaceLeadsTo ps lists next.byte (place_at places n) next) (sym parent)
          (subst (λ b. PlaceLeadsTo ps lists b (place_at places from) next) (sym by_byte) leads);
    });
  }

  led_there : (number : ℕ) → number < length places → row_at rows number ≡ key_of next
      → LeadsIn ps lists places byte (place_at places from)
  led_there number within key = record {
    number = number;
    within = within;
    depth = o.near number within;
    leads = λ text g. same_key ps lists next (place_at places number) (text ++ byte ∷ [])
        (sym (h.keys number within) ∙ key) (leads text g);
  }

  last_is : place_at (places ++ next ∷ []) (length places) ≡ next
  last_is = get_or_push places next first_place (length places) refl

  led_last : LeadsIn ps lists (places ++ next ∷ []) byte (place_at (places ++ next ∷ []) from)
  led_last =
      let same = place_kept places (next ∷ []) from l in record {
        number = length places;
        within = omega (arith, length-append places (next ∷ []));
        depth = omega (
          arith,
          ap (λ (x : Place). x.depth) last_is,
          ap (λ (x : Place). x.depth) same,
          depth,
        );
        leads = subst (λ (x : Place). PlaceLeadsTo ps lists byte x
            (place_at (places ++ next ∷ []) (length places))) (sym same)
            (subst (PlaceLeadsTo ps lists byte (place_at places from)) (sym last_is) leads);
      }

  pub gone_on : (places' : List Place) (rows' : List (List ℕ))
      → IsReached rows rows' places places' next
      → HasGone ps lists places places' rows' from byte
  gone_on places' rows' (inl t) = record {
    right = subst (ArePlaces ps lists places') (sym t.same_keys)
        (subst (λ x. ArePlaces ps lists x rows) (sym t.same_places) h);
    ordered = subst (λ x. AreOrdered x from) (sym t.same_places) o;
    more = [];
    grown = t.same_places ∙ sym (append-nil places);
    leads = subst (λ x. LeadsIn ps lists x byte (place_at x from)) (sym t.same_places)
        (led_there t.number t.within t.key);
  }
  gone_on places' rows' (inr m) = record {
    right = subst (ArePlaces ps lists places') (sym m.more_keys)
        (subst (λ x. ArePlaces ps lists x (rows ++ key_of next ∷ [])) (sym m.more_places)
        (places_push ps lists places rows next h placed_next));
    ordered = subst (λ x. AreOrdered x from) (sym m.more_places)
        (ordered_push places next from l depth o);
    more = next ∷ [];
    grown = m.more_places;
    leads = subst (λ x. LeadsIn ps lists x byte (place_at x from)) (sym m.more_places) led_last;
  }

-- ---- a search goes on

pub goes_kept : (ps : Policies) (old new : List NodeList) (places more : List Place)
    (rows : List (List ℕ)) (byte : ℕ) (place : Place) → AreFurther old new
    → ArePlaces ps old places rows → HasLists old place → GoesOn ps old places byte place
    → GoesOn ps new (places ++ more) byte place
goes_kept ps old new places more rows byte place m h w (inl none) = inl none
goes_kept ps old new places more rows byte place m h w (inr goes) =
    let same = place_kept places more goes.number goes.within in inr (record {
      number = goes.number;
      within = omega (arith, goes.within, length-append places more);
      depth = omega (arith, goes.depth, ap (λ (x : Place). x.depth) same);
      leads = subst (PlaceLeadsTo ps new byte place) (sym same)
          (leads_further ps old new byte place (place_at places goes.number) m w
          (lists_of_place ps old places rows goes.number h goes.within) goes.leads);
    })

pub still_within : (old new : Search) (p : ℕ) → HasGrown old new → p < length old.places.items
    → p < length new.places.items
still_within old new p g l =
    omega (
      arith,
      l,
      ap (λ (places : List Place). length places) g.places,
      length-append old.places.items g.more,
    )

pub same_place : (old new : Search) (p : ℕ) → HasGrown old new → p < length old.places.items
    → place_at new.places.items p ≡ place_at old.places.items p
same_place old new p g l =
    ap (λ places. place_at places p) g.places ∙ place_kept old.places.items g.more p l

pub goes_grown : (ps : Policies) (old new : Search) (p byte : ℕ) → HasGrown old new
    → IsSearch ps old → p < length old.places.items
    → GoesOn ps (lists_in old.lists) old.places.items byte (place_at old.places.items p)
    → GoesOn ps (lists_in new.lists) new.places.items byte (place_at new.places.items p)
goes_grown ps old new p byte g s l goes =
    subst (GoesOn ps (lists_in new.lists) new.places.items byte) (sym (same_place old new p g l))
    (subst (λ places. GoesOn ps (lists_in new.lists) places byte (place_at old.places.items p))
    (sym g.places)
    (goes_kept ps (lists_in old.lists) (lists_in new.lists) old.places.items g.more old.keys byte
    (place_at old.places.items p) g.lists s.places
    (lists_of_place ps (lists_in old.lists) old.places.items old.keys p s.places l) goes))

pub not_grown : (s : Search) → HasGrown s s
not_grown s = record {
  lists = none_further (lists_in s.lists);
  more = [];
  places = sym (append-nil s.places.items);
}

pub grown_twice : (a b c : Search) → HasGrown a b → HasGrown b c → HasGrown a c
grown_twice a b c g h = record {
  lists = further_twice (lists_in a.lists) (lists_in b.lists) (lists_in c.lists) g.lists h.lists;
  more = g.more ++ h.more;
  places = h.places ∙ ap (λ places. places ++ h.more) g.places
      ∙ append_assoc a.places.items g.more h.more;
}

-- by the bytes below one, and by it
pub one_byte_more : (ps : Policies) (old new : Search) (from i : ℕ) → HasGrown old new
    → IsSearch ps old → from < length old.places.items
    → ((byte : ℕ) → 0 < byte → byte < i → GoesOn ps (lists_in old.lists) old.places.items byte
    (place_at old.places.items from))
    → GoesOn ps (lists_in new.lists) new.places.items i (place_at new.places.items from)
    → (byte : ℕ) → 0 < byte → byte < i + 1
    → GoesOn ps (lists_in new.lists) new.places.items byte (place_at new.places.items from)
one_byte_more ps old new from i g s l all this byte some below =
    elim (before_or_last byte i below) [
      | inl before ↦ goes_grown ps old new from byte g s l (all byte some before)
      | inr here ↦ subst (λ b. GoesOn ps (lists_in new.lists) new.places.items b
          (place_at new.places.items from)) here this
    ]

-- ---- the first place

pub record HasBegun (ps : Policies) (lists : List NodeList) (places : List Place)
    (rows : List (List ℕ)) : Type 0 where
  pub right : ArePlaces ps lists places rows
  pub some : 0 < length places
  pub ordered : AreOrdered places 0

one_ordered : (place : Place) → AreOrdered (place ∷ []) 0
one_ordered place = record {
  rising = λ p q a b.
      let same : p ≡ q = omega (arith, a, b) in
      omega (arith, ap (λ n. (place_at (place ∷ []) n).depth) same);
  near = λ q b.
      let same : q ≡ 0 = omega (arith, b) in
      omega (arith, ap (λ n. (place_at (place ∷ []) n).depth) same);
}

pub begun : (ps : Policies) (lists : List NodeList) (places : List Place)
    (rows : List (List ℕ)) (place : Place) → HasLists lists place → IsAt ps lists place []
    → place.depth ≡ 0 → IsReached [] rows [] places place → HasBegun ps lists places rows
begun ps lists places rows place w at depth (inl there) = absurd (omega (arith, there.within))
begun ps lists places rows place w at depth (inr more) =
    let none : ArePlaces ps lists [] [] = record {
      count = refl;
      keys = λ p l. absurd (omega (arith, l));
      each = λ p l. absurd (omega (arith, l));
    } in
    let placed : IsPlaced ps lists [] 0 place = record {
      first = w.first;
      second = w.second;
      low = omega (arith, depth);
      reached = inl (record { at = at; depth = depth });
    } in record {
      right = subst (ArePlaces ps lists places) (sym more.more_keys)
          (subst (λ x. ArePlaces ps lists x (key_of place ∷ [])) (sym more.more_places)
          (places_push ps lists [] [] place none placed));
      some = omega (arith, ap (λ (x : List Place). length x) more.more_places);
      ordered = subst (λ x. AreOrdered x 0) (sym more.more_places) (one_ordered place);
    }
