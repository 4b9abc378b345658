-- What the words say once they are closed.
use Rattle.std.proofs.Common.{◌≡◌, ◌≢◌, ℕ, zero, suc, ◌+◌, ◌<◌, ◌≤◌, ◌==◌, ◌&&◌, ◌⊎◌, min, Bool}
use Rattle.std.proofs.Common.{true, false, cond, eq-eqb, ne_eqb, All, List, [], ◌∷◌, ◌++◌, get_or}
use Rattle.std.proofs.Common.{length, refl, sym, ap, subst, ◌∙◌, inl, inr, ⊎_elim, arith}
use mathlib.Core.Option.{some, some-injective, some-ne-none}
use mathlib.Core.Logic.{dite}
use native.Mathlib.Decide.{dec_le, ℕ_discrete}
use lib.ListN.{get_elem?}
use Rattle.atomic_table.specs.Table.{State, Seen, Final}
use Rattle.label_base.proofs.SumLemmas.{one_of, only, two_of}
use Rattle.walk_steps.specs.declared.machine.TheConstants.{NONE_WORD}
use Rattle.inode_claims.specs.declared.rule.Call.{Call}
use Rattle.inode_claims.specs.declared.rule.ClaimView.{ClaimView}
use Rattle.inode_claims.specs.declared.rule.ClaimsPlan.{ClaimsPlan}
use Rattle.inode_claims.specs.declared.winners.Winners.{Winners}
use Rattle.inode_claims.specs.Claiming.{calls_where, is_call_at, was_answered, least_claimed}
use Rattle.inode_claims.specs.Rule.{LeastIsKept, count_all}
use Rattle.inode_claims.specs.Answers.{Wins, AnswersAll}

abbrev ExactWords : ℕ → List ℕ → List Call → Type 0
ExactWords groups words calls =
    ((g : ℕ) → g < groups → (get_or words (suc g) 0 ≡ NONE_WORD) ⊎
    (0 < calls_where (is_call_at g (get_or words (suc g) 0)) calls))
    × ((g a : ℕ) → 0 < calls_where (was_answered g a) calls
    → (a ≡ NONE_WORD) ⊎ (0 < calls_where (is_call_at g a) calls))
    × ((g : ℕ) → g < groups → calls_where (was_answered g NONE_WORD) calls
    ≡ cond (get_or words (suc g) 0 == NONE_WORD) 0 1)

-- where one pass stands for all, its calls are all calls
all_calls : (plan : ClaimsPlan) (words : List ℕ) (views : List ClaimView) (seat : ℕ) (v : ClaimView)
    → LeastIsKept plan words views → get_elem? views seat ≡ some v → v.stands_for ≡ plan.passes
    → (q : Call → Bool) → count_all q views ≡ calls_where q v.calls
all_calls plan words views seat v k at whole q = only (λ u. calls_where q u.calls) views seat v at
    (λ j u ne e. let two = two_of (λ x. x.stands_for) views seat j v u (λ i. ne (sym i)) at e in
    let w = k.whole in ap (calls_where q) (k.spent j u e (omega (arith, two, w, whole))))

closes_low : (plan : ClaimsPlan) (words : List ℕ) (xs : List ℕ) (seat : ℕ) (v : ClaimView)
    → Final (Seen (λ (s : State ℕ ClaimView). LeastIsKept plan s.words s.views) seat v) words xs
    → (g p : ℕ) → 0 < calls_where (is_call_at g p) v.calls → get_or words (suc g) 0 ≤ p
closes_low plan words xs seat v f g p h = let k = f.1.0 in
    subst (λ (ws : List ℕ). get_or ws (suc g) 0 ≤ p) f.2
    (k.low g p (let o = one_of (λ u. calls_where (is_call_at g p) u.calls) f.0.views seat v f.1.1 in
    omega (arith, o)))

closes_exact : (plan : ClaimsPlan) (words : List ℕ) (xs : List ℕ) (seat : ℕ) (v : ClaimView)
    → Final (Seen (λ (s : State ℕ ClaimView). LeastIsKept plan s.words s.views) seat v) words xs
    → v.stands_for ≡ plan.passes → ExactWords plan.groups words v.calls
closes_exact plan words xs seat v f whole = let k = f.1.0 in
    let c = all_calls plan f.0.words f.0.views seat v k f.1.1 whole in
    subst (λ (ws : List ℕ). ExactWords plan.groups ws v.calls) f.2 (
      (λ g lt. subst (λ (n : ℕ). (get_or f.0.words (suc g) 0 ≡ NONE_WORD) ⊎ (0 < n))
          (c (is_call_at g (get_or f.0.words (suc g) 0))) (k.met g lt)),
      (λ g a h. subst (λ (n : ℕ). (a ≡ NONE_WORD) ⊎ (0 < n)) (c (is_call_at g a))
          (k.answered g a (let e = c (was_answered g a) in omega (arith, e, h)))),
      λ g lt. sym (c (was_answered g NONE_WORD)) ∙ k.once g lt,
    )

at_or : (xs : List ℕ) (i x : ℕ) → get_elem? xs i ≡ some x → get_or xs i 0 ≡ x
at_or [] i x e = absurd (some-ne-none x (sym e))
at_or (y ∷ ys) zero x e = some-injective y x e
at_or (y ∷ ys) (suc i) x e = at_or ys i x e

or_last : (xs : List ℕ) (w k : ℕ) → k ≡ length xs → get_or (xs ++ w ∷ []) k 0 ≡ w
or_last [] w zero e = refl
or_last [] w (suc k) e = absurd (omega arith)
or_last (x ∷ xs) w zero e = absurd (omega arith)
or_last (x ∷ xs) w (suc k) e = or_last xs w k (omega arith)

or_before : (xs : List ℕ) (w k : ℕ) → k < length xs → get_or (xs ++ w ∷ []) k 0 ≡ get_or xs k 0
or_before [] w k e = absurd (omega arith)
or_before (x ∷ xs) w zero e = refl
or_before (x ∷ xs) w (suc k) e = or_before xs w k (omega arith)

pub one_more : (xs words : List ℕ) (g w i : ℕ) → length xs ≡ g → i ≡ suc g
    → get_elem? words i ≡ some w → ((k : ℕ) → k < g → get_or xs k 0 ≡ get_or words (suc k) 0)
    → (k : ℕ) → k < g + 1 → get_or (xs ++ w ∷ []) k 0 ≡ get_or words (suc k) 0
one_more xs words g w i len is at before k lt = dite (ℕ_discrete k g)
    (λ (e : k ≡ g). or_last xs w k (e ∙ sym len) ∙ sym (at_or words i w at)
    ∙ ap (λ j. get_or words j 0) (is ∙ ap suc (sym e)))
    (λ (ne : k ≢ g). or_before xs w k (omega (arith, len)) ∙ before k (omega arith))

winners_low : (plan : ClaimsPlan) (room words xs : List ℕ) (seat : ℕ) (v : ClaimView)
    → Final (Seen (λ (s : State ℕ ClaimView). LeastIsKept plan s.words s.views) seat v) words xs
    → ((k : ℕ) → k < plan.groups → get_or room k 0 ≡ get_or words (suc k) 0) → (g p : ℕ)
    → g < plan.groups → 0 < calls_where (is_call_at g p) v.calls → get_or room g 0 ≤ p
winners_low plan room words xs seat v f same g p lt h =
    subst (λ (n : ℕ). n ≤ p) (sym (same g lt)) (closes_low plan words xs seat v f g p h)

abbrev ExactRoom : ℕ → List ℕ → List Call → Type 0
ExactRoom groups room calls =
    ((g : ℕ) → g < groups
    → (get_or room g 0 ≡ NONE_WORD) ⊎ (0 < calls_where (is_call_at g (get_or room g 0)) calls))
    × ((g a : ℕ) → 0 < calls_where (was_answered g a) calls
    → (a ≡ NONE_WORD) ⊎ (0 < calls_where (is_call_at g a) calls))
    × ((g : ℕ) → g < groups → calls_where (was_answered g NONE_WORD) calls
    ≡ cond (get_or room g 0 == NONE_WORD) 0 1)

winners_exact : (plan : ClaimsPlan) (room words xs : List ℕ) (seat : ℕ) (v : ClaimView)
    → Final (Seen (λ (s : State ℕ ClaimView). LeastIsKept plan s.words s.views) seat v) words xs
    → ((k : ℕ) → k < plan.groups → get_or room k 0 ≡ get_or words (suc k) 0)
    → v.stands_for ≡ plan.passes → ExactRoom plan.groups room v.calls
winners_exact plan room words xs seat v f same whole = let e =
    closes_exact plan words xs seat v f whole in (
      (λ g lt. subst (λ (n : ℕ). (n ≡ NONE_WORD) ⊎ (0 < calls_where (is_call_at g n) v.calls))
          (sym (same g lt)) (e.0 g lt)),
      e.1,
      λ g lt. e.2 g lt ∙ ap (λ (n : ℕ). cond (n == NONE_WORD) 0 1) (sym (same g lt)),
    )

and_false : (b : Bool) → (b && false) ≡ false
and_false true = refl
and_false false = refl

no_group : (g p : ℕ) (c : Call) → c.group ≢ g → is_call_at g p c ≡ false
no_group g p c ne = ap (λ b. b && (c.position == p)) (ne_eqb c.group g ne)

no_place : (g p : ℕ) (c : Call) → c.position ≢ p → is_call_at g p c ≡ false
no_place g p c ne = ap (λ b. (c.group == g) && b) (ne_eqb c.position p ne)
    ∙ and_false (c.group == g)

here : (g p : ℕ) (c : Call) → c.group ≡ g → c.position ≡ p → is_call_at g p c ≡ true
here g p c e f = ap (λ b. b && (c.position == p)) (eq-eqb c.group g e) ∙ eq-eqb c.position p f

abbrev passed : Bool → ℕ
passed b = cond b 1 0

-- positions that were claimed are no none-word
position_fits : (calls : List Call) → All (λ c. c.position < NONE_WORD) calls → (g p : ℕ)
    → 0 < calls_where (is_call_at g p) calls → p < NONE_WORD
position_fits [] all g p h = absurd (omega arith)
position_fits (c ∷ cs) all g p h = dite (ℕ_discrete c.position p)
    (λ (e : c.position ≡ p). let a = all 0 c (omega arith) in omega (arith, a, e))
    (λ (ne : c.position ≢ p). position_fits cs (λ k d lt. all (suc k) d (omega arith)) g p
    (let t : passed (is_call_at g p c) ≡ 0 = ap passed (no_place g p c ne) in
    omega (arith, t, h)))

least_here : (g : ℕ) (c : Call) (cs : List Call) → c.group ≡ g → least_claimed g (c ∷ cs)
    ≡ min c.position (least_claimed g cs)
least_here g c cs e = ap (λ b. cond b (min c.position (least_claimed g cs)) (least_claimed g cs))
    (eq-eqb c.group g e)

least_else : (g : ℕ) (c : Call) (cs : List Call) → c.group ≢ g → least_claimed g (c ∷ cs)
    ≡ least_claimed g cs
least_else g c cs ne = ap (λ b. cond b (min c.position (least_claimed g cs)) (least_claimed g cs))
    (ne_eqb c.group g ne)

least_low : (g p : ℕ) (calls : List Call) → 0 < calls_where (is_call_at g p) calls
    → least_claimed g calls ≤ p
least_low g p [] h = absurd (omega arith)
least_low g p (c ∷ cs) h = dite (ℕ_discrete c.group g)
    (λ (e : c.group ≡ g). let l = least_here g c cs e in dite (ℕ_discrete c.position p)
    (λ (f : c.position ≡ p). omega (arith, l, f))
    (λ (ne : c.position ≢ p). let t : passed (is_call_at g p c) ≡ 0 = ap passed
    (no_place g p c ne) in let r = least_low g p cs (omega (arith, t, h)) in
    omega (arith, l, r)))
    (λ (ne : c.group ≢ g). let l = least_else g c cs ne in
    let t : passed (is_call_at g p c) ≡ 0 = ap passed (no_group g p c ne) in
    let r = least_low g p cs (omega (arith, t, h)) in omega (arith, l, r))

least_fits : (g : ℕ) (calls : List Call) → least_claimed g calls ≤ NONE_WORD
least_fits g [] = omega arith
least_fits g (c ∷ cs) = let r = least_fits g cs in dite (ℕ_discrete c.group g)
    (λ (e : c.group ≡ g). let l = least_here g c cs e in omega (arith, l, r))
    (λ (ne : c.group ≢ g). let l = least_else g c cs ne in omega (arith, l, r))

abbrev Met : ℕ → List Call → ℕ → Type 0
Met g calls n = (n ≡ NONE_WORD) ⊎ (0 < calls_where (is_call_at g n) calls)

met_more : (g n : ℕ) (c : Call) (cs : List Call) → Met g cs n → Met g (c ∷ cs) n
met_more g n c cs m = ⊎_elim (λ e. inl e) (λ h. inr (omega (arith, h))) m

least_met : (g : ℕ) (calls : List Call) → Met g calls (least_claimed g calls)
least_met g [] = inl refl
least_met g (c ∷ cs) = let r = met_more g (least_claimed g cs) c cs (least_met g cs) in
    dite (ℕ_discrete c.group g)
    (λ (e : c.group ≡ g). let l = least_here g c cs e in
    dite (dec_le c.position (least_claimed g cs))
    (λ (le : c.position ≤ least_claimed g cs). let t : passed (is_call_at g c.position c)
    ≡ 1 = ap passed (here g c.position c e refl) in
    let m : c.position ≡ least_claimed g (c ∷ cs) = omega (arith, l) in
    subst (Met g (c ∷ cs)) m (inr (omega (arith, t))))
    (λ (gt : ¬ (c.position ≤ least_claimed g cs)). let m : least_claimed g cs ≡ least_claimed g
    (c ∷ cs) = omega (arith, l) in subst (Met g (c ∷ cs)) m r))
    (λ (ne : c.group ≢ g). subst (Met g (c ∷ cs)) (sym (least_else g c cs ne)) r)

-- a word that is at most every claimed position, and is one of them or the none-word, is the least
-- of them
is_least : (g n : ℕ) (calls : List Call) → n ≤ NONE_WORD
    → ((p : ℕ) → 0 < calls_where (is_call_at g p) calls → n ≤ p) → Met g calls n
    → n ≡ least_claimed g calls
is_least g n calls fits low met =
    let over : n ≤ least_claimed g calls =
    ⊎_elim (λ (e : least_claimed g calls ≡ NONE_WORD). omega (arith, e, fits))
    (λ h. low (least_claimed g calls) h) (least_met g calls) in
    let under : least_claimed g calls ≤ n =
    ⊎_elim (λ (e : n ≡ NONE_WORD). let f = least_fits g calls in omega (arith, e, f))
    (λ h. least_low g n calls h) met in
    omega (arith, over, under)

pub closed_wins : (plan : ClaimsPlan) (w : Winners) (words xs : List ℕ) (seat : ℕ) (v : ClaimView)
    → Final (Seen (λ (s : State ℕ ClaimView). LeastIsKept plan s.words s.views) seat v) words xs
    → ((k : ℕ) → k < plan.groups → get_or w.words.items k 0 ≡ get_or words (suc k) 0)
    → length w.words.items ≡ plan.groups → All (λ c. c.position < NONE_WORD) v.calls
    → Wins plan.groups v.calls w
closed_wins plan w words xs seat v f same sized fit = record {
  sized = sized;
  low = λ g p lt h. winners_low plan w.words.items words xs seat v f same g p lt h;
  won = λ g p lt h. let l = winners_low plan w.words.items words xs seat v f same g p lt h in
      let a = position_fits v.calls fit g p h in omega (arith, l, a);
}

pub closed_shows : (plan : ClaimsPlan) (w : Winners) (words xs : List ℕ) (seat : ℕ) (v : ClaimView)
    → Final (Seen (λ (s : State ℕ ClaimView). LeastIsKept plan s.words s.views) seat v) words xs
    → ((k : ℕ) → k < plan.groups → get_or w.words.items k 0 ≡ get_or words (suc k) 0)
    → length w.words.items ≡ plan.groups → All (λ c. c.position < NONE_WORD) v.calls
    → v.stands_for ≡ plan.passes → AnswersAll plan.groups v.calls w
closed_shows plan w words xs seat v f same sized fit whole = let e =
    winners_exact plan w.words.items words xs seat v f same whole in record {
      least = λ g lt. is_least g (get_or w.words.items g 0) v.calls
          (⊎_elim (λ (z : get_or w.words.items g 0 ≡ NONE_WORD). omega (arith, z))
          (λ h. let a = position_fits v.calls fit g (get_or w.words.items g 0) h in
          omega (arith, a)) (e.0 g lt))
          (λ p h. winners_low plan w.words.items words xs seat v f same g p lt h) (e.0 g lt);
      answered = e.1;
      first = λ g p lt h. let l = winners_low plan w.words.items words xs seat v f same g p lt h in
          let a = position_fits v.calls fit g p h in
          e.2 g lt ∙ ap (λ b. cond b 0 1)
          (ne_eqb (get_or w.words.items g 0) NONE_WORD (λ z. omega (arith, z, l, a)));
    }
