-- What is found of an entry by itself where no digest counts.
use Rattle.std.proofs.Common.{◌≡◌, refl, ℕ, ◌&&◌, ◌||◌, Bool, true, false, not, List, Some, None}
use Rattle.std.proofs.Common.{if◌then◌else◌}
use Rattle.std.specs.Prelude.{is_some}
use Rattle.relabel_core.specs.Swept.{needed, uses_digests}
use Rattle.relabel_core.specs.Walk.{Walk, digest_now, is_current, is_whole, skippable}

none_if : (a i whole s dry : Bool) (digest : List ℕ) → (a || i) ≡ false
    → None ≡ (if whole && (((a && not i) && s) || (not dry && (a || i))) then Some digest else None)
none_if true i whole s dry digest h = absurd cc
none_if false true whole s dry digest h = absurd cc
none_if false false false s dry digest h = refl
none_if false false true s true digest h = refl
none_if false false true s false digest h = refl

pub needs_none : (w : Walk) (e : ℕ) → uses_digests w.options ≡ false → None ≡ needed w e
unfolding needed
needs_none w e h = none_if w.options.digests w.options.ignore_digests (is_whole w e)
    (is_some (w.stored e)) w.options.dry (digest_now w e) h

false_if : (a i whole current : Bool) → (a || i) ≡ false
    → false ≡ (((a && not i) && whole) && current)
false_if true i whole current h = absurd cc
false_if false i whole current h = refl

pub skips_none : (w : Walk) (e : ℕ) → uses_digests w.options ≡ false → false ≡ skippable w e
unfolding skippable
skips_none w e h = false_if w.options.digests w.options.ignore_digests (is_whole w e)
    (is_current (w.stored e) (digest_now w e)) h
