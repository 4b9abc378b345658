-- Which entries a walk skips, and which digests it makes, directory by directory.
use Rattle.std.specs.Prelude.{◌≡◌, ℕ, ◌<◌, ◌≤◌, Bool, true, false, not, ◌&&◌, ◌||◌, nat_lt, List}
use Rattle.std.specs.Prelude.{length, get_or, Option, Some, None, is_some, if◌then◌else◌}
use Rattle.std.specs.BTreeMap.{BTreeMap}
use Rattle.label_base.specs.Bounded.{any_below}
use Rattle.tree_model.specs.Extents.{in_extent}
use Rattle.relabel_core.specs.declared.options.Options.{Options}
use Rattle.relabel_core.specs.Stored.{digests_in, stored_before}
use Rattle.relabel_core.specs.Walk.{Walk, walk_count, digest_now, is_current, is_renewed}
use Rattle.relabel_core.specs.Walk.{is_skipped, is_skipped_first, is_whole, skippable, skips}
use Rattle.relabel_core.specs.declared.swept.Skip.{Skip}
use Rattle.relabel_core.specs.declared.swept.Skip.TheVariants.{Not, First, Below}

-- whether an entry is skipped, and whether another one above it is
abbrev pub skip_of : Walk → ℕ → Skip
skip_of w e =
    if is_skipped_first w e then First
    else if is_skipped w e then Below
    else Not

abbrev pub is_not : Skip → Bool
is_not Not = true
is_not First = false
is_not Below = false

abbrev pub is_first : Skip → Bool
is_first Not = false
is_first First = true
is_first Below = false

-- the digest that a directory gets anew
abbrev pub renewal : Walk → ℕ → Option (List ℕ)
renewal w d = if not w.options.dry && is_renewed w d then Some (digest_now w d) else None

-- what is found of the directories: for each entry whether it is skipped, and the digests made anew
pub record AreSwept (w : Walk) (skips : List Skip) (made : BTreeMap ℕ (List ℕ)) : Type 0 where
  pub skips_are : (e : ℕ) → e < walk_count w → get_or skips e Not ≡ skip_of w e
  pub made_are : (e : ℕ) → e < walk_count w → digests_in made e ≡ renewal w e

-- ---- how it is found, entry by entry

-- digests count for this run
abbrev pub uses_digests : Options → Bool
uses_digests options = options.digests || options.ignore_digests

-- a digest is stored, and it may say that the directory is to be skipped
abbrev pub may_skip : Walk → ℕ → Bool
may_skip w d = skips w && is_some (w.stored d)

-- digests are made anew
abbrev pub renews : Options → Bool
renews options = not options.dry && uses_digests options

abbrev pub is_needed : Walk → ℕ → Bool
is_needed w d = is_whole w d && (may_skip w d || renews w.options)

-- the digest of a directory, where anything depends on it
unfoldable pub needed : Walk → ℕ → Option (List ℕ)
needed w d = if is_needed w d then Some (digest_now w d) else None

-- directories may be skipped, and the digest that is found for this one is stored
abbrev pub meets : Bool → (stored found : Option (List ℕ)) → Bool
meets may stored None = false
meets may stored (Some digest) = may && is_current stored digest

-- one of the directories before n may be skipped, and the entry is at or below it
abbrev pub is_covered : Walk → ℕ → ℕ → Bool
is_covered w n e = any_below n (λ d. skippable w d && in_extent w.entries d e)

-- of the entries from n on, those before `end` are at or below a directory before n that is skipped
abbrev pub SkipEndsAt : Walk → ℕ → ℕ → Type 0
SkipEndsAt w n end = (e : ℕ) → n ≤ e → e < walk_count w → is_covered w n e ≡ nat_lt e end

-- what is found of the entries before n, and where what is skipped ends behind them
pub record AreSweeping (w : Walk) (n end : ℕ) (skips : List Skip) (made : BTreeMap ℕ (List ℕ))
    : Type 0 where
  pub each_entry : length skips ≡ n
  pub skips_are : (e : ℕ) → e < n → get_or skips e Not ≡ skip_of w e
  pub covered_are : SkipEndsAt w n end
  pub made_are : (e : ℕ) → digests_in made e ≡ stored_before (renewal w) n e
