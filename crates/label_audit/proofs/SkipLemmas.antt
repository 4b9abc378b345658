-- Whether an entry is skipped, as the audit keeps it.
use Rattle.std.proofs.Common.{◌≡◌, ◌∙◌, sym, refl, ℕ, ◌<◌, ◌≤◌, ◌&&◌, true, false, not, List}
use Rattle.std.proofs.Common.{Option, None}
use Rattle.std.specs.Prelude.{nat_le, nat_lt}
use Rattle.tree_model.specs.Extents.{in_extent}
use Rattle.tree_model.specs.Tree.{ByPath}
use Rattle.relabel_core.specs.Swept.{SkipEndsAt, is_not, renewal}
use Rattle.relabel_core.specs.Walk.{Walk, walk_count, skippable}
use Rattle.relabel_core.specs.declared.swept.Skip.{Skip}
use Rattle.relabel_core.specs.declared.swept.Skip.TheVariants.{Not, First, Below}
use Rattle.relabel_core.proofs.CoveredLemmas.{IsPassed, passed_below, passed_by, passed_over}
use Rattle.relabel_core.proofs.CoveredLemmas.{skipped_is}
use Rattle.relabel_core.proofs.SweptLemmas.{none_renewed_if_skipped}
use Rattle.label_audit.specs.Skipping.{IsSkipped}

-- no digest is made of what is skipped
skipped_as : (w : Walk) → ByPath w.entries → (e end : ℕ) (skip : Skip) → e < walk_count w
    → IsPassed w e skip end → not (is_not skip) ≡ true
    → IsSkipped w e (record { skip = skip; renewed = None; end = end })
skipped_as w up e end skip l at does = record {
  skip_is = at.skip_is;
  renewed_is = sym (none_renewed_if_skipped w up e
      (sym (skipped_is w up e skip l at.skip_is) ∙ does));
  covers = at.covers;
}

pub passes_below : (w : Walk) → ByPath w.entries → (e end : ℕ) → SkipEndsAt w e end
    → e < walk_count w → e < end
    → IsSkipped w e (record { skip = Below; renewed = None; end = end })
passes_below w up e end old l below =
    skipped_as w up e end Below l (passed_below w up e end old l below) refl

pub passes_over : (w : Walk) → ByPath w.entries → (e end extent : ℕ) → SkipEndsAt w e end
    → e < walk_count w → end ≤ e → skippable w e ≡ true
    → ((x : ℕ) → x < walk_count w → in_extent w.entries e x ≡ (nat_le e x && nat_lt x extent))
    → IsSkipped w e (record { skip = First; renewed = None; end = extent })
passes_over w up e end extent old l outside over run =
    skipped_as w up e extent First l (passed_over w up e end extent old l outside over run) refl

pub passes_by : (w : Walk) → ByPath w.entries → (e end : ℕ) (renewed : Option (List ℕ))
    → SkipEndsAt w e end → e < walk_count w → end ≤ e → skippable w e ≡ false
    → renewed ≡ renewal w e → IsSkipped w e (record { skip = Not; renewed = renewed; end = end })
passes_by w up e end renewed old l outside by is =
    let at = passed_by w up e end old l outside by in
    record { skip_is = at.skip_is; renewed_is = is; covers = at.covers }
