use Rattle.std.proofs.Common.{◌≡◌, ℕ}
use Rattle.relabel_core.specs.Stored.{digests_in, digests_listed, stored_before}
use Rattle.relabel_core.proofs.stored.keep_listed.Given as goal

-- the digests so far are stored
abbrev pub invariant-digests : goal.invariant-digests
invariant-digests l = (e : ℕ) → digests_in l.stored e
    ≡ stored_before (digests_listed l.digests) l.d e
