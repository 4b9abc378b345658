use Rattle.std.proofs.Common.{◌≡◌, ◌++◌, List, ℕ, length}
use Rattle.find_records.specs.SoFar.{IsSound, meant_with}
use Rattle.find_records.proofs.so_far.RecordsSoFar.take.Given as goal

-- what is left of the piece means the same behind what is read by now
abbrev pub invariant-records : goal.invariant-records
invariant-records l = record {
  sound : IsSound l.self;
  most : l.self.most ≡ l.fn.self.most;
  meant : (rest : List ℕ) → meant_with l.fn.self (l.piece ++ rest) ≡ meant_with l.self
      (l.left ++ rest);
}

abbrev pub decreases-records : goal.decreases-records
decreases-records l = length l.left
