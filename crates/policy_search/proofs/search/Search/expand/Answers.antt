use Rattle.std.proofs.Common.{arith}
use Rattle.policy_search.specs.Places.{policies}
use Rattle.policy_search.proofs.PlaceLemmas.{grown_twice, not_grown, one_byte_more, still_within}
use Rattle.policy_search.proofs.search.Search.expand.Goals as goal

pub bytes-init : goal.bytes-init
bytes-init c = record {
  search = c.requires.search;
  ordered = c.requires.ordered;
  grown = not_grown c.args.self.now;
  goes = λ byte some below. absurd (omega (arith, some, below));
}

pub go_by-requires-clause-search : goal.go_by-requires-clause-search
go_by-requires-clause-search c = c.bytes.invariant.search

pub go_by-requires-clause-from : goal.go_by-requires-clause-from
go_by-requires-clause-from c =
    still_within c.args.self.now c.bytes.self c.args.from c.bytes.invariant.grown c.requires.from

pub go_by-requires-clause-ordered : goal.go_by-requires-clause-ordered
go_by-requires-clause-ordered c = c.bytes.invariant.ordered

pub bytes-preserved : goal.bytes-preserved
bytes-preserved c = record {
  search = c.in_ok-go_by.ensures.search;
  ordered = c.in_ok-go_by.ensures.ordered;
  grown = grown_twice c.args.self.now c.bytes.self c.go_by.new.self c.bytes.invariant.grown
      c.in_ok-go_by.ensures.grown;
  goes = one_byte_more (policies c.args.aims.now) c.bytes.self c.go_by.new.self c.args.from
      c.bytes.i c.in_ok-go_by.ensures.grown c.bytes.invariant.search
      (still_within c.args.self.now c.bytes.self c.args.from c.bytes.invariant.grown
      c.requires.from) c.bytes.invariant.goes c.in_ok-go_by.ensures.goes;
}

pub returns-clause-search : goal.returns-clause-search
returns-clause-search c = c.bytes.invariant.search

pub returns-clause-ordered : goal.returns-clause-ordered
returns-clause-ordered c = c.bytes.invariant.ordered

pub returns-clause-grown : goal.returns-clause-grown
returns-clause-grown c = c.bytes.invariant.grown

pub returns-clause-goes : goal.returns-clause-goes
returns-clause-goes c = λ byte some below.
    c.bytes.invariant.goes byte some (omega (arith, below, c.bytes-test.false))
