use Rattle.std.proofs.Common.{◌≡◌, ◌∙◌, ◌+◌, ◌%◌, ap, arith, get_or, length, refl, subst, suc, sym}
use Rattle.std.proofs.Common.{take, take_all}
use Rattle.file_paths.specs.PathRef.{path_of}
use Rattle.spec_match.specs.Chains.{bucket_of, hashed, mixed}
use Rattle.spec_match.proofs.ChainLemmas.{hashed_more}
use Rattle.spec_match.proofs.FoundLemmas.{AreAddedTo, added_to_all, added_to_first, added_to_on}
use Rattle.spec_match.proofs.starts.Starts.add_above.Goals as goal

pub bytes-init : goal.bytes-init
bytes-init c = record {
  states = c.add_in.ensures.states;
  hash = refl;
  bound = omega arith;
  added = added_to_first (path_of c.args.sought.now.path) c.args.sought.now.rules.now
      c.args.text.now
      (length c.args.self.now.heads.items) c.args.found.now.items c.add_in.new.found.items
      c.in_ok-add_in.ensures.added;
}

pub bytes-preserved : goal.bytes-preserved
bytes-preserved c =
    let path = path_of c.args.sought.now.path in
    let rules = c.args.sought.now.rules.now in
    let text = c.args.text.now in
    let count = length c.args.self.now.heads.items in
    let k = c.bytes.k in
    let size : c.len-count.result ≡ count = omega (arith, c.len-count.ensures) in
    let hash = c.mixed-hash.ensures.value ∙ ap (λ h. mixed h (get_or text k 0))
    c.bytes.invariant.hash ∙ sym (hashed_more text k 0 (omega arith)) in
    let next : k + 1 ≡ suc k = omega arith in
    let bucket : c.mixed-hash.result % c.len-count.result ≡ bucket_of count (take (suc k) text) =
    ap (λ h. h % c.len-count.result) hash ∙ ap (λ n. bucket_of n (take (k + 1) text)) size
    ∙ ap (λ n. bucket_of count (take n text)) next in record {
      states = c.add_in-in-bytes.ensures.states;
      hash = hash;
      bound = c.mixed-hash.ensures.bound;
      added = subst (λ n. AreAddedTo path rules text (suc n) c.args.found.now.items
          c.add_in-in-bytes.new.found.items) (sym next)
          (added_to_on path rules text count (suc k) (c.mixed-hash.result % c.len-count.result)
          (k + 1) c.args.found.now.items c.bytes.found.items c.add_in-in-bytes.new.found.items
          bucket next c.bytes.invariant.added c.in_ok-add_in-2.ensures.added);
    }

pub returns-clause-added : goal.returns-clause-added
returns-clause-added c =
    added_to_all (path_of c.args.sought.now.path) c.args.sought.now.rules.now c.args.text.now
    (suc c.bytes.k)
    c.args.found.now.items c.bytes.found.items (omega arith) c.bytes.invariant.added

pub returns-clause-hash : goal.returns-clause-hash
returns-clause-hash c = c.bytes.invariant.hash
    ∙ ap (hashed 0) (take_all (c.bytes.k) c.args.text.now (omega arith))
