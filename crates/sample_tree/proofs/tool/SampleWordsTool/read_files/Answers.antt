use Rattle.std.proofs.Common.{refl}
use Rattle.run_input.proofs.ReadsLemmas.{all_some, opens_none}
use Rattle.sample_tree.proofs.tool.SampleWordsTool.read_files.Goals as goal

pub returns-clause-reads : goal.returns-clause-reads
returns-clause-reads g c = record {
  same = refl;
  unwritten = refl;
  gives = all_some (g.S.Store.files c.args._store.now) (λ fs. c.read_own_files.ensures.answer);
  opens = all_some (g.S.Store.files c.args._store.now) (λ fs.
      opens_none (g.S.Store.calls c.args._store.now) c.read_own_files.result);
  counts = c.read_own_files.ensures.counts (g.S.Store.read_faults c.args._store.now);
  kinds = c.read_own_files.ensures.kinds;
}

pub returns-clause-alone : goal.returns-clause-alone
returns-clause-alone g c = λ none known. c.read_own_files.ensures.answer
