use Rattle.tool_words.specs.Words.{word_texts}
use Rattle.tool_runs.proofs.Completeness.{complete}
use Rattle.relabel_commands.proofs.RehearseLemmas.{keeps}
use Rattle.relabel_commands.proofs.SampleLemmas.{runs_sample}
use Rattle.relabel_commands.proofs.runs.top.Goals as goal

pub returns-clause-complete : goal.returns-clause-complete
returns-clause-complete g c =
    complete _ _ _ _ _ c.run_asked_by.ensures.status c.run_asked_by.ensures.run

pub returns-clause-sample : goal.returns-clause-sample
returns-clause-sample g c =
    runs_sample _ _ _ (word_texts c.args.words.now) c.run_asked_by.ensures.run

pub returns-clause-keeps : goal.returns-clause-keeps
returns-clause-keeps g c =
    keeps _ _ _ (word_texts c.args.words.now) c.run_asked_by.ensures.run
