use Rattle.pattern_syntax.specs.declared.node.Node.TheVariants.{Both}
use Rattle.pattern_syntax.proofs.StartLemmas.{trees_put}
use Rattle.pattern_syntax.proofs.builder.Builder.join.Goals as goal

pub returns-in_ok-push-in-None-clause-trees : goal.returns-in_ok-push-in-None-clause-trees
returns-in_ok-push-in-None-clause-trees c =
    trees_put c.args.self.now.start c.push.new.self.items c.args.self.now.nodes.items Both
    c.in_ok-push-in-None.ensures.items
