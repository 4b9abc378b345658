use Rattle.std.proofs.Common.{[]}
use Rattle.policy_lists.proofs.NodeLemmas.{begun, line_room, made_line, stands_node, with_room}
use Rattle.policy_lists.proofs.nodes.Nodes.begin.Goals as goal

pub restart-requires : goal.restart-requires
restart-requires c =
    line_room c.args.lines.now c.args.line c.index-lines-line.result c.args.self.now.states.known
    c.requires.within c.index-lines-line.is c.args.self.now.states.room c.requires.nodes.room

pub number_of-requires : goal.number_of-requires
number_of-requires c = record {
  nodes = with_room c.args.lines.now c.args.self.now.rows c.args.self.now.next.items
      c.args.self.now.accepts.items c.args.self.now.covers.items c.args.self.now.states.room
      c.restart.new.states.room c.restart.ensures.room c.requires.nodes;
  within = c.requires.within;
  own = made_line c.args.lines.now c.args.line c.index-lines-line.result
      c.restart.new.states.known c.requires.within c.index-lines-line.is c.restart.ensures.own;
}

pub returns-clause-begun : goal.returns-clause-begun
returns-clause-begun c =
    begun c.args.lines.now c.args.line c.restart.new.states.known c.args.self.now.rows
    c.number_of.new.self.rows c.in_ok-node.node c.in_ok-node.ensures.added
    (stands_node c.args.lines.now c.args.line c.index-lines-line.result
    c.restart.new.states.known c.requires.within c.index-lines-line.is [] c.restart.ensures.stands)
