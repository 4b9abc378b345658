use Rattle.std.proofs.Common.{sym}
use Rattle.pattern_syntax.specs.declared.node.Node.TheVariants.{Byte}
use Rattle.pattern_match.proofs.Zeros.{noted_byte, noted_set, noted_nothing, both_popped}
use Rattle.pattern_match.proofs.Zeros.{either_popped, noted_repeat, pop_none}
use Rattle.pattern_match.proofs.skipping.note.Goals as goal

pub returns-in_ok-note_leaf-in-Byte : goal.returns-in_ok-note_leaf-in-Byte
returns-in_ok-note_leaf-in-Byte c = noted_byte c.args.nodes.now c.args.starts.now.items
    c.args.skips.now.items c.note_leaf.new.starts.items c.args.at c.in-Byte.field-0 (Byte 0)
    c.requires.within c.in-Byte.is c.in_ok-note_leaf-in-Byte.ensures c.requires.noted

pub returns-in_ok-note_leaf-in-Set : goal.returns-in_ok-note_leaf-in-Set
returns-in_ok-note_leaf-in-Set c = noted_set c.args.nodes.now c.args.starts.now.items
    c.args.skips.now.items c.note_leaf-in-Set.new.starts.items c.args.at c.in-Set.field-0 (Byte 0)
    c.requires.within c.in-Set.is c.in_ok-note_leaf-in-Set.ensures c.requires.noted

pub returns-in_ok-note_leaf-in-Nothing : goal.returns-in_ok-note_leaf-in-Nothing
returns-in_ok-note_leaf-in-Nothing c = noted_nothing c.args.nodes.now c.args.starts.now.items
    c.args.skips.now.items c.note_leaf-in-Nothing.new.starts.items c.args.at (Byte 0)
    c.requires.within c.in-Nothing.is c.in_ok-note_leaf-in-Nothing.ensures c.requires.noted

pub returns-in-Both : goal.returns-in-Both
returns-in-Both c = both_popped c.args.nodes.now c.args.starts.now.items c.args.skips.now.items
    c.pop.new.self.items c.pop.result c.args.at (Byte 0) c.requires.within c.in-Both.is
    c.pop.ensures.items
    (pop_none c.args.starts.now.items _ c.pop.result _ (sym c.args.starts.now.ok.0)
    (c.pop.ensures.value 0)) c.requires.noted

pub returns-in-Either : goal.returns-in-Either
returns-in-Either c = either_popped c.args.nodes.now c.args.starts.now.items c.args.skips.now.items
    c.pop-in-Either.new.self.items c.pop-in-Either.result c.args.at (Byte 0) c.requires.within
    c.in-Either.is c.pop-in-Either.ensures.items
    (pop_none c.args.starts.now.items _ c.pop-in-Either.result _ (sym c.args.starts.now.ok.0)
    (c.pop-in-Either.ensures.value 0)) c.requires.noted

pub returns-else-is_zero_repeat : goal.returns-else-is_zero_repeat
returns-else-is_zero_repeat c = noted_repeat c.args.nodes.now c.args.starts.now.items
    c.args.skips.now.items c.args.at c.in-Repeat.least c.in-Repeat.most (Byte 0) c.requires.within
    c.in-Repeat.is c.requires.noted
