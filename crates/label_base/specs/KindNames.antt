-- The names of a kind, as contracts see them.
use Rattle.label_base.specs.Kind.{Names}
use Rattle.label_base.specs.declared.kind.Names.{Names as NamesRef}

abbrev pub names_seen : NamesRef → Names
names_seen n = record {
  letters = n.letters.now;
  type_field = n.type_field.now;
  class_name = n.class_name.now;
}
