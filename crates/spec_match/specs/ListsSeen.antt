-- One of the lists of a table, as contracts see it.
use Rattle.std.specs.Prelude.{List}
use Rattle.spec_match.specs.Alive.{Alive, alive_list}
use Rattle.spec_match.specs.declared.lists.ListRef.{ListRef}

abbrev pub list_seen : ListRef → List Alive
list_seen list = alive_list list.lists.now.lists list.number
