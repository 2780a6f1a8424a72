-- Which outlet it is, and what its items are about. An outlet and its far end belong together exactly if they are of one table.
use Rattle.std.specs.Prelude.{Option, Some, None, []}
use Rattle.atomic_table.specs.Seated.{TableId}
use Rattle.session_core.specs.declared.subject.Subject.{Subject}

pub data OutletName : Type 0 where
  alone : OutletName
  of_table : TableId → Subject → OutletName

-- its table, if it is of one
abbrev pub table_of : OutletName → Option TableId
table_of alone = None
table_of (of_table table about) = Some table

-- nothing is told of it, and no device either
abbrev pub untold : Subject
untold = record { source = None; devices = [] }
