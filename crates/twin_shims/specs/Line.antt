-- Which line it is.
use Rattle.atomic_table.specs.Seated.{TableId}
use Rattle.twin_shims.specs.declared.line.Line.{Line}

abbrev pub line_id : Line → TableId
line_id line = line.queue.table.shared.table_id
