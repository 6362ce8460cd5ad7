-- What the crates above name of this one, passed on by file; nothing is defined here.
use Rattle.table.specs.declared
pub use Rattle.table.specs.Table.{resized, sound_table, get_table, set_table}
pub use Rattle.table.specs.Element.{sound_segment, dropped, new_segment}
pub use Rattle.table.specs.New.{table_of, wanted, new_table}
pub use Rattle.table.specs.Grow.{grow_table}
pub use Rattle.table.specs.Fill.{fill_table}
pub use Rattle.table.specs.Copy.{copy_table}
pub use Rattle.table.specs.Init.{init_table}
pub use declared.{table.Table.Table, element.ElementSegment.ElementSegment, grow.GrownTable.GrownTable}
pub use declared.{new.CreatedTable.CreatedTable}
