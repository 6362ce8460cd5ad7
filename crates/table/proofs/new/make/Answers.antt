use Rattle.table.proofs.{Growths.creation_room_lem}
use Rattle.table.proofs.new.make.Goals as goal

pub fill_cells-requires : goal.fill_cells-requires
fill_cells-requires c = creation_room_lem _ _ _ _ _ c.requires c.grant_creation-asked.ensures c.in-Ok.is
