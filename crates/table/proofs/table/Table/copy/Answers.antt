use Rattle.table.proofs.{Sounds.tested_two}
use Rattle.table.proofs.table.Table.copy.Goals as goal

pub copy_bounds-requires : goal.copy_bounds-requires
copy_bounds-requires c = tested_two _ _ _ c.sound_two.ensures c.if-not-sound_two.false
