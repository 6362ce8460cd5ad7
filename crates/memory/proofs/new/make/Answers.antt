use Rattle.memory.proofs.{Growths.created_room}
use Rattle.memory.proofs.new.make.Goals as goal

pub zero-requires : goal.zero-requires
zero-requires c = created_room _ _ _ _ _ _ c.grant_creation-asked.ensures c.requires c.in-Ok.is
