use Rattle.lent.proofs.GrowthLaws.{memories_short, memories_alone}
use Rattle.lent.proofs.memories.MemoryGrows.is_sound.Goals as goal

pub returns-in_default : goal.returns-in_default
returns-in_default c = memories_short _ _ _ c.in_default.ensures

pub returns : goal.returns
returns c = memories_alone _ _ _ _ _ _ _ _ c.in-Some.ensures.0 c.in-Some.ensures.1 c.new.ensures c.is_sound.ensures
