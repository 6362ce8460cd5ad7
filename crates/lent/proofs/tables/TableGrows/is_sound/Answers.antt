use Rattle.lent.proofs.GrowthLaws.{tables_short, tables_alone}
use Rattle.lent.proofs.tables.TableGrows.is_sound.Goals as goal

pub returns-in_default : goal.returns-in_default
returns-in_default c = tables_short _ _ _ c.in_default.ensures

pub returns : goal.returns
returns c = tables_alone _ _ _ _ _ _ _ _ c.in-Some.ensures.0 c.in-Some.ensures.1 c.new.ensures c.is_sound.ensures
