use Rattle.table.proofs.{Outcomes.ends_within}
use Rattle.table.proofs.init.init_bounds.Goals as goal

pub init_some-requires : goal.init_some-requires
init_some-requires c = ends_within c.args.table c.args.segment _ _ _ _ _ c.requires.0 c.requires.1 c.both_within.ensures c.if-not-both_within.false
