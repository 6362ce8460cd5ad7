use Rattle.table.proofs.cells.+move_long.Given as goal

abbrev pub decreases-move_long : goal.decreases-move_long
decreases-move_long l = l.n
