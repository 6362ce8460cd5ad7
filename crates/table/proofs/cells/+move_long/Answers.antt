use Rattle.types.proofs.{Prelude.◌-◌, Prelude.◌/◌, Prelude.arith, Moves.back_end, Moves.forth_on}
use Rattle.table.proofs.cells.+move_long.Goals as goal

pub returns-then-to-from : goal.returns-then-to-from
returns-then-to-from t c =
    let s = c in
    let a = s.args in
    forth_on _ _ _ a.to a.from (a.n / 2) (a.n - a.n / 2) a.n (omega arith) s.requires (omega arith) c.move_long.ensures c.move_long-then-to-from.ensures

pub returns-else-to-from : goal.returns-else-to-from
returns-else-to-from t c =
    let s = c in
    let a = s.args in
    back_end _ _ _ a.to a.from a.n (a.n / 2) (omega arith) s.requires (omega arith) c.move_long-else-to-from.ensures c.move_long-else-to-from-2.ensures
