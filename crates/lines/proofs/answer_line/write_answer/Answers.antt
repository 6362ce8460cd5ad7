use Rattle.lines.proofs.Writing.{answer_put}
use Rattle.lines.proofs.answer_line.write_answer.Goals as goal

pub returns : goal.returns
returns c =
    let a = c.args in
    let pre = c.requires in
    let one = rw c.from.ensures at c.put_hex.ensures in
    let two = c.put_hex-2.ensures in
    answer_put a.out.now a.at a.number a.shown a.fuel pre one two c.put_hex-3.ensures
