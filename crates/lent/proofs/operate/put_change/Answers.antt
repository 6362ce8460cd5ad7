use Rattle.machine.specs.Outcome.{changed}
use Rattle.lent.specs.Records.{gathered}
use Rattle.lent.proofs.RecordLaws.{picked}
use Rattle.types.proofs.Prelude.{refl}
use Rattle.lent.proofs.operate.put_change.Goals as goal

pub returns-in-Nothing : goal.returns-in-Nothing
unfolding changed
returns-in-Nothing c = λ s f. rw c.in-Nothing.is refl

pub returns-in-Memory : goal.returns-in-Memory
unfolding changed
returns-in-Memory c = let a = c.args in λ s f. rw c.in-Memory.is (picked (λ ms. gathered ms a.tables.now a.segments.now s f) _ _ _ c.put.ensures)

pub returns-in-Table : goal.returns-in-Table
unfolding changed
returns-in-Table c = let a = c.args in λ s f. rw c.in-Table.is (picked (λ ts. gathered a.memories.now ts a.segments.now s f) _ _ _ c.put-in-Table.ensures)

pub returns-in-Segment : goal.returns-in-Segment
unfolding changed
returns-in-Segment c = let a = c.args in λ s f. rw c.in-Segment.is (picked (λ gs. gathered a.memories.now a.tables.now gs s f) _ _ _ c.put-in-Segment.ensures)
