-- What an operation leaves alone: every instance but its target, and all of a record in use but its size. Assumes nothing.
use Rattle.types.proofs.Prelude.{ℕ, ◌≡◌, true}
use Rattle.machine.specs.{Machine.Buffers, Sound.sound_over, Step.step, Frame.OthersStay, Frame.OnlySizes, declared.records.Machine.Machine}
use Rattle.machine.specs.declared.operation.Operation.{Operation}
use Rattle.machine.proofs.Touched.{step_touched}

-- every instance but the target has its record and the cells of its room as before
pub others_stay : (r : ℕ) (m : Machine) (b : Buffers) (op : Operation) → sound_over m b ≡ true → OthersStay m b op (step r m b op)
others_stay r m b op e =
    let w = step_touched r m b op e in
    record {
      memory = w.memories.others;
      bytes = w.bytes.others;
      table = w.tables.others;
      cells = w.cells.others;
      segment = w.segments.others;
      items = λ i h. w.items.others i h (λ z. z);
      kept = w.kept;
    }

-- no operation changes more of a record in use than its size
pub only_sizes : (r : ℕ) (m : Machine) (b : Buffers) (op : Operation) → sound_over m b ≡ true → OnlySizes m (step r m b op)
only_sizes r m b op e =
    let w = step_touched r m b op e in
    record { memory = w.memories.like; table = w.tables.like; segment = w.segments.like }
