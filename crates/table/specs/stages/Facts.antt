-- What the inner functions of this crate ask of each other, as records of plain facts; no public function asks any.
use Rattle.std.specs.Prelude.{ℕ, ◌+◌, ◌≤◌, ◌≡◌, Ok, Result}
use Rattle.types.specs.declared.fuel.Fuel.{Fuel}
use Rattle.table.specs.declared.table.Table.{Table}
use Rattle.table.specs.declared.element.ElementSegment.{ElementSegment}
use Rattle.types.specs.declared.answer.Refusal.{Refusal}

-- a size no less than before that lies in the buffer
pub record Roomy (t : Table) (size len : ℕ) : Type 0 where
  pub more : t.size ≤ size
  pub room : t.start + size ≤ len

-- the room lies in the buffer
abbrev pub Roomed : Table → ℕ → Type 0
Roomed t len = t.start + t.room ≤ len

-- the size in use lies in the buffer
abbrev pub Within : Table → ℕ → Type 0
Within t len = t.start + t.size ≤ len

-- where the step goes on, the end is not past the buffer's
abbrev pub Goes : Result Fuel Refusal → ℕ → ℕ → Type 0
Goes step end len = (g : Fuel) → step ≡ Ok g → end ≤ len

-- the items in use lie in the buffer
abbrev pub Places : ElementSegment → ℕ → Type 0
Places s len = s.start + s.size ≤ len
