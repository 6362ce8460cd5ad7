-- Document 01, "First check wins", in place: one operation on the machine that a row says, whose words then stand in the row.
use Rattle.std.specs.Prelude.{ℕ, ◌+◌, ◌*◌, Bool, false, List, leb, ltb, length}
use Rattle.types.specs.Names.{unless, over, refuse, accept, new_fuel, Answer, Fuel, FuelCosts}
use Rattle.memory.specs.Names.{pages_of}
use Rattle.machine.specs.{Machine.Buffers, Machine.buffers, Machine.memory_at, Machine.table_at, Machine.fresh_machine, Operation.well_formed}
use Rattle.machine.specs.{Sound.sound_machine, Step.Stepped, Step.step}
use Rattle.machine.specs.Words.{record_length, tables_at, row_length, words_of, fuel_from, machine_from, record_in_form, in_form}
use Rattle.machine.specs.declared.{operation.Operation.Operation}

-- a number given back, and the row after it
pub record Rowed : Type 0 where
  pub number : ℕ
  pub words : List ℕ

-- both of them
abbrev pub rowed : ℕ → List ℕ → Rowed
rowed n l = record { number = n; words = l }

-- making a machine in place; a row that is too short is 19
unfoldable pub fresh_row : List ℕ → Bool → FuelCosts → Rowed
fresh_row l metering costs =
    unless (leb row_length (length l)) (rowed 19 l) (rowed 0 (over l 0 (words_of (fresh_machine metering costs))))

-- an answer, and the row and the buffers after it
pub record InRow : Type 0 where
  pub answer : Answer
  pub words : List ℕ
  pub buffers : Buffers

-- all of them
abbrev pub in_row : Answer → List ℕ → List ℕ → List ℕ → List ℕ → InRow
in_row a l bytes cells items = record { answer = a; words = l; buffers = buffers bytes cells items }

-- a refusal that changes nothing
abbrev pub row_keeps : List ℕ → Buffers → ℕ → InRow
row_keeps l b n = record { answer = refuse n 0; words = l; buffers = b }

-- the words of the machine after a step take the place of those before it
abbrev pub row_after : List ℕ → Stepped → InRow
row_after l s = record { answer = s.answer; words = over l 0 (words_of s.machine); buffers = s.buffers }

-- 18, 19 for a row that is out of form, then the step: 19 for unsound records or buffers, 16 or 17, the operation's own checks
unfoldable pub operate_row : ℕ → List ℕ → Buffers → Operation → InRow
operate_row r l b op =
    unless (well_formed op) (row_keeps l b 18)
    (unless (in_form l) (row_keeps l b 19)
    (row_after l (step r (machine_from l) b op)))

-- the fuel of a row; a row that is too short has none
unfoldable pub fuel_of : List ℕ → Fuel
fuel_of l = unless (leb row_length (length l)) (new_fuel false (record { copied = 0; translated = 0; validated = 0 })) (fuel_from l)

-- over buffers of these lengths: 19 for a row that is too short, for unsound records or buffers
unfoldable pub if_sound : List ℕ → ℕ → ℕ → ℕ → Answer → Answer
if_sound l bytes cells items a =
    unless (leb row_length (length l)) (refuse 19 0) (unless (sound_machine (machine_from l) bytes cells items) (refuse 19 0) a)

-- 12 on a row: then 16 for a number that no instance has, 19 where that record's flags are out of form; the form of the rest is not tested
unfoldable pub row_pages : List ℕ → ℕ → ℕ → ℕ → ℕ → Answer
row_pages l bytes cells items i =
    if_sound l bytes cells items
    (unless (ltb i (machine_from l).counts.memories) (refuse 16 0)
    (unless (record_in_form l (record_length * i)) (refuse 19 0) (accept (pages_of (memory_at (machine_from l) i)))))

-- 22 on a row, as 12
unfoldable pub row_cells : List ℕ → ℕ → ℕ → ℕ → ℕ → Answer
row_cells l bytes cells items i =
    if_sound l bytes cells items
    (unless (ltb i (machine_from l).counts.tables) (refuse 16 0)
    (unless (record_in_form l (tables_at + record_length * i)) (refuse 19 0) (accept (table_at (machine_from l) i).size)))
