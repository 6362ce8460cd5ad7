-- One operation again and again on a machine in place, for the benches.
use Rattle.std.specs.Prelude.{ℕ, zero, suc, ◌≡◌, Bool, List, Option, Some, None}
use Rattle.types.specs.Names.{pick, raw_bytes}
use Rattle.machine.specs.Names.{Buffers, buffers, Operation}
use Rattle.machine.specs.Row.{InRow, operate_row, fuel_of}
use Rattle.machine.specs.stages.Rows.{proceed_row}
use Rattle.lines.specs.declared.code.Read.{Read}
use Rattle.lines.specs.declared.code.Read.TheVariants as read

-- a row and its buffers
pub record Rowing : Type 0 where
  pub words : List ℕ
  pub buffers : Buffers

-- the four of them
abbrev pub rowing : List ℕ → List ℕ → List ℕ → List ℕ → Rowing
rowing l bytes cells items = record { words = l; buffers = buffers bytes cells items }

-- what an operation leaves of them
abbrev pub rest : InRow → Rowing
rest x = record { words = x.words; buffers = x.buffers }

-- an operation n times, with every test or without those of the row's form and soundness
unfoldable pub again : Bool → ℕ → Rowing → Operation → Rowing
again tested zero h op = h
again tested (suc n) h op =
    again tested n (rest (pick tested (operate_row raw_bytes h.words h.buffers op) (proceed_row raw_bytes h.words h.buffers op))) op

-- a malformed line is no operation
unfoldable pub timed_in : Bool → ℕ → Rowing → Option Read → Rowing
timed_in tested n h (Some (read.Operation op)) = again tested n h op
timed_in tested n h (Some (read.Making metering copied)) = h
timed_in tested n h None = h

-- the fuel left, the row and the buffers
pub record Rounded (h : Rowing) (result : ℕ) (words bytes cells items : List ℕ) : Type 0 where
  pub fuel : result ≡ (fuel_of h.words).remaining
  pub left : h ≡ rowing words bytes cells items
