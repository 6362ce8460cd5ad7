-- What is left of lines that are read, answered and run for the benches.
use Rattle.std.specs.Prelude.{ℕ, ◌≡◌, true, false, List, replicate, Option, Some, None, Result, Ok, Err}
use Rattle.types.specs.Fuel.{default_costs}
use Rattle.machine.specs.Names.{Buffers, buffers}
use Rattle.machine.specs.Words.{row_length}
use Rattle.machine.specs.Row.{fresh_row}
use Rattle.lines.specs.{Progress.Progressed, Progress.piece_in, declared.session.Progress.Progress}
use Rattle.types.specs.Names.{refuse, accept, Answer, Refusal}
use Rattle.lines.specs.declared.code.Read.{Read}
use Rattle.lines.specs.declared.code.Read.TheVariants as read

-- whether a line is an operation's
unfoldable pub echo_of : Option Read → Answer
echo_of (Some (read.Operation op)) = accept 0
echo_of (Some (read.Making metering copied)) = refuse 18 0
echo_of None = refuse 18 0

-- a session's first piece on a fresh machine
unfoldable pub session_on : Buffers → List ℕ → List ℕ → Progressed
session_on b input out =
    piece_in (record { first = true; skip = false }) (fresh_row (replicate row_length 0) true default_costs).words b input out

-- how many bytes a session wrote, none where it could not begin
unfoldable pub written_by : Result Progress Refusal → ℕ
written_by (Ok p) = p.wrote
written_by (Err e) = 0

-- of a session: how many bytes it wrote, its buffers and its output
pub record Sent (z : Progressed) (result : ℕ) (bytes cells items out : List ℕ) : Type 0 where
  pub number : result ≡ written_by z.progress
  pub left : z.buffers ≡ buffers bytes cells items
  pub text : z.out ≡ out
