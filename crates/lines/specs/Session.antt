-- Document 01, "Operation lines": a session, from the bytes that go in to the bytes that come out.
use Rattle.std.specs.Prelude.{ℕ, Bool, false, List, [], ◌∷◌, ◌++◌, eqb, Option, Some, None}
use Rattle.types.specs.Names.{pick, refuse, accept, default_costs, Answer, FuelCosts}
use Rattle.machine.specs.Names.{Buffers, fresh_machine, step, Machine}
use Rattle.lines.specs.{Line.lf, Code.read_line, AnswerLine.answer_line, declared.code.Read.Read}
use Rattle.lines.specs.declared.code.Read.TheVariants as read

-- a machine on its buffers, and whether the next line is the first
pub record Held : Type 0 where
  pub machine : Machine
  pub first : Bool
  pub buffers : Buffers

-- what a line gives: its answer, and what is held after it
pub record Turn : Type 0 where
  pub answer : Answer
  pub held : Held

-- an answer, and machine and buffers after it; the next line is not the first
abbrev pub turned : Answer → Machine → Buffers → Turn
turned a m b = record { answer = a; held = record { machine = m; first = false; buffers = b } }

-- 18, and nothing changes
abbrev pub malformed : Held → Turn
malformed h = turned (refuse 18 0) h.machine h.buffers

-- the costs of a machine that 00 makes: B, the others as by default
abbrev pub costs_of : ℕ → FuelCosts
costs_of copied = record { copied = copied; translated = default_costs.translated; validated = default_costs.validated }

-- a line is one operation on the machine; the first line alone can make it anew, by 00, and leaves the buffers; anything else is 18
unfoldable pub turn_by : ℕ → Held → Option Read → Turn
turn_by r h (Some (read.Operation op)) = let s = step r h.machine h.buffers op in turned s.answer s.machine s.buffers
turn_by r h (Some (read.Making metering copied)) = pick h.first (turned (accept 0) (fresh_machine metering (costs_of copied)) h.buffers) (malformed h)
turn_by r h None = malformed h

-- what a line of text gives
unfoldable pub turn_of : ℕ → Held → List ℕ → Turn
turn_of r h l = turn_by r h (read_line l)

-- the answer line of a turn
unfoldable pub text_of : Turn → List ℕ
text_of t = answer_line t.answer t.held.machine.fuel

-- a byte before the lines that follow it
unfoldable pub onto : ℕ → List (List ℕ) → List (List ℕ)
onto b [] = (b ∷ []) ∷ []
onto b (x ∷ xs) = (b ∷ x) ∷ xs

-- the lines of a text: LF ends one, and the last may lack it
unfoldable pub lines_of : List ℕ → List (List ℕ)
lines_of [] = []
lines_of (b ∷ l) = pick (eqb b lf) ([] ∷ lines_of l) (onto b (lines_of l))

-- one answer a line
unfoldable pub answers_of : ℕ → Held → List (List ℕ) → List ℕ
answers_of r h [] = []
answers_of r h (x ∷ xs) = text_of (turn_of r h x) ++ answers_of r (turn_of r h x).held xs

-- a session: the answers to the lines of a text
unfoldable pub session : ℕ → Held → List ℕ → List ℕ
session r h l = answers_of r h (lines_of l)
