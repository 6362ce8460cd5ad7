-- Document 01, "Operation lines", for C: one operation on a machine in a row of words, by its code and fields. A fresh row and the sizes are the machine's own.
use Rattle.std.specs.Prelude.{ℕ, List, eqb, leb, length, replicate, Option, Some, None}
use Rattle.types.specs.Names.{pick, over, number_of, shown_of, raw_bytes}
use Rattle.machine.specs.{Machine.Buffers, Row.InRow, Row.row_keeps, Row.operate_row, Row.fuel_of}
use Rattle.lines.specs.{Line.most_fields, Code.operation_of, AnswerLine.fuel_shown, declared.line.Line.Line, declared.code.Read.Read}

-- a code and its fields as a line's numbers
abbrev pub good_line : ℕ → ℕ → List ℕ → Line
good_line code count list = record { code = code; count = count; list = list }

-- with too many fields it is none
unfoldable pub line_from : ℕ → List ℕ → Option Line
line_from code fields = pick (leb (length fields) most_fields) (Some (good_line code (length fields) (over (replicate most_fields 0) 0 fields))) None

-- the answer: an operation's own; what is no operation, the making of a machine too, is 18, and nothing changes
unfoldable pub answered : Option Read → List ℕ → Buffers → InRow
answered (Some (Read.Operation op)) l b = operate_row raw_bytes l b op
answered (Some (Read.Making metering copied)) l b = row_keeps l b 18
answered None l b = row_keeps l b 18

-- what a call leaves: the number, both out parameters, the row and the buffers
pub record Call : Type 0 where
  pub number : ℕ
  pub value : ℕ
  pub fuel : ℕ
  pub words : List ℕ
  pub buffers : Buffers

-- all five
abbrev pub call : ℕ → ℕ → ℕ → List ℕ → Buffers → Call
call number value fuel words b = record { number = number; value = value; fuel = fuel; words = words; buffers = b }

-- the three columns of an answer line; 19 leaves both out parameters as they were
unfoldable pub told : ℕ → ℕ → InRow → Call
told value fuel x =
    pick (eqb (number_of x.answer) 19) (call 19 value fuel x.words x.buffers)
    (call (number_of x.answer) (shown_of x.answer) (fuel_shown (fuel_of x.words)) x.words x.buffers)

-- one operation
unfoldable pub operate_of : List ℕ → Buffers → Option Line → ℕ → ℕ → Call
operate_of l b w value fuel = told value fuel (answered (operation_of w) l b)
