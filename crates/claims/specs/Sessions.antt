-- Document 01, "Operation lines": the bytes of a session, said by the operations that its lines say and by what a run of them answers.
use Rattle.std.specs.Prelude.{ℕ, List, [], ◌∷◌, ◌++◌, Option, Some, None}
use Rattle.types.specs.Names.{refuse, accept, Answer, Fuel}
use Rattle.machine.specs.Names.{Buffers, fresh_machine, step, Machine, Operation}
use Rattle.lines.specs.{AnswerLine.answer_line, Code.read_line, Session.costs_of, declared.code.Read.Read}

-- an answer, and the fuel after it
pub record Reply : Type 0 where
  pub answer : Answer
  pub fuel : Fuel

-- the replies to operations one after another
unfoldable pub replies : ℕ → Machine → Buffers → List Operation → List Reply
replies r m b [] = []
replies r m b (op ∷ ops) =
    let s = step r m b op in
    record { answer = s.answer; fuel = s.machine.fuel } ∷ replies r s.machine s.buffers ops

-- their answers
unfoldable pub answers_in : List Reply → List Answer
answers_in [] = []
answers_in (x ∷ xs) = x.answer ∷ answers_in xs

-- what each line says
unfoldable pub read_all : List (List ℕ) → List (Option Read)
read_all [] = []
read_all (l ∷ ls) = read_line l ∷ read_all ls

-- the operations among what lines say
unfoldable pub operations_in : List (Option Read) → List Operation
operations_in [] = []
operations_in (Some (Read.Operation op) ∷ xs) = op ∷ operations_in xs
operations_in (Some (Read.Making metering copied) ∷ xs) = operations_in xs
operations_in (None ∷ xs) = operations_in xs

-- a reply a line: the operation's own, else 18 with the fuel as it was
unfoldable pub lined : Fuel → List (Option Read) → List Reply → List Reply
lined f [] rs = []
lined f (Some (Read.Operation op) ∷ xs) [] = []
lined f (Some (Read.Operation op) ∷ xs) (x ∷ rs) = x ∷ lined x.fuel xs rs
lined f (Some (Read.Making metering copied) ∷ xs) rs = record { answer = refuse 18 0; fuel = f } ∷ lined f xs rs
lined f (None ∷ xs) rs = record { answer = refuse 18 0; fuel = f } ∷ lined f xs rs

-- the answer lines of replies
unfoldable pub reply_text : List Reply → List ℕ
reply_text [] = []
reply_text (x ∷ xs) = answer_line x.answer x.fuel ++ reply_text xs

-- the answer lines of a run, 18 where a line says no operation
unfoldable pub run_text : ℕ → Machine → Buffers → List (Option Read) → List ℕ
run_text r m b xs = reply_text (lined m.fuel xs (replies r m b (operations_in xs)))

-- a session's: the first line alone can make the machine anew
unfoldable pub session_text : ℕ → Machine → Buffers → List (Option Read) → List ℕ
session_text r m b [] = []
session_text r m b (Some (Read.Operation op) ∷ xs) = run_text r m b (Some (Read.Operation op) ∷ xs)
session_text r m b (Some (Read.Making metering copied) ∷ xs) =
    answer_line (accept 0) (fresh_machine metering (costs_of copied)).fuel ++ run_text r (fresh_machine metering (costs_of copied)) b xs
session_text r m b (None ∷ xs) = run_text r m b (None ∷ xs)
