-- A session's bytes are the answer lines of the run of what its lines say. Assumes nothing.
use Rattle.std.specs.Prelude.{ℕ, ◌≡◌, true, false, List, [], ◌∷◌, ◌++◌, Option, Some, None}
use Rattle.types.specs.{Names.Answer, Names.refuse, Names.accept, Pick.pick}
use mathlib.Core.Path.{refl, ap}
use Rattle.machine.specs.{Names.Buffers, Names.fresh_machine, Names.step, Names.Machine, Names.Operation, Step.run}
use Rattle.lines.specs.{AnswerLine.answer_line, Code.read_line, declared.code.Read.Read}
use Rattle.lines.specs.Session.{Held, costs_of, turn_by, turn_of, text_of, lines_of, answers_of, session}
use Rattle.claims.specs.Metered.{metering}
use Rattle.claims.specs.Sessions.{replies, answers_in, read_all, operations_in, lined, reply_text, run_text, session_text}
use Rattle.lines.specs.declared.code.Read.TheVariants as read

-- the replies' answers are the run's
pub replies_run : (r : ℕ) (m : Machine) (b : Buffers) (ops : List Operation) → answers_in (replies r m b ops) ≡ (run r m b ops).answers
unfolding replies answers_in run
replies_run r m b [] = refl
replies_run r m b (op ∷ ops) = ap (λ (l : List Answer). (step r m b op).answer ∷ l) (replies_run r (step r m b op).machine (step r m b op).buffers ops)

-- a machine that is past its first line, or not
abbrev at : Machine → Buffers → Held
at m b = record { machine = m; first = false; buffers = b }

abbrev opening : Machine → Buffers → Held
opening m b = record { machine = m; first = true; buffers = b }

-- one line behind the first, by what it says, from what holds of those behind it
one_later : (r : ℕ) (m : Machine) (b : Buffers) (l : List ℕ) (ls : List (List ℕ)) (x : Option Read) → read_line l ≡ x
    → ((n : Machine) (c : Buffers) → answers_of r (at n c) ls ≡ run_text r n c (read_all ls))
    → answers_of r (at m b) (l ∷ ls) ≡ run_text r m b (x ∷ read_all ls)
unfolding answers_of turn_of turn_by text_of run_text operations_in replies lined reply_text pick
one_later r m b l ls (Some (read.Operation op)) e k = rw e (ap (λ (t : List ℕ). answer_line (step r m b op).answer (step r m b op).machine.fuel ++ t) (k (step r m b op).machine (step r m b op).buffers))
one_later r m b l ls (Some (read.Making metering copied)) e k = rw e (ap (λ (t : List ℕ). answer_line (refuse 18 0) m.fuel ++ t) (k m b))
one_later r m b l ls None e k = rw e (ap (λ (t : List ℕ). answer_line (refuse 18 0) m.fuel ++ t) (k m b))

-- the answers to lines behind the first, each by what it says
later : (r : ℕ) (m : Machine) (b : Buffers) (ls : List (List ℕ)) → answers_of r (at m b) ls ≡ run_text r m b (read_all ls)
unfolding answers_of read_all run_text operations_in replies lined reply_text
later r m b [] = refl
later r m b (l ∷ ls) = one_later r m b l ls (read_line l) refl (λ n c. later r n c ls)

-- the answers to all lines, the first among them
from_first : (r : ℕ) (m : Machine) (b : Buffers) (ls : List (List ℕ)) → answers_of r (opening m b) ls ≡ session_text r m b (read_all ls)
unfolding answers_of turn_of turn_by text_of read_all session_text run_text operations_in replies lined reply_text pick
from_first r m b [] = refl
from_first r m b (l ∷ ls) = said (read_line l) refl
  where
    said : (x : Option Read) → read_line l ≡ x → answers_of r (opening m b) (l ∷ ls) ≡ session_text r m b (x ∷ read_all ls)
    said (Some (read.Operation op)) e = rw e (ap (λ (t : List ℕ). answer_line (step r m b op).answer (step r m b op).machine.fuel ++ t) (later r (step r m b op).machine (step r m b op).buffers ls))
    said (Some (read.Making metering copied)) e = rw e (ap (λ (t : List ℕ). answer_line (accept 0) (fresh_machine metering (costs_of copied)).fuel ++ t) (later r (fresh_machine metering (costs_of copied)) b ls))
    said None e = rw e (ap (λ (t : List ℕ). answer_line (refuse 18 0) m.fuel ++ t) (later r m b ls))

-- a whole session
pub session_is_run : (r : ℕ) (m : Machine) (b : Buffers) (l : List ℕ)
    → session r (record { machine = m; first = true; buffers = b }) l ≡ session_text r m b (read_all (lines_of l))
unfolding session
session_is_run r m b l = from_first r m b (lines_of l)
