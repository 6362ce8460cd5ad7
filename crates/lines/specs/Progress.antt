-- Document 01, "Operation lines", a session in pieces: what is given back for one, beside the row and the buffers that are lent.
use Rattle.std.specs.Prelude.{ℕ, ◌/◌, List, ◌++◌, length, drop, Result, Ok, Err}
use Rattle.types.specs.Names.{unless, both, over, raw_bytes, Refusal}
use Rattle.machine.specs.Names.{Buffers, buffers, sound_over}
use Rattle.machine.specs.Words.{row_length, words_of, machine_from, in_form}
use Rattle.lines.specs.{AnswerLine.answer_bytes, Pieces.Run, Pieces.piece_of}
use Rattle.lines.specs.declared.session.{Session.Session, Progress.Progress}

-- how far a run came, where it was one, and what it was lent
pub record Progressed : Type 0 where
  pub progress : Result Progress Refusal
  pub words : List ℕ
  pub buffers : Buffers
  pub out : List ℕ

-- the same, buffer by buffer
abbrev pub progressed : Result Progress Refusal → List ℕ → List ℕ → List ℕ → List ℕ → List ℕ → Progressed
progressed p l bytes cells items out = record { progress = p; words = l; buffers = buffers bytes cells items; out = out }

-- a run from the start of a piece: the machine's words are in front of the row
unfoldable pub progress_of : List ℕ → List ℕ → Run → Progressed
progress_of l out x =
    record {
      progress = Ok (record { session = record { first = x.held.first; skip = x.skip }; used = x.used; wrote = length x.out });
      words = words_of x.held.machine ++ drop row_length l;
      buffers = x.held.buffers;
      out = over out 0 x.out;
    }

-- a piece on the machine of a row: 19, and nothing is used, written or changed, where the row is out of form or unsound, which is tested once; else its lines
unfoldable pub piece_in : Session → List ℕ → Buffers → List ℕ → List ℕ → Progressed
piece_in s l b input out =
    unless (both (in_form l) (sound_over (machine_from l) b))
    (record { progress = Err (record { number = 19; amount = 0 }); words = l; buffers = b; out = out })
    (progress_of l out
    (piece_of (length out / answer_bytes) s.skip raw_bytes (record { machine = machine_from l; first = s.first; buffers = b }) input))
