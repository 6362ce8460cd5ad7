-- For the code alone: what the functions of a session give back, beside the row and the buffers that they are lent.
use Rattle.std.specs.Prelude.{ℕ, ◌+◌, ◌-◌, ◌/◌, ◌≤◌, ◌≡◌, Bool, true, List, ◌++◌, ltb, leb, length, drop, Option}
use Rattle.types.specs.Names.{pick, over, raw_bytes, Answer}
use Rattle.machine.specs.Names.{Buffers, buffers, sound_over, Machine}
use Rattle.machine.specs.{Words.row_length, Words.words_of, Words.machine_from, stages.Rows.Holds}
use Rattle.lines.specs.Session.{Held, turned, turn_by}
use Rattle.lines.specs.Pieces.{lf_at, Run, whole_lines}
use Rattle.lines.specs.{Line.longest, AnswerLine.answer_bytes, declared.code.Read.Read}
use Rattle.lines.specs.declared.session.{Session.Session, Progress.Progress}

-- how far a run came, and what it was lent
pub record Ran : Type 0 where
  pub progress : Progress
  pub words : List ℕ
  pub buffers : Buffers
  pub out : List ℕ

-- the same, buffer by buffer
abbrev pub ran : Progress → List ℕ → List ℕ → List ℕ → List ℕ → List ℕ → Ran
ran p l bytes cells items out = record { progress = p; words = l; buffers = buffers bytes cells items; out = out }

-- a machine, and whether the next line is the first, on three buffers
abbrev pub held_on : Machine → Bool → List ℕ → List ℕ → List ℕ → Held
held_on m first bytes cells items = record { machine = m; first = first; buffers = buffers bytes cells items }

-- a row with a machine's words in front
abbrev pub row_with : List ℕ → Machine → List ℕ
row_with l m = words_of m ++ drop row_length l

-- whether the next line is the first, and whether the input is inside a line that is too long, as a session
abbrev pub session_as : Held → Bool → Session
session_as h skip = record { first = h.first; skip = skip }

-- what is tested once a piece and carried from line to line: the row is long enough and holds its machine's words, and that machine is sound
pub record Ready (l : List ℕ) (b : Buffers) : Type 0 where
  pub long : row_length ≤ length l
  pub holds : Holds l
  pub sound : sound_over (machine_from l) b ≡ true

-- what a row and buffers are held as
abbrev pub held_in : Bool → List ℕ → Buffers → Held
held_in first l b = record { machine = machine_from l; first = first; buffers = b }

-- what a line gave, on a row that is ready before it and after it
pub record Turned (first : Bool) (l : List ℕ) (b : Buffers) (said : Option Read) (a : Answer) (after : List ℕ) (c : Buffers) : Type 0 where
  pub is : turned a (machine_from after) c ≡ turn_by raw_bytes (held_in first l b) said
  pub ready : Ready after c
  pub behind : drop row_length after ≡ drop row_length l

-- a run, where so many bytes were used and so many written before it
unfoldable pub end_of : List ℕ → ℕ → ℕ → List ℕ → Run → Ran
end_of l from put out x =
    record {
      progress = record { session = session_as x.held x.skip; used = from + x.used; wrote = put + length x.out };
      words = row_with l x.held.machine;
      buffers = x.held.buffers;
      out = over out put x.out;
    }

-- a run from the start of a piece: the machine's words are in front of the row
unfoldable pub run_of : List ℕ → List ℕ → Run → Ran
run_of l out x =
    record {
      progress = record { session = session_as x.held x.skip; used = x.used; wrote = length x.out };
      words = row_with l x.held.machine;
      buffers = x.held.buffers;
      out = over out 0 x.out;
    }

-- what a run over the whole lines from a place on gives
pub record WholeRan (p : Ran) (l : List ℕ) (from put : ℕ) (h : Held) (out input : List ℕ) : Type 0 where
  pub is : p ≡ end_of l from put out (whole_lines ((length out - put) / answer_bytes) raw_bytes h (drop from input))
  pub used : p.progress.used ≤ length input

-- a session that goes on inside a line that is too long
abbrev pub skipping : Session → Session
skipping s = record { first = s.first; skip = true }

-- the end of a run: what it left, if that is a line that is too long already, is passed over
unfoldable pub closed_of : List ℕ → Progress → Progress
closed_of l p =
    pick (ltb (p.used + lf_at (drop p.used l)) (length l)) p
    (pick (leb (length l - p.used) longest) p (record { session = skipping p.session; used = length l; wrote = p.wrote }))
