-- What the project promises, over any machine, any buffers and any operations, down to the bytes of a session. `claims` in proofs/Claims.antt is its one value.
use Rattle.std.specs.Prelude.{ℕ, suc, ◌+◌, ◌≤◌, ◌<◌, ◌≡◌, Bool, true, false, List, [], length, Some}
use contract.Lifetimes.{Lfts}
use borrow.Fn.Kinds.{Dens, res_t, ended_of}
use denote.Triple.Clauses.{AtExit}
use Rattle.types.specs.{Names.word64, Names.over, Names.raw_bytes, Names.FuelCosts, Names.CopySpan, Steps.copy_steps}
use Rattle.machine.specs.Names.{Buffers, buffers, table_at, fresh_machine, sound_references, sound_over, stepped, step, run, OthersStay, OnlySizes}
use Rattle.machine.specs.Names.{Machine, Operation, MemoryOp, TableOp}
use Rattle.machine.specs.{Words.words_of, Words.machine_from, Words.in_form, Row.in_row, Row.operate_row, Row.row_pages, Row.row_cells}
use Rattle.machine.proofs.row.operate.Reads as row_reads
use Rattle.machine.proofs.row.operate.Kinds as row_kinds
use Rattle.lines.proofs.session.piece.Reads as piece_reads
use Rattle.lines.proofs.session.piece.Kinds as piece_kinds
use Rattle.lines.specs.Progress.{progressed, piece_in}
use Rattle.lines.specs.{Code.read_line, Writing.write_line, Sayable.Sayable, Pieces.lf_at, Pieces.Feed, Pieces.fed_all, Pieces.whole, Input.finished, declared.code.Read.Read}
use Rattle.lines.specs.Session.{Held, costs_of, lines_of, session}
use Rattle.lines.proofs.Pieces.{started}
use Rattle.lent.proofs.operate.operate_kept.Reads as Lent_reads
use Rattle.lent.proofs.operate.operate_kept.Kinds as lent_kinds
use Rattle.claims.specs.{Answers.accepted, Answers.value_or_listed, Answers.never, Metered.Leaves, Metered.metering, Occasions.accepted_when}
use Rattle.claims.specs.{Effects.effects, Effects.accepted_step, Spans.span_bytes, Spans.WritesSpan, Script.script_after, Bound.wrote, Bound.totals}
use Rattle.claims.specs.{Bound.most_r, Bound.most_bytes, Bound.fullest_run, Bound.zeros, Ledger.blank, Ledger.limiter_says, Ledger.book, Alike.Watched}
use Rattle.claims.specs.{Alike.names_only, Alike.all_name_only, Alike.Agree, Alike.SameStep, Alike.SameRun, Sessions.read_all, Sessions.replies}
use Rattle.claims.specs.{Sessions.answers_in, Sessions.session_text, Cases.all_hold, Cases.cases}

-- R, the bytes that a reference counts, is a number of its own in every claim; the machine's is 4
pub record Claims : Type 0 where
  -- 1. Every operation on every machine ends in a value or in a refusal of document 01's list; amounts other than for 7 are 0.
  pub answer_or_refusal : (r : ℕ) (m : Machine) (b : Buffers) (op : Operation) → value_or_listed (step r m b op).answer ≡ true
  -- 2. A refusal changes no cell, size, segment, room or instance number, and takes fuel only at 8, or at 4 in the notice after 8: the price.
  pub refusal_leaves : (r : ℕ) (m : Machine) (b : Buffers) (op : Operation) → accepted (step r m b op).answer ≡ false
      → Leaves r m b op (step r m b op)
  -- Accepted or refused, an operation moves the limiter script on by each question and notice; an accepted 04 replaces it, a refused one leaves it.
  pub script_moves : (r : ℕ) (m : Machine) (b : Buffers) (op : Operation) → (step r m b op).machine.limiter ≡ script_after r m b op
  -- 3. An operation is accepted exactly on its occasion, and then answers, changes, takes and writes what document 01 says.
  pub accepted_when_lem : (r : ℕ) (m : Machine) (b : Buffers) (op : Operation) → accepted (step r m b op).answer ≡ accepted_when r m b op
  pub accepted_does : (r : ℕ) (m : Machine) (b : Buffers) (op : Operation) → accepted (step r m b op).answer ≡ true
      → step r m b op ≡ accepted_step r m b op
  -- An accepted table copy, of one table or of two, leaves the cells that the standard's steps leave, whatever the overlap.
  pub copy_steps_lem : (r : ℕ) (m : Machine) (b : Buffers) (into source : ℕ) (s : CopySpan) → accepted (step r m b (Operation.TableCopy into source s)).answer ≡ true
      → (step r m b (Operation.TableCopy into source s)).buffers.cells
      ≡ copy_steps s.len b.cells (table_at m into).start s.to (table_at m source).start s.from
  -- 4. Metering on, B at least 1, R at most 16: the bytes written are at most B·F + (B-1)·K.
  pub byte_bound : (r : ℕ) (costs : FuelCosts) (b : Buffers) (ops : List Operation) → r ≤ most_r → 1 ≤ costs.copied
      → (totals r (fresh_machine true costs) b ops).bytes
      ≤ most_bytes costs.copied (totals r (fresh_machine true costs) b ops).units (totals r (fresh_machine true costs) b ops).passed
  -- No smaller number would do: for each B, F and K a run writes so many bytes, as far as a memory can hold them.
  pub bound_reached : (r b f k : ℕ) → 1 ≤ b → 1 ≤ k → most_bytes b f k < word64
      → totals r (fresh_machine true (costs_of b)) (zeros (most_bytes b f k)) (fullest_run b f k)
      ≡ record { bytes = most_bytes b f k; units = f; passed = k }
  -- What is counted is what is written: an accepted operation writes one span of one buffer, inside it, and every other cell is as it was;
  pub span_alone : (r : ℕ) (m : Machine) (b : Buffers) (op : Operation) → accepted (step r m b op).answer ≡ true
      → WritesSpan (effects r m b op).span b (step r m b op).buffers
  -- where it meets the fuel step, what the bound counts is exactly the bytes of that span;
  pub span_counted : (r : ℕ) (m : Machine) (b : Buffers) (op : Operation) → accepted (step r m b op).answer ≡ true → (metering r m op).meets ≡ true
      → wrote r m b op ≡ span_bytes r (effects r m b op).span
  -- a refused one writes nothing and counts 0.
  pub refused_writes_none : (r : ℕ) (m : Machine) (b : Buffers) (op : Operation) → accepted (step r m b op).answer ≡ false
      → ((step r m b op).buffers ≡ b) × (wrote r m b op ≡ 0)
  -- 5. At each moment the fuel left and the charges since make up the amount last set, or 0.
  pub ledger : (r : ℕ) (costs : FuelCosts) (b : Buffers) (ops : List Operation)
      → let m = fresh_machine true costs in
      let k = book r costs.copied blank ops (run r m b ops).answers (limiter_says r m b ops) in
      (run r m b ops).machine.fuel.remaining + k.since ≡ k.set
  -- 6. An operation changes cells and size of one instance at most.
  pub others_stay : (r : ℕ) (m : Machine) (b : Buffers) (op : Operation) → sound_over m b ≡ true → OthersStay m b op (step r m b op)
  pub only_sizes : (r : ℕ) (m : Machine) (b : Buffers) (op : Operation) → sound_over m b ≡ true → OnlySizes m (step r m b op)
  -- Machines that agree on fuel, script, room left, numbers, segments and watched instances answer alike what names no other, and agree again.
  pub alike : (r : ℕ) (w : Watched) (m : Machine) (b : Buffers) (m' : Machine) (b' : Buffers) (op : Operation)
      → sound_over m b ≡ true → sound_over m' b' ≡ true → Agree w m b m' b' → names_only w op ≡ true
      → SameStep w (step r m b op) (step r m' b' op)
  -- So every later answer is the same, to the end of any list of operations that name watched instances only.
  pub alike_run : (r : ℕ) (w : Watched) (m : Machine) (b : Buffers) (m' : Machine) (b' : Buffers) (ops : List Operation)
      → sound_over m b ≡ true → sound_over m' b' ≡ true → Agree w m b m' b' → all_name_only w ops ≡ true
      → SameRun w (run r m b ops) (run r m' b' ops)
  -- 7. A fresh machine is sound and stays so, and no operation of a run from it answers 19.
  pub fresh_sound : (metering : Bool) (costs : FuelCosts) (b : Buffers) → sound_references (length b.cells) (length b.items) ≡ true
      → sound_over (fresh_machine metering costs) b ≡ true
  pub stays_sound : (r : ℕ) (m : Machine) (b : Buffers) (op : Operation) → sound_over m b ≡ true
      → sound_over (step r m b op).machine (step r m b op).buffers ≡ true
  pub never_unsound : (r : ℕ) (metering : Bool) (costs : FuelCosts) (b : Buffers) (ops : List Operation)
      → sound_references (length b.cells) (length b.items) ≡ true
      → never 19 (run r (fresh_machine metering costs) b ops).answers ≡ true
  -- 8. What `row::operate` gives back under its contract: 18, 19 for a row out of form, else `step` on the machine that the row says: answer, buffers, and
  -- that machine's words in the row.
  pub row_is_step : (κs : Lfts 4) (a : Dens κs row_kinds.ps) (x : (res_t row_kinds.r κs).Denot) (s : AtExit (ended_of 4 row_kinds.ps row_kinds.r) κs)
      → row_reads.Post κs a x s
      → in_row x s.0.now s.1.0.now s.1.1.0.now s.1.1.1.0.now
      ≡ operate_row raw_bytes a.0.now (buffers a.1.0.now a.1.1.0.now a.1.1.1.0.now) a.1.1.1.1.0
  -- A row in form holds exactly the words of the machine that it says.
  pub form_holds : (l : List ℕ) → in_form l ≡ true → over l 0 (words_of (machine_from l)) ≡ l
  -- A row in form is in form after every operation, whatever the operation and its answer.
  pub stays_in_form : (r : ℕ) (l : List ℕ) (b : Buffers) (op : Operation) → in_form l ≡ true → in_form (operate_row r l b op).words ≡ true
  -- On a row in form the two sizes are what 12 and 22 answer, refusals too.
  pub pages_as_12 : (r : ℕ) (l : List ℕ) (b : Buffers) (i : ℕ) → in_form l ≡ true
      → row_pages l (length b.bytes) (length b.cells) (length b.items) i ≡ (step r (machine_from l) b (Operation.Memory i MemoryOp.Size)).answer
  pub cells_as_22 : (r : ℕ) (l : List ℕ) (b : Buffers) (i : ℕ) → in_form l ≡ true
      → row_cells l (length b.bytes) (length b.cells) (length b.items) i ≡ (step r (machine_from l) b (Operation.Table i TableOp.Size)).answer
  -- `operate_kept`, which runs an operation through records in lent lists and lent fuel, gives back and leaves what `step` does.
  pub lent_is_step : (κs : Lfts 3) (a : Dens κs lent_kinds.ps) (x : (res_t lent_kinds.r κs).Denot) (s : AtExit (ended_of 3 lent_kinds.ps lent_kinds.r) κs)
      → Lent_reads.Post κs a x s
      → stepped x.answer x.machine s.1.0.now s.1.1.0.now s.1.1.1.0.now
      ≡ step raw_bytes a.0 (buffers a.1.0.now a.1.1.0.now a.1.1.1.0.now) a.1.1.1.1.0
  -- 9. A session's output is the answer lines of a run of the operations that its lines say, from the machine of its first line.
  pub session_is_run : (r : ℕ) (m : Machine) (b : Buffers) (l : List ℕ)
      → session r (record { machine = m; first = true; buffers = b }) l ≡ session_text r m b (read_all (lines_of l))
  pub replies_run : (r : ℕ) (m : Machine) (b : Buffers) (ops : List Operation) → answers_in (replies r m b ops) ≡ (run r m b ops).answers
  -- What `piece` gives back, and leaves in the row, the buffers and the output: 19 for a row out of form or unsound, else the piece's lines.
  pub piece_is_session : (κs : Lfts 6) (a : Dens κs piece_kinds.ps) (x : (res_t piece_kinds.r κs).Denot) (s : AtExit (ended_of 6 piece_kinds.ps piece_kinds.r) κs)
      → piece_reads.Post κs a x s
      → progressed x s.1.0.now s.1.1.0.now s.1.1.1.0.now s.1.1.1.1.0.now s.1.1.1.1.1.1.0.now
      ≡ piece_in a.0 a.1.0.now (buffers a.1.1.0.now a.1.1.1.0.now a.1.1.1.1.0.now) a.1.1.1.1.1.0.now a.1.1.1.1.1.1.0.now
  -- However the input is cut, the bytes sent are the session's.
  pub any_cut : (r : ℕ) (h : Held) (xs : List Feed) → (fed_all r (started h) xs).skip ≡ false → (fed_all r (started h) xs).tail ≡ []
      → (fed_all r (started h) xs).sent ≡ session r h (whole xs)
  -- At the end of the input a last line gets the LF that it may lack, and the bytes sent are then the session's of all that came in.
  pub finished_whole : (r k : ℕ) (h : Held) (xs : List Feed) → lf_at (fed_all r (started h) xs).tail ≡ length (fed_all r (started h) xs).tail
      → (finished r (suc k) (fed_all r (started h) xs)).sent ≡ session r h (whole xs)
  -- An operation line is read as it is written, and in no other way.
  pub read_write : (op : Operation) → Sayable op → read_line (write_line op) ≡ Some (Read.Operation op)
  pub read_unique : (l : List ℕ) (op : Operation) → read_line l ≡ Some (Read.Operation op) → l ≡ write_line op
  -- The worked cases P1 to P11 of document 01, computed.
  pub worked_cases : all_hold cases ≡ true
