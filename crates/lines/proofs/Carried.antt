-- What a session carries from line to line: a row that is ready stays so, and what stands behind its machine's words stays. Assumes nothing.
use Rattle.types.proofs.Prelude.{ℕ, ◌+◌, ◌≤◌, ◌<◌, ◌≡◌, sym, ap, subst, ◌∙◌, Bool, true, false, List, ◌++◌, arith, length, drop, le-leb, pick_true}
use Rattle.types.proofs.Spans.{length_over, over_after}
use Rattle.types.specs.{Span.over, Raw.raw_bytes, Names.Fuel, Names.FuelCosts, Names.Answer}
use Rattle.machine.specs.Names.{Buffers, buffers, fresh_machine, sound_over, step, Machine, Operation}
use Rattle.machine.specs.{Words.row_length, Words.words_of, Words.machine_from, Words.in_form, Row.Rowed, Row.rowed, Row.fresh_row, Row.InRow, Row.fuel_of}
use Rattle.machine.specs.stages.Rows.{Shaped, Steps, Proceeds}
use Rattle.machine.proofs.{Rows.over_all, Places.over_in, Back.words_length, Back.row_back, Back.shaped_from, Back.fresh_shaped}
use Rattle.machine.proofs.{Formed.form_long, Formed.form_holds, Kept.step_sound, Kept.fresh_sound, Rooms.parts}
use Rattle.lines.specs.{AnswerLine.answer_line, stages.Runs.ran, stages.Runs.held_on, stages.Runs.row_with, stages.Runs.Ready, declared.session.Progress.Progress}
use Rattle.lines.proofs.Runs.{reached}

-- a row that a machine's words were put to: as long, ready, and the same behind them
module _ (l : List ℕ) (m : Machine) (n : row_length ≤ length l) (h : Shaped m) where
  put_long : length (over l 0 (words_of m)) ≡ length l
  put_long = length_over l 0 (words_of m) (omega (arith, n, words_length m h))

  pub put_behind : drop row_length (over l 0 (words_of m)) ≡ drop row_length l
  put_behind = over_after l 0 (words_of m) row_length (omega (arith, n, words_length m h)) (omega (arith, words_length m h))

  put_again : over (over l 0 (words_of m)) 0 (words_of m) ≡ over l 0 (words_of m)
  put_again =
      over_in l (words_of m) 0 (words_of m) (omega arith)
      ∙ ap (over l 0) (over_all (words_of m) (words_of m) row_length (words_length m h) (words_length m h))

  pub put_ready : (b : Buffers) → sound_over m b ≡ true → Ready (over l 0 (words_of m)) b
  put_ready b e =
      let back = row_back m l h in
      record {
        long = omega (arith, n, put_long);
        holds = sym (ap (λ (k : Machine). over (over l 0 (words_of m)) 0 (words_of k)) back ∙ put_again);
        sound = ap (λ (k : Machine). sound_over k b) back ∙ e;
      }

-- a row that is tested is ready
pub form_ready : (l : List ℕ) (b : Buffers) → in_form l ≡ true → sound_over (machine_from l) b ≡ true → Ready l b
form_ready l b f e = record { long = form_long l f; holds = form_holds l f; sound = e }

-- a ready row is its machine's words and what stands behind them
pub ready_row : (l l₀ : List ℕ) (b : Buffers) → Ready l b → drop row_length l ≡ drop row_length l₀ → l ≡ row_with l₀ (machine_from l)
unfolding over
ready_row l l₀ b r e =
    let n : 0 + length (words_of (machine_from l)) ≡ row_length = omega (arith, words_length (machine_from l) (shaped_from l)) in
    r.holds ∙ ap (λ (k : ℕ). words_of (machine_from l) ++ drop k l) n ∙ ap (λ (z : List ℕ). words_of (machine_from l) ++ z) e

pub ready_fuel : (l : List ℕ) (b : Buffers) → Ready l b → fuel_of l ≡ (machine_from l).fuel
unfolding fuel_of
ready_fuel l b r = pick_true _ _ _ (le-leb row_length (length l) r.long)

-- after an operation
module _ (l : List ℕ) (b : Buffers) (op : Operation) {x : InRow} (r : Ready l b) (p : Proceeds l b op x) where
  steps : Steps l x (step raw_bytes (machine_from l) b op)
  steps = p.steps r.long r.holds r.sound

  shaped : Shaped (step raw_bytes (machine_from l) b op).machine
  shaped = subst Shaped steps.says (shaped_from x.words)

  pub proceed_ready : Ready x.words x.buffers
  proceed_ready =
      let s = step raw_bytes (machine_from l) b op in
      subst (λ (z : InRow). Ready z.words z.buffers) (sym steps.row)
      (put_ready l s.machine r.long shaped s.buffers (step_sound raw_bytes (machine_from l) b op r.sound))

  pub proceed_behind : drop row_length x.words ≡ drop row_length l
  proceed_behind =
      ap (λ (z : InRow). drop row_length z.words) steps.row ∙ put_behind l (step raw_bytes (machine_from l) b op).machine r.long shaped

  pub proceed_step : record { answer = x.answer; machine = machine_from x.words; buffers = x.buffers } ≡ step raw_bytes (machine_from l) b op
  proceed_step =
      let s = step raw_bytes (machine_from l) b op in
      ap (λ (k : Machine). record { answer = x.answer; machine = k; buffers = x.buffers }) steps.says
      ∙ ap (λ (z : InRow). record { answer = z.answer; machine = s.machine; buffers = z.buffers }) steps.row

-- after a machine was made anew
module _ (l : List ℕ) (b : Buffers) (metering : Bool) (costs : FuelCosts) (r : Ready l b)
    (p : costs.copied < 4294967296) (q : costs.translated < 4294967296) (v : costs.validated < 4294967296) where
  fresh : Shaped (fresh_machine metering costs)
  fresh = fresh_shaped metering costs p q v

  made : {n : ℕ} {after : List ℕ} → rowed n after ≡ fresh_row l metering costs → after ≡ over l 0 (words_of (fresh_machine metering costs))
  unfolding fresh_row
  made e = ap (λ (z : Rowed). z.words) (e ∙ pick_true _ _ _ (le-leb row_length (length l) r.long))

  pub fresh_ready : {n : ℕ} {after : List ℕ} → rowed n after ≡ fresh_row l metering costs → Ready after b
  fresh_ready e =
      subst (λ (z : List ℕ). Ready z b) (sym (made e))
      (put_ready l (fresh_machine metering costs) r.long fresh b
      (fresh_sound metering costs b (parts (machine_from l) (length b.bytes) (length b.cells) (length b.items) r.sound).references))

  pub fresh_behind : {n : ℕ} {after : List ℕ} → rowed n after ≡ fresh_row l metering costs → drop row_length after ≡ drop row_length l
  fresh_behind e = ap (drop row_length) (made e) ∙ put_behind l (fresh_machine metering costs) r.long fresh

  pub fresh_says : {n : ℕ} {after : List ℕ} → rowed n after ≡ fresh_row l metering costs → machine_from after ≡ fresh_machine metering costs
  fresh_says e = ap machine_from (made e) ∙ row_back (fresh_machine metering costs) l fresh

-- a run that stops on a row that is ready
pub reached_row : (s l bytes cells items out : List ℕ) (first : Bool) (used wrote : ℕ) {p : Progress} → Ready l (buffers bytes cells items) → drop row_length l ≡ drop row_length s
    → p ≡ record { session = record { first = first; skip = false }; used = used; wrote = wrote }
    → ran p l bytes cells items out ≡ reached s used wrote out (held_on (machine_from l) first bytes cells items)
reached_row s l bytes cells items out first used wrote r e q =
    ap (λ (p : Progress). ran p l bytes cells items out) q
    ∙ ap (λ (v : List ℕ). ran (record { session = record { first = first; skip = false }; used = used; wrote = wrote }) v bytes cells items out)
    (ready_row l s (buffers bytes cells items) r e)

-- the answer's line shows the fuel of the row
pub row_line : (o p l : List ℕ) (w : ℕ) (b : Buffers) (a : Answer) {f : Fuel} → Ready l b → f ≡ fuel_of l → p ≡ over o w (answer_line a f) → p ≡ over o w (answer_line a (machine_from l).fuel)
row_line o p l w b a r e q = q ∙ ap (λ (f : Fuel). over o w (answer_line a f)) (e ∙ ready_fuel l b r)
