-- A row in form is in form after every operation: flags and costs as they were, and a script of answers of at most 2. Assumes nothing.
use Rattle.types.proofs.Prelude.{sym, subst, ◌∙◌, arith, length-append, length-drop, leb-true, both_1, both_2, either}
use Rattle.types.proofs.{Scripts.well_short}
use Rattle.std.specs.Prelude.{ℕ, zero, suc, ◌+◌, ◌≤◌, ◌<◌, ◌≡◌, true, List, [], ◌∷◌, ◌++◌, leb, length, get_or, drop, replicate}
use Rattle.types.specs.{Names.Fuel, Names.FuelCosts, Names.Limiter, Limiter.moved, Limiter.padded, Limiter.all_answers, Limiter.well_formed}
use Rattle.machine.specs.Names.{Buffers, script_of, Stepped, step, Machine, Operation, FuelOp}
use Rattle.machine.specs.{Row.InRow, Row.operate_row, stages.Rows.Shaped}
use Rattle.machine.specs.Words.{script_at, answer_from, records_from, limiter_from, machine_from, all_at, answer_at, in_form}
use Rattle.machine.proofs.{Back.shaped_from, Formed.form_long, Forming.put_form, Settling.Eights, Settling.eights, Settling.changed_eights}
use Rattle.claims.specs.{Answers.accepted, Occasions.holds, Occasions.fuel_occasion, Occasions.checks_of, Occasions.occasion, Effects.fuel_effect}
use Rattle.claims.specs.{Effects.effects, Effects.accepted_step, Script.heard, Script.moved_by, Script.script_after}
use Rattle.claims.proofs.{Exiting.branch, Exiting.by_kind, Script.script_moves, Bound.meter_stays}
use Rattle.claims.proofs.Exits.{refusal_leaves, accepted_when_lem, accepted_does}
use Rattle.machine.specs.declared.operation.FuelOp.TheVariants as fuel

-- a script of 16 places whose answers are at most 2
record Answers (l : Limiter) : Type 0 where
  long : length l.script ≡ 16
  each : (i : ℕ) → get_or l.script i 0 ≤ 2

-- a script that moved on is the same
moved_answers : (n : ℕ) (l : Limiter) → Answers l → Answers (moved_by n l)
unfolding moved_by moved
moved_answers zero l h = h
moved_answers (suc n) l h = moved_answers n (moved l) (record { long = h.long; each = h.each })

-- a script that is handed over, and the zeros behind it
zeros : (n k i : ℕ) → get_or (drop k (replicate n 0)) i 0 ≤ 2
zeros zero zero i = omega arith
zeros zero (suc k) i = omega arith
zeros (suc n) zero zero = omega arith
zeros (suc n) zero (suc i) = zeros n zero i
zeros (suc n) (suc k) i = zeros n k i

script_each : (s rest : List ℕ) → all_answers s ≡ true → ((i : ℕ) → get_or rest i 0 ≤ 2) → (i : ℕ) → get_or (s ++ rest) i 0 ≤ 2
unfolding all_answers
script_each [] rest e h i = h i
script_each (x ∷ s) rest e h zero = leb-true x 2 (both_1 (leb x 2) (all_answers s) e)
script_each (x ∷ s) rest e h (suc i) = script_each s rest (both_2 (leb x 2) (all_answers s) e) h i

padded_long : (s : List ℕ) → length s ≤ 16 → length (padded s) ≡ 16
unfolding padded
padded_long s h =
    let row : List ℕ = replicate 16 0 in
    let a = length-append s (drop (length s) row) in
    let b = length-drop (length s) row in
    omega (arith, a, b, h)

padded_each : (s : List ℕ) → well_formed s ≡ true → (i : ℕ) → get_or (padded s) i 0 ≤ 2
unfolding padded well_formed
padded_each s e = script_each s _ (both_2 _ _ e) (zeros 16 (length s))

handed_answers : (m : Machine) (f : Fuel) (l : Limiter) (o : FuelOp) → fuel_occasion m o ≡ true → Answers l → Answers (fuel_effect f l o).limiter
unfolding fuel_occasion fuel_effect
handed_answers m f l (fuel.SetFuel amount) e h = h
handed_answers m f l fuel.GetFuel e h = h
handed_answers m f l (fuel.Charge units) e h = h
handed_answers m f l (fuel.SetLimiter script) e h =
    record { long = padded_long (script_of script) (well_short (script_of script) e); each = padded_each (script_of script) e }

module _ (r : ℕ) (m : Machine) (b : Buffers) (op : Operation) where
  step_answers : Answers m.limiter → Answers (step r m b op).machine.limiter
  unfolding script_after holds checks_of
  step_answers h =
      let n = moved_answers (heard r m b op) m.limiter h in
      subst Answers (sym (script_moves r m b op))
      (branch Answers _ _ _
      (λ a.
      by_kind m b _ _ op (λ (f : Fuel) (l : Limiter). Answers l)
      (λ o q. handed_answers m _ _ o (subst (λ (x : Operation). occasion r m b x ≡ true) q (both_2 _ _ (both_2 _ _ (sym (accepted_when_lem r m b op) ∙ a)))) n) n)
      (λ a. n))

  step_eights : Eights m → Eights (step r m b op).machine
  unfolding accepted_step
  step_eights h =
      either (accepted (step r m b op).answer)
      (λ a.
      let d = changed_eights (effects r m b op).out.change m h in
      subst (λ (s : Stepped). Eights s.machine) (sym (accepted_does r m b op a)) (record { memories = d.memories; tables = d.tables; segments = d.segments }))
      (λ a. subst Eights (sym (refusal_leaves r m b op a).records) (record { memories = h.memories; tables = h.tables; segments = h.segments }))

  step_shaped : Shaped m → Answers m.limiter → Shaped (step r m b op).machine
  step_shaped s h =
      let e = step_eights (eights m s) in
      let a = step_answers h in
      record {
        memories = e.memories;
        tables = e.tables;
        segments = e.segments;
        fits = record {
          script = a.long;
          copied = subst (λ (k : FuelCosts). k.copied < 4294967296) (sym (meter_stays r m b op).costs) s.fits.copied;
          translated = subst (λ (k : FuelCosts). k.translated < 4294967296) (sym (meter_stays r m b op).costs) s.fits.translated;
          validated = subst (λ (k : FuelCosts). k.validated < 4294967296) (sym (meter_stays r m b op).costs) s.fits.validated;
          answers = λ i. let q = a.each i in omega (arith, q);
        };
      }

-- the script of a row in form
from_each : (l : List ℕ) (a n : ℕ) → all_at answer_at 1 l a n ≡ true → (i : ℕ) → get_or (records_from (λ (k : List ℕ) b. answer_from (get_or k b 0)) 1 l a n) i 0 ≤ 2
unfolding all_at records_from
from_each l a zero e i = omega arith
from_each l a (suc n) e zero =
    let q = leb-true (get_or l a 0) 2 (both_1 (answer_at l a) (all_at answer_at 1 l (a + 1) n) e) in
    omega (arith, q)
from_each l a (suc n) e (suc i) = from_each l (a + 1) n (both_2 (answer_at l a) (all_at answer_at 1 l (a + 1) n) e) i

form_answers : (l : List ℕ) → in_form l ≡ true → Answers (machine_from l).limiter
unfolding in_form limiter_from
form_answers l e =
    record {
      long = (shaped_from l).fits.script;
      each = from_each l script_at 16 (both_2 _ _ (both_2 _ _ (both_2 _ _ (both_2 _ _ (both_2 _ _ e)))));
    }

-- after every operation
pub stays_in_form : (r : ℕ) (l : List ℕ) (b : Buffers) (op : Operation) → in_form l ≡ true → in_form (operate_row r l b op).words ≡ true
unfolding operate_row
stays_in_form r l b op e =
    branch (λ (x : InRow). in_form x.words ≡ true) _ _ _
    (λ w.
    branch (λ (x : InRow). in_form x.words ≡ true) _ _ _
    (λ f.
    let m = machine_from l in
    let a = form_answers l e in
    put_form (step r m b op).machine l (step_shaped r m b op (shaped_from l) a) (step_answers r m b op a).each (form_long l e))
    (λ f. e))
    (λ w. e)
