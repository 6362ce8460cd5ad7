-- Demand 3's bound: the bytes written are at most B times the units paid and B - 1 for each operation that passed the fuel step. Assumes nothing.
use Rattle.types.proofs.Prelude.{refl, sym, ap, subst, ◌∙◌, false≢true, arith, leb-true, ltb-true, ne_eqb, pick_true, pick_false, both_true, both_1, both_2}
use Rattle.types.proofs.{Prelude.either, Prices.price_covers, Spans.within_is}
use Rattle.std.specs.Prelude.{ℕ, ◌+◌, ◌-◌, ◌*◌, ◌^◌, ◌≤◌, ◌<◌, ◌≡◌, Bool, true, false, List, [], ◌∷◌, eqb, ltb, length}
use Rattle.types.specs.Names.{pick, both, price, left, paid, inside, page_bytes, Fuel, FuelCosts, Limiter}
use native.Mathlib.{Nat.mul-le-mul, Nat.mul-le-mul_right}
use Rattle.memory.specs.{Names.pages_of, Grow.may_have}
use Rattle.table.proofs.Sounds.{sound_room_lem, sound_size_lem}
use Rattle.machine.specs.Names.{Buffers, memory_at, table_at, sound_over, Stepped, step, Machine, Operation, FuelOp, MemoryOp, TableOp}
use Rattle.machine.specs.{Machine.fresh_machine, Sound.sound_references}
use Rattle.machine.proofs.Rooms.{parts, table_sound}
use Rattle.claims.specs.{Answers.accepted, Effects.fuel_effect, Effects.effects, Effects.accepted_step}
use Rattle.claims.specs.Metered.{memory_metering, table_metering, metering_of, metering, price_of, affords, passes}
use Rattle.claims.specs.Occasions.{holds, memory_checks, table_checks, checks_of, occasion}
use Rattle.claims.specs.Bound.{wrote, pays, totals, most_r, most_bytes}
use Rattle.claims.proofs.{Checks.given_1, Checks.given_2, Checks.growing_some, Exiting.branch, Exiting.by_kind, Exits.refusal_leaves}
use Rattle.claims.proofs.{Exits.accepted_when_lem, Exits.accepted_does}
use Rattle.machine.specs.declared.operation.Operation.TheVariants as op
use Rattle.machine.specs.declared.operation.FuelOp.TheVariants as fuel
use Rattle.machine.specs.declared.operation.MemoryOp.TheVariants as memory
use Rattle.machine.specs.declared.operation.TableOp.TheVariants as table

-- the same metering and the same costs
pub record SameMeter (f g : Fuel) : Type 0 where
  pub enabled : g.enabled ≡ f.enabled
  pub costs : g.costs ≡ f.costs

-- whatever fuel is left
same_left : (f : Fuel) (n : ℕ) → SameMeter f (left f n)
same_left f n = record { enabled = refl; costs = refl }

-- where a price is paid under a test
same_paid : (f : Fuel) (p : ℕ) (t : Bool) → SameMeter f (pick t (paid f p) f)
same_paid f p t =
    branch (SameMeter f) t _ _
    (λ e. branch (SameMeter f) f.enabled _ _ (λ u. same_left f _) (λ u. same_left f f.remaining))
    (λ e. same_left f f.remaining)

-- and after 01 to 04
same_own : (g f : Fuel) (l : Limiter) (o : FuelOp) → SameMeter g f → SameMeter g (fuel_effect f l o).fuel
unfolding fuel_effect
same_own g f l (fuel.SetFuel amount) h = record { enabled = h.enabled; costs = h.costs }
same_own g f l fuel.GetFuel h = h
same_own g f l (fuel.Charge units) h = record { enabled = h.enabled; costs = h.costs }
same_own g f l (fuel.SetLimiter script) h = h

-- where the length is not 0
not_none : (n : ℕ) → ltb 0 n ≡ true → eqb n 0 ≡ false
not_none n e =
    let h : 0 < n = ltb-true 0 n e in
    ne_eqb n 0 (λ z. absurd (omega (arith, z)))

-- one pass: what is paid covers its bytes but for less than a unit
covered : (b n : ℕ) → 1 ≤ b → n < 2 ^ 64 → n ≤ most_bytes b (price b n) 1
covered b n some short = omega (arith, price_covers b n some short)

-- 2^32 references of the most bytes stay below 2^64: no byte length of them is capped
cells_below : 2 ^ 32 * most_r < 2 ^ 64
cells_below = ltb-true (2 ^ 32 * most_r) (2 ^ 64) refl

module _ (r : ℕ) (m : Machine) (b : Buffers) where
  -- what an accepted operation that meets the fuel step was tested for: its price is there; and its bytes are below 2^64
  pub record Payable (op : Operation) : Type 0 where
    pub affordable : affords m (price_of r m op) ≡ true
    pub short : r ≤ most_r → sound_over m b ≡ true → (metering r m op).bytes < 2 ^ 64

  -- no more cells than a room has are R bytes each below 2^64
  cells_short : (i n : ℕ) → ltb i m.counts.tables ≡ true → n ≤ (table_at m i).room → r ≤ most_r → sound_over m b ≡ true → n * r < 2 ^ 64
  unfolding sound_references
  cells_short i n k h small s =
      let few : length b.cells ≤ 2 ^ 32 = leb-true _ _ (both_1 _ _ (parts m _ _ _ s).references) in
      let within = sound_room_lem (table_at m i) (length b.cells) (table_sound m _ _ _ s i (ltb-true _ _ k)) in
      let most : n * r ≤ 2 ^ 32 * most_r = mul-le-mul {n₁ = n} {n₂ = 2 ^ 32} (omega arith) small in
      omega (arith, most, cells_below)

  -- nor than its size
  cells_inside : (i start n : ℕ) → ltb i m.counts.tables ≡ true → inside start n (table_at m i).size ≡ true → r ≤ most_r → sound_over m b ≡ true → n * r < 2 ^ 64
  cells_inside i start n k h small s =
      let held = sound_size_lem (table_at m i) (length b.cells) (table_sound m _ _ _ s i (ltb-true _ _ k)) in
      cells_short i n k (omega (arith, within_is start n _ h)) small s

  -- 11 to 14, 30: a growth of a memory
  payable_memory : (i : ℕ) (o : MemoryOp) → (metering r m (op.Memory i o)).meets ≡ true → occasion r m b (op.Memory i o) ≡ true → Payable (op.Memory i o)
  unfolding metering_of memory_metering holds checks_of memory_checks may_have
  payable_memory i (memory.Grow pages) p e =
      let tests = growing_some _ pages _ _ (not_none pages p) (given_2 _ _ _ e) in
      let below : (pages_of (memory_at m i) + pages) * page_bytes (memory_at m i).ty.page < 2 ^ 64 = ltb-true _ _ (both_2 _ _ (both_2 _ _ (both_1 _ _ tests))) in
      let fewer : pages ≤ pages_of (memory_at m i) + pages = omega arith in
      record {
        affordable = both_1 _ _ (both_2 _ _ (both_2 _ _ tests));
        short = λ small s. omega (arith, mul-le-mul_right (page_bytes (memory_at m i).ty.page) fewer);
      }
  payable_memory i memory.Size p e = absurd (false≢true p)
  payable_memory i (memory.Load kind pointer offset) p e = absurd (false≢true p)
  payable_memory i (memory.Store kind pointer offset bits) p e = absurd (false≢true p)
  payable_memory i (memory.LinkCheck wanted) p e = absurd (false≢true p)

  -- 21 to 25: a growth of a table, and a fill
  payable_table : (i : ℕ) (o : TableOp) → (metering r m (op.Table i o)).meets ≡ true → occasion r m b (op.Table i o) ≡ true → Payable (op.Table i o)
  unfolding metering_of table_metering holds checks_of table_checks
  payable_table i (table.Grow cells value) p e =
      let last = both_2 _ _ (both_2 _ _ (both_2 _ _ (growing_some _ cells _ _ (not_none cells p) (given_2 _ _ _ (given_2 _ _ _ e))))) in
      let held : (table_at m i).size + cells ≤ (table_at m i).room = leb-true _ _ (both_2 _ _ last) in
      record { affordable = both_1 _ _ last; short = cells_short i cells (given_1 _ _ _ e) (omega arith) }
  payable_table i table.Size p e = absurd (false≢true p)
  payable_table i (table.Get index) p e = absurd (false≢true p)
  payable_table i (table.Set index value) p e = absurd (false≢true p)
  payable_table i (table.Fill start value len) p e =
      let last = both_2 _ _ (given_2 _ _ _ e) in
      record { affordable = both_2 _ _ last; short = cells_inside i start len (given_1 _ _ _ e) (both_1 _ _ last) }

  -- every operation that meets the fuel step
  pub payable : (op : Operation) → (metering r m op).meets ≡ true → occasion r m b op ≡ true → Payable op
  unfolding metering_of holds checks_of
  payable (op.Fuel o) p e = absurd (false≢true p)
  payable (op.NewMemory room wanted) p e = absurd (false≢true p)
  payable (op.Memory number o) p e = payable_memory number o p e
  payable (op.NewTable room wanted initial) p e = absurd (false≢true p)
  payable (op.Table number o) p e = payable_table number o p e
  payable (op.TableCopy into source span) p e =
      let last = both_2 _ _ (both_2 _ _ e) in
      record { affordable = both_2 _ _ last; short = cells_inside into span.to span.len (both_1 _ _ (both_1 _ _ e)) (both_1 _ _ (both_1 _ _ last)) }
  payable (op.TableInit table segment span) p e =
      let last = both_2 _ _ (both_2 _ _ e) in
      record {
        affordable = sym (pick_false _ _ _ (not_none span.len p)) ∙ both_2 _ _ last;
        short = cells_inside table span.to span.len (both_1 _ _ (both_1 _ _ e)) (both_1 _ _ (both_1 _ _ last));
      }
  payable (op.DropSegment segment) p e = absurd (false≢true p)
  payable (op.NewSegment element items) p e = absurd (false≢true p)

-- where metering is on, a price that is there is what the fuel falls by
fell : (f : Fuel) (p : ℕ) → f.enabled ≡ true → p ≤ f.remaining → f.remaining - (paid f p).remaining ≡ p
fell f p on h =
    let e : (paid f p).remaining ≡ f.remaining - p = ap (λ (g : Fuel). g.remaining) (pick_true _ (left f (f.remaining - p)) f on) in
    omega arith

-- and it is there where it can be paid
pub affords_is : (m : Machine) (p : ℕ) → m.fuel.enabled ≡ true → affords m p ≡ true → p ≤ m.fuel.remaining
unfolding affords
affords_is m p on e = leb-true _ _ (sym (pick_true _ _ true on) ∙ e)

module _ (r : ℕ) (m : Machine) (b : Buffers) (op : Operation) where
  -- the fuel after an accepted operation
  pub fuel_after : accepted (step r m b op).answer ≡ true → (step r m b op).machine.fuel ≡ (effects r m b op).out.fuel
  unfolding accepted_step
  fuel_after e = ap (λ (s : Stepped). s.machine.fuel) (accepted_does r m b op e)

  -- no operation changes whether fuel is metered, nor the costs
  pub meter_stays : SameMeter m.fuel (step r m b op).machine.fuel
  meter_stays =
      either (accepted (step r m b op).answer)
      (λ e.
      subst (SameMeter m.fuel) (sym (fuel_after e))
      (by_kind m b _ _ op (λ (f : Fuel) (l : Limiter). SameMeter m.fuel f)
      (λ o q. same_own _ _ _ o (same_paid m.fuel (price_of r m op) _)) (same_paid m.fuel (price_of r m op) _)))
      (λ e. subst (SameMeter m.fuel) (sym (refusal_leaves r m b op e).fuel) (same_paid m.fuel (price_of r m op) _))

  module _ (on : m.fuel.enabled ≡ true) (p : (metering r m op).meets ≡ true) (e : accepted (step r m b op).answer ≡ true) where
    -- an accepted operation that meets the fuel step passes it
    pub passes_accepted : passes r m b op ≡ true
    unfolding passes
    passes_accepted = both_true _ _ p (pick_true _ _ _ e)

    -- and is none of 01 to 04, so its price is paid
    paid_by : (effects r m b op).out.fuel ≡ paid m.fuel (price_of r m op)
    unfolding metering_of
    paid_by =
        by_kind m b _ _ op (λ (f : Fuel) (l : Limiter). f ≡ paid m.fuel (price_of r m op))
        (λ o q. absurd (false≢true (sym (ap (λ (x : Operation). (metering r m x).meets) q) ∙ p))) (pick_true _ _ _ p)

    -- and pays its price
    pub pays_price : affords m (price_of r m op) ≡ true → pays r m b op ≡ price_of r m op
    unfolding pays
    pays_price a =
        pick_true _ _ 0 passes_accepted
        ∙ ap (λ (f : Fuel). m.fuel.remaining - f.remaining) (fuel_after e ∙ paid_by)
        ∙ fell m.fuel (price_of r m op) on (affords_is m (price_of r m op) on a)

  -- the bound of one operation
  one_bound : r ≤ most_r → m.fuel.enabled ≡ true → 1 ≤ m.fuel.costs.copied
      → wrote r m b op ≤ most_bytes m.fuel.costs.copied (pays r m b op) (pick (passes r m b op) 1 0)
  unfolding wrote
  one_bound small on some =
      either (both (metering r m op).meets (accepted (step r m b op).answer))
      (λ t.
      let p = both_1 _ _ t in
      let e = both_2 _ _ t in
      let when = both_2 _ _ (sym (accepted_when_lem r m b op) ∙ e) in
      let can = payable r m b op p (both_2 _ _ when) in
      let w : wrote r m b op ≡ (metering r m op).bytes = pick_true _ _ 0 t in
      let u : pays r m b op ≡ price_of r m op = pays_price on p e can.affordable in
      let k : ◌≡◌ {A = ℕ} (pick (passes r m b op) 1 0) 1 = pick_true _ 1 0 (passes_accepted on p e) in
      rw w (rw u (rw k (covered m.fuel.costs.copied (metering r m op).bytes some (can.short small (both_1 _ _ when))))))
      (λ t.
      let w : wrote r m b op ≡ 0 = pick_false _ (metering r m op).bytes 0 t in
      omega arith)

-- the bound of any operations, from any machine
run_bound : (r : ℕ) (m : Machine) (b : Buffers) (ops : List Operation) → r ≤ most_r → m.fuel.enabled ≡ true → 1 ≤ m.fuel.costs.copied
    → (totals r m b ops).bytes ≤ most_bytes m.fuel.costs.copied (totals r m b ops).units (totals r m b ops).passed
unfolding totals
run_bound r m b [] small on some = omega arith
run_bound r m b (op ∷ ops) small on some =
    let s = step r m b op in
    let same = meter_stays r m b op in
    let rest = totals r s.machine s.buffers ops in
    let c : s.machine.fuel.costs.copied ≡ m.fuel.costs.copied = ap (λ (x : FuelCosts). x.copied) same.costs in
    let ih : rest.bytes ≤ most_bytes m.fuel.costs.copied rest.units rest.passed
    = rw c at (run_bound r s.machine s.buffers ops small (same.enabled ∙ on) (rw c some)) in
    omega (arith, ih, one_bound r m b op small on some)

-- a fresh machine's bound
pub byte_bound : (r : ℕ) (costs : FuelCosts) (b : Buffers) (ops : List Operation) → r ≤ most_r → 1 ≤ costs.copied
    → (totals r (fresh_machine true costs) b ops).bytes
    ≤ most_bytes costs.copied (totals r (fresh_machine true costs) b ops).units (totals r (fresh_machine true costs) b ops).passed
unfolding fresh_machine
byte_bound r costs b ops small some = run_bound r (fresh_machine true costs) b ops small refl some
