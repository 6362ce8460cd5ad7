-- The bound of demand 3 is the least: a run that writes as many bytes as it allows, for any B, F and K at least 1. Assumes nothing.
use Rattle.types.proofs.Prelude.{refl, sym, ap, subst, ◌∙◌, arith, length-replicate, le-leb, lt-ltb, eqb-true, eqb-false, ne_eqb, pick_true, pick_false}
use Rattle.types.proofs.{Prelude.both_true, Prelude.both_left, Picks.pick_same, Prices.price_word}
use Rattle.std.specs.Prelude.{ℕ, zero, suc, ◌+◌, ◌-◌, ◌*◌, ◌/◌, ◌^◌, ◌≤◌, ◌<◌, ◌≡◌, Bool, true, false, List, [], ◌∷◌, eqb, leb, ltb, length, replicate}
use Rattle.types.specs.{Names.price, Names.paid, Names.Fuel, Names.Limiter, Names.null_of}
use Rattle.types.specs.{Pick.pick, Pick.both, Span.inside, Limiter.padded, Limiter.no_limiter, Limiter.says_of, Limiter.moved, Limits.admits_of}
use Rattle.types.specs.{Limits.valid_limits, MemoryType.page_bound, MemoryType.valid_memory, TableType.table_bound, TableType.valid_table}
use Rattle.types.specs.{TableType.element_matches, declared.index_ty.IndexType.TheVariants.I64, declared.memory_ty.PageSize.TheVariants.One}
use native.Mathlib.{Nat.zero-add, Nat.mul-one, Nat.zero-mul, Nat.div-one, Nat.mul-add-div, Nat.div-eq_of_lt}
use Rattle.memory.specs.{Memory.pages_of, Grow.may_have}
use Rattle.machine.specs.Names.{Buffers, no_limits, no_memory, no_table, sound_over, metered, Stepped, step, Machine, Operation}
use Rattle.machine.specs.{Machine.no_segment, Machine.next_byte, Machine.next_cell, Machine.fresh_machine, Sound.sound_references, Outcome.changed}
use Rattle.machine.proofs.Kept.{fresh_sound, step_sound, step_bytes_long}
use Rattle.lines.specs.Session.{costs_of}
use Rattle.claims.specs.Answers.{accepted}
use Rattle.claims.specs.Metered.{memory_metering, table_metering, metering_of, metering, price_of, affords, grants, passes}
use Rattle.claims.specs.Occasions.{given, holds, valid_wanted, fuel_occasion, memory_checks, table_checks, checks_of, occasion, question}
use Rattle.claims.specs.{Occasions.accepted_when, Effects.memory_effect, Effects.table_effect, Effects.fuel_effect, Effects.effect_of, Effects.accepted_step}
use Rattle.claims.specs.Bound.{Totals, wrote, pays, totals, most_bytes, pass, fullest_run, zeros}
use Rattle.claims.proofs.{Checks.given_holds, Checks.growing_holds, Exiting.branch, Exits.accepted_when_lem, Exits.accepted_does}
use Rattle.claims.proofs.{Bound.passes_accepted, Bound.pays_price}
use Rattle.types.specs.declared.raw.RefType.TheVariants as ref
use Rattle.machine.specs.Operation as operation
use Rattle.machine.specs.declared.operation.Operation.TheVariants as op
use Rattle.machine.specs.declared.operation.FuelOp.TheVariants as fuel
use Rattle.machine.specs.declared.operation.MemoryOp.TheVariants as memory
use Rattle.machine.specs.declared.operation.TableOp.TheVariants as table

-- the price of f units and what is short of one more
price_most : (b f : ℕ) → 1 ≤ b → b * f + (b - 1) < 2 ^ 64 → price b (b * f + (b - 1)) ≡ f
price_most b f h k =
    let e : f + 0 ≡ f = omega arith in
    let g : b - 1 < b = omega arith in
    sym (price_word b (b * f + (b - 1)) (λ z. absurd (omega (arith, z))) k) ∙ mul-add-div {m = b} h f (b - 1) ∙ ap (λ (x : ℕ). f + x) (div-eq_of_lt g) ∙ e

-- fuel of so many units, at B bytes a unit
abbrev fuel_of : ℕ → ℕ → Fuel
fuel_of b n = record { remaining = n; enabled = true; costs = costs_of b }

-- the run's machine: one memory of one-byte pages, and so many tables of no cells
unfoldable machine_of : ℕ → ℕ → ℕ → Fuel → Limiter → Machine
machine_of total tables size f l =
    record {
      memories = record { ty = record { index = I64; page = One; limits = no_limits }; start = 0; room = total; size = size } ∷ replicate 7 no_memory;
      tables = replicate 8 no_table;
      segments = replicate 8 no_segment;
      counts = record { memories = 1; tables = tables; segments = 0 };
      fuel = f;
      limiter = l;
    }

-- with its table made, and no limiter
abbrev grown_to : ℕ → ℕ → ℕ → ℕ → Machine
grown_to total b size n = machine_of total 1 size (fuel_of b n) no_limiter

-- an unused limiter stays
none_moved : moved no_limiter ≡ no_limiter
unfolding moved no_limiter padded pick
none_moved = refl

-- asked or not
none_asked : (t : Bool) → pick t (moved no_limiter) no_limiter ≡ no_limiter
none_asked t = ap (λ (l : Limiter). pick t l no_limiter) none_moved ∙ pick_same t no_limiter

-- and grants everything
none_grants : grants (says_of no_limiter) ≡ true
unfolding says_of no_limiter padded pick grants
none_grants = refl

-- totals with what one operation adds
abbrev more : ℕ → ℕ → ℕ → Totals → Totals
more w u k s = record { bytes = w + s.bytes; units = u + s.units; passed = k + s.passed }

-- a pass of n bytes, from the run's machine on
record Passing (r total b size left n : ℕ) (bf : Buffers) (op : Operation) : Type 0 where
  meeting : (metering r (grown_to total b size left) op).meets ≡ true
  long : (metering r (grown_to total b size left) op).bytes ≡ n
  affordable : affords (grown_to total b size left) (price_of r (grown_to total b size left) op) ≡ true
  fits : accepted_when r (grown_to total b size left) bf op ≡ true
  leads : (accepted_step r (grown_to total b size left) bf op).machine ≡ grown_to total b (size + n) (left - price b n)

module _ (r total b size left : ℕ) (bf : Buffers) (sound : sound_over (grown_to total b size left) bf ≡ true) where
  -- the machine before it
  abbrev m : Machine
  m = grown_to total b size left

  -- an operation of n bytes
  module _ (op : Operation) (n : ℕ) (long : (metering r m op).bytes ≡ n) where
    -- its price is there
    can : price b n ≤ left → affords m (price_of r m op) ≡ true
    unfolding affords machine_of pick
    can h = le-leb _ left (rw long h)

    -- the fuel that it leaves
    leaves : paid (fuel_of b left) (price_of r m op) ≡ fuel_of b (left - price b n)
    unfolding machine_of pick
    leaves = ap (λ (x : ℕ). fuel_of b (left - price b x)) long

  -- a fill of length 0
  passing_none : price b 0 ≤ left → Passing r total b size left 0 bf (op.Table 0 (table.Fill 0 (null_of ref.Func) 0))
  unfolding metering_of table_metering holds checks_of given table_checks operation.well_formed element_matches inside machine_of accepted_step changed effect_of table_effect pick both
  passing_none h =
      let fill : Operation = op.Table 0 (table.Fill 0 (null_of ref.Func) 0) in
      let e : size ≡ size + 0 = omega arith in
      record {
        meeting = refl;
        long = zero-mul r;
        affordable = can fill 0 (zero-mul r) h;
        fits = both_true _ _ sound (can fill 0 (zero-mul r) h);
        leads = (λ i. machine_of total 1 (e i) (leaves fill 0 (zero-mul r) i) (none_asked (question r m bf fill) i));
      }

  -- a growth by n pages of one byte
  module _ (n : ℕ) (some : 0 < n) (room : size + n ≤ total) (below : total < 2 ^ 64) (h : price b n ≤ left) where
    -- the operation
    abbrev grow : Operation
    grow = op.Memory 0 (memory.Grow n)

    -- n bytes
    grow_long : (metering r m grow).bytes ≡ n
    unfolding metering_of memory_metering machine_of
    grow_long = mul-one n

    -- the bytes after it
    size_after : (size / 1 + n) * 1 ≡ size + n
    size_after = mul-one (size / 1 + n) ∙ ap (λ (x : ℕ). x + n) (div-one size)

    -- it is accepted
    grow_occasion : occasion r m bf grow ≡ true
    unfolding checks_of memory_checks machine_of may_have pages_of page_bound admits_of metering_of memory_metering
    grow_occasion =
        let bound : size / 1 + n ≤ 2 ^ 64 = omega (arith, size_after) in
        let bytes : (size / 1 + n) * 1 < 2 ^ 64 = omega (arith, size_after) in
        let held : (size / 1 + n) * 1 ≤ total = omega (arith, size_after) in
        given_holds _ _ _
        ∙ both_true _ _ refl
        (growing_holds _ n _ _ ∙ pick_false _ true _ (ne_eqb n 0 (λ z. absurd (omega (arith, z))))
        ∙ both_true _ _ (both_true _ _ (le-leb _ _ bound) (both_true _ _ (pick_false false (leb (size / 1 + n) 0) true refl) (lt-ltb _ _ bytes)))
        (both_true _ _ none_grants (both_true _ _ (can grow n grow_long h) (le-leb _ _ held))))

    -- it is a pass
    passing_some : Passing r total b size left n bf grow
    unfolding metering_of memory_metering operation.well_formed operation.memory_well_formed accepted_step changed effect_of memory_effect machine_of pages_of pick both
    passing_some =
        let t : ltb 0 n ≡ true = lt-ltb 0 n some in
        let f = pick_true _ (paid (fuel_of b left) (price_of r m grow)) (fuel_of b left) t ∙ leaves grow n grow_long in
        record {
          meeting = t;
          long = grow_long;
          affordable = can grow n grow_long h;
          fits = both_true _ _ sound grow_occasion;
          leads = (λ i. machine_of total 1 (size_after i) (f i) (none_asked (question r m bf grow) i));
        }

  -- each pass
  passing : (n : ℕ) → size + n ≤ total → total < 2 ^ 64 → price b n ≤ left → Passing r total b size left n bf (pass n)
  unfolding pass
  passing n room below h =
      branch (Passing r total b size left n bf) (eqb n 0) _ _
      (λ t.
      subst (λ (x : ℕ). price b x ≤ left → Passing r total b size left x bf (op.Table 0 (table.Fill 0 (null_of ref.Func) 0))) (sym (eqb-true n 0 t)) passing_none h)
      (λ t.
      let e : n ≡ 0 → ⊥ = eqb-false n 0 t in
      passing_some n (omega arith) room below h)

  module _ (n : ℕ) (room : size + n ≤ total) (below : total < 2 ^ 64) (h : price b n ≤ left) where
    -- what is known of a pass
    abbrev facts : Passing r total b size left n bf (pass n)
    facts = passing n room below h

    -- it is accepted
    pass_accepted : accepted (step r m bf (pass n)).answer ≡ true
    pass_accepted = accepted_when_lem r m bf (pass n) ∙ facts.fits

    -- it leads to the run's next machine
    pass_leads : (step r m bf (pass n)).machine ≡ grown_to total b (size + n) (left - price b n)
    pass_leads = ap (λ (s : Stepped). s.machine) (accepted_does r m bf (pass n) pass_accepted) ∙ facts.leads

    -- which is sound
    pass_sound : sound_over (grown_to total b (size + n) (left - price b n)) (step r m bf (pass n)).buffers ≡ true
    pass_sound = subst (λ (x : Machine). sound_over x (step r m bf (pass n)).buffers ≡ true) pass_leads (step_sound r m bf (pass n) sound)

    -- a pass adds its bytes, its price and one
    totals_pass : (ops : List Operation) → totals r m bf (pass n ∷ ops)
        ≡ more n (price b n) 1 (totals r (grown_to total b (size + n) (left - price b n)) (step r m bf (pass n)).buffers ops)
    unfolding totals wrote machine_of
    totals_pass ops =
        let t = passes_accepted r m bf (pass n) refl facts.meeting pass_accepted in
        let w : wrote r m bf (pass n) ≡ n = pick_true _ (metering r m (pass n)).bytes 0 (both_true _ _ facts.meeting pass_accepted) ∙ facts.long in
        let u : pays r m bf (pass n) ≡ price b n
        = pays_price r m bf (pass n) refl facts.meeting pass_accepted facts.affordable ∙ ap (price b) facts.long in
        let k : ◌≡◌ {A = ℕ} (pick (passes r m bf (pass n)) 1 0) 1 = pick_true _ 1 0 t in
        (λ i. more (w i) (u i) (k i) (totals r (pass_leads i) (step r m bf (pass n)).buffers ops))

module _ (r total b : ℕ) (below : total < 2 ^ 64) (some : 1 ≤ b) where
  -- a pass of f units, before others that write w bytes in k passes and pay nothing
  first_pass : (f size left w k : ℕ) (bf : Buffers) (ops : List Operation) → sound_over (grown_to total b size left) bf ≡ true → f ≤ left → size + (b * f + (b - 1)) ≤ total
      → ((c : Buffers) → sound_over (grown_to total b (size + (b * f + (b - 1))) (left - f)) c ≡ true
      → totals r (grown_to total b (size + (b * f + (b - 1))) (left - f)) c ops ≡ record { bytes = w; units = 0; passed = k })
      → totals r (grown_to total b size left) bf (pass (b * f + (b - 1)) ∷ ops) ≡ record { bytes = b * f + (b - 1) + w; units = f; passed = suc k }
  first_pass f size left w k bf ops sound enough room g =
      let n = b * f + (b - 1) in
      let p : price b (b * f + (b - 1)) ≡ f = price_most b f some (omega arith) in
      let h : price b (b * f + (b - 1)) ≤ left = omega arith in
      let s = rw p at (pass_sound r total b size left bf sound n room below h) in
      let units : f + 0 ≡ f = omega arith in
      let passed : 1 + k ≡ suc k = omega arith in
      rw p at (totals_pass r total b size left bf sound n room below h ops) ∙ ap (more n f 1) (g _ s)
      ∙ (λ i. record { bytes = b * f + (b - 1) + w; units = units i; passed = passed i })

  -- a pass of f units, then passes short of a unit, which are free
  all_passes : (j f size left : ℕ) (bf : Buffers) → sound_over (grown_to total b size left) bf ≡ true → f ≤ left → size + (b * f + (b - 1) * suc j) ≤ total
      → totals r (grown_to total b size left) bf (pass (b * f + (b - 1)) ∷ replicate j (pass (b - 1)))
      ≡ record { bytes = b * f + (b - 1) * suc j; units = f; passed = suc j }
  unfolding totals
  all_passes zero f size left bf sound enough room =
      let e : b * f + (b - 1) + 0 ≡ b * f + (b - 1) * 1 = omega arith in
      first_pass f size left 0 0 bf [] sound enough (omega arith) (λ c s. refl) ∙ (λ i. record { bytes = e i; units = f; passed = 1 })
  all_passes (suc j) f size left bf sound enough room =
      let z : b * 0 + (b - 1) ≡ b - 1 = omega arith in
      let e : b * f + (b - 1) + (b * 0 + (b - 1) * suc j) ≡ b * f + (b - 1) * suc (suc j) = omega arith in
      first_pass f size left (b * 0 + (b - 1) * suc j) (suc j) bf (replicate (suc j) (pass (b - 1))) sound enough (omega arith)
      (λ c s. rw z at (all_passes j 0 (size + (b * f + (b - 1))) (left - f) c s (omega arith) (omega arith)))
      ∙ (λ i. record { bytes = e i; units = f; passed = suc (suc j) })

module _ (r : ℕ) where
  -- an operation that does not meet the fuel step adds nothing
  totals_free : (m : Machine) (bf : Buffers) (op : Operation) (ops : List Operation) → (metering r m op).meets ≡ false
      → totals r m bf (op ∷ ops) ≡ totals r (step r m bf op).machine (step r m bf op).buffers ops
  unfolding totals wrote pays passes
  totals_free m bf op ops e = simp (pick_false, both_left, e, zero-add)

  -- free operations lead on, with the machine sound and the bytes as many
  record Led (m : Machine) (bf : Buffers) (ops : List Operation) (m' : Machine) (ops' : List Operation) : Type 0 where
    after : Buffers
    same : totals r m bf ops ≡ totals r m' after ops'
    sound : sound_over m' after ≡ true
    long : length after.bytes ≡ length bf.bytes

  -- one after another
  led_on : {m m' m'' : Machine} {bf : Buffers} {ops ops' ops'' : List Operation} → Led m bf ops m' ops'
      → ((c : Buffers) → sound_over m' c ≡ true → length c.bytes ≡ length bf.bytes → Led m' c ops' m'' ops'') → Led m bf ops m'' ops''
  led_on x f =
      let y = f x.after x.sound x.long in
      record { after = y.after; same = x.same ∙ y.same; sound = y.sound; long = y.long ∙ x.long }

  -- one that is accepted leads to what it does
  led : (m m' : Machine) (bf : Buffers) (op : Operation) (ops : List Operation) → (metering r m op).meets ≡ false → operation.well_formed op ≡ true
      → sound_over m bf ≡ true → occasion r m bf op ≡ true → (accepted_step r m bf op).machine ≡ m' → Led m bf (op ∷ ops) m' ops
  led m m' bf op ops n w s o e =
      let a = accepted_when_lem r m bf op ∙ both_true _ _ w (both_true _ _ s o) in
      let g : (step r m bf op).machine ≡ m' = ap (λ (x : Stepped). x.machine) (accepted_does r m bf op a) ∙ e in
      record {
        after = (step r m bf op).buffers;
        same = totals_free m bf op ops n ∙ ap (λ (x : Machine). totals r x (step r m bf op).buffers ops) g;
        sound = subst (λ (x : Machine). sound_over x (step r m bf op).buffers ≡ true) g (step_sound r m bf op s);
        long = step_bytes_long r m bf op;
      }

  -- the three operations before the passes
  module _ (total b f : ℕ) (bf : Buffers) (ops : List Operation) where
    -- the machine before its fuel is set
    abbrev fresh : Machine
    fresh = fresh_machine true (costs_of b)

    -- before its memory is made
    abbrev first : Machine
    first = metered (fresh_machine true (costs_of b)) (fuel_of b f) no_limiter

    -- before its table is made
    abbrev second : Machine
    second = machine_of total 0 0 (fuel_of b f) no_limiter

    -- the first: its fuel is set
    led_fuel : sound_over fresh bf ≡ true → Led fresh bf (op.Fuel (fuel.SetFuel f) ∷ ops) first ops
    unfolding metering_of operation.well_formed operation.fuel_well_formed holds checks_of given fuel_occasion fresh_machine accepted_step changed effect_of fuel_effect pick
    led_fuel s = led fresh first bf (op.Fuel (fuel.SetFuel f)) ops refl refl s refl
        (λ i. metered (fresh_machine true (costs_of b)) (fuel_of b f) (none_asked (question r fresh bf (op.Fuel (fuel.SetFuel f))) i))

    -- the second: its memory is made
    led_memory : length bf.bytes ≡ total → sound_over first bf ≡ true
        → Led first bf (op.NewMemory total (record { wide = true; limits = no_limits; exponent = 0 }) ∷ ops) second ops
    unfolding metering_of operation.well_formed holds checks_of given fresh_machine next_byte valid_wanted valid_memory valid_limits page_bound accepted_step changed effect_of machine_of pick both
    led_memory e s =
        let h : total ≤ length bf.bytes - 0 = omega arith in
        let n : 0 ≤ total = omega arith in
        let make : Operation = op.NewMemory total (record { wide = true; limits = no_limits; exponent = 0 }) in
        led first second bf make ops refl refl s
        (simp (le-leb total (length bf.bytes - 0) h, none_grants, le-leb 0 total n))
        (λ i. machine_of total 0 0 (fuel_of b f) (none_asked (question r first bf make) i))

    -- the third: its table is made
    led_table : sound_over second bf ≡ true
        → Led second bf (op.NewTable 0 (record { element = ref.Func; wide = false; limits = no_limits }) (null_of ref.Func) ∷ ops) (grown_to total b 0 f) ops
    unfolding metering_of operation.well_formed holds checks_of given machine_of next_cell valid_table valid_limits table_bound element_matches accepted_step changed effect_of pick both
    led_table s =
        let h : 0 ≤ length bf.cells - 0 = omega arith in
        let make : Operation = op.NewTable 0 (record { element = ref.Func; wide = false; limits = no_limits }) (null_of ref.Func) in
        led second (grown_to total b 0 f) bf make ops refl refl s
        (simp (le-leb 0 (length bf.cells - 0) h, none_grants))
        (λ i. machine_of total 1 0 (fuel_of b f) (none_asked (question r second bf make) i))

-- the bound is reached
pub bound_reached : (r b f k : ℕ) → 1 ≤ b → 1 ≤ k → most_bytes b f k < 2 ^ 64
    → totals r (fresh_machine true (costs_of b)) (zeros (most_bytes b f k)) (fullest_run b f k) ≡ record { bytes = most_bytes b f k; units = f; passed = k }
unfolding fullest_run sound_references
bound_reached r b f k some least below =
    let total = most_bytes b f k in
    let e : suc (k - 1) ≡ k = omega arith in
    let start =
    led_on r (led_fuel r total b f (zeros total) _ (fresh_sound true (costs_of b) (zeros total) (both_true _ _ refl refl)))
    (λ c s l. led_on r (led_memory r total b f c _ (l ∙ length-replicate total 0) s) (λ c s l. led_table r total b f c _ s)) in
    start.same ∙ rw e at (all_passes r total b below some (k - 1) f 0 f start.after start.sound (omega arith) (rw e (omega arith)))
