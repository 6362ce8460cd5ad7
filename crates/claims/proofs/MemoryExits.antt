-- How every operation on fuel, limiter and memories ends: accepted on its occasion, or refused with all that it leaves. Assumes nothing.
use Rattle.types.proofs.Prelude.{refl, sym, ap, ◌∙◌, arith, ltb-true, ltb-false, le-ltb, le-leb, lt-leb, pick_true, pick_false, both_true, both_left}
use Rattle.types.proofs.{Prelude.both_right, Prelude.both_then, Prelude.both_2, Spans.over_nil}
use Rattle.std.specs.Prelude.{ℕ, ◌+◌, ◌-◌, ◌*◌, ◌/◌, ◌≡◌, Bool, true, false, List, leb, ltb, length, replicate, Err, Some, None, Result, Option}
use Rattle.types.specs.Names.{Done, done, over, refusal, accept, price, paid, moved, Answer, Refusal, Fuel, Limiter, HandedOver, page_bytes}
use Rattle.types.specs.{Names.WantedMemory, Pick.pick, Pick.both, Limiter.hand_over, MemoryType.build_memory}
use Rattle.types.specs.Fuel.{set_fuel, get_fuel, consume, consume_unchecked}
use native.Mathlib.{Nat.add-mul, Nat.div-add-mod'}
use Rattle.memory.specs.Names.{resized, sound_memory, may_have, grown_size, Memory, GrownMemory, CreatedMemory}
use Rattle.memory.specs.{Access.address_of, Access.loaded_of, Access.load_found, Access.load_at, Access.store_found, Access.store_at, Memory.pages_of}
use Rattle.memory.specs.{Memory.load_memory, Memory.store_memory, New.refused, New.new_memory, Grow.answered, Grow.growth_price, Grow.grow_memory}
use Rattle.memory.proofs.Sounds.{sound_is}
use Rattle.machine.specs.Names.{Buffers, buffers, memory_at, sound_over, metered, Machine, Operation, FuelOp, MemoryOp}
use Rattle.machine.specs.{Operation.well_formed, Operation.memory_well_formed, declared.fueling.Fueled.Fueled, declared.outcome.Outcome.Outcome}
use Rattle.machine.specs.Fueling.{set_by, charged_by, handed_by, perform_fuel, fueled, fueled_out, on_fuel}
use Rattle.machine.specs.Memories.{memory_kept, memory_stored, linked, link_to, perform_memory, memory_done, on_memory, made_memory, memory_made, new_memory_on}
use Rattle.machine.specs.Step.{Performed, on_none, on_bytes, perform, after}
use Rattle.machine.proofs.{Rooms.memory_sound, Rooms.next_byte_inside, Written.memory_put_back}
use Rattle.claims.specs.{Answers.accepted, Metered.memory_metering, Metered.metering_of, Metered.price_of, Metered.affords, Spans.put}
use Rattle.claims.specs.{Effects.memory_effect, Effects.fuel_effect, Effects.effect_of, Effects.accepted_step}
use Rattle.claims.specs.Occasions.{given, holds, comes, granted, valid_wanted, reaches, fuel_occasion, memory_checks, checks_of, occasion, question}
use Rattle.claims.proofs.{Exit.Exit, Growth.Grew, Growth.grew, Growth.grew_exit}
use Rattle.claims.proofs.Checks.{given_holds, given_comes, used_holds, used_comes}
use Rattle.claims.proofs.Exiting.{branch, surely, room_inside, put_back_stays, named, named_7, Ends, accepted_is, ending}
use Rattle.claims.proofs.Exiting.{accepting, accepting_by, refusing, leaving_by, leaving, creating, unknown}
use Rattle.machine.specs.declared.outcome.Change.TheVariants as change
use Rattle.machine.specs.declared.operation.Operation.TheVariants as op
use Rattle.machine.specs.declared.operation.FuelOp.TheVariants as fuel
use Rattle.machine.specs.declared.operation.MemoryOp.TheVariants as memory
use Rattle.types.specs.declared.memory_ty.MemoryType.{MemoryType}

module _ (r : ℕ) (m : Machine) (b : Buffers) where
  -- what is shown of an operation on fuel and limiter that comes to this
  abbrev Fuels : FuelOp → Fueled → Type 0
  Fuels o x = Ends r m b (op.Fuel o) (on_none (fueled_out m x) b)

  -- 01 to 04: 15, 7, 18
  pub fuel_exit : (o : FuelOp) → sound_over m b ≡ true → well_formed (op.Fuel o) ≡ true → Exit r m b (op.Fuel o) (occasion r m b (op.Fuel o))
  unfolding perform on_fuel perform_fuel set_by set_fuel get_fuel charged_by consume consume_unchecked hand_over holds checks_of given fuel_occasion effect_of fuel_effect metering_of comes put accepted
  fuel_exit (fuel.SetFuel amount) e w =
      ending e w
      (branch (λ (s : Result Fuel Refusal). Fuels (fuel.SetFuel amount) (set_by s m.fuel m.limiter)) _ _ _
      (λ t. accepting refl refl t refl)
      (λ t. leaving (refusal 15 0) (named 15 refl refl) refl refl t))
  fuel_exit fuel.GetFuel e w =
      ending e w
      (branch (λ (a : Answer). Fuels fuel.GetFuel (fueled a m.fuel m.limiter)) _ _ _
      (λ t. accepting refl refl t refl)
      (λ t. leaving (refusal 15 0) (named 15 refl refl) refl refl t))
  fuel_exit (fuel.Charge units) e w =
      ending e w
      (branch (λ (s : Result Fuel Refusal). Fuels (fuel.Charge units) (charged_by s m.fuel m.limiter)) _ _ _
      (λ t.
      branch (λ (s : Result Fuel Refusal). Fuels (fuel.Charge units) (charged_by s m.fuel m.limiter)) _ _ _
      (λ y. leaving (refusal 7 units) (named_7 units) refl refl (both_right _ _ (lt-leb units _ (ltb-true _ units y))))
      (λ y. accepting refl refl (both_true _ _ t (le-leb units _ (ltb-false _ units y))) refl))
      (λ t. leaving (refusal 15 0) (named 15 refl refl) refl refl (both_left _ _ t)))
  fuel_exit (fuel.SetLimiter script) e w =
      ending e w
      (branch (λ (h : HandedOver). Fuels (fuel.SetLimiter script) (handed_by h m.fuel)) _ _ _
      (λ t. accepting refl refl t refl)
      (λ t. leaving (refusal 18 0) (named 18 refl refl) refl refl t))

  -- 10: 17, 1, 2, limiter 3/4, 5 with notice
  pub new_memory_exit : (room : ℕ) (wanted : WantedMemory) → sound_over m b ≡ true → well_formed (op.NewMemory room wanted) ≡ true
      → Exit r m b (op.NewMemory room wanted) (occasion r m b (op.NewMemory room wanted))
  unfolding perform new_memory_on new_memory made_memory holds checks_of given valid_wanted effect_of metering_of comes put accepted
  new_memory_exit room wanted e w =
      ending e w
      (branch (λ (d : Done Outcome). Ends r m b (op.NewMemory room wanted) (on_bytes d b)) _ _ _
      (λ h.
      creating (λ (c : Done CreatedMemory). on_bytes (memory_made m c) b) (λ l x. done (refused l x) b.bytes) _ _ _ _ _ 2
      e w (room_inside _ room _ (next_byte_inside m _ _ _ e) (both_2 _ _ h)) (named 2 refl refl) (λ x l k o t. leaving_by x l k refl o t) (both_then _ _ h)
      refl (λ q o. accepting_by m.fuel (moved m.limiter) (sym (pick_false _ _ _ refl)) (sym (pick_true _ _ _ q)) o refl))
      (λ h. leaving (refusal 17 0) (named 17 refl refl) refl (both_left _ _ h) (both_left _ _ (both_left _ _ h))))

-- an address that an access reaches, or none
reaching : (m : Machine) (i pointer offset n : ℕ) (P : Option ℕ → Type 0) → (reaches (memory_at m i) pointer offset n ≡ true → P (Some (pointer + offset)))
    → (reaches (memory_at m i) pointer offset n ≡ false → P None) → P (address_of (memory_at m i).size pointer offset n)
unfolding address_of reaches
reaching m i pointer offset n P f g =
    branch P _ _ _
    (λ t. branch P _ _ _ (λ y. f (both_true _ _ t y)) (λ y. g (both_right _ _ y)))
    (λ t. g (both_left _ _ t))

-- a sound size is of whole pages, so the new bytes are those of the new pages
pub more_bytes : (x : Memory) (n len : ℕ) → sound_memory x len ≡ true → grown_size x n ≡ x.size + n * page_bytes x.ty.page
unfolding pages_of
more_bytes x n len e =
    let k = page_bytes x.ty.page in
    omega (arith, add-mul (x.size / k) n k, div-add-mod' x.size k, (sound_is x len e).pages)

-- by 0 pages the size stays
pub none_more : (x : Memory) (n len : ℕ) → sound_memory x len ≡ true → n ≡ 0 → grown_size x n ≡ x.size
none_more x n len e z = more_bytes x n len e ∙ ap (λ (k : ℕ). x.size + k * page_bytes x.ty.page) z ∙ omega arith

module _ (r : ℕ) (m : Machine) (b : Buffers) (i : ℕ) where
  abbrev old : Memory
  old = memory_at m i

  -- what is shown of an operation on the memory that comes to this
  abbrev On : MemoryOp → Done GrownMemory → Type 0
  On o d = Ends r m b (op.Memory i o) (on_bytes (memory_done m i d) b)

  -- likewise with the record as it was
  abbrev Answers : MemoryOp → Answer → Type 0
  Answers o a = On o (done (memory_kept old m.fuel m.limiter a) b.bytes)

  module _ (n : ℕ) where
    abbrev grow : Operation
    grow = op.Memory i (memory.Grow n)

    module _ (e : sound_over m b ≡ true) where
      -- a memory in use is sound
      sound : ltb i m.counts.memories ≡ true → sound_memory old (length b.bytes) ≡ true
      sound h = memory_sound m _ _ _ e i (ltb-true i _ h)

      abbrev out : Done GrownMemory → Performed
      out d = on_bytes (memory_done m i d) b

      abbrev kept : Refusal → Fuel → Limiter → Done GrownMemory
      kept x f l = done (answered (Err x) old f l) b.bytes

      -- the bounds allow the new pages, and the room holds them
      abbrev may : Bool
      may = may_have old.ty (pages_of old + n)

      abbrev fits : Bool
      fits = leb (grown_size old n) old.room

      -- the price is that of the new pages
      price_is : ltb i m.counts.memories ≡ true → growth_price old n m.fuel ≡ price_of r m grow
      unfolding metering_of memory_metering
      price_is h = ap (price m.fuel.costs.copied) (omega (arith, more_bytes old n _ (sound h)))

      -- by 0 pages the size stays, and no byte is new
      by_none : ltb i m.counts.memories ≡ true → n ≡ 0 → question r m b grow ≡ false
          → after m (out (done (answered (accept (pages_of old)) old m.fuel m.limiter) b.bytes)) ≡ accepted_step r m b grow
      unfolding both effect_of memory_effect metering_of memory_metering put
      by_none h z u =
          let q = none_more old n _ (sound h) z in
          let d : grown_size old n - old.size ≡ 0 = omega (arith, q) in
          let p : ltb 0 n ≡ false = le-ltb 0 n (omega arith) in
          accepted_is r m b grow refl (ap (λ (x : ℕ). change.Memory i (resized old x)) (sym q)) refl (sym (pick_false _ _ _ p)) (sym (pick_false _ _ _ u))
          (sym (ap (λ (bs : List ℕ). buffers bs b.cells b.items)
          (ap (λ (x : ℕ). over b.bytes (old.start + old.size) (replicate x 0)) d ∙ over_nil b.bytes _)))

      -- 11: 16, by 0, 6, limiter 6/4, 7 and 8 with notice
      pub memory_grew : Grew r m b grow (ltb i m.counts.memories) n true
      unfolding pick both perform on_memory perform_memory grow_memory well_formed memory_well_formed holds checks_of given memory_checks comes effect_of memory_effect metering_of memory_metering put accepted
      memory_grew =
          grew r m b grow (ltb i m.counts.memories) n true out kept
          (λ l. done (answered (accept (pages_of old)) old m.fuel l) b.bytes)
          (λ l.
          done (answered (accept (pages_of old)) (resized old (grown_size old n)) (paid m.fuel (growth_price old n m.fuel)) (moved l))
          (over b.bytes (old.start + old.size) (replicate (grown_size old n - old.size) 0)))
          true may fits (growth_price old n m.fuel) price_is
          (record {
            sound = e;
            formed = refl;
            known = λ h l. ap (λ (d : Done Outcome). on_bytes d b) (pick_true _ _ _ h) ∙ ap out (pick_true _ _ _ (sound h));
            unknown = λ h. ap (λ (d : Done Outcome). on_bytes d b) (pick_false _ _ _ h);
            stop = λ l. put_back_stays (metered m m.fuel l) b (change.Memory i old) (memory_put_back (metered m m.fuel l) i);
            when = used_holds (granted m) (ltb i m.counts.memories) n may (both (affords m (price_of r m grow)) fits);
            asks = used_comes (ltb i m.counts.memories) n may (both (affords m (price_of r m grow)) fits);
            value = refl;
            by_none = by_none;
            by_some = λ h p q.
                accepted_is r m b grow refl refl refl (ap (paid m.fuel) (price_is h) ∙ sym (pick_true _ _ _ p)) (sym (pick_true _ _ _ q)) refl;
          })

  -- 11 to 14, 30, of a memory in use: 9, 1
  used_memory : (o : MemoryOp) → sound_over m b ≡ true → ltb i m.counts.memories ≡ true → sound_memory old (length b.bytes) ≡ true
      → On o (perform_memory old b.bytes m.fuel m.limiter o)
  unfolding perform_memory load_memory load_at load_found loaded_of store_memory store_at store_found link_to linked build_memory holds checks_of given memory_checks valid_wanted effect_of memory_effect metering_of memory_metering comes put accepted
  used_memory (memory.Grow pages) e h s = λ q. grew_exit r m b _ _ _ _ refl (memory_grew pages e)
  used_memory memory.Size e h s = accepting refl refl (both_true _ _ h refl) refl
  used_memory (memory.Load kind pointer offset) e h s =
      surely (Answers (memory.Load kind pointer offset)) _ _ _ s
      (reaching m i pointer offset _ (λ (a : Option ℕ). Answers (memory.Load kind pointer offset) (load_found kind b.bytes old.start a))
      (λ y. accepting refl refl (both_true _ _ h y) refl)
      (λ y. refusing (change.Memory i old) (memory_put_back m i) refl refl (refusal 9 0) (named 9 refl refl) (both_right _ _ y)))
  used_memory (memory.Store kind pointer offset bits) e h s =
      surely Stores _ _ _ s
      (reaching m i pointer offset _ (λ (a : Option ℕ). Stores (store_found kind b.bytes old.start bits a))
      (λ y. accepting refl refl (both_true _ _ h y) refl)
      (λ y. refusing (change.Memory i old) (memory_put_back m i) refl refl (refusal 9 0) (named 9 refl refl) (both_right _ _ y)))
    where
      Stores : Done Answer → Type 0
      Stores d = On (memory.Store kind pointer offset bits) (memory_stored old m.fuel m.limiter d)
  used_memory (memory.LinkCheck wanted) e h s =
      branch (λ (t : Result MemoryType Refusal). Answers (memory.LinkCheck wanted) (linked old.ty t)) _ _ _
      (λ y. accepting refl refl (both_true _ _ h y) refl)
      (λ y. refusing (change.Memory i old) (memory_put_back m i) refl refl (refusal 1 0) (named 1 refl refl) (both_right _ _ y))

  -- 16, then these
  pub memory_exit : (o : MemoryOp) → sound_over m b ≡ true → well_formed (op.Memory i o) ≡ true → Exit r m b (op.Memory i o) (occasion r m b (op.Memory i o))
  unfolding perform on_memory checks_of
  memory_exit o e w =
      ending e w
      (branch (λ (d : Done Outcome). Ends r m b (op.Memory i o) (on_bytes d b)) _ _ _
      (λ h. used_memory o e h (memory_sound m _ _ _ e i (ltb-true i _ h)))
      (λ h. unknown (given_comes _ _ ∙ both_left _ _ h) (given_holds _ _ _ ∙ both_left _ _ h)))
