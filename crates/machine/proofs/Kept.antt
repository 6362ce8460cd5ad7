-- What every operation keeps: a sound machine stays sound, buffers keep their lengths, and on an unsound machine nothing changes. Assumes nothing.
use Rattle.types.proofs.Prelude.{ℕ, ◌≡◌, refl, sym, ap, subst, ◌∙◌, Bool, true, false, List, [], ◌∷◌, arith, length, replicate, length-replicate, pick_true}
use Rattle.types.proofs.Prelude.{pick_false, either}
use Rattle.types.specs.declared.fuel.FuelCosts.{FuelCosts}
use Rattle.machine.specs.Machine.{Buffers, no_memory, no_table, no_segment, fresh_machine}
use Rattle.machine.specs.{Sound.sound_memories, Sound.sound_tables, Sound.sound_segments, Sound.sound_references, Sound.sound_over, Operation.well_formed}
use Rattle.machine.specs.{Outcome.changed, Outcome.settled, Step.Performed, Step.decide, Step.step, Step.run, declared.records.Machine.Machine}
use Rattle.machine.specs.declared.operation.Operation.{Operation}
use Rattle.machine.proofs.{ListLaws.none_sound, Rooms.parts, Rooms.whole, Touched.Touched, Touched.step_touched}

-- a machine that was touched as an operation may is sound
touched_sound : (m : Machine) (b : Buffers) (op : Operation) (m' : Machine) (b' : Buffers) → sound_over m b ≡ true → Touched m b op m' b' → sound_over m' b' ≡ true
unfolding sound_memories sound_tables sound_segments
touched_sound m b op m' b' e w =
    whole m' (length b'.bytes) (length b'.cells) (length b'.items)
    (record {
      references = ap (λ (n : ℕ). sound_references n (length b'.items)) w.cells.long ∙ ap (sound_references (length b.cells)) w.items.long
          ∙ (parts m (length b.bytes) (length b.cells) (length b.items) e).references;
      memories = ap (sound_memories m') w.bytes.long ∙ w.memories.sounds;
      tables = ap (sound_tables m') w.cells.long ∙ w.tables.sounds;
      segments = ap (sound_segments m') w.items.long ∙ w.segments.sounds;
    })

-- a sound machine is sound after every operation
pub step_sound : (r : ℕ) (m : Machine) (b : Buffers) (op : Operation) → sound_over m b ≡ true → sound_over (step r m b op).machine (step r m b op).buffers ≡ true
step_sound r m b op e = touched_sound m b op _ _ e (step_touched r m b op e)

-- and after any operations
pub run_sound : (r : ℕ) (m : Machine) (b : Buffers) (ops : List Operation) → sound_over m b ≡ true → sound_over (run r m b ops).machine (run r m b ops).buffers ≡ true
unfolding run
run_sound r m b [] e = e
run_sound r m b (op ∷ ops) e = run_sound r (step r m b op).machine (step r m b op).buffers ops (step_sound r m b op e)

-- a machine is made sound
pub fresh_sound : (metering : Bool) (costs : FuelCosts) (b : Buffers) → sound_references (length b.cells) (length b.items) ≡ true
    → sound_over (fresh_machine metering costs) b ≡ true
unfolding fresh_machine sound_memories sound_tables sound_segments
fresh_sound metering costs b e =
    whole (fresh_machine metering costs) (length b.bytes) (length b.cells) (length b.items)
    (record {
      references = e;
      memories = none_sound _ _ _ (replicate 8 no_memory) (omega (arith, length-replicate 8 no_memory));
      tables = none_sound _ _ _ (replicate 8 no_table) (omega (arith, length-replicate 8 no_table));
      segments = none_sound _ _ _ (replicate 8 no_segment) (omega (arith, length-replicate 8 no_segment));
    })

-- on an unsound machine nothing changes
pub unsound_stays : (r : ℕ) (m : Machine) (b : Buffers) (op : Operation) → sound_over m b ≡ false → ((step r m b op).machine ≡ m) × ((step r m b op).buffers ≡ b)
unfolding step decide settled changed
unsound_stays r m b op e =
    either (well_formed op)
    (λ t. stay (pick_true _ _ _ t ∙ pick_false _ _ _ e) (refl, refl))
    (λ t. stay (pick_false _ _ _ t) (refl, refl))
  where
    stay : {p : Performed} → decide r m b op ≡ p → (settled m p.out ≡ m) × (p.buffers ≡ b) → ((step r m b op).machine ≡ m) × ((step r m b op).buffers ≡ b)
    stay q s = subst (λ (p : Performed). (settled m p.out ≡ m) × (p.buffers ≡ b)) (sym q) s

-- every buffer keeps its length, on any machine
module _ (r : ℕ) (m : Machine) (b : Buffers) (op : Operation) where
  pub step_bytes_long : length (step r m b op).buffers.bytes ≡ length b.bytes
  step_bytes_long =
      either (sound_over m b) (λ e. (step_touched r m b op e).bytes.long) (λ e. ap (λ (x : Buffers). length x.bytes) (unsound_stays r m b op e).1)

  pub step_cells_long : length (step r m b op).buffers.cells ≡ length b.cells
  step_cells_long =
      either (sound_over m b) (λ e. (step_touched r m b op e).cells.long) (λ e. ap (λ (x : Buffers). length x.cells) (unsound_stays r m b op e).1)

  pub step_items_long : length (step r m b op).buffers.items ≡ length b.items
  step_items_long =
      either (sound_over m b) (λ e. (step_touched r m b op e).items.long) (λ e. ap (λ (x : Buffers). length x.items) (unsound_stays r m b op e).1)
