-- Which words an operation leaves: only the fuel left changes but by a creation, a growth or a drop, or by handing a script over, which alone changes the script's answers. Assumes nothing.
use Rattle.std.specs.Prelude.{Ok, Err, Result}
use Rattle.types.proofs.Prelude.{ℕ, ◌≡◌, refl, ap, ◌∙◌, Bool, true, false, List, ltb}
use lib.Seq.{set-get_or}
use Rattle.types.specs.{Pick.pick, Done.Done, Fuel.left, Fuel.paid, Fuel.set_fuel, Fuel.consume, Fuel.consume_unchecked, Limiter.moved, declared.fuel.Fuel.Fuel, declared.limiter.Limiter.Limiter}
use Rattle.types.specs.{declared.memory_ty.WantedMemory.WantedMemory, declared.table_ty.WantedTable.WantedTable, declared.raw.TypedRawRef.TypedRawRef}
use Rattle.types.specs.{declared.grant.Spanned.Spanned, declared.span.FillSpan.FillSpan, declared.span.CopySpan.CopySpan}
use Rattle.memory.specs.{New.new_memory, Grow.grow_memory, declared.memory.Memory.Memory, declared.grow.GrownMemory.GrownMemory}
use Rattle.memory.specs.{declared.new.CreatedMemory.CreatedMemory}
use Rattle.table.specs.{New.new_table, Grow.grow_table, Fill.fill_table, Copy.copy_table, Init.init_table, declared.table.Table.Table, declared.grow.GrownTable.GrownTable}
use Rattle.table.specs.{declared.new.CreatedTable.CreatedTable, declared.element.ElementSegment.ElementSegment}
use Rattle.machine.specs.Machine.{Buffers, memory_at, table_at, segment_at, no_memory, no_table}
use Rattle.machine.specs.Outcome.{with_memories, with_tables, changed, standing, metered, settled}
use Rattle.machine.specs.Fueling.{set_by, charged_by, perform_fuel, fueled_out, on_fuel}
use Rattle.machine.specs.Memories.{perform_memory, on_memory, made_memory, new_memory_on}
use Rattle.machine.specs.Tables.{perform_table, on_table, copy_on, made_table, new_table_on}
use Rattle.machine.specs.{Segments.init_on, Segments.drop_on, Segments.made_segment, Segments.new_segment_on, Step.perform}
use Rattle.machine.specs.stages.Rows.{fuel_writes, memory_writes, table_writes, writes_of}
use Rattle.machine.specs.{declared.records.Machine.Machine, declared.outcome.Outcome.Outcome, declared.operation.Writes.Writes}
use Rattle.machine.specs.{declared.operation.FuelOp.FuelOp, declared.operation.MemoryOp.MemoryOp, declared.operation.TableOp.TableOp}
use Rattle.machine.specs.declared.operation.Operation.{Operation}
use Rattle.machine.specs.declared.outcome.Change.TheVariants as change
use Rattle.machine.specs.declared.operation.Writes.TheVariants as writes
use Rattle.machine.specs.declared.operation.FuelOp.TheVariants as fuel
use Rattle.machine.specs.declared.operation.MemoryOp.TheVariants as memory
use Rattle.machine.specs.declared.operation.TableOp.TheVariants as table
use Rattle.machine.specs.declared.operation.Operation.TheVariants as op
use Rattle.types.specs.declared.answer.Refusal.{Refusal}

-- what holds on both ways of a test
either_way : {A : Type 0} (P : A → Type 0) (t : Bool) (x y : A) → P x → P y → P (pick t x y)
unfolding pick
either_way P true x y p q = p
either_way P false x y p q = q

-- a record that is put back at its place leaves the machine
pub memory_put_back : (m : Machine) (i : ℕ) → changed (change.Memory i (memory_at m i)) m ≡ m
unfolding changed
memory_put_back m i = either_way (λ (x : Machine). x ≡ m) (ltb i 8) _ _ (ap (λ (rs : List Memory). with_memories m rs) (set-get_or m.memories i no_memory)) refl

pub table_put_back : (m : Machine) (i : ℕ) → changed (change.Table i (table_at m i)) m ≡ m
unfolding changed
table_put_back m i = either_way (λ (x : Machine). x ≡ m) (ltb i 8) _ _ (ap (λ (rs : List Table). with_tables m rs) (set-get_or m.tables i no_table)) refl

-- creations and growths only move the script on
module _ (l : Limiter) where
  abbrev MakesMemory : Done CreatedMemory → Type 0
  MakesMemory d = d.out.limiter.script ≡ l.script

  new_memory_lem : (w : WantedMemory) (start room : ℕ) (bs : List ℕ) → MakesMemory (new_memory w start room bs l)
  unfolding new_memory moved
  new_memory_lem w start room bs =
      either_way MakesMemory _ _ _
      (either_way MakesMemory _ _ _
      (either_way MakesMemory _ _ _ (either_way MakesMemory _ _ _ refl (either_way MakesMemory _ _ _ refl (either_way MakesMemory _ _ _ refl refl))) refl) refl) refl

  abbrev MemoryGrows : Done GrownMemory → Type 0
  MemoryGrows d = d.out.limiter.script ≡ l.script

  grow_memory_lem : (m : Memory) (bs : List ℕ) (n : ℕ) (f : Fuel) → MemoryGrows (grow_memory m bs n f l)
  unfolding grow_memory moved
  grow_memory_lem m bs n f =
      either_way MemoryGrows _ _ _
      (either_way MemoryGrows _ _ _ refl
      (either_way MemoryGrows _ _ _
      (either_way MemoryGrows _ _ _ refl
      (either_way MemoryGrows _ _ _ refl (either_way MemoryGrows _ _ _ refl (either_way MemoryGrows _ _ _ refl refl)))) refl)) refl

  abbrev MakesTable : Done CreatedTable → Type 0
  MakesTable d = d.out.limiter.script ≡ l.script

  new_table_lem : (w : WantedTable) (v : TypedRawRef) (start room : ℕ) (cs : List ℕ) → MakesTable (new_table w v start room cs l)
  unfolding new_table moved
  new_table_lem w v start room cs =
      either_way MakesTable _ _ _
      (either_way MakesTable _ _ _
      (either_way MakesTable _ _ _ (either_way MakesTable _ _ _ refl (either_way MakesTable _ _ _ refl (either_way MakesTable _ _ _ refl refl))) refl) refl) refl

  abbrev TableGrows : Done GrownTable → Type 0
  TableGrows d = d.out.limiter.script ≡ l.script

  grow_table_lem : (r : ℕ) (t : Table) (cs : List ℕ) (n : ℕ) (v : TypedRawRef) (f : Fuel) → TableGrows (grow_table r t cs n v f l)
  unfolding grow_table moved
  grow_table_lem r t cs n v f =
      either_way TableGrows _ _ _
      (either_way TableGrows _ _ _
      (either_way TableGrows _ _ _ refl
      (either_way TableGrows _ _ _
      (either_way TableGrows _ _ _ refl
      (either_way TableGrows _ _ _ refl
      (either_way TableGrows _ _ _ (either_way TableGrows _ _ _ refl (either_way TableGrows _ _ _ refl refl)) refl))) refl)) refl) refl

-- spans only take of the fuel left
module _ (f : Fuel) where
  abbrev Taken : Done Spanned → Type 0
  Taken d = d.out.fuel ≡ left f d.out.fuel.remaining

  pay : (p : ℕ) → paid f p ≡ left f (paid f p).remaining
  pay p = either_way (λ (g : Fuel). g ≡ left f g.remaining) f.enabled _ _ refl refl

  fill_takes : (r : ℕ) (t : Table) (cs : List ℕ) (span : FillSpan) (v : TypedRawRef) → Taken (fill_table r t cs span v f)
  unfolding fill_table
  fill_takes r t cs span v =
      either_way Taken _ _ _ (either_way Taken _ _ _ (either_way Taken _ _ _ (either_way Taken _ _ _ refl (pay _)) refl) refl) refl

  copy_takes : (r : ℕ) (d s : Table) (cs : List ℕ) (span : CopySpan) → Taken (copy_table r d s cs span f)
  unfolding copy_table
  copy_takes r d s cs span =
      either_way Taken _ _ _ (either_way Taken _ _ _ (either_way Taken _ _ _ (either_way Taken _ _ _ refl (pay _)) refl) refl) refl

  init_takes : (r : ℕ) (t : Table) (s : ElementSegment) (cs items : List ℕ) (span : CopySpan) → Taken (init_table r t s cs items span f)
  unfolding init_table
  init_takes r t s cs items span =
      either_way Taken _ _ _
      (either_way Taken _ _ _ (either_way Taken _ _ _ (either_way Taken _ _ _ refl (either_way Taken _ _ _ refl (pay _))) refl) refl) refl

-- what an operation leaves as it was
unfoldable pub Left : Writes → Machine → Outcome → Type 0
Left writes.Nothing m o = settled m o ≡ metered m (left m.fuel o.fuel.remaining) m.limiter
Left writes.Record m o = o.limiter.script ≡ m.limiter.script
Left writes.Script m o = changed o.change m ≡ m

module _ (r : ℕ) (m : Machine) where
  abbrev LeftDone : Writes → Done Outcome → Type 0
  LeftDone w d = Left w m d.out

  abbrev Only : Outcome → Type 0
  Only o = Left writes.Nothing m o

  -- fuel
  on_fuel_lem : (o : FuelOp) → Left (fuel_writes o) m (on_fuel m o)
  unfolding Left on_fuel perform_fuel fuel_writes settled changed set_fuel set_by consume consume_unchecked charged_by
  on_fuel_lem (fuel.SetFuel amount) = either_way (λ (s : Result Fuel Refusal). Only (fueled_out m (set_by s m.fuel m.limiter))) _ _ _ refl refl
  on_fuel_lem fuel.GetFuel = refl
  on_fuel_lem (fuel.Charge units) =
      either_way (λ (s : Result Fuel Refusal). Only (fueled_out m (charged_by s m.fuel m.limiter))) _ _ _
      (either_way (λ (s : Result Fuel Refusal). Only (fueled_out m (charged_by s m.fuel m.limiter))) _ _ _ refl refl) refl
  on_fuel_lem (fuel.SetLimiter script) = refl

  -- memories
  made_memory_left : (x : Result Memory Refusal) (l : Limiter) → l.script ≡ m.limiter.script → Left writes.Record m (made_memory m x l)
  unfolding Left made_memory
  made_memory_left (Err x) l h = h
  made_memory_left (Ok x) l h = h

  memory_back_lem : (i : ℕ) → standing (changed (change.Memory i (memory_at m i)) m) m.counts m.fuel m.limiter ≡ m
  memory_back_lem i = ap (λ (k : Machine). standing k m.counts m.fuel m.limiter) (memory_put_back m i)

  one_memory : (i : ℕ) (bs : List ℕ) (o : MemoryOp) → LeftDone (memory_writes o) (on_memory m bs i o)
  unfolding Left on_memory perform_memory memory_writes settled changed
  one_memory i bs (memory.Grow pages) = either_way (LeftDone writes.Record) _ _ _ (grow_memory_lem m.limiter (memory_at m i) bs pages m.fuel) refl
  one_memory i bs memory.Size = either_way (LeftDone writes.Nothing) _ _ _ (memory_back_lem i) refl
  one_memory i bs (memory.Load kind pointer offset) = either_way (LeftDone writes.Nothing) _ _ _ (memory_back_lem i) refl
  one_memory i bs (memory.Store kind pointer offset bits) = either_way (LeftDone writes.Nothing) _ _ _ (memory_back_lem i) refl
  one_memory i bs (memory.LinkCheck wanted) = either_way (LeftDone writes.Nothing) _ _ _ (memory_back_lem i) refl

  -- tables
  made_table_left : (x : Result Table Refusal) (l : Limiter) → l.script ≡ m.limiter.script → Left writes.Record m (made_table m x l)
  unfolding Left made_table
  made_table_left (Err x) l h = h
  made_table_left (Ok x) l h = h

  table_back_lem : (i : ℕ) (f : Fuel) → standing (changed (change.Table i (table_at m i)) m) m.counts f m.limiter ≡ metered m f m.limiter
  table_back_lem i f = ap (λ (k : Machine). standing k m.counts f m.limiter) (table_put_back m i)

  one_table : (i : ℕ) (cs : List ℕ) (o : TableOp) → LeftDone (table_writes o) (on_table r m cs i o)
  unfolding Left on_table perform_table table_writes settled changed
  one_table i cs (table.Grow cells value) = either_way (LeftDone writes.Record) _ _ _ (grow_table_lem m.limiter r (table_at m i) cs cells value m.fuel) refl
  one_table i cs table.Size = either_way (LeftDone writes.Nothing) _ _ _ (table_back_lem i m.fuel) refl
  one_table i cs (table.Get index) = either_way (LeftDone writes.Nothing) _ _ _ (table_back_lem i m.fuel) refl
  one_table i cs (table.Set index value) = either_way (LeftDone writes.Nothing) _ _ _ (table_back_lem i m.fuel) refl
  one_table i cs (table.Fill start value len) =
      either_way (LeftDone writes.Nothing) _ _ _
      (table_back_lem i _ ∙ ap (λ (f : Fuel). metered m f m.limiter) (fill_takes m.fuel r (table_at m i) cs _ value)) refl

  made_segment_left : (x : Result ElementSegment Refusal) → Left writes.Record m (made_segment m x)
  unfolding Left made_segment
  made_segment_left (Err x) = refl
  made_segment_left (Ok x) = refl

  -- every operation
  pub leaves : (b : Buffers) (o : Operation) → Left (writes_of o) m (perform r m b o).out
  unfolding Left perform writes_of new_memory_on new_table_on copy_on init_on drop_on new_segment_on settled changed
  leaves b (op.Fuel o) = on_fuel_lem o
  leaves b (op.NewMemory room wanted) =
      either_way (LeftDone writes.Record) _ _ _ (made_memory_left _ _ (new_memory_lem m.limiter wanted _ room b.bytes)) refl
  leaves b (op.Memory number o) = one_memory number b.bytes o
  leaves b (op.NewTable room wanted initial) =
      either_way (LeftDone writes.Record) _ _ _ (made_table_left _ _ (new_table_lem m.limiter wanted initial _ room b.cells)) refl
  leaves b (op.Table number o) = one_table number b.cells o
  leaves b (op.TableCopy into source span) =
      either_way (LeftDone writes.Nothing) _ _ _ (ap (λ (f : Fuel). metered m f m.limiter) (copy_takes m.fuel r (table_at m into) (table_at m source) b.cells span)) refl
  leaves b (op.TableInit into segment span) =
      either_way (LeftDone writes.Nothing) _ _ _
      (ap (λ (f : Fuel). metered m f m.limiter) (init_takes m.fuel r (table_at m into) (segment_at m segment) b.cells b.items span)) refl
  leaves b (op.DropSegment segment) = either_way (Left writes.Record m) _ _ _ refl refl
  leaves b (op.NewSegment element items) = either_way (LeftDone writes.Record) _ _ _ (made_segment_left _) refl
