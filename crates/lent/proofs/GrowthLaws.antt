-- What a growth leaves of the records that it is lent; and a list of records in use is sound where a machine that has it alone is. Assumes nothing.
use Rattle.types.proofs.Prelude.{ℕ, ◌≤◌, ◌<◌, ◌-◌, ◌≡◌, refl, sym, ap, ◌∙◌, Bool, true, false, List, leb, length, take, both_last, both_right}
use Rattle.types.specs.{Numbers.word32, Pick.pick, Pick.both, Done.Done, Done.done, Answer.Answer, Fuel.left, Fuel.paid, Limiter.moved}
use Rattle.types.specs.{declared.fuel.FuelCosts.FuelCosts, declared.fuel.Fuel.Fuel, declared.limiter.Limiter.Limiter, declared.raw.TypedRawRef.TypedRawRef}
use Rattle.memory.specs.Memory as memory
use Rattle.memory.specs.Grow as memory_grow
use Rattle.memory.specs.{Memory.sound_memory, declared.memory.Memory.Memory, declared.grow.GrownMemory.GrownMemory}
use Rattle.table.specs.Table as table
use Rattle.table.specs.Grow as table_grow
use Rattle.table.specs.{Table.sound_table, declared.table.Table.Table, declared.grow.GrownTable.GrownTable}
use Rattle.machine.specs.{Machine.memory_end, Machine.table_end, Machine.fresh_machine}
use Rattle.machine.specs.Sound.{follow, sound_list, sound_memories, sound_tables, sound_segments, sound_references, sound_machine}
use Rattle.machine.specs.declared.records.Machine.{Machine}
use Rattle.lent.specs.stages.Growth.{sound_memories_over, sound_tables_over}
use Rattle.lent.proofs.Lists.{front_sound, short_unsound}

-- the same script at another place
abbrev pub placed : Limiter → ℕ → Limiter
placed l n = record { script = l.script; count = l.count; at = n }

paid_same : (f : Fuel) (p : ℕ) (t : Bool) → pick t (left f (f.remaining - p)) f ≡ left f (pick t (left f (f.remaining - p)) f).remaining
unfolding pick
paid_same f p true = refl
paid_same f p false = refl

moved_same : (l : Limiter) → moved l ≡ placed l (moved l).at
unfolding moved
moved_same l = refl

twice_same : (l : Limiter) → moved (moved l) ≡ placed l (moved (moved l)).at
unfolding moved
twice_same l = refl

-- the record, but for its size; fuel, but for its amount; the limiter, but for its place
pub record MemoryLike (m : Memory) (f : Fuel) (l : Limiter) (g : Done GrownMemory) : Type 0 where
  pub memory : g.out.memory ≡ memory.resized m g.out.memory.size
  pub fuel : g.out.fuel ≡ left f g.out.fuel.remaining
  pub limiter : g.out.limiter ≡ placed l g.out.limiter.at

pub record TableLike (t : Table) (f : Fuel) (l : Limiter) (g : Done GrownTable) : Type 0 where
  pub table : g.out.table ≡ table.resized t g.out.table.size
  pub fuel : g.out.fuel ≡ left f g.out.fuel.remaining
  pub limiter : g.out.limiter ≡ placed l g.out.limiter.at

-- what holds of both holds of the one that is picked
of_either : {X : Type 0} (P : X → Type 0) (t : Bool) (a b : X) → P a → P b → P (pick t a b)
unfolding pick
of_either P true a b x y = x
of_either P false a b x y = y

-- an outcome with these parts
memory_as : (m m' : Memory) (f f' : Fuel) (l l' : Limiter) (a : Answer) (cs : List ℕ) → m' ≡ memory.resized m m'.size → f' ≡ left f f'.remaining → l' ≡ placed l l'.at
    → MemoryLike m f l (done (memory_grow.answered a m' f' l') cs)
memory_as m m' f f' l l' a cs x y z = record { memory = x; fuel = y; limiter = z }

table_as : (t t' : Table) (f f' : Fuel) (l l' : Limiter) (a : Answer) (cs : List ℕ) → t' ≡ table.resized t t'.size → f' ≡ left f f'.remaining → l' ≡ placed l l'.at
    → TableLike t f l (done (table_grow.answered a t' f' l') cs)
table_as t t' f f' l l' a cs x y z = record { table = x; fuel = y; limiter = z }

-- whatever a growth of a memory comes to: the memory is the one before but for its size, the fuel the one before but for what is left,
-- and the limiter the one before but for its place
pub memory_like : (m : Memory) (bs : List ℕ) (n : ℕ) (f : Fuel) (l : Limiter) → MemoryLike m f l (memory_grow.grow_memory m bs n f l)
unfolding memory_grow.grow_memory
memory_like m bs n f l =
    of_either (MemoryLike m f l) _ _ _
    (of_either (MemoryLike m f l) _ _ _ (memory_as m m f f l l _ bs refl refl refl)
    (of_either (MemoryLike m f l) _ _ _
    (of_either (MemoryLike m f l) _ _ _ (memory_as m m f f l (moved l) _ bs refl refl (moved_same l))
    (of_either (MemoryLike m f l) _ _ _ (memory_as m m f f l (moved l) _ bs refl refl (moved_same l))
    (of_either (MemoryLike m f l) _ _ _ (memory_as m m f f l (moved (moved l)) _ bs refl refl (twice_same l))
    (of_either (MemoryLike m f l) _ _ _
    (memory_as m (memory.resized m _) f (paid f _) l (moved l) _ _ refl (paid_same f _ f.enabled) (moved_same l))
    (memory_as m m f (paid f _) l (moved (moved l)) _ bs refl (paid_same f _ f.enabled) (twice_same l))))))
    (memory_as m m f f l l _ bs refl refl refl)))
    (memory_as m m f f l l _ bs refl refl refl)

-- whatever a growth of a table comes to, likewise
pub table_like : (r : ℕ) (t : Table) (cs : List ℕ) (n : ℕ) (v : TypedRawRef) (f : Fuel) (l : Limiter) → TableLike t f l (table_grow.grow_table r t cs n v f l)
unfolding table_grow.grow_table
table_like r t cs n v f l =
    of_either (TableLike t f l) _ _ _
    (of_either (TableLike t f l) _ _ _
    (of_either (TableLike t f l) _ _ _ (table_as t t f f l l _ cs refl refl refl)
    (of_either (TableLike t f l) _ _ _
    (of_either (TableLike t f l) _ _ _ (table_as t t f f l (moved l) _ cs refl refl (moved_same l))
    (of_either (TableLike t f l) _ _ _ (table_as t t f f l (moved l) _ cs refl refl (moved_same l))
    (of_either (TableLike t f l) _ _ _
    (of_either (TableLike t f l) _ _ _ (table_as t t f f l (moved (moved l)) _ cs refl refl (twice_same l))
    (of_either (TableLike t f l) _ _ _
    (table_as t (table.resized t _) f (paid f _) l (moved l) _ _ refl (paid_same f _ f.enabled) (moved_same l))
    (table_as t t f (paid f _) l (moved (moved l)) _ cs refl (paid_same f _ f.enabled) (twice_same l))))
    (table_as t t f f l (moved (moved l)) _ cs refl refl (twice_same l)))))
    (table_as t t f f l l _ cs refl refl refl)))
    (table_as t t f f l l _ cs refl refl refl))
    (table_as t t f f l l _ cs refl refl refl)

-- of memories: a short list is not sound
pub memories_short : (n : ℕ) (ms : List Memory) (len : ℕ) → length ms < 8 → false ≡ sound_memories_over n ms len
unfolding sound_memories_over
memories_short n ms len h = sym (short_unsound (λ (r : Memory). sound_memory r len) (λ (r : Memory). r.start) memory_end ms n h)

-- and another is sound where a fresh machine with its first 8 is
pub memories_alone : (n : ℕ) (ms xs : List Memory) (len : ℕ) (on : Bool) (costs : FuelCosts) (m : Machine) (s : Bool) → 8 ≤ length ms → xs ≡ take 8 ms → m ≡ fresh_machine on costs
    → s ≡ sound_machine (record { memories = xs; tables = m.tables; segments = m.segments; counts = record { memories = n; tables = 0; segments = 0 }; fuel = m.fuel; limiter = m.limiter }) len 0 0
    → s ≡ sound_memories_over n ms len
unfolding sound_machine sound_references sound_memories sound_tables sound_segments sound_list follow both fresh_machine sound_memories_over
memories_alone n ms xs len on costs m s h q p e =
    e
    ∙ (λ j. sound_machine (record { memories = q j; tables = (p j).tables; segments = (p j).segments; counts = record { memories = n; tables = 0; segments = 0 }; fuel = (p j).fuel; limiter = (p j).limiter }) len 0 0)
    ∙ both_last _ true refl
    ∙ front_sound (λ (r : Memory). sound_memory r len) (λ (r : Memory). r.start) memory_end ms n h

-- of tables, likewise
pub tables_short : (n : ℕ) (ts : List Table) (len : ℕ) → length ts < 8 → false ≡ sound_tables_over n ts len
unfolding sound_tables_over
tables_short n ts len h = sym (both_right _ _ (short_unsound (λ (r : Table). sound_table r len) (λ (r : Table). r.start) table_end ts n h))

pub tables_alone : (n : ℕ) (ts xs : List Table) (len : ℕ) (on : Bool) (costs : FuelCosts) (m : Machine) (s : Bool) → 8 ≤ length ts → xs ≡ take 8 ts → m ≡ fresh_machine on costs
    → s ≡ sound_machine (record { memories = m.memories; tables = xs; segments = m.segments; counts = record { memories = 0; tables = n; segments = 0 }; fuel = m.fuel; limiter = m.limiter }) 0 len 0
    → s ≡ sound_tables_over n ts len
unfolding sound_machine sound_references sound_memories sound_tables sound_segments sound_list follow both fresh_machine sound_tables_over
tables_alone n ts xs len on costs m s h q p e =
    e
    ∙ (λ j. sound_machine (record { memories = (p j).memories; tables = q j; segments = (p j).segments; counts = record { memories = 0; tables = n; segments = 0 }; fuel = (p j).fuel; limiter = (p j).limiter }) 0 len 0)
    ∙ (λ j. both (both_last (leb len word32) true refl j) (both_last (sound_list (λ (r : Table). sound_table r len) (λ (r : Table). r.start) table_end n (take 8 ts)) true refl j))
    ∙ ap (both (leb len word32)) (front_sound (λ (r : Table). sound_table r len) (λ (r : Table). r.start) table_end ts n h)
