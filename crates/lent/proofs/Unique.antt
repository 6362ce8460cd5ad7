-- Uniqueness: what each public function promises names one answer, and one content of each thing that it is lent to write. Assumes nothing.
-- What takes references to records has two statements: over its contract, and over the relation that is its whole `ensures`, with each thing lent as a variable of its own.
use Rattle.types.proofs.Prelude.{◌≡◌, sym, ◌∙◌, ap, List, ℕ}
use Rattle.types.proofs.One.{OneWith}
use Rattle.machine.specs.{Machine.Buffers, Machine.buffers, Step.Stepped, declared.operation.Operation.Operation}
use Rattle.types.specs.{Answer.Answer, declared.fuel.Fuel.Fuel, declared.limiter.Limiter.Limiter, declared.raw.TypedRawRef.TypedRawRef}
use Rattle.memory.specs.declared.memory.Memory.{Memory}
use Rattle.table.specs.{declared.table.Table.Table, declared.element.ElementSegment.ElementSegment}
use Rattle.lent.specs.{declared.fuel.FuelRequest.FuelRequest, declared.operate.Standing.Standing, declared.operate.Operated.Operated, Fuel.FuelDone, Fuel.Requests, Growth.Lending}
use Rattle.lent.specs.{Growth.Grew, Growth.lending, Memories.GrowsMemory, Tables.GrowsTable, Records.Lent, Records.lent, Records.LentStepped, Records.Operates}
use Rattle.lent.proofs.operate.operate_kept.Reads as operate_kept_reads
use Rattle.lent.proofs.operate.operate_kept.Kinds as operate_kept_kinds
use Rattle.lent.proofs.operate.operate_lent.Reads as operate_lent_reads
use Rattle.lent.proofs.operate.operate_lent.Kinds as operate_lent_kinds
use Rattle.lent.proofs.memories.grow.Reads as memories_grow_reads
use Rattle.lent.proofs.memories.grow.Kinds as memories_grow_kinds
use Rattle.lent.proofs.tables.grow.Reads as tables_grow_reads
use Rattle.lent.proofs.tables.grow.Kinds as tables_grow_kinds
use Rattle.lent.proofs.fuel.request.Reads as request_reads
use Rattle.lent.proofs.fuel.request.Kinds as request_kinds

abbrev stepped_outcome : Stepped → Operated
stepped_outcome o = record { answer = o.answer; machine = o.machine }

-- one answer, one machine, and one content of each of the three buffers
pub operate_kept_one : OneWith 3 operate_kept_kinds.ps operate_kept_kinds.r operate_kept_reads.Pre operate_kept_reads.Post Buffers (λ κs s. buffers (s.1.0.now) (s.1.1.0.now) (s.1.1.1.0.now))
operate_kept_one κs a x x' s s' z p q = (ap stepped_outcome (p ∙ sym q), ap (λ (o : Stepped). o.buffers) (p ∙ sym q))

-- one answer, and one content of the fuel record
pub request_one : (f : Fuel) (q : FuelRequest) (a a' : Answer) (g g' : Fuel) → Requests f q a g → Requests f q a' g' → (a ≡ a') × (g ≡ g')
request_one f q a a' g g' p p' = let e = p ∙ sym p' in (ap (λ (d : FuelDone). d.answer) e, ap (λ (d : FuelDone). d.fuel) e)

pub request_contract_one : OneWith 1 request_kinds.ps request_kinds.r request_reads.Pre request_reads.Post Fuel (λ κs s. s.0.now)
request_contract_one κs a x x' s s' z p q = request_one _ _ _ _ _ _ p q

-- one answer, and one content of the records, the cells, the fuel record and the limiter
abbrev OneGrown : {A : Type 0} → (Answer → List A → List ℕ → Fuel → Limiter → Type 0) → Type 0
OneGrown {A = A} Grows =
    (a a' : Answer) (rs rs' : List A) (cs cs' : List ℕ) (f f' : Fuel) (l l' : Limiter) →
    Grows a rs cs f l → Grows a' rs' cs' f' l' → (a ≡ a') × (rs ≡ rs') × (cs ≡ cs') × (f ≡ f') × (l ≡ l')

grown_one : {A : Type 0} (g h : Grew A) → g ≡ h
    → (g.answer ≡ h.answer) × (g.lent.records ≡ h.lent.records) × (g.lent.cells ≡ h.lent.cells) × (g.lent.fuel ≡ h.lent.fuel) × (g.lent.limiter ≡ h.lent.limiter)
grown_one {A = A} g h e =
    (ap (λ (o : Grew A). o.answer) e, ap (λ (o : Grew A). o.lent.records) e, ap (λ (o : Grew A). o.lent.cells) e, ap (λ (o : Grew A). o.lent.fuel) e, ap (λ (o : Grew A). o.lent.limiter) e)

pub memories_grow_one : (count i pages : ℕ) (before : Lending Memory) → OneGrown (GrowsMemory count i pages before)
memories_grow_one count i pages before a a' rs rs' cs cs' f f' l l' p q = grown_one _ _ (p ∙ sym q)

pub tables_grow_one : (r count i delta : ℕ) (v : TypedRawRef) (before : Lending Table) → OneGrown (GrowsTable r count i delta v before)
tables_grow_one r count i delta v before a a' rs rs' cs cs' f f' l l' p q = grown_one _ _ (p ∙ sym q)

pub memories_grow_contract_one : OneWith 4 memories_grow_kinds.ps memories_grow_kinds.r memories_grow_reads.Pre memories_grow_reads.Post (Lending Memory) (λ κs s. lending s.0.now s.1.1.1.0.now s.1.1.1.1.1.0.now s.1.1.1.1.1.1.0.now)
memories_grow_contract_one κs a x x' s s' z p q = (ap (λ (o : Grew Memory). o.answer) (p ∙ sym q), ap (λ (o : Grew Memory). o.lent) (p ∙ sym q))

pub tables_grow_contract_one : OneWith 4 tables_grow_kinds.ps tables_grow_kinds.r tables_grow_reads.Pre tables_grow_reads.Post (Lending Table) (λ κs s. lending s.0.now s.1.1.1.0.now s.1.1.1.1.1.1.0.now s.1.1.1.1.1.1.1.0.now)
tables_grow_contract_one κs a x x' s s' z p q = (ap (λ (o : Grew Table). o.answer) (p ∙ sym q), ap (λ (o : Grew Table). o.lent) (p ∙ sym q))

-- one answer, and one content of each list, of the numbers in use with the limiter, of the fuel record and of each buffer
pub operate_lent_one : (r : ℕ) (before : Lent) (b : Buffers) (op : Operation) (a a' : Answer) (ms ms' : List Memory) (ts ts' : List Table) (gs gs' : List ElementSegment)
    (s s' : Standing) (f f' : Fuel) (bytes bytes' cells cells' items items' : List ℕ)
    → Operates r before b op a ms ts gs s f bytes cells items → Operates r before b op a' ms' ts' gs' s' f' bytes' cells' items'
    → (a ≡ a') × (ms ≡ ms') × (ts ≡ ts') × (gs ≡ gs') × (s ≡ s') × (f ≡ f') × (bytes ≡ bytes') × (cells ≡ cells') × (items ≡ items')
operate_lent_one r before b op a a' ms ms' ts ts' gs gs' s s' f f' bytes bytes' cells cells' items items' p q =
    let e = p ∙ sym q in (
      ap (λ (o : LentStepped). o.answer) e,
      ap (λ (o : LentStepped). o.lent.memories) e,
      ap (λ (o : LentStepped). o.lent.tables) e,
      ap (λ (o : LentStepped). o.lent.segments) e,
      ap (λ (o : LentStepped). o.lent.standing) e,
      ap (λ (o : LentStepped). o.lent.fuel) e,
      ap (λ (o : LentStepped). o.buffers.bytes) e,
      ap (λ (o : LentStepped). o.buffers.cells) e,
      ap (λ (o : LentStepped). o.buffers.items) e,
    )

pub operate_lent_contract_one : OneWith 8 operate_lent_kinds.ps operate_lent_kinds.r operate_lent_reads.Pre operate_lent_reads.Post (Lent × Buffers) (λ κs s. (lent s.0.now s.1.0.now s.1.1.0.now s.1.1.1.0.now s.1.1.1.1.0.now, buffers s.1.1.1.1.1.0.now s.1.1.1.1.1.1.0.now s.1.1.1.1.1.1.1.0.now))
operate_lent_contract_one κs a x x' s s' z p q = (ap (λ (o : LentStepped). o.answer) (p ∙ sym q), ap (λ (o : LentStepped). (o.lent, o.buffers)) (p ∙ sym q))
