-- Uniqueness: each public function's contract names one answer, and one content of what it is lent to write, for each input. Assumes nothing.
use Rattle.types.proofs.Prelude.{sym, ◌∙◌, ap, List, ℕ}
use Rattle.types.proofs.One.{One, OneWith}
use Rattle.machine.proofs.fields.hand_script.Reads as hand_script_reads
use Rattle.machine.proofs.fields.hand_script.Kinds as hand_script_kinds
use Rattle.machine.proofs.operation.Operation.is_well_formed.Reads as is_well_formed_reads
use Rattle.machine.proofs.operation.Operation.is_well_formed.Kinds as is_well_formed_kinds
use Rattle.machine.proofs.fueling.perform.Reads as fuel_reads
use Rattle.machine.proofs.fueling.perform.Kinds as fuel_kinds
use Rattle.machine.proofs.memories.perform.Reads as memory_reads
use Rattle.machine.proofs.memories.perform.Kinds as memory_kinds
use Rattle.machine.proofs.tables.perform.Reads as table_reads
use Rattle.machine.proofs.tables.perform.Kinds as table_kinds
use Rattle.machine.proofs.row.operate.Reads as row_operate_reads
use Rattle.machine.proofs.row.operate.Kinds as row_operate_kinds
use Rattle.machine.proofs.row.proceed.Reads as proceed_reads
use Rattle.machine.proofs.row.proceed.Kinds as proceed_kinds
use Rattle.machine.proofs.row.fresh.Reads as fresh_reads
use Rattle.machine.proofs.row.fresh.Kinds as fresh_kinds
use Rattle.machine.proofs.row.is_ready.Reads as is_ready_reads
use Rattle.machine.proofs.row.is_ready.Kinds as is_ready_kinds
use Rattle.machine.proofs.row.fuel_of.Reads as fuel_of_reads
use Rattle.machine.proofs.row.fuel_of.Kinds as fuel_of_kinds
use Rattle.machine.proofs.row.memory_pages.Reads as memory_pages_reads
use Rattle.machine.proofs.row.memory_pages.Kinds as memory_pages_kinds
use Rattle.machine.proofs.row.table_cells.Reads as table_cells_reads
use Rattle.machine.proofs.row.table_cells.Kinds as table_cells_kinds
use Rattle.machine.specs.Row.{Rowed, InRow}
use Rattle.types.specs.Done.{Done}
use Rattle.memory.specs.declared.grow.GrownMemory.{GrownMemory}
use Rattle.table.specs.declared.grow.GrownTable.{GrownTable}
use Rattle.machine.specs.Machine.{Buffers, buffers}
use Rattle.machine.specs.Step.{Performed}
use Rattle.machine.proofs.records.Machine.new.Reads as new_reads
use Rattle.machine.proofs.records.Machine.new.Kinds as new_kinds
use Rattle.machine.proofs.records.Machine.is_sound.Reads as is_sound_reads
use Rattle.machine.proofs.records.Machine.is_sound.Kinds as is_sound_kinds
use Rattle.machine.proofs.records.Machine.memory_at.Reads as memory_at_reads
use Rattle.machine.proofs.records.Machine.memory_at.Kinds as memory_at_kinds
use Rattle.machine.proofs.records.Machine.table_at.Reads as table_at_reads
use Rattle.machine.proofs.records.Machine.table_at.Kinds as table_at_kinds
use Rattle.machine.proofs.records.Machine.segment_at.Reads as segment_at_reads
use Rattle.machine.proofs.records.Machine.segment_at.Kinds as segment_at_kinds
use Rattle.machine.proofs.records.Machine.decide.Reads as decide_reads
use Rattle.machine.proofs.records.Machine.decide.Kinds as decide_kinds

pub fields_hand_script_one : One 0 hand_script_kinds.ps hand_script_kinds.r hand_script_reads.Pre hand_script_reads.Post
fields_hand_script_one κs a x x' s s' z p q = p ∙ sym q

pub operation_is_well_formed_one : One 0 is_well_formed_kinds.ps is_well_formed_kinds.r is_well_formed_reads.Pre is_well_formed_reads.Post
operation_is_well_formed_one κs a x x' s s' z p q = p ∙ sym q

pub machine_new_one : One 0 new_kinds.ps new_kinds.r new_reads.Pre new_reads.Post
machine_new_one κs a x x' s s' z p q = p ∙ sym q

pub machine_is_sound_one : One 0 is_sound_kinds.ps is_sound_kinds.r is_sound_reads.Pre is_sound_reads.Post
machine_is_sound_one κs a x x' s s' z p q = p ∙ sym q

pub machine_memory_at_one : One 0 memory_at_kinds.ps memory_at_kinds.r memory_at_reads.Pre memory_at_reads.Post
machine_memory_at_one κs a x x' s s' z p q = p ∙ sym q

pub machine_table_at_one : One 0 table_at_kinds.ps table_at_kinds.r table_at_reads.Pre table_at_reads.Post
machine_table_at_one κs a x x' s s' z p q = p ∙ sym q

pub machine_segment_at_one : One 0 segment_at_kinds.ps segment_at_kinds.r segment_at_reads.Pre segment_at_reads.Post
machine_segment_at_one κs a x x' s s' z p q = p ∙ sym q

-- one outcome, and one content of each of the three buffers
pub machine_decide_one : OneWith 3 decide_kinds.ps decide_kinds.r decide_reads.Pre decide_reads.Post Buffers (λ κs s. buffers (s.1.0.now) (s.1.1.0.now) (s.1.1.1.0.now))
machine_decide_one κs a x x' s s' z p q = (ap (λ (o : Performed). o.out) (p ∙ sym q), ap (λ (o : Performed). o.buffers) (p ∙ sym q))

-- the rooms: one result, and one content of the buffer
pub fuel_perform_one : One 0 fuel_kinds.ps fuel_kinds.r fuel_reads.Pre fuel_reads.Post
fuel_perform_one κs a x x' s s' z p q = p ∙ sym q

pub memory_perform_one : OneWith 1 memory_kinds.ps memory_kinds.r memory_reads.Pre memory_reads.Post (List ℕ) (λ κs s. s.1.0.now)
memory_perform_one κs a x x' s s' z p q = (ap (λ (d : Done GrownMemory). d.out) (p ∙ sym q), ap (λ (d : Done GrownMemory). d.cells) (p ∙ sym q))

pub table_perform_one : OneWith 1 table_kinds.ps table_kinds.r table_reads.Pre table_reads.Post (List ℕ) (λ κs s. s.1.0.now)
table_perform_one κs a x x' s s' z p q = (ap (λ (d : Done GrownTable). d.out) (p ∙ sym q), ap (λ (d : Done GrownTable). d.cells) (p ∙ sym q))

-- a machine in place: one answer, and one content of the row and of each of the three buffers
pub row_operate_one : OneWith 4 row_operate_kinds.ps row_operate_kinds.r row_operate_reads.Pre row_operate_reads.Post (List ℕ × Buffers) (λ κs s. (s.0.now, buffers s.1.0.now s.1.1.0.now s.1.1.1.0.now))
row_operate_one κs a x x' s s' z p q = (ap (λ (o : InRow). o.answer) (p ∙ sym q), ap (λ (o : InRow). (o.words, o.buffers)) (p ∙ sym q))

pub row_proceed_one : OneWith 4 proceed_kinds.ps proceed_kinds.r proceed_reads.Pre proceed_reads.Post (List ℕ × Buffers) (λ κs s. (s.0.now, buffers s.1.0.now s.1.1.0.now s.1.1.1.0.now))
row_proceed_one κs a x x' s s' z p q = (ap (λ (o : InRow). o.answer) (p.is ∙ sym q.is), ap (λ (o : InRow). (o.words, o.buffers)) (p.is ∙ sym q.is))

pub row_fresh_one : OneWith 1 fresh_kinds.ps fresh_kinds.r fresh_reads.Pre fresh_reads.Post (List ℕ) (λ κs s. s.0.now)
row_fresh_one κs a x x' s s' z p q = (ap (λ (o : Rowed). o.number) (p ∙ sym q), ap (λ (o : Rowed). o.words) (p ∙ sym q))

pub row_is_ready_one : One 1 is_ready_kinds.ps is_ready_kinds.r is_ready_reads.Pre is_ready_reads.Post
row_is_ready_one κs a x x' s s' z p q = p ∙ sym q

pub row_fuel_of_one : One 1 fuel_of_kinds.ps fuel_of_kinds.r fuel_of_reads.Pre fuel_of_reads.Post
row_fuel_of_one κs a x x' s s' z p q = p ∙ sym q

pub row_memory_pages_one : One 1 memory_pages_kinds.ps memory_pages_kinds.r memory_pages_reads.Pre memory_pages_reads.Post
row_memory_pages_one κs a x x' s s' z p q = p ∙ sym q

pub row_table_cells_one : One 1 table_cells_kinds.ps table_cells_kinds.r table_cells_reads.Pre table_cells_reads.Post
row_table_cells_one κs a x x' s s' z p q = p ∙ sym q
