-- Uniqueness: each public function's contract names one answer, and one content of what it is lent to write, for each input. Assumes nothing.
use Rattle.types.proofs.Prelude.{sym, ◌∙◌, List, ℕ}
use Rattle.types.proofs.One.{One, OneWith}
use Rattle.types.proofs.Dones.{done_parts}
use Rattle.table.proofs.table.Table.copy.Reads as table_copy_reads
use Rattle.table.proofs.table.Table.copy.Kinds as table_copy_kinds
use Rattle.table.proofs.element.ElementSegment.new.Reads as element_segment_new_reads
use Rattle.table.proofs.element.ElementSegment.new.Kinds as element_segment_new_kinds
use Rattle.table.proofs.element.ElementSegment.is_sound.Reads as element_segment_is_sound_reads
use Rattle.table.proofs.element.ElementSegment.is_sound.Kinds as element_segment_is_sound_kinds
use Rattle.table.proofs.element.ElementSegment.item.Reads as element_segment_item_reads
use Rattle.table.proofs.element.ElementSegment.item.Kinds as element_segment_item_kinds
use Rattle.table.proofs.element.ElementSegment.drop_items.Reads as element_segment_drop_items_reads
use Rattle.table.proofs.element.ElementSegment.drop_items.Kinds as element_segment_drop_items_kinds
use Rattle.table.proofs.table.Table.fill.Reads as table_fill_reads
use Rattle.table.proofs.table.Table.fill.Kinds as table_fill_kinds
use Rattle.table.proofs.table.Table.grow.Reads as table_grow_reads
use Rattle.table.proofs.table.Table.grow.Kinds as table_grow_kinds
use Rattle.table.proofs.table.Table.init.Reads as table_init_reads
use Rattle.table.proofs.table.Table.init.Kinds as table_init_kinds
use Rattle.table.proofs.new.new_table.Reads as new_new_table_reads
use Rattle.table.proofs.new.new_table.Kinds as new_new_table_kinds
use Rattle.table.proofs.table.Table.is_sound.Reads as table_is_sound_reads
use Rattle.table.proofs.table.Table.is_sound.Kinds as table_is_sound_kinds
use Rattle.table.proofs.table.Table.get.Reads as table_get_reads
use Rattle.table.proofs.table.Table.get.Kinds as table_get_kinds
use Rattle.table.proofs.table.Table.set.Reads as table_set_reads
use Rattle.table.proofs.table.Table.set.Kinds as table_set_kinds

pub table_copy_one : OneWith 1 table_copy_kinds.ps table_copy_kinds.r table_copy_reads.Pre table_copy_reads.Post (List ℕ) (λ κs s. s.1.1.0.now)
table_copy_one κs a x x' s s' z p q = done_parts (p ∙ sym q)

pub element_segment_new_one : OneWith 2 element_segment_new_kinds.ps element_segment_new_kinds.r element_segment_new_reads.Pre element_segment_new_reads.Post (List ℕ) (λ κs s. s.1.1.0.now)
element_segment_new_one κs a x x' s s' z p q = done_parts (p ∙ sym q)

pub element_segment_is_sound_one : One 0 element_segment_is_sound_kinds.ps element_segment_is_sound_kinds.r element_segment_is_sound_reads.Pre element_segment_is_sound_reads.Post
element_segment_is_sound_one κs a x x' s s' z p q = p ∙ sym q

pub element_segment_item_one : One 1 element_segment_item_kinds.ps element_segment_item_kinds.r element_segment_item_reads.Pre element_segment_item_reads.Post
element_segment_item_one κs a x x' s s' z p q = p ∙ sym q

pub element_segment_drop_items_one : One 0 element_segment_drop_items_kinds.ps element_segment_drop_items_kinds.r element_segment_drop_items_reads.Pre element_segment_drop_items_reads.Post
element_segment_drop_items_one κs a x x' s s' z p q = p ∙ sym q

pub table_fill_one : OneWith 1 table_fill_kinds.ps table_fill_kinds.r table_fill_reads.Pre table_fill_reads.Post (List ℕ) (λ κs s. s.1.0.now)
table_fill_one κs a x x' s s' z p q = done_parts (p ∙ sym q)

pub table_grow_one : OneWith 1 table_grow_kinds.ps table_grow_kinds.r table_grow_reads.Pre table_grow_reads.Post (List ℕ) (λ κs s. s.1.0.now)
table_grow_one κs a x x' s s' z p q = done_parts (p ∙ sym q)

pub table_init_one : OneWith 2 table_init_kinds.ps table_init_kinds.r table_init_reads.Pre table_init_reads.Post (List ℕ) (λ κs s. s.1.1.0.now)
table_init_one κs a x x' s s' z p q = done_parts (p ∙ sym q)

pub new_new_table_one : OneWith 1 new_new_table_kinds.ps new_new_table_kinds.r new_new_table_reads.Pre new_new_table_reads.Post (List ℕ) (λ κs s. s.1.1.1.1.0.now)
new_new_table_one κs a x x' s s' z p q = done_parts (p ∙ sym q)

pub table_is_sound_one : One 0 table_is_sound_kinds.ps table_is_sound_kinds.r table_is_sound_reads.Pre table_is_sound_reads.Post
table_is_sound_one κs a x x' s s' z p q = p ∙ sym q

pub table_get_one : One 1 table_get_kinds.ps table_get_kinds.r table_get_reads.Pre table_get_reads.Post
table_get_one κs a x x' s s' z p q = p ∙ sym q

pub table_set_one : OneWith 1 table_set_kinds.ps table_set_kinds.r table_set_reads.Pre table_set_reads.Post (List ℕ) (λ κs s. s.1.0.now)
table_set_one κs a x x' s s' z p q = done_parts (p ∙ sym q)
