-- Uniqueness: each public function's contract names one answer, and one content of what it is lent to write, for each input. Assumes nothing.
use Rattle.types.proofs.Prelude.{sym, ◌∙◌, List, ℕ}
use Rattle.types.proofs.One.{One, OneWith}
use Rattle.types.proofs.Dones.{done_parts}
use Rattle.memory.proofs.access.Width.bytes.Reads as width_bytes_reads
use Rattle.memory.proofs.access.Width.bytes.Kinds as width_bytes_kinds
use Rattle.memory.proofs.access.LoadKind.width.Reads as load_kind_width_reads
use Rattle.memory.proofs.access.LoadKind.width.Kinds as load_kind_width_kinds
use Rattle.memory.proofs.access.StoreKind.width.Reads as store_kind_width_reads
use Rattle.memory.proofs.access.StoreKind.width.Kinds as store_kind_width_kinds
use Rattle.memory.proofs.access.locate.Reads as access_locate_reads
use Rattle.memory.proofs.access.locate.Kinds as access_locate_kinds
use Rattle.memory.proofs.access.load.Reads as access_load_reads
use Rattle.memory.proofs.access.load.Kinds as access_load_kinds
use Rattle.memory.proofs.access.store.Reads as access_store_reads
use Rattle.memory.proofs.access.store.Kinds as access_store_kinds
use Rattle.memory.proofs.memory.Memory.grow.Reads as memory_grow_reads
use Rattle.memory.proofs.memory.Memory.grow.Kinds as memory_grow_kinds
use Rattle.memory.proofs.memory.Memory.pages.Reads as memory_pages_reads
use Rattle.memory.proofs.memory.Memory.pages.Kinds as memory_pages_kinds
use Rattle.memory.proofs.memory.Memory.dynamic_ty.Reads as memory_dynamic_ty_reads
use Rattle.memory.proofs.memory.Memory.dynamic_ty.Kinds as memory_dynamic_ty_kinds
use Rattle.memory.proofs.memory.Memory.is_sound.Reads as memory_is_sound_reads
use Rattle.memory.proofs.memory.Memory.is_sound.Kinds as memory_is_sound_kinds
use Rattle.memory.proofs.memory.Memory.load.Reads as memory_load_reads
use Rattle.memory.proofs.memory.Memory.load.Kinds as memory_load_kinds
use Rattle.memory.proofs.memory.Memory.store.Reads as memory_store_reads
use Rattle.memory.proofs.memory.Memory.store.Kinds as memory_store_kinds
use Rattle.memory.proofs.memory.Memory.read.Reads as memory_read_reads
use Rattle.memory.proofs.memory.Memory.read.Kinds as memory_read_kinds
use Rattle.memory.proofs.memory.Memory.write.Reads as memory_write_reads
use Rattle.memory.proofs.memory.Memory.write.Kinds as memory_write_kinds
use Rattle.memory.proofs.new.new_memory.Reads as new_new_memory_reads
use Rattle.memory.proofs.new.new_memory.Kinds as new_new_memory_kinds

pub width_bytes_one : One 0 width_bytes_kinds.ps width_bytes_kinds.r width_bytes_reads.Pre width_bytes_reads.Post
width_bytes_one κs a x x' s s' z p q = p ∙ sym q

pub load_kind_width_one : One 0 load_kind_width_kinds.ps load_kind_width_kinds.r load_kind_width_reads.Pre load_kind_width_reads.Post
load_kind_width_one κs a x x' s s' z p q = p ∙ sym q

pub store_kind_width_one : One 0 store_kind_width_kinds.ps store_kind_width_kinds.r store_kind_width_reads.Pre store_kind_width_reads.Post
store_kind_width_one κs a x x' s s' z p q = p ∙ sym q

pub access_locate_one : One 0 access_locate_kinds.ps access_locate_kinds.r access_locate_reads.Pre access_locate_reads.Post
access_locate_one κs a x x' s s' z p q = p ∙ sym q

pub access_load_one : One 1 access_load_kinds.ps access_load_kinds.r access_load_reads.Pre access_load_reads.Post
access_load_one κs a x x' s s' z p q = p ∙ sym q

pub access_store_one : OneWith 1 access_store_kinds.ps access_store_kinds.r access_store_reads.Pre access_store_reads.Post (List ℕ) (λ κs s. s.0.now)
access_store_one κs a x x' s s' z p q = done_parts (p ∙ sym q)

pub memory_grow_one : OneWith 1 memory_grow_kinds.ps memory_grow_kinds.r memory_grow_reads.Pre memory_grow_reads.Post (List ℕ) (λ κs s. s.1.0.now)
memory_grow_one κs a x x' s s' z p q = done_parts (p ∙ sym q)

pub memory_pages_one : One 0 memory_pages_kinds.ps memory_pages_kinds.r memory_pages_reads.Pre memory_pages_reads.Post
memory_pages_one κs a x x' s s' z p q = p ∙ sym q

pub memory_dynamic_ty_one : One 0 memory_dynamic_ty_kinds.ps memory_dynamic_ty_kinds.r memory_dynamic_ty_reads.Pre memory_dynamic_ty_reads.Post
memory_dynamic_ty_one κs a x x' s s' z p q = p ∙ sym q

pub memory_is_sound_one : One 0 memory_is_sound_kinds.ps memory_is_sound_kinds.r memory_is_sound_reads.Pre memory_is_sound_reads.Post
memory_is_sound_one κs a x x' s s' z p q = p ∙ sym q

pub memory_load_one : One 1 memory_load_kinds.ps memory_load_kinds.r memory_load_reads.Pre memory_load_reads.Post
memory_load_one κs a x x' s s' z p q = p ∙ sym q

pub memory_store_one : OneWith 1 memory_store_kinds.ps memory_store_kinds.r memory_store_reads.Pre memory_store_reads.Post (List ℕ) (λ κs s. s.1.0.now)
memory_store_one κs a x x' s s' z p q = done_parts (p ∙ sym q)

pub memory_read_one : OneWith 2 memory_read_kinds.ps memory_read_kinds.r memory_read_reads.Pre memory_read_reads.Post (List ℕ) (λ κs s. s.1.1.1.0.now)
memory_read_one κs a x x' s s' z p q = done_parts (p ∙ sym q)

pub memory_write_one : OneWith 2 memory_write_kinds.ps memory_write_kinds.r memory_write_reads.Pre memory_write_reads.Post (List ℕ) (λ κs s. s.1.0.now)
memory_write_one κs a x x' s s' z p q = done_parts (p ∙ sym q)

pub new_new_memory_one : OneWith 1 new_new_memory_kinds.ps new_new_memory_kinds.r new_new_memory_reads.Pre new_new_memory_reads.Post (List ℕ) (λ κs s. s.1.1.1.0.now)
new_new_memory_one κs a x x' s s' z p q = done_parts (p ∙ sym q)
