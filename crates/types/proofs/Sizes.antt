-- Laws of page sizes and sizes in bytes. Assumes nothing.
use Rattle.std.specs.Prelude.{Some, None}
use Rattle.types.proofs.Prelude.{◌≡◌, sym, ap, ◌∙◌, ℕ, ◌^◌, ◌<◌, ◌≤◌, arith, lt-ltb, le-ltb, false, pick_true, pick_false}
use Rattle.types.specs.{declared.memory_ty.PageSize.PageSize, declared.memory_ty.PageSize.TheVariants.One, declared.memory_ty.PageSize.TheVariants.Wasm}
use Rattle.types.specs.{IndexType.max_size}
use Rattle.types.specs.{declared.index_ty.IndexType.IndexType, declared.index_ty.IndexType.TheVariants.I32, declared.index_ty.IndexType.TheVariants.I64}
use Rattle.types.specs.{declared.memory_ty.MemoryType.MemoryType, MemoryType.page_bytes, MemoryType.byte_size, MemoryType.maximum_bytes}

pub page_pos : (p : PageSize) → 0 < page_bytes p
page_pos One = omega arith
page_pos Wasm = omega arith

pub bytes_are : (n : ℕ) → n < 2 ^ 64 → Some n ≡ byte_size n
unfolding byte_size
bytes_are n h = sym (pick_true _ _ _ (lt-ltb _ _ h))

pub bytes_over : (n : ℕ) → 2 ^ 64 ≤ n → None ≡ byte_size n
unfolding byte_size
bytes_over n h = sym (pick_false _ _ _ (le-ltb _ _ h))

-- without a maximum the bound is the largest size
unlimited : (t : MemoryType) → t.limits.bounded ≡ false → maximum_bytes t ≡ byte_size (max_size t.index)
unfolding maximum_bytes
unlimited t h = ap byte_size (pick_false _ _ _ h)

pub unlimited_32 : (t : MemoryType) → t.limits.bounded ≡ false → t.index ≡ I32 → Some 4294967296 ≡ maximum_bytes t
unlimited_32 t h e =
    bytes_are (max_size I32) (omega arith) ∙ sym (unlimited t h ∙ ap (λ (i : IndexType). byte_size (max_size i)) e)

pub unlimited_64 : (t : MemoryType) → t.limits.bounded ≡ false → t.index ≡ I64 → None ≡ maximum_bytes t
unlimited_64 t h e =
    bytes_over (max_size I64) (omega arith) ∙ sym (unlimited t h ∙ ap (λ (i : IndexType). byte_size (max_size i)) e)

-- what a type's sizes need
pub ruleset sizes = (bytes_are, bytes_over, unlimited_32, unlimited_64)
