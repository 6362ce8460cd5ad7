-- Loads and stores: document 01, "Access"; WebAssembly Core Specification 3.0, Execution, Instructions, memory instructions.
use Rattle.std.specs.Prelude.{ℕ, ◌+◌, List, ltb, length, pos, Ok, Some, None, Option}
use Rattle.std.specs.Int.{w8, w16, w32, w64}
use Rattle.std.proofs.Common.{to_z}
use Rattle.types.specs.Names.{word64, pick, Done, done, inside, cut, over, float32, float64, refuse, accept, Answer, Value}
use Rattle.memory.specs.LittleEndian.{le_bytes, le_value}
use Rattle.memory.specs.declared.access.{Width.Width, LoadKind.LoadKind, StoreKind.StoreKind}

-- the bytes of a width
abbrev pub width_bytes : Width → ℕ
width_bytes Width.W8 = 1
width_bytes Width.W16 = 2
width_bytes Width.W32 = 4
width_bytes Width.W64 = 8

-- the effective address is pointer plus offset; a sum above 2^64-1 is outside, and so is an access whose end passes the size
unfoldable pub address_of : ℕ → ℕ → ℕ → ℕ → Option ℕ
address_of size ptr offset n =
    pick (ltb (ptr + offset) word64) (pick (inside (ptr + offset) n size) (Some (ptr + offset)) None) None

-- how many bytes a load reads
abbrev pub load_width : LoadKind → Width
load_width LoadKind.I32 = Width.W32
load_width LoadKind.I64 = Width.W64
load_width LoadKind.F32 = Width.W32
load_width LoadKind.F64 = Width.W64
load_width LoadKind.I32From8S = Width.W8
load_width LoadKind.I32From8U = Width.W8
load_width LoadKind.I32From16S = Width.W16
load_width LoadKind.I32From16U = Width.W16
load_width LoadKind.I64From8S = Width.W8
load_width LoadKind.I64From8U = Width.W8
load_width LoadKind.I64From16S = Width.W16
load_width LoadKind.I64From16U = Width.W16
load_width LoadKind.I64From32S = Width.W32
load_width LoadKind.I64From32U = Width.W32

-- the value of the bits read: extended by sign or by zero; floats by their bits
unfoldable pub extend : LoadKind → ℕ → Value
extend LoadKind.I32 n = Value.I32 (to_z w32 n)
extend LoadKind.I64 n = Value.I64 (to_z w64 n)
extend LoadKind.F32 n = float32 n
extend LoadKind.F64 n = float64 n
extend LoadKind.I32From8S n = Value.I32 (to_z w8 n)
extend LoadKind.I32From8U n = Value.I32 (pos n)
extend LoadKind.I32From16S n = Value.I32 (to_z w16 n)
extend LoadKind.I32From16U n = Value.I32 (pos n)
extend LoadKind.I64From8S n = Value.I64 (to_z w8 n)
extend LoadKind.I64From8U n = Value.I64 (pos n)
extend LoadKind.I64From16S n = Value.I64 (to_z w16 n)
extend LoadKind.I64From16U n = Value.I64 (pos n)
extend LoadKind.I64From32S n = Value.I64 (to_z w32 n)
extend LoadKind.I64From32U n = Value.I64 (pos n)

-- what stands at a place, little-endian
unfoldable pub loaded_of : LoadKind → List ℕ → ℕ → Answer
loaded_of k bs at = Ok (extend k (le_value (cut bs at (width_bytes (load_width k)))))

-- 9 outside
unfoldable pub load_found : LoadKind → List ℕ → ℕ → Option ℕ → Answer
load_found k bs base None = refuse 9 0
load_found k bs base (Some a) = loaded_of k bs (base + a)

-- a load from the memory whose size bytes stand from base on
unfoldable pub load_at : LoadKind → List ℕ → ℕ → ℕ → ℕ → ℕ → Answer
load_at k bs base size ptr offset = load_found k bs base (address_of size ptr offset (width_bytes (load_width k)))

-- a load from a memory that has all the bytes
abbrev pub load : LoadKind → List ℕ → ℕ → ℕ → Answer
load k bs ptr offset = load_at k bs 0 (length bs) ptr offset

-- how many bytes a store writes
abbrev pub store_width : StoreKind → Width
store_width StoreKind.I32 = Width.W32
store_width StoreKind.I64 = Width.W64
store_width StoreKind.F32 = Width.W32
store_width StoreKind.F64 = Width.W64
store_width StoreKind.I32To8 = Width.W8
store_width StoreKind.I32To16 = Width.W16
store_width StoreKind.I64To8 = Width.W8
store_width StoreKind.I64To16 = Width.W16
store_width StoreKind.I64To32 = Width.W32

-- 9 outside, and then no byte changes; else the low bytes of the value, the lowest first
unfoldable pub store_found : StoreKind → List ℕ → ℕ → ℕ → Option ℕ → Done Answer
store_found k bs base v None = done (refuse 9 0) bs
store_found k bs base v (Some a) = done (accept 0) (over bs (base + a) (le_bytes (width_bytes (store_width k)) v))

-- a store to the memory whose size bytes stand from base on
unfoldable pub store_at : StoreKind → List ℕ → ℕ → ℕ → ℕ → ℕ → ℕ → Done Answer
store_at k bs base size ptr offset v =
    store_found k bs base v (address_of size ptr offset (width_bytes (store_width k)))

-- a store to a memory that has all the bytes
abbrev pub store : StoreKind → List ℕ → ℕ → ℕ → ℕ → Done Answer
store k bs ptr offset v = store_at k bs 0 (length bs) ptr offset v
