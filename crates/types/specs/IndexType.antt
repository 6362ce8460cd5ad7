-- WebAssembly Core Specification 3.0, Structure, Types, address types; document 01, "Modules in port order": index type; largest size 2^32 or 2^64.
use Rattle.std.specs.Prelude.{ℕ, ◌^◌, Bool, true, false}
use Rattle.types.specs.declared.index_ty.IndexType.{IndexType}
use Rattle.types.specs.declared.index_ty.IndexType.TheVariants.{I32, I64}

-- the N of an address type
abbrev pub index_bits : IndexType → ℕ
index_bits I32 = 32
index_bits I64 = 64

-- the largest size
abbrev pub max_size : IndexType → ℕ
max_size i = 2 ^ index_bits i

-- whether addresses have 64 bits
abbrev pub is64 : IndexType → Bool
is64 I32 = false
is64 I64 = true

-- the address type of 64 bits, or else of 32
abbrev pub index_of : Bool → IndexType
index_of false = I32
index_of true = I64

-- whether two are the same
abbrev pub same_index : IndexType → IndexType → Bool
same_index I32 I32 = true
same_index I32 I64 = false
same_index I64 I32 = false
same_index I64 I64 = true

-- the smaller of two
abbrev pub smaller : IndexType → IndexType → IndexType
smaller I32 j = I32
smaller I64 j = j
