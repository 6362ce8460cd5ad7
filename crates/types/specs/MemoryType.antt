-- WebAssembly Core Specification 3.0, Validation, Types and Matching, memory types; document 01, "Types", for the page exponent and the page bound.
use Rattle.std.specs.Prelude.{ℕ, ◌*◌, ◌/◌, ◌^◌, Bool, true, false, eqb, ltb, Ok, Err, Some, None, Result, Option}
use Rattle.types.specs.{Numbers.word64, Pick.pick, Pick.both, Answer.refusal, IndexType.max_size, IndexType.index_of, IndexType.same_index}
use Rattle.types.specs.{Limits.valid_limits, Limits.match_limits, Limits.from_minimum}
use Rattle.types.specs.declared.{limits.Limits.Limits, memory_ty.PageSize.PageSize, memory_ty.MemoryType.MemoryType}
use Rattle.types.specs.declared.memory_ty.PageSize.TheVariants.{One, Wasm}
use Rattle.types.specs.declared.answer.Refusal.{Refusal}

-- the exponent of a Wasm page, of 65,536 bytes
abbrev pub wasm_exponent : ℕ
wasm_exponent = 16

-- the page exponent, 0 or 16
abbrev pub log2_of : PageSize → ℕ
log2_of One = 0
log2_of Wasm = wasm_exponent

-- the bytes of a page
abbrev pub page_bytes : PageSize → ℕ
page_bytes p = 2 ^ log2_of p

-- whether two pages are the same
abbrev pub same_page : PageSize → PageSize → Bool
same_page One One = true
same_page One Wasm = false
same_page Wasm One = false
same_page Wasm Wasm = true

-- the page bound: the largest size shifted right by the exponent
unfoldable pub page_bound : MemoryType → ℕ
page_bound t = max_size t.index / 2 ^ log2_of t.page

-- minimum and maximum may equal the page bound
unfoldable pub valid_memory : MemoryType → Bool
valid_memory t = valid_limits t.limits (page_bound t)

-- the type of these fields
abbrev pub memory_type : Bool → PageSize → Limits → MemoryType
memory_type wide p l = record { index = index_of wide; page = p; limits = l }

-- the exponents there are
abbrev pub valid_exponent : ℕ → Bool
valid_exponent e = pick (eqb e 0) true (eqb e wasm_exponent)

-- the page of an exponent
abbrev pub page_of : ℕ → PageSize
page_of e = pick (eqb e 0) One Wasm

-- a valid type, or 1
unfoldable pub validated : MemoryType → Result MemoryType Refusal
validated t = pick (valid_memory t) (Ok t) (Err (refusal 1 0))

-- the type of five fields: 64-bit or not, minimum, maximum if there is one, page exponent; or 1
unfoldable pub build_memory : Bool → Limits → ℕ → Result MemoryType Refusal
build_memory wide l e =
    pick (both (valid_exponent e) (valid_memory (memory_type wide (page_of e) l)))
    (Ok (memory_type wide (page_of e) l))
    (Err (refusal 1 0))

-- a size in bytes, where it is below 2^64
unfoldable pub byte_size : ℕ → Option ℕ
byte_size n = pick (ltb n word64) (Some n) None

-- the minimum in bytes
unfoldable pub minimum_bytes : MemoryType → Option ℕ
minimum_bytes t = byte_size (t.limits.minimum * page_bytes t.page)

-- the maximum's bytes, or the largest size where there is no maximum
unfoldable pub maximum_bytes : MemoryType → Option ℕ
maximum_bytes t =
    byte_size (pick t.limits.bounded (t.limits.maximum * page_bytes t.page) (max_size t.index))

-- a is a subtype of b: same index type, same page size, matching limits
unfoldable pub match_memory : MemoryType → MemoryType → Bool
match_memory a b =
    both (same_index a.index b.index)
    (both (same_page a.page b.page) (match_limits a.limits b.limits))

-- the dynamic type has the present size as minimum
unfoldable pub dynamic_memory : MemoryType → ℕ → MemoryType
dynamic_memory t n = record { index = t.index; page = t.page; limits = from_minimum t.limits n }
