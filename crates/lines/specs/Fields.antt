-- Document 01, "Operation lines": what the numbers of fields stand for, their ranges, and the way back.
use Rattle.std.specs.Prelude.{ℕ, Bool, true, false, List, [], ◌∷◌, eqb, ltb, get_or}
use Rattle.types.specs.Names.{pick, both, typed_of, Limits, RefType, TypedRawRef, WantedMemory, WantedTable}
use Rattle.types.specs.declared.raw.RefType.TheVariants.{Func, Extern}
use Rattle.memory.specs.Names.{LoadKind, StoreKind}

-- a yes/no field or an element kind is 0 or 1
abbrev pub binary : ℕ → Bool
binary n = ltb n 2

-- a yes/no field says yes by 1
abbrev pub yes : ℕ → Bool
yes n = eqb n 1

-- element kinds: func 0, extern 1
unfoldable pub kind_of : ℕ → RefType
kind_of n = pick (eqb n 0) Func Extern

-- a reference has a kind and bits
abbrev pub reference_of : ℕ → ℕ → TypedRawRef
reference_of kind bits = typed_of (record { bits = bits }) (kind_of kind)

-- an absent maximum is written 0
unfoldable pub absent_as_zero : ℕ → ℕ → Bool
absent_as_zero bounded maximum = pick (eqb bounded 0) (eqb maximum 0) true

-- the ranges of limits: whether there is a maximum, and the maximum
unfoldable pub limit_ranges : ℕ → ℕ → Bool
limit_ranges bounded maximum = both (binary bounded) (absent_as_zero bounded maximum)

-- limits have: has maximum, minimum, maximum
abbrev pub limits_of : ℕ → ℕ → ℕ → Limits
limits_of bounded minimum maximum = record { minimum = minimum; bounded = yes bounded; maximum = maximum }

-- load kinds from 0 on: i32, i64, f32, f64, i32 from 8s, 8u, 16s, 16u, i64 from 8s, 8u, 16s, 16u, 32s, 32u
abbrev pub load_kinds : List LoadKind
load_kinds =
    LoadKind.I32 ∷ LoadKind.I64 ∷ LoadKind.F32 ∷ LoadKind.F64
    ∷ LoadKind.I32From8S ∷ LoadKind.I32From8U ∷ LoadKind.I32From16S ∷ LoadKind.I32From16U
    ∷ LoadKind.I64From8S ∷ LoadKind.I64From8U ∷ LoadKind.I64From16S ∷ LoadKind.I64From16U ∷ LoadKind.I64From32S ∷ LoadKind.I64From32U ∷ []

-- the load kind of a number up to 13
unfoldable pub load_kind_of : ℕ → LoadKind
load_kind_of n = get_or load_kinds n LoadKind.I64From32U

-- store kinds from 0 on: i32, i64, f32, f64, i32 to 8, 16, i64 to 8, 16, 32
abbrev pub store_kinds : List StoreKind
store_kinds =
    StoreKind.I32 ∷ StoreKind.I64 ∷ StoreKind.F32 ∷ StoreKind.F64
    ∷ StoreKind.I32To8 ∷ StoreKind.I32To16 ∷ StoreKind.I64To8 ∷ StoreKind.I64To16 ∷ StoreKind.I64To32 ∷ []

-- the store kind of a number up to 8
unfoldable pub store_kind_of : ℕ → StoreKind
store_kind_of n = get_or store_kinds n StoreKind.I64To32

-- the way back: the number of a yes or no
abbrev pub flag : Bool → ℕ
flag false = 0
flag true = 1

-- of an element kind
abbrev pub kind_number : RefType → ℕ
kind_number Func = 0
kind_number Extern = 1

-- of a load kind
abbrev pub load_number : LoadKind → ℕ
load_number LoadKind.I32 = 0
load_number LoadKind.I64 = 1
load_number LoadKind.F32 = 2
load_number LoadKind.F64 = 3
load_number LoadKind.I32From8S = 4
load_number LoadKind.I32From8U = 5
load_number LoadKind.I32From16S = 6
load_number LoadKind.I32From16U = 7
load_number LoadKind.I64From8S = 8
load_number LoadKind.I64From8U = 9
load_number LoadKind.I64From16S = 10
load_number LoadKind.I64From16U = 11
load_number LoadKind.I64From32S = 12
load_number LoadKind.I64From32U = 13

-- of a store kind
abbrev pub store_number : StoreKind → ℕ
store_number StoreKind.I32 = 0
store_number StoreKind.I64 = 1
store_number StoreKind.F32 = 2
store_number StoreKind.F64 = 3
store_number StoreKind.I32To8 = 4
store_number StoreKind.I32To16 = 5
store_number StoreKind.I64To8 = 6
store_number StoreKind.I64To16 = 7
store_number StoreKind.I64To32 = 8

-- the fields of a reference
abbrev pub reference_fields : TypedRawRef → List ℕ
reference_fields v = kind_number v.ty ∷ v.raw.bits ∷ []

-- the fields of a memory's type
abbrev pub memory_fields : WantedMemory → List ℕ
memory_fields t =
    flag t.wide ∷ flag t.limits.bounded ∷ t.limits.minimum ∷ t.limits.maximum ∷ t.exponent ∷ []

-- the fields of a table's type, and of the reference behind it
abbrev pub table_fields : WantedTable → TypedRawRef → List ℕ
table_fields t v =
    kind_number t.element ∷ flag t.wide ∷ flag t.limits.bounded ∷ t.limits.minimum ∷ t.limits.maximum ∷ reference_fields v
