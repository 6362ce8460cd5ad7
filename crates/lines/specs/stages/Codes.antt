-- For the code and its proofs alone: what fields stand for where they are in range.
use Rattle.std.specs.Prelude.{ℕ, min, Bool, leb, Option, Some, None}
use Rattle.types.specs.Names.{pick, both, WantedMemory, WantedTable}
use Rattle.lines.specs.Fields.{binary, yes, kind_of, limit_ranges, limits_of}

-- what fields stand for where they are in range
abbrev pub in_range : {A : Type 0} → Bool → A → Option A
in_range ok x = pick ok (Some x) None

-- the range of a load kind
abbrev pub load_in : ℕ → Bool
load_in n = leb n 13

-- that of a store kind
abbrev pub store_in : ℕ → Bool
store_in n = leb n 8

-- the ranges of a memory's type
abbrev pub memory_ranges : ℕ → ℕ → ℕ → ℕ → Bool
memory_ranges wide bounded maximum exponent = both (binary wide) (both (leb exponent 255) (limit_ranges bounded maximum))

-- a memory's type
abbrev pub wanted_memory : ℕ → ℕ → ℕ → ℕ → ℕ → WantedMemory
wanted_memory wide bounded minimum maximum exponent =
    record { wide = yes wide; limits = limits_of bounded minimum maximum; exponent = min exponent 255 }

-- those of a table
abbrev pub table_ranges : ℕ → ℕ → ℕ → ℕ → Bool
table_ranges kind wide bounded maximum = both (binary kind) (both (binary wide) (limit_ranges bounded maximum))

-- a table's type
abbrev pub wanted_table : ℕ → ℕ → ℕ → ℕ → ℕ → WantedTable
wanted_table kind wide bounded minimum maximum =
    record { element = kind_of kind; wide = yes wide; limits = limits_of bounded minimum maximum }

-- the ranges of a segment
abbrev pub segment_ranges : ℕ → ℕ → Bool
segment_ranges kind count = both (leb count 4) (binary kind)
