-- Laws of what the numbers of fields stand for: each way, for every number in range. Assumes nothing.
use Rattle.types.proofs.Prelude.{◌≡◌, refl, ap, Bool, true, false, [], ◌∷◌, ℕ, zero, suc, ◌≤◌, arith, leb, ltb-true, leb-true, le-leb, eq-eqb}
use Rattle.types.proofs.Prelude.{both_true, both_1, both_2}
use Prim.Native.Nat.{min}
use Rattle.types.specs.{Pick.pick, Pick.both, Names.RefType, Names.TypedRawRef, Names.WantedMemory, Names.WantedTable}
use Rattle.types.specs.declared.raw.RefType.TheVariants.{Func, Extern}
use Rattle.memory.specs.Names.{LoadKind, StoreKind}
use Rattle.memory.specs.declared.access.LoadKind.TheVariants as load
use Rattle.memory.specs.declared.access.StoreKind.TheVariants as store
use Rattle.lines.specs.Fields.{binary, yes, kind_of, reference_of, absent_as_zero, limit_ranges}
use Rattle.lines.specs.Fields.{load_kind_of, store_kind_of, flag, kind_number, load_number, store_number, reference_fields, memory_fields, table_fields}
use Rattle.lines.specs.stages.Codes.{memory_ranges, wanted_memory, table_ranges, wanted_table}
use Rattle.lines.specs.Sayable.{LimitsSaid, MemorySaid}
use Rattle.lines.proofs.Entries.{right, comes_back}

-- a number in range comes back
pub load_number_lem : (n : ℕ) → n ≤ 13 → load_number (load_kind_of n) ≡ n
unfolding load_kind_of right
load_number_lem n h = comes_back (λ (n : ℕ). load_number (load_kind_of n)) 14 tt n (omega arith)

pub store_number_lem : (n : ℕ) → n ≤ 8 → store_number (store_kind_of n) ≡ n
unfolding store_kind_of right
store_number_lem n h = comes_back (λ (n : ℕ). store_number (store_kind_of n)) 9 tt n (omega arith)

-- a kind comes back, and its number is in range
pub load_said : (k : LoadKind) → (leb (load_number k) 13 ≡ true) × (load_kind_of (load_number k) ≡ k)
unfolding load_kind_of
load_said load.I32 = (refl, refl)
load_said load.I64 = (refl, refl)
load_said load.F32 = (refl, refl)
load_said load.F64 = (refl, refl)
load_said load.I32From8S = (refl, refl)
load_said load.I32From8U = (refl, refl)
load_said load.I32From16S = (refl, refl)
load_said load.I32From16U = (refl, refl)
load_said load.I64From8S = (refl, refl)
load_said load.I64From8U = (refl, refl)
load_said load.I64From16S = (refl, refl)
load_said load.I64From16U = (refl, refl)
load_said load.I64From32S = (refl, refl)
load_said load.I64From32U = (refl, refl)

pub store_said : (k : StoreKind) → (leb (store_number k) 8 ≡ true) × (store_kind_of (store_number k) ≡ k)
unfolding store_kind_of
store_said store.I32 = (refl, refl)
store_said store.I64 = (refl, refl)
store_said store.F32 = (refl, refl)
store_said store.F64 = (refl, refl)
store_said store.I32To8 = (refl, refl)
store_said store.I32To16 = (refl, refl)
store_said store.I64To8 = (refl, refl)
store_said store.I64To16 = (refl, refl)
store_said store.I64To32 = (refl, refl)

-- a yes or no, and an element kind
pub flag_said : (b : Bool) → (binary (flag b) ≡ true) × (yes (flag b) ≡ b)
flag_said true = (refl, refl)
flag_said false = (refl, refl)

pub kind_said : (k : RefType) → (binary (kind_number k) ≡ true) × (kind_of (kind_number k) ≡ k)
unfolding kind_of pick
kind_said Func = (refl, refl)
kind_said Extern = (refl, refl)

pub flag_number : (n : ℕ) → binary n ≡ true → flag (yes n) ≡ n
flag_number zero h = refl
flag_number (suc zero) h = refl
flag_number (suc (suc n)) h = absurd (omega (arith, ltb-true (suc (suc n)) 2 h))

pub kind_number_lem : (n : ℕ) → binary n ≡ true → kind_number (kind_of n) ≡ n
unfolding kind_of pick
kind_number_lem zero h = refl
kind_number_lem (suc zero) h = refl
kind_number_lem (suc (suc n)) h = absurd (omega (arith, ltb-true (suc (suc n)) 2 h))

-- a reference, and its fields
pub reference_said : (v : TypedRawRef) → reference_of (kind_number v.ty) v.raw.bits ≡ v
reference_said v = rw (kind_said v.ty).1 refl

pub reference_fields_lem : (kind bits : ℕ) → binary kind ≡ true → reference_fields (reference_of kind bits) ≡ kind ∷ bits ∷ []
reference_fields_lem kind bits h = ap (λ (n : ℕ). n ∷ bits ∷ []) (kind_number_lem kind h)

-- limits that a line can say are in range
limits_in : (b : Bool) (maximum : ℕ) → (b ≡ false → maximum ≡ 0) → limit_ranges (flag b) maximum ≡ true
unfolding limit_ranges absent_as_zero both pick
limits_in true maximum h = refl
limits_in false maximum h = eq-eqb maximum 0 (h refl)

-- a memory's type, and its fields
pub memory_in_lem : (t : WantedMemory) → MemorySaid t
    → memory_ranges (flag t.wide) (flag t.limits.bounded) t.limits.maximum t.exponent ≡ true
unfolding MemorySaid LimitsSaid
memory_in_lem t h =
    both_true _ _ (flag_said t.wide).0 (both_true _ _ (le-leb _ _ h.0) (limits_in t.limits.bounded t.limits.maximum h.1))

pub memory_said : (t : WantedMemory) → MemorySaid t
    → wanted_memory (flag t.wide) (flag t.limits.bounded) t.limits.minimum t.limits.maximum t.exponent ≡ t
unfolding MemorySaid
memory_said t h =
    let m : t.exponent ≤ 255 = h.0 in
    let e : min t.exponent 255 ≡ t.exponent = omega arith in
    rw ((flag_said t.wide).1, (flag_said t.limits.bounded).1, e) refl

pub memory_fields_lem : (wide bounded minimum maximum exponent : ℕ) → memory_ranges wide bounded maximum exponent ≡ true
    → memory_fields (wanted_memory wide bounded minimum maximum exponent) ≡ wide ∷ bounded ∷ minimum ∷ maximum ∷ exponent ∷ []
unfolding limit_ranges
memory_fields_lem wide bounded minimum maximum exponent h =
    let r = both_2 _ _ h in
    let m : exponent ≤ 255 = leb-true _ _ (both_1 _ _ r) in
    let e : min exponent 255 ≡ exponent = omega arith in
    let f : flag (yes bounded) ≡ bounded = flag_number bounded (both_1 _ _ (both_2 _ _ r)) in
    let g : flag (yes wide) ≡ wide = flag_number wide (both_1 _ _ h) in
    rw (g, f, e) refl

-- a table's type and its initial reference, and their fields
pub table_in_lem : (t : WantedTable) → LimitsSaid t.limits
    → table_ranges (kind_number t.element) (flag t.wide) (flag t.limits.bounded) t.limits.maximum ≡ true
unfolding LimitsSaid
table_in_lem t h =
    both_true _ _ (kind_said t.element).0 (both_true _ _ (flag_said t.wide).0 (limits_in t.limits.bounded t.limits.maximum h))

pub table_said : (t : WantedTable)
    → wanted_table (kind_number t.element) (flag t.wide) (flag t.limits.bounded) t.limits.minimum t.limits.maximum ≡ t
table_said t = rw ((kind_said t.element).1, (flag_said t.wide).1, (flag_said t.limits.bounded).1) refl

pub table_fields_lem : (kind wide bounded minimum maximum initial bits : ℕ) → both (binary initial) (table_ranges kind wide bounded maximum) ≡ true
    → table_fields (wanted_table kind wide bounded minimum maximum) (reference_of initial bits) ≡ kind ∷ wide ∷ bounded ∷ minimum ∷ maximum ∷ initial ∷ bits ∷ []
unfolding limit_ranges
table_fields_lem kind wide bounded minimum maximum initial bits h =
    let r = both_2 _ _ h in
    let s = both_2 _ _ r in
    rw (kind_number_lem kind (both_1 _ _ r), flag_number wide (both_1 _ _ s), flag_number bounded (both_1 _ _ (both_2 _ _ s)), kind_number_lem initial (both_1 _ _ h)) refl
