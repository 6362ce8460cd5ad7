-- Document 01, "The machine" and "Fuel": references of 64 bits, their kinds (func, extern), and the R bytes that one counts.
use Rattle.std.specs.Prelude.{ℕ, Bool, true, false, eqb}
use Rattle.types.specs.declared.raw.{RefType.RefType, RawRef.RawRef, TypedRawRef.TypedRawRef}
use Rattle.types.specs.declared.raw.RefType.TheVariants.{Func, Extern}

-- whether two kinds are the same
abbrev pub same_kind : RefType → RefType → Bool
same_kind Func Func = true
same_kind Func Extern = false
same_kind Extern Func = false
same_kind Extern Extern = true

-- the null reference has no bit set
abbrev pub null_ref : RawRef
null_ref = record { bits = 0 }

-- whether a reference is null
abbrev pub is_null : RawRef → Bool
is_null r = eqb r.bits 0

-- a reference with its kind
abbrev pub typed_of : RawRef → RefType → TypedRawRef
typed_of r k = record { raw = r; ty = k }

-- the null reference of a kind
abbrev pub null_of : RefType → TypedRawRef
null_of k = typed_of null_ref k

-- R of the machine: the size of the crate's RawRef
unfoldable pub raw_bytes : ℕ
raw_bytes = 4
