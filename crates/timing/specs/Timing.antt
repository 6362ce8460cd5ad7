-- The records that the benches build from numbers, and what an operation on them leaves.
use Rattle.std.specs.Prelude.{ℕ, Bool, true, false, ◌≡◌, List, Ok, Err, Result}
use Rattle.types.specs.Answer.{number_of, shown_of}
use Rattle.types.specs.Answer.{Answer}
use Rattle.types.specs.declared.fuel.Fuel.{Fuel}
use Rattle.types.specs.Done.{Done}
use Rattle.types.specs.declared.grant.Spanned.{Spanned}
use Rattle.types.specs.declared.span.CopySpan.{CopySpan}
use Rattle.types.specs.declared.span.FillSpan.{FillSpan}
use Rattle.types.specs.IndexType.{index_of}
use Rattle.types.specs.declared.memory_ty.PageSize.{PageSize}
use Rattle.types.specs.declared.memory_ty.PageSize.TheVariants.{One, Wasm}
use Rattle.types.specs.declared.raw.RefType.TheVariants.{Func}
use Rattle.types.specs.declared.raw.TypedRawRef.{TypedRawRef}
use Rattle.memory.specs.declared.grow.GrownMemory.{GrownMemory}
use Rattle.memory.specs.declared.memory.Memory.{Memory}
use Rattle.table.specs.declared.table.Table.{Table}
use Rattle.table.specs.declared.element.ElementSegment.{ElementSegment}
use Rattle.types.specs.declared.answer.Refusal.{Refusal}

-- pages of 64 KiB, or of one byte
unfoldable pub page_of : Bool → PageSize
page_of true = Wasm
page_of false = One

-- a memory at the start of its buffer, with minimum 0 and no maximum
unfoldable pub memory_of : Bool → Bool → ℕ → ℕ → Memory
memory_of wide wasm room size =
    record { ty = record { index = index_of wide; page = page_of wasm; limits = record { minimum = 0; bounded = false; maximum = 0 } }; start = 0; room = room; size = size }

-- fuel with so many bytes a unit
unfoldable pub fuel_of : Bool → ℕ → ℕ → Fuel
fuel_of metered remaining per =
    record { remaining = remaining; enabled = metered; costs = record { copied = per; translated = 7; validated = 2 } }

-- of a growth: the number, the bytes, the size and the fuel left
pub record Grew (g : Done GrownMemory) (result : ℕ) (bytes : List ℕ) (size left : ℕ) : Type 0 where
  pub number : result ≡ number_of g.out.answer
  pub cells : bytes ≡ g.cells
  pub sized : size ≡ g.out.memory.size
  pub fuel : left ≡ g.out.fuel.remaining

-- of a host read or write: the number, and the buffer that was written
pub record Took (s : Done Answer) (result : ℕ) (bytes : List ℕ) : Type 0 where
  pub number : result ≡ number_of s.out
  pub cells : bytes ≡ s.cells

-- a fuel step's number
unfoldable pub step_number : Result Fuel Refusal → ℕ
step_number (Ok f) = 0
step_number (Err r) = r.number

-- what it leaves, or what there was
unfoldable pub step_left : Result Fuel Refusal → ℕ → ℕ
step_left (Ok f) old = f.remaining
step_left (Err r) old = old

-- of a charge: the number, and the fuel left
pub record Charged (s : Result Fuel Refusal) (old result new : ℕ) : Type 0 where
  pub number : result ≡ step_number s
  pub left : new ≡ step_left s old

-- a table of function references whose room is its size, with minimum 0 and no maximum
unfoldable pub table_of : Bool → ℕ → ℕ → Table
table_of wide start size =
    record { ty = record { element = Func; index = index_of wide; limits = record { minimum = 0; bounded = false; maximum = 0 } }; start = start; room = size; size = size }

-- a reference to a function
unfoldable pub ref_of : ℕ → TypedRawRef
ref_of bits = record { raw = record { bits = bits }; ty = Func }

-- a segment of the first items
unfoldable pub segment_of : ℕ → ElementSegment
segment_of size = record { ty = Func; start = 0; places = size; size = size }

-- a span of cells to fill, and one to copy
abbrev pub fill_span : ℕ → ℕ → FillSpan
fill_span start len = record { start = start; len = len }

-- a span to copy, from its three numbers
abbrev pub copy_span : ℕ → ℕ → ℕ → CopySpan
copy_span to from len = record { to = to; from = from; len = len }

-- of a cell that is read: the number, and the reference's bits
pub record Got (a : Answer) (result value : ℕ) : Type 0 where
  pub number : result ≡ number_of a
  pub shown : value ≡ shown_of a

-- of a cell that is set: the number, and the cells
pub record Wrote (w : Done Answer) (result : ℕ) (cells : List ℕ) : Type 0 where
  pub number : result ≡ number_of w.out
  pub written : cells ≡ w.cells

-- of a fill, copy or init: the number, the cells and the fuel left
pub record Spans (s : Done Spanned) (result : ℕ) (cells : List ℕ) (left : ℕ) : Type 0 where
  pub number : result ≡ number_of s.out.answer
  pub written : cells ≡ s.cells
  pub fuel : left ≡ s.out.fuel.remaining
