-- Document 01, "First check wins" and "Fuel": the one span of one buffer that an accepted operation writes, and its bytes.
use Rattle.std.specs.Prelude.{ℕ, ◌+◌, ◌*◌, ◌<◌, ◌≤◌, ◌≡◌, Bool, true, List, length, get_or}
use Rattle.types.specs.Names.{inside, over}
use Rattle.machine.specs.Names.{Buffers, buffers}

-- what is written: nothing, or new cells of one buffer from a place on
pub data Span : Type 0 where
  Nowhere : Span
  InBytes : ℕ → List ℕ → Span
  InCells : ℕ → List ℕ → Span
  InItems : ℕ → List ℕ → Span

-- the buffers with a span replaced
unfoldable pub put : Buffers → Span → Buffers
put b Nowhere = b
put b (InBytes at new) = buffers (over b.bytes at new) b.cells b.items
put b (InCells at new) = buffers b.bytes (over b.cells at new) b.items
put b (InItems at new) = buffers b.bytes b.cells (over b.items at new)

-- the bytes of a span: a reference counts R
unfoldable pub span_bytes : ℕ → Span → ℕ
span_bytes r Nowhere = 0
span_bytes r (InBytes at new) = length new
span_bytes r (InCells at new) = length new * r
span_bytes r (InItems at new) = length new * r

-- a span lies inside its buffer
unfoldable pub fits : Buffers → Span → Bool
fits b Nowhere = true
fits b (InBytes at new) = inside at (length new) (length b.bytes)
fits b (InCells at new) = inside at (length new) (length b.cells)
fits b (InItems at new) = inside at (length new) (length b.items)

-- a buffer is as it was but for n cells from a place on: as long, and the same at every index before them and from their end on
pub record AllBut (at n : ℕ) (old now : List ℕ) : Type 0 where
  pub long : length now ≡ length old
  pub before : (i : ℕ) → i < at → get_or now i 0 ≡ get_or old i 0
  pub beyond : (i : ℕ) → at + n ≤ i → get_or now i 0 ≡ get_or old i 0

-- every cell outside a span is as it was
unfoldable pub OnlyIn : Span → Buffers → Buffers → Type 0
OnlyIn Nowhere old now = now ≡ old
OnlyIn (InBytes at new) old now = AllBut at (length new) old.bytes now.bytes × (now.cells ≡ old.cells) × (now.items ≡ old.items)
OnlyIn (InCells at new) old now = (now.bytes ≡ old.bytes) × AllBut at (length new) old.cells now.cells × (now.items ≡ old.items)
OnlyIn (InItems at new) old now = (now.bytes ≡ old.bytes) × (now.cells ≡ old.cells) × AllBut at (length new) old.items now.items

-- a span is written inside its buffer, and nothing else
pub record WritesSpan (s : Span) (old now : Buffers) : Type 0 where
  pub new : now ≡ put old s
  pub inside : fits old s ≡ true
  pub alone : OnlyIn s old now
