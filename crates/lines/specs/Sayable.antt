-- Document 01, "Operation lines", what a line can say: fields below 2^64, an absent maximum 0, an exponent of at most 255, and of a segment at most 4 items, zeros past them.
use Rattle.std.specs.Prelude.{ℕ, ◌<◌, ◌≤◌, ◌≡◌, true, false, List, [], ◌∷◌}
use Rattle.types.specs.Names.{word64, Limits, WantedMemory}
use Rattle.machine.specs.Names.{item_fields, MemoryOp, Operation}
use Rattle.lines.specs.Writing.{numbers_of}

-- numbers that fields of 16 digits hold
unfoldable pub Small : List ℕ → Type 0
Small [] = Unit
Small (v ∷ l) = (v < word64) × Small l

-- limits whose absent maximum is 0
unfoldable pub LimitsSaid : Limits → Type 0
LimitsSaid l = l.bounded ≡ false → l.maximum ≡ 0

-- a memory's type of at most 255 as exponent
unfoldable pub MemorySaid : WantedMemory → Type 0
MemorySaid t = (t.exponent ≤ 255) × LimitsSaid t.limits

-- of an operation, what its fields' numbers can stand for
unfoldable pub Said : Operation → Type 0
Said (Operation.Fuel o) = Unit
Said (Operation.NewMemory room wanted) = MemorySaid wanted
Said (Operation.Memory number (MemoryOp.Grow pages)) = Unit
Said (Operation.Memory number MemoryOp.Size) = Unit
Said (Operation.Memory number (MemoryOp.Load kind pointer offset)) = Unit
Said (Operation.Memory number (MemoryOp.Store kind pointer offset bits)) = Unit
Said (Operation.Memory number (MemoryOp.LinkCheck wanted)) = MemorySaid wanted
Said (Operation.NewTable room wanted initial) = LimitsSaid wanted.limits
Said (Operation.Table number o) = Unit
Said (Operation.TableCopy into source span) = Unit
Said (Operation.TableInit table segment span) = Unit
Said (Operation.DropSegment segment) = Unit
Said (Operation.NewSegment element items) = item_fields items ≡ true

-- what a line can say
unfoldable pub Sayable : Operation → Type 0
Sayable o = Small (numbers_of o).fields × Said o
