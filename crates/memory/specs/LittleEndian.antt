-- WebAssembly Core Specification 3.0, Execution, Numerics, storage: the bytes of an integer, the lowest first; reading is the inverse.
use Rattle.std.specs.Prelude.{ℕ, zero, suc, ◌+◌, ◌*◌, ◌/◌, ◌%◌, List, [], ◌∷◌}
use Rattle.types.specs.Names.{word8}

-- the n low bytes of a number
unfoldable pub le_bytes : ℕ → ℕ → List ℕ
le_bytes zero v = []
le_bytes (suc n) v = v % word8 ∷ le_bytes n (v / word8)

-- the number of bytes
unfoldable pub le_value : List ℕ → ℕ
le_value [] = 0
le_value (b ∷ bs) = b + word8 * le_value bs
