-- WebAssembly Core Specification 3.0, Execution, Instructions, table instructions: table.fill, table.init and table.copy, one cell a step.
-- An instance's cells stand in one buffer from a place on: x the written instance's, y the read one's.
use Rattle.std.specs.Prelude.{ℕ, zero, suc, ◌+◌, ◌≤◌, ◌≡◌, ◌⊎◌, List, leb, set, get_or}
use Rattle.types.specs.Pick.{pick}

-- table.fill from i with value v, n cells: set cell i, and go on with i + 1, n - 1
unfoldable pub fill_steps : ℕ → List ℕ → ℕ → ℕ → ℕ → List ℕ
fill_steps zero cells x i v = cells
fill_steps (suc n) cells x i v = fill_steps n (set cells (x + i) v) x (suc i) v

-- table.init at i from item j, n cells: item j goes to cell i, and on with i + 1, j + 1, n - 1
unfoldable pub init_steps : ℕ → List ℕ → ℕ → ℕ → List ℕ → ℕ → List ℕ
init_steps zero cells x i items j = cells
init_steps (suc n) cells x i items j = init_steps n (set cells (x + i) (get_or items j 0)) x (suc i) items (suc j)

-- table.copy at i from j, n cells: from the low end where i is at most j, else from the high end
unfoldable pub copy_steps : ℕ → List ℕ → ℕ → ℕ → ℕ → ℕ → List ℕ
copy_steps zero cells x i y j = cells
copy_steps (suc n) cells x i y j =
    pick (leb i j)
    (copy_steps n (set cells (x + i) (get_or cells (y + j) 0)) x (suc i) y (suc j))
    (copy_steps n (set cells (x + (i + n)) (get_or cells (y + (j + n)) 0)) x i y j)

-- one instance, or two whose spans lie apart
abbrev pub Apart : ℕ → ℕ → ℕ → ℕ → ℕ → Type 0
Apart n x i y j = (x ≡ y) ⊎ ((x + i + n ≤ y + j) ⊎ (y + j + n ≤ x + i))
