-- Document 01, "First check wins", grow table: 14; by 0 accepted; 6 at the index type's largest size; limiter 6/4; 6 with notice above the maximum; 7 and 8 with notice.
-- WebAssembly Core Specification 3.0, Execution, Modules, growing tables: the new cells hold the reference given. R is the bytes that a reference counts.
use Rattle.std.specs.Prelude.{ℕ, ◌+◌, ◌*◌, List, eqb, leb, ltb, length, replicate}
use Rattle.types.specs.Names.{pick, unless, Done, done, over, refuse, accept, price, short, paid, says_of, moved, noticed, max_size, admits_of}
use Rattle.types.specs.Names.{element_matches, Answer, Fuel, Limiter, TypedRawRef}
use Rattle.table.specs.{Table.resized, Table.sound_table, declared.table.Table.Table, declared.grow.GrownTable.GrownTable}

-- what a growth gives back
abbrev pub answered : Answer → Table → Fuel → Limiter → GrownTable
answered a t f l = record { answer = a; table = t; fuel = f; limiter = l }

-- the price of n cells
abbrev pub cells_price : ℕ → ℕ → Fuel → ℕ
cells_price r n f = price f.costs.copied (n * r)

-- growth by n cells
unfoldable pub grow_table : ℕ → Table → List ℕ → ℕ → TypedRawRef → Fuel → Limiter → Done GrownTable
grow_table r t cs n v f l =
    unless (sound_table t (length cs)) (done (answered (refuse 19 0) t f l) cs)
    (unless (element_matches t.ty v.ty) (done (answered (refuse 14 0) t f l) cs)
    (pick (eqb n 0) (done (answered (accept t.size) t f l) cs)
    (unless (ltb (t.size + n) (max_size t.ty.index)) (done (answered (refuse 6 0) t f l) cs)
    (pick (eqb (says_of l) 1) (done (answered (refuse 6 0) t f (moved l)) cs)
    (pick (eqb (says_of l) 2) (done (answered (refuse 4 0) t f (moved l)) cs)
    (unless (admits_of t.ty.limits (t.size + n)) (done (answered (noticed (moved l) 6 0) t f (moved (moved l))) cs)
    (pick (short f (cells_price r n f)) (done (answered (noticed (moved l) 7 (cells_price r n f)) t f (moved (moved l))) cs)
    (unless (leb (t.size + n) t.room) (done (answered (noticed (moved l) 8 0) t (paid f (cells_price r n f)) (moved (moved l))) cs)
    (done (answered (accept t.size) (resized t (t.size + n)) (paid f (cells_price r n f)) (moved l))
    (over cs (t.start + t.size) (replicate n v.raw.bits)))))))))))
