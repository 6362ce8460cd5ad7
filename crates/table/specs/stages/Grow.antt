-- The stages of a growth as the code has them; crates/table/proofs/Readings.antt shows that together they are `grow_table`.
use Rattle.std.specs.Prelude.{ℕ, ◌+◌, ◌-◌, ◌*◌, List, eqb, leb, ltb, replicate, Ok, Err, Result, ⊤}
use Rattle.types.specs.Pick.{pick}
use Rattle.types.specs.Done.{Done, done}
use Rattle.types.specs.Span.{over}
use Rattle.types.specs.Answer.{refuse, accept}
use Rattle.types.specs.Price.{price}
use Rattle.types.specs.stages.Grant.{grant_growth}
use Rattle.types.specs.declared.fuel.Fuel.{Fuel}
use Rattle.types.specs.declared.grant.Growth.{Growth}
use Rattle.types.specs.declared.limiter.Limiter.{Limiter}
use Rattle.types.specs.IndexType.{max_size}
use Rattle.types.specs.Limits.{admits_of}
use Rattle.types.specs.TableType.{element_matches}
use Rattle.types.specs.declared.raw.TypedRawRef.{TypedRawRef}
use Rattle.table.specs.Table.{resized}
use Rattle.table.specs.Grow.{answered}
use Rattle.table.specs.declared.table.Table.{Table}
use Rattle.table.specs.declared.grow.GrownTable.{GrownTable}
use Rattle.types.specs.declared.answer.Refusal.{Refusal}

-- the new cells hold the reference given, and the answer is the size before
unfoldable pub enlarged_by : Result ⊤ Refusal → Fuel → Limiter → Table → List ℕ → ℕ → ℕ → Done GrownTable
enlarged_by (Err r) f l t cs size bits = done (answered (Err r) t f l) cs
enlarged_by (Ok tt) f l t cs size bits =
    done (answered (accept t.size) (resized t size) f l) (over cs (t.start + t.size) (replicate (size - t.size) bits))

-- limiter 6/4; 6 with notice above the type's maximum; 7 with notice; 8 with notice
unfoldable pub grant_of : ℕ → Table → ℕ → Fuel → Limiter → Growth
grant_of r t size f l =
    grant_growth l f (admits_of t.ty.limits size) (price f.costs.copied ((size - t.size) * r)) (leb size t.room)

-- the grant, then the new cells
unfoldable pub grow_to : ℕ → Table → List ℕ → ℕ → ℕ → Fuel → Limiter → Done GrownTable
grow_to r t cs size bits f l =
    enlarged_by (grant_of r t size f l).permit (grant_of r t size f l).fuel (grant_of r t size f l).limiter t cs size bits

-- 6 where the new size reaches the index type's largest size
unfoldable pub grow_some : ℕ → Table → List ℕ → ℕ → ℕ → Fuel → Limiter → Done GrownTable
grow_some r t cs n bits f l =
    pick (ltb (t.size + n) (max_size t.ty.index))
    (grow_to r t cs (t.size + n) bits f l)
    (done (answered (refuse 6 0) t f l) cs)

-- 14; by 0 accepted
unfoldable pub grow_sound : ℕ → Table → List ℕ → ℕ → TypedRawRef → Fuel → Limiter → Done GrownTable
grow_sound r t cs n v f l =
    pick (element_matches t.ty v.ty)
    (pick (eqb n 0) (done (answered (accept t.size) t f l) cs) (grow_some r t cs n v.raw.bits f l))
    (done (answered (refuse 14 0) t f l) cs)
