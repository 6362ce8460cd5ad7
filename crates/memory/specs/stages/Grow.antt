-- The stages of a growth as the code has them; crates/memory/proofs/Readings.antt shows that together they are `grow_memory`.
use Rattle.std.specs.Prelude.{ℕ, ◌+◌, ◌-◌, ◌*◌, true, List, eqb, leb, replicate, Ok, Err, Some, None, Result, Option, ⊤}
use Rattle.types.specs.Pick.{pick}
use Rattle.types.specs.Done.{Done, done}
use Rattle.types.specs.Span.{over}
use Rattle.types.specs.Answer.{refuse, accept}
use Rattle.types.specs.Price.{price}
use Rattle.types.specs.stages.Grant.{grant_growth}
use Rattle.types.specs.declared.fuel.Fuel.{Fuel}
use Rattle.types.specs.declared.grant.Growth.{Growth}
use Rattle.types.specs.declared.limiter.Limiter.{Limiter}
use Rattle.types.specs.MemoryType.{page_bytes}
use Rattle.types.specs.declared.memory_ty.MemoryType.{MemoryType}
use Rattle.memory.specs.Memory.{pages_of, resized}
use Rattle.memory.specs.Grow.{answered, may_have}
use Rattle.memory.specs.declared.memory.Memory.{Memory}
use Rattle.memory.specs.declared.grow.GrownMemory.{GrownMemory}
use Rattle.types.specs.declared.answer.Refusal.{Refusal}

-- the bytes of so many pages, if a memory of the type may have them
unfoldable pub reach_pages : MemoryType → ℕ → Option ℕ
reach_pages t pages = pick (may_have t pages) (Some (pages * page_bytes t.page)) None

-- the size in bytes that a growth by n pages reaches, if it may
abbrev pub reach_of : Memory → ℕ → Option ℕ
reach_of m n = reach_pages m.ty (pages_of m + n)

-- the new bytes are 0, and the answer is the size before
unfoldable pub enlarged_by : Result ⊤ Refusal → Fuel → Limiter → Memory → List ℕ → ℕ → Done GrownMemory
enlarged_by (Err r) f l m bs size = done (answered (Err r) m f l) bs
enlarged_by (Ok tt) f l m bs size =
    done (answered (accept (pages_of m)) (resized m size) f l) (over bs (m.start + m.size) (replicate (size - m.size) 0))

-- limiter 6/4 without notice; 7 with notice; 8 with notice
unfoldable pub grant_of : Memory → ℕ → Fuel → Limiter → Growth
grant_of m size f l = grant_growth l f true (price f.costs.copied (size - m.size)) (leb size m.room)

-- the grant, then the new bytes
unfoldable pub grow_to : Memory → List ℕ → ℕ → Fuel → Limiter → Done GrownMemory
grow_to m bs size f l =
    enlarged_by (grant_of m size f l).permit (grant_of m size f l).fuel (grant_of m size f l).limiter m bs size

-- 6 beyond the bounds
unfoldable pub by_reach : Option ℕ → Memory → List ℕ → Fuel → Limiter → Done GrownMemory
by_reach None m bs f l = done (answered (refuse 6 0) m f l) bs
by_reach (Some size) m bs f l = grow_to m bs size f l

-- by 0 accepted
unfoldable pub grow_sound : Memory → List ℕ → ℕ → Fuel → Limiter → Done GrownMemory
grow_sound m bs n f l =
    pick (eqb n 0) (done (answered (accept (pages_of m)) m f l) bs) (by_reach (reach_of m n) m bs f l)
