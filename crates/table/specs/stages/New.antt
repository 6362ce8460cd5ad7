-- The stages of a creation as the code has them; crates/table/proofs/Readings.antt shows that together they are `new_table`.
use Rattle.std.specs.Prelude.{ℕ, List, leb, replicate, Ok, Err, Result, ⊤}
use Rattle.types.specs.Pick.{pick}
use Rattle.types.specs.Done.{Done, done}
use Rattle.types.specs.Span.{over}
use Rattle.types.specs.Answer.{refusal}
use Rattle.types.specs.stages.Grant.{grant_creation}
use Rattle.types.specs.declared.limiter.Limiter.{Limiter}
use Rattle.types.specs.TableType.{element_matches}
use Rattle.types.specs.declared.raw.TypedRawRef.{TypedRawRef}
use Rattle.types.specs.declared.table_ty.TableType.{TableType}
use Rattle.table.specs.New.{refused, table_of}
use Rattle.table.specs.declared.table.Table.{Table}
use Rattle.table.specs.declared.new.CreatedTable.{CreatedTable}
use Rattle.types.specs.declared.answer.Refusal.{Refusal}

-- the table's cells become the initial reference, whatever stood there
unfoldable pub made_by : Result ⊤ Refusal → Limiter → Table → ℕ → List ℕ → Done CreatedTable
made_by (Err r) l t bits cs = done (refused l r) cs
made_by (Ok u) l t bits cs = done (record { made = Ok t; limiter = l }) (over cs t.start (replicate t.size bits))

-- limiter 3/4, room 5 with notice
unfoldable pub made_of : Limiter → Table → ℕ → List ℕ → Done CreatedTable
made_of l t bits cs =
    made_by (grant_creation l (leb t.size t.room)).permit (grant_creation l (leb t.size t.room)).limiter t bits cs

-- 14 where the initial reference is of another kind
unfoldable pub by_kind : Limiter → TableType → ℕ → ℕ → TypedRawRef → List ℕ → Done CreatedTable
by_kind l t start room init cs =
    pick (element_matches t init.ty)
    (made_of l (table_of t start room t.limits.minimum) init.raw.bits cs)
    (done (refused l (refusal 14 0)) cs)

-- 1 where the type is invalid
unfoldable pub by_type : Result TableType Refusal → Limiter → ℕ → ℕ → TypedRawRef → List ℕ → Done CreatedTable
by_type (Err r) l start room init cs = done (refused l r) cs
by_type (Ok t) l start room init cs = by_kind l t start room init cs

-- the table that is made of a type: 1 where there is none, 14 where the initial reference is of another kind
unfoldable pub planned : Result TableType Refusal → TypedRawRef → ℕ → ℕ → Result Table Refusal
planned (Err r) init start room = Err r
planned (Ok t) init start room = pick (element_matches t init.ty) (Ok (table_of t start room t.limits.minimum)) (Err (refusal 14 0))
