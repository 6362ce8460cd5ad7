-- Document 01, "First check wins", new table: 1, 14, limiter 3/4, room 5 with notice; not metered; cells become the initial reference.
use Rattle.std.specs.Prelude.{ℕ, List, eqb, leb, length, replicate, Ok, Err}
use Rattle.types.specs.Names.{pick, unless, Done, done, over, refusal, says_of, moved, heard_of, table_type, valid_table, element_matches}
use Rattle.types.specs.Names.{Refusal, Limiter, TypedRawRef, TableType, WantedTable}
use Rattle.table.specs.Table.{sound_buffer}
use Rattle.table.specs.declared.{table.Table.Table, new.CreatedTable.CreatedTable}

-- a refused creation changes no cell
abbrev pub refused : Limiter → Refusal → CreatedTable
refused l r = record { made = Err r; limiter = l }

-- a table's record
abbrev pub table_of : TableType → ℕ → ℕ → ℕ → Table
table_of t start room size = record { ty = t; start = start; room = room; size = size }

-- the type asked for
abbrev pub wanted : WantedTable → TableType
wanted w = table_type w.element w.wide w.limits

-- a new table in the room cells from start on
unfoldable pub new_table : WantedTable → TypedRawRef → ℕ → ℕ → List ℕ → Limiter → Done CreatedTable
new_table w init start room cs l =
    unless (sound_buffer start room (length cs)) (done (refused l (refusal 19 0)) cs)
    (unless (valid_table (wanted w)) (done (refused l (refusal 1 0)) cs)
    (unless (element_matches (wanted w) init.ty) (done (refused l (refusal 14 0)) cs)
    (pick (eqb (says_of l) 1) (done (refused (moved l) (refusal 3 0)) cs)
    (pick (eqb (says_of l) 2) (done (refused (moved l) (refusal 4 0)) cs)
    (unless (leb w.limits.minimum room) (done (refused (moved (moved l)) (heard_of (says_of (moved l)) (refusal 5 0))) cs)
    (done (record { made = Ok (table_of (wanted w) start room w.limits.minimum); limiter = moved l })
    (over cs start (replicate w.limits.minimum init.raw.bits))))))))
