use Rattle.types.proofs.Prelude.{◌≡◌, ◌∙◌, sym, ap, rules, List, ℕ}
use Rattle.std.specs.Prelude.{Err}
use Rattle.table.specs.declared.table.Table.{Table}
use Rattle.machine.specs.{Machine.no_table, Words.record_length, Words.tables_at, Words.record_in_form, Row.row_cells, stages.Records.known, stages.Records.size_by, declared.records.Counts.Counts, declared.records.Machine.Machine}
use Rattle.machine.proofs.Sizes.{size_known}
use Rattle.machine.proofs.row.table_cells.Goals as goal

abbrev cells_of : Table → ℕ
cells_of t = t.size

cells_known : (l : List ℕ) (bytes cells items i : ℕ) → size_by cells_of (known (λ (k : Counts). k.tables) record_in_form tables_at record_length (λ (m : Machine). m.tables) no_table l bytes cells items i) ≡ row_cells l bytes cells items i
unfolding row_cells
cells_known l bytes cells items i = size_known cells_of (λ (k : Counts). k.tables) record_in_form tables_at record_length (λ (m : Machine). m.tables) no_table l bytes cells items i

pub returns-in_err-table : goal.returns-in_err-table
unfolding size_by
returns-in_err-table c =
    let a = c.args in
    let r : c.from_residual.result ≡ Err c.in_err-table.field-0.0 = search rules in
    r ∙ ap (size_by cells_of) (sym c.in_err-table.was ∙ c.known.ensures) ∙ cells_known (a.words.now) a.bytes a.cells a.items a.number

pub returns : goal.returns
unfolding size_by
returns c =
    let a = c.args in
    ap (size_by cells_of) (sym c.in_ok-table.was ∙ c.known.ensures) ∙ cells_known (a.words.now) a.bytes a.cells a.items a.number
