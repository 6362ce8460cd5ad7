use Rattle.types.proofs.Prelude.{◌≡◌, ◌+◌, ◌*◌, ◌≤◌, ◌<◌, get_or, length, List, refl, sym, ap, ◌∙◌, ℕ, arith, rules}
use Rattle.std.proofs.lemmas.List.{get_or_read}
use Rattle.types.proofs.Spans.{length_over}
use Rattle.machine.proofs.{Rows.rows_none, Rows.rows_turn, Rows.rows_done, Rows.rows_length, Places.place_inside}
use Rattle.machine.proofs.words.put_records.Goals as goal

pub loop-i-init : goal.loop-i-init
loop-i-init g c =
    let R = g.R.Record in (rows_none R.written R.none R.WIDTH g.met.R.Record.long _ c.args.records.now R.PLACE, refl)

pub loop-i-preserved : goal.loop-i-preserved
loop-i-preserved g c =
    let R = g.R.Record in
    let l = c.loop-i in
    let a = c.args in
    let to = R.PLACE + R.WIDTH * l.i in
    let place : l.i < length (a.records.now) = omega (arith, c.type_inv.records) in
    let within : to + R.WIDTH ≤ length (a.words.now) = place_inside R.PLACE R.WIDTH 8 l.i _ (omega arith) c.requires in
    let put = rw (c.PLACE.ensures, c.WIDTH.ensures) at c.write.ensures in
    let row = get_or (a.records.now) l.i c.index-records-i.result in
    let long = g.met.R.Record.long row in (
      rows_turn R.written R.none R.WIDTH g.met.R.Record.long _ l.words _ _ (a.records.now) R.PLACE l.i to place (omega (arith, within)) refl l.invariant.0
          (ap R.written (sym c.index-records-i.is ∙ get_or_read _ _ _ place c.index-records-i.is R.none)) put,
      ap (λ (z : List ℕ). length z) put ∙ length_over l.words to (R.written row) (omega (arith, within, long, l.invariant.1)) ∙ l.invariant.1,
    )

pub returns : goal.returns
returns g c =
    let R = g.R.Record in
    let l = c.loop-i in
    let a = c.args in
    let n : length (a.records.now) ≡ 8 = search rules in (
      rows_done R.written R.none R.WIDTH g.met.R.Record.long _ l.words (a.records.now) R.PLACE l.i (omega (arith, n)) l.invariant.0,
      rows_length R.written R.none R.WIDTH g.met.R.Record.long (a.records.now) ∙ ap (λ (k : ℕ). R.WIDTH * k) n ∙ omega arith,
    )
