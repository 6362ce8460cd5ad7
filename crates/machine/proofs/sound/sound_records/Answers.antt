use Rattle.types.proofs.Prelude.{◌<◌, ◌≤◌, sym, ap, ◌∙◌, arith, length}
use Rattle.machine.specs.{Words.machine_from, stages.Records.end_of}
use Rattle.machine.proofs.{Places.records_length, Lists.too_many, Lists.starts_elsewhere, Lists.unsound, Lists.goes_on, Lists.ends}
use Rattle.machine.proofs.sound.sound_records.Goals.{then-start-from-via-then-start-from, then-start-from-via-else-start-from+then-not-sound_in}
use Rattle.machine.proofs.sound.sound_records.Goals as goal

pub returns-then-used-gt-CAPACITY : goal.returns-then-used-gt-CAPACITY
returns-then-used-gt-CAPACITY g c =
    let R = g.R.Record in
    let m = machine_from (c.args.words.now) in
    let e = c.used-used.ensures ∙ ap R.used c.counts_from.ensures in
    too_many (R.sound c.args.len) R.start (end_of R.start R.room) R.none (R.used m.counts) (R.listed m) (omega (arith, e, c.if-used-gt-CAPACITY.true))

pub returns-then-start-from : goal.returns-then-start-from
returns-then-start-from g c =
    let R = g.R.Record in
    let m = machine_from (c.args.words.now) in
    let l = c.loop-i in
    let e = c.used-used.ensures ∙ ap R.used c.counts_from.ensures in
    let long = ap length (g.met.R.Record.stands (c.args.words.now)) ∙ records_length R.read R.WIDTH (c.args.words.now) R.PLACE 8 in
    let few : R.used m.counts ≤ 8 = omega (arith, e, c.if-used-gt-CAPACITY.false) in
    let more : l.i < R.used m.counts = omega (arith, e, c.loop-i-test.true) in
    let here = c.record_at-record.ensures in
    elim c.then-start-from.branch [
      | then-start-from-via-then-start-from w ↦ starts_elsewhere (R.sound c.args.len) R.start (end_of R.start R.room) R.none (R.used m.counts) (R.listed m) long l.from l.i few l.invariant more (λ z. w.if-start-from.true (c.start.ensures ∙ ap R.start here ∙ z))
      | then-start-from-via-else-start-from+then-not-sound_in w ↦ unsound (R.sound c.args.len) R.start (end_of R.start R.room) R.none (R.used m.counts) (R.listed m) long l.from l.i few l.invariant more (ap (R.sound c.args.len) (sym here) ∙ sym w.sound_in.ensures ∙ w.if-not-sound_in.true)
    ]

pub loop-i-preserved : goal.loop-i-preserved
loop-i-preserved g c =
    let R = g.R.Record in
    let m = machine_from (c.args.words.now) in
    let l = c.loop-i in
    let e = c.used-used.ensures ∙ ap R.used c.counts_from.ensures in
    let long = ap length (g.met.R.Record.stands (c.args.words.now)) ∙ records_length R.read R.WIDTH (c.args.words.now) R.PLACE 8 in
    let here = c.record_at-record.ensures in
    let next = goes_on (R.sound c.args.len) R.start (end_of R.start R.room) R.none (R.used m.counts) (R.listed m) long l.from l.i (omega (arith, e, c.if-used-gt-CAPACITY.false)) l.invariant (omega (arith, e, c.loop-i-test.true))
    (ap R.start (sym here) ∙ sym c.start.ensures ∙ c.if-start-from.false)
    (ap (R.sound c.args.len) (sym here) ∙ sym c.sound_in.ensures ∙ c.if-not-sound_in.false) in
    rw (c.start-in-loop-i.ensures, c.room.ensures, here) next

pub returns : goal.returns
returns g c =
    let R = g.R.Record in
    let m = machine_from (c.args.words.now) in
    let e = c.used-used.ensures ∙ ap R.used c.counts_from.ensures in
    let long = ap length (g.met.R.Record.stands (c.args.words.now)) ∙ records_length R.read R.WIDTH (c.args.words.now) R.PLACE 8 in
    ends (R.sound c.args.len) R.start (end_of R.start R.room) R.none (R.used m.counts) (R.listed m) long c.loop-i.from c.loop-i.i (omega (arith, e, c.if-used-gt-CAPACITY.false)) c.loop-i.invariant (omega (arith, e, c.loop-i-test.false))
