use Rattle.machine.specs.{Words.machine_from, stages.Records.end_of}
use Rattle.machine.proofs.{Lists.Left}
use Rattle.machine.proofs.sound.sound_records.Given as goal

abbrev pub invariant-loop-i : goal.invariant-loop-i
invariant-loop-i g l =
    let R = g.R.Record in
    Left (R.sound l.len) R.start (end_of R.start R.room) R.none (R.used (machine_from l.words).counts) (R.listed (machine_from l.words)) l.from l.i
