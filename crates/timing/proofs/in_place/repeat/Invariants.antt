use Rattle.types.proofs.Prelude.{◌≡◌, ◌-◌}
use Rattle.timing.specs.InPlace.{rowing, again}
use Rattle.timing.proofs.in_place.repeat.Given as goal

abbrev pub invariant-loop : goal.invariant-loop
invariant-loop l =
    again l.tested (l.rounds - l.counter) (rowing l.words l.bytes l.cells l.items) l.op
    ≡ again l.tested l.rounds (rowing l.initial.words l.initial.bytes l.initial.cells l.initial.items) l.op
