use Rattle.types.proofs.Prelude.{refl, ap, ◌∙◌, arith}
use Rattle.types.specs.Span.{over}
use Rattle.machine.proofs.{Rows.then_both, Lengths.length_count, Lengths.length_fuel}
use Rattle.machine.proofs.words.put_standing.Goals as goal

pub returns : goal.returns
returns c =
    let a = c.args in
    let counts = c.put.ensures ∙ ap (over _ 160) c.count_words.ensures in
    let fuel = c.put-2.ensures ∙ ap (over _ 163) c.fuel_words.ensures in
    let place = c.put-3.ensures ∙ ap (over _ 168) c.place_words.ensures in
    then_both _ _ _ _ _ _ _ 160 163 168 3 5 (length_count a.counts) (length_fuel a.fuel) refl refl (omega (arith, c.requires)) counts fuel place
