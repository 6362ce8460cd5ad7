use Rattle.types.proofs.Prelude.{◌≡◌, refl, arith, length, rules}
use Rattle.machine.specs.Words.{standing_words}
use Rattle.machine.proofs.{Lengths.length_standing, Rows.then_over, Rows.length_both}
use Rattle.machine.proofs.words.put_state.Goals as goal

pub returns : goal.returns
returns c =
    let a = c.args in
    let long : length a.limiter.script ≡ 16 = search rules in
    let standing = length_standing a.counts a.fuel a.limiter in
    (then_over _ _ _ (standing_words a.counts a.fuel a.limiter) a.limiter.script 160 170 10 standing refl (omega (arith, c.requires)) c.put_standing.ensures c.put_bytes.ensures, length_both (standing_words a.counts a.fuel a.limiter) a.limiter.script 10 16 26 standing long refl)
