use Rattle.types.proofs.Prelude.{sym, ◌∙◌, rules, lt-ltb}
use Rattle.lent.proofs.growth.grow.Goals as goal

pub offset_bounds-list-i : goal.offset_bounds-list-i
offset_bounds-list-i g c =
    let h = g.met.T.Grows.placed _ _ _ _ (sym c.is_sound.ensures ∙ c.if-not-is_sound.false) (lt-ltb _ _ c.if-count-i.false) in
    search rules

pub bounds-list-i : goal.bounds-list-i
bounds-list-i g c = g.met.T.Grows.placed _ _ _ _ (sym c.is_sound.ensures ∙ c.if-not-is_sound.false) (lt-ltb _ _ c.if-count-i.false)
