-- No run from a fresh machine over sound buffers answers 19. Assumes nothing.
use Rattle.types.proofs.Prelude.{refl, ◌∙◌, ne_eqb, pick_false}
use Rattle.std.specs.Prelude.{ℕ, ◌≡◌, Bool, true, List, [], ◌∷◌, length}
use Rattle.types.specs.Names.{FuelCosts}
use Rattle.machine.specs.{Names.Buffers, Names.fresh_machine, Names.sound_references, Names.sound_over, Names.step, Names.Machine, Names.Operation, Step.run}
use Rattle.machine.proofs.Kept.{step_sound, fresh_sound}
use Rattle.claims.specs.Answers.{never}
use Rattle.claims.proofs.Exits.{not_unsound}

-- from a sound machine
run_never : (r : ℕ) (m : Machine) (b : Buffers) (ops : List Operation) → sound_over m b ≡ true → never 19 (run r m b ops).answers ≡ true
unfolding run never
run_never r m b [] s = refl
run_never r m b (op ∷ ops) s =
    pick_false _ _ _ (ne_eqb _ _ (not_unsound r m b op s))
    ∙ run_never r (step r m b op).machine (step r m b op).buffers ops (step_sound r m b op s)

-- and so from a fresh one
pub never_unsound : (r : ℕ) (metering : Bool) (costs : FuelCosts) (b : Buffers) (ops : List Operation) → sound_references (length b.cells) (length b.items) ≡ true
    → never 19 (run r (fresh_machine metering costs) b ops).answers ≡ true
never_unsound r metering costs b ops s = run_never r (fresh_machine metering costs) b ops (fresh_sound metering costs b s)
