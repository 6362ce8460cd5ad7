-- A copy by two numbers, equal or not, is the standard's steps. Assumes nothing.
use Rattle.types.proofs.Prelude.{refl, false≢true}
use Rattle.std.specs.Prelude.{ℕ, ◌≡◌, true, Ok, Err}
use Rattle.types.specs.{Names.Done, Names.Answer, Names.Value, Names.CopySpan, Steps.copy_steps}
use Rattle.table.proofs.Frames.{copy_frame}
use Rattle.machine.specs.{Names.Buffers, Names.table_at, Names.Machine, Tables.copy_on, Step.Performed, Step.on_cells, Step.perform, Step.decide, Step.step}
use Rattle.machine.specs.declared.outcome.Outcome.{Outcome}
use Rattle.claims.specs.Answers.{accepted}
use Rattle.claims.proofs.Exiting.{branch}
use Rattle.machine.specs.declared.operation.Operation.TheVariants as op

-- what is accepted is a value
valued : (a : Answer) {C : Type 0} → accepted a ≡ true → ((v : Value) → a ≡ Ok v → C) → C
unfolding accepted
valued (Ok v) e f = f v refl
valued (Err x) e f = absurd (false≢true e)

module _ (r : ℕ) (m : Machine) (b : Buffers) (into source : ℕ) (s : CopySpan) where
  -- where it is accepted, the cells are those that the steps leave
  abbrev Copied : Performed → Type 0
  Copied p =
      accepted p.out.answer ≡ true → p.buffers.cells ≡ copy_steps s.len b.cells (table_at m into).start s.to (table_at m source).start s.from

  pub copy_steps_lem : accepted (step r m b (op.TableCopy into source s)).answer ≡ true
      → (step r m b (op.TableCopy into source s)).buffers.cells
      ≡ copy_steps s.len b.cells (table_at m into).start s.to (table_at m source).start s.from
  unfolding step decide perform copy_on accepted
  copy_steps_lem =
      branch Copied _ _ _
      (λ w.
      branch Copied _ _ _
      (λ e.
      branch (λ (d : Done Outcome). Copied (on_cells d b)) _ _ _
      (λ h q. valued _ q (copy_frame r (table_at m into) (table_at m source) b.cells s m.fuel).accepted)
      (λ h q. absurd (false≢true q)))
      (λ e q. absurd (false≢true q)))
      (λ w q. absurd (false≢true q))
