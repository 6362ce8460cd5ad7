use Rattle.types.proofs.Prelude.{ℕ, drop, get_or, replicate, take, List, ◌++◌, ◌≡◌}
use Rattle.machine.specs.Words.{script_at, answer_from, records_from}
use Rattle.machine.proofs.words.script_from.Given as goal

abbrev answers : List ℕ → List ℕ
answers l = records_from (λ (k : List ℕ) a. answer_from (get_or k a 0)) 1 l script_at 16

abbrev pub invariant-loop-i : goal.invariant-loop-i
invariant-loop-i l = l.script ≡ take l.i (answers l.words) ++ drop l.i (replicate 16 0)
