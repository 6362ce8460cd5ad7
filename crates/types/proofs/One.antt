-- What it is for a contract to name one outcome: any two that meet it at the same arguments are equal. Assumes nothing.
use Rattle.types.proofs.Prelude.{◌≡◌, List, ℕ}
use contract.Lifetimes.{Lfts}
use borrow.Fn.Kinds.{ParamKind, ResultKind, Dens, In, Out, res_t, ended_of}
use denote.Triple.Clauses.{AtExit}

-- of a function that is lent nothing to write: one answer
abbrev pub One : (n : ℕ) (ps : List (ParamKind n)) (r : ResultKind n) (Pre : In n ps) (Post : Out n ps r) → Type 0
One n ps r Pre Post =
    (κs : Lfts n) (a : Dens κs ps) (x x' : (res_t r κs).Denot) (s s' : AtExit (ended_of n ps r) κs) →
    Pre κs a → Post κs a x s → Post κs a x' s' → x ≡ x'

-- of a function that is lent a buffer to write: one answer, and one content of what `view` shows of the buffers at exit
abbrev pub OneWith : (n : ℕ) (ps : List (ParamKind n)) (r : ResultKind n) (Pre : In n ps) (Post : Out n ps r) (X : Type 0) (view : (κs : Lfts n) → AtExit (ended_of n ps r) κs → X) → Type 0
OneWith n ps r Pre Post X view =
    (κs : Lfts n) (a : Dens κs ps) (x x' : (res_t r κs).Denot) (s s' : AtExit (ended_of n ps r) κs) →
    Pre κs a → Post κs a x s → Post κs a x' s' → (x ≡ x') × (view κs s ≡ view κs s')
