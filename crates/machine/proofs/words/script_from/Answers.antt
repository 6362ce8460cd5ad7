use Rattle.types.proofs.Prelude.{ℕ, ◌+◌, ◌*◌, ◌<◌, drop, get_or, length, replicate, set, take, take_all, List, ◌++◌, append-nil, ◌≡◌, refl, sym}
use Rattle.types.proofs.{Prelude.ap, Prelude.◌∙◌, Prelude.arith, Scripts.row_more}
use Rattle.machine.specs.Words.{script_at, answer_from, records_from, limiter_from}
use Rattle.machine.proofs.Places.{records_at, records_length}
use Rattle.machine.proofs.words.script_from.Goals as goal

abbrev answers : List ℕ → List ℕ
answers l = records_from (λ (k : List ℕ) a. answer_from (get_or k a 0)) 1 l script_at 16

long : (l : List ℕ) → length (answers l) ≡ 16
long l = records_length (λ (k : List ℕ) a. answer_from (get_or k a 0)) 1 l script_at 16

more : (l row : List ℕ) (i x : ℕ) → i < 16 → x ≡ answer_from (get_or l (script_at + i) 0) → row ≡ take i (answers l) ++ drop i (replicate 16 0)
    → set row i x ≡ take (i + 1) (answers l) ++ drop (i + 1) (replicate 16 0)
more l row i x h q e =
    let z : script_at + 1 * i ≡ script_at + i = omega arith in
    let v : x ≡ get_or (answers l) i 0 = q ∙ ap (λ (k : ℕ). answer_from (get_or l k 0)) (sym z) ∙ sym (records_at (λ (k : List ℕ) a. answer_from (get_or k a 0)) 1 l 0 script_at 16 i h) in
    ap (set row i) v ∙ row_more (answers l) row i (omega (arith, h, long l)) (omega (arith, long l)) e

all : (l row : List ℕ) (i : ℕ) → i ≡ 16 → row ≡ take i (answers l) ++ drop i (replicate 16 0) → row ≡ (limiter_from l).script
unfolding limiter_from
all l row i h e =
    e ∙ ap (λ (n : ℕ). take n (answers l) ++ drop n (replicate 16 0)) h ∙ append-nil (take 16 (answers l)) ∙ take_all 16 (answers l) (omega (arith, long l))

pub loop-i-preserved : goal.loop-i-preserved
loop-i-preserved c =
    let l = c.loop-i in
    more _ l.script l.i _ c.loop-i-test.true refl l.invariant

pub returns : goal.returns
returns c =
    let l = c.loop-i in
    all _ l.script l.i (omega arith) l.invariant
