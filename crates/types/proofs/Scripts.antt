-- Laws of the limiter's script. Assumes nothing.
use Rattle.std.specs.Prelude.{MatchBool}
use Rattle.std.specs.List.{AllWithin, HoldsAt}
use Rattle.types.proofs.Prelude.{◌≡◌, refl, sym, Bool, true, false, List, [], ◌∷◌, ℕ, zero, suc, ◌<◌, ◌≤◌, arith, length}
use Rattle.types.proofs.Prelude.{ap, ◌∙◌, ◌++◌, ◌+◌, add-one, drop, drop-cons, set, replicate, take, get_or, length-take, le-leb, lt-leb, leb-true, both_left, both_right}
use Rattle.types.proofs.Prelude.{both_1, both_true}
use native.Mathlib.Nat.{not-suc-le-zero, le_of_suc-le-suc}
use lib.{ListN.get_or-eq_default, Seq.get_or-take}
use Rattle.types.specs.{declared.limiter.Limiter.Limiter, Limiter.says_of, Limiter.all_answers, Limiter.well_formed}

-- past the script's end, and past its row
pub says_past : (l : Limiter) → l.count ≤ l.at → 0 ≡ says_of l
unfolding says_of
says_past l h =
    let k : length (take l.count l.script) ≤ l.at = simp length-take (omega arith) in
    sym (get_or-eq_default (take l.count l.script) 0 k)

pub says_row : (l : Limiter) → length l.script ≡ 16 → 16 ≤ l.at → 0 ≡ says_of l
unfolding says_of
says_row l e h =
    let k : length (take l.count l.script) ≤ l.at = simp length-take (omega arith) in
    sym (get_or-eq_default (take l.count l.script) 0 k)

pub says_at : (l : Limiter) → l.at < l.count → get_or l.script l.at 0 ≡ says_of l
unfolding says_of
says_at l h = sym (get_or-take l.count l.script l.at 0 h)

-- a turn of the loop that puts a script into a row
row_suc : (s z : List ℕ) (i : ℕ) → i < length s → length s ≤ length z
    → set (take i s ++ drop i z) i (get_or s i 0) ≡ take (suc i) s ++ drop (suc i) z
row_suc [] z i h k = absurd (not-suc-le-zero h)
row_suc (x ∷ s) [] i h k = absurd (not-suc-le-zero k)
row_suc (x ∷ s) (y ∷ z) zero h k = refl
row_suc (x ∷ s) (y ∷ z) (suc i) h k =
    ap (λ (t : List ℕ). x ∷ t) (row_suc s z i (le_of_suc-le-suc h) (le_of_suc-le-suc k))

pub row_more : (s row : List ℕ) (i : ℕ) → i < length s → length s ≤ 16 → row ≡ take i s ++ drop i (replicate 16 0)
    → set row i (get_or s i 0) ≡ take (i + 1) s ++ drop (i + 1) (replicate 16 0)
row_more s row i h k e =
    ap (λ (r : List ℕ). set r i (get_or s i 0)) e ∙ row_suc s (replicate 16 0) i h k
    ∙ ap (λ (n : ℕ). take n s ++ drop n (replicate 16 0)) (sym (add-one i))

-- every byte looked at is an answer, or one is none
answers_yes : (s : List ℕ) → AllWithin (λ b. b ≤ 2) s 0 (length s) → all_answers s ≡ true
unfolding all_answers
answers_yes [] h = refl
answers_yes (b ∷ s) h =
    both_true _ _ (le-leb _ _ (h 0 0 (omega arith) (omega arith)))
    (answers_yes s (λ k d _ g. h (suc k) d (omega arith) (omega (arith, g))))

answers_no : (s : List ℕ) (k : ℕ) → k < length s → HoldsAt (λ b. 2 < b) s k → all_answers s ≡ false
unfolding all_answers
answers_no [] k g h = absurd (not-suc-le-zero g)
answers_no (b ∷ s) zero g h = both_left _ _ (lt-leb _ _ (h 0))
answers_no (b ∷ s) (suc k) g h = both_right _ _ (answers_no s k (le_of_suc-le-suc g) h)

pub answers_by : (s : List ℕ) (r : Bool) → length s ≤ 16
    → MatchBool r (AllWithin (λ b. b ≤ 2) s 0 (length s)) ((k : ℕ) × (k < length s) × HoldsAt (λ b. 2 < b) s k) → r ≡ well_formed s
unfolding well_formed
answers_by s true h m = sym (both_true _ _ (le-leb _ _ h) (answers_yes s m))
answers_by s false h m = sym (both_right _ _ (answers_no s m.0 m.1 m.2))

-- past answers, a byte that is none
pub answers_bad : (s : List ℕ) (i : ℕ) → i < length s → 2 < get_or s i 0 → all_answers (drop i s) ≡ all_answers s → false ≡ well_formed s
unfolding well_formed all_answers
answers_bad s i h g e =
    let b : all_answers (drop i s) ≡ false = ap all_answers (drop-cons s i 0 h) ∙ both_left _ _ (lt-leb _ _ g) in
    sym (both_right _ _ (sym e ∙ b))

pub too_long : (s : List ℕ) → 16 < length s → false ≡ well_formed s
unfolding well_formed
too_long s h = sym (both_left _ _ (lt-leb _ _ h))

pub well_short : (s : List ℕ) → well_formed s ≡ true → length s ≤ 16
unfolding well_formed
well_short s e = leb-true _ _ (both_1 _ _ e)

-- what the limiter's functions need
pub ruleset scripts = (says_past, says_row, says_at, well_short, too_long)
