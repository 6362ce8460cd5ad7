-- Laws of a field's digits and of the answers that lead them. Assumes nothing.
use Rattle.types.proofs.Prelude.{ℕ, zero, suc, ◌+◌, ◌-◌, ◌/◌, ◌%◌, ◌≤◌, ◌<◌, ◌≡◌, refl, sym, ap, ◌∙◌, true, false, List, [], ◌∷◌, ◌++◌, arith, leb, length}
use Rattle.types.proofs.Prelude.{take, drop, get_or, set, le-leb, lt-leb, both_left, both_then}
use Rattle.types.specs.Pick.{both}
use Rattle.machine.specs.Operation.{digits_of, most_of, leading}

-- a list from a place on
from_place : (l : List ℕ) (i : ℕ) → i < length l → drop i l ≡ get_or l i 0 ∷ drop (suc i) l
from_place [] i h = absurd (omega arith)
from_place (x ∷ xs) zero h = refl
from_place (x ∷ xs) (suc i) h = from_place xs i (omega arith)

past_end : (l : List ℕ) (i : ℕ) → length l ≤ i → drop i l ≡ []
past_end [] zero h = refl
past_end [] (suc i) h = refl
past_end (x ∷ xs) zero h = absurd (omega arith)
past_end (x ∷ xs) (suc i) h = past_end xs i (omega arith)

-- a part that takes all
pub take_all : (l : List ℕ) (n : ℕ) → length l ≤ n → take n l ≡ l
take_all [] zero h = refl
take_all [] (suc n) h = refl
take_all (x ∷ xs) zero h = absurd (omega arith)
take_all (x ∷ xs) (suc n) h = ap (λ (r : List ℕ). x ∷ r) (take_all xs n (omega arith))

module _ (count left i : ℕ) (ds : List ℕ) (h : leading left (drop i ds) ≡ leading count ds) where
  here : i < length ds → leading count ds ≡ both (leb (get_or ds i 0) (most_of left)) (leading (left - 1) (drop (suc i) ds))
  unfolding leading
  here g = sym h ∙ ap (leading left) (from_place ds i g)

  pub leading_bad : i < length ds → most_of left < get_or ds i 0 → false ≡ leading count ds
  leading_bad g k = sym (here g ∙ both_left _ _ (lt-leb _ _ k))

  pub leading_more : i < length ds → get_or ds i 0 ≤ most_of left → leading (left - 1) (drop (i + 1) ds) ≡ leading count ds
  leading_more g k =
      let e : i + 1 ≡ suc i = omega arith in
      ap (λ (j : ℕ). leading (left - 1) (drop j ds)) e ∙ sym (here g ∙ both_then _ _ (le-leb _ _ k))

  pub leading_end : length ds ≤ i → true ≡ leading count ds
  unfolding leading
  leading_end g = sym (sym h ∙ ap (leading left) (past_end ds i g))

-- one digit more stands at its place
set_place : (l : List ℕ) (j v : ℕ) → j < length l → drop j (set l j v) ≡ v ∷ drop (suc j) l
set_place [] j v h = absurd (omega arith)
set_place (x ∷ xs) zero v h = refl
set_place (x ∷ xs) (suc j) v h = set_place xs j v (omega arith)

joined : (xs : List ℕ) (v : ℕ) (ys : List ℕ) → (xs ++ (v ∷ [])) ++ ys ≡ xs ++ (v ∷ ys)
joined [] v ys = refl
joined (x ∷ xs) v ys = ap (λ (r : List ℕ). x ∷ r) (joined xs v ys)

digit : (j rest : ℕ) (row : List ℕ) → j < length row → digits_of (suc j) rest ++ drop (suc j) row ≡ digits_of j (rest / 16) ++ drop j (set row j (rest % 16))
unfolding digits_of
digit j rest row h = joined (digits_of j (rest / 16)) (rest % 16) (drop (suc j) row) ∙ ap (λ (r : List ℕ). digits_of j (rest / 16) ++ r) (sym (set_place row j (rest % 16) h))

-- a turn of the loop that writes digits from the last to the first
pub digit_more : (field i rest : ℕ) (row : List ℕ) → 0 < i → i ≤ length row → digits_of i rest ++ drop i row ≡ digits_of 16 field
    → digits_of (i - 1) (rest / 16) ++ drop (i - 1) (set row (i - 1) (rest % 16)) ≡ digits_of 16 field
digit_more field zero rest row h k e = absurd (omega arith)
digit_more field (suc j) rest row h k e =
    let d : suc j - 1 ≡ j = omega arith in
    ap (λ (n : ℕ). digits_of n (rest / 16) ++ drop n (set row n (rest % 16))) d ∙ sym (digit j rest row (omega arith)) ∙ e

pub nothing_after : (l : List ℕ) → l ++ [] ≡ l
nothing_after [] = refl
nothing_after (x ∷ xs) = ap (λ (r : List ℕ). x ∷ r) (nothing_after xs)

pub digits_end : (field i rest : ℕ) (row : List ℕ) → i ≤ 0 → digits_of i rest ++ drop i row ≡ digits_of 16 field → row ≡ digits_of 16 field
unfolding digits_of
digits_end field zero rest row h e = e
digits_end field (suc i) rest row h e = absurd (omega arith)
