-- Laws of records in a row: each stands at its place, its words are a cut of the row, and a record written to its place is one of the list. Assumes nothing.
use Rattle.types.proofs.Prelude.{ℕ, zero, suc, ◌+◌, ◌*◌, ◌-◌, ◌≤◌, ◌<◌, ◌≡◌, refl, sym, ap, ◌∙◌, Bool, true, false, List, [], ◌∷◌, ◌++◌, append_assoc, arith, length}
use Rattle.types.proofs.Prelude.{take, drop, set, get_or, length-take, drop-drop, drop-cons, both_1, both_2}
use Rattle.types.proofs.Spans.{length_over}
use mathlib.Core.Bool.{◌&&◌}
use Rattle.std.proofs.lemmas.Nat.{mul-le}
use lib.{ListN.take-append-drop, Seq.take-add, Seq.drop-append-add}
use Rattle.types.specs.{Pick.both, Span.over, Span.cut}
use Rattle.machine.specs.Words.{rows_of, records_from, all_at}
use Rattle.machine.proofs.Rows.{over_all}

module _ {A : Type 0} (f : List ℕ → ℕ → A) (w : ℕ) (l : List ℕ) where
  -- the record with a number
  pub records_at : (d : A) (a n i : ℕ) → i < n → get_or (records_from f w l a n) i d ≡ f l (a + w * i)
  unfolding records_from
  records_at d a zero i h = absurd (omega (arith, h))
  records_at d a (suc n) zero h =
      let e : a ≡ a + w * 0 = omega arith in
      ap (f l) e
  records_at d a (suc n) (suc i) h =
      let e : a + w + w * i ≡ a + w * suc i = omega arith in
      records_at d (a + w) n i (omega (arith, h)) ∙ ap (f l) e

  pub records_length : (a n : ℕ) → length (records_from f w l a n) ≡ n
  unfolding records_from
  records_length a zero = refl
  records_length a (suc n) = ap suc (records_length (a + w) n)

-- a record with a number below n ends among the places of n records
pub place_inside : (a w n i e : ℕ) → i < n → a + n * w ≤ e → a + w * i + w ≤ e
place_inside a w n i e h k =
    let m : (i + 1) * w ≤ n * w = mul-le (i + 1) w n w (omega arith) (omega arith) in
    let e : (i + 1) * w ≡ w * i + w = grind arith in
    omega (arith, m, k, e)

-- a test at each of some places: at the first, at the others
both_join : (a b c : Bool) → both (both a b) c ≡ both a (both b c)
unfolding both
both_join true b c = refl
both_join false b c = refl

both_all : (a : Bool) → both a true ≡ a
unfolding both
both_all true = refl
both_all false = refl

joins : (a b : Bool) → (a && b) ≡ both a b
unfolding both
joins true b = refl
joins false b = refl

-- a loop that makes all n tests from a on: before it, a turn, after it
module _ (t : List ℕ → ℕ → Bool) (w : ℕ) (l : List ℕ) (a n : ℕ) where
  abbrev pub Tested : ℕ → Bool → Type 0
  Tested i fine = all_at t w l a n ≡ both fine (all_at t w l (a + w * i) (n - i))

  pub all_none : Tested 0 true
  unfolding both
  all_none =
      let e : a + w * 0 ≡ a = omega arith in
      let k : n - 0 ≡ n = omega arith in
      ap (λ (p : ℕ). all_at t w l p n) (sym e) ∙ ap (all_at t w l (a + w * 0)) (sym k)

  all_split : (p k : ℕ) → 0 < k → all_at t w l p k ≡ both (t l p) (all_at t w l (p + w) (k - 1))
  unfolding all_at
  all_split p zero h = absurd (omega arith)
  all_split p (suc k) h =
      let e : suc k - 1 ≡ k = omega arith in
      ap (λ (j : ℕ). both (t l p) (all_at t w l (p + w) j)) (sym e)

  pub all_next : (i : ℕ) (fine here : Bool) → i < n → here ≡ t l (a + w * i) → Tested i fine → Tested (i + 1) (fine && here)
  all_next i fine here h e f =
      let p : a + w * i + w ≡ a + w * (i + 1) = omega arith in
      let k : n - i - 1 ≡ n - (i + 1) = omega arith in
      f ∙ ap (both fine) (all_split (a + w * i) (n - i) (omega arith))
      ∙ sym (both_join fine (t l (a + w * i)) _) ∙ ap (λ (x : Bool). both (both fine x) (all_at t w l (a + w * i + w) (n - i - 1))) (sym e)
      ∙ ap (λ (x : Bool). both x (all_at t w l (a + w * i + w) (n - i - 1))) (sym (joins fine here))
      ∙ ap (λ (j : ℕ). both (fine && here) (all_at t w l j (n - i - 1))) p ∙ ap (λ (j : ℕ). both (fine && here) (all_at t w l (a + w * (i + 1)) j)) k

  pub all_done : (i : ℕ) (fine : Bool) → n ≤ i → Tested i fine → fine ≡ all_at t w l a n
  unfolding all_at
  all_done i fine h f =
      let k : n - i ≡ 0 = omega arith in
      sym (f ∙ ap (λ (j : ℕ). both fine (all_at t w l (a + w * i) j)) k ∙ both_all fine)

-- cuts
pub cut_add : (l : List ℕ) (a i k : ℕ) → cut l a i ++ cut l (a + i) k ≡ cut l a (i + k)
unfolding cut
cut_add l a i k = ap (λ (z : List ℕ). take i (drop a l) ++ take k z) (sym (drop-drop i a l)) ∙ sym (take-add i k (drop a l))

pub cut_next : (l : List ℕ) (a n b : ℕ) → a < length l → b ≡ a + 1 → cut l a (suc n) ≡ get_or l a 0 ∷ cut l b n
unfolding cut
cut_next l a n b h e =
    let q : b ≡ suc a = omega (arith, e) in
    ap (take (suc n)) (drop-cons l a 0 h) ∙ ap (λ (k : ℕ). get_or l a 0 ∷ take n (drop k l)) (sym q)

pub cut_nothing : (l : List ℕ) (a : ℕ) → cut l a 0 ≡ []
unfolding cut
cut_nothing l a = refl

pub over_cut : (l : List ℕ) (n : ℕ) → n ≤ length l → over l 0 (cut l 0 n) ≡ l
unfolding over cut
over_cut l n h =
    let e : length (take n l) ≡ n = simp length-take (omega arith) in
    let z : 0 + length (take n l) ≡ n = omega (arith, e) in
    ap (λ (k : ℕ). take n l ++ drop k l) z ∙ take-append-drop n l

-- records that are in form hold their words
module _ {A : Type 0} (f : List ℕ → ℕ → A) (words : A → List ℕ) (t : List ℕ → ℕ → Bool) (w : ℕ) (l : List ℕ)
    (each : (a : ℕ) → a + w ≤ length l → t l a ≡ true → words (f l a) ≡ cut l a w) where
  pub rows_cut : (a n : ℕ) → a + w * n ≤ length l → all_at t w l a n ≡ true → rows_of words (records_from f w l a n) ≡ cut l a (w * n)
  unfolding rows_of records_from all_at
  rows_cut a zero h e =
      let z : w * 0 ≡ 0 = omega arith in
      sym (cut_nothing l a) ∙ ap (cut l a) (sym z)
  rows_cut a (suc n) h e =
      let g : a + (w + w * n) ≤ length l = omega (arith, h) in
      let q : w + w * n ≡ w * suc n = omega arith in
      ap (λ (z : List ℕ). z ++ rows_of words (records_from f w l (a + w) n)) (each a (omega (arith, g)) (both_1 (t l a) (all_at t w l (a + w) n) e))
      ∙ ap (λ (z : List ℕ). cut l a w ++ z) (rows_cut (a + w) n (omega (arith, g)) (both_2 (t l a) (all_at t w l (a + w) n) e))
      ∙ cut_add l a w (w * n) ∙ ap (cut l a) q

-- the front of two lists
take_front : (xs ys : List ℕ) (n : ℕ) → n ≤ length xs → take n (xs ++ ys) ≡ take n xs
take_front [] ys zero h = refl
take_front [] ys (suc n) h = absurd (omega (arith, h))
take_front (x ∷ xs) ys zero h = refl
take_front (x ∷ xs) ys (suc n) h = ap (λ (z : List ℕ). x ∷ z) (take_front xs ys n (omega (arith, h)))

drop_front : (xs ys : List ℕ) (n : ℕ) → n ≤ length xs → drop n (xs ++ ys) ≡ drop n xs ++ ys
drop_front [] ys zero h = refl
drop_front [] ys (suc n) h = absurd (omega (arith, h))
drop_front (x ∷ xs) ys zero h = refl
drop_front (x ∷ xs) ys (suc n) h = drop_front xs ys n (omega (arith, h))

take_behind : (xs ys : List ℕ) (n : ℕ) → take (length xs + n) (xs ++ ys) ≡ xs ++ take n ys
take_behind [] ys n =
    let e : 0 + n ≡ n = omega arith in
    ap (λ (k : ℕ). take k ys) e
take_behind (x ∷ xs) ys n =
    let e : suc (length xs) + n ≡ suc (length xs + n) = omega arith in
    ap (λ (k : ℕ). take k (x ∷ (xs ++ ys))) e ∙ ap (λ (z : List ℕ). x ∷ z) (take_behind xs ys n)

over_front_is : (l w : List ℕ) → over l 0 w ≡ w ++ drop (length w) l
unfolding over
over_front_is l w =
    let e : 0 + length w ≡ length w = omega arith in
    ap (λ (k : ℕ). w ++ drop k l) e

-- a span in the first of two lists, in the second, and in what was put in front
pub over_left : (xs ys : List ℕ) (a : ℕ) (vs : List ℕ) → a + length vs ≤ length xs → over (xs ++ ys) a vs ≡ over xs a vs ++ ys
unfolding over
over_left xs ys a vs h =
    ap (λ (z : List ℕ). z ++ (vs ++ drop (a + length vs) (xs ++ ys))) (take_front xs ys a (omega (arith, h)))
    ∙ ap (λ (z : List ℕ). take a xs ++ (vs ++ z)) (drop_front xs ys (a + length vs) h)
    ∙ ap (λ (z : List ℕ). take a xs ++ z) (sym (append_assoc vs (drop (a + length vs) xs) ys))
    ∙ sym (append_assoc (take a xs) (vs ++ drop (a + length vs) xs) ys)

pub over_right : (xs ys : List ℕ) (a b : ℕ) (vs : List ℕ) → b ≡ length xs + a → over (xs ++ ys) b vs ≡ xs ++ over ys a vs
unfolding over
over_right xs ys a b vs e =
    let q : b + length vs ≡ length xs + (a + length vs) = omega (arith, e) in
    ap (λ (k : ℕ). take k (xs ++ ys) ++ (vs ++ drop (b + length vs) (xs ++ ys))) e
    ∙ ap (λ (z : List ℕ). z ++ (vs ++ drop (b + length vs) (xs ++ ys))) (take_behind xs ys a)
    ∙ ap (λ (k : ℕ). (xs ++ take a ys) ++ (vs ++ drop k (xs ++ ys))) q
    ∙ ap (λ (z : List ℕ). (xs ++ take a ys) ++ (vs ++ z)) (drop-append-add xs ys (a + length vs))
    ∙ append_assoc xs (take a ys) (vs ++ drop (a + length vs) ys)

pub over_in : (l w : List ℕ) (a : ℕ) (vs : List ℕ) → a + length vs ≤ length w → over (over l 0 w) a vs ≡ over l 0 (over w a vs)
over_in l w a vs h =
    let n : length (over w a vs) ≡ length w = length_over w a vs h in
    ap (λ (z : List ℕ). over z a vs) (over_front_is l w) ∙ over_left w (drop (length w) l) a vs h
    ∙ ap (λ (k : ℕ). over w a vs ++ drop k l) (sym n) ∙ sym (over_front_is l (over w a vs))

-- a record written to its place
module _ {A : Type 0} (f : A → List ℕ) (k : ℕ) (each : (x : A) → length (f x) ≡ k) where
  pub rows_set : (xs : List A) (i : ℕ) (y : A) → i < length xs → over (rows_of f xs) (k * i) (f y) ≡ rows_of f (set xs i y)
  unfolding rows_of
  rows_set [] i y h = absurd (omega (arith, h))
  rows_set (x ∷ xs) zero y h =
      let e : k * 0 ≡ 0 = omega arith in
      let g : 0 + length (f y) ≤ length (f x) = omega (arith, each x, each y) in
      ap (λ (a : ℕ). over (f x ++ rows_of f xs) a (f y)) e ∙ over_left (f x) (rows_of f xs) 0 (f y) g
      ∙ ap (λ (z : List ℕ). z ++ rows_of f xs) (over_all (f x) (f y) k (each x) (each y))
  rows_set (x ∷ xs) (suc i) y h =
      let e : k * suc i ≡ length (f x) + k * i = omega (arith, each x) in
      over_right (f x) (rows_of f xs) (k * i) (k * suc i) (f y) e ∙ ap (λ (z : List ℕ). f x ++ z) (rows_set xs i y (omega (arith, h)))
