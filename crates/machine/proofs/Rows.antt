-- Laws of rows of words that are written piece by piece. Assumes nothing.
use Rattle.types.proofs.Prelude.{ℕ, zero, suc, ◌+◌, ◌*◌, ◌≤◌, ◌<◌, ◌≡◌, refl, sym, ap, ◌∙◌, List, [], ◌∷◌, ◌++◌, append_assoc, append-nil, arith, add-one}
use Rattle.types.proofs.{Prelude.length, Prelude.take, Prelude.set, Prelude.get_or, Prelude.length-append, Prelude.take_all, Spans.over_nil, Spans.over_over}
use Rattle.types.proofs.Moves.{put_more}
use lib.{ListN.drop_of_length-le, Seq.length-take-le}
use Rattle.types.specs.Span.{over}
use Rattle.machine.specs.Words.{rows_of}

-- a loop that writes a row word by word: before it, a turn, after it
pub put_none : (l row : List ℕ) (at : ℕ) → l ≡ over l at (take 0 row)
put_none l row at = sym (over_nil l at)

pub put_turn : (l s row : List ℕ) (at i : ℕ) → at + length row ≤ length l → i < length row → s ≡ over l at (take i row)
    → set s (at + i) (get_or row i 0) ≡ over l at (take (i + 1) row)
put_turn l s row at i h g e =
    ap (λ (x : List ℕ). set x (at + i) (get_or row i 0)) e
    ∙ rw add-one (put_more l row at i (omega arith) g)

-- one piece more, where the place is known
pub then_over : (l s t vs ws : List ℕ) (a b n : ℕ) → length vs ≡ n → b ≡ a + n → b ≤ length l → s ≡ over l a vs → t ≡ over s b ws
    → t ≡ over l a (vs ++ ws)
then_over l s t vs ws a b n v q h e d =
    let w : b ≡ a + length vs = omega (arith, q, v) in
    d ∙ ap (λ (z : List ℕ). over z b ws) e ∙ ap (λ (k : ℕ). over (over l a vs) k ws) w ∙ over_over l a vs ws (omega (arith, w, h))

pub length_both : (vs ws : List ℕ) (n k m : ℕ) → length vs ≡ n → length ws ≡ k → m ≡ n + k → length (vs ++ ws) ≡ m
length_both vs ws n k m p q e = length-append vs ws ∙ omega (arith, p, q, e)

pub then_both : (l s t w vs us ws : List ℕ) (a b k n m : ℕ) → length vs ≡ n → length us ≡ m → b ≡ a + n → k ≡ b + m → k ≤ length l
    → s ≡ over l a vs → t ≡ over s b us → w ≡ over t k ws → w ≡ over l a ((vs ++ us) ++ ws)
then_both l s t w vs us ws a b k n m p q f g h x y z =
    then_over l t w (vs ++ us) ws a k (n + m) (length_both vs us n m (n + m) p q refl) (omega (arith, f, g)) h
    (then_over l s t vs us a b n p f (omega (arith, g, h)) x y) z

-- a row that is all written anew
pub over_all : (l row : List ℕ) (n : ℕ) → length l ≡ n → length row ≡ n → over l 0 row ≡ row
unfolding over
over_all l row n p q =
    let h : length l ≤ 0 + length row = omega (arith, p, q) in
    rw (drop_of_length-le l h, append-nil) refl

-- records written one after another
module _ {A : Type 0} (f : A → List ℕ) (d : A) where
  pub rows_more : (xs : List A) (i : ℕ) → i < length xs → rows_of f (take (suc i) xs) ≡ rows_of f (take i xs) ++ f (get_or xs i d)
  unfolding rows_of
  rows_more [] i h = absurd (omega arith)
  rows_more (x ∷ xs) zero h = append-nil (f x)
  rows_more (x ∷ xs) (suc i) h =
      ap (λ (z : List ℕ). f x ++ z) (rows_more xs i (omega arith)) ∙ sym (append_assoc (f x) (rows_of f (take i xs)) (f (get_or xs i d)))

  module _ (k : ℕ) (each : (x : A) → length (f x) ≡ k) where
    pub rows_length : (xs : List A) → length (rows_of f xs) ≡ k * length xs
    unfolding rows_of
    rows_length [] = omega arith
    rows_length (x ∷ xs) =
        let e : length (f x) + length (rows_of f xs) ≡ k * suc (length xs) = omega (arith, each x, rows_length xs) in
        length-append (f x) (rows_of f xs) ∙ e

    -- a loop that writes them: before it, a turn, after it
    pub rows_none : (l : List ℕ) (xs : List A) (at : ℕ) → l ≡ over l at (rows_of f (take 0 xs))
    unfolding rows_of
    rows_none l xs at = sym (over_nil l at)

    pub rows_turn : (l s t row : List ℕ) (xs : List A) (at i to : ℕ) → i < length xs → to ≤ length l → to ≡ at + k * i
        → s ≡ over l at (rows_of f (take i xs)) → row ≡ f (get_or xs i d) → t ≡ over s to row → t ≡ over l at (rows_of f (take (i + 1) xs))
    rows_turn l s t row xs at i to g h q e r b =
        let n : length (take i xs) ≡ i = length-take-le i xs (omega arith) in
        let v : length (rows_of f (take i xs)) ≡ k * i = rows_length (take i xs) ∙ ap (λ (j : ℕ). k * j) n in
        then_over l s t (rows_of f (take i xs)) row at to (k * i) v q h e b
        ∙ ap (λ (z : List ℕ). over l at (rows_of f (take i xs) ++ z)) r
        ∙ ap (over l at) (sym (rows_more xs i g) ∙ ap (λ (j : ℕ). rows_of f (take j xs)) (sym (add-one i)))

    pub rows_done : (l s : List ℕ) (xs : List A) (at i : ℕ) → length xs ≤ i → s ≡ over l at (rows_of f (take i xs)) → s ≡ over l at (rows_of f xs)
    rows_done l s xs at i h e = e ∙ ap (λ (z : List A). over l at (rows_of f z)) (take_all i xs h)

-- lists that are equal place by place
pub join : {A : Type 0} {x y : A} {xs ys : List A} → x ≡ y → xs ≡ ys → x ∷ xs ≡ y ∷ ys
join {A = A} {y = y} {xs = xs} e f = ap (λ (z : A). z ∷ xs) e ∙ ap (λ (z : List A). y ∷ z) f
