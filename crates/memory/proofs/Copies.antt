-- Laws of a lent part that becomes another list. Assumes nothing.
use Rattle.types.proofs.Prelude.{ℕ, ◌+◌, ◌-◌, ◌≤◌, ◌≡◌, refl, sym, ap, ◌∙◌, List, [], ◌∷◌, arith, length, take, drop}
use borrow.Rule.Slice.PartMut.{put_mid, mid_of}
use Rattle.types.specs.Span.{over, cut}
use Rattle.types.proofs.{Moves.put_part, Spans.over_nil}

-- a part that became a list as long
pub put_list : (a n : ℕ) (l vs ys : List ℕ) → length vs ≡ n → a + n ≤ length l → ys ≡ vs → put_mid a (a + n - a) l ys ≡ over l a vs
put_list a n l vs ys e g q =
    let k : length vs ≡ a + n - a = omega arith in
    ap (put_mid a (a + n - a) l) q ∙ put_part a (a + n) l vs (omega arith) g k

-- a part is a cut
pub part_cut : (a n : ℕ) (l ys : List ℕ) → ys ≡ mid_of a (a + n - a) l → ys ≡ cut l a n
unfolding cut
part_cut a n l ys q =
    let e : a + n - a ≡ n = omega arith in
    q ∙ ap (λ (k : ℕ). take k (drop a l)) e

-- a list of no cells is every cut of none
pub cut_empty : (a : ℕ) (l ys : List ℕ) → length ys ≡ 0 → ys ≡ cut l a (length ys)
unfolding cut
cut_empty a l [] e = refl
cut_empty a l (y ∷ ys) e = absurd (omega (arith, e))

-- and written nowhere
pub over_empty : (a : ℕ) (l ys : List ℕ) → length ys ≡ 0 → l ≡ over l a ys
over_empty a l [] e = sym (over_nil l a)
over_empty a l (y ∷ ys) e = absurd (omega (arith, e))
