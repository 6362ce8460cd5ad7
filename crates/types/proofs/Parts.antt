-- Laws of a list that takes another's place part by part, over cells of any size. Assumes nothing.
use Rattle.types.proofs.Prelude.{◌≡◌, refl, sym, ap, ◌∙◌, List, ◌++◌, ℕ, ◌+◌, ◌-◌, ◌/◌, ◌≤◌, ◌<◌, arith, length, take, length-take, length-drop}
use Rattle.types.proofs.{Prelude.take_all, Spans.over_over, Moves.put_part, Moves.put_none, Moves.put_all}
use lib.Seq.{take-add}
use borrow.Rule.Slice.PartMut.{put_mid, mid_of, mid_len}
use Rattle.types.specs.Span.{over}

-- the cells from i to e, after those up to i
pub put_on : (l s t ys : List ℕ) (i e : ℕ) → i ≤ e → e ≤ length t → length l ≡ length t → length s ≡ length l
    → s ≡ over l 0 (take i t) → ys ≡ mid_of i (e - i) t → put_mid i (e - i) s ys ≡ over l 0 (take e t)
put_on l s t ys i e h g q w p d =
    let k : length (take i t) ≡ i = simp length-take (omega arith) in
    let z : 0 + length (take i t) ≡ i = omega (arith, k) in
    let r : i + (e - i) ≡ e = omega arith in
    let o : over (over l 0 (take i t)) i ys ≡ over l 0 (take i t ++ ys) = rw z at (over_over l 0 (take i t) ys (omega (arith, k))) in
    put_part i e s ys h (omega arith) (ap length d ∙ mid_len i e t g)
    ∙ ap (λ (x : List ℕ). over x i ys) p
    ∙ o
    ∙ ap (λ (x : List ℕ). over l 0 (take i t ++ x)) d
    ∙ ap (over l 0) (sym (take-add i (e - i) t))
    ∙ ap (λ (x : ℕ). over l 0 (take x t)) r

-- parts of lists as long as each other are as long
pub parts_same : (i e : ℕ) (l m : List ℕ) → length l ≡ length m → length (mid_of i (e - i) l) ≡ length (mid_of i (e - i) m)
parts_same i e l m h = simp (length-take, length-drop) (omega arith)

-- the part that is the whole
pub part_all : (l : List ℕ) → mid_of 0 (length l - 0) l ≡ l
part_all l = take_all (length l - 0) l (omega arith)

-- two parts, one after the other, are the whole
pub two_parts : (h : ℕ) (l t r w : List ℕ) → h ≤ length t → length l ≡ length t → length (put_mid 0 (h - 0) l r) ≡ length l → r ≡ mid_of 0 (h - 0) t → w ≡ mid_of h (length t - h) t
    → put_mid h (length t - h) (put_mid 0 (h - 0) l r) w ≡ t
two_parts h l t r w g q k d p =
    let f : put_mid 0 (h - 0) l r ≡ over l 0 (take h t) = put_on l l t r 0 h (omega arith) g q refl (put_none l t) d in
    let e : put_mid h (length t - h) (put_mid 0 (h - 0) l r) w ≡ over l 0 (take (length t) t) = put_on l _ t w h (length t) g (omega arith) q k f p in
    put_all l _ t (length t) q refl e

-- each half is less than the whole
pub low_less : (k : ℕ) (l s : List ℕ) → length l ≡ k → 1 < length s → length l ≡ length s → length (mid_of 0 (length s / 2 - 0) l) < k
low_less k l s e h q = simp length-take (omega arith)

pub high_less : (k : ℕ) (l s : List ℕ) → length l ≡ k → 1 < length s → length l ≡ length s → length (mid_of (length s / 2) (length s - length s / 2) l) < k
high_less k l s e h q = simp (length-take, length-drop) (omega arith)
