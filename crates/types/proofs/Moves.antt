-- What a turn of a loop that copies, fills or puts adds to a span, over cells of any size. Assumes nothing.
use Rattle.types.proofs.Prelude.{◌≡◌, refl, ap, sym, ◌∙◌, List, ◌++◌, append-nil, ℕ, suc, ◌+◌, ◌-◌, ◌≤◌, ◌<◌, arith, add-one, length, take, drop, set}
use Rattle.types.proofs.Prelude.{get_or, replicate, length-take, length-drop, length-replicate, drop-drop, take_all}
use Rattle.types.proofs.Spans.{over_nil, over_put, over_over, over_under, over_after, cut_before}
use native.Mathlib.Nat.{add-zero}
use lib.{ListN.drop_of_length-le, Seq.take-suc, Seq.take-add}
use borrow.Rule.Slice.PartMut.{put_mid, mid_of, mid_len}
use Rattle.types.specs.{Span.over, Span.cut, stages.Facts.Two}

pub length_cut : (l : List ℕ) (a n : ℕ) → a + n ≤ length l → length (cut l a n) ≡ n
unfolding cut
length_cut l a n h = simp (length-take, length-drop) (omega arith)

-- the next of a source, put at its place
pub put_more : (l src : List ℕ) (to j : ℕ) → to + j < length l → j < length src
    → set (over l to (take j src)) (to + j) (get_or src j 0) ≡ over l to (take (suc j) src)
put_more l src to j h g =
    let e : length (take j src) ≡ j = simp length-take (omega arith) in
    ap (λ (k : ℕ). set (over l to (take j src)) (to + k) (get_or src j 0)) (sym e)
    ∙ over_put l to (take j src) (get_or src j 0) (omega (arith, e))
    ∙ ap (over l to) (sym (take-suc src j 0 g))

-- from the low end: i cells are there, k more go
module _ (l cs : List ℕ) (to from i k : ℕ) (f : Two to from (i + k) (length l)) (e : cs ≡ over l to (cut l from i)) where
  cut_add : cut l from i ++ cut l (from + i) k ≡ cut l from (i + k)
  unfolding cut
  cut_add = ap (λ (z : List ℕ). take i (drop from l) ++ take k z) (sym (drop-drop i from l)) ∙ sym (take-add i k (drop from l))

  so_long : length (cut l from i) ≡ i
  so_long = length_cut l from i (omega (arith, f.here))

  pub forth_more : to ≤ from → over cs (to + i) (cut cs (from + i) k) ≡ over l to (cut l from (i + k))
  unfolding cut
  forth_more g =
      let vs = cut l from i in
      let a : drop (from + i) (over l to vs) ≡ drop (from + i) l = over_after l to vs (from + i) (omega (arith, so_long, f.there)) (omega (arith, so_long)) in
      ap (λ (z : List ℕ). over z (to + i) (take k (drop (from + i) z))) e
      ∙ ap (λ (z : List ℕ). over (over l to vs) (to + i) (take k z)) a
      ∙ ap (λ (n : ℕ). over (over l to vs) (to + n) (cut l (from + i) k)) (sym so_long)
      ∙ over_over l to vs (cut l (from + i) k) (omega (arith, so_long, f.there))
      ∙ ap (over l to) cut_add

-- from the high end: the cells from i + k on are there, k more go before them
module _ (l cs : List ℕ) (to from n i k : ℕ) (f : Two to from n (length l)) (le : i + k ≤ n) (e : cs ≡ over l (to + (i + k)) (cut l (from + (i + k)) (n - (i + k)))) where
  cut_both : cut l (from + i) k ++ cut l (from + (i + k)) (n - (i + k)) ≡ cut l (from + i) (n - i)
  unfolding cut
  cut_both =
      let p : from + (i + k) ≡ from + i + k = omega arith in
      let q : k + (n - (i + k)) ≡ n - i = omega arith in
      ap (λ (z : ℕ). take k (drop (from + i) l) ++ take (n - (i + k)) (drop z l)) p
      ∙ ap (λ (z : List ℕ). take k (drop (from + i) l) ++ take (n - (i + k)) z) (sym (drop-drop k (from + i) l))
      ∙ sym (take-add k (n - (i + k)) (drop (from + i) l))
      ∙ ap (λ (z : ℕ). take z (drop (from + i) l)) q

  pub back_more : from ≤ to → over cs (to + i) (cut cs (from + i) k) ≡ over l (to + i) (cut l (from + i) (n - i))
  unfolding cut
  back_more g =
      let vs = cut l (from + (i + k)) (n - (i + k)) in
      let ws = cut l (from + i) k in
      let lw : length ws ≡ k = length_cut l (from + i) k (omega (arith, f.here)) in
      let lh : from + (i + k) + (n - (i + k)) ≤ length l = omega (arith, f.here) in
      let p : to + (i + k) ≡ to + i + length ws = omega (arith, lw) in
      let b : cut (over l (to + (i + k)) vs) (from + i) k ≡ ws = cut_before l (to + (i + k)) vs (from + i) k (omega (arith, f.there, length_cut l (from + (i + k)) (n - (i + k)) lh)) (omega arith) in
      ap (λ (z : List ℕ). over z (to + i) (cut z (from + i) k)) e
      ∙ ap (over (over l (to + (i + k)) vs) (to + i)) b
      ∙ ap (λ (z : ℕ). over (over l z vs) (to + i) ws) p
      ∙ over_under l (to + i) ws vs (omega (arith, lw, f.there))
      ∙ ap (over l (to + i)) cut_both

-- all, from the high end
pub back_all : (l cs : List ℕ) (to from n i : ℕ) → i ≡ 0 → cs ≡ over l (to + i) (cut l (from + i) (n - i)) → cs ≡ over l to (cut l from n)
back_all l cs to from n i z e =
    let p : to + i ≡ to = omega arith in
    let q : from + i ≡ from = omega arith in
    let r : n - i ≡ n = omega arith in
    e ∙ rw (p, q, r)

-- a part of as many cells, replaced
pub put_part : (a e : ℕ) (l vs : List ℕ) → a ≤ e → e ≤ length l → length vs ≡ e - a → put_mid a (e - a) l vs ≡ over l a vs
unfolding over
put_part a e l vs h g q =
    ap (λ (z : List ℕ). take a l ++ (vs ++ z)) (drop-drop (e - a) a l ∙ ap (λ (n : ℕ). drop (a + n) l) (sym q))

pub put_fill : (a n v : ℕ) (l ys : List ℕ) → a + n ≤ length l → ys ≡ replicate (length (mid_of a (a + n - a) l)) v → put_mid a (a + n - a) l ys ≡ over l a (replicate n v)
put_fill a n v l ys g q =
    let e : a + n - a ≡ n = omega arith in
    let r : ys ≡ replicate n v = q ∙ ap (λ (k : ℕ). replicate k v) (mid_len a (a + n) l g ∙ e) in
    ap (put_mid a (a + n - a) l) r ∙ put_part a (a + n) l (replicate n v) (omega arith) g (length-replicate n v ∙ sym e)

pub put_cut : (a b n : ℕ) (l m ys : List ℕ) → a + n ≤ length l → b + n ≤ length m → ys ≡ mid_of b (b + n - b) m → put_mid a (a + n - a) l ys ≡ over l a (cut m b n)
unfolding cut
put_cut a b n l m ys g h q =
    let e : a + n - a ≡ n = omega arith in
    let f : b + n - b ≡ n = omega arith in
    let r : ys ≡ cut m b n = q ∙ ap (λ (k : ℕ). take k (drop b m)) f in
    ap (put_mid a (a + n - a) l) r ∙ put_part a (a + n) l (cut m b n) (omega arith) g (length_cut m b n h ∙ sym e)

-- a list that takes another's place, from the low end
pub put_none : (s t : List ℕ) → s ≡ over s 0 (take 0 t)
put_none s t = sym (over_nil s 0)

pub put_turn : (l s t : List ℕ) (i : ℕ) → i < length l → i < length t → s ≡ over l 0 (take i t) → set s i (get_or t i 0) ≡ over l 0 (take (i + 1) t)
put_turn l s t i h g e =
    let z : 0 + i ≡ i = omega arith in
    ap (λ (x : List ℕ). set x i (get_or t i 0)) e
    ∙ rw add-one (rw z at (put_more l t 0 i (omega arith) g))

pub put_all : (l s t : List ℕ) (i : ℕ) → length l ≡ i → length t ≡ i → s ≡ over l 0 (take i t) → s ≡ t
unfolding over
put_all l s t i h g e =
    let q : length l ≤ 0 + length (take i t) = simp length-take (omega arith) in
    e ∙ rw (drop_of_length-le l q, append-nil, take_all i t (omega arith))

-- a block more, up and down; m is where the block ends, or where what is there begins
pub forth_on : (l cs r : List ℕ) (to from i k m : ℕ) → m ≡ i + k → Two to from m (length l) → to ≤ from
    → cs ≡ over l to (cut l from i) → r ≡ over cs (to + i) (cut cs (from + i) k) → r ≡ over l to (cut l from m)
forth_on l cs r to from i k m q f g e d =
    let w : Two to from (i + k) (length l) = rw q at f in
    d ∙ forth_more l cs to from i k w e g ∙ rw q

pub back_on : (l cs r : List ℕ) (to from n i k m : ℕ) → m ≡ i + k → m ≤ n → Two to from n (length l) → from ≤ to
    → cs ≡ over l (to + m) (cut l (from + m) (n - m)) → r ≡ over cs (to + i) (cut cs (from + i) k)
    → r ≡ over l (to + i) (cut l (from + i) (n - i))
back_on l cs r to from n i k m q h f g e d =
    d ∙ back_more l cs to from n i k f (omega arith) (rw q at e) g

pub back_end : (l cs r : List ℕ) (to from n m : ℕ) → m ≤ n → Two to from n (length l) → from ≤ to
    → cs ≡ over l (to + m) (cut l (from + m) (n - m)) → r ≡ over cs to (cut cs from m) → r ≡ over l to (cut l from n)
back_end l cs r to from n m h f g e d =
    let q : m ≡ 0 + m = omega arith in
    let w : r ≡ over cs (to + 0) (cut cs (from + 0) m) = rw (add-zero to, add-zero from) d in
    back_all l r to from n 0 refl (back_on l cs r to from n 0 m m q h f g e w)

-- through a second list: its first n cells take the cells from a place, and go to another
pub through : (to from n : ℕ) (l ys : List ℕ) → Two to from n (length l) → ys ≡ mid_of from (from + n - from) l → put_mid to (to + n - to) l ys ≡ over l to (cut l from n)
through to from n l ys f e = put_cut to from n l l ys f.there f.here e

pub long : (n k : ℕ) (l : List ℕ) → length l ≡ k → n ≤ k → length (take n l) ≡ n
long n k l e h = simp length-take (omega arith)
