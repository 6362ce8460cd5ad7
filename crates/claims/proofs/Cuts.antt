-- Cells of spans in two lists: a part of a span, a span with some cells replaced or with more cells at its end, a new span. Assumes nothing.
use Rattle.std.specs.Prelude.{ℕ, ◌+◌, ◌-◌, ◌≤◌, ◌<◌, ◌≡◌, List, ◌++◌, length, take, drop, get_or, replicate}
use Rattle.types.specs.{Names.over, Span.cut}
use mathlib.Core.Path.{refl, sym, ap, ◌∙◌}
use native.Mathlib.{Omega.arith, Nat.add-zero}
use lib.{ListN.length-take, ListN.length-replicate, Seq.take-take, Seq.drop-drop, Seq.take-add, Seq.get_or-take, Seq.get_or-drop}
use Rattle.types.proofs.Spans.{cut_of, cut_before, over_span, over_after}

-- cells within a span, by the span's own
cut_cut : (l : List ℕ) (s z a n : ℕ) → a + n ≤ z → cut l (s + a) n ≡ cut (cut l s z) a n
unfolding cut
cut_cut l s z a n h =
    ap (take n) (sym (drop-drop a s l)) ∙ cut_of (drop s l) a n ∙ ap (drop a) (sym (take-take (a + n) z (drop s l) h)) ∙ sym (cut_of (take z (drop s l)) a n)

-- one cell of it
get_or_cut : (l : List ℕ) (s z i : ℕ) → i < z → get_or l (s + i) 0 ≡ get_or (cut l s z) i 0
unfolding cut
get_or_cut l s z i h = sym (get_or-take z (drop s l) i 0 h ∙ get_or-drop s l i 0)

-- a span is no longer than it was asked to be
pub cut_short : (l : List ℕ) (a n : ℕ) → length (cut l a n) ≤ n
unfolding cut
cut_short l a n = omega (arith, length-take n (drop a l))

-- a span by its first cells and the others
cut_add : (l : List ℕ) (s n k : ℕ) → cut l s (n + k) ≡ cut l s n ++ cut l (s + n) k
unfolding cut
cut_add l s n k = take-add n k (drop s l) ∙ ap (λ (d : List ℕ). take n (drop s l) ++ take k d) (drop-drop n s l)

-- a span of which some cells are replaced
over_parts : (l : List ℕ) (s a : ℕ) (vs : List ℕ) (k : ℕ) → s + (a + length vs) ≤ length l
    → cut (over l (s + a) vs) s (a + (length vs + k)) ≡ cut l s a ++ (vs ++ cut l (s + (a + length vs)) k)
unfolding cut
over_parts l s a vs k h =
    let n = length vs in
    let new = over l (s + a) vs in
    let q : s + a + n ≡ s + (a + n) = omega arith in
    cut_add new s a (n + k)
    ∙ ap (λ (x : List ℕ). cut new s a ++ x) (cut_add new (s + a) n k)
    ∙ ap (λ (x : List ℕ). x ++ (cut new (s + a) n ++ cut new (s + a + n) k)) (cut_before l (s + a) vs s a (omega arith) (omega arith))
    ∙ ap (λ (x : List ℕ). cut l s a ++ (x ++ cut new (s + a + n) k)) (over_span l (s + a) vs (omega arith))
    ∙ ap (λ (x : List ℕ). cut l s a ++ (vs ++ take k x)) (over_after l (s + a) vs (s + a + n) (omega arith) (omega arith))
    ∙ ap (λ (x : ℕ). cut l s a ++ (vs ++ cut l x k)) q

-- spans of two lists
module _ (l l' : List ℕ) (s s' : ℕ) where
  -- of the same cells, so their parts are the same
  pub part_alike : (z z' a n : ℕ) → z ≡ z' → a + n ≤ z → cut l s z ≡ cut l' s' z' → cut l (s + a) n ≡ cut l' (s' + a) n
  part_alike z z' a n q h e = cut_cut l s z a n h ∙ ap (λ (x : List ℕ). cut x a n) e ∙ sym (cut_cut l' s' z' a n (omega arith))

  -- and each cell
  pub cell_alike : (z z' i : ℕ) → z ≡ z' → i < z → cut l s z ≡ cut l' s' z' → get_or l (s + i) 0 ≡ get_or l' (s' + i) 0
  cell_alike z z' i q h e = get_or_cut l s z i h ∙ ap (λ (x : List ℕ). get_or x i 0) e ∙ sym (get_or_cut l' s' z' i (omega arith))

  -- the first cells
  pub first_alike : (z z' n : ℕ) → z ≡ z' → n ≤ z → cut l s z ≡ cut l' s' z' → cut l s n ≡ cut l' s' n
  first_alike z z' n q h e = simp add-zero at (part_alike z z' 0 n q (omega arith) e)

  -- the same cells are replaced
  put_alike : (a : ℕ) (vs : List ℕ) (k : ℕ) → s + (a + length vs) ≤ length l → s' + (a + length vs) ≤ length l'
      → cut l s a ≡ cut l' s' a → cut l (s + (a + length vs)) k ≡ cut l' (s' + (a + length vs)) k
      → cut (over l (s + a) vs) s (a + (length vs + k)) ≡ cut (over l' (s' + a) vs) s' (a + (length vs + k))
  put_alike a vs k h h' p q =
      over_parts l s a vs k h ∙ ap (λ (x : List ℕ). x ++ (vs ++ cut l (s + (a + length vs)) k)) p
      ∙ ap (λ (x : List ℕ). cut l' s' a ++ (vs ++ x)) q ∙ sym (over_parts l' s' a vs k h')

  -- inside a span
  pub inside_alike : (z z' a : ℕ) (vs : List ℕ) → z ≡ z' → a + length vs ≤ z → s + z ≤ length l → s' + z' ≤ length l' → cut l s z ≡ cut l' s' z'
      → cut (over l (s + a) vs) s z ≡ cut (over l' (s' + a) vs) s' z'
  inside_alike z z' a vs q h g g' e =
      let k = z - (a + length vs) in
      let x : z ≡ a + (length vs + k) = omega arith in
      let x' : z' ≡ a + (length vs + k) = omega arith in
      ap (cut (over l (s + a) vs) s) x
      ∙ put_alike a vs k (omega arith) (omega arith) (first_alike z z' a q (omega arith) e) (part_alike z z' (a + length vs) k q (omega arith) e)
      ∙ sym (ap (cut (over l' (s' + a) vs) s') x')

  -- n equal cells more
  pub more_alike : (z z' n v : ℕ) → z ≡ z' → s + (z + n) ≤ length l → s' + (z' + n) ≤ length l' → cut l s z ≡ cut l' s' z'
      → cut (over l (s + z) (replicate n v)) s (z + n) ≡ cut (over l' (s' + z') (replicate n v)) s' (z' + n)
  unfolding cut
  more_alike z z' n v q g g' e =
      let vs = replicate n v in
      let c : length vs ≡ n = length-replicate n v in
      let x : z + n ≡ z + (length vs + 0) = omega arith in
      let x' : z + (length vs + 0) ≡ z' + n = omega arith in
      ap (cut (over l (s + z) vs) s) x
      ∙ put_alike z vs 0 (omega arith) (omega arith) (first_alike z z' z q (omega arith) e) refl
      ∙ ap (λ (y : ℕ). cut (over l' (s' + z) vs) s' y) x'
      ∙ ap (λ (y : ℕ). cut (over l' (s' + y) vs) s' (z' + n)) q

  -- n equal cells anew
  pub made_alike : (n v : ℕ) → s ≤ length l → s' ≤ length l' → cut (over l s (replicate n v)) s n ≡ cut (over l' s' (replicate n v)) s' n
  unfolding cut
  made_alike n v h h' = all l s h ∙ sym (all l' s' h')
    where
      all : (x : List ℕ) (a : ℕ) → a ≤ length x → cut (over x a (replicate n v)) a n ≡ replicate n v
      all x a g = ap (λ (k : ℕ). take k (drop a (over x a (replicate n v)))) (sym (length-replicate n v)) ∙ over_span x a (replicate n v) g
