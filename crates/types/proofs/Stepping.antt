-- The standard's steps of fill, init and copy leave the closed form: a span replaced by what the source was before. Assumes nothing.
use Rattle.types.proofs.Prelude.{◌≡◌, refl, ap, sym, ◌∙◌, Bool, true, false, List, [], ◌∷◌, ◌++◌, ℕ, zero, suc, ◌+◌, ◌-◌, ◌≤◌, ◌<◌, arith, leb-true}
use Rattle.types.proofs.Prelude.{leb-false, leb, length, take, drop, set, get_or, replicate, length-set, length-take, length-drop, drop-cons}
use Rattle.types.proofs.Spans.{over_nil, over_first, over_last}
use mathlib.Core.Logic.{◌⊎◌, inl, inr}
use native.Mathlib.Nat.{add-suc, add_assoc}
use lib.Seq.{take-suc, get_or-drop, drop-set-lt, drop-set-add, take-set-le}
use Rattle.types.specs.{Pick.pick, Span.over, Span.cut, Steps.fill_steps, Steps.init_steps, Steps.copy_steps, Steps.Apart}

pub fill_closed : (n : ℕ) (l : List ℕ) (x i v : ℕ) → x + i + n ≤ length l → fill_steps n l x i v ≡ over l (x + i) (replicate n v)
unfolding fill_steps
fill_closed zero l x i v h = sym (over_nil l (x + i))
fill_closed (suc n) l x i v h =
    fill_closed n (set l (x + i) v) x (suc i) v (rw length-set (omega arith))
    ∙ ap (λ (k : ℕ). over (set l (x + i) v) k (replicate n v)) (add-suc x i)
    ∙ over_first l (x + i) (replicate n v) v (omega arith)

pub init_closed : (n : ℕ) (l : List ℕ) (x d : ℕ) (items : List ℕ) (s : ℕ) → x + d + n ≤ length l → s + n ≤ length items
    → init_steps n l x d items s ≡ over l (x + d) (cut items s n)
unfolding init_steps cut
init_closed zero l x d items s h g = sym (over_nil l (x + d))
init_closed (suc n) l x d items s h g =
    let v = get_or items s 0 in
    init_closed n (set l (x + d) v) x (suc d) items (suc s) (rw length-set (omega arith)) (omega arith)
    ∙ ap (λ (k : ℕ). over (set l (x + d) v) k (take n (drop (suc s) items))) (add-suc x d)
    ∙ over_first l (x + d) (take n (drop (suc s) items)) v (omega arith)
    ∙ ap (λ (z : List ℕ). over l (x + d) (take (suc n) z)) (sym (drop-cons items s 0 (omega arith)))

-- a store outside a span leaves the span
pub span_set : (n a : ℕ) (l : List ℕ) (i v : ℕ) → (i < a) ⊎ (a + n ≤ i) → take n (drop a (set l i v)) ≡ take n (drop a l)
span_set n a l i v (inl h) = ap (take n) (drop-set-lt a l i v h)
span_set n a l i v (inr h) =
    let e : i ≡ a + (i - a) = omega arith in
    ap (λ (k : ℕ). take n (drop a (set l k v))) e
    ∙ ap (take n) (drop-set-add a l (i - a) v)
    ∙ take-set-le n (drop a l) (i - a) v (omega arith)

-- the first cell, then the others
module _ (n : ℕ) (l : List ℕ) (to from : ℕ) (h : to + suc n ≤ length l) (g : from + suc n ≤ length l) where
  pub first_then : (to < suc from) ⊎ (suc from + n ≤ to)
      → over (set l to (get_or l from 0)) (suc to) (take n (drop (suc from) (set l to (get_or l from 0)))) ≡ over l to (take (suc n) (drop from l))
  first_then f =
      let v = get_or l from 0 in
      ap (λ (z : List ℕ). over (set l to v) (suc to) z) (span_set n (suc from) l to v f)
      ∙ over_first l to (take n (drop (suc from) l)) v (omega arith)
      ∙ ap (λ (z : List ℕ). over l to (take (suc n) z)) (sym (drop-cons l from 0 (omega arith)))

  pub last_then : (to + n < from) ⊎ (from + n ≤ to + n)
      → over (set l (to + n) (get_or l (from + n) 0)) to (take n (drop from (set l (to + n) (get_or l (from + n) 0)))) ≡ over l to (take (suc n) (drop from l))
  last_then f =
      let v = get_or l (from + n) 0 in
      let vs = take n (drop from l) in
      let e : length vs ≡ n = simp (length-take, length-drop) (omega arith) in
      ap (λ (z : List ℕ). over (set l (to + n) v) to z) (span_set n from l (to + n) v f)
      ∙ ap (λ (k : ℕ). over (set l (to + k) v) to vs) (sym e)
      ∙ over_last l to vs v (omega (arith, e))
      ∙ ap (λ (k : ℕ). over l to (vs ++ k ∷ [])) (sym (get_or-drop from l n 0))
      ∙ ap (λ (z : List ℕ). over l to z) (sym (take-suc (drop from l) n 0 (simp length-drop (omega arith))))

pick_by : {A : Type 0} (t : Bool) (a b r : A) → (t ≡ true → a ≡ r) → (t ≡ false → b ≡ r) → pick t a b ≡ r
unfolding pick
pick_by true a b r p q = p refl
pick_by false a b r p q = q refl

module _ (n x d y s : ℕ) where
  apart_first : Apart (suc n) x d y s → Apart n x (suc d) y (suc s)
  apart_first (inl e) = inl e
  apart_first (inr (inl h)) = inr (inl (omega arith))
  apart_first (inr (inr h)) = inr (inr (omega arith))

  apart_last : Apart (suc n) x d y s → Apart n x d y s
  apart_last (inl e) = inl e
  apart_last (inr (inl h)) = inr (inl (omega arith))
  apart_last (inr (inr h)) = inr (inr (omega arith))

  out_first : d ≤ s → Apart (suc n) x d y s → (x + d < suc (y + s)) ⊎ (suc (y + s) + n ≤ x + d)
  out_first f (inl e) = inl (omega arith)
  out_first f (inr (inl h)) = inl (omega arith)
  out_first f (inr (inr h)) = inr (omega arith)

  out_last : s < d → Apart (suc n) x d y s → (x + d + n < y + s) ⊎ (y + s + n ≤ x + d + n)
  out_last f (inl e) = inr (omega arith)
  out_last f (inr (inl h)) = inl (omega arith)
  out_last f (inr (inr h)) = inr (omega arith)

pub copy_closed : (n : ℕ) (l : List ℕ) (x d y s : ℕ) → x + d + n ≤ length l → y + s + n ≤ length l → Apart n x d y s
    → copy_steps n l x d y s ≡ over l (x + d) (cut l (y + s) n)
unfolding copy_steps cut
copy_closed zero l x d y s h g a = sym (over_nil l (x + d))
copy_closed (suc n) l x d y s h g a =
    pick_by (leb d s) _ _ _
    (λ t. copy_closed n (set l (x + d) (get_or l (y + s) 0)) x (suc d) y (suc s) (rw length-set (omega arith)) (rw length-set (omega arith)) (apart_first n x d y s a)
    ∙ rw (add-suc x d, add-suc y s) (first_then n l (x + d) (y + s) h g (out_first n x d y s (leb-true d s t) a)))
    (λ t. copy_closed n (set l (x + (d + n)) (get_or l (y + (s + n)) 0)) x d y s (rw length-set (omega arith)) (rw length-set (omega arith)) (apart_last n x d y s a)
    ∙ rw (← add_assoc x d n, ← add_assoc y s n) (last_then n l (x + d) (y + s) h g (out_last n x d y s (leb-false d s t) a)))
