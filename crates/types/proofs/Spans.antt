-- Laws of spans, over cells of any size: their bounds, what a replaced span holds, and what stays outside it. Assumes nothing.
use Rattle.types.proofs.Prelude.{◌≡◌, refl, ap, sym, ◌∙◌, Bool, true, false, List, [], ◌∷◌, ◌++◌, append_assoc, ℕ, zero, suc, ◌+◌, ◌-◌, ◌≤◌, ◌<◌, arith}
use Rattle.types.proofs.Prelude.{leb, length, take, drop, set, get_or, length-append, length-drop, length-set, drop-cons, drop-drop, le-leb, lt-leb}
use Rattle.types.proofs.Prelude.{leb-true, leb-false}
use native.Mathlib.Nat.{add-zero}
use lib.ListN.{take-append-drop}
use lib.Seq.{take_at, drop_at, set_at, length-take-le, take-suc-set, drop-set-lt, take-set-le, append_snoc, drop-append-add, get_or-set_same, take-take, take-nil}
use Rattle.types.specs.Span.{inside, over, cut}

-- the bounds, for all starts and lengths
pub past_end : (start len size : ℕ) → size < start → false ≡ inside start len size
unfolding inside
past_end start len size h =
    let g : size < start + len = omega arith in
    sym (lt-leb _ _ g)

pub shift_leb : (start len size : ℕ) → start ≤ size → leb len (size - start) ≡ inside start len size
unfolding inside
shift_leb start len size h = shift_by (leb len (size - start)) refl
  where
    shift_by : (t : Bool) → leb len (size - start) ≡ t → t ≡ leb (start + len) size
    shift_by true e = sym (le-leb (start + len) size (omega (arith, leb-true len (size - start) e)))
    shift_by false e = sym (lt-leb (start + len) size (omega (arith, leb-false len (size - start) e)))

-- what the test shows
pub within_is : (start len size : ℕ) → inside start len size ≡ true → start + len ≤ size
unfolding inside
within_is start len size e = leb-true (start + len) size e

head_length : (l : List ℕ) (a : ℕ) (vs : List ℕ) → a ≤ length l → length (take a l ++ vs) ≡ a + length vs
head_length l a vs h = rw length-append (rw (length-take-le a l h))

pub over_nil : (l : List ℕ) (a : ℕ) → over l a [] ≡ l
unfolding over
over_nil l a = rw add-zero (take-append-drop a l)

-- as one list, then the rest
over_flat : (l : List ℕ) (a : ℕ) (vs : List ℕ) → over l a vs ≡ (take a l ++ vs) ++ drop (a + length vs) l
unfolding over
over_flat l a vs = sym (append_assoc (take a l) vs (drop (a + length vs) l))

pub length_over : (l : List ℕ) (a : ℕ) (vs : List ℕ) → a + length vs ≤ length l → length (over l a vs) ≡ length l
unfolding over
length_over l a vs h = simp (length-append, length-take-le a l (omega arith), length-drop) (omega arith)

snoc_length : (vs : List ℕ) (x : ℕ) → length (vs ++ x ∷ []) ≡ suc (length vs)
snoc_length vs x = simp length-append (omega arith)

end_is : (a : ℕ) (vs : List ℕ) (x : ℕ) → suc (a + length vs) ≡ a + length (vs ++ x ∷ [])
end_is a vs x = omega (arith, snoc_length vs x)

front_is : (a n : ℕ) → suc a + n ≡ a + suc n
front_is a n = omega arith

-- one cell more, at the end
pub over_put : (l : List ℕ) (a : ℕ) (vs : List ℕ) (x : ℕ) → a + length vs < length l
    → set (over l a vs) (a + length vs) x ≡ over l a (vs ++ x ∷ [])
over_put l a vs x h =
    let k = a + length vs in
    let p = take a l ++ vs in
    let f : length p ≡ k = head_length l a vs (omega arith) in
    ap (λ (z : List ℕ). set z k x) (over_flat l a vs)
    ∙ ap (λ (z : List ℕ). set (p ++ z) k x) (drop-cons l k 0 h)
    ∙ set_at p (get_or l k 0) (drop (suc k) l) x k f
    ∙ sym (append_snoc p x (drop (suc k) l))
    ∙ ap (λ (z : List ℕ). z ++ drop (suc k) l) (append_assoc (take a l) vs (x ∷ []))
    ∙ ap (λ (n : ℕ). (take a l ++ (vs ++ x ∷ [])) ++ drop n l) (end_is a vs x)
    ∙ sym (over_flat l a (vs ++ x ∷ []))

-- a store just before the span, or just after it, and then the span
pub over_first : (l : List ℕ) (a : ℕ) (vs : List ℕ) (x : ℕ) → a < length l
    → over (set l a x) (suc a) vs ≡ over l a (x ∷ vs)
unfolding over
over_first l a vs x h =
    ap (λ (z : List ℕ). take (suc a) (set l a x) ++ (vs ++ z)) (drop-set-lt (suc a + length vs) l a x (omega arith))
    ∙ ap (λ (z : List ℕ). z ++ (vs ++ drop (suc a + length vs) l)) (take-suc-set l a x h)
    ∙ append_assoc (take a l) (x ∷ []) (vs ++ drop (suc a + length vs) l)
    ∙ ap (λ (n : ℕ). take a l ++ (x ∷ (vs ++ drop n l))) (front_is a (length vs))

drop_set_here : (l : List ℕ) (k x : ℕ) → k < length l → drop k (set l k x) ≡ x ∷ drop (suc k) l
drop_set_here l k x h =
    drop-cons (set l k x) k 0 (rw (length-set) h)
    ∙ rw (get_or-set_same l k x 0 h, drop-set-lt (suc k) l k x (omega arith))

pub over_last : (l : List ℕ) (a : ℕ) (vs : List ℕ) (x : ℕ) → a + length vs < length l
    → over (set l (a + length vs) x) a vs ≡ over l a (vs ++ x ∷ [])
unfolding over
over_last l a vs x h =
    let k = a + length vs in
    ap (λ (z : List ℕ). z ++ (vs ++ drop k (set l k x))) (take-set-le a l k x (omega arith))
    ∙ ap (λ (z : List ℕ). take a l ++ (vs ++ z)) (drop_set_here l k x h)
    ∙ ap (λ (z : List ℕ). take a l ++ z) (sym (append_snoc vs x (drop (suc k) l)))
    ∙ ap (λ (n : ℕ). take a l ++ ((vs ++ x ∷ []) ++ drop n l)) (end_is a vs x)

-- a span after the span
pub over_over : (l : List ℕ) (a : ℕ) (vs ws : List ℕ) → a + length vs ≤ length l
    → over (over l a vs) (a + length vs) ws ≡ over l a (vs ++ ws)
unfolding over
over_over l a vs ws h =
    let k = a + length vs in
    let p = take a l ++ vs in
    let f : length p ≡ k = head_length l a vs (omega arith) in
    let e : k + length ws ≡ a + length (vs ++ ws) = omega (arith, length-append vs ws) in
    let flat : over l a vs ≡ p ++ drop k l = over_flat l a vs in
    ap (λ (z : List ℕ). over z k ws) flat
    ∙ ap (λ (z : List ℕ). z ++ (ws ++ drop (k + length ws) (p ++ drop k l))) (take_at p (drop k l) k f)
    ∙ ap (λ (z : List ℕ). p ++ (ws ++ z))
    (ap (λ (n : ℕ). drop (n + length ws) (p ++ drop k l)) (sym f) ∙ drop-append-add p (drop k l) (length ws) ∙ drop-drop (length ws) k l)
    ∙ append_assoc (take a l) vs (ws ++ drop (k + length ws) l)
    ∙ ap (λ (z : List ℕ). take a l ++ z) (sym (append_assoc vs ws (drop (k + length ws) l)))
    ∙ ap (λ (n : ℕ). take a l ++ ((vs ++ ws) ++ drop n l)) e

-- what lies before the span, and from its end on, is as it was
pub over_after : (l : List ℕ) (a : ℕ) (vs : List ℕ) (k : ℕ) → a + length vs ≤ length l → a + length vs ≤ k
    → drop k (over l a vs) ≡ drop k l
over_after l a vs k h g =
    let e = a + length vs in
    let p = take a l ++ vs in
    let f : length p ≡ e = head_length l a vs (omega arith) in
    let q : k ≡ length p + (k - e) = omega arith in
    let r : e + (k - e) ≡ k = omega arith in
    ap (λ (z : List ℕ). drop k z) (over_flat l a vs)
    ∙ ap (λ (n : ℕ). drop n (p ++ drop e l)) q
    ∙ drop-append-add p (drop e l) (k - e)
    ∙ drop-drop (k - e) e l
    ∙ ap (λ (n : ℕ). drop n l) r

pub over_before : (l : List ℕ) (a : ℕ) (vs : List ℕ) → a ≤ length l → take a (over l a vs) ≡ take a l
unfolding over
over_before l a vs h = take_at (take a l) (vs ++ drop (a + length vs) l) a (length-take-le a l h)

pub over_span : (l : List ℕ) (a : ℕ) (vs : List ℕ) → a ≤ length l → take (length vs) (drop a (over l a vs)) ≡ vs
unfolding over
over_span l a vs h =
    ap (λ (z : List ℕ). take (length vs) z) (drop_at (take a l) (vs ++ drop (a + length vs) l) a (length-take-le a l h))
    ∙ take_at vs (drop (a + length vs) l) (length vs) refl

pub over_low : (l : List ℕ) (a : ℕ) (vs : List ℕ) (b : ℕ) → b ≤ a → a ≤ length l → take b (over l a vs) ≡ take b l
over_low l a vs b g h =
    sym (take-take b a (over l a vs) g) ∙ ap (take b) (over_before l a vs h) ∙ take-take b a l g

-- a span before the span
pub over_under : (l : List ℕ) (a : ℕ) (ws vs : List ℕ) → a + length ws ≤ length l
    → over (over l (a + length ws) vs) a ws ≡ over l a (ws ++ vs)
unfolding over
over_under l a ws vs h =
    let k = a + length ws in
    let e : k + length vs ≡ a + length (ws ++ vs) = omega (arith, length-append ws vs) in
    ap (λ (z : List ℕ). z ++ (ws ++ drop k (over l k vs))) (over_low l k vs a (omega arith) h)
    ∙ ap (λ (z : List ℕ). take a l ++ (ws ++ z)) (drop_at (take k l) (vs ++ drop (k + length vs) l) k (length-take-le k l h))
    ∙ ap (λ (z : List ℕ). take a l ++ z) (sym (append_assoc ws vs (drop (k + length vs) l)))
    ∙ ap (λ (n : ℕ). take a l ++ ((ws ++ vs) ++ drop n l)) e

-- the cells of a span, by those up to its end
pub cut_of : (l : List ℕ) (b k : ℕ) → take k (drop b l) ≡ drop b (take (b + k) l)
cut_of l zero k = let e : 0 + k ≡ k = omega arith in sym (ap (λ (j : ℕ). take j l) e)
cut_of [] (suc b) k = take-nil k ∙ sym (ap (drop (suc b)) (take-nil (suc b + k)))
cut_of (x ∷ xs) (suc b) k = let e : suc b + k ≡ suc (b + k) = omega arith in cut_of xs b k ∙ sym (ap (λ (j : ℕ). drop (suc b) (take j (x ∷ xs))) e)

pub cut_before : (l : List ℕ) (a : ℕ) (vs : List ℕ) (b k : ℕ) → a + length vs ≤ length l → b + k ≤ a → cut (over l a vs) b k ≡ cut l b k
unfolding cut
cut_before l a vs b k h g =
    cut_of (over l a vs) b k ∙ ap (drop b) (over_low l a vs (b + k) g (omega arith)) ∙ sym (cut_of l b k)
