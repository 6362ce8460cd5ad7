-- Laws of fills that are copied on. Assumes nothing.
use Rattle.types.proofs.Prelude.{◌≡◌, sym, ap, ◌∙◌, List, ℕ, ◌+◌, ◌-◌, ◌≤◌, arith, length, take, drop, replicate, length-replicate, take_all}
use Rattle.types.proofs.Spans.{over_over, over_span}
use lib.{ListN.replicate-append-replicate, Seq.take_at, Seq.take-take}
use Rattle.types.specs.Span.{over, cut}

-- m filled cells more, after k
fill_on : (l cs r : List ℕ) (to k m n v : ℕ) → n ≡ k + m → to + n ≤ length l → cs ≡ over l to (replicate k v) → r ≡ over cs (to + k) (replicate m v) → r ≡ over l to (replicate n v)
fill_on l cs r to k m n v q g e d =
    let f : length (replicate k v) ≡ k = length-replicate k v in
    d
    ∙ ap (λ (x : List ℕ). over x (to + k) (replicate m v)) e
    ∙ ap (λ (x : ℕ). over (over l to (replicate k v)) (to + x) (replicate m v)) (sym f)
    ∙ over_over l to (replicate k v) (replicate m v) (omega (arith, f))
    ∙ ap (over l to) (replicate-append-replicate k m v)
    ∙ ap (λ (x : ℕ). over l to (replicate x v)) (sym q)

take_replicate : (m k v : ℕ) → m ≤ k → take m (replicate k v) ≡ replicate m v
take_replicate m k v h =
    let e : m + (k - m) ≡ k = omega arith in
    ap (λ (x : ℕ). take m (replicate x v)) (sym e)
    ∙ ap (take m) (sym (replicate-append-replicate m (k - m) v))
    ∙ take_at (replicate m v) (replicate (k - m) v) m (length-replicate m v)

-- the filled cells, or the first of them
cut_fill : (l : List ℕ) (to k m v : ℕ) → m ≤ k → to ≤ length l → cut (over l to (replicate k v)) to m ≡ replicate m v
unfolding cut
cut_fill l to k m v h g =
    let vs = replicate k v in
    let x = drop to (over l to vs) in
    let f : length vs ≡ k = length-replicate k v in
    sym (take-take m k x h)
    ∙ ap (λ (z : ℕ). take m (take z x)) (sym f)
    ∙ ap (take m) (over_span l to vs g)
    ∙ take_replicate m k v h

-- and copied on
pub copy_on_lem : (l cs r : List ℕ) (to k m n v : ℕ) → n ≡ k + m → m ≤ k → to + n ≤ length l → cs ≡ over l to (replicate k v) → r ≡ over cs (to + k) (cut cs to m) → r ≡ over l to (replicate n v)
copy_on_lem l cs r to k m n v q h g e d =
    let c : cut cs to m ≡ replicate m v = ap (λ (x : List ℕ). cut x to m) e ∙ cut_fill l to k m v h (omega arith) in
    fill_on l cs r to k m n v q g e (d ∙ ap (over cs (to + k)) c)

-- the whole of a list is its span
pub cut_all : (l : List ℕ) → cut l 0 (length l) ≡ l
unfolding cut
cut_all l = take_all (length l) l (omega arith)
