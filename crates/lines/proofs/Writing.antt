-- Laws of writing: a number's digits, and the parts of a line one after the other. Assumes nothing.
use Rattle.std.specs.Prelude.{Some, None}
use Rattle.types.proofs.Prelude.{◌≡◌, refl, sym, ap, ◌∙◌, true, List, [], ◌∷◌, ◌++◌, append_assoc, append-nil, ℕ, zero, suc, ◌+◌, ◌-◌, ◌*◌, ◌<◌, ◌≤◌, ◌/◌, ◌%◌}
use Rattle.types.proofs.Prelude.{arith, add-one, length, take, set, get_or, length-append, length-take, take_all, lt-ltb, le-ltb, pick_true, pick_false}
use Rattle.types.proofs.Spans.{over_nil, over_put, over_over, over_last}
use lib.Seq.{take-suc}
use Rattle.types.specs.{Done.done, Span.over, Names.Answer, Names.Fuel}
use Rattle.lines.specs.{Hex.hex_text, Hex.char_of, Line.space, Line.lf, Line.fields_text, Line.line_text, Line.wrote_of}
use Rattle.lines.specs.AnswerLine.{answer_bytes, answer_text, answer_line, answered_of}

-- so many digits
pub length_hex : (k v : ℕ) → length (hex_text k v) ≡ k
unfolding hex_text
length_hex zero v = refl
length_hex (suc k) v = omega (arith, length-append (hex_text k (v / 16)) (char_of (v % 16) ∷ []), length_hex k (v / 16))

-- what goes behind a span, at the place where it ends
pub put_at : (l : List ℕ) (a b : ℕ) (xs : List ℕ) (x : ℕ) → b ≡ a + length xs → a + length xs < length l → set (over l a xs) b x ≡ over l a (xs ++ x ∷ [])
put_at l a b xs x e h = ap (λ (n : ℕ). set (over l a xs) n x) e ∙ over_put l a xs x h

pub more_at : (l : List ℕ) (a b : ℕ) (xs ys : List ℕ) → b ≡ a + length xs → a + length xs ≤ length l → over (over l a xs) b ys ≡ over l a (xs ++ ys)
more_at l a b xs ys e h = ap (λ (n : ℕ). over (over l a xs) n ys) e ∙ over_over l a xs ys h

-- a turn of the loop that writes digits
pub put_on : (l m l₀ : List ℕ) (a i w n : ℕ) {c : ℕ} → i < n → a + n ≤ length l₀ → length l ≡ length l₀ → c ≡ char_of (w % 16) →
    over l a (hex_text (n - i) w) ≡ m → over (set l (a + (n - 1 - i)) c) a (hex_text (n - (i + 1)) (w / 16)) ≡ m
unfolding hex_text
put_on l m₀ l₀ a i w n h k z e q =
    let r = n - (i + 1) in
    let j : n - i ≡ suc r = omega arith in
    let x = hex_text r (w / 16) in
    let t : hex_text (n - i) w ≡ x ++ (char_of (w % 16) ∷ []) = ap (λ (n : ℕ). hex_text n w) j in
    let m : length x ≡ r = length_hex r (w / 16) in
    let b : a + (n - 1 - i) ≡ a + length x = omega (arith, m) in
    rw e
    (ap (λ (y : ℕ). over (set l y (char_of (w % 16))) a x) b
    ∙ over_last l a x (char_of (w % 16)) (omega (arith, m))
    ∙ ap (λ (z : List ℕ). over l a z) (sym t) ∙ q)

pub put_end : (l m : List ℕ) (a i w n : ℕ) → n ≤ i → over l a (hex_text (n - i) w) ≡ m → l ≡ m
unfolding hex_text
put_end l m a i w n h q =
    let j : n - i ≡ 0 = omega arith in
    sym (over_nil l a) ∙ ap (λ (n : ℕ). over l a (hex_text n w)) (sym j) ∙ q

-- the parts of an answer line, one after the other
pub answer_put : (l : List ℕ) (a n v f : ℕ) {o p q : List ℕ} → a + answer_bytes ≤ length l →
    o ≡ over l a (hex_text 2 n) → p ≡ over (set o (a + 2) space) (a + 3) (hex_text 16 v) → q ≡ over (set p (a + 19) space) (a + 20) (hex_text 16 f) →
    set q (a + 36) lf ≡ over l a (answer_text n v f)
unfolding answer_text
answer_put l a n v f {o} {p} {q} h d e g =
    let x1 = hex_text 2 n in
    let x2 = x1 ++ (space ∷ []) in
    let x3 = x2 ++ hex_text 16 v in
    let x4 = x3 ++ (space ∷ []) in
    let x5 = x4 ++ hex_text 16 f in
    let l1 : length x1 ≡ 2 = length_hex 2 n in
    let l2 : length x2 ≡ 3 = omega (arith, length-append x1 (space ∷ [])) in
    let l3 : length x3 ≡ 19 = omega (arith, length-append x2 (hex_text 16 v), length_hex 16 v) in
    let l4 : length x4 ≡ 20 = omega (arith, length-append x3 (space ∷ [])) in
    let l5 : length x5 ≡ 36 = omega (arith, length-append x4 (hex_text 16 f), length_hex 16 f) in
    let s2 : set o (a + 2) space ≡ over l a x2 = ap (λ (z : List ℕ). set z (a + 2) space) d ∙ put_at l a (a + 2) x1 space (omega arith) (omega arith) in
    let s3 : p ≡ over l a x3 = e ∙ ap (λ (z : List ℕ). over z (a + 3) (hex_text 16 v)) s2 ∙ more_at l a (a + 3) x2 (hex_text 16 v) (omega arith) (omega arith) in
    let s4 : set p (a + 19) space ≡ over l a x4 = ap (λ (z : List ℕ). set z (a + 19) space) s3 ∙ put_at l a (a + 19) x3 space (omega arith) (omega arith) in
    let s5 : q ≡ over l a x5 = g ∙ ap (λ (z : List ℕ). over z (a + 20) (hex_text 16 f)) s4 ∙ more_at l a (a + 20) x4 (hex_text 16 f) (omega arith) (omega arith) in
    let s6 : set q (a + 36) lf ≡ over l a (x5 ++ (lf ∷ [])) = ap (λ (z : List ℕ). set z (a + 36) lf) s5 ∙ put_at l a (a + 36) x5 lf (omega arith) (omega arith) in
    s6 ∙ ap (λ (z : List ℕ). over l a z) (simp append_assoc)

-- a buffer with room for a line
pub room_for : (l o : List ℕ) (a : Answer) (f : Fuel) → answer_bytes ≤ length l → o ≡ over l 0 (answer_line a f) → done true o ≡ answered_of l a f
unfolding answered_of
room_for l o a f h e = ap (done true) e ∙ sym (pick_false _ _ _ (le-ltb (length l) answer_bytes h))

-- how long a line is
pub length_fields : (xs : List ℕ) → length (fields_text xs) ≡ 17 * length xs
unfolding fields_text
length_fields [] = refl
length_fields (v ∷ xs) = omega (arith, length-append (hex_text 16 v) (fields_text xs), length_hex 16 v, length_fields xs)

pub length_line : (c : ℕ) (xs : List ℕ) → length (line_text c xs) ≡ 2 + 17 * length xs
unfolding line_text
length_line c xs = omega (arith, length-append (hex_text 2 c) (fields_text xs), length_hex 2 c, length_fields xs)

-- one field more
text_append : (xs ys : List ℕ) → fields_text (xs ++ ys) ≡ fields_text xs ++ fields_text ys
unfolding fields_text
text_append [] ys = refl
text_append (v ∷ xs) ys =
    ap (λ (z : List ℕ). space ∷ (hex_text 16 v ++ z)) (text_append xs ys)
    ∙ ap (λ (z : List ℕ). space ∷ z) (sym (append_assoc (hex_text 16 v) (fields_text xs) (fields_text ys)))

field_more : (xs : List ℕ) (v : ℕ) → (fields_text xs ++ space ∷ []) ++ hex_text 16 v ≡ fields_text (xs ++ v ∷ [])
unfolding fields_text
field_more xs v =
    append_assoc (fields_text xs) (space ∷ []) (hex_text 16 v)
    ∙ ap (λ (z : List ℕ). fields_text xs ++ space ∷ z) (sym (append-nil (hex_text 16 v)))
    ∙ sym (text_append xs (v ∷ []))

-- the loop that writes fields: none yet, a turn, and all
module _ (l list : List ℕ) where
  pub fields_none : l ≡ over l 2 (fields_text (take 0 list))
  unfolding fields_text
  fields_none = sym (over_nil l 2)

  pub fields_all : (o : List ℕ) (i : ℕ) → length list ≤ i → o ≡ over l 2 (fields_text (take i list)) → o ≡ over l 2 (fields_text list)
  fields_all o i h e = e ∙ ap (λ (z : List ℕ). over l 2 (fields_text z)) (take_all i list h)

  pub fields_put : (o p : List ℕ) (i at v : ℕ) → i < length list → at ≡ 2 + 17 * i → 2 + 17 * length list ≤ length l → v ≡ get_or list i 0
      → o ≡ over l 2 (fields_text (take i list)) → p ≡ over (set o at space) (at + 1) (hex_text 16 v) → p ≡ over l 2 (fields_text (take (i + 1) list))
  fields_put o p i at v h a r d e q =
      let x = fields_text (take i list) in
      let y = x ++ space ∷ [] in
      let lx : length x ≡ 17 * i = omega (arith, length_fields (take i list), length-take i list) in
      let ly : length y ≡ 17 * i + 1 = omega (arith, length-append x (space ∷ []), lx) in
      let s : set o at space ≡ over l 2 y = ap (λ (z : List ℕ). set z at space) e ∙ put_at l 2 at x space (omega (arith, lx)) (omega (arith, lx)) in
      let t : take i list ++ v ∷ [] ≡ take (i + 1) list =
      ap (λ (z : ℕ). take i list ++ z ∷ []) d ∙ sym (take-suc list i 0 (omega arith)) ∙ ap (λ (z : ℕ). take z list) (sym (add-one i)) in
      q ∙ ap (λ (z : List ℕ). over z (at + 1) (hex_text 16 v)) s
      ∙ more_at l 2 (at + 1) y (hex_text 16 v) (omega (arith, ly)) (omega (arith, ly))
      ∙ ap (over l 2) (field_more (take i list) v ∙ ap fields_text t)

-- a code and then fields, or nothing
module _ (l list : List ℕ) (c : ℕ) where
  pub line_put : (o p : List ℕ) → 2 + 17 * length list ≤ length l → o ≡ over l 0 (hex_text 2 c) → p ≡ over o 2 (fields_text list)
      → done (Some (2 + 17 * length list)) p ≡ wrote_of l (line_text c list)
  unfolding wrote_of line_text
  line_put o p g d e =
      let x = fields_text list in
      let w = length_line c list in
      let q : p ≡ over l 0 (line_text c list) =
      e ∙ ap (λ (z : List ℕ). over z 2 x) d ∙ more_at l 0 2 (hex_text 2 c) x (omega (arith, length_hex 2 c)) (omega (arith, length_hex 2 c)) in
      ap (done (Some (2 + 17 * length list))) q
      ∙ ap (λ (z : ℕ). done (Some z) (over l 0 (line_text c list))) (sym w)
      ∙ sym (pick_false _ _ _ (le-ltb (length l) (length (line_text c list)) (omega (arith, w))))

  pub line_kept : length l < 2 + 17 * length list → done None l ≡ wrote_of l (line_text c list)
  unfolding wrote_of
  line_kept g = sym (pick_true _ _ _ (lt-ltb (length l) (length (line_text c list)) (omega (arith, length_line c list))))
