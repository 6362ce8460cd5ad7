-- Laws of the fields of a line: what the loop over fields keeps, and its ways out. Assumes nothing.
use Rattle.std.specs.Prelude.{Some, None, Option}
use Rattle.types.proofs.Prelude.{◌≡◌, refl, sym, ap, ◌∙◌, List, [], ◌∷◌, ◌++◌, ℕ, zero, suc, ◌+◌, ◌-◌, ◌*◌, ◌<◌, ◌≤◌, arith, ltb, eqb, length, take, drop}
use Rattle.types.proofs.Prelude.{get_or, set, replicate, length-append, append-nil, length-drop, length-take, take_all, eq-eqb, ne_eqb, pick_true, pick_false}
use Rattle.types.proofs.{Picks.pick_same, Spans.over_nil, Spans.over_first}
use lib.Seq.{drop_at}
use Rattle.types.specs.{Pick.pick, Span.over}
use Rattle.lines.specs.Hex.{digit_of, hex_from}
use Rattle.lines.specs.Line.{space, no_line, then_field, fields_of, coded, line_of}
use Rattle.lines.specs.{stages.Back.with_fields, stages.Back.filled, declared.line.Line.Line}

-- too few bytes are no number
hex_short : (n v : ℕ) (l : List ℕ) → length l < n → hex_from n v l ≡ None
unfolding hex_from
hex_short zero v l h = absurd (omega arith)
hex_short (suc n) v [] h = refl
hex_short (suc n) v (b ∷ l) h = rw (hex_short n (v * 16 + digit_of b) l (omega arith)) (pick_same (ltb (digit_of b) 16) None)

-- the digits of a number are the first ones
hex_take : (n v : ℕ) (l : List ℕ) → hex_from n v (take n l) ≡ hex_from n v l
unfolding hex_from
hex_take zero v l = refl
hex_take (suc n) v [] = refl
hex_take (suc n) v (b ∷ l) = rw (hex_take n (v * 16 + digit_of b) l) refl

hex_more : (v : ℕ) (l y : List ℕ) → hex_from (length l) v (l ++ y) ≡ hex_from (length l) v l
unfolding hex_from
hex_more v [] y = refl
hex_more v (b ∷ l) y = rw (hex_more (v * 16 + digit_of b) l y) refl

-- a field goes into its place
filled_then : (c n v : ℕ) (list : List ℕ) (g : Option (List ℕ)) → n < length list → filled c n list (then_field (Some v) g) ≡ filled c (n + 1) (set list n v) g
unfolding filled with_fields then_field
filled_then c n v list None h = refl
filled_then c n v list (Some l) h =
    let a : n + suc (length l) ≡ (n + 1) + length l = omega arith in
    let e : n + 1 ≡ suc n = omega arith in
    let b : over list n (v ∷ l) ≡ over (set list n v) (n + 1) l = sym (ap (λ (k : ℕ). over (set list n v) k l) e ∙ over_first list n l v h) in
    rw (a, b) refl

-- the digits of a part, as the code cuts them
abbrev digits : List ℕ → List ℕ
digits p = take 16 (drop 1 p)

-- the fields of a text that begins with a part
at_part : (n : ℕ) (p y : List ℕ) → n < 8 → 0 < length p → fields_of (8 - n) (p ++ y)
    ≡ pick (eqb (get_or p 0 0) space) (then_field (hex_from 16 0 (drop 1 p ++ y)) (fields_of (8 - (n + 1)) (drop 16 (drop 1 p ++ y)))) None
unfolding fields_of
at_part n [] y h k = absurd (omega arith)
at_part n (b ∷ d) y h k = let j : 8 - n ≡ suc (8 - (n + 1)) = omega arith in rw j refl

none_left : (p y : List ℕ) → 0 < length p → fields_of 0 (p ++ y) ≡ None
unfolding fields_of
none_left [] y k = absurd (omega arith)
none_left (b ∷ p) y k = refl

-- the loop over the parts of a text, each of 17 bytes but the last: what it keeps, where what is left begins with the part p
module _ (c n : ℕ) (p y list : List ℕ) {r : Option Line} (w : 0 < length p) (q : filled c n list (fields_of (8 - n) (p ++ y)) ≡ r) where
  -- the rest is no fields
  no_more : fields_of (8 - n) (p ++ y) ≡ None → None ≡ r
  unfolding filled
  no_more e = ap (filled c n list) (sym e) ∙ q

  -- something stands behind the eighth field
  pub part_many : 8 ≤ n → None ≡ r
  part_many h =
      let j : 8 - n ≡ 0 = omega arith in
      no_more (ap (λ (m : ℕ). fields_of m (p ++ y)) j ∙ none_left p y w)

  -- no space stands there
  pub fields_char : n < 8 → (get_or p 0 0 ≡ space → ⊥) → None ≡ r
  fields_char h e = no_more (at_part n p y h w ∙ pick_false _ _ _ (ne_eqb _ _ e))

  -- too few bytes are left
  pub fields_short : n < 8 → length (p ++ y) < 17 → None ≡ r
  unfolding then_field
  fields_short h k =
      let b : hex_from 16 0 (drop 1 p ++ y) ≡ None = hex_short 16 0 (drop 1 p ++ y) (omega (arith, length-append p y, length-append (drop 1 p) y, length-drop 1 p)) in
      no_more (at_part n p y h w ∙ rw b (pick_same (eqb (get_or p 0 0) space) None))

  module _ (h : n < 8) (k : length p ≡ 17) (e : get_or p 0 0 ≡ space) where
    -- a field and the fields behind it
    field_at : {f : Option ℕ} → f ≡ hex_from (length (digits p)) 0 (digits p) → fields_of (8 - n) (p ++ y) ≡ then_field f (fields_of (8 - (n + 1)) y)
    field_at d =
        let a : length (drop 1 p) ≡ 16 = omega (arith, length-drop 1 p) in
        let z : digits p ≡ drop 1 p = take_all 16 (drop 1 p) (omega arith) in
        let x : hex_from 16 0 (drop 1 p ++ y) ≡ hex_from (length (digits p)) 0 (digits p) =
        ap (λ (n : ℕ). hex_from n 0 (drop 1 p ++ y)) (sym a) ∙ hex_more 0 (drop 1 p) y ∙ ap (λ (l : List ℕ). hex_from (length l) 0 l) (sym z) in
        at_part n p y h w ∙ pick_true _ _ _ (eq-eqb _ _ e) ∙ rw (x, ← d, drop_at (drop 1 p) y 16 a) refl

    -- no number stands there
    pub fields_bad : None ≡ hex_from (length (digits p)) 0 (digits p) → None ≡ r
    unfolding then_field
    fields_bad d = no_more (field_at d)

    -- a field more
    pub fields_on : (v : ℕ) → length list ≡ 8 → Some v ≡ hex_from (length (digits p)) 0 (digits p) → filled c (n + 1) (set list n v) (fields_of (8 - (n + 1)) y) ≡ r
    fields_on v z d = sym (filled_then c n v list (fields_of (8 - (n + 1)) y) (omega arith)) ∙ ap (filled c n list) (sym (field_at d)) ∙ q

-- something stands behind the eighth field, by its place
pub fields_many : (c n at : ℕ) (s list : List ℕ) {o r : Option Line} → o ≡ no_line → 8 ≤ n → at < length s
    → filled c n list (fields_of (8 - n) (drop at s)) ≡ r → o ≡ r
fields_many c n at s list e h k q =
    e ∙ part_many c n (drop at s) [] list (omega (arith, length-drop at s)) (ap (λ (l : List ℕ). filled c n list (fields_of (8 - n) l)) (append-nil (drop at s)) ∙ q) h

nothing : (k : ℕ) (x : List ℕ) → length x ≡ 0 → fields_of k x ≡ Some []
unfolding fields_of
nothing zero [] h = refl
nothing (suc k) [] h = refl
nothing k (b ∷ x) h = absurd (omega arith)

-- the end of the line
pub fields_end : (c n : ℕ) (x list : List ℕ) {r : Option Line} → length x ≡ 0 →
    filled c n list (fields_of (8 - n) x) ≡ r → Some (record { code = c; count = n; list = list }) ≡ r
unfolding filled with_fields
fields_end c n x list h q =
    let w : fields_of (8 - n) x ≡ Some [] = nothing (8 - n) x h in
    let a : n ≡ n + 0 = omega arith in
    let e : ◌≡◌ {A = Option Line} (Some (record { code = c; count = n; list = list })) (filled c n list (Some [])) = rw (over_nil, ← a) refl in
    e ∙ ap (λ (u : Option (List ℕ)). filled c n list u) (sym w) ∙ q

-- a line's numbers, in the definition's terms and in the loop's
pub coded_filled : (c : ℕ) (g : Option (List ℕ)) → coded (Some c) g ≡ filled c 0 (replicate 8 0) g
unfolding coded filled with_fields
coded_filled c None = refl
coded_filled c (Some l) = let e : length l ≡ 0 + length l = omega arith in ap (λ (n : ℕ). Some (record { code = c; count = n; list = over (replicate 8 0) 0 l })) e

-- the ways out of reading a line
pub line_short : (s : List ℕ) → length s < 2 → None ≡ line_of s
unfolding line_of coded
line_short s h = ap (λ (f : Option ℕ). coded f (fields_of 8 (drop 2 s))) (sym (hex_short 2 0 s h))

module _ (s : List ℕ) (h : 2 ≤ length s) where
  -- the code of a line
  code_at : {f : Option ℕ} → f ≡ hex_from (length (take 2 s)) 0 (take 2 s) → hex_from 2 0 s ≡ f
  code_at d =
      let k : length (take 2 s) ≡ 2 = simp length-take (omega arith) in
      sym (d ∙ ap (λ (n : ℕ). hex_from n 0 (take 2 s)) k ∙ hex_take 2 0 s)

  pub line_bad : None ≡ hex_from (length (take 2 s)) 0 (take 2 s) → None ≡ line_of s
  unfolding line_of coded
  line_bad d = ap (λ (f : Option ℕ). coded f (fields_of 8 (drop 2 s))) (sym (code_at d))

  pub line_is : (c : ℕ) {o : Option Line} → Some c ≡ hex_from (length (take 2 s)) 0 (take 2 s)
      → o ≡ filled c 0 (replicate 8 0) (fields_of 8 (take (length s - 2) (drop 2 s))) → o ≡ line_of s
  unfolding line_of
  line_is c d e =
      let x : take (length s - 2) (drop 2 s) ≡ drop 2 s = take_all (length s - 2) (drop 2 s) (omega (arith, length-drop 2 s)) in
      (rw x at e) ∙ sym (coded_filled c (fields_of 8 (drop 2 s))) ∙ ap (λ (f : Option ℕ). coded f (fields_of 8 (drop 2 s))) (sym (code_at d))
