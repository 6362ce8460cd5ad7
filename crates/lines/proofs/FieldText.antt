-- A line's text, its code and its fields: each way, and only one text. Assumes nothing.
use Rattle.std.specs.Prelude.{Some, None, Option}
use Rattle.types.proofs.Prelude.{◌≡◌, refl, sym, ap, ◌∙◌, List, [], ◌∷◌, ◌++◌, ℕ, zero, suc, ◌+◌, ◌<◌, ◌≤◌, arith, eqb, length, take, drop, replicate}
use Rattle.types.proofs.{Prelude.eqb-true, Prelude.pick_true, Prelude.pick_false, Prelude.either, Spans.length_over}
use lib.{ListN.take-append-drop, Seq.drop_at, Seq.take_at}
use Rattle.types.specs.Span.{over}
use Rattle.lines.specs.Hex.{hex_from, hex_text}
use Rattle.lines.specs.Line.{space, then_field, fields_of, fields_text, coded, line_of, line_text}
use Rattle.lines.specs.{Sayable.Small, stages.Back.with_fields, stages.Back.filled, declared.line.Line.Line}
use Rattle.lines.proofs.{FieldLaws.coded_filled, HexText.hex_all, HexText.hex_whole, Writing.length_hex}

-- one field and the rest of a line
field_read : (n b : ℕ) (l xs : List ℕ) (f : Option ℕ) (g : Option (List ℕ)) → b ≡ space → hex_from 16 0 l ≡ f →
    ((ys : List ℕ) → g ≡ Some ys → (drop 16 l ≡ fields_text ys) × (length ys ≤ n)) → then_field f g ≡ Some xs → (b ∷ l ≡ fields_text xs) × (length xs ≤ suc n)
unfolding then_field fields_text
field_read n b l xs None g e q r k = let z : ◌≡◌ {A = ℕ} 0 1 = cc in absurd (omega arith)
field_read n b l xs (Some v) None e q r k = let z : ◌≡◌ {A = ℕ} 0 1 = cc in absurd (omega arith)
field_read n b l xs (Some v) (Some ys) e q r k =
    let x : v ∷ ys ≡ xs = cc in
    let t : hex_text 16 v ≡ take 16 l = hex_whole 16 v l q in
    let d = r ys refl in
    rw (e, ← x) (ap (λ (z : List ℕ). space ∷ z) (sym (take-append-drop 16 l) ∙ rw (t, d.0) refl), omega (arith, d.1))

-- fields, both ways
pub fields_write : (n : ℕ) (xs : List ℕ) → length xs ≤ n → Small xs → fields_of n (fields_text xs) ≡ Some xs
unfolding fields_of fields_text Small then_field
fields_write zero [] h a = refl
fields_write (suc n) [] h a = refl
fields_write zero (v ∷ xs) h a = absurd (omega arith)
fields_write (suc n) (v ∷ xs) h a =
    let p : hex_from 16 0 (hex_text 16 v ++ fields_text xs) ≡ Some v = hex_all 16 v (fields_text xs) a.0 in
    let d : drop 16 (hex_text 16 v ++ fields_text xs) ≡ fields_text xs = drop_at (hex_text 16 v) (fields_text xs) 16 (length_hex 16 v) in
    rw (p, d, fields_write n xs (omega arith) a.1) (pick_true (eqb space space) (Some (v ∷ xs)) None refl)

pub fields_read : (n : ℕ) (l xs : List ℕ) → fields_of n l ≡ Some xs → (l ≡ fields_text xs) × (length xs ≤ n)
unfolding fields_of fields_text
fields_read zero [] xs q = let e : [] ≡ xs = cc in rw (← e) (refl, omega arith)
fields_read zero (b ∷ l) xs q = let z : ◌≡◌ {A = ℕ} 0 1 = cc in absurd (omega arith)
fields_read (suc n) [] xs q = let e : [] ≡ xs = cc in rw (← e) (refl, omega arith)
fields_read (suc n) (b ∷ l) xs q =
    either (eqb b space)
    (λ t. field_read n b l xs (hex_from 16 0 l) (fields_of n (drop 16 l)) (eqb-true b space t) refl (λ ys. fields_read n (drop 16 l) ys) (sym (pick_true _ _ _ t) ∙ q))
    (λ t. let y = sym (pick_false _ _ _ t) ∙ q in let z : ◌≡◌ {A = ℕ} 0 1 = cc in absurd (omega arith))

-- a line's text is that of its code and its fields
pub line_write : (c : ℕ) (xs : List ℕ) → c < 256 → length xs ≤ 8 → Small xs → line_of (line_text c xs) ≡ Some (with_fields c 0 (replicate 8 0) xs)
unfolding line_of line_text filled
line_write c xs h k a =
    let p : hex_from 2 0 (hex_text 2 c ++ fields_text xs) ≡ Some c = hex_all 2 c (fields_text xs) h in
    let d : drop 2 (hex_text 2 c ++ fields_text xs) ≡ fields_text xs = drop_at (hex_text 2 c) (fields_text xs) 2 (length_hex 2 c) in
    rw (p, d, fields_write 8 xs k a) (coded_filled c (Some xs))

-- the fields, and zeros up to 8 behind them
pub take_over : (n : ℕ) (xs : List ℕ) → length xs ≡ n → take n (over (replicate 8 0) 0 xs) ≡ xs
unfolding over
take_over n xs e = take_at xs (drop (0 + length xs) (replicate 8 0)) n e

-- a list of 8 that begins with xs
eight : (xs : List ℕ) → length xs ≤ 8 → length (over (replicate 8 0) 0 xs) ≡ 8
eight xs h = length_over (replicate 8 0) 0 xs (omega arith)

-- what a good line tells
pub record Told (l : List ℕ) (w : Line) : Type 0 where
  pub text : l ≡ line_text w.code (take w.count w.list)
  pub long : length w.list ≡ 8

told : (l : List ℕ) (f : Option ℕ) (g : Option (List ℕ)) (w : Line) → hex_from 2 0 l ≡ f → fields_of 8 (drop 2 l) ≡ g → coded f g ≡ Some w → Told l w
unfolding coded line_text
told l None g w e q k = let z : ◌≡◌ {A = ℕ} 0 1 = cc in absurd (omega arith)
told l (Some c) None w e q k = let z : ◌≡◌ {A = ℕ} 0 1 = cc in absurd (omega arith)
told l (Some c) (Some xs) w e q k =
    let t : hex_text 2 c ≡ take 2 l = hex_whole 2 c l e in
    let d = fields_read 8 (drop 2 l) xs q in
    let u : record { code = c; count = length xs; list = over (replicate 8 0) 0 xs } ≡ w = cc in
    rw (← u) (record {
      text = rw (take_over (length xs) xs refl, ← d.0, t) (sym (take-append-drop 2 l));
      long = eight xs d.1;
    })

pub line_read : (l : List ℕ) (w : Line) → line_of l ≡ Some w → Told l w
unfolding line_of
line_read l w k = told l (hex_from 2 0 l) (fields_of 8 (drop 2 l)) w refl refl k
