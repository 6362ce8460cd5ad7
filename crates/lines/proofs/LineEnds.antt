-- Where lines end: the first line of a text, and a session behind it. Assumes nothing.
use Rattle.std.specs.Prelude.{Some, None, Option, MatchOption, cond}
use Rattle.std.specs.List.{position_or_len}
use Rattle.std.proofs.lemmas.List.Recursion.{is_position_or_len}
use Rattle.types.proofs.Prelude.{◌≡◌, refl, sym, ap, ◌∙◌, true, false, List, [], ◌∷◌, ◌++◌, append_assoc, append-nil, ℕ, zero, suc, ◌+◌, ◌<◌, ◌≤◌, arith, ltb}
use Rattle.types.proofs.Prelude.{eqb, length, take, drop, length-drop, drop-drop, ltb-true, ltb-false, pick_true, pick_false}
use Rattle.types.proofs.Prelude.{either}
use lib.{ListN.drop_of_length-le, Seq.drop-append-add, Seq.take-length}
use Rattle.lines.specs.{Line.lf, Session.Held, Session.onto, Session.lines_of, Session.turn_of, Session.text_of, Session.answers_of, Session.session}
use Rattle.lines.specs.Pieces.{lf_at, whole_lines}

pub lf_true : (b : ℕ) (l : List ℕ) → eqb b lf ≡ true → lf_at (b ∷ l) ≡ 0
unfolding lf_at
lf_true b l e = pick_true _ _ _ e

pub lf_false : (b : ℕ) (l : List ℕ) → eqb b lf ≡ false → lf_at (b ∷ l) ≡ suc (lf_at l)
unfolding lf_at
lf_false b l e = pick_false _ _ _ e

pub lf_le : (l : List ℕ) → lf_at l ≤ length l
unfolding lf_at
lf_le [] = omega arith
lf_le (b ∷ l) = either (eqb b lf) (λ e. rw (pick_true _ _ _ e) (omega arith)) (λ e. rw (pick_false _ _ _ e) (omega (arith, lf_le l)))

-- a text with no LF before another
pub lf_append : (x l : List ℕ) → lf_at x ≡ length x → lf_at (x ++ l) ≡ length x + lf_at l
lf_append [] l h = omega arith
lf_append (b ∷ x) l h =
    either (eqb b lf)
    (λ e. absurd (omega (arith, lf_true b x e)))
    (λ e. omega (arith, lf_false b (x ++ l) e, lf_append x l (omega (arith, lf_false b x e))))

pub lf_in : (x l : List ℕ) → lf_at x < length x → lf_at (x ++ l) ≡ lf_at x
lf_in [] l h = absurd (omega arith)
lf_in (b ∷ x) l h =
    either (eqb b lf)
    (λ e. lf_true b (x ++ l) e ∙ sym (lf_true b x e))
    (λ e. omega (arith, lf_false b (x ++ l) e, lf_false b x e, lf_in x l (omega (arith, lf_false b x e))))

pub behind : (x l : List ℕ) → lf_at x ≡ length x → drop (lf_at (x ++ l) + 1) (x ++ l) ≡ drop (lf_at l + 1) l
behind x l e =
    let j : lf_at (x ++ l) + 1 ≡ length x + (lf_at l + 1) = omega (arith, lf_append x l e) in
    ap (λ (n : ℕ). drop n (x ++ l)) j ∙ drop-append-add x l (lf_at l + 1)

-- the search for a line's end
lf_step : (b : ℕ) (l : List ℕ) → lf_at (b ∷ l) ≡ cond (eqb b lf) 0 (1 + lf_at l)
lf_step b l =
    either (eqb b lf)
    (λ e. rw e (lf_true b l e))
    (λ e. rw e (omega (arith, lf_false b l e)))

lf_none : lf_at [] ≡ 0
unfolding lf_at
lf_none = refl

pub lf_found : (l : List ℕ) {r : Option ℕ}
    → r ≡ cond (ltb (position_or_len (λ (b : ℕ). eqb b lf) l) (length l)) (Some (position_or_len (λ (b : ℕ). eqb b lf) l)) None
    → MatchOption r (lf_at l ≡ length l) (λ n. (n ≡ lf_at l) × (n < length l))
lf_found l e =
    let s : position_or_len (λ (b : ℕ). eqb b lf) l ≡ lf_at l = sym (is_position_or_len lf_at (λ (b : ℕ). eqb b lf) lf_none lf_step l) in
    rw (e, s)
    (either (ltb (lf_at l) (length l))
    (λ t. rw t (refl, ltb-true (lf_at l) (length l) t))
    (λ t. rw t (omega (arith, lf_le l, ltb-false (lf_at l) (length l) t))))

-- the first line of a text
here : (b : ℕ) (l more : List ℕ) → eqb b lf ≡ true → lines_of (b ∷ (l ++ more)) ≡ take (lf_at (b ∷ l)) (b ∷ l) ∷ lines_of (drop (lf_at (b ∷ l) + 1) (b ∷ l) ++ more)
unfolding lines_of
here b l more e = rw (lf_true b l e) (pick_true _ _ _ e)

further : (b : ℕ) (l more : List ℕ) → eqb b lf ≡ false → lines_of (l ++ more) ≡ take (lf_at l) l ∷ lines_of (drop (lf_at l + 1) l ++ more) →
    lines_of (b ∷ (l ++ more)) ≡ take (lf_at (b ∷ l)) (b ∷ l) ∷ lines_of (drop (lf_at (b ∷ l) + 1) (b ∷ l) ++ more)
unfolding lines_of onto
further b l more e q =
    let j : suc (lf_at l) + 1 ≡ suc (lf_at l + 1) = omega arith in
    rw (lf_false b l e, j) (pick_false _ _ _ e ∙ ap (onto b) q)

pub first_line : (l more : List ℕ) → lf_at l < length l → lines_of (l ++ more) ≡ take (lf_at l) l ∷ lines_of (drop (lf_at l + 1) l ++ more)
first_line [] more h = absurd (omega arith)
first_line (b ∷ l) more h =
    either (eqb b lf) (here b l more) (λ e. further b l more e (first_line l more (omega (arith, lf_false b l e))))

-- a text with no LF is one line
one_line : (l : List ℕ) (b : ℕ) → lf_at (b ∷ l) ≡ length (b ∷ l) → lines_of (b ∷ l) ≡ (b ∷ l) ∷ []
unfolding lines_of onto
one_line [] b h = either (eqb b lf) (λ e. absurd (omega (arith, lf_true b [] e))) (λ e. pick_false _ _ _ e)
one_line (a ∷ l) b h =
    either (eqb b lf) (λ e. absurd (omega (arith, lf_true b (a ∷ l) e)))
    (λ e. pick_false _ _ _ e ∙ ap (onto b) (one_line l a (omega (arith, lf_false b (a ∷ l) e))))

module _ (r : ℕ) (h : Held) where
  -- a session goes on behind its first line
  pub session_line : (l more : List ℕ) → lf_at l < length l →
      session r h (l ++ more) ≡ text_of (turn_of r h (take (lf_at l) l)) ++ session r (turn_of r h (take (lf_at l) l)).held (drop (lf_at l + 1) l ++ more)
  unfolding session answers_of
  session_line l more g = ap (answers_of r h) (first_line l more g)

  pub nothing : session r h [] ≡ []
  unfolding session lines_of answers_of
  nothing = refl

  unended : (z : List ℕ) → 0 < length z → lf_at z ≡ length z → session r h z ≡ text_of (turn_of r h z) ++ []
  unfolding session answers_of
  unended [] g e = absurd (omega arith)
  unended (b ∷ l) g e = ap (answers_of r h) (one_line l b e)

-- the first line of any text that is not empty
pub session_first : (r : ℕ) (h : Held) (z : List ℕ) → 0 < length z →
    session r h z ≡ text_of (turn_of r h (take (lf_at z) z)) ++ session r (turn_of r h (take (lf_at z) z)).held (drop (lf_at z + 1) z)
session_first r h z g =
    either (ltb (lf_at z) (length z))
    (λ t.
    ap (session r h) (sym (append-nil z)) ∙ session_line r h z [] (ltb-true (lf_at z) (length z) t)
    ∙ ap (λ (y : List ℕ). text_of (turn_of r h (take (lf_at z) z)) ++ session r (turn_of r h (take (lf_at z) z)).held y) (append-nil (drop (lf_at z + 1) z)))
    (λ t.
    let e : lf_at z ≡ length z = omega (arith, lf_le z, ltb-false (lf_at z) (length z) t) in
    let a : take (lf_at z) z ≡ z = ap (λ (n : ℕ). take n z) e ∙ take-length z in
    let k : length z ≤ lf_at z + 1 = omega arith in
    let d : drop (lf_at z + 1) z ≡ [] = drop_of_length-le z k in
    rw (a, d, nothing) (unended r h z g e))

pub whole_used : (k r : ℕ) (h : Held) (l : List ℕ) → (whole_lines k r h l).used ≤ length l
unfolding whole_lines
whole_used zero r h l = omega arith
whole_used (suc k) r h l =
    let n = lf_at l in
    let x = turn_of r h (take n l) in
    either (ltb n (length l))
    (λ e. rw (pick_true _ _ _ e) (omega (arith, whole_used k r x.held (drop (n + 1) l), length-drop (n + 1) l, ltb-true n (length l) e)))
    (λ e. rw (pick_false _ _ _ e) (omega arith))

-- a session goes on behind the whole lines of a piece, whatever comes after it
pub session_whole : (k r : ℕ) (h : Held) (l more : List ℕ) →
    session r h (l ++ more) ≡ (whole_lines k r h l).out ++ session r (whole_lines k r h l).held (drop (whole_lines k r h l).used l ++ more)
unfolding whole_lines
session_whole zero r h l more = refl
session_whole (suc k) r h l more =
    let n = lf_at l in
    let x = turn_of r h (take n l) in
    let w = whole_lines k r x.held (drop (n + 1) l) in
    either (ltb n (length l))
    (λ e.
    let j : drop (n + 1 + w.used) l ≡ drop w.used (drop (n + 1) l) = sym (drop-drop w.used (n + 1) l) in
    rw (pick_true _ _ _ e)
    (rw j
    (session_line r h l more (ltb-true n (length l) e)
    ∙ ap (λ (z : List ℕ). text_of x ++ z) (session_whole k r x.held (drop (n + 1) l) more)
    ∙ sym (append_assoc (text_of x) w.out (session r w.held (drop w.used (drop (n + 1) l) ++ more))))))
    (λ e. rw (pick_false _ _ _ e) refl)
