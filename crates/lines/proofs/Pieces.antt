-- Any cut of the input into pieces, with any room at each, gives the session of the whole; lines of any length have one answer. Assumes nothing.
use Rattle.types.proofs.Prelude.{◌≡◌, refl, sym, ap, ◌∙◌, Bool, true, false, List, [], ◌∷◌, ◌++◌, append_assoc, append-nil, ℕ, zero, suc, ◌+◌, ◌<◌, ◌≤◌, arith}
use Rattle.types.proofs.Prelude.{ltb, leb, length, take, drop, length-append, length-drop, drop-drop, ltb-true, ltb-false, leb-false, lt-ltb, le-ltb, lt-leb}
use Rattle.types.proofs.Prelude.{pick_true, pick_false, either}
use lib.{ListN.drop_of_length-le, Seq.drop-append-le, Seq.drop-length, Seq.take-append-add, Seq.take_at, Seq.take-length}
use Rattle.lines.specs.{Line.lf, Line.longest, AnswerLine.answer_bytes}
use Rattle.lines.specs.Session.{Held, Turn, malformed, turn_by, turn_of, text_of, session}
use Rattle.lines.specs.Pieces.{lf_at, Run, ahead, whole_lines, close_of, piece_of, Host, Feed, fed, fed_all, whole}
use Rattle.lines.proofs.Text.{long_malformed, answer_line_long}
use Rattle.lines.proofs.LineEnds.{lf_le, lf_append, lf_in, behind, nothing, session_first, whole_used, session_whole}

-- what is left of a session, inside a line that is too long already or not
unfoldable pub session_from : Bool → ℕ → Held → List ℕ → List ℕ
session_from false r h l = session r h l
session_from true r h l = text_of (malformed h) ++ session r (malformed h).held (drop (lf_at l + 1) l)

-- a line of over 160 bytes is malformed, the first one too
long_turn : (r : ℕ) (h : Held) (l : List ℕ) → longest < length l → turn_of r h l ≡ malformed h
unfolding turn_of turn_by
long_turn r h l g = ap (turn_by r h) (long_malformed l g)

module _ (r : ℕ) (h : Held) where
  -- a line that is too long already has its answer, wherever it ends
  long_line : (x l : List ℕ) → lf_at x ≡ length x → longest < length x → session r h (x ++ l) ≡ session_from true r h l
  unfolding session_from
  long_line x l e g =
      let t : take (lf_at (x ++ l)) (x ++ l) ≡ x ++ take (lf_at l) l = ap (λ (n : ℕ). take n (x ++ l)) (lf_append x l e) ∙ take-append-add x l (lf_at l) in
      let k : turn_of r h (take (lf_at (x ++ l)) (x ++ l)) ≡ malformed h =
      ap (turn_of r h) t ∙ long_turn r h (x ++ take (lf_at l) l) (omega (arith, length-append x (take (lf_at l) l))) in
      session_first r h (x ++ l) (omega (arith, length-append x l))
      ∙ ap (λ (y : Turn). text_of y ++ session r y.held (drop (lf_at (x ++ l) + 1) (x ++ l))) k
      ∙ ap (λ (y : List ℕ). text_of (malformed h) ++ session r (malformed h).held y) (behind x l e)

  skip_more : (x l : List ℕ) → lf_at x ≡ length x → session_from true r h (x ++ l) ≡ session_from true r h l
  unfolding session_from
  skip_more x l e = ap (λ (y : List ℕ). text_of (malformed h) ++ session r (malformed h).held y) (behind x l e)

  skip_end : (x l : List ℕ) → lf_at x < length x → session_from true r h (x ++ l) ≡ text_of (malformed h) ++ session r (malformed h).held (drop (lf_at x + 1) x ++ l)
  unfolding session_from
  skip_end x l e =
      ap (λ (y : List ℕ). text_of (malformed h) ++ session r (malformed h).held y)
      (ap (λ (n : ℕ). drop (n + 1) (x ++ l)) (lf_in x l e) ∙ drop-append-le (lf_at x + 1) x l (omega arith))

  plain : (t : Bool) (o l : List ℕ) → t ≡ false → o ++ session r h l ≡ o ++ session_from t r h l
  unfolding session_from
  plain t o l k = ap (λ (u : Bool). o ++ session_from u r h l) (sym k)

  tail_skip : (l more : List ℕ) (k : ℕ) (x : Run) → lf_at l < length l →
      x ≡ ahead (text_of (malformed h)) (lf_at l + 1) (whole_lines k r (malformed h).held (drop (lf_at l + 1) l)) →
      session_from true r h (l ++ more) ≡ x.out ++ session r x.held (drop x.used l ++ more)
  tail_skip l more k x g q =
      let w = whole_lines k r (malformed h).held (drop (lf_at l + 1) l) in
      let t = text_of (malformed h) in
      let j : drop (lf_at l + 1 + w.used) l ≡ drop w.used (drop (lf_at l + 1) l) = sym (drop-drop w.used (lf_at l + 1) l) in
      rw q
      (rw j
      (skip_end l more g ∙ ap (λ (z : List ℕ). t ++ z) (session_whole k r (malformed h).held (drop (lf_at l + 1) l) more)
      ∙ sym (append_assoc t w.out (session r w.held (drop w.used (drop (lf_at l + 1) l) ++ more)))))

pub no_skip : (k r : ℕ) (h : Held) (l : List ℕ) → (whole_lines k r h l).skip ≡ false
unfolding whole_lines
no_skip zero r h l = refl
no_skip (suc k) r h l =
    either (ltb (lf_at l) (length l)) (λ e. rw (pick_true _ _ _ e) (no_skip k r _ (drop (lf_at l + 1) l))) (λ e. rw (pick_false _ _ _ e) refl)

-- a run that is over is as it was, or what it leaves is a line that is too long already, and is passed over
pub close_case : (C : Run → Type 0) (l : List ℕ) (x : Run) → C x →
    (lf_at (drop x.used l) ≡ length (drop x.used l) → longest < length (drop x.used l) → C (record { out = x.out; used = length l; held = x.held; skip = true })) →
    C (close_of l x)
unfolding close_of
close_case C l x c d =
    let w = drop x.used l in
    either (ltb (lf_at w) (length w)) (λ e. rw (pick_true _ _ _ e) c)
    (λ e. rw (pick_false _ _ _ e)
    (either (leb (length w) longest) (λ f. rw (pick_true _ _ _ f) c)
    (λ f. rw (pick_false _ _ _ f) (d (omega (arith, lf_le w, ltb-false (lf_at w) (length w) e)) (leb-false (length w) longest f)))))

-- what is passed over at the end of a run changes nothing of what is to come
close_keeps : (t : Bool) (r : ℕ) (h : Held) (l more : List ℕ) (x : Run) → x.skip ≡ false →
    session_from t r h (l ++ more) ≡ x.out ++ session r x.held (drop x.used l ++ more) →
    session_from t r h (l ++ more) ≡ (close_of l x).out ++ session_from (close_of l x).skip r (close_of l x).held (drop (close_of l x).used l ++ more)
close_keeps t r h l more x k q =
    close_case (λ (y : Run). session_from t r h (l ++ more) ≡ y.out ++ session_from y.skip r y.held (drop y.used l ++ more)) l x
    (q ∙ plain r x.held x.skip x.out (drop x.used l ++ more) k)
    (λ n m. q ∙ ap (λ (y : List ℕ). x.out ++ y) (long_line r x.held (drop x.used l) more n m)
    ∙ ap (λ (y : List ℕ). x.out ++ session_from true r x.held (y ++ more)) (sym (drop-length l)))

-- one piece: what it writes, then the session of what it leaves, is the session of the whole, whatever comes after
pub piece_on : (k : ℕ) (t : Bool) (r : ℕ) (h : Held) (l more : List ℕ) →
    session_from t r h (l ++ more) ≡ (piece_of k t r h l).out ++ session_from (piece_of k t r h l).skip r (piece_of k t r h l).held (drop (piece_of k t r h l).used l ++ more)
unfolding piece_of
piece_on k false r h l more = close_keeps false r h l more (whole_lines k r h l) (no_skip k r h l) (begun k)
  where
    begun : (k : ℕ) → session_from false r h (l ++ more) ≡ (whole_lines k r h l).out ++ session r (whole_lines k r h l).held (drop (whole_lines k r h l).used l ++ more)
    begun k = sym (plain r h false [] (l ++ more) refl) ∙ session_whole k r h l more
piece_on zero true r h l more = refl
piece_on (suc k) true r h l more =
    let x = ahead (text_of (malformed h)) (lf_at l + 1) (whole_lines k r (malformed h).held (drop (lf_at l + 1) l)) in
    either (ltb (lf_at l) (length l))
    (λ e.
    rw (pick_true _ _ _ e)
    (close_keeps true r h l more x (no_skip k r (malformed h).held (drop (lf_at l + 1) l)) (tail_skip r h l more k x (ltb-true (lf_at l) (length l) e) refl)))
    (λ e.
    let n : lf_at l ≡ length l = omega (arith, lf_le l, ltb-false (lf_at l) (length l) e) in
    rw (pick_false _ _ _ e) (skip_more r h l more n ∙ ap (λ (y : List ℕ). session_from true r h (y ++ more)) (sym (drop-length l))))

-- THE COMPOSITION: any pieces, any room, lines of any length; whatever comes after them
fed_on : (r : ℕ) (h : Host) (x : Feed) (more : List ℕ) →
    (fed r h x).sent ++ session_from (fed r h x).skip r (fed r h x).held ((fed r h x).tail ++ more)
    ≡ h.sent ++ session_from h.skip r h.held (h.tail ++ (x.bytes ++ more))
unfolding fed
fed_on r h x more =
    let w = piece_of x.room h.skip r h.held (h.tail ++ x.bytes) in
    append_assoc h.sent w.out (session_from w.skip r w.held (drop w.used (h.tail ++ x.bytes) ++ more))
    ∙ ap (λ (z : List ℕ). h.sent ++ z)
    (sym (piece_on x.room h.skip r h.held (h.tail ++ x.bytes) more) ∙ ap (session_from h.skip r h.held) (append_assoc h.tail x.bytes more))

pub fed_more : (r : ℕ) (h : Host) (xs : List Feed) (more : List ℕ) →
    (fed_all r h xs).sent ++ session_from (fed_all r h xs).skip r (fed_all r h xs).held ((fed_all r h xs).tail ++ more)
    ≡ h.sent ++ session_from h.skip r h.held (h.tail ++ (whole xs ++ more))
unfolding fed_all whole
fed_more r h [] more = refl
fed_more r h (x ∷ xs) more =
    fed_more r (fed r h x) xs more ∙ fed_on r h x (whole xs ++ more)
    ∙ ap (λ (z : List ℕ). h.sent ++ session_from h.skip r h.held (h.tail ++ z)) (sym (append_assoc x.bytes (whole xs) more))

pub fed_all_lem : (r : ℕ) (h : Host) (xs : List Feed) →
    (fed_all r h xs).sent ++ session_from (fed_all r h xs).skip r (fed_all r h xs).held (fed_all r h xs).tail
    ≡ h.sent ++ session_from h.skip r h.held (h.tail ++ whole xs)
fed_all_lem r h xs =
    let z : Host = fed_all r h xs in
    ap (λ (y : List ℕ). z.sent ++ session_from z.skip r z.held y) (sym (append-nil z.tail))
    ∙ fed_more r h xs []
    ∙ ap (λ (y : List ℕ). h.sent ++ session_from h.skip r h.held (h.tail ++ y)) (append-nil (whole xs))

-- a host before its first piece
abbrev pub started : Held → Host
started h = record { held = h; skip = false; tail = []; sent = [] }

-- a host that is left with nothing has nothing more to say
pub none_left : (r : ℕ) (z : Host) → z.skip ≡ false → z.tail ≡ [] → z.sent ≡ z.sent ++ session_from z.skip r z.held z.tail
none_left r z k e =
    sym (append-nil z.sent)
    ∙ ap (λ (y : List ℕ). z.sent ++ y) (sym (nothing r z.held))
    ∙ plain r z.held z.skip z.sent [] k
    ∙ ap (λ (y : List ℕ). z.sent ++ session_from z.skip r z.held y) (sym e)

-- all that is sent, and what is left to say
pub fed_started : (r : ℕ) (h : Held) (xs : List Feed) →
    (fed_all r (started h) xs).sent ++ session_from (fed_all r (started h) xs).skip r (fed_all r (started h) xs).held (fed_all r (started h) xs).tail ≡ session r h (whole xs)
fed_started r h xs = fed_all_lem r (started h) xs ∙ sym (plain r h false [] (whole xs) refl)

-- a host that is left with nothing has sent the session of the whole
pub fed_whole : (r : ℕ) (h : Held) (xs : List Feed) → (fed_all r (started h) xs).skip ≡ false → (fed_all r (started h) xs).tail ≡ [] →
    (fed_all r (started h) xs).sent ≡ session r h (whole xs)
fed_whole r h xs k e = none_left r (fed_all r (started h) xs) k e ∙ fed_started r h xs

-- the end of the input: a last line that lacks its LF is answered as with it
pub lf_lf : lf_at (lf ∷ []) ≡ 0
unfolding lf_at
lf_lf = pick_true _ _ _ refl

pub last_behind : (l : List ℕ) → lf_at l ≡ length l → drop (lf_at (l ++ (lf ∷ [])) + 1) (l ++ (lf ∷ [])) ≡ drop (lf_at l + 1) l
last_behind l e =
    let g : length l ≤ lf_at l + 1 = omega arith in
    let a : drop {A = ℕ} (lf_at (lf ∷ []) + 1) (lf ∷ []) ≡ [] = rw lf_lf refl in
    behind l (lf ∷ []) e ∙ a ∙ sym (drop_of_length-le l g)

pub close_skip : (r : ℕ) (h : Held) (l : List ℕ) → lf_at l ≡ length l → session_from true r h (l ++ (lf ∷ [])) ≡ session_from true r h l
unfolding session_from
close_skip r h l e = ap (λ (y : List ℕ). text_of (malformed h) ++ session r (malformed h).held y) (last_behind l e)

pub close_line : (r : ℕ) (h : Held) (l : List ℕ) → 0 < length l → lf_at l ≡ length l → session r h (l ++ (lf ∷ [])) ≡ session r h l
close_line r h l g e =
    let z = l ++ (lf ∷ []) in
    let n : lf_at z ≡ length l = omega (arith, lf_append l (lf ∷ []) e, lf_lf) in
    let t : take (lf_at z) z ≡ take (lf_at l) l = ap (λ (k : ℕ). take k z) n ∙ take_at l (lf ∷ []) (length l) refl ∙ sym (ap (λ (k : ℕ). take k l) e ∙ take-length l) in
    session_first r h z (omega (arith, length-append l (lf ∷ []))) ∙ rw (t, last_behind l e) (sym (session_first r h l g))

pub length_text : (t : Turn) → length (text_of t) ≡ answer_bytes
unfolding text_of
length_text t = answer_line_long _ _

-- a piece uses no more than there is
close_le : (l : List ℕ) (x : Run) → x.used ≤ length l → (close_of l x).used ≤ length l
close_le l x g = close_case (λ (y : Run). y.used ≤ length l) l x g (λ n m. omega arith)

pub piece_used : (k : ℕ) (t : Bool) (r : ℕ) (h : Held) (l : List ℕ) → (piece_of k t r h l).used ≤ length l
unfolding piece_of
piece_used k false r h l = close_le l (whole_lines k r h l) (whole_used k r h l)
piece_used zero true r h l = omega arith
piece_used (suc k) true r h l =
    let n = lf_at l in
    let w = whole_lines k r (malformed h).held (drop (n + 1) l) in
    either (ltb n (length l))
    (λ e.
    let g : n + 1 + w.used ≤ length l = omega (arith, whole_used k r (malformed h).held (drop (n + 1) l), length-drop (n + 1) l, ltb-true n (length l) e) in
    rw (pick_true _ _ _ e) (close_le l (ahead (text_of (malformed h)) (n + 1) w) g))
    (λ e. rw (pick_false _ _ _ e) (omega arith))

-- the turn of a piece's first line
abbrev pub first_turn : Bool → ℕ → Held → List ℕ → Turn
first_turn false r h l = turn_of r h (take (lf_at l) l)
first_turn true r h l = malformed h

-- a piece that has a whole line and room for its answer
pub piece_line : (k : ℕ) (t : Bool) (r : ℕ) (h : Held) (l : List ℕ) → lf_at l < length l →
    piece_of (suc k) t r h l ≡ close_of l (ahead (text_of (first_turn t r h l)) (lf_at l + 1) (whole_lines k r (first_turn t r h l).held (drop (lf_at l + 1) l)))
unfolding piece_of whole_lines
piece_line k false r h l g = ap (close_of l) (pick_true _ _ _ (lt-ltb _ _ g))
piece_line k true r h l g = pick_true _ _ _ (lt-ltb _ _ g)

-- it uses something
pub line_used : (k : ℕ) (t : Bool) (r : ℕ) (h : Held) (l : List ℕ) → lf_at l < length l → 0 < (piece_of (suc k) t r h l).used
line_used k t r h l g = rw (piece_line k t r h l g) (close_case (λ (y : Run). 0 < y.used) l _ (omega arith) (λ n m. omega arith))

long_used : (k : ℕ) (t : Bool) (r : ℕ) (h : Held) (l : List ℕ) → length l ≤ lf_at l → longest < length l → 0 < (piece_of (suc k) t r h l).used
unfolding piece_of whole_lines close_of
long_used k false r h l e g = rw (pick_false _ _ _ (le-ltb _ _ e)) (rw (pick_false _ _ _ (le-ltb _ _ e), pick_false _ _ _ (lt-leb _ _ g)) (omega arith))
long_used k true r h l e g = rw (pick_false _ _ _ (le-ltb _ _ e)) (omega arith)

-- with room for an answer, a piece of more than 160 bytes is never left whole
pub piece_moves : (k : ℕ) (t : Bool) (r : ℕ) (h : Held) (l : List ℕ) → longest < length l → 0 < (piece_of (suc k) t r h l).used
piece_moves k t r h l g =
    either (ltb (lf_at l) (length l)) (λ e. line_used k t r h l (ltb-true _ _ e)) (λ e. long_used k t r h l (ltb-false _ _ e) g)
