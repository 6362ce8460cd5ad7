-- A host's turn is the model's: what it keeps of its input is what `fed` leaves, and the LF at the end makes the last line whole. Assumes nothing.
use Rattle.std.specs.Prelude.{Some, None, min}
use Rattle.std.specs.List.{copy_within}
use Rattle.std.proofs.lemmas.List.{drop-take}
use Rattle.types.proofs.Prelude.{◌-◌, ◌≡◌, refl, sym, ap, ◌∙◌, Bool, true, false, false≢true, List, [], ◌∷◌, ◌++◌, append-nil, append_assoc, ℕ, suc, ◌+◌, ◌<◌, ◌≤◌}
use Rattle.types.proofs.Prelude.{arith, add-one, eqb, ltb, leb, length, take, drop, set, length-append, length-take, length-drop, length-set, take_all}
use Rattle.types.proofs.Prelude.{drop-drop, ltb-true, ltb-false, leb-true, leb-false, lt-leb, eqb-true, eqb-false, pick_true, pick_false, either}
use Rattle.types.proofs.{Spans.over_span, Spans.length_over}
use lib.{ListN.drop_of_length-le, Seq.take_at, Seq.take-suc-set, Seq.drop-nil, Seq.length-take-le}
use Rattle.types.specs.{Span.over, Done.done}
use Rattle.lines.specs.{Line.lf, Line.longest, Session.Held, Session.text_of, Session.session}
use Rattle.lines.specs.Pieces.{lf_at, Run, ahead, whole_lines, close_of, piece_of, Host, Feed, fed, fed_all, whole}
use Rattle.lines.specs.Input.{kept_of, unended, ended_of, finished}
use Rattle.lines.proofs.LineEnds.{lf_le, lf_append}
use Rattle.lines.proofs.Pieces.{session_from, no_skip, fed_all_lem, started, none_left, fed_started, fed_whole}
use Rattle.lines.proofs.Pieces.{lf_lf, last_behind, close_skip, close_line, close_case, first_turn, piece_line, line_used, piece_moves}

-- what is left of the first `end` bytes of an input, from `from` on
abbrev pub left_of : List ℕ → ℕ → ℕ → List ℕ
left_of input from end = drop from (take end input)

-- the first bytes of an input, so many, are these
pub record Starts (input : List ℕ) (n : ℕ) (l : List ℕ) : Type 0 where
  pub within : n ≤ length input
  pub same : take n input ≡ l

-- the run that a host makes when bytes come in
abbrev pub ran_of : ℕ → Host → Feed → Run
ran_of r h x = piece_of x.room h.skip r h.held (h.tail ++ x.bytes)

-- it comes to the start by a copy within the input
module _ (l : List ℕ) (from end f e : ℕ) (m : e ≡ min end (length l)) (n : f ≡ min from e) where
  left_lem : left_of l from end ≡ take (e - f) (drop f l)
  left_lem =
      let k : f + (e - f) ≡ e = omega arith in
      let a : take end l ≡ take e l = either (leb end (length l)) (λ t. let q : end ≡ e = omega (arith, leb-true _ _ t) in ap (λ (i : ℕ). take i l) q)
      (λ t. let q : length l ≤ end = omega (arith, leb-false end (length l) t) in
      let p : length l ≤ e = omega (arith, leb-false end (length l) t) in take_all end l q ∙ sym (take_all e l p)) in
      let b : drop from (take e l) ≡ drop f (take e l) =
      either (leb from e) (λ t. let q : from ≡ f = omega (arith, leb-true _ _ t) in ap (λ (i : ℕ). drop i (take e l)) q)
      (λ t. drop_of_length-le (take e l) (omega (arith, leb-false from e t, length-take e l)) ∙ sym (drop_of_length-le (take e l) (omega (arith, leb-false from e t, length-take e l)))) in
      ap (drop from) a ∙ b ∙ ap (λ (i : ℕ). drop f (take i l)) (sym k) ∙ drop-take f (e - f) l

  pub keep_left : {r : List ℕ} → r ≡ copy_within l f e 0 → done (e - f) r ≡ kept_of l from end
  unfolding kept_of over
  keep_left q =
      let w = take (e - f) (drop f l) in
      let k : e - f ≡ length w = simp (length-take, length-drop) (omega arith) in
      rw (left_lem, q, ← k) refl

-- a list that an input starts with has as many bytes
starts_long : (input : List ℕ) (n : ℕ) (l : List ℕ) → Starts input n l → length l ≡ n
starts_long input n l s = ap length (sym s.same) ∙ length-take-le n input s.within

-- bytes that come in behind what is kept
pub come_tail : (input : List ℕ) (n : ℕ) (l b : List ℕ) → Starts input n l → n + length b ≤ length input →
    Starts (over input n b) (n + length b) (l ++ b)
unfolding over
come_tail input n l b s g =
    let w = take n input ++ b in
    let k : length w ≡ n + length b = length-append (take n input) b ∙ ap (λ (i : ℕ). i + length b) (length-take-le n input s.within) in
    let e : over input n b ≡ w ++ drop (n + length b) input = sym (append_assoc (take n input) b (drop (n + length b) input)) in
    record {
      within = rw (length_over input n b g) g;
      same = ap (take (n + length b)) e ∙ take_at w (drop (n + length b) input) (n + length b) k ∙ ap (λ (x : List ℕ). x ++ b) s.same;
    }

-- what is kept is what is left, at the start
pub keep_tail : (input l : List ℕ) (used end : ℕ) → Starts input end l → Starts (kept_of input used end).cells (kept_of input used end).out (drop used l)
unfolding kept_of
keep_tail input l used end s =
    let w = left_of input used end in
    let n : length w ≤ length input = simp (length-drop, length-take) (omega arith) in
    record {
      within = rw (length_over input 0 w (omega arith)) n;
      same = over_span input 0 w (omega arith) ∙ ap (drop used) s.same;
    }

-- a turn: the bytes that came in, behind what was kept, are run, and what is kept then is what the model leaves
pub turn_tail : (r : ℕ) (h : Host) (x : Feed) (input : List ℕ) (end : ℕ) → Starts input end (h.tail ++ x.bytes) →
    Starts (kept_of input (ran_of r h x).used end).cells (kept_of input (ran_of r h x).used end).out (fed r h x).tail
unfolding fed
turn_tail r h x input end s = keep_tail input (h.tail ++ x.bytes) (ran_of r h x).used end s

-- what is left is run once more, in place, with room for so many answers
abbrev pub again : ℕ → Feed
again k = record { room = k; bytes = [] }

-- what is left after that starts as many bytes further on as it used
pub drain_tail : (r k at : ℕ) (h : Host) (l : List ℕ) → h.tail ≡ drop at l → (fed r h (again k)).tail ≡ drop (at + (ran_of r h (again k)).used) l
unfolding fed
drain_tail r k at h l e =
    let u = (ran_of r h (again k)).used in
    ap (drop u) (append-nil h.tail ∙ e) ∙ drop-drop u at l

-- a piece with room for an answer that uses nothing: no whole line is left, and no more than a line can have
still_rest : (k : ℕ) (t : Bool) (r : ℕ) (h : Held) (l : List ℕ) → (piece_of (suc k) t r h l).used ≡ 0 → lf_at l ≡ length l
still_rest k t r h l u =
    either (ltb (lf_at l) (length l))
    (λ e. absurd (omega (arith, line_used k t r h l (ltb-true _ _ e))))
    (λ e. omega (arith, lf_le l, ltb-false (lf_at l) (length l) e))

still_short : (k : ℕ) (t : Bool) (r : ℕ) (h : Held) (l : List ℕ) → (piece_of (suc k) t r h l).used ≡ 0 → length l ≤ longest
still_short k t r h l u =
    either (leb (length l) longest) (λ e. leb-true _ _ e) (λ e. absurd (omega (arith, piece_moves k t r h l (leb-false _ _ e))))

-- a host whose piece, with room for an answer, used nothing: no whole line is left, and at most 160 bytes, so that a longer input has room for an LF
pub drained : (r k : ℕ) (h : Host) (b : List ℕ) → (ran_of r h (record { room = suc k; bytes = b })).used ≡ 0 →
    (lf_at (fed r h (record { room = suc k; bytes = b })).tail ≡ length (fed r h (record { room = suc k; bytes = b })).tail)
    × (length (fed r h (record { room = suc k; bytes = b })).tail ≤ longest)
unfolding fed
drained r k h b u =
    let l = h.tail ++ b in
    let e : drop (ran_of r h (record { room = suc k; bytes = b })).used l ≡ l = ap (λ (n : ℕ). drop n l) u in
    (rw e (still_rest k h.skip r h.held l u), rw e (still_short k h.skip r h.held l u))

-- the test at the end
none_kept : (t : Bool) (n : ℕ) → unended t n ≡ false → (n ≡ 0) × (t ≡ false)
unfolding unended
none_kept t n e =
    either (eqb n 0) (λ z. (eqb-true n 0 z, sym (pick_true _ _ _ z) ∙ e)) (λ z. absurd (false≢true (sym e ∙ pick_false _ _ _ z)))

some_kept : (n : ℕ) → unended false n ≡ true → 0 < n
unfolding unended
some_kept n e =
    either (eqb n 0) (λ z. absurd (false≢true (sym (pick_true _ _ _ z) ∙ e))) (λ z. let k : n ≡ 0 → ⊥ = eqb-false n 0 z in omega arith)

-- no line lacks its LF: nothing changes
pub end_line_none : (t : Bool) (input : List ℕ) (n : ℕ) (l : List ℕ) → Starts input n l → unended t (length l) ≡ false → ended_of t input n ≡ done None input
unfolding ended_of
end_line_none t input n l s e = pick_false _ _ _ (ap (unended t) (sym (starts_long input n l s)) ∙ e)

-- the LF goes behind what is kept
pub end_line_tail : (t : Bool) (input : List ℕ) (n : ℕ) (l : List ℕ) → Starts input n l → unended t (length l) ≡ true → n < length input →
    ((ended_of t input n).out ≡ Some (n + 1)) × Starts (ended_of t input n).cells (n + 1) (l ++ (lf ∷ []))
unfolding ended_of
end_line_tail t input n l s e g =
    rw (pick_true _ _ _ (ap (unended t) (sym (starts_long input n l s)) ∙ e), pick_false _ _ _ (lt-leb _ _ g)) (
      refl,
      record {
        within = rw length-set (omega arith);
        same = ap (λ (i : ℕ). take i (set input n lf)) (add-one n) ∙ take-suc-set input n lf g ∙ ap (λ (x : List ℕ). x ++ (lf ∷ [])) s.same;
      },
    )

-- and says nothing else than the line without it
pub end_line_same : (t : Bool) (r : ℕ) (h : Held) (l : List ℕ) → unended t (length l) ≡ true → lf_at l ≡ length l →
    session_from t r h (l ++ (lf ∷ [])) ≡ session_from t r h l
unfolding session_from
end_line_same true r h l g e = close_skip r h l e
end_line_same false r h l g e = close_line r h l (some_kept (length l) g) e

-- a run that used all is as it is
close_all : (l : List ℕ) (x : Run) → drop x.used l ≡ [] → close_of l x ≡ x
close_all l x e = close_case (λ (y : Run). y ≡ x) l x refl (λ n m. absurd (omega (arith, ap length e)))

module _ (r : ℕ) (l : List ℕ) (e : lf_at l ≡ length l) where
  ended_at : lf_at (l ++ (lf ∷ [])) ≡ length l
  ended_at = omega (arith, lf_append l (lf ∷ []) e, lf_lf)

  ended_in : lf_at (l ++ (lf ∷ [])) < length (l ++ (lf ∷ []))
  ended_in = omega (arith, ended_at, length-append l (lf ∷ []))

  ended_drop : drop (lf_at (l ++ (lf ∷ [])) + 1) (l ++ (lf ∷ [])) ≡ []
  ended_drop = let g : length l ≤ lf_at l + 1 = omega arith in last_behind l e ∙ drop_of_length-le l g

  -- one line, all of the text, and nothing behind it
  ended_used : (k : ℕ) (o : List ℕ) (h : Held) →
      drop (ahead o (lf_at (l ++ (lf ∷ [])) + 1) (whole_lines k r h (drop (lf_at (l ++ (lf ∷ [])) + 1) (l ++ (lf ∷ []))))).used (l ++ (lf ∷ [])) ≡ []
  ended_used k o h =
      let z = l ++ (lf ∷ []) in
      let w = whole_lines k r h (drop (lf_at z + 1) z) in
      sym (drop-drop w.used (lf_at z + 1) z) ∙ ap (drop w.used) ended_drop ∙ drop-nil w.used

  -- the last line with its LF is used up, and no line is being passed over
  last_used : (k : ℕ) (t : Bool) (h : Held) →
      (drop (piece_of (suc k) t r h (l ++ (lf ∷ []))).used (l ++ (lf ∷ [])) ≡ []) × ((piece_of (suc k) t r h (l ++ (lf ∷ []))).skip ≡ false)
  last_used k t h =
      let z = l ++ (lf ∷ []) in
      let y = first_turn t r h z in
      let x = ahead (text_of y) (lf_at z + 1) (whole_lines k r y.held (drop (lf_at z + 1) z)) in
      let d : drop x.used z ≡ [] = ended_used k (text_of y) y.held in
      rw (piece_line k t r h z ended_in, close_all z x d) (d, no_skip k r y.held (drop (lf_at z + 1) z))

-- the last line: it is answered as without the LF that it gets
pub last_line : (r k : ℕ) (h : Host) → unended h.skip (length h.tail) ≡ true → lf_at h.tail ≡ length h.tail →
    (fed r h (record { room = suc k; bytes = lf ∷ [] })).sent ≡ h.sent ++ session_from h.skip r h.held h.tail
unfolding fed fed_all whole
last_line r k h t e =
    let x : Feed = record { room = suc k; bytes = lf ∷ [] } in
    let u = last_used r h.tail e k h.skip h.held in
    none_left r (fed r h x) u.1 u.0 ∙ fed_all_lem r h (x ∷ [])
    ∙ ap (λ (y : List ℕ). h.sent ++ y) (end_line_same h.skip r h.held h.tail t e)

-- the whole input: a host that has no whole line left has sent, at the end of the input, the session of all bytes that came in
pub finished_whole : (r k : ℕ) (h : Held) (xs : List Feed) → lf_at (fed_all r (started h) xs).tail ≡ length (fed_all r (started h) xs).tail →
    (finished r (suc k) (fed_all r (started h) xs)).sent ≡ session r h (whole xs)
unfolding finished
finished_whole r k h xs e =
    let z : Host = fed_all r (started h) xs in
    either (unended z.skip (length z.tail))
    (λ t. rw (pick_true _ _ _ t) (last_line r k z t e ∙ fed_started r h xs))
    (λ t.
    let n = none_kept z.skip (length z.tail) t in
    rw (pick_false _ _ _ t) (fed_whole r h xs n.1 (empty z.tail n.0)))
  where
    empty : (l : List ℕ) → length l ≡ 0 → l ≡ []
    empty [] q = refl
    empty (b ∷ l) q = absurd (omega arith)
