-- Laws of a run over a piece: what its loop keeps, and its ways out. Assumes nothing.
use Rattle.std.specs.Prelude.{Some, None, Option, MatchOption, Ok, Err}
use Rattle.std.specs.Option.{is_some}
use Rattle.types.proofs.Prelude.{◌≡◌, refl, sym, ap, ◌∙◌, Bool, true, false, false≢true, List, ◌++◌, ℕ, suc, ◌+◌, ◌-◌, ◌*◌, ◌/◌, ◌<◌, ◌≤◌, arith, ltb, leb, length, take, take_all, length-take}
use Rattle.types.proofs.Prelude.{drop, length-append, length-drop, drop-drop, ltb-true, ltb-false, lt-ltb, le-ltb, le-leb, lt-leb, pick_true, pick_false}
use Rattle.types.proofs.{Prelude.either, Picks.pick_same, Spans.over_nil, Spans.over_over, Spans.length_over}
use Rattle.types.specs.{Pick.pick, Pick.both, Answer.refuse, Answer.accept, Span.over, Raw.raw_bytes, Names.Answer}
use Rattle.machine.specs.Names.{Buffers, fresh_machine, sound_over, Stepped, step, Machine, Operation}
use Rattle.machine.specs.Words.{machine_from, in_form}
use Rattle.lines.specs.{Line.longest, Code.read_line, AnswerLine.answer_bytes, AnswerLine.answer_line}
use Rattle.lines.specs.Session.{Held, Turn, turned, malformed, costs_of, turn_by, turn_of, text_of}
use Rattle.lines.specs.Pieces.{lf_at, Run, still, ahead, whole_lines, close_of, piece_of}
use Rattle.lines.specs.Progress.{Progressed, progress_of, piece_in}
use Rattle.lines.specs.stages.Runs.{Ran, run_of, row_with, session_as, skipping, end_of, WholeRan, closed_of}
use Rattle.lines.specs.declared.{code.Read.Read, session.Session.Session, session.Progress.Progress}
use Rattle.lines.proofs.{Pieces.length_text, Pieces.piece_used}
use Rattle.lines.specs.declared.code.Read.TheVariants as read

-- a turn on what a line was read as
pub turned_line : (h : Held) (l : List ℕ) {x : Option Read} {y : Turn} → x ≡ read_line l → y ≡ turn_by raw_bytes h x → y ≡ turn_of raw_bytes h l
unfolding turn_of
turned_line h l e q = q ∙ ap (turn_by raw_bytes h) e

-- an operation, 00 on the first line and on a later one, and 18
pub turn_does : (m : Machine) (first : Bool) (b : Buffers) (o : Operation) (s : Stepped) {x : Option Read} → x ≡ Some (read.Operation o) → s ≡ step raw_bytes m b o
    → turned s.answer s.machine s.buffers ≡ turn_by raw_bytes (record { machine = m; first = first; buffers = b }) x
unfolding turn_by
turn_does m first b o s e q = rw (e, q) refl

pub turn_makes : (m n : Machine) (b : Buffers) (first metering : Bool) (copied : ℕ) {x : Option Read} → first ≡ true → x ≡ Some (read.Making metering copied) → n ≡ fresh_machine metering (costs_of copied)
    → turned (accept 0) n b ≡ turn_by raw_bytes (record { machine = m; first = first; buffers = b }) x
unfolding turn_by pick
turn_makes m n b first metering copied f e q = rw (f, e, q) refl

pub turn_late : (m : Machine) (b : Buffers) (first metering : Bool) (copied : ℕ) {x : Option Read} {a : Answer} → first ≡ false → x ≡ Some (read.Making metering copied) → a ≡ refuse 18 0
    → turned a m b ≡ turn_by raw_bytes (record { machine = m; first = first; buffers = b }) x
unfolding turn_by pick
turn_late m b first metering copied f e q = rw (f, e, q) refl

pub turn_none : (m : Machine) (first : Bool) (b : Buffers) {x : Option Read} {a : Answer} → x ≡ None → a ≡ refuse 18 0
    → turned a m b ≡ turn_by raw_bytes (record { machine = m; first = first; buffers = b }) x
unfolding turn_by
turn_none m first b e q = rw (e, q) refl

-- a later line that is no operation
pub turn_later : (m : Machine) (b : Buffers) (x : Option Read) {a : Answer} → ((o : Operation) → x ≡ Some (read.Operation o) → ⊥) → a ≡ refuse 18 0
    → turned a m b ≡ turn_by raw_bytes (record { machine = m; first = false; buffers = b }) x
turn_later m b (Some (read.Operation o)) g q = absurd (g o refl)
turn_later m b (Some (read.Making metering copied)) g q = turn_late m b false metering copied refl refl q
turn_later m b None g q = turn_none m false b refl q

-- how far a run is, when it stops
abbrev pub reached : List ℕ → ℕ → ℕ → List ℕ → Held → Ran
reached s used wrote o h =
    record { progress = record { session = session_as h false; used = used; wrote = wrote }; words = row_with s h.machine; buffers = h.buffers; out = o }

-- a run behind one line
end_ahead : (s : List ℕ) (used w n : ℕ) (o t : List ℕ) (x : Run) → w + length t ≤ length o → end_of s used w o (ahead t n x) ≡ end_of s (used + n) (w + length t) (over o w t) x
unfolding end_of
end_ahead s used w n o t x h =
    let a : used + (n + x.used) ≡ (used + n) + x.used = omega arith in
    let b : w + length (t ++ x.out) ≡ (w + length t) + length x.out = omega (arith, length-append t x.out) in
    let d : over o w (t ++ x.out) ≡ over (over o w t) (w + length t) x.out = sym (over_over o w t x.out h) in
    rw (a, b, d) refl

end_still : (s : List ℕ) (h : Held) (used w : ℕ) (o : List ℕ) → end_of s used w o (still h) ≡ reached s used w o h
unfolding end_of
end_still s h used w o =
    let a : used + 0 ≡ used = omega arith in
    let b : w + 0 ≡ w = omega arith in
    rw (over_nil, a, b) refl

end_start : (s o : List ℕ) (x : Run) → end_of s 0 0 o x ≡ run_of s o x
unfolding end_of run_of
end_start s o x =
    let a : 0 + x.used ≡ x.used = omega arith in
    let b : 0 + length x.out ≡ length x.out = omega arith in
    rw (a, b) refl

unroll : (room r : ℕ) (h : Held) (l : List ℕ) → 0 < room → whole_lines room r h l ≡
    pick (ltb (lf_at l) (length l))
    (ahead (text_of (turn_of r h (take (lf_at l) l))) (lf_at l + 1) (whole_lines (room - 1) r (turn_of r h (take (lf_at l) l)).held (drop (lf_at l + 1) l)))
    (still h)
unfolding whole_lines
unroll room r h l g = let j : room ≡ suc (room - 1) = omega arith in ap (λ (i : ℕ). whole_lines i r h l) j

text_put : (o p : List ℕ) (w : ℕ) (y : Turn) → p ≡ over o w (answer_line y.answer y.held.machine.fuel) → p ≡ over o w (text_of y)
unfolding text_of
text_put o p w y e = e

-- a turn of the loop
pub turn_on : (s : List ℕ) (r : ℕ) (h : Held) (used w room e : ℕ) (l o p : List ℕ) (y : Turn) {z : Ran} → 0 < room → w + answer_bytes * room ≤ length o → used ≤ length l →
    e ≡ used + lf_at (drop used l) → e < length l → y ≡ turn_of r h (take (e - used) (drop used l)) → p ≡ over o w (answer_line y.answer y.held.machine.fuel) →
    end_of s used w o (whole_lines room r h (drop used l)) ≡ z → end_of s (e + 1) (w + answer_bytes) p (whole_lines (room - 1) r y.held (drop (e + 1) l)) ≡ z
turn_on s r h used w room e l o p y hr g k d m c q f =
    let n = lf_at (drop used l) in
    let b : e - used ≡ n = omega arith in
    let x = turn_of r h (take n (drop used l)) in
    let yx : y ≡ x = c ∙ ap (λ (i : ℕ). turn_of r h (take i (drop used l))) b in
    let rest = whole_lines (room - 1) r x.held (drop (n + 1) (drop used l)) in
    let u : whole_lines room r h (drop used l) ≡ ahead (text_of x) (n + 1) rest =
    unroll room r h (drop used l) hr ∙ pick_true _ _ _ (lt-ltb n (length (drop used l)) (omega (arith, length-drop used l))) in
    let t : length (text_of x) ≡ answer_bytes = length_text x in
    let v : used + (n + 1) ≡ e + 1 = omega arith in
    let j : drop (n + 1) (drop used l) ≡ drop (e + 1) l = drop-drop (n + 1) used l ∙ ap (λ (i : ℕ). drop i l) v in
    let a : end_of s used w o (whole_lines room r h (drop used l)) ≡ end_of s (used + (n + 1)) (w + length (text_of x)) (over o w (text_of x)) rest =
    ap (λ (i : Run). end_of s used w o i) u ∙ end_ahead s used w (n + 1) o (text_of x) rest (omega arith) in
    let i : p ≡ over o w (text_of x) = text_put o p w y q ∙ ap (λ (i : Turn). over o w (text_of i)) yx in
    ap (λ (i : List ℕ). end_of s (e + 1) (w + answer_bytes) i (whole_lines (room - 1) r y.held (drop (e + 1) l))) i
    ∙ ap (λ (i : Turn). end_of s (e + 1) (w + answer_bytes) (over o w (text_of x)) (whole_lines (room - 1) r i.held (drop (e + 1) l))) yx
    ∙ (rw (v, t, j) at (sym a ∙ f))

-- the rest of a text, as the code cuts it
abbrev pub rest_of : List ℕ → ℕ → List ℕ
rest_of l used = take (length l - used) (drop used l)

rest_lem : (l : List ℕ) (used : ℕ) → rest_of l used ≡ drop used l
rest_lem l used = take_all (length l - used) (drop used l) (omega (arith, length-drop used l))

-- what is known of a line's end
abbrev pub Ends : Option ℕ → List ℕ → Type 0
Ends r x = MatchOption r (lf_at x ≡ length x) (λ n. (n ≡ lf_at x) × (n < length x))

pub ends_in : (x : List ℕ) (r : Option ℕ) → is_some r ≡ true → Ends r x → lf_at x < length x
ends_in x (Some n) e h = omega (arith, h)
ends_in x None e h = absurd (false≢true e)

pub ends_out : (x : List ℕ) (r : Option ℕ) → is_some r ≡ false → Ends r x → lf_at x ≡ length x
ends_out x (Some n) e h = absurd (false≢true (sym e))
ends_out x None e h = h

-- the loop over lines, where the rest of the input is known by its first line
module _ (s : List ℕ) (r : ℕ) (h : Held) (used w : ℕ) (l o : List ℕ) {z : Ran} (k : used ≤ length l)
    (f : end_of s used w o (whole_lines ((length o - w) / answer_bytes) r h (drop used l)) ≡ z) where
  -- a line more
  pub line_on : {n : ℕ} (p : List ℕ) (y : Turn) → answer_bytes ≤ length o - w → w ≤ length o → (n ≡ lf_at (rest_of l used)) × (n < length (rest_of l used))
      → y ≡ turn_of r h (take (used + n - used) (drop used l)) → p ≡ over o w (answer_line y.answer y.held.machine.fuel)
      → end_of s (used + (n + 1)) (w + answer_bytes) p (whole_lines ((length p - (w + answer_bytes)) / answer_bytes) r y.held (drop (used + (n + 1)) l)) ≡ z
  line_on {n} p y g a m c q =
      let d = rw (rest_lem l used) at m in
      let b : (used + n) + 1 ≡ used + (n + 1) = omega arith in
      let lp : length p ≡ length o = ap length (text_put o p w y q) ∙ length_over o w (text_of y) (omega (arith, length_text y)) in
      let less : (length o - w) / answer_bytes - 1 ≡ (length p - (w + answer_bytes)) / answer_bytes = omega arith in
      rw (less, b) at
      (turn_on s r h used w ((length o - w) / answer_bytes) (used + n) l o p y (omega arith) (omega arith) k (omega (arith, d)) (omega (arith, d, length-drop used l)) c q f)

  -- no whole line is left
  pub run_stop : answer_bytes ≤ length o - w → lf_at (rest_of l used) ≡ length (rest_of l used) → reached s used w o h ≡ z
  run_stop g m =
      let d = rw (rest_lem l used) at m in
      let room = (length o - w) / answer_bytes in
      let u : whole_lines room r h (drop used l) ≡ still h = unroll room r h (drop used l) (omega arith) ∙ pick_false _ _ _ (le-ltb (lf_at (drop used l)) (length (drop used l)) (omega (arith, d))) in
      sym (end_still s h used w o) ∙ ap (λ (i : Run). end_of s used w o i) (sym u) ∙ f

  -- no room is left
  pub run_full : length o - w < answer_bytes → reached s used w o h ≡ z
  unfolding whole_lines
  run_full g =
      let j : (length o - w) / answer_bytes ≡ 0 = omega arith in
      let u : whole_lines ((length o - w) / answer_bytes) r h (drop used l) ≡ still h = ap (λ (i : ℕ). whole_lines i r h (drop used l)) j in
      sym (end_still s h used w o) ∙ ap (λ (i : Run). end_of s used w o i) (sym u) ∙ f

-- the ways out of `close`
module _ (l : List ℕ) (p : Progress) (h : p.used ≤ length l) where
  pub closed_short : length (rest_of l p.used) ≤ longest → p ≡ closed_of l p
  unfolding closed_of
  closed_short k =
      let g : length l - p.used ≤ longest = omega (arith, length-take (length l - p.used) (drop p.used l), length-drop p.used l) in
      rw (pick_true _ _ _ (le-leb _ _ g)) (sym (pick_same _ p))

  pub closed_in : (r : Option ℕ) → is_some r ≡ true → Ends r (rest_of l p.used) → p ≡ closed_of l p
  unfolding closed_of
  closed_in r e m =
      let d = rw (rest_lem l p.used) at (ends_in (rest_of l p.used) r e m) in
      let g : p.used + lf_at (drop p.used l) < length l = omega (arith, d, length-drop p.used l) in
      sym (pick_true _ _ _ (lt-ltb _ _ g))

  pub closed_long : (r : Option ℕ) → is_some r ≡ false → Ends r (rest_of l p.used) → longest < length (rest_of l p.used) →
      record { session = skipping p.session; used = length l; wrote = p.wrote } ≡ closed_of l p
  unfolding closed_of
  closed_long r e m k =
      let d = rw (rest_lem l p.used) at (ends_out (rest_of l p.used) r e m) in
      let g : length l ≤ p.used + lf_at (drop p.used l) = omega (arith, d, length-drop p.used l) in
      let k : longest < length l - p.used = omega (arith, length-take (length l - p.used) (drop p.used l), length-drop p.used l) in
      sym (pick_false _ _ _ (le-ltb _ _ g) ∙ pick_false _ _ _ (lt-leb _ _ k))

-- the end of a run, in the code's terms and in the definition's
abbrev pub closing : List ℕ → Ran → Ran
closing l z = record { progress = closed_of l z.progress; words = z.words; buffers = z.buffers; out = z.out }

close_run : (s l o : List ℕ) (x : Run) → x.used ≤ length l → closing l (run_of s o x) ≡ run_of s o (close_of l x)
unfolding closed_of close_of run_of
close_run s l o x h =
    let u = x.used in
    let w = drop u l in
    let g : length w ≡ length l - u = length-drop u l in
    either (ltb (lf_at w) (length w))
    (λ e.
    let y : u + lf_at w < length l = omega (arith, ltb-true (lf_at w) (length w) e) in
    rw (pick_true _ _ _ e, pick_true _ _ _ (lt-ltb _ _ y)) refl)
    (λ e.
    let y : length l ≤ u + lf_at w = omega (arith, ltb-false (lf_at w) (length w) e) in
    rw (pick_false _ _ _ e, pick_false _ _ _ (le-ltb _ _ y), g)
    (either (leb (length l - u) longest) (λ f. rw (pick_true _ _ _ f, pick_true _ _ _ f) refl) (λ f. rw (pick_false _ _ _ f, pick_false _ _ _ f) refl)))

closed_run : (s l o : List ℕ) (z : Ran) (x : Run) {q : Progress} → z ≡ run_of s o x → z.progress.used ≤ length l → q ≡ closed_of l z.progress →
    record { progress = q; words = z.words; buffers = z.buffers; out = z.out } ≡ run_of s o (close_of l x)
unfolding run_of
closed_run s l o z x e g c =
    let u : x.used ≤ length l = omega (arith, ap (λ (y : Ran). y.progress.used) e) in
    ap (λ (q : Progress). record { progress = q; words = z.words; buffers = z.buffers; out = z.out }) c ∙ ap (closing l) e ∙ close_run s l o x u

pub go_closed : (s : List ℕ) (h : Held) (l o : List ℕ) (z : Ran) {q : Progress} → WholeRan z s 0 0 h o l → q ≡ closed_of l z.progress →
    record { progress = q; words = z.words; buffers = z.buffers; out = z.out } ≡ run_of s o (piece_of (length o / answer_bytes) false raw_bytes h l)
unfolding piece_of
go_closed s h l o z w c =
    let n : (length o - 0) / answer_bytes ≡ length o / answer_bytes = omega arith in
    let e : z ≡ run_of s o (whole_lines (length o / answer_bytes) raw_bytes h l) =
    w.is ∙ ap (λ (k : ℕ). end_of s 0 0 o (whole_lines k raw_bytes h l)) n ∙ end_start s o (whole_lines (length o / answer_bytes) raw_bytes h l) in
    closed_run s l o z (whole_lines (length o / answer_bytes) raw_bytes h l) e w.used c

-- inside a line that is too long: no room, no end of it, or its end
pub skip_short : (s : List ℕ) (r : ℕ) (h : Held) (l o : List ℕ) → length o < answer_bytes →
    record { progress = record { session = session_as h true; used = 0; wrote = 0 }; words = row_with s h.machine; buffers = h.buffers; out = o } ≡ run_of s o (piece_of (length o / answer_bytes) true r h l)
unfolding piece_of run_of
skip_short s r h l o g = let z : length o / answer_bytes ≡ 0 = omega arith in rw (z, over_nil) refl

pub skip_none : (s : List ℕ) (r : ℕ) (h : Held) (l o : List ℕ) → answer_bytes ≤ length o → lf_at l ≡ length l →
    record { progress = record { session = session_as h true; used = length l; wrote = 0 }; words = row_with s h.machine; buffers = h.buffers; out = o }
    ≡ run_of s o (piece_of (length o / answer_bytes) true r h l)
unfolding piece_of run_of
skip_none s r h l o hr g =
    let z : length o / answer_bytes ≡ suc (length o / answer_bytes - 1) = omega arith in
    let k : length l ≤ lf_at l = omega arith in
    rw (z, pick_false _ _ _ (le-ltb _ _ k), over_nil) refl

pub skip_closed : (s : List ℕ) (h : Held) (e : ℕ) (l o m : List ℕ) (z : Ran) {q : Progress} → answer_bytes ≤ length o → (e ≡ lf_at l) × (e < length l) →
    m ≡ over o 0 (answer_line (refuse 18 0) h.machine.fuel) → WholeRan z s (e + 1) answer_bytes (malformed h).held m l → q ≡ closed_of l z.progress →
    record { progress = q; words = z.words; buffers = z.buffers; out = z.out } ≡ run_of s o (piece_of (length o / answer_bytes) true raw_bytes h l)
unfolding piece_of
skip_closed s h e l o m z g d f w c =
    let t = text_of (malformed h) in
    let lt : length t ≡ answer_bytes = length_text (malformed h) in
    let mt : m ≡ over o 0 t = text_put o m 0 (malformed h) f in
    let lm : length m ≡ length o = ap length mt ∙ length_over o 0 t (omega arith) in
    let n : length o / answer_bytes ≡ suc (length o / answer_bytes - 1) = omega arith in
    let nn : (length m - answer_bytes) / answer_bytes ≡ length o / answer_bytes - 1 = omega arith in
    let ee : e ≡ lf_at l = d.0 in
    let kk : lf_at l < length l = omega (arith, d) in
    let b = whole_lines (length o / answer_bytes - 1) raw_bytes (malformed h).held (drop (lf_at l + 1) l) in
    let x = ahead t (lf_at l + 1) b in
    let from : 0 + (lf_at l + 1) ≡ lf_at l + 1 = omega arith in
    let put : 0 + length t ≡ answer_bytes = omega arith in
    let a : end_of s 0 0 o x ≡ end_of s (lf_at l + 1) answer_bytes (over o 0 t) b = rw (from, put) at (end_ahead s 0 0 (lf_at l + 1) o t b (omega arith)) in
    let i : z ≡ end_of s (lf_at l + 1) answer_bytes (over o 0 t) b = w.is ∙ rw (nn, ee, mt) refl in
    rw (n, pick_true _ _ _ (lt-ltb _ _ kk)) (closed_run s l o z x (i ∙ sym a ∙ end_start s o x) w.used c)

-- the two ways of a piece
pub piece_stuck : (x : Session) (l : List ℕ) (b : Buffers) (input out : List ℕ) → both (in_form l) (sound_over (machine_from l) b) ≡ false
    → record { progress = Err (record { number = 19; amount = 0 }); words = l; buffers = b; out = out } ≡ piece_in x l b input out
unfolding piece_in
piece_stuck x l b input out e = sym (pick_false _ _ _ e)

pub piece_goes : (x : Session) (l : List ℕ) (b : Buffers) (input out : List ℕ) (z : Ran) → both (in_form l) (sound_over (machine_from l) b) ≡ true
    → z ≡ run_of l out (piece_of (length out / answer_bytes) x.skip raw_bytes (record { machine = machine_from l; first = x.first; buffers = b }) input)
    → record { progress = Ok z.progress; words = z.words; buffers = z.buffers; out = z.out } ≡ piece_in x l b input out
unfolding piece_in run_of progress_of
piece_goes x l b input out z e q = ap (λ (y : Ran). record { progress = Ok y.progress; words = y.words; buffers = y.buffers; out = y.out }) q ∙ sym (pick_true _ _ _ e)

-- what a caller of `piece` knows: no more is used than there is
pub progress_used : (x : Session) (l : List ℕ) (b : Buffers) (input out : List ℕ) (z : Progressed) (p : Progress) → z.progress ≡ Ok p → z ≡ piece_in x l b input out
    → p.used ≤ length input
unfolding piece_in progress_of
progress_used x l b input out z p f e =
    either (both (in_form l) (sound_over (machine_from l) b))
    (λ t.
    let y = piece_of (length out / answer_bytes) x.skip raw_bytes (record { machine = machine_from l; first = x.first; buffers = b }) input in
    let g : Ok p ≡ Ok (record { session = record { first = y.held.first; skip = y.skip }; used = y.used; wrote = length y.out }) =
    sym f ∙ ap (λ (u : Progressed). u.progress) (e ∙ pick_true _ _ _ t) in
    let h : p.used ≡ y.used = cc in
    omega (arith, h, piece_used (length out / answer_bytes) x.skip raw_bytes (record { machine = machine_from l; first = x.first; buffers = b }) input))
    (λ t.
    let g : Ok p ≡ Err (record { number = 19; amount = 0 }) = sym f ∙ ap (λ (u : Progressed). u.progress) (e ∙ pick_false _ _ _ t) in
    let h : ◌≡◌ {A = ℕ} 0 1 = cc in
    absurd (omega arith))
