-- Laws of what C is told of a machine in a row of words. Assumes nothing.
use Rattle.std.specs.Prelude.{Option, Some, None}
use Rattle.types.proofs.Prelude.{ℕ, ◌+◌, ◌≤◌, ◌<◌, ◌≡◌, refl, sym, ap, ◌∙◌, true, false, List, [], ◌∷◌, arith, length, get_or, replicate, le-leb, ne_eqb}
use Rattle.types.proofs.{Prelude.pick_true, Prelude.pick_false, Prelude.either, Spans.length_over}
use Rattle.types.specs.{Pick.pick, Span.over, Answer.refuse, Answer.number_of, Answer.shown_of, Raw.raw_bytes, Names.Answer, Names.Fuel}
use Rattle.machine.specs.{Machine.Buffers, Operation.well_formed, Outcome.settled, Outcome.changed, Step.decide, Step.step}
use Rattle.machine.specs.{Words.row_length, Words.machine_from, Words.in_form, Words.words_of, Row.InRow, Row.operate_row, Row.fuel_of, stages.Rows.Shaped}
use Rattle.machine.specs.declared.records.Machine.{Machine}
use Rattle.machine.proofs.{Back.words_length, Back.row_back, Formed.form_holds}
use Rattle.lines.specs.{Code.operation_of, Code.read_line, Session.Held, Session.Turn, Session.turn_by, Session.turn_of, AnswerLine.fuel_shown}
use Rattle.lines.specs.{Line.line_of, Line.line_text, stages.Back.with_fields, Sayable.Small, declared.line.Line.Line, declared.code.Read.Read}
use Rattle.lines.proofs.FieldText.{line_write}
use Rattle.yshankelt.specs.Whole.{call, good_line, line_from, answered, told, operate_of}
use Rattle.lines.specs.declared.code.Read.TheVariants as read

-- at most 8 fields, place by place
pub eight_fields : (l : List ℕ) → length l ≤ 8
    → get_or l 0 0 ∷ get_or l 1 0 ∷ get_or l 2 0 ∷ get_or l 3 0 ∷ get_or l 4 0 ∷ get_or l 5 0 ∷ get_or l 6 0 ∷ get_or l 7 0 ∷ [] ≡ over (replicate 8 0) 0 l
unfolding over
eight_fields [] h = refl
eight_fields (a ∷ []) h = refl
eight_fields (a ∷ b ∷ []) h = refl
eight_fields (a ∷ b ∷ d ∷ []) h = refl
eight_fields (a ∷ b ∷ d ∷ e ∷ []) h = refl
eight_fields (a ∷ b ∷ d ∷ e ∷ f ∷ []) h = refl
eight_fields (a ∷ b ∷ d ∷ e ∷ f ∷ g ∷ []) h = refl
eight_fields (a ∷ b ∷ d ∷ e ∷ f ∷ g ∷ i ∷ []) h = refl
eight_fields (a ∷ b ∷ d ∷ e ∷ f ∷ g ∷ i ∷ j ∷ []) h = refl
eight_fields (a ∷ b ∷ d ∷ e ∷ f ∷ g ∷ i ∷ j ∷ k ∷ l) h = absurd (omega (arith, h))

-- each column, from what it is known to be, where the number is not 19
pub told_columns : (a : Answer) {n : ℕ} (l : List ℕ) (value fuel : ℕ) → n ≡ number_of a → {v f : ℕ} {g : Fuel} → (n ≡ 19 → ⊥) → v ≡ shown_of a → f ≡ fuel_shown g → g ≡ fuel_of l
    → (b : Buffers) → call n v f l b ≡ told value fuel (record { answer = a; words = l; buffers = b })
unfolding told
told_columns a l value fuel e h p q r b = rw (e, p, q, r) (sym (pick_false _ _ _ (ne_eqb _ _ (λ z. h (e ∙ z)))))

-- the code and fields stand for the line of text that one would write
pub line_said : (code : ℕ) (fields : List ℕ) → code < 256 → length fields ≤ 8 → Small fields → line_of (line_text code fields) ≡ line_from code fields
unfolding line_from with_fields
line_said code fields h k s =
    let z : 0 + length fields ≡ length fields = omega arith in
    line_write code fields h k s ∙ ap (λ (n : ℕ). Some (good_line code n (over (replicate 8 0) 0 fields))) z ∙ sym (pick_true _ _ _ (le-leb _ _ k))

pub as_line : (h : Held) (code : ℕ) (fields : List ℕ) → code < 256 → length fields ≤ 8 → Small fields
    → turn_of raw_bytes h (line_text code fields) ≡ turn_by raw_bytes h (operation_of (line_from code fields))
unfolding turn_of read_line
as_line h code fields a b s = ap (λ (w : Option Line). turn_by raw_bytes h (operation_of w)) (line_said code fields a b s)

-- a session's turn in a row: the words of the machine after it
abbrev pub turn_in : List ℕ → Turn → InRow
turn_in l t = record { answer = t.answer; words = over l 0 (words_of t.held.machine); buffers = t.held.buffers }

-- a row in form answers as a session does that holds its machine, past the first line
turn_in_lem : (l : List ℕ) (b : Buffers) (s : Option Read) → in_form l ≡ true
    → answered s l b ≡ turn_in l (turn_by raw_bytes (record { machine = machine_from l; first = false; buffers = b }) s)
unfolding answered turn_by operate_row step decide settled changed pick
turn_in_lem l b (Some (read.Operation op)) e =
    either (well_formed op)
    (λ w. pick_true _ _ _ w ∙ pick_true _ _ _ e)
    (λ w. pick_false _ _ _ w ∙ ap (λ (z : List ℕ). record { answer = refuse 18 0; words = z; buffers = b }) (form_holds l e) ∙ rw w refl)
turn_in_lem l b (Some (read.Making metering copied)) e = ap (λ (z : List ℕ). record { answer = refuse 18 0; words = z; buffers = b }) (form_holds l e)
turn_in_lem l b None e = ap (λ (z : List ℕ). record { answer = refuse 18 0; words = z; buffers = b }) (form_holds l e)

pub as_session : (l : List ℕ) (b : Buffers) (w : Option Line) (value fuel : ℕ) → in_form l ≡ true
    → operate_of l b w value fuel ≡ told value fuel (turn_in l (turn_by raw_bytes (record { machine = machine_from l; first = false; buffers = b }) (operation_of w)))
unfolding operate_of
as_session l b w value fuel e = ap (told value fuel) (turn_in_lem l b (operation_of w) e)

-- and its fuel column is that machine's, of whatever shape a program holds a machine in
pub fuel_said : (l : List ℕ) (m : Machine) → row_length ≤ length l → Shaped m → fuel_of (over l 0 (words_of m)) ≡ m.fuel
unfolding fuel_of
fuel_said l m n h =
    let w = words_length m h in
    let k = length_over l 0 (words_of m) (omega (arith, w, n)) in
    let g : row_length ≤ length (over l 0 (words_of m)) = omega (arith, k, n) in
    pick_true _ _ _ (le-leb _ _ g) ∙ ap (λ (x : Machine). x.fuel) (row_back m l h)
