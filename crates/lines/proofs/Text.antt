-- A line's text and what it says: each way, and only one text. A line of over 160 bytes says nothing; an answer line has 37. Assumes nothing.
use Rattle.std.specs.Prelude.{Some, None, Option}
use Rattle.types.proofs.Prelude.{◌≡◌, refl, sym, ap, ◌∙◌, Bool, true, false, List, [], ◌∷◌, ◌++◌, ℕ, zero, suc, ◌+◌, ◌^◌, ◌<◌, ◌≤◌, arith, eqb, length, take}
use Rattle.types.proofs.Prelude.{get_or, length-append, length-take, ltb-true, leb-true, eqb-true, lt-ltb, le-leb, pick_true, both_1, both_2}
use Rattle.types.specs.{Pick.pick, Pick.both, Span.over, Names.Answer, Names.Fuel, Names.RefType}
use Rattle.machine.specs.{Operation.item_field, Operation.item_fields, Operation.items_of, Names.Items, Names.Operation}
use Rattle.lines.specs.{Hex.hex_text, Line.space, Line.lf, Line.longest, Line.line_text, Line.line_of, Line.at, Fields.kind_of, Fields.flag}
use Rattle.lines.specs.Code.{taken, items_from, by_code, operation_of, read_line}
use Rattle.lines.specs.{Writing.numbers_of, Writing.write_line, Writing.write_making, AnswerLine.answer_text, AnswerLine.answer_bytes, AnswerLine.answer_line}
use Rattle.lines.specs.Sayable.{Small, Said, Sayable}
use Rattle.lines.specs.{stages.Codes.segment_ranges, stages.Back.with_fields, stages.Back.back_of, stages.Back.making_back, declared.line.Line.Line, declared.code.Read.Read}
use Rattle.lines.proofs.NumberLaws.{load_number_lem, store_number_lem, kind_number_lem, flag_number, load_said, store_said, kind_said, flag_said}
use Rattle.lines.proofs.NumberLaws.{reference_said, reference_fields_lem, memory_in_lem, memory_said, memory_fields_lem, table_in_lem, table_said, table_fields_lem}
use Rattle.lines.proofs.{FieldText.line_write, FieldText.line_read, FieldText.Told, BackLaws.few, Writing.length_hex, Writing.length_line}
use Rattle.machine.specs.declared.operation.FuelOp.TheVariants as fuel
use Rattle.machine.specs.declared.operation.MemoryOp.TheVariants as memory
use Rattle.machine.specs.declared.operation.TableOp.TheVariants as table
use Rattle.machine.specs.declared.operation.Operation.TheVariants as op
use Rattle.lines.specs.declared.code.Read.TheVariants as read

-- a claim of the counts 0 to 4
five : (C : ℕ → Type 0) (n : ℕ) → n ≤ 4 → C 0 → C 1 → C 2 → C 3 → C 4 → C n
five C zero h a b c d e = a
five C (suc zero) h a b c d e = b
five C (suc (suc zero)) h a b c d e = c
five C (suc (suc (suc zero))) h a b c d e = d
five C (suc (suc (suc (suc zero)))) h a b c d e = e
five C (suc (suc (suc (suc (suc n))))) h a b c d e = absurd (omega arith)

-- an item past the count is 0
item_zero : (n p x : ℕ) → item_field n p x ≡ true → n ≤ p → x ≡ 0
unfolding item_field
item_zero n p x e h = eqb-true _ _ (sym (pick_true _ _ _ (le-leb _ _ h)) ∙ e)

-- a segment of each count
module _ (k : RefType) (a b c d : ℕ) where
  abbrev some_items : ℕ → Items
  some_items n = record { count = n; first = a; second = b; third = c; fourth = d }

  abbrev Says : ℕ → Type 0
  Says n = item_fields (some_items n) ≡ true → operation_of (Some (back_of (op.NewSegment k (some_items n)))) ≡ Some (read.Operation (op.NewSegment k (some_items n)))

  -- at most 4, and zeros past them
  items_few : (n : ℕ) → item_fields (some_items n) ≡ true → (n ≤ 4) × (n ≤ 0 → a ≡ 0) × (n ≤ 1 → b ≡ 0) × (n ≤ 2 → c ≡ 0) × (n ≤ 3 → d ≡ 0)
  unfolding item_fields
  items_few n h =
      let f = both_2 _ _ h in
      let g = both_2 _ _ f in
      let i = both_2 _ _ g in
      (leb-true _ _ (both_1 _ _ h), item_zero n 0 a (both_1 _ _ f), item_zero n 1 b (both_1 _ _ g), item_zero n 2 c (both_1 _ _ i), item_zero n 3 d (both_2 _ _ i))

  segment_says : (n : ℕ) → Says n
  unfolding operation_of by_code taken back_of numbers_of with_fields over pick both
  segment_says n h =
      let e = kind_said k in
      five Says n (items_few n h).0
      (λ h. let z = items_few 0 h in rw (e.0, e.1, z.1 (omega arith), z.2 (omega arith), z.3 (omega arith), z.4 (omega arith)) refl)
      (λ h. let z = items_few 1 h in rw (e.0, e.1, z.2 (omega arith), z.3 (omega arith), z.4 (omega arith)) refl)
      (λ h. let z = items_few 2 h in rw (e.0, e.1, z.3 (omega arith), z.4 (omega arith)) refl)
      (λ h. let z = items_few 3 h in rw (e.0, e.1, z.4 (omega arith)) refl)
      (λ h. rw (e.0, e.1) refl)
      h

-- an operation's numbers say it
says : (o : Operation) → Said o → operation_of (Some (back_of o)) ≡ Some (read.Operation o)
unfolding operation_of by_code taken back_of numbers_of with_fields over pick both Said
says (op.Fuel (fuel.SetFuel amount)) h = refl
says (op.Fuel fuel.GetFuel) h = refl
says (op.Fuel (fuel.Charge units)) h = refl
says (op.Fuel (fuel.SetLimiter script)) h = refl
says (op.NewMemory room wanted) h = rw (memory_in_lem wanted h, memory_said wanted h) refl
says (op.Memory n (memory.Grow pages)) h = refl
says (op.Memory n memory.Size) h = refl
says (op.Memory n (memory.Load kind pointer offset)) h = rw ((load_said kind).0, (load_said kind).1) refl
says (op.Memory n (memory.Store kind pointer offset bits)) h = rw ((store_said kind).0, (store_said kind).1) refl
says (op.Memory n (memory.LinkCheck wanted)) h = rw (memory_in_lem wanted h, memory_said wanted h) refl
says (op.NewTable room wanted initial) h = rw ((kind_said initial.ty).0, table_in_lem wanted h, table_said wanted, reference_said initial) refl
says (op.Table n (table.Grow cells value)) h = rw ((kind_said value.ty).0, reference_said value) refl
says (op.Table n table.Size) h = refl
says (op.Table n (table.Get index)) h = refl
says (op.Table n (table.Set index value)) h = rw ((kind_said value.ty).0, reference_said value) refl
says (op.Table n (table.Fill start value len)) h = rw ((kind_said value.ty).0, reference_said value) refl
says (op.TableCopy into source span) h = refl
says (op.TableInit table segment span) h = refl
says (op.DropSegment segment) h = refl
says (op.NewSegment k i) h = segment_says k i.first i.second i.third i.fourth i.count h

making_says : (m : Bool) (b : ℕ) → b < 2 ^ 32 → operation_of (Some (making_back m b)) ≡ Some (read.Making m b)
unfolding operation_of by_code taken making_back with_fields over pick both
making_says m b h = rw (lt-ltb b (2 ^ 32) h, (flag_said m).0, (flag_said m).1) refl

-- the way there: what is written is read as what was meant
pub read_write : (o : Operation) → Sayable o → read_line (write_line o) ≡ Some (read.Operation o)
unfolding read_line write_line back_of Sayable
read_write o h = ap operation_of (line_write (numbers_of o).code (numbers_of o).fields (few o).0 (few o).1 h.0) ∙ says o h.1

pub making_write : (m : Bool) (b : ℕ) → b < 2 ^ 32 → read_line (write_making m b) ≡ Some (read.Making m b)
unfolding read_line write_making making_back Small
making_write m b h =
    let t : flag m < 2 = ltb-true (flag m) 2 (flag_said m).0 in
    ap operation_of (line_write 0 (flag m ∷ b ∷ []) (omega arith) (omega arith) (omega arith, (omega arith, tt))) ∙ making_says m b h

-- a list of 8, by its elements
abbrev all : Line → List ℕ
all w = at w 0 ∷ at w 1 ∷ at w 2 ∷ at w 3 ∷ at w 4 ∷ at w 5 ∷ at w 6 ∷ at w 7 ∷ []

elements : (l : List ℕ) → length l ≡ 8 → l ≡ get_or l 0 0 ∷ get_or l 1 0 ∷ get_or l 2 0 ∷ get_or l 3 0 ∷ get_or l 4 0 ∷ get_or l 5 0 ∷ get_or l 6 0 ∷ get_or l 7 0 ∷ []
elements [] h = absurd (omega arith)
elements (a ∷ []) h = absurd (omega arith)
elements (a ∷ b ∷ []) h = absurd (omega arith)
elements (a ∷ b ∷ c ∷ []) h = absurd (omega arith)
elements (a ∷ b ∷ c ∷ d ∷ []) h = absurd (omega arith)
elements (a ∷ b ∷ c ∷ d ∷ e ∷ []) h = absurd (omega arith)
elements (a ∷ b ∷ c ∷ d ∷ e ∷ f ∷ []) h = absurd (omega arith)
elements (a ∷ b ∷ c ∷ d ∷ e ∷ f ∷ g ∷ []) h = absurd (omega arith)
elements (a ∷ b ∷ c ∷ d ∷ e ∷ f ∷ g ∷ i ∷ []) h = refl
elements (a ∷ b ∷ c ∷ d ∷ e ∷ f ∷ g ∷ i ∷ j ∷ l) h = absurd (omega arith)

told_as : (l : List ℕ) (w : Line) (c n : ℕ) → Told l w → w.code ≡ c → w.count ≡ n → l ≡ line_text c (take n (all w))
told_as l w c n t e f =
    t.text ∙ ap (λ (z : ℕ). line_text z (take w.count w.list)) e
    ∙ ap (λ (z : ℕ). line_text c (take z w.list)) f
    ∙ ap (λ (z : List ℕ). line_text c (take n z)) (elements w.list t.long)

-- the text that is written for what was read
unfoldable pub written : Read → List ℕ
written (read.Operation o) = write_line o
written (read.Making m b) = write_making m b

-- a test that gives something, and the same of one that goes on to others
passed : (t : Bool) (x r : Read) → pick t (Some x) None ≡ Some r → (t ≡ true) × (x ≡ r)
unfolding pick
passed true x r q = (refl, cc)
passed false x r q = let z : ◌≡◌ {A = ℕ} 0 1 = cc in absurd (omega arith)

try : (t : Bool) (p s r : Option Read) {C : Type 0} → pick t p s ≡ r → (t ≡ true → p ≡ r → C) → (s ≡ r → C) → C
unfolding pick
try true p s r q f g = f refl q
try false p s r q f g = g q

trim : (a b c d e f n : ℕ) → n ≤ 4 → take n (a ∷ b ∷ c ∷ d ∷ e ∷ f ∷ []) ≡ take n (a ∷ b ∷ c ∷ d ∷ [])
trim a b c d e f n h = five (λ (n : ℕ). take n (a ∷ b ∷ c ∷ d ∷ e ∷ f ∷ []) ≡ take n (a ∷ b ∷ c ∷ d ∷ [])) n h refl refl refl refl refl

module _ (l : List ℕ) (w : Line) (r : Read) (t : Told l w) where
  -- a code with its number of fields, in range
  arm : (c n : ℕ) (ok : Bool) (x : Read) → eqb w.code c ≡ true → taken w.count n ok x ≡ Some r → (ok ≡ true → line_text c (take n (all w)) ≡ written x) → l ≡ written r
  unfolding taken
  arm c n ok x e q d =
      let p = passed _ _ _ q in
      told_as l w c n t (eqb-true _ _ e) (eqb-true _ _ (both_1 _ _ p.0)) ∙ d (both_2 _ _ p.0) ∙ ap written p.1

  segment_arm : eqb w.code 0x29 ≡ true
      → taken w.count (2 + at w 1) (segment_ranges (at w 0) (at w 1)) (read.Operation (op.NewSegment (kind_of (at w 0)) (items_from w))) ≡ Some r → l ≡ written r
  unfolding written write_line numbers_of
  segment_arm e q =
      let k : 2 + at w 1 ≡ suc (suc (at w 1)) = omega arith in
      arm 0x29 (suc (suc (at w 1))) _ _ e (rw k at q) (λ h.
      ap (λ (z : List ℕ). line_text 0x29 (at w 0 ∷ at w 1 ∷ z))
      (trim (at w 2) (at w 3) (at w 4) (at w 5) (at w 6) (at w 7) (at w 1) (leb-true _ _ (both_1 _ _ h)))
      ∙ ap (λ (n : ℕ). line_text 0x29 (n ∷ at w 1 ∷ items_of (items_from w))) (sym (kind_number_lem (at w 0) (both_2 _ _ h))))

  from_code : by_code w.code w.count w ≡ Some r → l ≡ written r
  unfolding by_code written write_line write_making numbers_of
  from_code q =
      try _ _ _ _ q (λ e p. arm 0x00 2 _ _ e p (λ h. ap (λ (n : ℕ). line_text 0x00 (n ∷ at w 1 ∷ [])) (sym (flag_number (at w 0) (both_2 _ _ h))))) (λ q.
      try _ _ _ _ q (λ e p. arm 0x01 1 _ _ e p (λ h. refl)) (λ q.
      try _ _ _ _ q (λ e p. arm 0x02 0 _ _ e p (λ h. refl)) (λ q.
      try _ _ _ _ q (λ e p. arm 0x03 1 _ _ e p (λ h. refl)) (λ q.
      try _ _ _ _ q (λ e p. arm 0x04 2 _ _ e p (λ h. refl)) (λ q.
      try _ _ _ _ q (λ e p. arm 0x10 6 _ _ e p (λ h. ap (λ (z : List ℕ). line_text 0x10 (at w 0 ∷ z)) (sym (memory_fields_lem _ _ _ _ _ h)))) (λ q.
      try _ _ _ _ q (λ e p. arm 0x11 2 _ _ e p (λ h. refl)) (λ q.
      try _ _ _ _ q (λ e p. arm 0x12 1 _ _ e p (λ h. refl)) (λ q.
      try _ _ _ _ q (λ e p. arm 0x13 4 _ _ e p (λ h. ap (λ (n : ℕ). line_text 0x13 (at w 0 ∷ n ∷ at w 2 ∷ at w 3 ∷ [])) (sym (load_number_lem (at w 1) (leb-true _ _ h))))) (λ q.
      try _ _ _ _ q (λ e p. arm 0x14 5 _ _ e p (λ h. ap (λ (n : ℕ). line_text 0x14 (at w 0 ∷ n ∷ at w 2 ∷ at w 3 ∷ at w 4 ∷ [])) (sym (store_number_lem (at w 1) (leb-true _ _ h))))) (λ q.
      try _ _ _ _ q (λ e p. arm 0x20 8 _ _ e p (λ h. ap (λ (z : List ℕ). line_text 0x20 (at w 0 ∷ z)) (sym (table_fields_lem _ _ _ _ _ _ _ h)))) (λ q.
      try _ _ _ _ q (λ e p. arm 0x21 4 _ _ e p (λ h. ap (λ (z : List ℕ). line_text 0x21 (at w 0 ∷ at w 1 ∷ z)) (sym (reference_fields_lem _ _ h)))) (λ q.
      try _ _ _ _ q (λ e p. arm 0x22 1 _ _ e p (λ h. refl)) (λ q.
      try _ _ _ _ q (λ e p. arm 0x23 2 _ _ e p (λ h. refl)) (λ q.
      try _ _ _ _ q (λ e p. arm 0x24 4 _ _ e p (λ h. ap (λ (z : List ℕ). line_text 0x24 (at w 0 ∷ at w 1 ∷ z)) (sym (reference_fields_lem _ _ h)))) (λ q.
      try _ _ _ _ q (λ e p. arm 0x25 5 _ _ e p (λ h. ap (λ (n : ℕ). line_text 0x25 (at w 0 ∷ at w 1 ∷ n ∷ at w 3 ∷ at w 4 ∷ [])) (sym (kind_number_lem (at w 2) h)))) (λ q.
      try _ _ _ _ q (λ e p. arm 0x26 5 _ _ e p (λ h. refl)) (λ q.
      try _ _ _ _ q (λ e p. arm 0x27 5 _ _ e p (λ h. refl)) (λ q.
      try _ _ _ _ q (λ e p. arm 0x28 1 _ _ e p (λ h. refl)) (λ q.
      try _ _ _ _ q (λ e p. segment_arm e p) (λ q.
      try _ _ _ _ q (λ e p. arm 0x30 6 _ _ e p (λ h. ap (λ (z : List ℕ). line_text 0x30 (at w 0 ∷ z)) (sym (memory_fields_lem _ _ _ _ _ h)))) (λ q.
      let z : ◌≡◌ {A = ℕ} 0 1 = cc in absurd (omega arith))))))))))))))))))))))

-- the way back: a text that is read as something is the text that is written for it
unique : (l : List ℕ) (r : Read) → read_line l ≡ Some r → l ≡ written r
unfolding read_line operation_of
unique l r q = from_line (line_of l) refl q
  where
    from_line : (o : Option Line) → line_of l ≡ o → operation_of o ≡ Some r → l ≡ written r
    from_line None e q = let z : ◌≡◌ {A = ℕ} 0 1 = cc in absurd (omega arith)
    from_line (Some w) e q = from_code l w r (line_read l w e) q

pub read_unique : (l : List ℕ) (o : Operation) → read_line l ≡ Some (read.Operation o) → l ≡ write_line o
unfolding written
read_unique l o q = unique l (read.Operation o) q

pub making_unique : (l : List ℕ) (m : Bool) (b : ℕ) → read_line l ≡ Some (read.Making m b) → l ≡ write_making m b
unfolding written
making_unique l m b q = unique l (read.Making m b) q

-- a line of over 160 bytes says nothing
pub long_malformed : (l : List ℕ) → longest < length l → read_line l ≡ None
unfolding read_line operation_of
long_malformed l h = nothing (line_of l) refl
  where
    nothing : (o : Option Line) → line_of l ≡ o → operation_of o ≡ None
    nothing None e = refl
    nothing (Some w) e =
        let t = line_read l w e in
        absurd (omega (arith, ap length t.text, length_line w.code (take w.count w.list), length-take w.count w.list, t.long))

-- an answer line has 37 bytes
pub answer_long : (number shown fuel : ℕ) → length (answer_text number shown fuel) ≡ answer_bytes
unfolding answer_text
answer_long n v f =
    let x = hex_text 16 f ++ (lf ∷ []) in
    let y = hex_text 16 v ++ (space ∷ x) in
    let h : length x ≡ 17 = omega (arith, length-append (hex_text 16 f) (lf ∷ []), length_hex 16 f) in
    let g : length y ≡ 34 = omega (arith, length-append (hex_text 16 v) (space ∷ x), length_hex 16 v) in
    omega (arith, length-append (hex_text 2 n) (space ∷ y), length_hex 2 n)

pub answer_line_long : (a : Answer) (f : Fuel) → length (answer_line a f) ≡ answer_bytes
unfolding answer_line
answer_line_long a f = answer_long _ _ _
