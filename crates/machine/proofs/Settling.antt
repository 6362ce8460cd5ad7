-- What an operation writes to a row that holds its machine's words are the words of the machine after it, and the row then says that machine. Assumes nothing.
use Rattle.types.proofs.Prelude.{ℕ, ◌+◌, ◌*◌, ◌≤◌, ◌<◌, ◌≡◌, refl, sym, ap, subst, ◌∙◌, Bool, true, false, false≢true, List, [], ◌∷◌, ◌++◌, arith, ltb, length, set}
use Rattle.types.proofs.Prelude.{length-set, ltb-true, leb-true, le-leb, lt-leb, pick_true, pick_false, both_true, both_left, both_right, both_1, both_2}
use Rattle.types.proofs.Prelude.{either}
use Rattle.types.specs.{Pick.pick, Span.over, Raw.raw_bytes, Fuel.left, declared.fuel.Fuel.Fuel, declared.limiter.Limiter.Limiter, Answer.refuse}
use Rattle.memory.specs.declared.memory.Memory.{Memory}
use Rattle.table.specs.{declared.table.Table.Table, declared.element.ElementSegment.ElementSegment}
use Rattle.types.specs.Pick.{both}
use Rattle.types.proofs.Prelude.{both_then}
use Rattle.machine.specs.{Machine.Buffers, Machine.no_memory, Machine.no_table, Machine.no_segment, Sound.sound_over, Operation.well_formed}
use Rattle.machine.specs.Outcome.{keeps, with_memories, with_tables, with_segments, changed, settled}
use Rattle.machine.specs.Step.{Stepped, on_none, after, perform, decide, step}
use Rattle.machine.specs.Words.{record_length, segment_length, tables_at, segments_at, counts_at, fuel_at, row_length}
use Rattle.machine.specs.Words.{memory_words, table_words, segment_words, count_words, fuel_words, place_words, rows_of, instance_words, standing_words, state_words, words_of, machine_from, in_form}
use Rattle.machine.specs.Row.{InRow, row_keeps, row_after, operate_row}
use Rattle.machine.specs.stages.Rows.{Inside, ends_inside, Fits, Shaped, changed_row, writes_of, settled_row, row_settled, Goes, Holds, proceed_row, Steps, Proceeds}
use Rattle.machine.specs.{declared.records.Machine.Machine, declared.records.Counts.Counts, declared.outcome.Outcome.Outcome}
use Rattle.machine.specs.{declared.outcome.Change.Change, declared.operation.Operation.Operation, declared.operation.Writes.Writes}
use Rattle.machine.proofs.Lengths.{length_memory, length_table, length_segment, length_count, length_fuel, length_standing}
use Rattle.machine.proofs.{Rows.rows_length, Rows.length_both, Rows.over_all, Places.over_left, Places.over_right, Places.over_in, Places.rows_set}
use Rattle.machine.proofs.{Back.row_back, Back.shaped_from, Formed.form_holds, Written.Left, Written.leaves}
use Rattle.machine.proofs.Rooms.{memories_few, tables_few, segments_few, next_byte_inside, next_cell_inside, next_item_inside}
use Rattle.machine.specs.declared.outcome.Change.TheVariants as change
use Rattle.machine.specs.declared.operation.Writes.TheVariants as writes

-- how long the parts are
state_long : (k : Counts) (f : Fuel) (p : Limiter) → length p.script ≡ 16 → length (state_words k f p) ≡ 26
state_long k f p e = length_both (standing_words k f p) p.script 10 16 26 (length_standing k f p) e refl

-- the fuel left is the first of fuel's words
left_first : (f : Fuel) (n : ℕ) → over (fuel_words f) 0 (n ∷ []) ≡ fuel_words (left f n)
unfolding over fuel_words
left_first f n = refl

-- a machine whose lists have 8 places
pub record Eights (m : Machine) : Type 0 where
  pub memories : length m.memories ≡ 8
  pub tables : length m.tables ≡ 8
  pub segments : length m.segments ≡ 8

pub eights : (m : Machine) → Shaped m → Eights m
eights m h = record { memories = h.memories; tables = h.tables; segments = h.segments }

module _ (m : Machine) (h : Eights m) where
  mems_long : length (rows_of memory_words m.memories) ≡ 64
  mems_long = rows_length memory_words no_memory 8 length_memory m.memories ∙ omega (arith, h.memories)

  tabs_long : length (rows_of table_words m.tables) ≡ 64
  tabs_long = rows_length table_words no_table 8 length_table m.tables ∙ omega (arith, h.tables)

  segs_long : length (rows_of segment_words m.segments) ≡ 32
  segs_long = rows_length segment_words no_segment 4 length_segment m.segments ∙ omega (arith, h.segments)

  both_long : length (rows_of memory_words m.memories ++ rows_of table_words m.tables) ≡ 128
  both_long = length_both (rows_of memory_words m.memories) (rows_of table_words m.tables) 64 64 128 mems_long tabs_long refl

  instances_long : length (instance_words m) ≡ 160
  instances_long = length_both (rows_of memory_words m.memories ++ rows_of table_words m.tables) (rows_of segment_words m.segments) 128 32 160 both_long segs_long refl

  -- a record among a machine's words
  memory_among : (s : List ℕ) (i : ℕ) (r : Memory) → i < 8
      → over (instance_words m ++ s) (record_length * i) (memory_words r) ≡ instance_words (with_memories m (set m.memories i r)) ++ s
  memory_among s i r k =
      let n = length_memory r in
      let a = rows_of memory_words m.memories in
      let b = rows_of table_words m.tables in
      let d = rows_of segment_words m.segments in
      let g : 8 * i + length (memory_words r) ≤ 64 = omega (arith, n, k) in
      over_left ((a ++ b) ++ d) s (8 * i) (memory_words r) (omega (arith, g, instances_long))
      ∙ ap (λ (z : List ℕ). z ++ s)
      (over_left (a ++ b) d (8 * i) (memory_words r) (omega (arith, g, both_long))
      ∙ ap (λ (z : List ℕ). z ++ d)
      (over_left a b (8 * i) (memory_words r) (omega (arith, g, mems_long))
      ∙ ap (λ (z : List ℕ). z ++ b) (rows_set memory_words 8 length_memory m.memories i r (omega (arith, k, h.memories)))))

  table_among : (s : List ℕ) (i : ℕ) (r : Table) → i < 8
      → over (instance_words m ++ s) (tables_at + record_length * i) (table_words r) ≡ instance_words (with_tables m (set m.tables i r)) ++ s
  table_among s i r k =
      let n = length_table r in
      let a = rows_of memory_words m.memories in
      let b = rows_of table_words m.tables in
      let d = rows_of segment_words m.segments in
      let g : 64 + 8 * i + length (table_words r) ≤ 128 = omega (arith, n, k) in
      let q : 64 + 8 * i ≡ length a + 8 * i = omega (arith, mems_long) in
      over_left ((a ++ b) ++ d) s (64 + 8 * i) (table_words r) (omega (arith, g, instances_long))
      ∙ ap (λ (z : List ℕ). z ++ s)
      (over_left (a ++ b) d (64 + 8 * i) (table_words r) (omega (arith, g, both_long))
      ∙ ap (λ (z : List ℕ). z ++ d)
      (over_right a b (8 * i) (64 + 8 * i) (table_words r) q
      ∙ ap (λ (z : List ℕ). a ++ z) (rows_set table_words 8 length_table m.tables i r (omega (arith, k, h.tables)))))

  segment_among : (s : List ℕ) (i : ℕ) (r : ElementSegment) → i < 8
      → over (instance_words m ++ s) (segments_at + segment_length * i) (segment_words r) ≡ instance_words (with_segments m (set m.segments i r)) ++ s
  segment_among s i r k =
      let n = length_segment r in
      let a = rows_of memory_words m.memories in
      let b = rows_of table_words m.tables in
      let d = rows_of segment_words m.segments in
      let g : 128 + 4 * i + length (segment_words r) ≤ 160 = omega (arith, n, k) in
      let q : 128 + 4 * i ≡ length (a ++ b) + 4 * i = omega (arith, both_long) in
      over_left ((a ++ b) ++ d) s (128 + 4 * i) (segment_words r) (omega (arith, g, instances_long))
      ∙ ap (λ (z : List ℕ). z ++ s)
      (over_right (a ++ b) d (4 * i) (128 + 4 * i) (segment_words r) q
      ∙ ap (λ (z : List ℕ). (a ++ b) ++ z) (rows_set segment_words 4 length_segment m.segments i r (omega (arith, k, h.segments))))

  -- numbers in use, fuel and limiter
  state_among : (s t : List ℕ) → length s ≡ 26 → length t ≡ 26 → over (instance_words m ++ s) counts_at t ≡ instance_words m ++ t
  state_among s t p q =
      let e : 160 ≡ length (instance_words m) + 0 = omega (arith, instances_long) in
      over_right (instance_words m) s 0 160 t e ∙ ap (λ (z : List ℕ). instance_words m ++ z) (over_all s t 26 p q)

  -- the same without the script's answers
  standing_among : (s t u : List ℕ) → length s ≡ 10 → length t ≡ 10 → over (instance_words m ++ (s ++ u)) counts_at t ≡ instance_words m ++ (t ++ u)
  standing_among s t u p q =
      let e : 160 ≡ length (instance_words m) + 0 = omega (arith, instances_long) in
      over_right (instance_words m) (s ++ u) 0 160 t e
      ∙ ap (λ (z : List ℕ). instance_words m ++ z) (over_left s u 0 t (omega (arith, p, q)) ∙ ap (λ (z : List ℕ). z ++ u) (over_all s t 10 p q))

  -- the fuel left
  left_among : (k : Counts) (f : Fuel) (p : Limiter) (n : ℕ) → over (instance_words m ++ state_words k f p) fuel_at (n ∷ []) ≡ instance_words m ++ state_words k (left f n) p
  left_among k f p n =
      let c = count_words k in
      let w = fuel_words f in
      let e : 163 ≡ length (instance_words m) + 3 = omega (arith, instances_long) in
      let g : 3 ≡ length c + 0 = omega (arith, length_count k) in
      over_right (instance_words m) (((c ++ w) ++ place_words p) ++ p.script) 3 163 (n ∷ []) e
      ∙ ap (λ (z : List ℕ). instance_words m ++ z)
      (over_left ((c ++ w) ++ place_words p) p.script 3 (n ∷ []) (omega (arith, length_standing k f p))
      ∙ ap (λ (z : List ℕ). z ++ p.script)
      (over_left (c ++ w) (place_words p) 3 (n ∷ []) (omega (arith, length_both c w 3 5 8 (length_count k) (length_fuel f) refl))
      ∙ ap (λ (z : List ℕ). z ++ place_words p) (over_right c w 0 3 (n ∷ []) g ∙ ap (λ (z : List ℕ). c ++ z) (left_first f n))))

-- a change keeps the lists' lengths
pub changed_eights : (x : Change) (m : Machine) → Eights m → Eights (changed x m)
unfolding changed
changed_eights change.Nothing m h = h
changed_eights (change.Memory i r) m h =
    either (ltb i 8)
    (λ t. subst Eights (sym (pick_true _ _ _ t)) (record { memories = length-set m.memories i r ∙ h.memories; tables = h.tables; segments = h.segments }))
    (λ t. subst Eights (sym (pick_false _ _ _ t)) h)
changed_eights (change.Table i r) m h =
    either (ltb i 8)
    (λ t. subst Eights (sym (pick_true _ _ _ t)) (record { memories = h.memories; tables = length-set m.tables i r ∙ h.tables; segments = h.segments }))
    (λ t. subst Eights (sym (pick_false _ _ _ t)) h)
changed_eights (change.Segment i r) m h =
    either (ltb i 8)
    (λ t. subst Eights (sym (pick_true _ _ _ t)) (record { memories = h.memories; tables = h.tables; segments = length-set m.segments i r ∙ h.segments }))
    (λ t. subst Eights (sym (pick_false _ _ _ t)) h)

module _ (l s : List ℕ) (m : Machine) (h : Eights m) (long : length s ≡ 26) where
  row_long : length (instance_words m ++ s) ≡ 186
  row_long = length_both (instance_words m) s 160 26 186 (instances_long m h) long refl

  abbrev row_for : Machine → List ℕ
  row_for k = over l 0 (instance_words k ++ s)

  either_row : (t : Bool) {a : List ℕ} (k : Machine) → (t ≡ true → a ≡ row_for k) → pick t a (row_for m) ≡ row_for (pick t k m)
  either_row t {a = a} k f =
      either t (λ e. pick_true _ _ _ e ∙ f e ∙ ap row_for (sym (pick_true t k m e))) (λ e. pick_false _ _ _ e ∙ ap row_for (sym (pick_false t k m e)))

  -- a change to a row that holds a machine's words
  change_row : (x : Change) → changed_row (row_for m) x ≡ row_for (changed x m)
  unfolding changed_row changed
  change_row change.Nothing = refl
  change_row (change.Memory i r) =
      either_row (ltb i 8) (with_memories m (set m.memories i r))
      (λ t. let k = ltb-true i 8 t in
      over_in l _ (8 * i) (memory_words r) (omega (arith, k, length_memory r, row_long)) ∙ ap (over l 0) (memory_among m h s i r k))
  change_row (change.Table i r) =
      either_row (ltb i 8) (with_tables m (set m.tables i r))
      (λ t. let k = ltb-true i 8 t in
      over_in l _ (64 + 8 * i) (table_words r) (omega (arith, k, length_table r, row_long)) ∙ ap (over l 0) (table_among m h s i r k))
  change_row (change.Segment i r) =
      either_row (ltb i 8) (with_segments m (set m.segments i r))
      (λ t. let k = ltb-true i 8 t in
      over_in l _ (128 + 4 * i) (segment_words r) (omega (arith, k, length_segment r, row_long)) ∙ ap (over l 0) (segment_among m h s i r k))

-- the machine after an outcome whose fuel and limiter a program holds
settled_shaped : (m : Machine) (o : Outcome) → Eights m → Fits o.fuel o.limiter → Shaped (settled m o)
unfolding settled
settled_shaped m o h f =
    let e = changed_eights o.change m h in
    record { memories = e.memories; tables = e.tables; segments = e.segments; fits = f }

-- what settling writes are the words of the machine after it
module _ (l : List ℕ) (o : Outcome) (h : Holds l) (f : Fits o.fuel o.limiter) where
  abbrev before : Machine
  before = machine_from l

  abbrev held : List ℕ
  held = state_words before.counts before.fuel before.limiter

  abbrev standing : List ℕ
  standing = standing_words o.counts o.fuel o.limiter

  abbrev stated : List ℕ
  stated = state_words o.counts o.fuel o.limiter

  held_long : length held ≡ 26
  held_long = state_long before.counts before.fuel before.limiter (shaped_from l).fits.script

  -- on a row with the instances of a machine: all but the script's answers, or all
  put_standing : (k : Machine) → Eights k → o.limiter.script ≡ before.limiter.script
      → over (over l 0 (instance_words k ++ held)) 160 standing ≡ over l 0 (instance_words k ++ stated)
  put_standing k e same =
      let n = length_standing o.counts o.fuel o.limiter in
      over_in l (instance_words k ++ held) 160 standing (omega (arith, n, row_long l held k e held_long))
      ∙ ap (over l 0)
      (standing_among k e (standing_words before.counts before.fuel before.limiter) standing before.limiter.script
      (length_standing before.counts before.fuel before.limiter) n
      ∙ ap (λ (z : List ℕ). instance_words k ++ (standing ++ z)) (sym same))

  put_stated : (k : Machine) → Eights k → over (over l 0 (instance_words k ++ held)) 160 stated ≡ over l 0 (instance_words k ++ stated)
  put_stated k e =
      let n : length stated ≡ 26 = state_long o.counts o.fuel o.limiter f.script in
      over_in l (instance_words k ++ held) 160 stated (omega (arith, n, row_long l held k e held_long)) ∙ ap (over l 0) (state_among k e held stated held_long n)

  settle_words : (w : Writes) → Left w before o → settled_row l w o ≡ over l 0 (words_of (settled before o))
  unfolding settled_row settled words_of Left
  settle_words writes.Nothing only =
      ap (λ (z : List ℕ). over z 163 (o.fuel.remaining ∷ [])) h
      ∙ over_in l (instance_words before ++ held) 163 (o.fuel.remaining ∷ []) (omega (arith, row_long l held before (eights before (shaped_from l)) held_long))
      ∙ ap (over l 0) (left_among before (eights before (shaped_from l)) before.counts before.fuel before.limiter o.fuel.remaining)
      ∙ ap (λ (k : Machine). over l 0 (words_of k)) (sym only)
  settle_words writes.Record same =
      ap (λ (z : List ℕ). over (changed_row z o.change) 160 standing) h
      ∙ ap (λ (z : List ℕ). over z 160 standing) (change_row l held before (eights before (shaped_from l)) held_long o.change)
      ∙ put_standing (changed o.change before) (changed_eights o.change before (eights before (shaped_from l))) same
  settle_words writes.Script kept =
      ap (λ (z : List ℕ). over z 160 stated) h ∙ put_stated before (eights before (shaped_from l))
      ∙ ap (λ (k : Machine). over l 0 (instance_words k ++ stated)) (sym kept)

-- the step of a well-formed operation on a sound machine
pub goes : (r : ℕ) (m : Machine) (b : Buffers) (o : Operation) → well_formed o ≡ true → sound_over m b ≡ true → step r m b o ≡ after m (perform r m b o)
unfolding step decide
goes r m b o w e = ap (after m) (pick_true _ _ _ w ∙ pick_true _ _ _ e)

-- an operation that goes on a row which holds a sound machine's words is the step in place
pub goes_steps : (l : List ℕ) (b : Buffers) (op : Operation) {x : InRow} → Holds l → well_formed op ≡ true → sound_over (machine_from l) b ≡ true
    → Fits (perform raw_bytes (machine_from l) b op).out.fuel (perform raw_bytes (machine_from l) b op).out.limiter
    → x ≡ row_settled l op (perform raw_bytes (machine_from l) b op) → Steps l x (step raw_bytes (machine_from l) b op)
goes_steps l b op h w e f q =
    let m = machine_from l in
    let p = perform raw_bytes m b op in
    let g = goes raw_bytes m b op w e in
    let words = settle_words l p.out h f (writes_of op) (leaves raw_bytes m b op) in
    let row : row_settled l op p ≡ row_after l (after m p) = ap (λ (z : List ℕ). record { answer = p.out.answer; words = z; buffers = p.buffers }) words in
    let back : machine_from (over l 0 (words_of (settled m p.out))) ≡ settled m p.out = row_back (settled m p.out) l (settled_shaped m p.out (eights m (shaped_from l)) f) in
    record {
      row = q ∙ row ∙ ap (row_after l) (sym g);
      says = ap (λ (z : InRow). machine_from z.words) (q ∙ row) ∙ back ∙ ap (λ (s : Stepped). s.machine) (sym g);
    }

-- no count of a sound machine passes the places, and its next rooms start inside its buffers
pub sound_inside : (m : Machine) (b : Buffers) → sound_over m b ≡ true → Inside m (length b.bytes) (length b.cells) (length b.items)
sound_inside m b e =
    record {
      memories = memories_few m (length b.bytes) (length b.cells) (length b.items) e;
      tables = tables_few m (length b.bytes) (length b.cells) (length b.items) e;
      segments = segments_few m (length b.bytes) (length b.cells) (length b.items) e;
      byte = next_byte_inside m (length b.bytes) (length b.cells) (length b.items) e;
      cell = next_cell_inside m (length b.bytes) (length b.cells) (length b.items) e;
      item = next_item_inside m (length b.bytes) (length b.cells) (length b.items) e;
    }

pub tested_inside : (m : Machine) (bytes cells items : ℕ) → ends_inside m bytes cells items ≡ true → Inside m bytes cells items
unfolding ends_inside
tested_inside m bytes cells items e =
    let memory = both_1 _ _ e in
    let table = both_1 _ _ (both_2 _ _ e) in
    let segment = both_2 _ _ (both_2 _ _ e) in
    record {
      memories = leb-true _ _ (both_1 _ _ memory);
      tables = leb-true _ _ (both_1 _ _ table);
      segments = leb-true _ _ (both_1 _ _ segment);
      byte = leb-true _ _ (both_2 _ _ memory);
      cell = leb-true _ _ (both_2 _ _ table);
      item = leb-true _ _ (both_2 _ _ segment);
    }

pub inside_tested : (m : Machine) (bytes cells items : ℕ) → Inside m bytes cells items → ends_inside m bytes cells items ≡ true
unfolding ends_inside
inside_tested m bytes cells items h =
    both_true _ _ (both_true _ _ (le-leb _ _ h.memories) (le-leb _ _ h.byte))
    (both_true _ _ (both_true _ _ (le-leb _ _ h.tables) (le-leb _ _ h.cell))
    (both_true _ _ (le-leb _ _ h.segments) (le-leb _ _ h.item)))

-- an operation that says something wrong changes nothing, in place too
stops : (r : ℕ) (m : Machine) (b : Buffers) (o : Operation) → well_formed o ≡ false → step r m b o ≡ after m (on_none (keeps m (refuse 18 0)) b)
unfolding step decide
stops r m b o w = ap (after m) (pick_false _ _ _ w)

pub unsound_stops : (r : ℕ) (m : Machine) (b : Buffers) (o : Operation) → well_formed o ≡ true → sound_over m b ≡ false → step r m b o ≡ after m (on_none (keeps m (refuse 19 0)) b)
unfolding step decide
unsound_stops r m b o w e = ap (after m) (pick_true _ _ _ w ∙ pick_false _ _ _ e)

kept_row : (l : List ℕ) (b : Buffers) (n : ℕ) → Holds l → row_keeps l b n ≡ row_after l (after (machine_from l) (on_none (keeps (machine_from l) (refuse n 0)) b))
unfolding settled changed
kept_row l b n h = ap (λ (z : List ℕ). record { answer = refuse n 0; words = z; buffers = b }) h

stops_steps : (l : List ℕ) (b : Buffers) (op : Operation) {x : InRow} → Holds l → well_formed op ≡ false → x ≡ row_keeps l b 18 → Steps l x (step raw_bytes (machine_from l) b op)
unfolding settled changed
stops_steps l b op h w q =
    let g = stops raw_bytes (machine_from l) b op w in
    record { row = q ∙ kept_row l b 18 h ∙ ap (row_after l) (sym g); says = ap (λ (z : InRow). machine_from z.words) q ∙ ap (λ (s : Stepped). s.machine) (sym g) }

-- the exits of `proceed`
module _ (l : List ℕ) (b : Buffers) (op : Operation) {x : InRow} where
  pub proceeds_malformed : well_formed op ≡ false → x ≡ row_keeps l b 18 → Proceeds l b op x
  unfolding proceed_row
  proceeds_malformed w q = record { is = q ∙ sym (pick_false _ _ _ w); steps = λ long h e. stops_steps l b op h w q }

  pub proceeds_short : well_formed op ≡ true → length l < row_length → x ≡ row_keeps l b 19 → Proceeds l b op x
  unfolding proceed_row
  proceeds_short w n q =
      record {
        is = q ∙ sym (pick_true _ _ _ w ∙ pick_false _ _ _ (both_left _ _ (lt-leb _ _ n)));
        steps = λ long h e. absurd (omega (arith, n, long));
      }

  module _ (w : well_formed op ≡ true) (n : row_length ≤ length l) where
    pub proceeds_outside : ends_inside (machine_from l) (length b.bytes) (length b.cells) (length b.items) ≡ false → x ≡ row_keeps l b 19 → Proceeds l b op x
    unfolding proceed_row
    proceeds_outside t q =
        record {
          is = q ∙ sym (pick_true _ _ _ w ∙ pick_false _ _ _ (both_right _ _ t));
          steps = λ long h e. absurd (false≢true (sym t ∙ inside_tested (machine_from l) _ _ _ (sound_inside (machine_from l) b e)));
        }

    pub proceeds_goes : ends_inside (machine_from l) (length b.bytes) (length b.cells) (length b.items) ≡ true → Goes l b op x → Proceeds l b op x
    unfolding proceed_row
    proceeds_goes t g =
        record {
          is = g.is ∙ sym (pick_true _ _ _ w ∙ pick_true _ _ _ (both_true _ _ (le-leb _ _ n) t));
          steps = λ long h e. goes_steps l b op h w e g.fits g.is;
        }

  -- the exits of `operate`
  pub operates_malformed : well_formed op ≡ false → x ≡ row_keeps l b 18 → x ≡ operate_row raw_bytes l b op
  unfolding operate_row
  operates_malformed w q = q ∙ sym (pick_false _ _ _ w)

  module _ (w : well_formed op ≡ true) where
    pub operates_out_of_form : in_form l ≡ false → x ≡ row_keeps l b 19 → x ≡ operate_row raw_bytes l b op
    unfolding operate_row
    operates_out_of_form f q = q ∙ sym (pick_true _ _ _ w ∙ pick_false _ _ _ f)

    pub operates_unsound : in_form l ≡ true → sound_over (machine_from l) b ≡ false → x ≡ row_keeps l b 19 → x ≡ operate_row raw_bytes l b op
    unfolding operate_row
    operates_unsound f e q =
        q ∙ kept_row l b 19 (form_holds l f) ∙ ap (row_after l) (sym (unsound_stops raw_bytes (machine_from l) b op w e)) ∙ sym (pick_true _ _ _ w ∙ pick_true _ _ _ f)

    pub operates_unready : both (in_form l) (sound_over (machine_from l) b) ≡ false → x ≡ row_keeps l b 19 → x ≡ operate_row raw_bytes l b op
    operates_unready t q = either (in_form l) (λ f. operates_unsound f (sym (both_then _ _ f) ∙ t) q) (λ f. operates_out_of_form f q)

    pub operates_goes : in_form l ≡ true → sound_over (machine_from l) b ≡ true → Goes l b op x → x ≡ operate_row raw_bytes l b op
    unfolding operate_row
    operates_goes f e g = (goes_steps l b op (form_holds l f) w e g.fits g.is).row ∙ sym (pick_true _ _ _ w ∙ pick_true _ _ _ f)
