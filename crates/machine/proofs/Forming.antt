-- A row that a machine's words were put to is in form, where the machine is one that a program holds and its script's answers are at most 2. Assumes nothing.
use Rattle.types.proofs.Prelude.{ℕ, ◌+◌, ◌≤◌, ◌≡◌, refl, sym, ap, ◌∙◌, Bool, true, false, List, ◌++◌, arith, leb, length, get_or, drop, le-leb, lt-ltb, both_true}
use Rattle.types.proofs.Spans.{length_over}
use Rattle.types.specs.{Pick.both, Span.over, IndexType.is64}
use Rattle.memory.specs.declared.memory.Memory.{Memory}
use Rattle.table.specs.declared.table.Table.{Table}
use Rattle.machine.specs.Machine.{no_memory, no_table, no_segment}
use Rattle.machine.specs.Words.{record_length, segment_length, tables_at, segments_at, script_at, row_length, yes_word, is_wasm, is_extern, rows_of, words_of}
use Rattle.machine.specs.Words.{memory_words, table_words, segment_words, count_words, fuel_words, place_words, all_at, flag_at, answer_at, record_in_form, fuel_in_form, in_form}
use Rattle.machine.specs.{stages.Rows.Shaped, declared.records.Machine.Machine}
use Rattle.machine.proofs.Back.{placed, placed_same, words_length}

-- a yes or no is 0 or 1
yes_flag : (b : Bool) → leb (yes_word b) 1 ≡ true
yes_flag true = refl
yes_flag false = refl

-- the flags of one record's words
memory_flags : (r : Memory) → both (leb (yes_word (is64 r.ty.index)) 1) (both (leb (yes_word (is_wasm r.ty.page)) 1) (leb (yes_word r.ty.limits.bounded) 1)) ≡ true
memory_flags r = both_true _ _ (yes_flag (is64 r.ty.index)) (both_true _ _ (yes_flag (is_wasm r.ty.page)) (yes_flag r.ty.limits.bounded))

table_flags : (r : Table) → both (leb (yes_word (is_extern r.ty.element)) 1) (both (leb (yes_word (is64 r.ty.index)) 1) (leb (yes_word r.ty.limits.bounded) 1)) ≡ true
table_flags r = both_true _ _ (yes_flag (is_extern r.ty.element)) (both_true _ _ (yes_flag (is64 r.ty.index)) (yes_flag r.ty.limits.bounded))

module _ (m : Machine) (r : List ℕ) where
  memories_form : all_at record_in_form record_length (words_of (placed m) ++ r) 0 8 ≡ true
  unfolding all_at record_in_form words_of rows_of memory_words
  memories_form =
      both_true _ _ (memory_flags (get_or m.memories 0 no_memory))
      (both_true _ _ (memory_flags (get_or m.memories 1 no_memory))
      (both_true _ _ (memory_flags (get_or m.memories 2 no_memory))
      (both_true _ _ (memory_flags (get_or m.memories 3 no_memory))
      (both_true _ _ (memory_flags (get_or m.memories 4 no_memory))
      (both_true _ _ (memory_flags (get_or m.memories 5 no_memory))
      (both_true _ _ (memory_flags (get_or m.memories 6 no_memory))
      (both_true _ _ (memory_flags (get_or m.memories 7 no_memory)) refl)))))))

  tables_form : all_at record_in_form record_length (words_of (placed m) ++ r) tables_at 8 ≡ true
  unfolding all_at record_in_form words_of rows_of memory_words table_words
  tables_form =
      both_true _ _ (table_flags (get_or m.tables 0 no_table))
      (both_true _ _ (table_flags (get_or m.tables 1 no_table))
      (both_true _ _ (table_flags (get_or m.tables 2 no_table))
      (both_true _ _ (table_flags (get_or m.tables 3 no_table))
      (both_true _ _ (table_flags (get_or m.tables 4 no_table))
      (both_true _ _ (table_flags (get_or m.tables 5 no_table))
      (both_true _ _ (table_flags (get_or m.tables 6 no_table))
      (both_true _ _ (table_flags (get_or m.tables 7 no_table)) refl)))))))

  segments_form : all_at flag_at segment_length (words_of (placed m) ++ r) segments_at 8 ≡ true
  unfolding all_at words_of rows_of memory_words table_words segment_words
  segments_form =
      both_true _ _ (yes_flag (is_extern (get_or m.segments 0 no_segment).ty))
      (both_true _ _ (yes_flag (is_extern (get_or m.segments 1 no_segment).ty))
      (both_true _ _ (yes_flag (is_extern (get_or m.segments 2 no_segment).ty))
      (both_true _ _ (yes_flag (is_extern (get_or m.segments 3 no_segment).ty))
      (both_true _ _ (yes_flag (is_extern (get_or m.segments 4 no_segment).ty))
      (both_true _ _ (yes_flag (is_extern (get_or m.segments 5 no_segment).ty))
      (both_true _ _ (yes_flag (is_extern (get_or m.segments 6 no_segment).ty))
      (both_true _ _ (yes_flag (is_extern (get_or m.segments 7 no_segment).ty)) refl)))))))

  fuel_form : Shaped m → fuel_in_form (words_of (placed m) ++ r) ≡ true
  unfolding fuel_in_form words_of rows_of memory_words table_words segment_words count_words fuel_words
  fuel_form s =
      both_true _ _ (yes_flag m.fuel.enabled)
      (both_true _ _ (lt-ltb _ _ s.fits.copied) (both_true _ _ (lt-ltb _ _ s.fits.translated) (lt-ltb _ _ s.fits.validated)))

  script_form : ((i : ℕ) → get_or m.limiter.script i 0 ≤ 2) → all_at answer_at 1 (words_of (placed m) ++ r) script_at 16 ≡ true
  unfolding all_at words_of rows_of memory_words table_words segment_words count_words fuel_words place_words
  script_form h =
      both_true _ _ (le-leb _ _ (h 0))
      (both_true _ _ (le-leb _ _ (h 1))
      (both_true _ _ (le-leb _ _ (h 2))
      (both_true _ _ (le-leb _ _ (h 3))
      (both_true _ _ (le-leb _ _ (h 4))
      (both_true _ _ (le-leb _ _ (h 5))
      (both_true _ _ (le-leb _ _ (h 6))
      (both_true _ _ (le-leb _ _ (h 7))
      (both_true _ _ (le-leb _ _ (h 8))
      (both_true _ _ (le-leb _ _ (h 9))
      (both_true _ _ (le-leb _ _ (h 10))
      (both_true _ _ (le-leb _ _ (h 11))
      (both_true _ _ (le-leb _ _ (h 12))
      (both_true _ _ (le-leb _ _ (h 13))
      (both_true _ _ (le-leb _ _ (h 14))
      (both_true _ _ (le-leb _ _ (h 15)) refl)))))))))))))))

-- a row that a machine's words were put to is in form
pub put_form : (m : Machine) (l : List ℕ) → Shaped m → ((i : ℕ) → get_or m.limiter.script i 0 ≤ 2) → row_length ≤ length l
    → in_form (over l 0 (words_of m)) ≡ true
unfolding in_form over
put_form m l s h n =
    let rest = drop (0 + length (words_of m)) l in
    let long : length (over l 0 (words_of m)) ≡ length l = length_over l 0 (words_of m) (omega (arith, n, words_length m s)) in
    let same : length (words_of (placed m) ++ rest) ≡ length (words_of m ++ rest) = ap (λ (k : Machine). length (words_of k ++ rest)) (placed_same m s) in
    let row : row_length ≤ length (words_of (placed m) ++ rest) = omega (arith, n, long, same) in
    sym (ap (λ (k : Machine). in_form (words_of k ++ rest)) (placed_same m s))
    ∙ both_true _ _ (le-leb row_length (length (words_of (placed m) ++ rest)) row)
    (both_true _ _ (memories_form m rest)
    (both_true _ _ (tables_form m rest)
    (both_true _ _ (segments_form m rest) (both_true _ _ (fuel_form m rest s) (script_form m rest h)))))
