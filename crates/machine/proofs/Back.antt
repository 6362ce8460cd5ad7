-- A machine's words say that machine, and the machine of any row has a machine's shape. Assumes nothing.
use Rattle.types.proofs.Prelude.{ℕ, zero, suc, ◌+◌, ◌%◌, ◌<◌, ◌≡◌, refl, sym, ap, ◌∙◌, Bool, true, false, List, [], ◌∷◌, ◌++◌, append-nil, arith, length, get_or}
use Rattle.types.proofs.Prelude.{drop, replicate}
use Rattle.types.specs.{Span.over, Limiter.no_limiter, declared.fuel.FuelCosts.FuelCosts, IndexType.is64, IndexType.index_of}
use Rattle.types.specs.{declared.index_ty.IndexType.IndexType, declared.index_ty.IndexType.TheVariants.I32, declared.index_ty.IndexType.TheVariants.I64}
use Rattle.types.specs.{declared.memory_ty.PageSize.PageSize, declared.memory_ty.PageSize.TheVariants.One, declared.memory_ty.PageSize.TheVariants.Wasm}
use Rattle.types.specs.{declared.raw.RefType.RefType, declared.raw.RefType.TheVariants.Func, declared.raw.RefType.TheVariants.Extern}
use Rattle.memory.specs.declared.memory.Memory.{Memory}
use Rattle.table.specs.{declared.table.Table.Table, declared.element.ElementSegment.ElementSegment}
use Rattle.machine.proofs.{Rows.join, Places.records_length}
use Rattle.machine.specs.Words.{record_length, segment_length, tables_at, segments_at, fuel_at, script_at}
use Rattle.machine.specs.{Machine.no_memory, Machine.no_table, Machine.no_segment, Machine.fresh_machine, declared.records.Machine.Machine}
use Rattle.machine.specs.Words.{row_length, yes_word, says_yes, is_wasm, page_of, is_extern, element_of, rows_of, words_of}
use Rattle.machine.specs.Words.{memory_words, table_words, segment_words, count_words, fuel_words, place_words}
use Rattle.machine.specs.Words.{limits_from, memory_from, table_from, segment_from, records_from, counts_from, cost_from, answer_from, fuel_from, limiter_from, machine_from}
use Rattle.machine.specs.stages.Rows.{Shaped}

-- a yes or no, an index type, a page size and an element kind come back
yes_back : (b : Bool) → says_yes (yes_word b) ≡ b
yes_back true = refl
yes_back false = refl

index_back : (i : IndexType) → index_of (says_yes (yes_word (is64 i))) ≡ i
index_back I32 = refl
index_back I64 = refl

page_back : (p : PageSize) → page_of (says_yes (yes_word (is_wasm p))) ≡ p
page_back One = refl
page_back Wasm = refl

element_back : (k : RefType) → element_of (says_yes (yes_word (is_extern k))) ≡ k
element_back Func = refl
element_back Extern = refl

-- one record's words
pub memory_back_lem : (r : Memory) → memory_from (memory_words r) 0 ≡ r
unfolding memory_from limits_from memory_words
memory_back_lem r = rw (index_back r.ty.index, page_back r.ty.page, yes_back r.ty.limits.bounded) refl

pub table_back_lem : (r : Table) → table_from (table_words r) 0 ≡ r
unfolding table_from limits_from table_words
table_back_lem r = rw (element_back r.ty.element, index_back r.ty.index, yes_back r.ty.limits.bounded) refl

pub segment_back : (r : ElementSegment) → segment_from (segment_words r) 0 ≡ r
unfolding segment_from segment_words
segment_back r = rw (element_back r.ty) refl

cost_back : (n : ℕ) → n < 4294967296 → cost_from n ≡ n
cost_back n h = omega (arith, h)

answer_back : (n : ℕ) → n < 256 → answer_from n ≡ n
answer_back n h = omega (arith, h)

-- a list of 8 or of 16, place by place
abbrev pub eight_of : {A : Type 0} → A → List A → List A
eight_of d xs = get_or xs 0 d ∷ get_or xs 1 d ∷ get_or xs 2 d ∷ get_or xs 3 d ∷ get_or xs 4 d ∷ get_or xs 5 d ∷ get_or xs 6 d ∷ get_or xs 7 d ∷ []

eight : {A : Type 0} (d : A) (xs : List A) → length xs ≡ 8 → eight_of d xs ≡ xs
eight d [] e = absurd (omega (arith, e))
eight d (x0 ∷ []) e = absurd (omega (arith, e))
eight d (x0 ∷ x1 ∷ []) e = absurd (omega (arith, e))
eight d (x0 ∷ x1 ∷ x2 ∷ []) e = absurd (omega (arith, e))
eight d (x0 ∷ x1 ∷ x2 ∷ x3 ∷ []) e = absurd (omega (arith, e))
eight d (x0 ∷ x1 ∷ x2 ∷ x3 ∷ x4 ∷ []) e = absurd (omega (arith, e))
eight d (x0 ∷ x1 ∷ x2 ∷ x3 ∷ x4 ∷ x5 ∷ []) e = absurd (omega (arith, e))
eight d (x0 ∷ x1 ∷ x2 ∷ x3 ∷ x4 ∷ x5 ∷ x6 ∷ []) e = absurd (omega (arith, e))
eight d (x0 ∷ x1 ∷ x2 ∷ x3 ∷ x4 ∷ x5 ∷ x6 ∷ x7 ∷ []) e = refl
eight d (x0 ∷ x1 ∷ x2 ∷ x3 ∷ x4 ∷ x5 ∷ x6 ∷ x7 ∷ x8 ∷ xs) e = absurd (omega (arith, e))

abbrev pub sixteen_of : ℕ → List ℕ → List ℕ
sixteen_of d xs =
    get_or xs 0 d ∷ get_or xs 1 d ∷ get_or xs 2 d ∷ get_or xs 3 d ∷ get_or xs 4 d ∷ get_or xs 5 d ∷ get_or xs 6 d ∷ get_or xs 7 d
    ∷ get_or xs 8 d ∷ get_or xs 9 d ∷ get_or xs 10 d ∷ get_or xs 11 d ∷ get_or xs 12 d ∷ get_or xs 13 d ∷ get_or xs 14 d ∷ get_or xs 15 d ∷ []

sixteen : (d : ℕ) (xs : List ℕ) → length xs ≡ 16 → sixteen_of d xs ≡ xs
sixteen d [] e = absurd (omega (arith, e))
sixteen d (x0 ∷ []) e = absurd (omega (arith, e))
sixteen d (x0 ∷ x1 ∷ []) e = absurd (omega (arith, e))
sixteen d (x0 ∷ x1 ∷ x2 ∷ []) e = absurd (omega (arith, e))
sixteen d (x0 ∷ x1 ∷ x2 ∷ x3 ∷ []) e = absurd (omega (arith, e))
sixteen d (x0 ∷ x1 ∷ x2 ∷ x3 ∷ x4 ∷ []) e = absurd (omega (arith, e))
sixteen d (x0 ∷ x1 ∷ x2 ∷ x3 ∷ x4 ∷ x5 ∷ []) e = absurd (omega (arith, e))
sixteen d (x0 ∷ x1 ∷ x2 ∷ x3 ∷ x4 ∷ x5 ∷ x6 ∷ []) e = absurd (omega (arith, e))
sixteen d (x0 ∷ x1 ∷ x2 ∷ x3 ∷ x4 ∷ x5 ∷ x6 ∷ x7 ∷ []) e = absurd (omega (arith, e))
sixteen d (x0 ∷ x1 ∷ x2 ∷ x3 ∷ x4 ∷ x5 ∷ x6 ∷ x7 ∷ x8 ∷ []) e = absurd (omega (arith, e))
sixteen d (x0 ∷ x1 ∷ x2 ∷ x3 ∷ x4 ∷ x5 ∷ x6 ∷ x7 ∷ x8 ∷ x9 ∷ []) e = absurd (omega (arith, e))
sixteen d (x0 ∷ x1 ∷ x2 ∷ x3 ∷ x4 ∷ x5 ∷ x6 ∷ x7 ∷ x8 ∷ x9 ∷ x10 ∷ []) e = absurd (omega (arith, e))
sixteen d (x0 ∷ x1 ∷ x2 ∷ x3 ∷ x4 ∷ x5 ∷ x6 ∷ x7 ∷ x8 ∷ x9 ∷ x10 ∷ x11 ∷ []) e = absurd (omega (arith, e))
sixteen d (x0 ∷ x1 ∷ x2 ∷ x3 ∷ x4 ∷ x5 ∷ x6 ∷ x7 ∷ x8 ∷ x9 ∷ x10 ∷ x11 ∷ x12 ∷ []) e = absurd (omega (arith, e))
sixteen d (x0 ∷ x1 ∷ x2 ∷ x3 ∷ x4 ∷ x5 ∷ x6 ∷ x7 ∷ x8 ∷ x9 ∷ x10 ∷ x11 ∷ x12 ∷ x13 ∷ []) e = absurd (omega (arith, e))
sixteen d (x0 ∷ x1 ∷ x2 ∷ x3 ∷ x4 ∷ x5 ∷ x6 ∷ x7 ∷ x8 ∷ x9 ∷ x10 ∷ x11 ∷ x12 ∷ x13 ∷ x14 ∷ []) e = absurd (omega (arith, e))
sixteen d (x0 ∷ x1 ∷ x2 ∷ x3 ∷ x4 ∷ x5 ∷ x6 ∷ x7 ∷ x8 ∷ x9 ∷ x10 ∷ x11 ∷ x12 ∷ x13 ∷ x14 ∷ x15 ∷ []) e = refl
sixteen d (x0 ∷ x1 ∷ x2 ∷ x3 ∷ x4 ∷ x5 ∷ x6 ∷ x7 ∷ x8 ∷ x9 ∷ x10 ∷ x11 ∷ x12 ∷ x13 ∷ x14 ∷ x15 ∷ x16 ∷ xs) e = absurd (omega (arith, e))

-- the same machine, its lists place by place
abbrev pub placed : Machine → Machine
placed m =
    record {
      memories = eight_of no_memory m.memories;
      tables = eight_of no_table m.tables;
      segments = eight_of no_segment m.segments;
      counts = m.counts;
      fuel = m.fuel;
      limiter = record { script = sixteen_of 0 m.limiter.script; count = m.limiter.count; at = m.limiter.at };
    }

pub placed_same : (m : Machine) → Shaped m → placed m ≡ m
placed_same m h =
    let a = eight no_memory m.memories h.memories in
    let b = eight no_table m.tables h.tables in
    let d = eight no_segment m.segments h.segments in
    rw (a, b, d, sixteen 0 m.limiter.script h.fits.script) refl

module _ (m : Machine) (r : List ℕ) where
  memories_back : (machine_from (words_of (placed m) ++ r)).memories ≡ eight_of no_memory m.memories
  unfolding records_from memory_from limits_from words_of rows_of memory_words
  memories_back =
      join (memory_back_lem (get_or m.memories 0 no_memory))
      (join (memory_back_lem (get_or m.memories 1 no_memory))
      (join (memory_back_lem (get_or m.memories 2 no_memory))
      (join (memory_back_lem (get_or m.memories 3 no_memory))
      (join (memory_back_lem (get_or m.memories 4 no_memory))
      (join (memory_back_lem (get_or m.memories 5 no_memory))
      (join (memory_back_lem (get_or m.memories 6 no_memory))
      (join (memory_back_lem (get_or m.memories 7 no_memory)) refl)))))))

  tables_back : (machine_from (words_of (placed m) ++ r)).tables ≡ eight_of no_table m.tables
  unfolding records_from table_from limits_from words_of rows_of memory_words table_words
  tables_back =
      join (table_back_lem (get_or m.tables 0 no_table))
      (join (table_back_lem (get_or m.tables 1 no_table))
      (join (table_back_lem (get_or m.tables 2 no_table))
      (join (table_back_lem (get_or m.tables 3 no_table))
      (join (table_back_lem (get_or m.tables 4 no_table))
      (join (table_back_lem (get_or m.tables 5 no_table))
      (join (table_back_lem (get_or m.tables 6 no_table))
      (join (table_back_lem (get_or m.tables 7 no_table)) refl)))))))

  segments_back : (machine_from (words_of (placed m) ++ r)).segments ≡ eight_of no_segment m.segments
  unfolding records_from segment_from words_of rows_of memory_words table_words segment_words
  segments_back =
      join (segment_back (get_or m.segments 0 no_segment))
      (join (segment_back (get_or m.segments 1 no_segment))
      (join (segment_back (get_or m.segments 2 no_segment))
      (join (segment_back (get_or m.segments 3 no_segment))
      (join (segment_back (get_or m.segments 4 no_segment))
      (join (segment_back (get_or m.segments 5 no_segment))
      (join (segment_back (get_or m.segments 6 no_segment))
      (join (segment_back (get_or m.segments 7 no_segment)) refl)))))))

  counts_back : counts_from (words_of (placed m) ++ r) ≡ m.counts
  unfolding counts_from words_of rows_of memory_words table_words segment_words count_words
  counts_back = refl

  module _ (h : Shaped m) where
    fuel_back : fuel_from (words_of (placed m) ++ r) ≡ m.fuel
    unfolding fuel_from words_of rows_of memory_words table_words segment_words count_words fuel_words
    fuel_back =
        rw (yes_back m.fuel.enabled, cost_back _ h.fits.copied, cost_back _ h.fits.translated, cost_back _ h.fits.validated) refl

    script_back : (limiter_from (words_of (placed m) ++ r)).script ≡ sixteen_of 0 m.limiter.script
    unfolding limiter_from records_from words_of rows_of memory_words table_words segment_words count_words fuel_words place_words
    script_back =
        join (answer_back _ (h.fits.answers 0))
        (join (answer_back _ (h.fits.answers 1))
        (join (answer_back _ (h.fits.answers 2))
        (join (answer_back _ (h.fits.answers 3))
        (join (answer_back _ (h.fits.answers 4))
        (join (answer_back _ (h.fits.answers 5))
        (join (answer_back _ (h.fits.answers 6))
        (join (answer_back _ (h.fits.answers 7))
        (join (answer_back _ (h.fits.answers 8))
        (join (answer_back _ (h.fits.answers 9))
        (join (answer_back _ (h.fits.answers 10))
        (join (answer_back _ (h.fits.answers 11))
        (join (answer_back _ (h.fits.answers 12))
        (join (answer_back _ (h.fits.answers 13))
        (join (answer_back _ (h.fits.answers 14))
        (join (answer_back _ (h.fits.answers 15)) refl)))))))))))))))

    limiter_back : limiter_from (words_of (placed m) ++ r) ≡ (placed m).limiter
    unfolding limiter_from words_of rows_of memory_words table_words segment_words count_words fuel_words place_words
    limiter_back = rw script_back refl

    -- a machine's words say that machine, whatever follows them
    pub words_back : machine_from (words_of m ++ r) ≡ m
    words_back =
        let e = placed_same m h in
        let f : machine_from (words_of (placed m) ++ r) ≡ placed m = rw (memories_back, tables_back, segments_back, counts_back, fuel_back, limiter_back) refl in
        ap (λ (k : Machine). machine_from (words_of k ++ r)) (sym e) ∙ f ∙ e

pub words_alone : (m : Machine) → Shaped m → machine_from (words_of m) ≡ m
words_alone m h = ap machine_from (sym (append-nil (words_of m))) ∙ words_back m [] h

pub words_length : (m : Machine) → Shaped m → length (words_of m) ≡ row_length
unfolding words_of rows_of memory_words table_words segment_words count_words fuel_words place_words
words_length m h =
    let e : length (words_of (placed m)) ≡ row_length = refl in
    ap (λ (k : Machine). length (words_of k)) (sym (placed_same m h)) ∙ e

zeros : (n i : ℕ) → get_or (replicate n 0) i 0 < 256
zeros zero i = omega arith
zeros (suc n) zero = omega arith
zeros (suc n) (suc i) = zeros n i

pub fresh_shaped : (metering : Bool) (costs : FuelCosts) → costs.copied < 4294967296 → costs.translated < 4294967296 → costs.validated < 4294967296
    → Shaped (fresh_machine metering costs)
unfolding fresh_machine no_limiter
fresh_shaped metering costs a b d =
    record {
      memories = refl;
      tables = refl;
      segments = refl;
      fits = record { script = refl; copied = a; translated = b; validated = d; answers = λ i. zeros 16 i };
    }

-- a row that a machine's words were put to says that machine
pub row_back : (m : Machine) (l : List ℕ) → Shaped m → machine_from (over l 0 (words_of m)) ≡ m
unfolding over
row_back m l h = words_back m (drop (0 + length (words_of m)) l) h

-- the machine of any row has the shape of a machine
low_cost : (n : ℕ) → n % 4294967296 < 4294967296
low_cost n = omega arith

low_answers : (l : List ℕ) (a n i : ℕ) → get_or (records_from (λ (k : List ℕ) b. answer_from (get_or k b 0)) 1 l a n) i 0 < 256
unfolding records_from
low_answers l a zero i = omega arith
low_answers l a (suc n) zero = omega arith
low_answers l a (suc n) (suc i) = low_answers l (a + 1) n i

pub shaped_from : (l : List ℕ) → Shaped (machine_from l)
unfolding fuel_from limiter_from
shaped_from l =
    record {
      memories = records_length memory_from record_length l 0 8;
      tables = records_length table_from record_length l tables_at 8;
      segments = records_length segment_from segment_length l segments_at 8;
      fits = record {
        script = records_length (λ (k : List ℕ) a. answer_from (get_or k a 0)) 1 l script_at 16;
        copied = low_cost (get_or l (fuel_at + 2) 0);
        translated = low_cost (get_or l (fuel_at + 3) 0);
        validated = low_cost (get_or l (fuel_at + 4) 0);
        answers = low_answers l script_at 16;
      };
    }
