-- Document 01, "The machine", in place: its records, fuel and limiter as a row of 64-bit words that whoever runs it lends, and when a row is in form.
use Rattle.std.specs.Prelude.{ℕ, zero, suc, ◌+◌, ◌*◌, ◌%◌, Bool, true, false, List, [], ◌∷◌, ◌++◌, eqb, leb, ltb, length, get_or}
use Rattle.types.specs.Names.{word8, word32, both, is64, index_of, longest_script, Fuel, Limiter, Limits, PageSize, RefType}
use Rattle.memory.specs.Names.{Memory}
use Rattle.table.specs.Names.{Table, ElementSegment}
use Rattle.machine.specs.{Machine.capacity}
use Rattle.machine.specs.declared.{records.Machine.Machine, records.Counts.Counts}

-- the words of a record of a memory or table
abbrev pub record_length : ℕ
record_length = 8

-- the words of a record of a segment
abbrev pub segment_length : ℕ
segment_length = 4

-- a row starts with the memories; tables come after them
abbrev pub tables_at : ℕ
tables_at = capacity * record_length

-- segments come after the tables
abbrev pub segments_at : ℕ
segments_at = tables_at + capacity * record_length

-- the numbers in use come after the segments
abbrev pub counts_at : ℕ
counts_at = segments_at + capacity * segment_length

-- fuel comes after the three counts
abbrev pub fuel_at : ℕ
fuel_at = counts_at + 3

-- the limiter's count and place come after the five words of fuel
abbrev pub limiter_at : ℕ
limiter_at = fuel_at + 5

-- its script's answers come last
abbrev pub script_at : ℕ
script_at = limiter_at + 2

-- how many words a row has
abbrev pub row_length : ℕ
row_length = script_at + longest_script

-- a yes is 1, a no 0
abbrev pub yes_word : Bool → ℕ
yes_word true = 1
yes_word false = 0

-- read back, any other word than 1 is a no
abbrev pub says_yes : ℕ → Bool
says_yes n = eqb n 1

-- pages of 64 KiB are a yes, and so are 64-bit indexes
abbrev pub is_wasm : PageSize → Bool
is_wasm PageSize.One = false
is_wasm PageSize.Wasm = true

-- the page size that a flag says
abbrev pub page_of : Bool → PageSize
page_of false = PageSize.One
page_of true = PageSize.Wasm

-- external references are a yes
abbrev pub is_extern : RefType → Bool
is_extern RefType.Func = false
is_extern RefType.Extern = true

-- the kind of reference that a flag says
abbrev pub element_of : Bool → RefType
element_of false = RefType.Func
element_of true = RefType.Extern

-- a memory's words, in this order
unfoldable pub memory_words : Memory → List ℕ
memory_words r =
    yes_word (is64 r.ty.index) ∷ yes_word (is_wasm r.ty.page) ∷ r.ty.limits.minimum
    ∷ yes_word r.ty.limits.bounded ∷ r.ty.limits.maximum ∷ r.start ∷ r.room ∷ r.size ∷ []

-- a table's words
unfoldable pub table_words : Table → List ℕ
table_words r =
    yes_word (is_extern r.ty.element) ∷ yes_word (is64 r.ty.index) ∷ r.ty.limits.minimum
    ∷ yes_word r.ty.limits.bounded ∷ r.ty.limits.maximum ∷ r.start ∷ r.room ∷ r.size ∷ []

-- a segment's words
unfoldable pub segment_words : ElementSegment → List ℕ
segment_words r = yes_word (is_extern r.ty) ∷ r.start ∷ r.places ∷ r.size ∷ []

-- how many of each kind are in use
unfoldable pub count_words : Counts → List ℕ
count_words k = k.memories ∷ k.tables ∷ k.segments ∷ []

-- fuel's words
unfoldable pub fuel_words : Fuel → List ℕ
fuel_words f = f.remaining ∷ yes_word f.enabled ∷ f.costs.copied ∷ f.costs.translated ∷ f.costs.validated ∷ []

-- the limiter's count and place
unfoldable pub place_words : Limiter → List ℕ
place_words k = k.count ∷ k.at ∷ []

-- the words of records, one after another
unfoldable pub rows_of : {A : Type 0} → (A → List ℕ) → List A → List ℕ
rows_of f [] = []
rows_of f (x ∷ xs) = f x ++ rows_of f xs

-- a machine's records by number, used or not
abbrev pub instance_words : Machine → List ℕ
instance_words m = (rows_of memory_words m.memories ++ rows_of table_words m.tables) ++ rows_of segment_words m.segments

-- counts, fuel, and the place in the script
abbrev pub standing_words : Counts → Fuel → Limiter → List ℕ
standing_words k f p = (count_words k ++ fuel_words f) ++ place_words p

-- and the script's answers
abbrev pub state_words : Counts → Fuel → Limiter → List ℕ
state_words k f p = standing_words k f p ++ p.script

-- a machine's words: its records, then counts, fuel and limiter, whose script comes last
unfoldable pub words_of : Machine → List ℕ
words_of m = instance_words m ++ state_words m.counts m.fuel m.limiter

-- the limits at a place of a row
unfoldable pub limits_from : List ℕ → ℕ → Limits
limits_from l a = record { minimum = get_or l a 0; bounded = says_yes (get_or l (a + 1) 0); maximum = get_or l (a + 2) 0 }

-- the memory at a place
unfoldable pub memory_from : List ℕ → ℕ → Memory
memory_from l a =
    record {
      ty = record { index = index_of (says_yes (get_or l a 0)); page = page_of (says_yes (get_or l (a + 1) 0)); limits = limits_from l (a + 2) };
      start = get_or l (a + 5) 0;
      room = get_or l (a + 6) 0;
      size = get_or l (a + 7) 0;
    }

-- the table at a place
unfoldable pub table_from : List ℕ → ℕ → Table
table_from l a =
    record {
      ty = record { element = element_of (says_yes (get_or l a 0)); index = index_of (says_yes (get_or l (a + 1) 0)); limits = limits_from l (a + 2) };
      start = get_or l (a + 5) 0;
      room = get_or l (a + 6) 0;
      size = get_or l (a + 7) 0;
    }

-- the segment at a place
unfoldable pub segment_from : List ℕ → ℕ → ElementSegment
segment_from l a =
    record { ty = element_of (says_yes (get_or l a 0)); start = get_or l (a + 1) 0; places = get_or l (a + 2) 0; size = get_or l (a + 3) 0 }

-- n records of w words each, from a place on
unfoldable pub records_from : {A : Type 0} → (List ℕ → ℕ → A) → ℕ → List ℕ → ℕ → ℕ → List A
records_from f w l a zero = []
records_from f w l a (suc n) = f l a ∷ records_from f w l (a + w) n

-- a cost has 32 bits: of a larger word the low ones are read
abbrev pub cost_from : ℕ → ℕ
cost_from n = n % word32

-- an answer of the script has 8
abbrev pub answer_from : ℕ → ℕ
answer_from n = n % word8

-- the numbers in use
unfoldable pub counts_from : List ℕ → Counts
counts_from l = record { memories = get_or l counts_at 0; tables = get_or l (counts_at + 1) 0; segments = get_or l (counts_at + 2) 0 }

-- the fuel of a row
unfoldable pub fuel_from : List ℕ → Fuel
fuel_from l =
    record {
      remaining = get_or l fuel_at 0;
      enabled = says_yes (get_or l (fuel_at + 1) 0);
      costs = record { copied = cost_from (get_or l (fuel_at + 2) 0); translated = cost_from (get_or l (fuel_at + 3) 0); validated = cost_from (get_or l (fuel_at + 4) 0) };
    }

-- the limiter of a row
unfoldable pub limiter_from : List ℕ → Limiter
limiter_from l =
    record {
      script = records_from (λ (k : List ℕ) a. answer_from (get_or k a 0)) 1 l script_at longest_script;
      count = get_or l limiter_at 0;
      at = get_or l (limiter_at + 1) 0;
    }

-- the machine of a row, of any row
abbrev pub machine_from : List ℕ → Machine
machine_from l =
    record {
      memories = records_from memory_from record_length l 0 capacity;
      tables = records_from table_from record_length l tables_at capacity;
      segments = records_from segment_from segment_length l segments_at capacity;
      counts = counts_from l;
      fuel = fuel_from l;
      limiter = limiter_from l;
    }

-- a test holds at n places, each w words after the last
unfoldable pub all_at : (List ℕ → ℕ → Bool) → ℕ → List ℕ → ℕ → ℕ → Bool
all_at t w l a zero = true
all_at t w l a (suc n) = both (t l a) (all_at t w l (a + w) n)

-- a word that says yes or no
abbrev pub flag_at : List ℕ → ℕ → Bool
flag_at l a = leb (get_or l a 0) 1

-- a cost has 32 bits
abbrev pub cost_at : List ℕ → ℕ → Bool
cost_at l a = ltb (get_or l a 0) word32

-- the script answers 0, 1 or 2
abbrev pub answer_at : List ℕ → ℕ → Bool
answer_at l a = leb (get_or l a 0) 2

-- a memory's or table's record has three such flags, at the same places
unfoldable pub record_in_form : List ℕ → ℕ → Bool
record_in_form l a = both (flag_at l a) (both (flag_at l (a + 1)) (flag_at l (a + 3)))

-- fuel's flag and its three costs
unfoldable pub fuel_in_form : List ℕ → Bool
fuel_in_form l = both (flag_at l (fuel_at + 1)) (both (cost_at l (fuel_at + 2)) (both (cost_at l (fuel_at + 3)) (cost_at l (fuel_at + 4))))

-- a row is in form where it is long enough, each flag is 0 or 1, each cost below 2^32, and each answer of the script at most 2
unfoldable pub in_form : List ℕ → Bool
in_form l =
    both (leb row_length (length l))
    (both (all_at record_in_form record_length l 0 capacity)
    (both (all_at record_in_form record_length l tables_at capacity)
    (both (all_at flag_at segment_length l segments_at capacity) (both (fuel_in_form l) (all_at answer_at 1 l script_at longest_script)))))
