-- A row in form holds the words of the machine that it says. Assumes nothing.
use Rattle.types.proofs.Prelude.{ℕ, zero, suc, ◌+◌, ◌^◌, ◌≤◌, ◌<◌, ◌≡◌, refl, sym, ap, ◌∙◌, true, List, [], ◌∷◌, ◌++◌, arith, length, get_or, leb-true, ltb-true}
use Rattle.types.proofs.Prelude.{both_1, both_2}
use Rattle.types.specs.{Span.over, Span.cut, IndexType.is64, IndexType.index_of}
use Rattle.machine.specs.Words.{record_length, segment_length, tables_at, segments_at, counts_at, fuel_at, limiter_at, script_at, row_length}
use Rattle.machine.specs.Words.{yes_word, says_yes, is_wasm, page_of, is_extern, element_of, words_of}
use Rattle.machine.specs.Words.{memory_words, table_words, segment_words, count_words, fuel_words, place_words}
use Rattle.machine.specs.Words.{limits_from, memory_from, table_from, segment_from, records_from, counts_from, cost_from, answer_from, fuel_from, limiter_from, machine_from}
use Rattle.machine.specs.{Words.all_at, Words.flag_at, Words.cost_at, Words.answer_at, Words.record_in_form, Words.fuel_in_form, Words.in_form, stages.Rows.Holds}
use Rattle.machine.proofs.{Rows.join, Places.cut_add, Places.cut_next, Places.cut_nothing, Places.over_cut, Places.rows_cut}

-- a flag comes back, whatever it says
flag_word : (n : ℕ) → n ≤ 1 → yes_word (says_yes n) ≡ n
flag_word zero h = refl
flag_word (suc zero) h = refl
flag_word (suc (suc n)) h = absurd (omega (arith, h))

wide_word : (n : ℕ) → n ≤ 1 → yes_word (is64 (index_of (says_yes n))) ≡ n
wide_word zero h = refl
wide_word (suc zero) h = refl
wide_word (suc (suc n)) h = absurd (omega (arith, h))

page_word : (n : ℕ) → n ≤ 1 → yes_word (is_wasm (page_of (says_yes n))) ≡ n
page_word zero h = refl
page_word (suc zero) h = refl
page_word (suc (suc n)) h = absurd (omega (arith, h))

element_word : (n : ℕ) → n ≤ 1 → yes_word (is_extern (element_of (says_yes n))) ≡ n
element_word zero h = refl
element_word (suc zero) h = refl
element_word (suc (suc n)) h = absurd (omega (arith, h))

module _ (l : List ℕ) where
  -- the words from a place on, one by one
  three : (a : ℕ) → a + 3 ≤ length l → cut l a 3 ≡ get_or l a 0 ∷ get_or l (a + 1) 0 ∷ get_or l (a + 2) 0 ∷ []
  three a h =
      cut_next l a 2 (a + 1) (omega (arith, h)) refl
      ∙ ap (λ (z : List ℕ). get_or l a 0 ∷ z) (cut_next l (a + 1) 1 (a + 2) (omega (arith, h)) (omega arith)
      ∙ ap (λ (z : List ℕ). get_or l (a + 1) 0 ∷ z) (cut_next l (a + 2) 0 (a + 3) (omega (arith, h)) (omega arith)
      ∙ ap (λ (z : List ℕ). get_or l (a + 2) 0 ∷ z) (cut_nothing l (a + 3))))

  two : (a : ℕ) → a + 2 ≤ length l → cut l a 2 ≡ get_or l a 0 ∷ get_or l (a + 1) 0 ∷ []
  two a h =
      cut_next l a 1 (a + 1) (omega (arith, h)) refl
      ∙ ap (λ (z : List ℕ). get_or l a 0 ∷ z) (cut_next l (a + 1) 0 (a + 2) (omega (arith, h)) (omega arith)
      ∙ ap (λ (z : List ℕ). get_or l (a + 1) 0 ∷ z) (cut_nothing l (a + 2)))

  one : (a : ℕ) → a + 1 ≤ length l → cut l a 1 ≡ get_or l a 0 ∷ []
  one a h = cut_next l a 0 (a + 1) (omega (arith, h)) refl ∙ ap (λ (z : List ℕ). get_or l a 0 ∷ z) (cut_nothing l (a + 1))

  four : (a : ℕ) → a + 4 ≤ length l → cut l a 4 ≡ get_or l a 0 ∷ get_or l (a + 1) 0 ∷ get_or l (a + 2) 0 ∷ get_or l (a + 3) 0 ∷ []
  four a h = sym (cut_add l a 3 1) ∙ ap (λ (z : List ℕ). z ++ cut l (a + 3) 1) (three a (omega (arith, h))) ∙ ap (λ (z : List ℕ). get_or l a 0 ∷ get_or l (a + 1) 0 ∷ get_or l (a + 2) 0 ∷ z) (one (a + 3) (omega (arith, h)))

  five : (a : ℕ) → a + 5 ≤ length l → cut l a 5 ≡ get_or l a 0 ∷ get_or l (a + 1) 0 ∷ get_or l (a + 2) 0 ∷ get_or l (a + 3) 0 ∷ get_or l (a + 4) 0 ∷ []
  five a h =
      let e : a + 3 + 1 ≡ a + 4 = omega arith in
      sym (cut_add l a 3 2) ∙ ap (λ (z : List ℕ). z ++ cut l (a + 3) 2) (three a (omega (arith, h)))
      ∙ ap (λ (z : List ℕ). get_or l a 0 ∷ get_or l (a + 1) 0 ∷ get_or l (a + 2) 0 ∷ z) (two (a + 3) (omega (arith, h)) ∙ ap (λ (k : ℕ). get_or l (a + 3) 0 ∷ get_or l k 0 ∷ []) e)

  abbrev eight_from : ℕ → List ℕ
  eight_from a =
      get_or l a 0 ∷ get_or l (a + 1) 0 ∷ get_or l (a + 2) 0 ∷ get_or l (a + 3) 0 ∷ get_or l (a + 4) 0 ∷ get_or l (a + 5) 0 ∷ get_or l (a + 6) 0 ∷ get_or l (a + 7) 0 ∷ []

  eight : (a : ℕ) → a + 8 ≤ length l → cut l a 8 ≡ eight_from a
  eight a h =
      let e : a + 5 + 1 ≡ a + 6 = omega arith in
      let f : a + 5 + 2 ≡ a + 7 = omega arith in
      sym (cut_add l a 5 3) ∙ ap (λ (z : List ℕ). z ++ cut l (a + 5) 3) (five a (omega (arith, h)))
      ∙ ap (λ (z : List ℕ). get_or l a 0 ∷ get_or l (a + 1) 0 ∷ get_or l (a + 2) 0 ∷ get_or l (a + 3) 0 ∷ get_or l (a + 4) 0 ∷ z)
      (three (a + 5) (omega (arith, h)) ∙ ap (λ (k : ℕ). get_or l (a + 5) 0 ∷ get_or l k 0 ∷ get_or l (a + 5 + 2) 0 ∷ []) e
      ∙ ap (λ (k : ℕ). get_or l (a + 5) 0 ∷ get_or l (a + 6) 0 ∷ get_or l k 0 ∷ []) f)

  at : {i j : ℕ} → i ≡ j → get_or l i 0 ≡ get_or l j 0
  at e = ap (λ (k : ℕ). get_or l k 0) e

  -- one record's words
  memory_cut : (a : ℕ) → a + record_length ≤ length l → record_in_form l a ≡ true → memory_words (memory_from l a) ≡ cut l a record_length
  unfolding record_in_form memory_words memory_from limits_from
  memory_cut a h e =
      let f = both_2 (flag_at l a) _ e in
      let first = leb-true _ _ (both_1 (flag_at l a) _ e) in
      let second = leb-true _ _ (both_1 (flag_at l (a + 1)) (flag_at l (a + 3)) f) in
      let fourth = leb-true _ _ (both_2 (flag_at l (a + 1)) (flag_at l (a + 3)) f) in
      join (wide_word (get_or l a 0) first)
      (join (page_word (get_or l (a + 1) 0) second)
      (join refl
      (join (ap (λ (k : ℕ). yes_word (says_yes (get_or l k 0))) (shift a 2 1 3 refl) ∙ flag_word (get_or l (a + 3) 0) fourth)
      (join (at (shift a 2 2 4 refl)) refl))))
      ∙ sym (eight a h)
    where
      shift : (a i j k : ℕ) → k ≡ i + j → a + i + j ≡ a + k
      shift a i j k e = omega (arith, e)

  table_cut : (a : ℕ) → a + record_length ≤ length l → record_in_form l a ≡ true → table_words (table_from l a) ≡ cut l a record_length
  unfolding record_in_form table_words table_from limits_from
  table_cut a h e =
      let f = both_2 (flag_at l a) _ e in
      let first = leb-true _ _ (both_1 (flag_at l a) _ e) in
      let second = leb-true _ _ (both_1 (flag_at l (a + 1)) (flag_at l (a + 3)) f) in
      let fourth = leb-true _ _ (both_2 (flag_at l (a + 1)) (flag_at l (a + 3)) f) in
      join (element_word (get_or l a 0) first)
      (join (wide_word (get_or l (a + 1) 0) second)
      (join refl
      (join (ap (λ (k : ℕ). yes_word (says_yes (get_or l k 0))) (shift a 2 1 3 refl) ∙ flag_word (get_or l (a + 3) 0) fourth)
      (join (at (shift a 2 2 4 refl)) refl))))
      ∙ sym (eight a h)
    where
      shift : (a i j k : ℕ) → k ≡ i + j → a + i + j ≡ a + k
      shift a i j k e = omega (arith, e)

  segment_cut : (a : ℕ) → a + segment_length ≤ length l → flag_at l a ≡ true → segment_words (segment_from l a) ≡ cut l a segment_length
  unfolding segment_words segment_from
  segment_cut a h e = join (element_word (get_or l a 0) (leb-true _ _ e)) refl ∙ sym (four a h)

  counts_cut : counts_at + 3 ≤ length l → count_words (counts_from l) ≡ cut l counts_at 3
  unfolding count_words counts_from
  counts_cut h = sym (three counts_at h)

  cost_word : (n : ℕ) → n < 2 ^ 32 → cost_from n ≡ n
  cost_word n h = omega (arith, h)

  fuel_cut : fuel_at + 5 ≤ length l → fuel_in_form l ≡ true → fuel_words (fuel_from l) ≡ cut l fuel_at 5
  unfolding fuel_in_form fuel_words fuel_from
  fuel_cut h e =
      let f = both_2 (flag_at l (fuel_at + 1)) _ e in
      let g = both_2 (cost_at l (fuel_at + 2)) _ f in
      join refl
      (join (flag_word (get_or l (fuel_at + 1) 0) (leb-true _ _ (both_1 (flag_at l (fuel_at + 1)) _ e)))
      (join (cost_word (get_or l (fuel_at + 2) 0) (ltb-true _ _ (both_1 (cost_at l (fuel_at + 2)) _ f)))
      (join (cost_word (get_or l (fuel_at + 3) 0) (ltb-true _ _ (both_1 (cost_at l (fuel_at + 3)) (cost_at l (fuel_at + 4)) g)))
      (join (cost_word (get_or l (fuel_at + 4) 0) (ltb-true _ _ (both_2 (cost_at l (fuel_at + 3)) (cost_at l (fuel_at + 4)) g))) refl))))
      ∙ sym (five fuel_at h)

  place_cut : limiter_at + 2 ≤ length l → place_words (limiter_from l) ≡ cut l limiter_at 2
  unfolding place_words limiter_from
  place_cut h = sym (two limiter_at h)

  -- the script, word by word
  script_words : (a n : ℕ) → a + n ≤ length l → all_at answer_at 1 l a n ≡ true → records_from (λ (k : List ℕ) b. answer_from (get_or k b 0)) 1 l a n ≡ cut l a n
  unfolding records_from all_at
  script_words a zero h e = sym (cut_nothing l a)
  script_words a (suc n) h e =
      let small : get_or l a 0 ≤ 2 = leb-true (get_or l a 0) 2 (both_1 (answer_at l a) (all_at answer_at 1 l (a + 1) n) e) in
      let low : answer_from (get_or l a 0) ≡ get_or l a 0 = omega (arith, small) in
      join low (script_words (a + 1) n (omega (arith, h)) (both_2 (answer_at l a) (all_at answer_at 1 l (a + 1) n) e))
      ∙ sym (cut_next l a n (a + 1) (omega (arith, h)) refl)

  pub form_long : in_form l ≡ true → row_length ≤ length l
  unfolding in_form
  form_long e = leb-true _ _ (both_1 _ _ e)

  form_words : in_form l ≡ true → words_of (machine_from l) ≡ cut l 0 row_length
  unfolding in_form words_of limiter_from
  form_words e =
      let h : row_length ≤ length l = form_long e in
      let e1 = both_2 _ _ e in
      let e2 = both_2 _ _ e1 in
      let e3 = both_2 _ _ e2 in
      let e4 = both_2 _ _ e3 in
      let mems = rows_cut memory_from memory_words record_in_form record_length l memory_cut 0 8 (omega (arith, h)) (both_1 _ _ e1) in
      let tabs = rows_cut table_from table_words record_in_form record_length l table_cut tables_at 8 (omega (arith, h)) (both_1 _ _ e2) in
      let segs = rows_cut segment_from segment_words flag_at segment_length l segment_cut segments_at 8 (omega (arith, h)) (both_1 _ _ e3) in
      let cnts = counts_cut (omega (arith, h)) in
      let fuel = fuel_cut (omega (arith, h)) (both_1 _ _ e4) in
      let plac = place_cut (omega (arith, h)) in
      let scri = script_words script_at 16 (omega (arith, h)) (both_2 _ _ e4) in
      rw (mems, tabs, segs, cnts, fuel, plac, scri)
      (rw (cut_add l 0 64 64, cut_add l 0 128 32, cut_add l 160 3 5, cut_add l 160 8 2, cut_add l 160 10 16, cut_add l 0 160 26) refl)

  -- a row in form holds the words of its machine: written again, they change nothing
  pub form_holds : in_form l ≡ true → Holds l
  form_holds e = sym (ap (over l 0) (form_words e) ∙ over_cut l row_length (form_long e))
