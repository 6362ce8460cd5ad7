-- On a row in form the two sizes are what the operations 12 and 22 answer, refusals too. Assumes nothing.
use Rattle.types.proofs.Prelude.{ℕ, zero, suc, ◌+◌, ◌*◌, ◌<◌, ◌≡◌, refl, sym, ap, ◌∙◌, Bool, true, List, arith, ltb, length, get_or, ltb-true, le-leb}
use Rattle.types.proofs.Prelude.{pick_true, pick_false, both_1, both_2, either}
use Rattle.types.proofs.Picks.{pick_ap}
use Rattle.types.specs.{Done.Done, Answer.Answer, Answer.accept, Answer.refuse, Pick.unless}
use Rattle.machine.specs.stages.Records.{known, size_by}
use Rattle.machine.specs.declared.records.Counts.{Counts}
use Rattle.machine.specs.{Machine.Buffers, Sound.sound_machine, Sound.sound_over}
use Rattle.machine.specs.{Operation.well_formed, Operation.memory_well_formed, Memories.perform_memory, Memories.on_memory}
use Rattle.machine.specs.{Tables.perform_table, Tables.on_table, Step.Stepped, Step.perform, Step.step}
use Rattle.machine.specs.Words.{record_length, tables_at, row_length, machine_from, all_at, record_in_form, in_form}
use Rattle.machine.specs.{Row.if_sound, Row.row_pages, Row.row_cells, declared.records.Machine.Machine, declared.outcome.Outcome.Outcome}
use Rattle.machine.specs.declared.operation.Operation.{Operation}
use Rattle.machine.proofs.{Formed.form_long, Rooms.memories_few, Rooms.tables_few, Settling.goes, Settling.unsound_stops}
use Rattle.machine.specs.declared.operation.Operation.TheVariants as op
use Rattle.machine.specs.declared.operation.MemoryOp.TheVariants as memory
use Rattle.machine.specs.declared.operation.TableOp.TheVariants as table

-- the size of a record in use, of any kind
pub size_known : {A : Type 0} (size : A → ℕ) (used : Counts → ℕ) (form : List ℕ → ℕ → Bool) (place width : ℕ) (listed : Machine → List A) (none : A) (l : List ℕ) (bytes cells items i : ℕ)
    → size_by size (known used form place width listed none l bytes cells items i)
    ≡ if_sound l bytes cells items
    (unless (ltb i (used (machine_from l).counts)) (refuse 16 0)
    (unless (form l (place + width * i)) (refuse 19 0) (accept (size (get_or (listed (machine_from l)) i none)))))
unfolding known size_by if_sound
size_known size used form place width listed none l bytes cells items i = simp (pick_ap (size_by size)) refl

-- a test that holds at some places holds at each of them
all_each : (t : List ℕ → ℕ → Bool) (w : ℕ) (l : List ℕ) (a n i p : ℕ) → i < n → p ≡ a + w * i → all_at t w l a n ≡ true → t l p ≡ true
unfolding all_at
all_each t w l a zero i p h q e = absurd (omega (arith, h))
all_each t w l a (suc n) zero p h q e =
    let z : p ≡ a = omega (arith, q) in
    ap (t l) z ∙ both_1 _ _ e
all_each t w l a (suc n) (suc i) p h q e =
    let z : p ≡ a + w + w * i = omega (arith, q) in
    all_each t w l (a + w) n i p (omega (arith, h)) z (both_2 _ _ e)

-- a number in use has one of the 8 places
pub memory_place : (m : Machine) (bytes cells items i : ℕ) → sound_machine m bytes cells items ≡ true → i < m.counts.memories → i < 8
memory_place m bytes cells items i s h = omega (arith, h, memories_few m bytes cells items s)

pub table_place : (m : Machine) (bytes cells items i : ℕ) → sound_machine m bytes cells items ≡ true → i < m.counts.tables → i < 8
table_place m bytes cells items i s h = omega (arith, h, tables_few m bytes cells items s)

module _ (r : ℕ) (l : List ℕ) (b : Buffers) (i : ℕ) (f : in_form l ≡ true) where
  abbrev m : Machine
  m = machine_from l

  -- a record in one of the 8 places is in form
  memory_form : i < 8 → record_in_form l (record_length * i) ≡ true
  unfolding in_form
  memory_form h =
      let p : record_length * i ≡ 0 + record_length * i = omega arith in
      all_each record_in_form record_length l 0 8 i (record_length * i) h p (both_1 _ _ (both_2 _ _ f))

  table_form : i < 8 → record_in_form l (tables_at + record_length * i) ≡ true
  unfolding in_form
  table_form h =
      let p : tables_at + record_length * i ≡ tables_at + record_length * i = omega arith in
      all_each record_in_form record_length l tables_at 8 i (tables_at + record_length * i) h p (both_1 _ _ (both_2 _ _ (both_2 _ _ f)))

  -- a size's own checks on a sound machine, and 19 on an unsound one, are those of an operation that says nothing wrong
  as_answered : (o : Operation) (a : Answer) → well_formed o ≡ true → (sound_over m b ≡ true → a ≡ (perform r m b o).out.answer)
      → if_sound l (length b.bytes) (length b.cells) (length b.items) a ≡ (step r m b o).answer
  unfolding if_sound
  as_answered o a w h =
      pick_true _ _ _ (le-leb row_length (length l) (form_long l f))
      ∙ either (sound_over m b)
      (λ s. pick_true _ _ _ s ∙ h s ∙ sym (ap (λ (x : Stepped). x.answer) (goes r m b o w s)))
      (λ s. pick_false _ _ _ s ∙ sym (ap (λ (x : Stepped). x.answer) (unsound_stops r m b o w s)))

  -- a memory's size is what 12 answers
  pub pages_as_12 : row_pages l (length b.bytes) (length b.cells) (length b.items) i ≡ (step r m b (op.Memory i memory.Size)).answer
  unfolding row_pages well_formed memory_well_formed perform on_memory perform_memory
  pages_as_12 =
      as_answered (op.Memory i memory.Size) _ refl
      (λ s. either (ltb i m.counts.memories)
      (λ t. pick_true _ _ _ t ∙ pick_true _ _ _ (memory_form (memory_place m _ _ _ i s (ltb-true i m.counts.memories t)))
      ∙ sym (ap (λ (d : Done Outcome). d.out.answer) (pick_true _ _ _ t)))
      (λ t. pick_false _ _ _ t ∙ sym (ap (λ (d : Done Outcome). d.out.answer) (pick_false _ _ _ t))))

  -- a table's is what 22 answers
  pub cells_as_22 : row_cells l (length b.bytes) (length b.cells) (length b.items) i ≡ (step r m b (op.Table i table.Size)).answer
  unfolding row_cells well_formed perform on_table perform_table
  cells_as_22 =
      as_answered (op.Table i table.Size) _ refl
      (λ s. either (ltb i m.counts.tables)
      (λ t. pick_true _ _ _ t ∙ pick_true _ _ _ (table_form (table_place m _ _ _ i s (ltb-true i m.counts.tables t)))
      ∙ sym (ap (λ (d : Done Outcome). d.out.answer) (pick_true _ _ _ t)))
      (λ t. pick_false _ _ _ t ∙ sym (ap (λ (d : Done Outcome). d.out.answer) (pick_false _ _ _ t))))
