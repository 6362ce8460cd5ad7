-- How every operation on tables and segments ends: accepted on its occasion, or refused with all that it leaves. Assumes nothing.
use Rattle.types.proofs.Prelude.{refl, sym, ap, ◌∙◌, arith, leb-true, leb-false, ltb-true, lt-ltb, le-ltb, eqb-true, eqb-false, pick_true, pick_false}
use Rattle.types.proofs.{Prelude.both_true, Prelude.both_left, Prelude.both_right, Prelude.both_then, Prelude.both_1, Prelude.both_2, Spans.over_nil}
use Rattle.std.specs.Prelude.{ℕ, ◌+◌, ◌≡◌, Bool, true, false, List, leb, ltb, length, replicate, Err, Result}
use Rattle.types.specs.Names.{Done, done, over, refusal, accept, paid, moved, Answer, Spanned, RefType, TypedRawRef, max_size, admits_of}
use Rattle.types.specs.{Names.element_matches, Names.WantedTable, Names.CopySpan, Pick.both}
use Rattle.table.specs.Names.{resized, sound_table, Table, GrownTable, CreatedTable}
use Rattle.table.specs.{Table.get_table, Table.set_sound, Table.set_table, New.refused, New.new_table, Grow.answered, Grow.cells_price, Grow.grow_table}
use Rattle.table.specs.{Fill.fill_table, Copy.copy_table, Init.init_table, Element.new_segment}
use Rattle.machine.specs.Names.{Buffers, buffers, table_at, sound_over, metered, Machine, Items, Operation, TableOp}
use Rattle.machine.specs.{Operation.well_formed, Segments.init_on, Segments.drop_on, Segments.made_segment, Segments.segment_made, Segments.new_segment_on}
use Rattle.machine.specs.{Step.Performed, Step.on_none, Step.on_cells, Step.on_items, Step.perform, Step.after, declared.outcome.Outcome.Outcome}
use Rattle.machine.specs.Tables.{table_kept, table_stored, table_spanned, perform_table, table_done, on_table, spanned_done, copy_on, made_table}
use Rattle.machine.specs.Tables.{table_made, new_table_on}
use Rattle.machine.proofs.{Rooms.table_sound, Rooms.segment_sound, Written.table_put_back}
use Rattle.claims.specs.{Answers.accepted, Spans.put, Effects.table_effect, Effects.effect_of, Effects.accepted_step}
use Rattle.claims.specs.Metered.{table_metering, metering_of, price_of, affords}
use Rattle.claims.specs.Occasions.{given, holds, comes, granted, table_checks, checks_of, occasion, question}
use Rattle.claims.proofs.{Exit.Exit, Exit.accepts, Growth.Grew, Growth.grew, Growth.grew_exit}
use Rattle.claims.proofs.Checks.{given_holds, given_comes, growing, used_holds, used_comes}
use Rattle.claims.proofs.Exiting.{branch, surely, put_back_stays, named, nothing_put, Ends, accepted_is, ending, accepting}
use Rattle.claims.proofs.Exiting.{accepting_paid, accepting_by, refusing, leaving_by, leaving, creating, paying, spanning, unknown}
use Rattle.claims.proofs.TableExiting.{cells_sound, items_sound, over_none, two_sound}
use Rattle.machine.specs.declared.outcome.Change.TheVariants as change
use Rattle.machine.specs.declared.operation.Operation.TheVariants as op
use Rattle.machine.specs.declared.operation.TableOp.TheVariants as table
use Rattle.table.specs.declared.element.ElementSegment.{ElementSegment}
use Rattle.types.specs.declared.answer.Refusal.{Refusal}

module _ (r : ℕ) (m : Machine) (b : Buffers) where
  -- 20: 17, 1, 14, limiter 3/4, 5 with notice
  pub new_table_exit : (room : ℕ) (wanted : WantedTable) (initial : TypedRawRef) → sound_over m b ≡ true → well_formed (op.NewTable room wanted initial) ≡ true
      → Exit r m b (op.NewTable room wanted initial) (occasion r m b (op.NewTable room wanted initial))
  unfolding perform new_table_on new_table made_table holds checks_of given comes effect_of metering_of put accepted
  new_table_exit room wanted initial e w =
      ending e w
      (branch (λ (d : Done Outcome). Ends r m b (op.NewTable room wanted initial) (on_cells d b)) _ _ _
      (λ h.
      creating (λ (c : Done CreatedTable). on_cells (table_made m c) b) (λ l x. done (refused l x) b.cells) _ _ _ _ _ 14
      e w (cells_sound m b e _ (both_2 _ _ h)) (named 14 refl refl) (λ x l k o t. leaving_by x l k refl o t) (both_then _ _ h) refl (λ q o. accepting_by m.fuel (moved m.limiter) (sym (pick_false _ _ _ refl)) (sym (pick_true _ _ _ q)) o refl))
      (λ h. leaving (refusal 17 0) (named 17 refl refl) refl (both_left _ _ h) (both_left _ _ (both_left _ _ h))))

  -- 28: 16
  pub drop_segment_exit : (i : ℕ) → sound_over m b ≡ true → well_formed (op.DropSegment i) ≡ true → Exit r m b (op.DropSegment i) (occasion r m b (op.DropSegment i))
  unfolding perform drop_on holds checks_of given comes effect_of metering_of put accepted
  drop_segment_exit i e w =
      ending e w
      (branch (λ (o : Outcome). Ends r m b (op.DropSegment i) (on_none o b)) _ _ _
      (λ h. accepting refl refl h refl)
      (λ h. unknown refl h))

  -- 29: 17
  pub new_segment_exit : (element : RefType) (items : Items) → sound_over m b ≡ true → well_formed (op.NewSegment element items) ≡ true
      → Exit r m b (op.NewSegment element items) (occasion r m b (op.NewSegment element items))
  unfolding perform new_segment_on new_segment made_segment holds checks_of given comes effect_of metering_of put accepted
  new_segment_exit element items e w =
      ending e w
      (branch (λ (d : Done Outcome). Ends r m b (op.NewSegment element items) (on_items d b)) _ _ _
      (λ h.
      surely (λ (s : Done (Result ElementSegment Refusal)). Ends r m b (op.NewSegment element items) (on_items (segment_made m s) b)) _ _ _
      (items_sound m b e _ (both_2 _ _ h)) (accepting refl refl h refl))
      (λ h. leaving (refusal 17 0) (named 17 refl refl) refl refl h))

  -- 26: 16, 14, 12, 7
  pub table_copy_exit : (into source : ℕ) (s : CopySpan) → sound_over m b ≡ true → well_formed (op.TableCopy into source s) ≡ true
      → Exit r m b (op.TableCopy into source s) (occasion r m b (op.TableCopy into source s))
  unfolding perform copy_on copy_table holds checks_of given comes effect_of metering_of put accepted
  table_copy_exit into source s e w =
      ending e w
      (branch (λ (d : Done Outcome). Ends r m b (op.TableCopy into source s) (on_cells d b)) _ _ _
      (λ h.
      surely (λ (d : Done Spanned). Ends r m b (op.TableCopy into source s) (on_cells (spanned_done m d) b)) _ _ _
      (two_sound m b into source e (ltb-true into _ (both_1 _ _ h)) (ltb-true source _ (both_2 _ _ h)))
      (spanning change.Nothing (nothing_put m) refl refl _ _ _ 12 _ (named 12 refl refl) (both_then _ _ h)
      (λ o. paying change.Nothing (nothing_put m) refl refl _ _ o (λ o. accepting_paid refl refl o refl))))
      (λ h. unknown refl (both_left _ _ h)))

  -- 27: 16, 14, 13, length 0 without fuel, 7
  pub table_init_exit : (i segment : ℕ) (s : CopySpan) → sound_over m b ≡ true → well_formed (op.TableInit i segment s) ≡ true
      → Exit r m b (op.TableInit i segment s) (occasion r m b (op.TableInit i segment s))
  unfolding perform init_on init_table holds checks_of given comes effect_of metering_of put accepted
  table_init_exit i segment s e w =
      ending e w
      (branch (λ (d : Done Outcome). Ends r m b init (on_cells d b)) _ _ _
      (λ h.
      surely Inits _ _ _
      (both_true _ _ (table_sound m _ _ _ e i (ltb-true i _ (both_1 _ _ h))) (segment_sound m _ _ _ e segment (ltb-true segment _ (both_2 _ _ h))))
      (spanning change.Nothing (nothing_put m) refl refl _ _ _ 13 _ (named 13 refl refl) (both_then _ _ h)
      (λ o.
      branch Inits _ _ _
      (λ z q.
      let n : s.len ≡ 0 = eqb-true s.len 0 z in
      accepts (o ∙ pick_true _ _ _ z) refl
      (q ∙ accepted_is r m b init refl refl refl (sym (pick_false _ _ _ (le-ltb 0 s.len (omega arith)))) (sym (pick_false _ _ _ refl))
      (ap (λ (cs : List ℕ). buffers b.bytes cs b.items) (sym (over_none b.cells _ b.items _ s.len n)))))
      (λ z.
      let n : s.len ≡ 0 → ⊥ = eqb-false s.len 0 z in
      paying change.Nothing (nothing_put m) refl refl _ _ (o ∙ pick_false _ _ _ z)
      (λ o. accepting_paid (lt-ltb 0 s.len (omega arith)) refl o refl)))))
      (λ h. unknown refl (both_left _ _ h)))
    where
      init : Operation
      init = op.TableInit i segment s

      Inits : Done Spanned → Type 0
      Inits d = Ends r m b init (on_cells (spanned_done m d) b)

module _ (r : ℕ) (m : Machine) (b : Buffers) (i : ℕ) where
  abbrev old : Table
  old = table_at m i

  -- what is shown of an operation on the table that comes to this
  abbrev On : TableOp → Done GrownTable → Type 0
  On o d = Ends r m b (op.Table i o) (on_cells (table_done m i d) b)

  module _ (n : ℕ) (v : TypedRawRef) (e : sound_over m b ≡ true) where
    abbrev grow : Operation
    grow = op.Table i (table.Grow n v)

    abbrev out : Done GrownTable → Performed
    out d = on_cells (table_done m i d) b

    -- of its kind, below the index type's largest size; and what is tested after the limiter's grant
    abbrev kind : Bool
    kind = element_matches old.ty v.ty

    abbrev may : Bool
    may = ltb (old.size + n) (max_size old.ty.index)

    abbrev later : Bool
    later = both (admits_of old.ty.limits (old.size + n)) (both (affords m (price_of r m grow)) (leb (old.size + n) old.room))

    -- by 0 cells the size stays, and no cell is new
    by_none : n ≡ 0 → question r m b grow ≡ false → after m (out (done (answered (accept old.size) old m.fuel m.limiter) b.cells)) ≡ accepted_step r m b grow
    unfolding both effect_of table_effect metering_of table_metering put
    by_none z u =
        let q : old.size + n ≡ old.size = omega arith in
        let p : ltb 0 n ≡ false = le-ltb 0 n (omega arith) in
        accepted_is r m b grow refl (ap (λ (x : ℕ). change.Table i (resized old x)) (sym q)) refl (sym (pick_false _ _ _ p)) (sym (pick_false _ _ _ u))
        (sym (ap (λ (cs : List ℕ). buffers b.bytes cs b.items)
        (ap (λ (x : ℕ). over b.cells (old.start + old.size) (replicate x v.raw.bits)) z ∙ over_nil b.cells _)))

    -- 21: 16, 14, by 0, 6 at the index type's largest size, limiter 6/4, 6, 7 and 8 with notice
    pub table_grew : Grew r m b grow (ltb i m.counts.tables) n (admits_of old.ty.limits (old.size + n))
    unfolding both perform on_table perform_table grow_table well_formed holds checks_of given table_checks comes effect_of table_effect metering_of table_metering put accepted
    table_grew =
        grew r m b grow (ltb i m.counts.tables) n (admits_of old.ty.limits (old.size + n)) out
        (λ x f l. done (answered (Err x) old f l) b.cells)
        (λ l. done (answered (accept old.size) old m.fuel l) b.cells)
        (λ l.
        done (answered (accept old.size) (resized old (old.size + n)) (paid m.fuel (cells_price r n m.fuel)) (moved l))
        (over b.cells (old.start + old.size) (replicate n v.raw.bits)))
        kind may (leb (old.size + n) old.room) (cells_price r n m.fuel) (λ h. refl)
        (record {
          sound = e;
          formed = refl;
          known = λ h l. ap (λ (d : Done Outcome). on_cells d b) (pick_true _ _ _ h) ∙ ap out (pick_true _ _ _ (table_sound m _ _ _ e i (ltb-true i _ h)));
          unknown = λ h. ap (λ (d : Done Outcome). on_cells d b) (pick_false _ _ _ h);
          stop = λ l. put_back_stays (metered m m.fuel l) b (change.Table i old) (table_put_back (metered m m.fuel l) i);
          when = given_holds (granted m) (ltb i m.counts.tables) (given kind (growing n may later))
              ∙ ap (both (ltb i m.counts.tables)) (used_holds (granted m) kind n may later);
          asks = given_comes (ltb i m.counts.tables) (given kind (growing n may later)) ∙ ap (both (ltb i m.counts.tables)) (used_comes kind n may later);
          value = refl;
          by_none = λ h. by_none;
          by_some = λ h p q. accepted_is r m b grow refl refl refl (sym (pick_true _ _ _ p)) (sym (pick_true _ _ _ q)) refl;
        })

  -- 21 to 25, of a table in use: 14, 9, 10, 11, 7
  used_table : (o : TableOp) → sound_over m b ≡ true → ltb i m.counts.tables ≡ true → sound_table old (length b.cells) ≡ true
      → On o (perform_table r old b.cells m.fuel m.limiter o)
  unfolding perform_table get_table set_table set_sound fill_table holds checks_of given table_checks comes effect_of table_effect metering_of table_metering put accepted
  used_table (table.Grow cells value) e h s = λ q. grew_exit r m b _ _ _ _ refl (table_grew cells value e)
  used_table table.Size e h s = accepting refl refl (both_true _ _ h refl) refl
  used_table (table.Get index) e h s =
      surely Gets _ _ _ s
      (branch Gets _ _ _
      (λ y.
      refusing (change.Table i old) (table_put_back m i) refl refl (refusal 9 0) (named 9 refl refl)
      (both_right _ _ (le-ltb index _ (leb-true old.size index y))))
      (λ y. accepting refl refl (both_true _ _ h (lt-ltb index _ (leb-false old.size index y))) refl))
    where
      Gets : Answer → Type 0
      Gets a = On (table.Get index) (done (table_kept old m.fuel m.limiter a) b.cells)
  used_table (table.Set index value) e h s =
      surely Sets _ _ _ s
      (branch Sets _ _ _
      (λ t.
      branch Sets _ _ _
      (λ y.
      refusing (change.Table i old) (table_put_back m i) refl refl (refusal 10 0) (named 10 refl refl)
      (both_right _ _ (both_right _ _ (le-ltb index _ (leb-true old.size index y)))))
      (λ y. accepting refl refl (both_true _ _ h (both_true _ _ t (lt-ltb index _ (leb-false old.size index y)))) refl))
      (λ t. refusing (change.Table i old) (table_put_back m i) refl refl (refusal 14 0) (named 14 refl refl) (both_right _ _ (both_left _ _ t))))
    where
      Sets : Done Answer → Type 0
      Sets d = On (table.Set index value) (table_stored old m.fuel m.limiter d)
  used_table (table.Fill start value len) e h s =
      surely (λ (d : Done Spanned). On (table.Fill start value len) (table_spanned old m.limiter d)) _ _ _ s
      (spanning (change.Table i old) (table_put_back m i) refl refl _ _ _ 11 _ (named 11 refl refl) (both_then _ _ h)
      (λ o. paying (change.Table i old) (table_put_back m i) refl refl _ _ o (λ o. accepting_paid refl refl o refl)))

  -- 16, then these
  pub table_exit : (o : TableOp) → sound_over m b ≡ true → well_formed (op.Table i o) ≡ true → Exit r m b (op.Table i o) (occasion r m b (op.Table i o))
  unfolding perform on_table checks_of
  table_exit o e w =
      ending e w
      (branch (λ (d : Done Outcome). Ends r m b (op.Table i o) (on_cells d b)) _ _ _
      (λ h. used_table o e h (table_sound m _ _ _ e i (ltb-true i _ h)))
      (λ h. unknown (given_comes _ _ ∙ both_left _ _ h) (given_holds _ _ _ ∙ both_left _ _ h)))
