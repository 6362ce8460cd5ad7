-- Laws of the one copy: from a table to itself, and between two tables whose rooms meet. Assumes nothing.
use Rattle.types.proofs.Prelude.{◌≡◌, refl, ◌∙◌, true, false, List, ℕ, ◌+◌, length, eq-eqb, pick_true, pick_false, both_true, both_right}
use Rattle.types.specs.Names.{unless, pick, both, inside, cut, over, refuse, accept, short, paid, span_done, Fuel, CopySpan, TableType, RefType}
use Rattle.types.specs.{Raw.same_kind, TableType.element_matches, declared.raw.RefType.TheVariants.Func, declared.raw.RefType.TheVariants.Extern}
use Rattle.table.specs.{Table.sound_table, Grow.cells_price, Copy.same_table, Copy.rooms_apart, Copy.sound_two, Copy.copy_table, declared.table.Table.Table}

-- a table's kind is its own
same_kind_lem : (k : RefType) → same_kind k k ≡ true
same_kind_lem Func = refl
same_kind_lem Extern = refl

own_kind : (t : TableType) → element_matches t t.element ≡ true
unfolding element_matches
own_kind t = same_kind_lem t.element

-- equal records are of one table
same_self : (t : Table) → same_table t t ≡ true
unfolding same_table
same_self t =
    both_true _ _ (eq-eqb t.start t.start refl) (both_true _ _ (eq-eqb t.room t.room refl) (eq-eqb t.size t.size refl))

-- and sound together where it is sound
pub one_sound : (t : Table) (len : ℕ) → sound_table t len ≡ true → sound_two t t len ≡ true
unfolding sound_two
one_sound t len h = both_true _ _ h (both_true _ _ h (pick_true _ _ _ (same_self t)))

module _ (r : ℕ) (cs : List ℕ) (span : CopySpan) (f : Fuel) where
  -- within one sound table neither 19 nor 14 is left: 12, 7
  pub copy_one : (t : Table) → sound_table t (length cs) ≡ true
      → copy_table r t t cs span f
      ≡ unless (both (inside span.to span.len t.size) (inside span.from span.len t.size)) (span_done (refuse 12 0) f cs)
      (pick (short f (cells_price r span.len f)) (span_done (refuse 7 (cells_price r span.len f)) f cs)
      (span_done (accept 0) (paid f (cells_price r span.len f)) (over cs (t.start + span.to) (cut cs (t.start + span.from) span.len))))
  unfolding copy_table
  copy_one t h = pick_true _ _ _ (one_sound t _ h) ∙ pick_true _ _ _ (own_kind t.ty)

  -- records of two tables whose rooms meet are 19
  pub copy_met : (d s : Table) → same_table d s ≡ false → rooms_apart d s ≡ false → copy_table r d s cs span f ≡ span_done (refuse 19 0) f cs
  unfolding copy_table sound_two
  copy_met d s p q = pick_false _ _ _ (both_right _ _ (both_right _ _ (pick_false _ _ _ p ∙ q)))
