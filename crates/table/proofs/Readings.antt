-- The stages of the code are the chains of checks that the definitions say. Assumes nothing.
use Rattle.std.specs.Prelude.{Ok, Err, Result, ⊤}
use Rattle.types.specs.{declared.table_ty.TableType.TableType, declared.answer.Refusal.Refusal, declared.limiter.Asked.Asked, stages.Grant.grant_creation}
use Rattle.types.proofs.Prelude.{◌≡◌, refl, ap, sym, ◌∙◌, arith, Bool, true, false, List, ℕ, ◌+◌, ◌-◌, ◌*◌, eqb, leb, ltb, length, replicate}
use Rattle.types.proofs.{Picks.pick_ap, Chains.growth_chain, Chains.creation_chain, Chains.charge_chain, Chains.span_chain}
use native.Mathlib.Nat.{add-sub_cancel_left}
use Rattle.types.specs.{Pick.pick, Pick.both, Pick.unless, Span.inside, Span.cut, Span.over, Answer.refusal, Answer.refuse, Answer.accept, Price.price}
use Rattle.types.specs.{Fuel.short, Fuel.paid, Done.Done, Done.done, Done.span_done, Limiter.says_of, Limiter.moved, Limiter.heard_of, Limiter.noticed}
use Rattle.types.specs.{declared.fuel.Fuel.Fuel, declared.grant.Spanned.Spanned, declared.limiter.Limiter.Limiter, IndexType.max_size, Limits.admits_of}
use Rattle.types.specs.{TableType.valid_table, TableType.validated, TableType.build_table, TableType.element_matches, declared.raw.TypedRawRef.TypedRawRef}
use Rattle.types.specs.{declared.span.CopySpan.CopySpan, declared.span.FillSpan.FillSpan, declared.table_ty.WantedTable.WantedTable}
use Rattle.table.specs.{Table.resized, Table.sound_buffer, Table.sound_table, Element.sound_segment, Grow.answered, Grow.cells_price, Grow.grow_table}
use Rattle.table.specs.{Fill.fill_table, Copy.sound_two, Copy.copy_table, Init.init_table}
use Rattle.table.specs.stages.New.{made_by, made_of, by_kind, by_type, planned}
use Rattle.table.specs.stages.Grow.{enlarged_by, grant_of, grow_to, grow_some, grow_sound}
use Rattle.table.specs.stages.Spans.{fill_kind, fill_sound, copy_bounds, copy_kinds, init_some, init_bounds, init_kinds}
use Rattle.table.specs.{declared.table.Table.Table, declared.element.ElementSegment.ElementSegment}
use Rattle.table.specs.{declared.new.CreatedTable.CreatedTable, declared.grow.GrownTable.GrownTable}
use Rattle.table.specs.New as new

module _ (r : ℕ) (t : Table) (cs : List ℕ) (n : ℕ) (v : TypedRawRef) (f : Fuel) (l : Limiter) where
  -- a growth within the index bound, from the limiter's question on, by d new cells
  abbrev granted : ℕ → Done GrownTable
  granted d =
      pick (eqb (says_of l) 1) (done (answered (refuse 6 0) t f (moved l)) cs)
      (pick (eqb (says_of l) 2) (done (answered (refuse 4 0) t f (moved l)) cs)
      (unless (admits_of t.ty.limits (t.size + n)) (done (answered (noticed (moved l) 6 0) t f (moved (moved l))) cs)
      (pick (short f (cells_price r d f)) (done (answered (noticed (moved l) 7 (cells_price r d f)) t f (moved (moved l))) cs)
      (unless (leb (t.size + n) t.room) (done (answered (noticed (moved l) 8 0) t (paid f (cells_price r d f)) (moved (moved l))) cs)
      (done (answered (accept t.size) (resized t (t.size + n)) (paid f (cells_price r d f)) (moved l))
      (over cs (t.start + t.size) (replicate d v.raw.bits)))))))

  to_chain : grow_to r t cs (t.size + n) v.raw.bits f l ≡ granted n
  unfolding grow_to grant_of enlarged_by
  to_chain =
      growth_chain (λ p g k. enlarged_by p g k t cs (t.size + n) v.raw.bits) l f (admits_of t.ty.limits (t.size + n))
      (cells_price r (t.size + n - t.size) f) (leb (t.size + n) t.room)
      ∙ ap granted (add-sub_cancel_left t.size n)

  pub grow_reads : grow_table r t cs n v f l ≡ pick (sound_table t (length cs)) (grow_sound r t cs n v f l) (done (answered (refuse 19 0) t f l) cs)
  unfolding grow_table grow_sound grow_some
  grow_reads =
      ap (λ (g : Done GrownTable).
      unless (sound_table t (length cs)) (done (answered (refuse 19 0) t f l) cs)
      (unless (element_matches t.ty v.ty) (done (answered (refuse 14 0) t f l) cs)
      (pick (eqb n 0) (done (answered (accept t.size) t f l) cs)
      (unless (ltb (t.size + n) (max_size t.ty.index)) (done (answered (refuse 6 0) t f l) cs) g))))
      (sym to_chain)

module _ (w : WantedTable) (init : TypedRawRef) (start room : ℕ) (cs : List ℕ) (l : Limiter) where
  -- a creation of a valid type and the right kind, from the limiter's question on
  abbrev made : Done CreatedTable
  made =
      pick (eqb (says_of l) 1) (done (new.refused (moved l) (refusal 3 0)) cs)
      (pick (eqb (says_of l) 2) (done (new.refused (moved l) (refusal 4 0)) cs)
      (unless (leb w.limits.minimum room) (done (new.refused (moved (moved l)) (heard_of (says_of (moved l)) (refusal 5 0))) cs)
      (done (record { made = Ok (new.table_of (new.wanted w) start room w.limits.minimum); limiter = moved l })
      (over cs start (replicate w.limits.minimum init.raw.bits)))))

  made_chain : made_of l (new.table_of (new.wanted w) start room w.limits.minimum) init.raw.bits cs ≡ made
  unfolding made_of made_by
  made_chain = creation_chain (λ p m. made_by p m (new.table_of (new.wanted w) start room w.limits.minimum) init.raw.bits cs) l (leb w.limits.minimum room)

  type_chain : by_type (build_table w.element w.wide w.limits) l start room init cs
      ≡ unless (valid_table (new.wanted w)) (done (new.refused l (refusal 1 0)) cs)
      (unless (element_matches (new.wanted w) init.ty) (done (new.refused l (refusal 14 0)) cs) made)
  unfolding build_table validated by_type by_kind
  type_chain =
      pick_ap (λ b. by_type b l start room init cs) (valid_table (new.wanted w)) (Ok (new.wanted w)) (Err (refusal 1 0))
      ∙ ap (λ (c : Done CreatedTable). unless (valid_table (new.wanted w)) (done (new.refused l (refusal 1 0)) cs)
      (unless (element_matches (new.wanted w) init.ty) (done (new.refused l (refusal 14 0)) cs) c))
      made_chain

  pub new_reads : new.new_table w init start room cs l
      ≡ pick (sound_buffer start room (length cs)) (by_type (build_table w.element w.wide w.limits) l start room init cs) (done (new.refused l (refusal 19 0)) cs)
  unfolding new.new_table
  new_reads =
      ap (λ (c : Done CreatedTable). unless (sound_buffer start room (length cs)) (done (new.refused l (refusal 19 0)) cs) c) (sym type_chain)

-- by what the limiter and the room say
pub made_as : (l : Limiter) (t : Table) (bits : ℕ) (cs : List ℕ) {a : Asked} {p : Result ⊤ Refusal} → a ≡ grant_creation l (leb t.size t.room) → a.permit ≡ p
    → made_by p a.limiter t bits cs ≡ made_of l t bits cs
unfolding made_of
made_as l t bits cs {a} e q =
    ap (λ (x : Result ⊤ Refusal). made_by x a.limiter t bits cs) (sym q) ∙ ap (λ (x : Asked). made_by x.permit x.limiter t bits cs) e

-- by what the plan is: a creation of a type
pub plan_missed : (b : Result TableType Refusal) (init : TypedRawRef) (start room : ℕ) {r : Refusal} → b ≡ Err r → Err r ≡ planned b init start room
unfolding planned
plan_missed b init start room e = sym (ap (λ (x : Result TableType Refusal). planned x init start room) e)

-- what is made by a plan
unfoldable plan_made : Result Table Refusal → ℕ → List ℕ → Limiter → Done CreatedTable
plan_made (Err r) bits cs l = done (new.refused l r) cs
plan_made (Ok t) bits cs l = made_of l t bits cs

plan_is : (b : Result TableType Refusal) (init : TypedRawRef) (start room : ℕ) (cs : List ℕ) (l : Limiter)
    → plan_made (planned b init start room) init.raw.bits cs l ≡ by_type b l start room init cs
unfolding planned by_type by_kind plan_made
plan_is (Err r) init start room cs l = refl
plan_is (Ok t) init start room cs l = pick_ap (λ p. plan_made p init.raw.bits cs l) (element_matches t init.ty) (Ok (new.table_of t start room t.limits.minimum)) (Err (refusal 14 0))

module _ (b : Result TableType Refusal) (init : TypedRawRef) (start room : ℕ) (cs : List ℕ) (l : Limiter) where
  pub plan_stops : {r : Refusal} → planned b init start room ≡ Err r → done (new.refused l r) cs ≡ by_type b l start room init cs
  unfolding plan_made
  plan_stops e = sym (ap (λ (p : Result Table Refusal). plan_made p init.raw.bits cs l) e) ∙ plan_is b init start room cs l

  pub plan_goes : {t : Table} → planned b init start room ≡ Ok t → made_of l t init.raw.bits cs ≡ by_type b l start room init cs
  unfolding plan_made
  plan_goes e = sym (ap (λ (p : Result Table Refusal). plan_made p init.raw.bits cs l) e) ∙ plan_is b init start room cs l

-- a table that is planned stands where it is wanted
pub plan_place : (b : Result TableType Refusal) (init : TypedRawRef) (start room : ℕ) {t : Table} → planned b init start room ≡ Ok t → (t.start ≡ start) × (t.room ≡ room)
unfolding planned pick
plan_place (Err s) init start room e = let z : ◌≡◌ {A = ℕ} 0 1 = cc in absurd (omega arith)
plan_place (Ok k) init start room {t} e = go (element_matches k init.ty) e
  where
    go : (u : Bool) → pick u (Ok (new.table_of k start room k.limits.minimum)) (Err (refusal 14 0)) ≡ Ok t → (t.start ≡ start) × (t.room ≡ room)
    go true q =
        let h : t ≡ new.table_of k start room k.limits.minimum = cc in
        (ap (λ (x : Table). x.start) h, ap (λ (x : Table). x.room) h)
    go false q = let z : ◌≡◌ {A = ℕ} 0 1 = cc in absurd (omega arith)

pub fill_reads : (r : ℕ) (t : Table) (cs : List ℕ) (span : FillSpan) (v : TypedRawRef) (f : Fuel)
    → fill_table r t cs span v f ≡ pick (sound_table t (length cs)) (fill_sound r t cs span v f) (span_done (refuse 19 0) f cs)
unfolding fill_table fill_sound fill_kind
fill_reads r t cs span v f =
    ap (λ (o : Done Spanned). unless (sound_table t (length cs)) (span_done (refuse 19 0) f cs) (unless (element_matches t.ty v.ty) (span_done (refuse 14 0) f cs) o))
    (sym (span_chain f (inside span.start span.len t.size) 11 (price f.costs.copied (span.len * r)) cs (over cs (t.start + span.start) (replicate span.len v.raw.bits))))

-- a copy from its bounds on
span_reads : (r : ℕ) (d s : Table) (cs : List ℕ) (span : CopySpan) (f : Fuel)
    → copy_bounds r d s cs span f
    ≡ unless (both (inside span.to span.len d.size) (inside span.from span.len s.size)) (span_done (refuse 12 0) f cs)
    (pick (short f (price f.costs.copied (span.len * r))) (span_done (refuse 7 (price f.costs.copied (span.len * r))) f cs)
    (span_done (accept 0) (paid f (price f.costs.copied (span.len * r))) (over cs (d.start + span.to) (cut cs (s.start + span.from) span.len))))
unfolding copy_bounds
span_reads r d s cs span f =
    span_chain f (both (inside span.to span.len d.size) (inside span.from span.len s.size)) 12 (price f.costs.copied (span.len * r)) cs
    (over cs (d.start + span.to) (cut cs (s.start + span.from) span.len))

pub copy_reads : (r : ℕ) (d s : Table) (cs : List ℕ) (span : CopySpan) (f : Fuel)
    → copy_table r d s cs span f ≡ pick (sound_two d s (length cs)) (copy_kinds r d s cs span f) (span_done (refuse 19 0) f cs)
unfolding copy_table copy_kinds
copy_reads r d s cs span f =
    ap (λ (o : Done Spanned). unless (sound_two d s (length cs)) (span_done (refuse 19 0) f cs) (unless (element_matches d.ty s.ty.element) (span_done (refuse 14 0) f cs) o))
    (sym (span_reads r d s cs span f))

pub init_reads : (r : ℕ) (t : Table) (s : ElementSegment) (cs items : List ℕ) (span : CopySpan) (f : Fuel)
    → init_table r t s cs items span f
    ≡ pick (both (sound_table t (length cs)) (sound_segment s (length items))) (init_kinds r t s cs items span f) (span_done (refuse 19 0) f cs)
unfolding init_table init_kinds init_bounds init_some
init_reads r t s cs items span f =
    ap (λ (o : Done Spanned).
    unless (both (sound_table t (length cs)) (sound_segment s (length items))) (span_done (refuse 19 0) f cs)
    (unless (element_matches t.ty s.ty) (span_done (refuse 14 0) f cs)
    (unless (both (inside span.to span.len t.size) (inside span.from span.len s.size)) (span_done (refuse 13 0) f cs)
    (pick (eqb span.len 0) (span_done (accept 0) f cs) o))))
    (sym (charge_chain f (price f.costs.copied (span.len * r)) cs (over cs (t.start + span.to) (cut items (s.start + span.from) span.len))))
