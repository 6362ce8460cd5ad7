-- Laws of the operations, for the layer above: what accepted and refused ones leave, what every one keeps, and that sound records stay sound. Assumes nothing.
use Rattle.std.specs.Prelude.{Ok, Err, Result, ⊤}
use Rattle.types.proofs.Prelude.{◌≡◌, refl, sym, ap, ◌∙◌, Bool, true, false, List, ℕ, ◌+◌, ◌-◌, ◌≤◌, ◌<◌, arith, le-leb, leb-true, leb-false, ltb-true}
use Rattle.types.proofs.Prelude.{eqb-true, leb, eqb, length, take, drop, set, replicate, length-replicate, pick_true, pick_false, both_true, both_1, both_2, either}
use Rattle.types.proofs.{Spans.within_is, Spans.length_over, Spans.over_low, Spans.over_after, Moves.length_cut}
use Rattle.types.proofs.{Stepping.fill_closed, Stepping.init_closed, Stepping.copy_closed, Grants.granted_span, Grants.granted_creation, Grants.granted_admits}
use mathlib.Core.Logic.{inl, inr}
use native.Mathlib.Nat.{le_refl}
use Rattle.types.specs.{Pick.pick, Pick.both, Span.over, Steps.fill_steps, Steps.init_steps, Steps.copy_steps, Steps.Apart, Answer.accept, IndexType.max_size}
use Rattle.types.specs.Limits.{admits_of, valid_maximum, valid_limits}
use Rattle.types.specs.TableType.{table_bound, valid_table, validated, build_table, table_type}
use Rattle.types.specs.{Done.Done, Done.done, Done.span_done, stages.Grant.spanned, Answer.Answer, declared.answer.Refusal.Refusal}
use Rattle.types.specs.{declared.answer.Value.Value, declared.fuel.Fuel.Fuel, declared.grant.Spanned.Spanned}
use Rattle.types.specs.{declared.limiter.Limiter.Limiter}
use Rattle.types.specs.{declared.limits.Limits.Limits}
use Rattle.types.specs.{declared.raw.RefType.RefType, declared.raw.TypedRawRef.TypedRawRef, declared.span.CopySpan.CopySpan, declared.span.FillSpan.FillSpan}
use Rattle.types.specs.{declared.table_ty.TableType.TableType, declared.table_ty.WantedTable.WantedTable}
use Rattle.table.proofs.Readings.{grow_reads, new_reads, fill_reads, copy_reads, init_reads}
use Rattle.table.proofs.{Sounds.buffer_within, Sounds.sound_room_lem, Sounds.sound_size_lem, Sounds.sound_within, Sounds.segment_places, Growths.growth_fits}
use Rattle.table.specs.Table.{resized, sound_buffer, sound_size, sound_table, set_sound, set_table}
use Rattle.table.specs.{Element.dropped, Element.sound_segment, Element.new_segment, New.refused, New.table_of, New.new_table}
use Rattle.table.specs.stages.New.{made_by, made_of, by_kind, by_type}
use Rattle.table.specs.stages.Grow.{enlarged_by, grant_of, grow_to, grow_some, grow_sound}
use Rattle.table.specs.stages.Spans.{fill_kind, fill_sound, copy_bounds, copy_kinds, init_some, init_bounds, init_kinds}
use Rattle.table.specs.{Grow.answered, Grow.grow_table, Fill.fill_table, Copy.same_table, Copy.rooms_apart, Copy.sound_two, Copy.copy_table, Init.init_table}
use Rattle.table.specs.{declared.table.Table.Table, declared.element.ElementSegment.ElementSegment}
use Rattle.table.specs.{declared.new.CreatedTable.CreatedTable}
use Rattle.table.specs.declared.grow.GrownTable.{GrownTable}

-- ds is cs but for cells from x on and before e
pub record Kept (x e : ℕ) (cs ds : List ℕ) : Type 0 where
  pub long : length ds ≡ length cs
  pub before : take x ds ≡ take x cs
  pub after : drop e ds ≡ drop e cs

same_kept : (x e : ℕ) (cs : List ℕ) → Kept x e cs cs
same_kept x e cs = record { long = refl; before = refl; after = refl }

over_kept : (x a e : ℕ) (cs vs : List ℕ) → x ≤ a → a + length vs ≤ e → e ≤ length cs → Kept x e cs (over cs a vs)
over_kept x a e cs vs h g k =
    record { long = length_over cs a vs (omega arith); before = over_low cs a vs x h (omega arith); after = over_after cs a vs e (omega arith) g }

fill_kept : (x a n v e : ℕ) (cs : List ℕ) → x ≤ a → a + n ≤ e → e ≤ length cs → Kept x e cs (over cs a (replicate n v))
fill_kept x a n v e cs h g k = over_kept x a e cs (replicate n v) h (omega (arith, length-replicate n v)) k

-- a test and what follows from it
pick_case : {A : Type 0} (P : A → Type 0) (t : Bool) (a b : A) → (t ≡ true → P a) → P b → P (pick t a b)
unfolding pick
pick_case P true a b p q = p refl
pick_case P false a b p q = q

no_value : (r : Refusal) (v : Value) → Err r ≡ Ok v → ⊥
no_value r v e = let z : ◌≡◌ {A = ℕ} 0 1 = cc in omega arith

no_refusal : (v : Value) (r : Refusal) → Ok v ≡ Err r → ⊥
no_refusal v r e = let z : ◌≡◌ {A = ℕ} 0 1 = cc in omega arith

-- a span operation: what it leaves where it is accepted and where it is refused, and what it keeps
pub record SpanFrame (f : Fuel) (cs new : List ℕ) (x e : ℕ) (o : Done Spanned) : Type 0 where
  pub accepted : (v : Value) → o.out.answer ≡ Ok v → o.cells ≡ new
  pub refused : (r : Refusal) → o.out.answer ≡ Err r → (o.cells ≡ cs) × (o.out.fuel ≡ f)
  pub kept : Kept x e cs o.cells

module _ (f : Fuel) (cs new : List ℕ) (x e : ℕ) where
  span_refused : (r : Refusal) → SpanFrame f cs new x e (span_done (Err r) f cs)
  span_refused r = record { accepted = (λ v q. absurd (no_value r v q)); refused = (λ s q. (refl, refl)); kept = same_kept x e cs }

  span_done_lem : (g : Fuel) (ds : List ℕ) → ds ≡ new → Kept x e cs ds → SpanFrame f cs new x e (span_done (accept 0) g ds)
  span_done_lem g ds p k = record { accepted = (λ v q. p); refused = (λ s q. absurd (no_refusal _ s q)); kept = k }

  span_frame : (s : Result Fuel Refusal) (ds : List ℕ) → ((g : Fuel) → s ≡ Ok g → (ds ≡ new) × Kept x e cs ds) → SpanFrame f cs new x e (spanned s f cs ds)
  unfolding spanned
  span_frame (Err r) ds h = span_refused r
  span_frame (Ok g) ds h = span_done_lem g ds (h g refl).0 (h g refl).1

  span_pick : (t : Bool) (a : Done Spanned) (r : Refusal) → (t ≡ true → SpanFrame f cs new x e a) → SpanFrame f cs new x e (pick t a (span_done (Err r) f cs))
  span_pick t a r h = pick_case (SpanFrame f cs new x e) t a _ h (span_refused r)

-- fill
module _ (r : ℕ) (t : Table) (cs : List ℕ) (span : FillSpan) (f : Fuel) where
  fill_span_lem : (bits : ℕ) → sound_table t (length cs) ≡ true
      → SpanFrame f cs (fill_steps span.len cs t.start span.start bits) t.start (t.start + t.room) (fill_kind r t cs span bits f)
  unfolding fill_kind
  fill_span_lem bits h =
      let room = sound_room_lem t _ h in
      let size = sound_size_lem t _ h in
      span_frame f cs _ _ _ _ _
      (λ g e.
      let b = within_is _ _ _ (granted_span f _ 11 _ g e) in
      (sym (fill_closed span.len cs t.start span.start bits (omega arith)), fill_kept _ _ span.len bits _ cs (omega arith) (omega arith) room))

  pub fill_frame : (v : TypedRawRef) → SpanFrame f cs (fill_steps span.len cs t.start span.start v.raw.bits) t.start (t.start + t.room) (fill_table r t cs span v f)
  unfolding fill_sound
  fill_frame v = rw fill_reads (span_pick f cs _ _ _ _ _ _ (λ h. span_pick f cs _ _ _ _ _ _ (λ k. fill_span_lem v.raw.bits h)))

-- copy: the spans of two tables whose rooms follow each other lie apart
apart_rooms : (d s : Table) (i j n : ℕ) → rooms_apart d s ≡ true → i + n ≤ d.room → j + n ≤ s.room → Apart n d.start i s.start j
unfolding rooms_apart
apart_rooms d s i j n = go (leb (d.start + d.room) s.start) refl
  where
    go : (t : Bool) → leb (d.start + d.room) s.start ≡ t → pick (leb (d.start + d.room) s.start) true (leb (s.start + s.room) d.start) ≡ true
        → i + n ≤ d.room → j + n ≤ s.room → Apart n d.start i s.start j
    go true p q g k = inr (inl (omega (arith, leb-true (d.start + d.room) s.start p)))
    go false p q g k =
        let e : leb (s.start + s.room) d.start ≡ true = sym (pick_false _ _ _ p) ∙ q in
        inr (inr (omega (arith, leb-true (s.start + s.room) d.start e)))

-- spans of one table need not
apart_spans : (d s : Table) (i j n : ℕ) → pick (same_table d s) true (rooms_apart d s) ≡ true → i + n ≤ d.room → j + n ≤ s.room → Apart n d.start i s.start j
unfolding same_table
apart_spans d s i j n e g k =
    either (same_table d s) (λ t. inl (eqb-true _ _ (both_1 _ _ t))) (λ t. apart_rooms d s i j n (sym (pick_false _ _ _ t) ∙ e) g k)

module _ (r : ℕ) (d s : Table) (cs : List ℕ) (span : CopySpan) (f : Fuel) where
  copy_bounds_lem : sound_table d (length cs) ≡ true → sound_table s (length cs) ≡ true
      → (span.to + span.len ≤ d.size → span.from + span.len ≤ s.size → Apart span.len d.start span.to s.start span.from)
      → SpanFrame f cs (copy_steps span.len cs d.start span.to s.start span.from) d.start (d.start + d.room) (copy_bounds r d s cs span f)
  unfolding copy_bounds
  copy_bounds_lem h k a =
      let room = sound_room_lem d _ h in
      let size = sound_size_lem d _ h in
      let within = sound_within s _ k in
      span_frame f cs _ _ _ _ _
      (λ g e.
      let b = granted_span f _ 12 _ g e in
      let p = within_is span.to span.len d.size (both_1 _ _ b) in
      let q = within_is span.from span.len s.size (both_2 _ _ b) in
      let l = length_cut cs (s.start + span.from) span.len (omega arith) in
      (sym (copy_closed span.len cs d.start span.to s.start span.from (omega arith) (omega arith) (a p q)), over_kept _ _ _ cs _ (omega arith) (omega arith) room))

  pub copy_frame : SpanFrame f cs (copy_steps span.len cs d.start span.to s.start span.from) d.start (d.start + d.room) (copy_table r d s cs span f)
  unfolding copy_kinds sound_two
  copy_frame =
      rw copy_reads
      (span_pick f cs _ _ _ _ _ _
      (λ h.
      let p = both_1 _ _ h in
      let q = both_1 _ _ (both_2 _ _ h) in
      let a = both_2 _ _ (both_2 _ _ h) in
      span_pick f cs _ _ _ _ _ _
      (λ k. copy_bounds_lem p q (λ b c. apart_spans d s span.to span.from span.len a (omega (arith, sound_size_lem d _ p)) (omega (arith, sound_size_lem s _ q))))))

-- init
module _ (r : ℕ) (t : Table) (s : ElementSegment) (cs items : List ℕ) (span : CopySpan) (f : Fuel) where
  -- the standard's steps
  abbrev stepped : List ℕ
  stepped = init_steps span.len cs t.start span.to items (s.start + span.from)

  init_some_lem : sound_table t (length cs) ≡ true → sound_segment s (length items) ≡ true → span.to + span.len ≤ t.size → span.from + span.len ≤ s.size
      → SpanFrame f cs stepped t.start (t.start + t.room) (init_some r t s cs items span f)
  unfolding init_some
  init_some_lem h k p q =
      let room = sound_room_lem t _ h in
      let size = sound_size_lem t _ h in
      let places = segment_places s _ k in
      let l = length_cut items (s.start + span.from) span.len (omega arith) in
      span_frame f cs _ _ _ _ _
      (λ g e. (sym (init_closed span.len cs t.start span.to items (s.start + span.from) (omega arith) (omega arith)), over_kept _ _ _ cs _ (omega arith) (omega arith) room))

  init_none : span.len ≡ 0 → stepped ≡ cs
  unfolding init_steps
  init_none e = ap (λ (k : ℕ). init_steps k cs t.start span.to items (s.start + span.from)) e

  init_bounds_lem : sound_table t (length cs) ≡ true → sound_segment s (length items) ≡ true
      → SpanFrame f cs stepped t.start (t.start + t.room) (init_bounds r t s cs items span f)
  unfolding init_bounds
  init_bounds_lem h k =
      span_pick f cs _ _ _ _ _ _
      (λ b.
      pick_case (SpanFrame f cs _ _ _) (eqb span.len 0) _ _
      (λ z. span_done_lem f cs _ _ _ f cs (sym (init_none (eqb-true span.len 0 z))) (same_kept _ _ cs))
      (init_some_lem h k (within_is span.to span.len t.size (both_1 _ _ b)) (within_is span.from span.len s.size (both_2 _ _ b))))

  pub init_frame : SpanFrame f cs (init_steps span.len cs t.start span.to items (s.start + span.from)) t.start (t.start + t.room) (init_table r t s cs items span f)
  unfolding init_kinds
  init_frame =
      rw init_reads
      (span_pick f cs _ _ _ _ _ _
      (λ h. span_pick f cs _ _ _ _ _ _ (λ k. init_bounds_lem (both_1 _ _ h) (both_2 _ _ h))))

-- set: one cell becomes the reference
pub record SetFrame (t : Table) (cs : List ℕ) (i bits : ℕ) (o : Done Answer) : Type 0 where
  pub accepted : (v : Value) → o.out ≡ Ok v → o.cells ≡ set cs (t.start + i) bits
  pub refused : (r : Refusal) → o.out ≡ Err r → o.cells ≡ cs
  pub kept : Kept t.start (t.start + t.room) cs o.cells

module _ (t : Table) (cs : List ℕ) (i : ℕ) (v : TypedRawRef) where
  abbrev SetTo : Done Answer → Type 0
  SetTo o = SetFrame t cs i v.raw.bits o

  set_refused : (r : Refusal) → SetTo (done (Err r) cs)
  set_refused r = record { accepted = (λ w q. absurd (no_value r w q)); refused = (λ s q. refl); kept = same_kept _ _ cs }

  set_one : t.start + i < length cs → over cs (t.start + i) (replicate 1 v.raw.bits) ≡ set cs (t.start + i) v.raw.bits
  unfolding fill_steps
  set_one h = sym (fill_closed 1 cs t.start i v.raw.bits (omega arith))

  set_done : sound_table t (length cs) ≡ true → i < t.size → SetTo (done (accept 0) (over cs (t.start + i) (replicate 1 v.raw.bits)))
  set_done h k =
      let room = sound_room_lem t _ h in
      let size = sound_size_lem t _ h in
      record {
        accepted = (λ w q. set_one (omega arith));
        refused = (λ s q. absurd (no_refusal _ s q));
        kept = fill_kept _ _ 1 _ _ cs (omega arith) (omega arith) room;
      }

  set_within : (b : Bool) → leb t.size i ≡ b → sound_table t (length cs) ≡ true
      → SetTo (pick b (done (Err (record { number = 10; amount = 0 })) cs) (done (accept 0) (over cs (t.start + i) (replicate 1 v.raw.bits))))
  unfolding pick
  set_within true e h = set_refused _
  set_within false e h = set_done h (leb-false _ _ e)

  pub set_frame : SetTo (set_table t cs i v)
  unfolding set_table set_sound
  set_frame =
      pick_case SetTo _ _ _ (λ h. pick_case SetTo _ _ _ (λ k. set_within _ refl h) (set_refused _)) (set_refused _)

-- grow: a refused growth leaves cells and table; no growth changes type, place or room; a sound table stays sound
pub record GrowFrame (t : Table) (cs : List ℕ) (o : Done GrownTable) : Type 0 where
  pub refused : (r : Refusal) → o.out.answer ≡ Err r → (o.cells ≡ cs) × (o.out.table ≡ t)
  pub kept : Kept t.start (t.start + t.room) cs o.cells
  pub same : o.out.table ≡ resized t o.out.table.size
  pub sound : sound_table t (length cs) ≡ true → sound_table o.out.table (length o.cells) ≡ true

size_least : (t : Table) → sound_size t ≡ true → t.ty.limits.minimum ≤ t.size
unfolding sound_size
size_least t e = leb-true _ _ (both_1 _ _ (both_2 _ _ e))

-- a larger size within type and room is sound
resized_sound : (t : Table) (size len : ℕ) → sound_table t len ≡ true → t.size ≤ size → size ≤ t.room → size < max_size t.ty.index
    → admits_of t.ty.limits size ≡ true → sound_table (resized t size) len ≡ true
unfolding sound_table sound_size table_bound
resized_sound t size len h k room small admits =
    let v : both (valid_table t.ty) (sound_size t) ≡ true = both_2 _ _ h in
    let least = size_least t (both_2 _ _ v) in
    let above : t.ty.limits.minimum ≤ size = omega arith in
    let below : size ≤ max_size t.ty.index - 1 = omega arith in
    both_true _ _ (both_1 _ _ h)
    (both_true _ _ (both_1 _ _ v)
    (both_true _ _ (le-leb _ _ room)
    (both_true _ _ (le-leb _ _ above) (both_true _ _ (le-leb _ _ below) admits))))

stays : (t : Table) (cs : List ℕ) (a : Answer) (f : Fuel) (l : Limiter) → GrowFrame t cs (done (answered a t f l) cs)
stays t cs a f l = record { refused = (λ s e. (refl, refl)); kept = same_kept _ _ cs; same = refl; sound = (λ h. h) }

module _ (r : ℕ) (t : Table) (cs : List ℕ) (f : Fuel) (l : Limiter) (h : sound_table t (length cs) ≡ true) where
  enlarged : (p : Result ⊤ Refusal) (g : Fuel) (m : Limiter) (size bits : ℕ) → t.size ≤ size
      → (p ≡ (Ok tt) → (size ≤ t.room) × (sound_table (resized t size) (length cs) ≡ true)) → GrowFrame t cs (enlarged_by p g m t cs size bits)
  unfolding enlarged_by
  enlarged (Err s) g m size bits k w = stays t cs _ g m
  enlarged (Ok tt) g m size bits k w =
      let in-room = (w refl).0 in
      let room = sound_room_lem t _ h in
      let kept : Kept t.start (t.start + t.room) cs (over cs (t.start + t.size) (replicate (size - t.size) bits)) = fill_kept _ _ (size - t.size) bits _ cs (omega arith) (omega arith) room in
      record { refused = (λ s e. absurd (no_refusal _ s e)); kept = kept; same = refl; sound = (λ q. rw kept.long (w refl).1) }

  grow_to_lem : (size bits : ℕ) → t.size ≤ size → size < max_size t.ty.index → GrowFrame t cs (grow_to r t cs size bits f l)
  unfolding grow_to grant_of
  grow_to_lem size bits k small =
      enlarged _ _ _ size bits k
      (λ e.
      let room = growth_fits r t size f l e in
      (room, resized_sound t size (length cs) h k room small (granted_admits l f _ _ _ e)))

  grow_sound_lem : (n : ℕ) (v : TypedRawRef) → GrowFrame t cs (grow_sound r t cs n v f l)
  unfolding grow_sound grow_some
  grow_sound_lem n v =
      pick_case (GrowFrame t cs) _ _ _
      (λ q.
      pick_case (GrowFrame t cs) _ _ _ (λ z. stays t cs _ f l)
      (pick_case (GrowFrame t cs) _ _ _ (λ e. grow_to_lem (t.size + n) v.raw.bits (omega arith) (ltb-true _ _ e)) (stays t cs _ f l)))
      (stays t cs _ f l)

pub grow_frame : (r : ℕ) (t : Table) (cs : List ℕ) (n : ℕ) (v : TypedRawRef) (f : Fuel) (l : Limiter) → GrowFrame t cs (grow_table r t cs n v f l)
grow_frame r t cs n v f l = rw grow_reads (pick_case (GrowFrame t cs) _ _ _ (λ h. grow_sound_lem r t cs f l h n v) (stays t cs _ f l))

-- new: a refused creation leaves the cells; the table that is made stands at the place given and is sound
pub record NewFrame (start room : ℕ) (cs : List ℕ) (o : Done CreatedTable) : Type 0 where
  pub refused : (r : Refusal) → o.out.made ≡ Err r → o.cells ≡ cs
  pub kept : Kept start (start + room) cs o.cells
  pub placed : (t : Table) → o.out.made ≡ Ok t → (t.start ≡ start) × (t.room ≡ room)
  pub sound : (t : Table) → o.out.made ≡ Ok t → sound_table t (length o.cells) ≡ true

made_same : {t u : Table} → ◌≡◌ {A = Result Table Refusal} (Ok t) (Ok u) → u ≡ t
made_same e = cc

not_made : (r : Refusal) (t : Table) → Err r ≡ Ok t → ⊥
not_made r t e = let z : ◌≡◌ {A = ℕ} 0 1 = cc in omega arith

-- the minimum of a valid type is a sound size
minimum_admitted : (l : Limits) (k : ℕ) → valid_limits l k ≡ true → admits_of l l.minimum ≡ true
unfolding valid_limits valid_maximum admits_of
minimum_admitted l k e = go l.bounded refl
  where
    go : (b : Bool) → l.bounded ≡ b → pick l.bounded (leb l.minimum l.maximum) true ≡ true
    go true p =
        let q : pick l.bounded (both (leb l.maximum k) (leb l.minimum l.maximum)) true ≡ true = both_2 _ _ e in
        pick_true _ _ _ p ∙ both_2 _ _ (sym (pick_true _ _ _ p) ∙ q)
    go false p = pick_false _ _ _ p

minimum_least : (l : Limits) (k : ℕ) → valid_limits l k ≡ true → leb l.minimum k ≡ true
unfolding valid_limits
minimum_least l k e = both_1 _ _ e

minimum_sound : (t : TableType) (start room len : ℕ) → sound_buffer start room len ≡ true → valid_table t ≡ true → t.limits.minimum ≤ room
    → sound_table (table_of t start room t.limits.minimum) len ≡ true
unfolding sound_table sound_size valid_table
minimum_sound t start room len h v k =
    both_true _ _ h
    (both_true _ _ v
    (both_true _ _ (le-leb _ _ k)
    (both_true _ _ (le-leb t.limits.minimum _ (le_refl _)) (both_true _ _ (minimum_least _ _ v) (minimum_admitted _ _ v)))))

module _ (start room : ℕ) (cs : List ℕ) where
  abbrev NewIn : Done CreatedTable → Type 0
  NewIn o = NewFrame start room cs o

  none_made : (l : Limiter) (r : Refusal) → NewIn (done (refused l r) cs)
  none_made l r = record { refused = (λ s e. refl); kept = same_kept _ _ cs; placed = (λ t e. absurd (not_made r t e)); sound = (λ t e. absurd (not_made r t e)) }

  module _ (h : sound_buffer start room (length cs) ≡ true) where
    made_by_lem : (p : Result ⊤ Refusal) (l : Limiter) (t : TableType) (bits : ℕ) → valid_table t ≡ true → (p ≡ (Ok tt) → t.limits.minimum ≤ room)
        → NewIn (made_by p l (table_of t start room t.limits.minimum) bits cs)
    unfolding made_by
    made_by_lem (Err r) l t bits v k = none_made l r
    made_by_lem (Ok tt) l t bits v k =
        let fits = k refl in
        let inside = buffer_within start room _ h in
        let kept : Kept start (start + room) cs (over cs start (replicate t.limits.minimum bits)) = fill_kept _ _ t.limits.minimum bits _ cs (omega arith) (omega arith) inside in
        record {
          refused = (λ s e. absurd (not_made s _ (sym e)));
          kept = kept;
          placed = (λ u e. (ap (λ (x : Table). x.start) (made_same e), ap (λ (x : Table). x.room) (made_same e)));
          sound = (λ u e. rw kept.long (ap (λ (x : Table). sound_table x (length cs)) (made_same e) ∙ minimum_sound t start room _ h v fits));
        }

    made_of_lem : (l : Limiter) (t : TableType) (bits : ℕ) → valid_table t ≡ true → NewIn (made_of l (table_of t start room t.limits.minimum) bits cs)
    unfolding made_of
    made_of_lem l t bits v = made_by_lem _ _ t bits v (λ e. leb-true _ _ (granted_creation l _ e))

    made_typed : (b : Result TableType Refusal) (l : Limiter) (init : TypedRawRef) → ((t : TableType) → b ≡ Ok t → valid_table t ≡ true) → NewIn (by_type b l start room init cs)
    unfolding by_type by_kind
    made_typed (Err r) l init v = none_made l r
    made_typed (Ok t) l init v = pick_case NewIn _ _ _ (λ k. made_of_lem l t init.raw.bits (v t refl)) (none_made l _)

-- a type that was built is valid
built_valid : (k : RefType) (wide : Bool) (l : Limits) (t : TableType) → build_table k wide l ≡ Ok t → valid_table t ≡ true
unfolding build_table validated
built_valid k wide l t = go (valid_table (table_type k wide l)) refl
  where
    go : (b : Bool) → valid_table (table_type k wide l) ≡ b → pick {A = Result TableType Refusal} (valid_table (table_type k wide l)) (Ok (table_type k wide l)) (Err (record { number = 1; amount = 0 })) ≡ Ok t
        → valid_table t ≡ true
    go true p e = let q : ◌≡◌ {A = Result TableType Refusal} (Ok (table_type k wide l)) (Ok t) = sym (pick_true _ _ _ p) ∙ e in cc
    go false p e =
        let q : ◌≡◌ {A = Result TableType Refusal} (Err (record { number = 1; amount = 0 })) (Ok t) = sym (pick_false _ _ _ p) ∙ e in
        let z : ◌≡◌ {A = ℕ} 0 1 = cc in absurd (omega arith)

pub new_frame : (w : WantedTable) (init : TypedRawRef) (start room : ℕ) (cs : List ℕ) (l : Limiter) → NewFrame start room cs (new_table w init start room cs l)
new_frame w init start room cs l =
    rw new_reads
    (pick_case (NewFrame start room cs) _ _ _ (λ h. made_typed start room cs h _ l init (λ t e. built_valid w.element w.wide w.limits t e)) (none_made start room cs l _))

-- segments: a refused one leaves the items; a new one stands at the place given; a new one and a dropped one are sound
pub record SegmentFrame (start places : ℕ) (items : List ℕ) (o : Done (Result ElementSegment Refusal)) : Type 0 where
  pub refused : (r : Refusal) → o.out ≡ Err r → o.cells ≡ items
  pub kept : Kept start (start + places) items o.cells
  pub placed : (s : ElementSegment) → o.out ≡ Ok s → (s.start ≡ start) × (s.places ≡ places)
  pub sound : (s : ElementSegment) → o.out ≡ Ok s → sound_segment s (length o.cells) ≡ true

same_segment : {s u : ElementSegment} → ◌≡◌ {A = Result ElementSegment Refusal} (Ok s) (Ok u) → u ≡ s
same_segment e = cc

no_segment_lem : (r : Refusal) (s : ElementSegment) → Err r ≡ Ok s → ⊥
no_segment_lem r s e = let z : ◌≡◌ {A = ℕ} 0 1 = cc in omega arith

pub segment_frame : (k : RefType) (start : ℕ) (items given : List ℕ) → SegmentFrame start (length given) items (new_segment k start items given)
unfolding new_segment sound_segment
segment_frame k start items given =
    pick_case (SegmentFrame start (length given) items) _ _ _
    (λ h.
    let kept : Kept start (start + length given) items (over items start given) = over_kept _ _ _ items given (le_refl _) (le_refl _) (buffer_within start _ _ h) in
    record {
      refused = (λ r e. absurd (no_segment_lem r _ (sym e)));
      kept = kept;
      placed = (λ s e. (ap (λ (x : ElementSegment). x.start) (same_segment e), ap (λ (x : ElementSegment). x.places) (same_segment e)));
      sound = (λ s e. rw kept.long (ap (λ (x : ElementSegment). sound_segment x (length items)) (same_segment e) ∙ both_true _ _ h (le-leb (length given) _ (le_refl _))));
    })
    (record { refused = (λ r e. refl); kept = same_kept _ _ items; placed = (λ s e. absurd (no_segment_lem _ s e)); sound = (λ s e. absurd (no_segment_lem _ s e)) })

pub dropped_sound : (s : ElementSegment) (len : ℕ) → sound_segment s len ≡ true → sound_segment (dropped s) len ≡ true
unfolding sound_segment
dropped_sound s len h = both_true _ _ (both_1 _ _ h) (le-leb 0 s.places (omega arith))
