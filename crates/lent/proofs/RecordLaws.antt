-- Laws of an operation on lent lists: the lists with the record that changed are the machine's records in front. Assumes nothing.
use Rattle.types.proofs.Prelude.{ℕ, ◌≤◌, ◌<◌, ◌≡◌, refl, sym, ap, subst, ◌∙◌, Bool, true, false, List, ◌++◌, arith, ltb, length, take, drop, ltb-true, leb-true}
use Rattle.types.proofs.Prelude.{length-append, length-drop, length-set, take_all, append-nil, le-leb, pick_true, pick_false, both_true, both_1, both_2, either}
use Rattle.std.proofs.lemmas.List.{take-append-drop, length-take-le, drop_at}
use Rattle.std.proofs.Math.ListN.{drop_of_length-le}
use Rattle.types.proofs.Picks.{pick_ap}
use Rattle.types.specs.{Pick.pick, Answer.Answer, declared.fuel.Fuel.Fuel}
use Rattle.memory.specs.declared.memory.Memory.{Memory}
use Rattle.table.specs.{declared.table.Table.Table, declared.element.ElementSegment.ElementSegment}
use Rattle.machine.specs.{Machine.capacity, Machine.Buffers, Outcome.changed, Outcome.settled, Step.Performed, Step.decide, Step.Stepped, Step.step}
use Rattle.machine.specs.{declared.records.Machine.Machine, declared.outcome.Change.Change, declared.operation.Operation.Operation}
use Rattle.lent.specs.declared.operate.Standing.{Standing}
use Rattle.lent.specs.Records.{Lent, lent, gathered, machine_of, in_front, long_enough, placed, lent_back, LentStepped, lent_stepped, unfit, step_placed, lent_step, Operates}
use Rattle.lent.proofs.Lists.{set_front}
use Rattle.machine.specs.declared.outcome.Change.TheVariants as change

-- each list of what is lent has its places
pub long_lists : (l : Lent) → placed l ≡ true → (8 ≤ length l.memories) × (8 ≤ length l.tables) × (8 ≤ length l.segments)
unfolding long_enough
long_lists l fit = (leb-true _ _ (both_1 _ _ fit), leb-true _ _ (both_1 _ _ (both_2 _ _ fit)), leb-true _ _ (both_2 _ _ (both_2 _ _ fit)))

-- a machine of one list is a machine of the list that is picked
pub picked : {A : Type 0} (build : List A → Machine) (t : Bool) {xs : List A} (ys zs : List A) → xs ≡ pick t ys zs → build xs ≡ pick t (build ys) (build zs)
picked build t ys zs e = ap build e ∙ pick_ap build t ys zs

-- the records that an operation changes, put in front of what is lent, are those that are lent with the change
module _ (l : Lent) where
  -- the lists, with a machine's records in front
  abbrev fronted : Machine → Machine
  fronted m = gathered (in_front m.memories l.memories) (in_front m.tables l.tables) (in_front m.segments l.segments) l.standing l.fuel

  -- the lists as they are
  abbrev whole_lists : Machine
  whole_lists = gathered l.memories l.tables l.segments l.standing l.fuel

  same_lists : fronted (machine_of l) ≡ whole_lists
  same_lists = (λ i. gathered (take-append-drop 8 l.memories i) (take-append-drop 8 l.tables i) (take-append-drop 8 l.segments i) l.standing l.fuel)

  -- a record where its place is among the 8, else none
  placed_change : (j : ℕ) (m n : Machine) → (j < 8 → fronted m ≡ n) → fronted (pick (ltb j 8) m (machine_of l)) ≡ pick (ltb j 8) n whole_lists
  placed_change j m n f =
      either (ltb j 8)
      (λ t. ap fronted (pick_true _ _ _ t) ∙ f (ltb-true j 8 t) ∙ sym (pick_true _ _ _ t))
      (λ t. ap fronted (pick_false _ _ _ t) ∙ same_lists ∙ sym (pick_false _ _ _ t))

  changed_lists : (c : Change) → fronted (changed c (machine_of l)) ≡ changed c whole_lists
  unfolding changed
  changed_lists change.Nothing = same_lists
  changed_lists (change.Memory j r) =
      placed_change j _ _ (λ h. λ i. gathered (sym (set_front 8 j l.memories r h) i) (take-append-drop 8 l.tables i) (take-append-drop 8 l.segments i) l.standing l.fuel)
  changed_lists (change.Table j r) =
      placed_change j _ _ (λ h. λ i. gathered (take-append-drop 8 l.memories i) (sym (set_front 8 j l.tables r h) i) (take-append-drop 8 l.segments i) l.standing l.fuel)
  changed_lists (change.Segment j r) =
      placed_change j _ _ (λ h. λ i. gathered (take-append-drop 8 l.memories i) (take-append-drop 8 l.tables i) (sym (set_front 8 j l.segments r h) i) l.standing l.fuel)

-- what is lent after an outcome, its lists from a machine of them
abbrev ended : Machine → Performed → LentStepped
ended m d =
    lent_stepped d.out.answer
    (lent m.memories m.tables m.segments (record { counts = d.out.counts; limiter = d.out.limiter }) d.out.fuel)
    d.buffers

module _ (r : ℕ) (l : Lent) (b : Buffers) (op : Operation) where
  stored_step : let d = decide r (machine_of l) b op in ended (changed d.out.change (gathered l.memories l.tables l.segments l.standing l.fuel)) d ≡ step_placed r l b op
  unfolding step_placed step settled
  stored_step =
      let d = decide r (machine_of l) b op in
      ap (λ (m : Machine). ended m d) (sym (changed_lists l d.out.change))

  -- what an operation on the machine of what is lent leaves in the lists is the step
  pub lent_steps : (d : Performed) (ms : List Memory) (ts : List Table) (gs : List ElementSegment) → placed l ≡ true → d ≡ decide r (machine_of l) b op
      → gathered ms ts gs l.standing l.fuel ≡ changed d.out.change (gathered l.memories l.tables l.segments l.standing l.fuel)
      → ended (gathered ms ts gs l.standing l.fuel) d ≡ lent_step r l b op
  unfolding lent_step
  lent_steps d ms ts gs fit e c =
      ap (λ (m : Machine). ended m d) c
      ∙ ap (λ (q : Performed). ended (changed q.out.change (gathered l.memories l.tables l.segments l.standing l.fuel)) q) e
      ∙ stored_step
      ∙ sym (pick_true _ _ _ fit)

  -- a list that is too short
  pub lent_short : placed l ≡ false → lent_stepped (unfit op) l b ≡ lent_step r l b op
  unfolding lent_step
  lent_short e = sym (pick_false _ _ _ e)

-- a list after an operation: as long as before, and past the eighth place as before
abbrev pub Kept : {A : Type 0} → List A → List A → Type 0
Kept before now = (length now ≡ length before) × (drop capacity now ≡ drop capacity before)

-- each of the lists so
abbrev AllKept : Lent → LentStepped → Type 0
AllKept l q = Kept l.memories q.lent.memories × Kept l.tables q.lent.tables × Kept l.segments q.lent.segments

-- 8 records in front of all further places are such a list
front_kept : {A : Type 0} (before first : List A) → 8 ≤ length before → length first ≡ length (take 8 before) → Kept before (first ++ drop 8 before)
front_kept before first h long =
    let eight : length first ≡ 8 = long ∙ length-take-le 8 before h in
    let sum = length-append first (drop 8 before) in
    let rest = length-drop 8 before in
    (omega (arith, h, eight, sum, rest), drop_at first (drop 8 before) 8 eight)

-- a change leaves each list as long as it was
abbrev Long : Machine → Machine → Type 0
Long m n = (length n.memories ≡ length m.memories) × (length n.tables ≡ length m.tables) × (length n.segments ≡ length m.segments)

pick_long : (t : Bool) (m n : Machine) → Long m n → Long m (pick t n m)
unfolding pick
pick_long true m n e = e
pick_long false m n e = (refl, refl, refl)

changed_long : (c : Change) (m : Machine) → Long m (changed c m)
unfolding changed
changed_long change.Nothing m = (refl, refl, refl)
changed_long (change.Memory j r) m = pick_long (ltb j 8) m _ (length-set m.memories j r, refl, refl)
changed_long (change.Table j r) m = pick_long (ltb j 8) m _ (refl, length-set m.tables j r, refl)
changed_long (change.Segment j r) m = pick_long (ltb j 8) m _ (refl, refl, length-set m.segments j r)

-- records go back to the first 8 places alone: whatever the operation and its answer, each lent list is as long as before, and
-- all its places past the eighth are as before
pub goes_within : (r : ℕ) (l : Lent) (b : Buffers) (op : Operation) (a : Answer) (ms : List Memory) (ts : List Table) (gs : List ElementSegment)
    (s : Standing) (f : Fuel) (bytes cells items : List ℕ) → Operates r l b op a ms ts gs s f bytes cells items
    → Kept l.memories ms × Kept l.tables ts × Kept l.segments gs
unfolding lent_step step_placed step settled
goes_within r l b op a ms ts gs s f bytes cells items e =
    either (placed l)
    (λ t.
    let h = long_lists l t in
    let k = changed_long (decide r (machine_of l) b op).out.change (machine_of l) in
    subst (AllKept l) (sym (e ∙ pick_true _ _ _ t))
    (front_kept l.memories _ h.0 k.0, front_kept l.tables _ h.1 k.1, front_kept l.segments _ h.2 k.2))
    (λ t. subst (AllKept l) (sym (e ∙ pick_false _ _ _ t)) ((refl, refl), (refl, refl), (refl, refl)))

-- the place of the record that changes, 0 where none does
unfoldable pub place_of : Change → ℕ
place_of change.Nothing = 0
place_of (change.Memory j r) = j
place_of (change.Table j r) = j
place_of (change.Segment j r) = j

-- the lists after an operation are those before it with one change, at one of the first 8 places
pub record PutWithin (l : Lent) (ms : List Memory) (ts : List Table) (gs : List ElementSegment) : Type 0 where
  pub put : Change
  pub within : place_of put < capacity
  pub lists : gathered ms ts gs l.standing l.fuel ≡ changed put (gathered l.memories l.tables l.segments l.standing l.fuel)

-- past the eighth place there is none, and no record changes
past_none : (c : Change) (m : Machine) → ltb (place_of c) 8 ≡ false → changed c m ≡ m
unfolding place_of changed
past_none change.Nothing m t = refl
past_none (change.Memory j r) m t = pick_false _ _ _ t
past_none (change.Table j r) m t = pick_false _ _ _ t
past_none (change.Segment j r) m t = pick_false _ _ _ t

module _ (l : Lent) where
  -- the lists after an operation, with the rest as it was lent
  abbrev lists_after : LentStepped → Machine
  lists_after q = gathered q.lent.memories q.lent.tables q.lent.segments l.standing l.fuel

  -- a machine's lists, with the rest of what is lent
  abbrev lists_of : Machine → Machine
  lists_of m = gathered m.memories m.tables m.segments l.standing l.fuel

  lists_pick : (t : Bool) (m n : Machine) → lists_of m ≡ m → lists_of n ≡ n → lists_of (pick t m n) ≡ pick t m n
  unfolding pick
  lists_pick true m n e f = e
  lists_pick false m n e f = f

  -- a change is of the lists alone
  lists_alone : (c : Change) → lists_of (changed c (whole_lists l)) ≡ changed c (whole_lists l)
  unfolding changed
  lists_alone change.Nothing = refl
  lists_alone (change.Memory j r) = lists_pick (ltb j 8) _ _ refl refl
  lists_alone (change.Table j r) = lists_pick (ltb j 8) _ _ refl refl
  lists_alone (change.Segment j r) = lists_pick (ltb j 8) _ _ refl refl

  put_within : (ms : List Memory) (ts : List Table) (gs : List ElementSegment) (c : Change)
      → gathered ms ts gs l.standing l.fuel ≡ changed c (whole_lists l) → PutWithin l ms ts gs
  unfolding place_of changed
  put_within ms ts gs c e =
      either (ltb (place_of c) 8)
      (λ t. record { put = c; within = ltb-true (place_of c) 8 t; lists = e })
      (λ t. record { put = change.Nothing; within = omega arith; lists = e ∙ past_none c _ t })

-- one record of one list changes at most, and it is among the first 8
pub place_within : (r : ℕ) (l : Lent) (b : Buffers) (op : Operation) (a : Answer) (ms : List Memory) (ts : List Table) (gs : List ElementSegment)
    (s : Standing) (f : Fuel) (bytes cells items : List ℕ) → Operates r l b op a ms ts gs s f bytes cells items → PutWithin l ms ts gs
unfolding lent_step changed
place_within r l b op a ms ts gs s f bytes cells items e =
    either (placed l)
    (λ t.
    let c = (decide r (machine_of l) b op).out.change in
    put_within l ms ts gs c
    (ap (lists_after l) (e ∙ pick_true _ _ _ t ∙ sym (stored_step r l b op)) ∙ lists_alone l c))
    (λ t. put_within l ms ts gs change.Nothing (ap (lists_after l) (e ∙ pick_false _ _ _ t)))

-- lists of 8 places are the machine's: the step on what is lent is the machine's
module _ (r : ℕ) (ms : List Memory) (ts : List Table) (gs : List ElementSegment) (s : Standing) (f : Fuel) (b : Buffers) (op : Operation)
    (em : length ms ≡ 8) (et : length ts ≡ 8) (eg : length gs ≡ 8) where
  all_placed : placed (lent ms ts gs s f) ≡ true
  unfolding long_enough
  all_placed = both_true _ _ (le-leb 8 (length ms) (omega (arith, em))) (both_true _ _ (le-leb 8 (length ts) (omega (arith, et))) (le-leb 8 (length gs) (omega (arith, eg))))

  -- no place is past the eighth
  nothing_after : {A : Type 0} (k l : List A) → length l ≡ 8 → k ++ drop 8 l ≡ k
  nothing_after {A = A} k l e = ap (λ (z : List A). k ++ z) (drop_of_length-le l {i = 8} (omega (arith, e))) ∙ append-nil k

  eight_all : {A : Type 0} (l : List A) → length l ≡ 8 → take 8 l ≡ l
  eight_all l e = take_all 8 l (omega (arith, e))

  abbrev whole : LentStepped → Stepped
  whole q =
      record {
        answer = q.answer;
        machine = gathered q.lent.memories q.lent.tables q.lent.segments q.lent.standing q.lent.fuel;
        buffers = q.buffers;
      }

  all_back : (p : Stepped) → whole (lent_stepped p.answer (lent_back p.machine (lent ms ts gs s f)) p.buffers) ≡ p
  all_back p =
      let n = p.machine in
      (λ i. record {
        answer = p.answer;
        machine = gathered (nothing_after n.memories ms em i) (nothing_after n.tables ts et i) (nothing_after n.segments gs eg i) (record { counts = n.counts; limiter = n.limiter }) n.fuel;
        buffers = p.buffers;
      })

  pub kept_step : (q : LentStepped) → q ≡ lent_step r (lent ms ts gs s f) b op → whole q ≡ step r (gathered ms ts gs s f) b op
  unfolding lent_step step_placed
  kept_step q e =
      ap whole (e ∙ pick_true _ _ _ all_placed) ∙ all_back (step r (machine_of (lent ms ts gs s f)) b op)
      ∙ (λ i. step r (gathered (eight_all ms em i) (eight_all ts et i) (eight_all gs eg i) s f) b op)
