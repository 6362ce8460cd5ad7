-- The ledger: the fuel left and the charges since make up the amount last set. Assumes nothing.
use Rattle.types.proofs.Prelude.{refl, sym, ap, subst, ◌∙◌, false≢true, arith, lt-ltb, leb-true, ltb-true, eqb-true, pick_true, pick_false, both_left}
use Rattle.types.proofs.Prelude.{both_right, both_1, both_2, either}
use Rattle.std.specs.Prelude.{ℕ, ◌+◌, ◌-◌, ◌*◌, ◌^◌, ◌≤◌, ◌<◌, ◌≡◌, Bool, true, false, List, [], ◌∷◌, ◌++◌, eqb, leb, ltb, get_or, set, Err}
use Rattle.types.specs.Names.{price, refusal, paid, admits_of, page_bytes, page_of, valid_exponent, Answer, Refusal, Fuel, FuelCosts, Limiter}
use Rattle.types.specs.Names.{TypedRawRef, WantedMemory, WantedTable}
use Rattle.types.specs.{Pick.pick, Pick.both, Answer.number_of, Limiter.heard_of, declared.memory_ty.PageSize.TheVariants.One}
use Rattle.types.specs.{declared.memory_ty.PageSize.TheVariants.Wasm}
use Rattle.memory.specs.Names.{Memory}
use Rattle.table.specs.Names.{Table}
use Rattle.machine.specs.Names.{Buffers, no_limits, no_memory, no_table, memory_at, table_at, sound_over, standing, one_memory_more, one_table_more, Stepped}
use Rattle.machine.specs.Names.{Counts, Machine, Change, Operation, FuelOp, MemoryOp, TableOp}
use Rattle.machine.specs.{Machine.fresh_machine, Sound.sound_memories, Sound.sound_tables, Operation.well_formed, Operation.memory_well_formed}
use Rattle.machine.specs.{Outcome.changed, Outcome.settled, Step.after, Step.decide, Step.step, Step.run}
use Rattle.machine.proofs.{Rooms.parts, ListLaws.few}
use Rattle.claims.specs.{Answers.accepted, Script.heard, Script.says_to}
use Rattle.claims.specs.Metered.{memory_metering, table_metering, metering_of, metering, price_of, affords, paid_refusal}
use Rattle.claims.specs.Occasions.{given, holds, comes, valid_wanted, fuel_occasion, checks_of, occasion}
use Rattle.claims.specs.Effects.{memory_effect, table_effect, fuel_effect, effect_of, spent, asked, effects, accepted_step}
use Rattle.claims.specs.Ledger.{Row, Book, blank, with_tables, row_at, erred, growth_charge, took, fuel_entry, grown, entry, limiter_says, book}
use Rattle.claims.proofs.{Checks.given_1, Exit.stays, Exiting.branch, Exiting.surely, Growth.Grew, MemoryExits.memory_grew}
use Rattle.claims.proofs.{TableExits.table_grew, Exits.refusal_leaves, Exits.accepted_when_lem, Exits.accepted_does, Bound.payable}
use Rattle.claims.proofs.{Bound.affords_is, Bound.fuel_after}
use Rattle.claims.proofs.Beside.{Beside, beside_same, beside_set, beside_add, beside_none}
use Rattle.machine.specs.declared.outcome.Change.TheVariants as change
use Rattle.machine.specs.declared.operation.Operation.TheVariants as op
use Rattle.machine.specs.declared.operation.FuelOp.TheVariants as fuel
use Rattle.machine.specs.declared.operation.MemoryOp.TheVariants as memory
use Rattle.machine.specs.declared.operation.TableOp.TheVariants as table
use Rattle.claims.proofs.Growth as growth

-- what the book has of a memory
abbrev page_size : Memory → ℕ
page_size x = page_bytes x.ty.page

-- and of a table
abbrev row_of : Table → Row
row_of x = record { limits = x.ty.limits; size = x.size }

-- where there is no table
abbrev no_row : Row
no_row = record { limits = no_limits; size = 0 }

-- fuel with metering on, B bytes a unit, and what is left and the charges since make up the amount last set
record Even (c : ℕ) (f : Fuel) (set since : ℕ) : Type 0 where
  on : f.enabled ≡ true
  rate : f.costs.copied ≡ c
  even : f.remaining + since ≡ set

-- a machine and a book that tell the same
record Balanced (c : ℕ) (m : Machine) (k : Book) : Type 0 where
  fuel : Even c m.fuel k.set k.since
  pages : Beside page_size no_memory 0 m.counts.memories m.memories k.pages
  rows : Beside row_of no_table no_row m.counts.tables m.tables k.tables

-- a price that is there is paid, and written down
spend : {c s n p q : ℕ} {f : Fuel} → Even c f s n → p ≤ f.remaining → q ≡ p → Even c (paid f p) s (n + q)
spend {c = c} {s = s} {n = n} {q = q} {f = f} w h e =
    surely (λ (x : Fuel). Even c x s (n + q)) f.enabled _ _ w.on (record { on = w.on; rate = w.rate; even = omega (arith, w.even) })

-- nothing is
nought : {c s n q : ℕ} {f : Fuel} → Even c f s n → q ≡ 0 → Even c f s (n + q)
nought w e = record { on = w.on; rate = w.rate; even = omega (arith, w.even) }

-- a test that picks two things at once
twice : {A B : Type 0} (P : A → B → Type 0) (t : Bool) (x y : A) (u v : B) → (t ≡ true → P x u) → (t ≡ false → P y v) → P (pick t x y) (pick t u v)
unfolding pick
twice P true x y u v f g = f refl
twice P false x y u v f g = g refl

-- a valid exponent is that of its page
page_of_lem : (e : ℕ) → valid_exponent e ≡ true → 2 ^ e ≡ page_bytes (page_of e)
page_of_lem e v =
    either (eqb e 0)
    (λ t. ap (λ (x : ℕ). 2 ^ x) (eqb-true e 0 t) ∙ sym (ap page_bytes (pick_true (eqb e 0) One Wasm t)))
    (λ t. ap (λ (x : ℕ). 2 ^ x) (eqb-true e 16 (sym (pick_false _ _ _ t) ∙ v)) ∙ sym (ap page_bytes (pick_false (eqb e 0) One Wasm t)))

module _ (k : Book) (said : List ℕ) (admits : Bool) (p : ℕ) where
  -- what the book charges for a growth, by its answer
  abbrev noted : Answer → ℕ
  noted a = growth_charge k a said admits p

  -- refused at 8 it had paid
  noted_8 : (x : Refusal) → eqb x.number 8 ≡ true → noted (Err x) ≡ p
  unfolding growth_charge accepted number_of
  noted_8 x e = pick_false _ _ _ refl ∙ pick_true _ _ _ e

  -- at 4 where it had erred
  noted_4 : noted (Err (refusal 4 0)) ≡ pick (erred k said admits p) p 0
  unfolding growth_charge accepted number_of both pick
  noted_4 = refl

  -- else not
  noted_else : (x : Refusal) → eqb x.number 8 ≡ false → both (eqb x.number 4) (erred k said admits p) ≡ false → noted (Err x) ≡ 0
  unfolding growth_charge accepted number_of
  noted_else x e d = pick_false _ _ _ refl ∙ pick_false _ _ _ e ∙ pick_false _ _ _ d

module _ (r c : ℕ) (m : Machine) (b : Buffers) (k : Book) (w : Balanced c m k) where
  -- the book with other amounts
  abbrev amounts : ℕ → ℕ → Book
  amounts set since = record { set = set; since = since; pages = k.pages; tables = k.tables }

  -- the price by the book
  by_rate : (x y : ℕ) → x ≡ y → price c x ≡ price m.fuel.costs.copied y
  by_rate x y e = (λ i. price (sym w.fuel.rate i) (e i))

  -- the price of what meets the fuel step is paid, and written down
  paid_even : (op : Operation) → affords m (price_of r m op) ≡ true
      → Even c (paid m.fuel (price_of r m op)) k.set (k.since + price c (metering r m op).bytes)
  paid_even op a = spend w.fuel (affords_is m _ w.fuel.on a) (by_rate _ _ refl)

  -- the records that a change leaves have the same entries
  abbrev Alike : Change → Type 0
  Alike change.Nothing = Unit
  Alike (change.Memory i x) = page_size x ≡ page_size (memory_at m i)
  Alike (change.Table i x) = row_of x ≡ row_of (table_at m i)
  Alike (change.Segment i x) = Unit

  -- after such a change, with other fuel and number of segments, beside a book with other amounts
  module _ (sound : sound_over m b ≡ true) (segments : ℕ) (f : Fuel) (l : Limiter) (s n : ℕ) (e : Even c f s n) where
    -- what is to be shown of the records
    abbrev So : Machine → Type 0
    So y = Balanced c (standing y (record { memories = m.counts.memories; tables = m.counts.tables; segments = segments }) f l) (amounts s n)

    -- no entry changes
    stands : (ch : Change) → Alike ch → So (changed ch m)
    unfolding changed sound_memories sound_tables
    stands change.Nothing q = record { fuel = e; pages = w.pages; rows = w.rows }
    stands (change.Memory i x) q =
        branch So (ltb i 8) _ _
        (λ t. record { fuel = e; pages = beside_same _ _ _ _ _ _ _ _ (parts m _ _ _ sound).memories _ w.pages x i q; rows = w.rows })
        (λ t. record { fuel = e; pages = w.pages; rows = w.rows })
    stands (change.Table i x) q =
        branch So (ltb i 8) _ _
        (λ t. record { fuel = e; pages = w.pages; rows = beside_same _ _ _ _ _ _ _ _ (parts m _ _ _ sound).tables _ w.rows x i q })
        (λ t. record { fuel = e; pages = w.pages; rows = w.rows })
    stands (change.Segment i x) q =
        branch So (ltb i 8) _ _
        (λ t. record { fuel = e; pages = w.pages; rows = w.rows })
        (λ t. record { fuel = e; pages = w.pages; rows = w.rows })

  -- the fuel after a growth is even with the book: with the charge, or where the growth is by 0 without
  record Fair (said : List ℕ) (n : ℕ) (admits : Bool) (p : ℕ) (s : Stepped) : Type 0 where
    some : ltb 0 n ≡ true → Even c s.machine.fuel k.set (k.since + noted k said admits p s.answer)
    none : ltb 0 n ≡ false → Even c s.machine.fuel k.set k.since

  -- a growth of one that is in use or not: by more than 0 it meets the fuel step, and where it is in use the book knows its price and whether its type admits it
  module _ (op : Operation) (used : Bool) (n : ℕ) (may admits : Bool) (p : ℕ) (same : used ≡ true → (p ≡ price_of r m op) × (may ≡ admits))
      (after-it : (effects r m b op).out.fuel ≡ pick (ltb 0 n) (paid m.fuel (price_of r m op)) m.fuel) (metered : (metering r m op).meets ≡ ltb 0 n)
      (in_use : occasion r m b op ≡ true → used ≡ true) where
    -- the limiter's answers
    abbrev said : List ℕ
    said = says_to (heard r m b op) m.limiter

    -- asked and not told it had not paid at 4; told it had where the type admits the size and the price was there
    erred_once : heard r m b op ≡ 1 → erred k said admits p ≡ false
    unfolding erred says_to both
    erred_once h = subst (λ (j : ℕ). erred k (says_to j m.limiter) admits p ≡ false) (sym h) refl

    erred_twice : heard r m b op ≡ 2 → erred k said admits p ≡ both admits (leb p (k.set - k.since))
    unfolding erred says_to both
    erred_twice h = subst (λ (j : ℕ). erred k (says_to j m.limiter) admits p ≡ both admits (leb p (k.set - k.since))) (sym h) refl

    -- nothing is taken, and nothing noted
    free : (x : Refusal) (l : Limiter) → eqb x.number 8 ≡ false → both (eqb x.number 4) (erred k said admits p) ≡ false
        → Fair said n admits p (stays m b x m.fuel l)
    free x l e d = record { some = λ z. nought w.fuel (noted_else k said admits p x e d); none = λ z. w.fuel }

    -- the price is there by the book where it is there
    there_by_book : used ≡ true → affords m (price_of r m op) ≡ leb p (k.set - k.since)
    unfolding affords
    there_by_book u =
        let e : k.set - k.since ≡ m.fuel.remaining = omega (arith, w.fuel.even) in
        pick_true _ _ _ w.fuel.on ∙ (λ i. leb (sym (same u).0 i) (sym e i))

    -- a refusal of which the limiter is told is noted where it paid
    noted_told : (told j a : ℕ) → used ≡ true → heard r m b op ≡ 2 → eqb j 4 ≡ false → eqb j 8 ≡ both may (affords m (price_of r m op))
        → noted k said admits p (Err (heard_of told (refusal j a))) ≡ pick (eqb j 8) p 0
    unfolding heard_of
    noted_told told j a u h d e =
        branch (λ (x : Refusal). noted k said admits p (Err x) ≡ pick (eqb j 8) p 0) _ _ _
        (λ t. noted_4 k said admits p ∙ ap (λ (t : Bool). pick t p 0) (erred_twice h ∙ (λ i. both (sym (same u).1 i) (sym (there_by_book u) i)) ∙ sym e))
        (λ t.
        either (eqb j 8)
        (λ y. noted_8 k said admits p (refusal j a) y ∙ sym (pick_true _ _ _ y))
        (λ y. noted_else k said admits p (refusal j a) y (both_left _ _ d) ∙ sym (pick_false _ _ _ y)))

    -- each way of a growth on a sound machine
    fair : Grew r m b op used n may → Fair said n admits p (step r m b op)
    unfolding accepted_step growth_charge
    fair (growth.before j l t x e d o s) = subst (Fair said n admits p) (sym s) (free _ l e (both_left _ _ d))
    fair (growth.erred h g o s) = subst (Fair said n admits p) (sym s) (free _ _ refl (both_right _ _ (erred_once h)))
    fair (growth.told j a h u z g o x d e q s) =
        subst (Fair said n admits p) (sym s)
        (record {
          some = λ t.
              subst (λ (v : ℕ). Even c (pick (eqb j 8) (paid m.fuel (price_of r m op)) m.fuel) k.set (k.since + v)) (sym (noted_told _ j a u h d e))
              (twice (λ (v : Fuel) (i : ℕ). Even c v k.set (k.since + i)) (eqb j 8) _ _ _ _
              (λ i. spend w.fuel (affords_is m _ w.fuel.on (both_2 _ _ (sym e ∙ i))) (same u).0)
              (λ i. nought w.fuel refl));
          none = λ t. absurd (false≢true (sym t ∙ z));
        })
    fair (growth.grown o v s) =
        subst (Fair said n admits p) (sym s)
        (record {
          some = λ t.
              subst (λ (x : Fuel). Even c x k.set (k.since + noted k said admits p (effects r m b op).out.answer)) (sym (after-it ∙ pick_true _ _ _ t))
              (spend w.fuel (affords_is m _ w.fuel.on (payable r m b op (metered ∙ t) o).affordable) (pick_true _ _ _ v ∙ (same (in_use o)).0));
          none = λ t. subst (λ (x : Fuel). Even c x k.set k.since) (sym (after-it ∙ pick_false _ _ _ t)) w.fuel;
        })

    -- on an unsound one it answers 19
    any_fair : well_formed op ≡ true → (sound_over m b ≡ true → Grew r m b op used n may) → Fair said n admits p (step r m b op)
    unfolding step decide settled changed
    any_fair q grew =
        either (sound_over m b)
        (λ e. fair (grew e))
        (λ e.
        subst (Fair said n admits p) (sym (ap (after m) (pick_true _ _ _ q ∙ pick_false _ _ _ e))) (free (refusal 19 0) m.limiter refl (both_left _ _ refl)))

  -- 11: a growth of a memory is fair
  memory_fair : (i n : ℕ) → let grow = op.Memory i (memory.Grow n) in
      Fair (says_to (heard r m b grow) m.limiter) n true (price c (n * get_or k.pages i 0)) (step r m b grow)
  unfolding well_formed memory_well_formed checks_of metering_of memory_metering effect_of
  memory_fair i n =
      any_fair (op.Memory i (memory.Grow n)) (ltb i m.counts.memories) n true true _
      (λ u. (by_rate _ _ (ap (λ (x : ℕ). n * x) (w.pages.each i (ltb-true _ _ u))), refl))
      refl refl (given_1 _ _ _) refl (memory_grew r m b i n)

  -- 21: and one of a table
  table_fair : (i n : ℕ) (v : TypedRawRef) → let grow = op.Table i (table.Grow n v) in
      Fair (says_to (heard r m b grow) m.limiter) n (admits_of (row_at k i).limits ((row_at k i).size + n)) (price c (n * r)) (step r m b grow)
  unfolding well_formed checks_of metering_of table_metering effect_of
  table_fair i n v =
      any_fair (op.Table i (table.Grow n v)) (ltb i m.counts.tables) n _ _ _
      (λ u. (by_rate _ _ refl, ap (λ (y : Row). admits_of y.limits (y.size + n)) (sym (w.rows.each i (ltb-true _ _ u)))))
      refl refl (given_1 _ _ _) refl (table_grew r m b i n v)

  -- of an accepted operation, by what it does
  taken : (op : Operation) (P : Stepped → Type 0) → accepted (step r m b op).answer ≡ true
      → (sound_over m b ≡ true → occasion r m b op ≡ true → P (accepted_step r m b op)) → P (step r m b op)
  taken op P t f =
      let v = both_2 _ _ (sym (accepted_when_lem r m b op) ∙ t) in
      subst P (sym (accepted_does r m b op t)) (f (both_1 _ _ v) (both_2 _ _ v))

  -- the records after a refused one
  left_alone : (op : Operation) → accepted (step r m b op).answer ≡ false → (s n : ℕ) → Even c (step r m b op).machine.fuel s n
      → Balanced c (step r m b op).machine (amounts s n)
  left_alone op t s n e =
      subst (λ (x : Machine). Balanced c x (amounts s n)) (sym (refusal_leaves r m b op t).records) (record { fuel = e; pages = w.pages; rows = w.rows })

  -- a refusal of what does not grow takes nothing
  refused_free : (op : Operation) → ltb 0 (metering r m op).more ≡ false → accepted (step r m b op).answer ≡ false → (step r m b op).machine.fuel ≡ m.fuel
  unfolding paid_refusal
  refused_free op g t = (refusal_leaves r m b op t).fuel ∙ pick_false _ _ _ (both_left _ _ g)

  -- the records after an operation that makes no memory or table and changes no entry
  settles : (op : Operation) (segments : ℕ) → (effects r m b op).out.counts ≡ record { memories = m.counts.memories; tables = m.counts.tables; segments = segments }
      → Alike (effects r m b op).out.change → (s n : ℕ) → Even c (step r m b op).machine.fuel s n → Balanced c (step r m b op).machine (amounts s n)
  unfolding accepted_step
  settles op g q like s n e =
      either (accepted (step r m b op).answer)
      (λ t.
      taken op (λ (x : Stepped). Even c x.machine.fuel s n → Balanced c x.machine (amounts s n)) t
      (λ sound o v.
      subst (λ (y : Counts). Balanced c (standing (changed (effects r m b op).out.change m) y (effects r m b op).out.fuel (effects r m b op).out.limiter) (amounts s n)) (sym q)
      (stands sound g _ _ s n v (effects r m b op).out.change like))
      e)
      (λ t. left_alone op t s n e)

  -- machine and book after an operation
  abbrev Kept : Operation → Type 0
  Kept op = Balanced c (step r m b op).machine (entry r c k op (step r m b op).answer (says_to (heard r m b op) m.limiter))

  -- an operation that is no growth and none of 01 to 04
  module _ (op : Operation) (flat : ltb 0 (metering r m op).more ≡ false) (after-it : (effects r m b op).out.fuel ≡ spent r m op) where
    -- refused it takes nothing, and where it does not meet the fuel step
    idle : (accepted (step r m b op).answer ≡ true → (metering r m op).meets ≡ false) → Even c (step r m b op).machine.fuel k.set k.since
    idle z =
        subst (λ (x : Fuel). Even c x k.set k.since)
        (sym (either (accepted (step r m b op).answer) (λ t. fuel_after r m b op t ∙ after-it ∙ pick_false _ _ _ (z t)) (refused_free op flat))) w.fuel

    -- else it pays, and the book says so
    steady : (admits : Bool) (said : List ℕ)
        → Even c (step r m b op).machine.fuel k.set (k.since + took c k (metering r m op) admits (step r m b op).answer said)
    unfolding took
    steady admits said =
        branch (λ (n : ℕ). Even c (step r m b op).machine.fuel k.set (k.since + n)) (metering r m op).meets _ _
        (λ z.
        subst (λ (n : ℕ). Even c (step r m b op).machine.fuel k.set (k.since + n)) (sym (pick_false _ _ _ flat))
        (branch (λ (n : ℕ). Even c (step r m b op).machine.fuel k.set (k.since + n)) (accepted (step r m b op).answer) _ _
        (λ t.
        subst (λ (x : Fuel). Even c x k.set (k.since + price c (metering r m op).bytes)) (sym (fuel_after r m b op t ∙ after-it ∙ pick_true _ _ _ z))
        (paid_even op (payable r m b op z (both_2 _ _ (both_2 _ _ (sym (accepted_when_lem r m b op) ∙ t)))).affordable))
        (λ t. nought (idle (λ y. absurd (false≢true (sym t ∙ y)))) refl)))
        (λ z. nought (idle (λ t. z)) refl)

  -- what the book says that the fuel step took of a growth is what it did
  grew_even : (said : List ℕ) (n : ℕ) (admits : Bool) (p x : ℕ) (s : Stepped) → Fair said n admits p s
      → Even c s.machine.fuel k.set (k.since + pick (ltb 0 n) (pick (ltb 0 n) (noted k said admits p s.answer) x) 0)
  grew_even said n admits p x s h =
      branch To (ltb 0 n) _ _ (λ z. surely To (ltb 0 n) _ _ z (h.some z)) (λ z. nought (h.none z) refl)
    where
      To : ℕ → Type 0
      To i = Even c s.machine.fuel k.set (k.since + i)

  -- a creation, refused or by what it makes
  made : (op : Operation) (new : Book) → ltb 0 (metering r m op).more ≡ false
      → (sound_over m b ≡ true → occasion r m b op ≡ true → Balanced c (accepted_step r m b op).machine new)
      → Balanced c (step r m b op).machine (pick (accepted (step r m b op).answer) new k)
  made op new flat f =
      branch (Balanced c (step r m b op).machine) _ _ _
      (λ t. taken op (λ (s : Stepped). Balanced c s.machine new) t f)
      (λ t. left_alone op t _ _ (subst (λ (x : Fuel). Even c x k.set k.since) (sym (refused_free op flat t)) w.fuel))

  -- 01 to 04: the fuel after it is even with the book
  entered : (o : FuelOp) → fuel_occasion m o ≡ true → Even c (fuel_effect m.fuel m.limiter o).fuel (fuel_entry k o).set (fuel_entry k o).since
  unfolding fuel_entry fuel_effect fuel_occasion
  entered (fuel.SetFuel n) e = record { on = w.fuel.on; rate = w.fuel.rate; even = omega arith }
  entered fuel.GetFuel e = w.fuel
  entered (fuel.Charge n) e =
      record { on = w.fuel.on; rate = w.fuel.rate; even = omega (arith, w.fuel.even, leb-true n m.fuel.remaining (both_2 _ _ e)) }
  entered (fuel.SetLimiter script) e = w.fuel

  -- which has no other entries
  fuel_made : (o : FuelOp) → amounts (fuel_entry k o).set (fuel_entry k o).since ≡ fuel_entry k o → Kept (op.Fuel o)
  unfolding entry metering_of accepted_step effect_of holds checks_of comes
  fuel_made o e =
      let p : m.fuel ≡ spent r m (op.Fuel o) = sym (pick_false _ _ _ refl) in
      let q : m.limiter ≡ asked r m b (op.Fuel o) = sym (pick_false _ _ _ refl) in
      let new : Book = fuel_entry k o in
      made (op.Fuel o) new refl
      (λ sound when.
      subst (Balanced c _) e
      (stands sound m.counts.segments _ _ _ _
      (subst (λ (x : Fuel × Limiter). Even c (fuel_effect x.0 x.1 o).fuel new.set new.since) (λ i. (p i, q i)) (entered o when)) change.Nothing tt))

  fuel_kept : (o : FuelOp) → Kept (op.Fuel o)
  unfolding fuel_entry
  fuel_kept (fuel.SetFuel n) = fuel_made (fuel.SetFuel n) refl
  fuel_kept fuel.GetFuel = fuel_made fuel.GetFuel refl
  fuel_kept (fuel.Charge n) = fuel_made (fuel.Charge n) refl
  fuel_kept (fuel.SetLimiter script) = fuel_made (fuel.SetLimiter script) refl

  -- 10: one more memory, and the bytes of its page
  new_memory_kept : (room : ℕ) (x : WantedMemory) → Kept (op.NewMemory room x)
  unfolding entry metering_of accepted_step effect_of changed holds checks_of given valid_wanted sound_memories
  new_memory_kept room x =
      let make : Operation = op.NewMemory room x in
      let new : Book = record { set = k.set; since = k.since; pages = k.pages ++ (2 ^ x.exponent ∷ []); tables = k.tables } in
      made make new refl
      (λ sound o.
      let free = both_1 _ _ (both_1 _ _ (both_1 _ _ o)) in
      let page = page_of_lem x.exponent (both_1 _ _ (both_1 _ _ (both_2 _ _ (both_1 _ _ o)))) in
      surely (λ (y : Machine). Balanced c (standing y (one_memory_more m.counts) (spent r m make) (effects r m b make).out.limiter) new) _ _ _ free
      (record {
        fuel = subst (λ (x : Fuel). Even c x k.set k.since) (sym (pick_false _ _ _ refl)) w.fuel;
        pages = beside_add _ _ _ _ _ _ _ _ (parts m _ _ _ sound).memories _ w.pages _ _ (ltb-true _ _ free) page;
        rows = w.rows;
      }))

  -- 20: one more table, and its row
  new_table_kept : (room : ℕ) (x : WantedTable) (v : TypedRawRef) → Kept (op.NewTable room x v)
  unfolding entry metering_of accepted_step effect_of changed holds checks_of given sound_tables
  new_table_kept room x v =
      let make : Operation = op.NewTable room x v in
      let new : Book = with_tables k (k.tables ++ (record { limits = x.limits; size = x.limits.minimum } ∷ [])) in
      made make new refl
      (λ sound o.
      let free = both_1 _ _ (both_1 _ _ (both_1 _ _ o)) in
      surely (λ (y : Machine). Balanced c (standing y (one_table_more m.counts) (spent r m make) (effects r m b make).out.limiter) new) _ _ _ free
      (record {
        fuel = subst (λ (x : Fuel). Even c x k.set k.since) (sym (pick_false _ _ _ refl)) w.fuel;
        pages = w.pages;
        rows = beside_add _ _ _ _ _ _ _ _ (parts m _ _ _ sound).tables _ w.rows _ _ (ltb-true _ _ free) refl;
      }))

  -- 11 to 14, 30
  memory_kept_lem : (i : ℕ) (o : MemoryOp) → Kept (op.Memory i o)
  unfolding entry took metering_of memory_metering effect_of memory_effect
  memory_kept_lem i (memory.Grow n) = settles (op.Memory i (memory.Grow n)) _ refl refl _ _ (grew_even _ n true _ _ _ (memory_fair i n))
  memory_kept_lem i memory.Size = settles _ _ refl refl _ _ (steady (op.Memory i memory.Size) refl refl true _)
  memory_kept_lem i (memory.Load kind pointer offset) = settles _ _ refl refl _ _ (steady (op.Memory i (memory.Load kind pointer offset)) refl refl true _)
  memory_kept_lem i (memory.Store kind pointer offset bits) = settles _ _ refl refl _ _ (steady (op.Memory i (memory.Store kind pointer offset bits)) refl refl true _)
  memory_kept_lem i (memory.LinkCheck wanted) = settles _ _ refl refl _ _ (steady (op.Memory i (memory.LinkCheck wanted)) refl refl true _)

  -- the cells that a table has after it
  sizes : (x : Table) (cs : List ℕ) (o : TableOp) → (table_effect x cs o).size ≡ x.size + (table_metering r o).more
  unfolding table_effect table_metering
  sizes x cs (table.Grow n v) = refl
  sizes x cs table.Size = omega arith
  sizes x cs (table.Get index) = omega arith
  sizes x cs (table.Set index value) = omega arith
  sizes x cs (table.Fill start value len) = omega arith

  -- 21 to 25: the fuel after it is even with the book
  table_even : (i : ℕ) (o : TableOp) → let a = admits_of (row_at k i).limits ((row_at k i).size + (table_metering r o).more) in
      Even c (step r m b (op.Table i o)).machine.fuel k.set
      (k.since + took c k (table_metering r o) a (step r m b (op.Table i o)).answer (says_to (heard r m b (op.Table i o)) m.limiter))
  unfolding took metering_of table_metering effect_of
  table_even i (table.Grow n v) = grew_even _ n _ _ _ _ (table_fair i n v)
  table_even i table.Size = steady (op.Table i table.Size) refl refl _ _
  table_even i (table.Get index) = steady (op.Table i (table.Get index)) refl refl _ _
  table_even i (table.Set index value) = steady (op.Table i (table.Set index value)) refl refl _ _
  table_even i (table.Fill start value len) = steady (op.Table i (table.Fill start value len)) refl refl _ _

  -- accepted, its row too
  grown_kept : (i : ℕ) (o : TableOp) (since : ℕ) → accepted (step r m b (op.Table i o)).answer ≡ true
      → Even c (step r m b (op.Table i o)).machine.fuel k.set since
      → Balanced c (step r m b (op.Table i o)).machine (grown k (amounts k.set since) i (table_metering r o).more)
  unfolding metering_of accepted_step effect_of changed sound_tables checks_of
  grown_kept i o since t =
      let x : Operation = op.Table i o in
      let longer : Row → Row = λ y. record { limits = y.limits; size = y.size + (table_metering r o).more } in
      let new : Book = grown k (amounts k.set since) i (table_metering r o).more in
      taken x (λ (s : Stepped). Even c s.machine.fuel k.set since → Balanced c s.machine new) t
      (λ sound when e.
      let h : i < m.counts.tables = ltb-true i m.counts.tables (given_1 _ _ _ when) in
      let lists = (parts m _ _ _ sound).tables in
      surely (λ (y : Machine). Balanced c (standing y m.counts (spent r m x) (effects r m b x).out.limiter) new) _ _ _
      (lt-ltb i 8 (omega (arith, few _ _ _ no_table m.counts.tables m.tables lists)))
      (record {
        fuel = e;
        pages = w.pages;
        rows = beside_set _ _ _ _ _ _ _ _ lists _ w.rows _ i _
            (λ h. ap longer (w.rows.each i h) ∙ (λ j. record { limits = (table_at m i).ty.limits; size = sym (sizes (table_at m i) b.cells o) j }));
      }))

  table_kept_lem : (i : ℕ) (o : TableOp) → Kept (op.Table i o)
  unfolding entry metering_of
  table_kept_lem i o =
      branch (Balanced c (step r m b (op.Table i o)).machine) (accepted (step r m b (op.Table i o)).answer) _ _
      (λ t. grown_kept i o _ t (table_even i o))
      (λ t. left_alone (op.Table i o) t _ _ (table_even i o))

  -- every operation keeps machine and book alike
  kept : (op : Operation) → Kept op
  unfolding entry metering_of effect_of
  kept (op.Fuel o) = fuel_kept o
  kept (op.NewMemory room wanted) = new_memory_kept room wanted
  kept (op.Memory number o) = memory_kept_lem number o
  kept (op.NewTable room wanted initial) = new_table_kept room wanted initial
  kept (op.Table number o) = table_kept_lem number o
  kept (op.TableCopy into source span) = settles _ _ refl tt _ _ (steady (op.TableCopy into source span) refl refl true _)
  kept (op.TableInit table segment span) = settles _ _ refl tt _ _ (steady (op.TableInit table segment span) refl refl true _)
  kept (op.DropSegment segment) = settles _ _ refl tt _ _ (idle (op.DropSegment segment) refl refl (λ t. refl))
  kept (op.NewSegment element items) = settles _ _ refl tt _ _ (idle (op.NewSegment element items) refl refl (λ t. refl))

-- a fresh machine and a blank book
fresh_balanced : (costs : FuelCosts) → Balanced costs.copied (fresh_machine true costs) blank
unfolding fresh_machine
fresh_balanced costs = record { fuel = record { on = refl; rate = refl; even = refl }; pages = beside_none _ _ _ _; rows = beside_none _ _ _ _ }

-- any operations keep machine and book alike
run_balanced : (r c : ℕ) (m : Machine) (b : Buffers) (k : Book) (ops : List Operation) → Balanced c m k
    → Balanced c (run r m b ops).machine (book r c k ops (run r m b ops).answers (limiter_says r m b ops))
unfolding run book limiter_says
run_balanced r c m b k [] w = w
run_balanced r c m b k (op ∷ ops) w =
    run_balanced r c (step r m b op).machine (step r m b op).buffers (entry r c k op (step r m b op).answer (says_to (heard r m b op) m.limiter)) ops (kept r c m b k w op)

-- at each moment, from a fresh machine
pub ledger : (r : ℕ) (costs : FuelCosts) (b : Buffers) (ops : List Operation)
    → let m = fresh_machine true costs in
    let k = book r costs.copied blank ops (run r m b ops).answers (limiter_says r m b ops) in
    (run r m b ops).machine.fuel.remaining + k.since ≡ k.set
ledger r costs b ops = (run_balanced r costs.copied (fresh_machine true costs) b blank ops (fresh_balanced costs)).fuel.even
