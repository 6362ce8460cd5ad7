-- What every proof of an operation's exits uses: a step comes to its checks, a check has two ways, and each exit is described. Assumes nothing.
use Rattle.types.proofs.Prelude.{refl, sym, ap, subst, ◌∙◌, arith, leb-true, ltb-true, ltb-false, le-leb, lt-leb, pick_true, pick_false, both_true, both_left}
use Rattle.types.proofs.{Prelude.both_right, Prelude.both_then, Picks.pick_same}
use Rattle.std.specs.Prelude.{ℕ, ◌+◌, ◌-◌, ◌≤◌, ◌<◌, ◌≡◌, Bool, true, false, List, eqb, leb, ltb, Err}
use Rattle.types.specs.Names.{unless, Done, done, span_done, refusal, refuse, accept, short, paid, says_of, moved, no_limiter, Answer, Refusal, Fuel}
use Rattle.types.specs.{Names.Spanned, Names.Limiter, Pick.pick, Pick.both, Answer.number_of, Limiter.heard_of}
use Rattle.machine.specs.Names.{Buffers, sound_over, well_formed, standing, metered, Stepped, Machine, Counts}
use Rattle.machine.specs.{Names.Change, Names.Operation, Names.FuelOp, Outcome.leaves, Outcome.keeps, Outcome.changed, Outcome.settled, Step.Performed}
use Rattle.machine.specs.{Step.on_none, Step.on_cells, Step.perform, Step.decide, Step.after, Step.step, declared.outcome.Outcome.Outcome}
use Rattle.claims.specs.{Answers.accepted, Answers.listed, Occasions.granted, Occasions.occasion, Occasions.question, Spans.put}
use Rattle.claims.specs.Metered.{metering, price_of, affords, grants, paid_refusal}
use Rattle.claims.specs.Effects.{fuel_effect, effect_of, spent, asked, effects, accepted_step}
use Rattle.claims.proofs.Heard.{Onward, no_question, heard_no, heard_told, moved_once, moved_twice}
use Rattle.claims.proofs.Exit.{stays, Exit, accepts, refuses}
use Rattle.machine.specs.declared.outcome.Change.TheVariants as change
use Rattle.machine.specs.declared.operation.Operation.TheVariants as op

-- a test's two ways, each with its equation
pub branch : {A : Type 0} (P : A → Type 0) (t : Bool) (x y : A) → (t ≡ true → P x) → (t ≡ false → P y) → P (pick t x y)
unfolding pick
branch P true x y f g = f refl
branch P false x y f g = g refl

-- a test that holds
pub surely : {A : Type 0} (P : A → Type 0) (t : Bool) (x y : A) → t ≡ true → P x → P (pick t x y)
surely P t x y e p = subst P (sym (pick_true t x y e)) p

-- a room no longer than what is left lies inside
pub room_inside : (next room len : ℕ) → next ≤ len → leb room (len - next) ≡ true → leb (next + room) len ≡ true
room_inside next room len h q =
    let g : room ≤ len - next = leb-true room (len - next) q in
    le-leb (next + room) len (omega arith)

-- a refusal of the list other than 19
pub record Named (x : Refusal) : Type 0 where
  pub known : listed x ≡ true
  pub sound : x.number ≡ 19 → ⊥

-- such a number, without an amount
pub named : (k : ℕ) → leb 1 k ≡ true → ltb k 19 ≡ true → Named (refusal k 0)
unfolding listed
named k p q =
    let h : k < 19 = ltb-true k 19 q in
    record {
      known = both_true _ _ (both_true _ _ p (le-leb k 19 (omega arith))) (pick_same (eqb k 7) true);
      sound = λ z. omega (arith, z);
    }

-- also where the limiter is told of it
pub heard_named : (said : ℕ) (x : Refusal) → Named x → Named (heard_of said x)
unfolding heard_of listed both pick
heard_named said x h = branch Named (eqb said 2) _ _ (λ t. record { known = refl; sound = λ q. omega arith }) (λ t. h)

-- 7 may have any amount
pub named_7 : (a : ℕ) → Named (refusal 7 a)
unfolding listed both pick
named_7 a = record { known = refl; sound = λ q. omega arith }

-- a limiter's no, and its own error, grant nothing
pub grants_no : (said : ℕ) → eqb said 1 ≡ true → grants said ≡ false
unfolding grants
grants_no said e = pick_true _ _ _ e

pub grants_error : (said : ℕ) → eqb said 2 ≡ true → grants said ≡ false
unfolding grants
grants_error said e = branch (λ (t : Bool). t ≡ false) (eqb said 1) _ _ (λ t. refl) (λ t. pick_true _ _ _ e)

pub grants_yes : (said : ℕ) → eqb said 1 ≡ false → eqb said 2 ≡ false → grants said ≡ true
unfolding grants
grants_yes said e d = pick_false _ _ _ e ∙ pick_false _ _ _ d

-- short of a price, and able to pay it, are opposites
pub short_not : (m : Machine) (p : ℕ) → short m.fuel p ≡ true → affords m p ≡ false
unfolding affords both pick
short_not m p = go m.fuel.enabled
  where
    go : (t : Bool) → both t (ltb m.fuel.remaining p) ≡ true → pick t (leb p m.fuel.remaining) true ≡ false
    go true e = lt-leb p m.fuel.remaining (ltb-true m.fuel.remaining p e)
    go false e = sym e

pub affords_all : (m : Machine) (p : ℕ) → short m.fuel p ≡ false → affords m p ≡ true
unfolding affords both pick
affords_all m p = go m.fuel.enabled
  where
    go : (t : Bool) → both t (ltb m.fuel.remaining p) ≡ false → pick t (leb p m.fuel.remaining) true ≡ true
    go true e = le-leb p m.fuel.remaining (ltb-false m.fuel.remaining p e)
    go false e = refl

-- no change leaves the machine
pub nothing_put : (m : Machine) → changed change.Nothing m ≡ m
unfolding changed
nothing_put m = refl

-- a refusal with a change that changes nothing leaves all but fuel and limiter
pub put_back_stays : (m : Machine) (b : Buffers) (c : Change) → changed c m ≡ m → (x : Refusal) (f : Fuel) (l : Limiter)
    → after m (on_none (record { answer = Err x; change = c; counts = m.counts; fuel = f; limiter = l }) b) ≡ stays m b x f l
unfolding settled
put_back_stays m b c k x f l = ap (λ (n : Machine). record { answer = Err x; machine = standing n m.counts f l; buffers = b }) k

-- the fuel and the limiter after an operation: of 01 to 04 their own, else as they come
pub by_kind : (m : Machine) (b : Buffers) (f : Fuel) (l : Limiter) (x : Operation) (P : Fuel → Limiter → Type 0)
    → ((o : FuelOp) → x ≡ op.Fuel o → P (fuel_effect f l o).fuel (fuel_effect f l o).limiter) → P f l
    → P (effect_of m b f l x).out.fuel (effect_of m b f l x).out.limiter
unfolding effect_of
by_kind m b f l (op.Fuel o) P own other = own o refl
by_kind m b f l (op.NewMemory room wanted) P own other = other
by_kind m b f l (op.Memory number o) P own other = other
by_kind m b f l (op.NewTable room wanted initial) P own other = other
by_kind m b f l (op.Table number o) P own other = other
by_kind m b f l (op.TableCopy into source span) P own other = other
by_kind m b f l (op.TableInit table segment span) P own other = other
by_kind m b f l (op.DropSegment segment) P own other = other
by_kind m b f l (op.NewSegment element items) P own other = other

-- what is shown of a step that came to these checks
abbrev pub Ends : ℕ → Machine → Buffers → Operation → Performed → Type 0
Ends r m b op p = step r m b op ≡ after m p → Exit r m b op (occasion r m b op)

-- a span operation's result, with the record that it puts back
abbrev pub spans : Machine → Change → Done Spanned → Done Outcome
spans m c s =
    done (record { answer = s.out.answer; change = c; counts = m.counts; fuel = s.out.fuel; limiter = m.limiter }) s.cells

-- what an accepted operation leaves, with such fuel and limiter
abbrev pub doing : Machine → Buffers → Operation → Fuel → Limiter → Performed
doing m b op f l =
    let e = effect_of m b f l op in
    on_none e.out (put b e.span)

module _ (r : ℕ) (m : Machine) (b : Buffers) (op : Operation) where
  -- on a sound machine a well-formed operation comes to its own checks
  pub step_is : sound_over m b ≡ true → well_formed op ≡ true → step r m b op ≡ after m (perform r m b op)
  unfolding step decide
  step_is e w = ap (after m) (pick_true _ _ _ w ∙ pick_true _ _ _ e)

  -- answer, change, numbers, fuel, limiter and buffers are the ones described
  pub accepted_is : {a : Answer} {c : Change} {k : Counts} {f : Fuel} {l : Limiter} {b' : Buffers}
      → a ≡ (effects r m b op).out.answer → c ≡ (effects r m b op).out.change → k ≡ (effects r m b op).out.counts → f ≡ (effects r m b op).out.fuel → l ≡ (effects r m b op).out.limiter
      → b' ≡ put b (effects r m b op).span
      → after m (on_none (record { answer = a; change = c; counts = k; fuel = f; limiter = l }) b') ≡ accepted_step r m b op
  unfolding accepted_step
  accepted_is ea ec ek ef el eb =
      (λ i. record { answer = ea i; machine = standing (changed (ec i) m) (ek i) (ef i) (el i); buffers = eb i })

  -- the number, and the number without a limiter
  abbrev pub number : ℕ
  number = number_of (step r m b op).answer

  abbrev pub quiet : ℕ
  quiet = number_of (step r (metered m m.fuel no_limiter) b op).answer

  -- the number of what stays is the refusal's
  pub stays_number : {x : Refusal} {f : Fuel} {l : Limiter} → step r m b op ≡ stays m b x f l → number ≡ x.number
  unfolding number_of
  stays_number q = ap (λ (s : Stepped). number_of s.answer) q

  -- whether a refusal paid, by its number
  pub paid_is : (k : ℕ) → number ≡ k
      → paid_refusal r m b op ≡ both (ltb 0 (metering r m op).more) (pick (eqb k 8) true (both (eqb k 4) (both (granted m) (eqb quiet 8))))
  unfolding paid_refusal
  paid_is k q = ap (λ (j : ℕ). both (ltb 0 (metering r m op).more) (pick (eqb j 8) true (both (eqb j 4) (both (granted m) (eqb quiet 8))))) q

  -- one with another number than 4 and 8 paid nothing
  pub unpaid : (k : ℕ) → number ≡ k → eqb k 8 ≡ false → eqb k 4 ≡ false → paid_refusal r m b op ≡ false
  unpaid k q e d = paid_is k q ∙ both_right _ _ (pick_false _ _ _ e ∙ both_left _ _ d)

module _ {r : ℕ} {m : Machine} {b : Buffers} {op : Operation} where
  -- so its exit is one of these
  pub ending : sound_over m b ≡ true → well_formed op ≡ true → Ends r m b op (perform r m b op) → Exit r m b op (occasion r m b op)
  ending e w f = f (step_is r m b op e w)

  -- refused, with the fuel that it takes and the script that it leaves
  pub refused_with : {x : Refusal} {f : Fuel} {l : Limiter} → Named x → occasion r m b op ≡ false → step r m b op ≡ stays m b x f l
      → f ≡ pick (paid_refusal r m b op) (paid m.fuel (price_of r m op)) m.fuel → Onward r m b op l → Exit r m b op (occasion r m b op)
  unfolding accepted
  refused_with {x = x} {f = f} {l = l} h o s p t =
      let a = ap (λ (y : Stepped). accepted y.answer) s in
      refuses x f l (record { none = o; same = s; known = h.known; sound = λ e. h.sound; fuel = p; script = t a })

  -- accepted, with fuel and limiter as they come
  pub accepting_by : (f : Fuel) (l : Limiter) → f ≡ spent r m op → l ≡ asked r m b op → occasion r m b op ≡ true
      → accepted (effects r m b op).out.answer ≡ true → Ends r m b op (doing m b op f l)
  unfolding accepted_step
  accepting_by f l p h o v q = accepts o v (q ∙ (λ i. after m (doing m b op (p i) (h i))))

  -- paying nothing, or its price, and asking nothing
  pub accepting : (metering r m op).meets ≡ false → question r m b op ≡ false → occasion r m b op ≡ true → accepted (effects r m b op).out.answer ≡ true
      → Ends r m b op (doing m b op m.fuel m.limiter)
  accepting p u = accepting_by m.fuel m.limiter (sym (pick_false _ _ _ p)) (sym (pick_false _ _ _ u))

  pub accepting_paid : (metering r m op).meets ≡ true → question r m b op ≡ false → occasion r m b op ≡ true → accepted (effects r m b op).out.answer ≡ true
      → Ends r m b op (doing m b op (paid m.fuel (price_of r m op)) m.limiter)
  accepting_paid p u = accepting_by _ m.limiter (sym (pick_true _ _ _ p)) (sym (pick_false _ _ _ u))

  -- the checks of a creation in sound room: 1, one more, limiter 3 or 4, 5 with notice
  pub creating : {X : Type 0} (out : X → Performed) (kept : Limiter → Refusal → X) (made : X) (sound valid more fits : Bool) (number : ℕ)
      → sound_over m b ≡ true → well_formed op ≡ true → sound ≡ true → Named (refusal number 0)
      → ((x : Refusal) (l : Limiter) → Named x → occasion r m b op ≡ false → Onward r m b op l → Ends r m b op (out (kept l x)))
      → question r m b op ≡ both valid more → occasion r m b op ≡ both (question r m b op) (both (granted m) fits)
      → (question r m b op ≡ true → occasion r m b op ≡ true → Ends r m b op (out made))
      → Ends r m b op
      (out
      (unless sound (kept m.limiter (refusal 19 0))
      (unless valid (kept m.limiter (refusal 1 0))
      (unless more (kept m.limiter (refusal number 0))
      (pick (eqb (says_of m.limiter) 1) (kept (moved m.limiter) (refusal 3 0))
      (pick (eqb (says_of m.limiter) 2) (kept (moved m.limiter) (refusal 4 0))
      (unless fits (kept (moved (moved m.limiter)) (heard_of (says_of (moved m.limiter)) (refusal 5 0))) made)))))))
  creating {X = X} out kept made sound valid more fits number e w s h refused a o f =
      surely To _ _ _ s
      (branch To _ _ _
      (λ v.
      branch To _ _ _
      (λ y.
      let q = a ∙ both_true _ _ v y in
      branch To _ _ _
      (λ t. denied 3 (named 3 refl refl) q (grants_no _ t))
      (λ t.
      branch To _ _ _
      (λ z. denied 4 (named 4 refl refl) q (grants_error _ z))
      (λ z.
      let g = grants_yes _ t z in
      branch To _ _ _
      (λ i. f q (o ∙ both_true _ _ q (both_true _ _ g i)))
      (λ i.
      refused _ _ (heard_named _ _ (named 5 refl refl)) (o ∙ both_right _ _ (both_right _ _ i))
      (λ n. moved_twice r m b op (heard_told r m b op e w q g n))))))
      (λ y. early _ h (a ∙ both_right _ _ y)))
      (λ v. early _ (named 1 refl refl) (a ∙ both_left _ _ v)))
    where
      To : X → Type 0
      To x = Ends r m b op (out x)

      -- before the limiter's question, and at it
      early : (x : Refusal) → Named x → question r m b op ≡ false → To (kept m.limiter x)
      early x k q = refused x _ k (o ∙ both_left _ _ q) (λ p. no_question r m b op q)

      denied : (k : ℕ) → Named (refusal k 0) → question r m b op ≡ true → granted m ≡ false → To (kept (moved m.limiter) (refusal k 0))
      denied k n q g = refused _ _ n (o ∙ both_right _ _ (both_left _ _ g)) (λ p. moved_once r m b op (heard_no r m b op e w q g))

  module _ (c : Change) (k : changed c m ≡ m) (g : ltb 0 (metering r m op).more ≡ false) where
    -- refused, no growth, with a change that changes nothing
    pub refusing_by : (x : Refusal) (l : Limiter) → Named x → occasion r m b op ≡ false
        → Onward r m b op l → Ends r m b op (on_none (record { answer = Err x; change = c; counts = m.counts; fuel = m.fuel; limiter = l }) b)
    unfolding paid_refusal
    refusing_by x l h o t q = refused_with h o (q ∙ put_back_stays m b c k x m.fuel l) (sym (pick_false _ _ _ (both_left _ _ g))) t

    module _ (u : question r m b op ≡ false) where
      -- that asks the limiter nothing
      pub refusing : (x : Refusal) → Named x → occasion r m b op ≡ false
          → Ends r m b op (on_none (record { answer = Err x; change = c; counts = m.counts; fuel = m.fuel; limiter = m.limiter }) b)
      refusing x h o = refusing_by x m.limiter h o (λ n. no_question r m b op u)

      -- the last check of a span operation: 7, else the price is paid and the cells are new
      pub paying : (p : ℕ) (new : List ℕ) → occasion r m b op ≡ affords m p
          → (occasion r m b op ≡ true → Ends r m b op (on_cells (spans m c (span_done (accept 0) (paid m.fuel p) new)) b))
          → Ends r m b op
          (on_cells
          (spans m c (pick (short m.fuel p) (span_done (refuse 7 p) m.fuel b.cells) (span_done (accept 0) (paid m.fuel p) new)))
          b)
      paying p new o f =
          branch (λ (s : Done Spanned). Ends r m b op (on_cells (spans m c s) b)) _ _ _
          (λ t. refusing (refusal 7 p) (named_7 p) (o ∙ short_not m p t))
          (λ t. f (o ∙ affords_all m p t))

      -- the checks before it: of the kind, and of the bounds
      pub spanning : (kind bounds last : Bool) (number : ℕ) (rest : Done Spanned) → Named (refusal number 0)
          → occasion r m b op ≡ both kind (both bounds last)
          → (occasion r m b op ≡ last → Ends r m b op (on_cells (spans m c rest) b))
          → Ends r m b op
          (on_cells
          (spans m c
          (unless kind (span_done (refuse 14 0) m.fuel b.cells) (unless bounds (span_done (refuse number 0) m.fuel b.cells) rest)))
          b)
      spanning kind bounds last number rest h o f =
          branch To kind _ _
          (λ t.
          branch To bounds _ _
          (λ y. f (o ∙ both_then _ _ t ∙ both_then _ _ y))
          (λ y. refusing (refusal number 0) h (o ∙ both_right _ _ (both_left _ _ y))))
          (λ t. refusing (refusal 14 0) (named 14 refl refl) (o ∙ both_left _ _ t))
        where
          To : Done Spanned → Type 0
          To s = Ends r m b op (on_cells (spans m c s) b)

  -- refused, no growth, with no change
  pub leaving_by : (x : Refusal) (l : Limiter) → Named x → ltb 0 (metering r m op).more ≡ false → occasion r m b op ≡ false → Onward r m b op l
      → Ends r m b op (on_none (leaves m (Err x) m.fuel l) b)
  leaving_by x l h g o t = refusing_by change.Nothing (nothing_put m) g x l h o t

  -- that asks the limiter nothing
  pub leaving : (x : Refusal) → Named x → ltb 0 (metering r m op).more ≡ false → question r m b op ≡ false → occasion r m b op ≡ false
      → Ends r m b op (on_none (keeps m (Err x)) b)
  leaving x h g u o = leaving_by x m.limiter h g o (λ n. no_question r m b op u)

  -- 16, whatever is not in use
  pub unknown : question r m b op ≡ false → occasion r m b op ≡ false → Ends r m b op (on_none (keeps m (refuse 16 0)) b)
  unfolding settled changed
  unknown u o q =
      refused_with (named 16 refl refl) o q (sym (pick_false _ _ _ (unpaid r m b op 16 (stays_number r m b op q) refl refl))) (λ n. no_question r m b op u)
