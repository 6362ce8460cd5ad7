-- Every operation on every machine: the claims on answers, refusals and occasions. Assumes nothing.
use Rattle.types.proofs.Prelude.{refl, sym, ap, subst, ◌∙◌, false≢true, arith, pick_true, pick_false, both_left, both_right, both_then, either}
use Rattle.std.specs.Prelude.{ℕ, ◌≡◌, Bool, true, false, eqb, Ok, Err}
use Rattle.types.specs.{Names.refusal, Names.refuse, Names.Answer}
use Rattle.types.specs.{Pick.pick, Pick.both, Answer.number_of}
use Rattle.machine.specs.Names.{Buffers, sound_over, well_formed, metered, Stepped, Machine, Operation}
use Rattle.machine.specs.{Outcome.keeps, Outcome.changed, Outcome.settled, Step.on_none, Step.after, Step.decide, Step.step}
use Rattle.claims.specs.{Answers.accepted, Answers.listed, Answers.value_or_listed, Metered.Leaves, Occasions.occasion, Occasions.accepted_when}
use Rattle.claims.specs.{Effects.accepted_step, Script.asks, Script.heard, Script.moved_by}
use Rattle.claims.proofs.{Heard.unasked, Exit.Exit, Exit.accepts, Exit.refuses, Exiting.stays_number, Exiting.unpaid, Growth.value_number}
use Rattle.claims.proofs.{MemoryExits.fuel_exit, MemoryExits.new_memory_exit, MemoryExits.memory_exit}
use Rattle.claims.proofs.TableExits.{new_table_exit, table_exit, table_copy_exit, table_init_exit, drop_segment_exit, new_segment_exit}
use Rattle.machine.specs.declared.operation.Operation.TheVariants as op

-- every value is one of the list's answers
value_listed : (a : Answer) → accepted a ≡ true → value_or_listed a ≡ true
unfolding accepted value_or_listed
value_listed (Ok v) e = refl
value_listed (Err x) e = absurd (false≢true e)

-- the two refusals that stand before all others are of the list
first_listed : (listed (refusal 18 0) ≡ true) × (listed (refusal 19 0) ≡ true)
unfolding listed pick both
first_listed = (refl, refl)

-- each operation on a sound machine
exit : (r : ℕ) (m : Machine) (b : Buffers) (op : Operation) → sound_over m b ≡ true → well_formed op ≡ true → Exit r m b op (occasion r m b op)
exit r m b (op.Fuel o) s w = fuel_exit r m b o s w
exit r m b (op.NewMemory room wanted) s w = new_memory_exit r m b room wanted s w
exit r m b (op.Memory number o) s w = memory_exit r m b number o s w
exit r m b (op.NewTable room wanted initial) s w = new_table_exit r m b room wanted initial s w
exit r m b (op.Table number o) s w = table_exit r m b number o s w
exit r m b (op.TableCopy into source span) s w = table_copy_exit r m b into source span s w
exit r m b (op.TableInit table segment span) s w = table_init_exit r m b table segment span s w
exit r m b (op.DropSegment segment) s w = drop_segment_exit r m b segment s w
exit r m b (op.NewSegment element items) s w = new_segment_exit r m b element items s w

module _ (r : ℕ) (m : Machine) (b : Buffers) (op : Operation) where
  -- 18 and 19 leave everything
  first : (n : ℕ) → decide r m b op ≡ on_none (keeps m (refuse n 0)) b → accepted_when r m b op ≡ false → listed (refusal n 0) ≡ true
      → eqb n 8 ≡ false → eqb n 4 ≡ false → asks r m b op ≡ false → (sound_over m b ≡ true → n ≡ 19 → ⊥) → Exit r m b op (accepted_when r m b op)
  unfolding step settled changed number_of
  first n e w k p q a h =
      refuses (refusal n 0) m.fuel m.limiter
      (record {
        none = w;
        same = ap (after m) e;
        known = k;
        sound = h;
        fuel = sym (pick_false _ _ _ (unpaid r m b op n (stays_number r m b op (ap (after m) e)) p q));
        script = unasked r m b op a;
      })

  -- how it ends on any machine
  ends : Exit r m b op (accepted_when r m b op)
  unfolding decide
  ends =
      either (well_formed op)
      (λ w.
      either (sound_over m b)
      (λ s. subst (Exit r m b op) (sym (both_then _ _ w ∙ both_then _ _ s)) (exit r m b op s w))
      (λ s.
      first 19 (pick_true _ _ _ w ∙ pick_false _ _ _ s) (both_right _ _ (both_left _ _ s)) first_listed.1 refl refl (both_right _ _ (both_left _ _ s))
      (λ e z. false≢true (sym s ∙ e))))
      (λ w. first 18 (pick_false _ _ _ w) (both_left _ _ w) first_listed.0 refl refl (both_left _ _ w) (λ e z. omega (arith, z)))

  module _ {when : Bool} where
    -- an answer is a value exactly when the operation is accepted
    when_of : Exit r m b op when → accepted (step r m b op).answer ≡ when
    unfolding accepted accepted_step
    when_of (accepts w v e) = ap (λ (x : Stepped). accepted x.answer) e ∙ v ∙ sym w
    when_of (refuses x f l z) = ap (λ (y : Stepped). accepted y.answer) z.same ∙ sym z.none

    does_of : Exit r m b op when → accepted (step r m b op).answer ≡ true → step r m b op ≡ accepted_step r m b op
    does_of (accepts w v e) a = e
    does_of (refuses x f l z) a = absurd (false≢true (sym z.none ∙ sym (when_of (refuses x f l z)) ∙ a))

    leaves_of : Exit r m b op when → accepted (step r m b op).answer ≡ false → Leaves r m b op (step r m b op)
    leaves_of (accepts w v e) n = absurd (false≢true (sym n ∙ when_of (accepts w v e) ∙ w))
    leaves_of (refuses x f l z) n =
        let s = z.same in
        record {
          records = ap (λ (y : Stepped). y.machine) s ∙ sym (ap (λ (y : Stepped). metered m y.machine.fuel y.machine.limiter) s);
          cells = ap (λ (y : Stepped). y.buffers) s;
          fuel = ap (λ (y : Stepped). y.machine.fuel) s ∙ z.fuel;
        }

    script_of_lem : Exit r m b op when → accepted (step r m b op).answer ≡ false → (step r m b op).machine.limiter ≡ moved_by (heard r m b op) m.limiter
    script_of_lem (accepts w v e) n = absurd (false≢true (sym n ∙ when_of (accepts w v e) ∙ w))
    script_of_lem (refuses x f l z) n = ap (λ (y : Stepped). y.machine.limiter) z.same ∙ z.script

    listed_of : Exit r m b op when → value_or_listed (step r m b op).answer ≡ true
    unfolding value_or_listed
    listed_of (accepts w v e) = value_listed _ (when_of (accepts w v e) ∙ w)
    listed_of (refuses x f l z) = ap (λ (y : Stepped). value_or_listed y.answer) z.same ∙ z.known

    -- on a sound machine its number is not 19
    sound_of : Exit r m b op when → sound_over m b ≡ true → number_of (step r m b op).answer ≡ 19 → ⊥
    unfolding number_of
    sound_of (accepts w v e) s n =
        let z : ◌≡◌ {A = ℕ} 0 19 = sym (value_number _ (when_of (accepts w v e) ∙ w)) ∙ n in
        omega arith
    sound_of (refuses x f l z) s n = z.sound s (sym (ap (λ (y : Stepped). number_of y.answer) z.same) ∙ n)

  -- every answer is a value or a refusal of the list
  pub answer_or_refusal : value_or_listed (step r m b op).answer ≡ true
  answer_or_refusal = listed_of ends

  -- a refusal leaves all but fuel and limiter
  pub refusal_leaves : accepted (step r m b op).answer ≡ false → Leaves r m b op (step r m b op)
  refusal_leaves = leaves_of ends

  -- the script moved on by what the limiter heard
  pub refusal_script : accepted (step r m b op).answer ≡ false → (step r m b op).machine.limiter ≡ moved_by (heard r m b op) m.limiter
  refusal_script = script_of_lem ends

  -- accepted exactly on its occasion, and then it does what is described
  pub accepted_when_lem : accepted (step r m b op).answer ≡ accepted_when r m b op
  accepted_when_lem = when_of ends

  pub accepted_does : accepted (step r m b op).answer ≡ true → step r m b op ≡ accepted_step r m b op
  accepted_does = does_of ends

  -- on a sound machine no answer is 19
  pub not_unsound : sound_over m b ≡ true → number_of (step r m b op).answer ≡ 19 → ⊥
  not_unsound = sound_of ends
