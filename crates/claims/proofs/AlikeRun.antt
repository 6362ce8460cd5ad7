-- Machines that agree on watched instances answer alike an operation that names no other and agree again, and so to the end of any list. Assumes nothing.
use Rattle.types.proofs.Prelude.{refl, sym, ap, subst, ◌∙◌, both_1, both_2, either}
use Rattle.std.specs.Prelude.{ℕ, ◌≡◌, true, List, [], ◌∷◌}
use Rattle.types.specs.{Names.Fuel, Names.Limiter}
use Rattle.memory.specs.Names.{Memory}
use Rattle.table.specs.Names.{Table}
use Rattle.machine.specs.Names.{Buffers, buffers, sound_over, metered, Stepped, step, Machine, Operation}
use Rattle.machine.specs.{Machine.next_byte, Machine.next_cell, Step.run, declared.fueling.Fueled.Fueled}
use Rattle.machine.proofs.{Laws.along, Kept.step_sound}
use Rattle.claims.specs.{Answers.accepted, Effects.accepted_step}
use Rattle.claims.specs.Alike.{Watched, names_only, all_name_only, Agree, SameStep, SameRun}
use Rattle.claims.proofs.{Exits.accepted_does, Left.refused_keeps, Alike.beside, Alike.of_step, Alike.step_alike}
use Rattle.claims.proofs.Agreeing.{segments_after, counts_after, items_after, memories_after, tables_after}

-- what two steps leave agrees
abbrev AgreeAfter : Watched → Stepped → Stepped → Type 0
AgreeAfter w s s' = Agree w s.machine s.buffers s'.machine s'.buffers

agree_by : (w : Watched) {x x' y y' : Stepped} → x ≡ y → x' ≡ y' → AgreeAfter w x x' → AgreeAfter w y y'
agree_by w p p' h = subst (λ (z : Stepped × Stepped). AgreeAfter w z.0 z.1) (λ i. (p i, p' i)) h

-- two sound machines that agree: the second is the first with memories and tables of its own
module _ (r : ℕ) (m : Machine) (b : Buffers) (ms : List Memory) (ts : List Table) (bs cs : List ℕ)
    (e : sound_over m b ≡ true) (e' : sound_over (beside m ms ts) (buffers bs cs b.items) ≡ true)
    (w : Watched) (g : Agree w m b (beside m ms ts) (buffers bs cs b.items)) where
  -- the second machine, and its buffers
  abbrev m' : Machine
  m' = beside m ms ts

  abbrev b' : Buffers
  b' = buffers bs cs b.items

  -- accepted: they agree where fuel and limiter do
  agree_accepted : (op : Operation) → names_only w op ≡ true → accepted (step r m b op).answer ≡ true → accepted (step r m' b' op).answer ≡ true
      → (accepted_step r m b op).machine.fuel ≡ (accepted_step r m' b' op).machine.fuel
      → (accepted_step r m b op).machine.limiter ≡ (accepted_step r m' b' op).machine.limiter
      → AgreeAfter w (accepted_step r m b op) (accepted_step r m' b' op)
  unfolding accepted_step
  agree_accepted op n a a' f l =
      let p = memories_after r m b ms ts bs cs e e' w g op n (a, a') in
      let q = tables_after r m b ms ts bs cs e e' w g op n (a, a') in
      record {
        rest = record {
          fuel = f;
          limiter = l;
          counts = counts_after r m b ms ts bs cs e e' w g op;
          bytes = p.room;
          cells = q.room;
          segments = segments_after r m b ms ts bs cs e e' w g op;
          items = items_after r m b ms ts bs cs e e' w g op (a, a');
        };
        memory = p.each;
        table = q.each;
      }

  -- refused: only fuel and limiter are others
  agree_refused : {f f' : Fuel} {l l' : Limiter} → f ≡ f' → l ≡ l' → Agree w (metered m f l) b (metered m' f' l') b'
  unfolding next_byte next_cell
  agree_refused p q =
      record {
        rest = record { fuel = p; limiter = q; counts = refl; bytes = g.rest.bytes; cells = g.rest.cells; segments = refl; items = refl };
        memory = λ i v h. let y = g.memory i v h in record { ty = y.ty; room = y.room; size = y.size; bytes = y.bytes };
        table = λ i v h. let y = g.table i v h in record { ty = y.ty; room = y.room; size = y.size; cells = y.cells };
      }

  -- the same answer, and machines that agree
  step_agrees : (op : Operation) → names_only w op ≡ true → SameStep w (step r m b op) (step r m' b' op)
  step_agrees op n =
      record {
        answer = answer;
        machines = either (accepted (step r m b op).answer)
            (λ a.
            let a' = sym (ap accepted answer) ∙ a in
            let d = accepted_does r m b op a in
            let d' = accepted_does r m' b' op a' in
            agree_by w (sym d) (sym d')
            (agree_accepted op n a a'
            (sym (ap (λ (x : Stepped). x.machine.fuel) d) ∙ fuel ∙ ap (λ (x : Stepped). x.machine.fuel) d')
            (sym (ap (λ (x : Stepped). x.machine.limiter) d) ∙ limiter ∙ ap (λ (x : Stepped). x.machine.limiter) d')))
            (λ a.
            agree_by w (sym (refused_keeps r m b op a)) (sym (refused_keeps r m' b' op (sym (ap accepted answer) ∙ a))) (agree_refused fuel limiter));
      }
    where
      seen : of_step (step r m b op) ≡ of_step (step r m' b' op)
      seen = step_alike r m b ms ts bs cs e e' w g op n

      answer : (step r m b op).answer ≡ (step r m' b' op).answer
      answer = ap (λ (x : Fueled). x.answer) seen

      fuel : (step r m b op).machine.fuel ≡ (step r m' b' op).machine.fuel
      fuel = ap (λ (x : Fueled). x.fuel) seen

      limiter : (step r m b op).machine.limiter ≡ (step r m' b' op).machine.limiter
      limiter = ap (λ (x : Fueled). x.limiter) seen

-- any two machines
pub alike : (r : ℕ) (w : Watched) (m : Machine) (b : Buffers) (m' : Machine) (b' : Buffers) (op : Operation)
    → sound_over m b ≡ true → sound_over m' b' ≡ true → Agree w m b m' b' → names_only w op ≡ true
    → SameStep w (step r m b op) (step r m' b' op)
alike r w m b m' b' op e e' g n =
    subst (λ (x : Machine × Buffers). P x.0 x.1) whole
    (λ h v. step_agrees r m b m'.memories m'.tables b'.bytes b'.cells e h w v op n)
    e' g
  where
    P : Machine → Buffers → Type 0
    P x y = sound_over x y ≡ true → Agree w m b x y → SameStep w (step r m b op) (step r x y op)

    whole : ◌≡◌ {A = Machine × Buffers} (beside m m'.memories m'.tables, buffers b'.bytes b'.cells b.items) (m', b')
    whole =
        (λ i. (
          record {
            memories = m'.memories;
            tables = m'.tables;
            segments = g.rest.segments i;
            counts = g.rest.counts i;
            fuel = g.rest.fuel i;
            limiter = g.rest.limiter i;
          },
          buffers b'.bytes b'.cells (g.rest.items i),
        ))

-- to the end of a list
pub alike_run : (r : ℕ) (w : Watched) (m : Machine) (b : Buffers) (m' : Machine) (b' : Buffers) (ops : List Operation)
    → sound_over m b ≡ true → sound_over m' b' ≡ true → Agree w m b m' b' → all_name_only w ops ≡ true
    → SameRun w (run r m b ops) (run r m' b' ops)
unfolding run all_name_only
alike_run r w m b m' b' [] e e' g n = record { answers = refl; machines = g }
alike_run r w m b m' b' (op ∷ ops) e e' g n =
    let s = alike r w m b m' b' op e e' g (both_1 _ _ n) in
    let x = step r m b op in
    let y = step r m' b' op in
    let t = alike_run r w x.machine x.buffers y.machine y.buffers ops (step_sound r m b op e) (step_sound r m' b' op e') s.machines (both_2 _ _ n) in
    record { answers = along ◌∷◌ s.answer t.answers; machines = t.machines }
