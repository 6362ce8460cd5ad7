-- The stages of the code are the chains of checks that the definitions say. Assumes nothing.
use Rattle.std.specs.Prelude.{Ok, Err, Some, None, Option, Result, ⊤}
use Rattle.types.proofs.Prelude.{◌≡◌, ap, sym, ◌∙◌, Bool, true, false, List, ℕ, ◌+◌, ◌-◌, ◌^◌, eqb, leb, ltb, length, replicate, pick_true, pick_false, arith}
use Rattle.types.proofs.{Picks.pick_ap, Chains.growth_chain, Chains.creation_chain}
use Rattle.types.specs.{Pick.pick, Pick.both, Pick.unless, Done.Done, Done.done, Span.over, Answer.refusal, Answer.refuse, Answer.accept, Fuel.short, Fuel.paid}
use Rattle.types.specs.{Limiter.says_of, Limiter.moved, Limiter.heard_of, Limiter.noticed, declared.fuel.Fuel.Fuel, declared.limiter.Limiter.Limiter}
use Rattle.types.specs.MemoryType.{valid_exponent, valid_memory, build_memory, byte_size, minimum_bytes}
use Rattle.types.specs.{declared.memory_ty.WantedMemory.WantedMemory, declared.memory_ty.MemoryType.MemoryType, declared.answer.Refusal.Refusal, declared.limiter.Asked.Asked, stages.Grant.grant_creation, declared.grant.Growth.Growth}
use Rattle.memory.specs.Memory.{pages_of, resized, sound_memory}
use Rattle.memory.specs.Grow.{answered, may_have, grown_size, growth_price, grow_memory}
use Rattle.memory.specs.stages.Grow.{reach_pages, reach_of, enlarged_by, grant_of, grow_to, by_reach, grow_sound}
use Rattle.memory.specs.{stages.New.made_by, stages.New.made_of, stages.New.by_size, stages.New.by_type, stages.New.sized, stages.New.planned, declared.memory.Memory.Memory}
use Rattle.memory.specs.{declared.new.CreatedMemory.CreatedMemory, declared.grow.GrownMemory.GrownMemory}
use Rattle.memory.specs.New as new

module _ (m : Memory) (bs : List ℕ) (n : ℕ) (f : Fuel) (l : Limiter) where
  -- a growth within the bounds, from the limiter's question on
  abbrev granted : Done GrownMemory
  granted =
      pick (eqb (says_of l) 1) (done (answered (refuse 6 0) m f (moved l)) bs)
      (pick (eqb (says_of l) 2) (done (answered (refuse 4 0) m f (moved l)) bs)
      (pick (short f (growth_price m n f)) (done (answered (noticed (moved l) 7 (growth_price m n f)) m f (moved (moved l))) bs)
      (unless (leb (grown_size m n) m.room) (done (answered (noticed (moved l) 8 0) m (paid f (growth_price m n f)) (moved (moved l))) bs)
      (done (answered (accept (pages_of m)) (resized m (grown_size m n)) (paid f (growth_price m n f)) (moved l))
      (over bs (m.start + m.size) (replicate (grown_size m n - m.size) 0))))))

  to_chain : grow_to m bs (grown_size m n) f l ≡ granted
  unfolding grow_to grant_of enlarged_by pick
  to_chain =
      growth_chain (λ p g k. enlarged_by p g k m bs (grown_size m n)) l f true (growth_price m n f) (leb (grown_size m n) m.room)

  reach_chain : by_reach (reach_of m n) m bs f l ≡ unless (may_have m.ty (pages_of m + n)) (done (answered (refuse 6 0) m f l) bs) granted
  unfolding reach_pages by_reach
  reach_chain =
      pick_ap (λ to. by_reach to m bs f l) (may_have m.ty (pages_of m + n)) (Some (grown_size m n)) None
      ∙ ap (λ (g : Done GrownMemory). pick (may_have m.ty (pages_of m + n)) g (done (answered (refuse 6 0) m f l) bs)) to_chain

  pub grow_staged : grow_memory m bs n f l ≡ pick (sound_memory m (length bs)) (grow_sound m bs n f l) (done (answered (refuse 19 0) m f l) bs)
  unfolding grow_memory grow_sound
  grow_staged =
      ap (λ (g : Done GrownMemory). pick (sound_memory m (length bs)) (pick (eqb n 0) (done (answered (accept (pages_of m)) m f l) bs) g) (done (answered (refuse 19 0) m f l) bs))
      (sym reach_chain)

  -- by whether the record is sound, as the code tests it
  pub grow_goes : {g : Done GrownMemory} → sound_memory m (length bs) ≡ true → g ≡ grow_sound m bs n f l → g ≡ grow_memory m bs n f l
  grow_goes e q = q ∙ sym (grow_staged ∙ pick_true _ _ _ e)

  pub grow_stops : {g : Done GrownMemory} → sound_memory m (length bs) ≡ false → g ≡ done (answered (refuse 19 0) m f l) bs → g ≡ grow_memory m bs n f l
  grow_stops e q = q ∙ sym (grow_staged ∙ pick_false _ _ _ e)

-- by what limiter, fuel and room say of a growth to a size
pub grown_as : (m : Memory) (bs : List ℕ) (size : ℕ) (f : Fuel) (l : Limiter) {g : Growth} {p : Result ⊤ Refusal} → g ≡ grant_of m size f l → g.permit ≡ p
    → enlarged_by p g.fuel g.limiter m bs size ≡ grow_to m bs size f l
unfolding grow_to
grown_as m bs size f l {g} e q =
    ap (λ (x : Result ⊤ Refusal). enlarged_by x g.fuel g.limiter m bs size) (sym q)
    ∙ ap (λ (x : Growth). enlarged_by x.permit x.fuel x.limiter m bs size) e

-- by what the limiter and the room say
pub made_as : (l : Limiter) (m : Memory) (bs : List ℕ) {a : Asked} {p : Result ⊤ Refusal} → a ≡ grant_creation l (leb m.size m.room) → a.permit ≡ p
    → made_by p a.limiter m bs ≡ made_of l m bs
unfolding made_of
made_as l m bs {a} e q =
    ap (λ (x : Result ⊤ Refusal). made_by x a.limiter m bs) (sym q) ∙ ap (λ (x : Asked). made_by x.permit x.limiter m bs) e

-- by what the plan is: a creation of a type
pub plan_missed : (b : Result MemoryType Refusal) (start room : ℕ) {r : Refusal} → b ≡ Err r → Err r ≡ planned b start room
unfolding planned
plan_missed b start room e = sym (ap (λ (x : Result MemoryType Refusal). planned x start room) e)

plan_stops : (b : Result MemoryType Refusal) (start room : ℕ) (bs : List ℕ) (l : Limiter) {r : Refusal} → planned b start room ≡ Err r
    → done (new.refused l r) bs ≡ by_type b l start room bs
unfolding planned by_type sized by_size
plan_stops (Err s) start room bs l e = ap (λ (x : Result Memory Refusal). done {A = CreatedMemory} (record { made = x; limiter = l }) bs) (sym e)
plan_stops (Ok t) start room bs l {r} e = go (minimum_bytes t) e
  where
    go : (o : Option ℕ) → sized o t start room ≡ Err r → done (new.refused l r) bs ≡ by_size o l t start room bs
    go None q = ap (λ (x : Result Memory Refusal). done {A = CreatedMemory} (record { made = x; limiter = l }) bs) (sym q)
    go (Some size) q = let z : ◌≡◌ {A = ℕ} 0 1 = cc in absurd (omega arith)

plan_goes : (b : Result MemoryType Refusal) (start room : ℕ) (bs : List ℕ) (l : Limiter) {m : Memory} → planned b start room ≡ Ok m
    → made_of l m bs ≡ by_type b l start room bs
unfolding planned by_type sized by_size
plan_goes (Err s) start room bs l e = let z : ◌≡◌ {A = ℕ} 0 1 = cc in absurd (omega arith)
plan_goes (Ok t) start room bs l {m} e = go (minimum_bytes t) e
  where
    go : (o : Option ℕ) → sized o t start room ≡ Ok m → made_of l m bs ≡ by_size o l t start room bs
    go None q = let z : ◌≡◌ {A = ℕ} 0 1 = cc in absurd (omega arith)
    go (Some size) q =
        let h : new.memory_of t start room size ≡ m = cc in
        ap (λ (x : Memory). made_of l x bs) (sym h)

-- a memory that is planned stands where it is wanted
pub plan_place : (b : Result MemoryType Refusal) (start room : ℕ) {m : Memory} → planned b start room ≡ Ok m → (m.start ≡ start) × (m.room ≡ room)
unfolding planned sized
plan_place (Err s) start room e = let z : ◌≡◌ {A = ℕ} 0 1 = cc in absurd (omega arith)
plan_place (Ok t) start room {m} e = go (minimum_bytes t) e
  where
    go : (o : Option ℕ) → sized o t start room ≡ Ok m → (m.start ≡ start) × (m.room ≡ room)
    go None q = let z : ◌≡◌ {A = ℕ} 0 1 = cc in absurd (omega arith)
    go (Some size) q =
        let h : m ≡ new.memory_of t start room size = cc in
        (ap (λ (x : Memory). x.start) h, ap (λ (x : Memory). x.room) h)

module _ (w : WantedMemory) (start room : ℕ) (bs : List ℕ) (l : Limiter) where
  abbrev least : ℕ
  least = new.least_bytes w

  -- a creation of a valid type, from the limiter's question on
  abbrev made : Done CreatedMemory
  made =
      pick (eqb (says_of l) 1) (done (new.refused (moved l) (refusal 3 0)) bs)
      (pick (eqb (says_of l) 2) (done (new.refused (moved l) (refusal 4 0)) bs)
      (unless (leb least room) (done (new.refused (moved (moved l)) (heard_of (says_of (moved l)) (refusal 5 0))) bs)
      (done (record { made = Ok (new.memory_of (new.wanted w) start room least); limiter = moved l })
      (over bs start (replicate least 0)))))

  made_chain : made_of l (new.memory_of (new.wanted w) start room least) bs ≡ made
  unfolding made_of made_by
  made_chain = creation_chain (λ p k. made_by p k (new.memory_of (new.wanted w) start room least) bs) l (leb least room)

  size_chain : by_size (minimum_bytes (new.wanted w)) l (new.wanted w) start room bs
      ≡ unless (ltb least (2 ^ 64)) (done (new.refused l (refusal 2 0)) bs) made
  unfolding minimum_bytes byte_size by_size
  size_chain =
      pick_ap (λ to. by_size to l (new.wanted w) start room bs) (ltb least (2 ^ 64)) (Some least) None
      ∙ ap (λ (c : Done CreatedMemory). pick (ltb least (2 ^ 64)) c (done (new.refused l (refusal 2 0)) bs)) made_chain

  abbrev valid : Bool
  valid = both (valid_exponent w.exponent) (valid_memory (new.wanted w))

  type_chain : by_type (build_memory w.wide w.limits w.exponent) l start room bs
      ≡ unless valid (done (new.refused l (refusal 1 0)) bs) (unless (ltb least (2 ^ 64)) (done (new.refused l (refusal 2 0)) bs) made)
  unfolding build_memory by_type
  type_chain =
      pick_ap (λ t. by_type t l start room bs) valid (Ok (new.wanted w)) (Err (refusal 1 0))
      ∙ ap (λ (c : Done CreatedMemory). pick valid c (done (new.refused l (refusal 1 0)) bs)) size_chain

  pub new_staged : new.new_memory w start room bs l
      ≡ pick (leb (start + room) (length bs)) (by_type (build_memory w.wide w.limits w.exponent) l start room bs) (done (new.refused l (refusal 19 0)) bs)
  unfolding new.new_memory
  new_staged =
      ap (λ (c : Done CreatedMemory). pick (leb (start + room) (length bs)) c (done (new.refused l (refusal 19 0)) bs)) (sym type_chain)

  -- by whether the room is inside the buffer, as the code tests it
  pub new_goes : {c : Done CreatedMemory} → leb (start + room) (length bs) ≡ true → c ≡ by_type (build_memory w.wide w.limits w.exponent) l start room bs
      → c ≡ new.new_memory w start room bs l
  new_goes e q = q ∙ sym (new_staged ∙ pick_true _ _ _ e)

  pub new_stops : {c : Done CreatedMemory} → leb (start + room) (length bs) ≡ false → c ≡ done (new.refused l (refusal 19 0)) bs
      → c ≡ new.new_memory w start room bs l
  new_stops e q = q ∙ sym (new_staged ∙ pick_false _ _ _ e)

  -- a plan that is refused, and one that is not
  pub new_refused : {r : Refusal} → leb (start + room) (length bs) ≡ true → planned (build_memory w.wide w.limits w.exponent) start room ≡ Err r
      → done (new.refused l r) bs ≡ new.new_memory w start room bs l
  new_refused e q = new_goes e (plan_stops (build_memory w.wide w.limits w.exponent) start room bs l q)

  pub new_made : {m : Memory} {c : Done CreatedMemory} → leb (start + room) (length bs) ≡ true
      → planned (build_memory w.wide w.limits w.exponent) start room ≡ Ok m → c ≡ made_of l m bs → c ≡ new.new_memory w start room bs l
  new_made e q d = new_goes e (d ∙ plan_goes (build_memory w.wide w.limits w.exponent) start room bs l q)
