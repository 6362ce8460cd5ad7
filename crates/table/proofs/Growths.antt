-- What a granted creation or growth shows of the room, and the sizes that no index type reaches. Assumes nothing.
use Rattle.std.specs.Prelude.{Ok, Result, List, ⊤}
use Rattle.types.specs.declared.answer.Refusal.{Refusal}
use Rattle.types.proofs.Prelude.{◌≡◌, sym, ap, ◌∙◌, ℕ, ◌+◌, ◌-◌, ◌^◌, ◌≤◌, ◌<◌, arith, leb-true, le-ltb, leb, ltb, pick_false}
use Rattle.types.proofs.Grants.{granted_creation, granted_growth}
use Rattle.types.specs.{Pick.pick, IndexType.max_size, stages.Grant.grant_creation, declared.fuel.Fuel.Fuel, declared.grant.Growth.Growth}
use Rattle.types.specs.{declared.index_ty.IndexType.IndexType, declared.index_ty.IndexType.TheVariants.I32, declared.index_ty.IndexType.TheVariants.I64}
use Rattle.types.specs.{declared.limiter.Asked.Asked, declared.limiter.Limiter.Limiter}
use Rattle.table.specs.{stages.Facts.Roomed, stages.Facts.Roomy, stages.Grow.grant_of, stages.Grow.enlarged_by, stages.Grow.grow_to, declared.table.Table.Table}

-- the cells of a creation that is granted lie in the buffer
pub creation_room_lem : (l : Limiter) (start min room len : ℕ) {a : Asked} → start + room ≤ len → a ≡ grant_creation l (leb min room) → a.permit ≡ (Ok tt)
    → start + min ≤ len
creation_room_lem l start min room len h p e =
    let g : min ≤ room = leb-true _ _ (granted_creation l _ (ap (λ (x : Asked). x.permit) (sym p) ∙ e)) in
    omega arith

-- a growth that is granted has its room
pub growth_fits : (r : ℕ) (t : Table) (size : ℕ) (f : Fuel) (l : Limiter) → (grant_of r t size f l).permit ≡ (Ok tt) → size ≤ t.room
unfolding grant_of
growth_fits r t size f l e = leb-true _ _ (granted_growth _ _ _ _ _ e)

pub growth_room_lem : (r : ℕ) (t : Table) (size len : ℕ) (f : Fuel) (l : Limiter) {g : Growth} → Roomed t len → t.size ≤ size → g ≡ grant_of r t size f l
    → g.permit ≡ (Ok tt) → Roomy t size len
growth_room_lem r t size len f l h k p e =
    let q : size ≤ t.room = growth_fits r t size f l (ap (λ (x : Growth). x.permit) (sym p) ∙ e) in
    record { more = k; room = omega arith }

-- a sum that is not one of 64 bits
past_largest : (i : IndexType) (a n : ℕ) → 2 ^ 64 - 1 - a < n → max_size i ≤ a + n
past_largest I32 a n h = omega arith
past_largest I64 a n h = omega arith

pub grows_past : {A : Type 0} {x : A} (a b : A) (i : IndexType) (size n : ℕ) → 2 ^ 64 - 1 - size < n → x ≡ b → x ≡ pick (ltb (size + n) (max_size i)) a b
grows_past a b i size n h e = e ∙ sym (pick_false _ _ _ (le-ltb _ _ (past_largest i size n h)))

-- by what limiter, fuel and room say of a growth to a size
pub grown_as : (r : ℕ) (t : Table) (cs : List ℕ) (size bits : ℕ) (f : Fuel) (l : Limiter) {g : Growth} {p : Result ⊤ Refusal} → g ≡ grant_of r t size f l → g.permit ≡ p
    → enlarged_by p g.fuel g.limiter t cs size bits ≡ grow_to r t cs size bits f l
unfolding grow_to
grown_as r t cs size bits f l {g} e q =
    ap (λ (x : Result ⊤ Refusal). enlarged_by x g.fuel g.limiter t cs size bits) (sym q)
    ∙ ap (λ (x : Growth). enlarged_by x.permit x.fuel x.limiter t cs size bits) e
