-- Laws of growth: how far it may reach, and what a granted one has. Assumes nothing.
use Rattle.std.specs.Prelude.{Ok, Some, None, Option}
use Rattle.types.proofs.Prelude.{ℕ, ◌+◌, ◌-◌, ◌*◌, ◌/◌, ◌^◌, ◌≤◌, ◌<◌, ◌≡◌, refl, sym, ap, ◌∙◌, Bool, true, false, arith, leb, ltb, lt-ltb, le-ltb, leb-true}
use Rattle.types.proofs.Prelude.{leb-false, pick_true, pick_false, both_2, both_left, both_right, both_then}
use Rattle.types.proofs.{Prices.too_large, Prices.product_fits, Sizes.page_pos, Grants.creation_fair, Grants.granted_growth}
use native.Mathlib.Nat.{add-mul, div-add-mod', mul-le-mul_left}
use Rattle.types.specs.{Pick.pick, Pick.both, Limits.admits_of, MemoryType.page_bytes, MemoryType.page_bound, MemoryType.byte_size, stages.Grant.grant_creation}
use Rattle.types.specs.{declared.fuel.Fuel.Fuel, declared.limiter.Limiter.Limiter, declared.limiter.Asked.Asked, declared.grant.Growth.Growth}
use Rattle.types.specs.{declared.memory_ty.MemoryType.MemoryType}
use Rattle.memory.specs.{Memory.pages_of, Memory.sound_memory, Grow.may_have, stages.Grow.reach_pages, stages.Grow.reach_of, stages.Grow.grant_of}
use Rattle.memory.specs.{stages.Facts.Held, stages.Facts.Roomy, declared.memory.Memory.Memory}
use Rattle.memory.proofs.Sounds.{Sound, sound_is}

-- the bytes of so many pages stay below 2^64, by a quotient
pub quotient_test : (n b : ℕ) → 0 < b → leb n ((2 ^ 64 - 1) / b) ≡ ltb (n * b) (2 ^ 64)
quotient_test n b h = go (leb n ((2 ^ 64 - 1) / b)) refl
  where
    go : (t : Bool) → leb n ((2 ^ 64 - 1) / b) ≡ t → t ≡ ltb (n * b) (2 ^ 64)
    go true e = sym (lt-ltb (n * b) (2 ^ 64) (product_fits n b (leb-true _ _ e)))
    go false e =
        let g : 2 ^ 64 - 1 < n * b = too_large n b (2 ^ 64 - 1) (λ z. absurd (omega (arith, z))) (leb-false _ _ e) in
        let k : 2 ^ 64 ≤ n * b = omega arith in
        sym (le-ltb (n * b) (2 ^ 64) k)

module _ (t : MemoryType) (n : ℕ) where
  abbrev admits : Bool
  admits = both (leb n (page_bound t)) (admits_of t.limits n)

  by_words : may_have t n ≡ both admits (ltb (n * page_bytes t.page) (2 ^ 64))
  unfolding may_have both
  by_words = go (leb n (page_bound t)) (admits_of t.limits n)
    where
      go : (a b : Bool) → both a (both b (ltb (n * page_bytes t.page) (2 ^ 64))) ≡ both (both a b) (ltb (n * page_bytes t.page) (2 ^ 64))
      go true b = refl
      go false b = refl

  pub may_not : both (leb n (page_bound t)) (admits_of t.limits n) ≡ false → false ≡ may_have t n
  may_not e = sym (by_words ∙ both_left _ _ e)

  pub may_by : (page : ℕ) → page ≡ page_bytes t.page → both (leb n (page_bound t)) (admits_of t.limits n) ≡ true → leb n ((2 ^ 64 - 1) / page) ≡ may_have t n
  may_by page p e =
      ap (λ (k : ℕ). leb n ((2 ^ 64 - 1) / k)) p ∙ quotient_test n (page_bytes t.page) (page_pos t.page)
      ∙ sym (by_words ∙ both_then _ _ e)

  -- so many pages have that size
  may_fit : may_have t n ≡ true → ltb (n * page_bytes t.page) (2 ^ 64) ≡ true
  may_fit e = both_2 _ _ (sym by_words ∙ e)

  pub reach_some : (r : Option ℕ) → may_have t n ≡ true → r ≡ byte_size (n * page_bytes t.page) → r ≡ reach_pages t n
  unfolding reach_pages byte_size
  reach_some r e q = q ∙ pick_true _ _ _ (may_fit e) ∙ sym (pick_true _ _ _ e)

  pub reach_none : may_have t n ≡ false → None ≡ reach_pages t n
  unfolding reach_pages
  reach_none e = sym (pick_false _ _ _ e)

  -- pages that are no word have no size
  pub reach_over : 2 ^ 64 ≤ n → None ≡ reach_pages t n
  reach_over h =
      let k : n * 1 ≤ n * page_bytes t.page = mul-le-mul_left n (page_pos t.page) in
      let g : 2 ^ 64 ≤ n * page_bytes t.page = omega arith in
      reach_none (by_words ∙ both_right _ _ (le-ltb _ _ g))

  -- what is reached are the pages' bytes
  pub reach_is : (size : ℕ) → reach_pages t n ≡ Some size → (may_have t n ≡ true) × (n * page_bytes t.page ≡ size)
  unfolding reach_pages pick
  reach_is size = go (may_have t n)
    where
      go : (u : Bool) → pick u (Some (n * page_bytes t.page)) None ≡ Some size → (u ≡ true) × (n * page_bytes t.page ≡ size)
      go true q = (refl, cc)
      go false q = let z : ◌≡◌ {A = ℕ} 0 1 = cc in absurd (omega arith)

pub reach_past : (m : Memory) (n pages : ℕ) → pages ≡ pages_of m → 2 ^ 64 - 1 - pages < n → None ≡ reach_of m n
reach_past m n pages e h = reach_over m.ty (pages_of m + n) (omega arith)

-- a growth of a sound memory reaches no less than before
pub reach_more : (m : Memory) (n len : ℕ) → Sound m len → m.size ≤ (pages_of m + n) * page_bytes m.ty.page
unfolding pages_of
reach_more m n len s =
    let b = page_bytes m.ty.page in
    omega (arith, add-mul (m.size / b) n b, div-add-mod' m.size b, s.pages)

pub reach_held : (m : Memory) (n len : ℕ) (r : Option ℕ) → sound_memory m len ≡ true → r ≡ reach_of m n → (size : ℕ) → r ≡ Some size → Held m size len
reach_held m n len r h e size q =
    let s = sound_is m len h in
    record {
      more = omega (arith, reach_more m n len s, (reach_is m.ty (pages_of m + n) size (sym e ∙ q)).1);
      inside = s.inside;
    }

-- what was granted lies in the room
pub created_room : (l : Limiter) (start room size len : ℕ) (a : Asked) → a ≡ grant_creation l (leb size room) → start + room ≤ len → a.permit ≡ (Ok tt) → start + size ≤ len
created_room l start room size len a e h q =
    let k : size ≤ room = leb-true _ _ ((creation_fair l (leb size room)).0 (ap (λ (x : Asked). x.permit) (sym e) ∙ q)) in
    omega arith

pub granted_room : (m : Memory) (size len : ℕ) (f : Fuel) (l : Limiter) (g : Growth) → g ≡ grant_of m size f l → Held m size len → g.permit ≡ (Ok tt) → Roomy m size len
unfolding grant_of
granted_room m size len f l g e h q =
    let k : size ≤ m.room = leb-true _ _ (granted_growth l f true _ (leb size m.room) (ap (λ (x : Growth). x.permit) (sym e) ∙ q)) in
    record { more = h.more; room = omega (arith, h.inside) }
