-- Laws of soundness: what the test shows, and the exits of the functions that test it. Assumes nothing.
use Rattle.types.proofs.Prelude.{ℕ, ◌+◌, ◌/◌, ◌%◌, ◌^◌, ◌≤◌, ◌<◌, ◌≡◌, sym, ap, ◌∙◌, Bool, true, false, arith, leb, le-leb, leb-true, eq-eqb, ne_eqb}
use Rattle.types.proofs.Prelude.{eqb-true, both_true, both_left, both_right, both_then, both_1, both_2}
use Rattle.types.specs.{Pick.both, stages.Held.held, Limits.admits_of, MemoryType.page_bytes, MemoryType.page_bound, MemoryType.valid_memory, IndexType.max_size}
use Rattle.types.specs.{declared.index_ty.IndexType.IndexType, declared.index_ty.IndexType.TheVariants.I64, declared.memory_ty.PageSize.PageSize}
use Rattle.types.specs.{declared.memory_ty.PageSize.TheVariants.One, declared.memory_ty.MemoryType.MemoryType}
use Rattle.memory.specs.{Memory.pages_of, Memory.sound_room, Memory.sound_size, Memory.sound_memory, declared.memory.Memory.Memory}

-- what a sound record has
pub record Sound (m : Memory) (len : ℕ) : Type 0 where
  pub inside : m.start + m.room ≤ len
  pub held : m.size ≤ m.room
  pub valid : valid_memory m.ty ≡ true
  pub pages : m.size % page_bytes m.ty.page ≡ 0
  pub least : m.ty.limits.minimum ≤ pages_of m
  pub most : pages_of m ≤ page_bound m.ty
  pub admitted : admits_of m.ty.limits (pages_of m) ≡ true

pub sound_is : (m : Memory) (len : ℕ) → sound_memory m len ≡ true → Sound m len
unfolding sound_memory sound_room sound_size
sound_is m len h =
    let room = both_1 _ _ h in
    let rest = both_2 _ _ h in
    let size = both_2 _ _ rest in
    let more = both_2 _ _ size in
    let most = both_2 _ _ more in
    record {
      inside = leb-true _ _ (both_1 _ _ room);
      held = leb-true _ _ (both_2 _ _ room);
      valid = both_1 _ _ rest;
      pages = eqb-true _ _ (both_1 _ _ size);
      least = leb-true _ _ (both_1 _ _ more);
      most = leb-true _ _ (both_1 _ _ most);
      admitted = both_2 _ _ most;
    }

pub is_sound : (m : Memory) (len : ℕ) → Sound m len → sound_memory m len ≡ true
unfolding sound_memory sound_room sound_size
is_sound m len s =
    both_true _ _
    (both_true _ _ (le-leb _ _ s.inside) (le-leb _ _ s.held))
    (both_true _ _ s.valid
    (both_true _ _ (eq-eqb _ _ s.pages)
    (both_true _ _ (le-leb _ _ s.least) (both_true _ _ (le-leb _ _ s.most) s.admitted))))

-- the bytes in use lie inside the buffer
pub sound_used : (m : Memory) (len : ℕ) → sound_memory m len ≡ true → m.start + m.size ≤ len
sound_used m len h =
    let s = sound_is m len h in
    omega (arith, s.inside, s.held)

-- the page bound of each case
pub bound_of : (t : MemoryType) (i : IndexType) (p : PageSize) (n : ℕ) → t.index ≡ i → t.page ≡ p → leb n (max_size i / page_bytes p) ≡ leb n (page_bound t)
unfolding page_bound
bound_of t i p n e d = ap (λ (x : IndexType). leb n (max_size x / page_bytes p)) (sym e) ∙ ap (λ (x : PageSize). leb n (max_size t.index / page_bytes x)) (sym d)

-- every size of 64 bits is within 2^64 pages of one byte
pub bound_all : (t : MemoryType) (n : ℕ) → n < 2 ^ 64 → t.index ≡ I64 → t.page ≡ One → true ≡ leb n (page_bound t)
bound_all t n h e d =
    let g : n ≤ 2 ^ 64 = omega arith in
    sym (le-leb n (2 ^ 64) g) ∙ bound_of t I64 One n e d

-- the exits of the size's test, by the pages of each case
module _ (m : Memory) (p : PageSize) (e : m.ty.page ≡ p) where
  pub size_broken : (m.size % page_bytes p ≡ 0 → ⊥) → false ≡ both (valid_memory m.ty) (sound_size m)
  unfolding sound_size
  size_broken h = sym (both_right _ _ (both_left _ _ (ne_eqb _ _ (λ q. h (ap (λ (x : PageSize). m.size % page_bytes x) (sym e) ∙ q)))))

  pub size_by : (r : Bool) → m.size % page_bytes p ≡ 0 → r ≡ held m.ty.limits (page_bound m.ty) (m.size / page_bytes p)
      → r ≡ both (valid_memory m.ty) (sound_size m)
  unfolding sound_size pages_of valid_memory
  size_by r h d =
      d ∙ ap (λ (x : PageSize). held m.ty.limits (page_bound m.ty) (m.size / page_bytes x)) (sym e)
      ∙ ap (both (valid_memory m.ty)) (sym (both_then _ _ (eq-eqb _ _ (ap (λ (x : PageSize). m.size % page_bytes x) e ∙ h))))

pub size_bytes : (m : Memory) → m.ty.page ≡ One → (r : Bool) → r ≡ held m.ty.limits (page_bound m.ty) m.size
    → r ≡ both (valid_memory m.ty) (sound_size m)
size_bytes m e r d =
    let k : m.size ≡ m.size / 1 = omega arith in
    let h : m.size % 1 ≡ 0 = omega arith in
    size_by m One e r h (d ∙ ap (held m.ty.limits (page_bound m.ty)) k)
