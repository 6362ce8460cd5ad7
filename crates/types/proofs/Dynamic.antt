-- Laws of a memory's dynamic type: at the declared minimum it is the declared type, and a larger minimum matches what a smaller one does. Assumes nothing.
use Rattle.types.proofs.Prelude.{ℕ, ◌≤◌, ◌≡◌, refl, true, arith, le-leb, leb-true, both_true, both_1, both_2}
use Rattle.types.specs.{Limits.match_limits, MemoryType.match_memory, MemoryType.dynamic_memory, declared.memory_ty.MemoryType.MemoryType}

pub dynamic_declared : (t : MemoryType) → dynamic_memory t t.limits.minimum ≡ t
unfolding dynamic_memory
dynamic_declared t = refl

pub dynamic_matches : (t w : MemoryType) (n : ℕ) → t.limits.minimum ≤ n → match_memory t w ≡ true → match_memory (dynamic_memory t n) w ≡ true
unfolding match_memory match_limits dynamic_memory
dynamic_matches t w n h e =
    let more = both_2 _ _ e in
    let limits = both_2 _ _ more in
    let least = leb-true w.limits.minimum t.limits.minimum (both_1 _ _ limits) in
    both_true _ _ (both_1 _ _ e)
    (both_true _ _ (both_1 _ _ more) (both_true _ _ (le-leb w.limits.minimum n (omega arith)) (both_2 _ _ limits)))
