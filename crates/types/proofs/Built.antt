-- What building a type shows: a valid type, or refusal 1; and the bytes of its minimum. Assumes nothing.
use Rattle.std.specs.Prelude.{Ok, Err, Some, None, Result}
use Rattle.types.proofs.Prelude.{◌≡◌, sym, ap, ◌∙◌, Bool, true, ℕ, ◌*◌, ◌^◌, arith, ltb, eq-eqb, ne_eqb, pick_true, pick_false, both_2, either}
use Rattle.types.specs.{Answer.refusal, Pick.pick, Pick.both}
use Rattle.types.specs.MemoryType.{page_bytes, page_of, memory_type, valid_exponent, valid_memory, validated, build_memory, byte_size, minimum_bytes}
use Rattle.types.specs.{declared.answer.Refusal.Refusal, declared.limits.Limits.Limits, declared.memory_ty.MemoryType.MemoryType}
use Rattle.types.specs.declared.memory_ty.PageSize.TheVariants.{One, Wasm}

-- the bytes of a minimum that is below 2^64
pub minimum_is : (t : MemoryType) (size : ℕ) → minimum_bytes t ≡ Some size → t.limits.minimum * page_bytes t.page ≡ size
unfolding minimum_bytes byte_size
minimum_is t size q =
    let n = t.limits.minimum * page_bytes t.page in
    either (ltb n (2 ^ 64))
    (λ e. let d : Some n ≡ Some size = sym (pick_true _ _ _ e) ∙ q in cc)
    (λ e. let d : None ≡ Some size = sym (pick_false _ _ _ e) ∙ q in let z : ◌≡◌ {A = ℕ} 0 1 = cc in absurd (omega arith))

-- by the exponent, as the code tests it
module _ (wide : Bool) (limits : Limits) (e : ℕ) {r : Result MemoryType Refusal} where
  pub built_one : e ≡ 0 → r ≡ validated (memory_type wide One limits) → r ≡ build_memory wide limits e
  unfolding build_memory validated both pick
  built_one h q = q ∙ sym (rw (eq-eqb e 0 h))

  pub built_wasm : (e ≡ 0 → ⊥) → e ≡ 16 → r ≡ validated (memory_type wide Wasm limits) → r ≡ build_memory wide limits e
  unfolding build_memory validated both pick
  built_wasm h k q = q ∙ sym (rw (ne_eqb e 0 h, eq-eqb e 16 k))

pub built_none : (wide : Bool) (limits : Limits) (e : ℕ) → (e ≡ 0 → ⊥) → (e ≡ 16 → ⊥) → Err (refusal 1 0) ≡ build_memory wide limits e
unfolding build_memory both pick
built_none wide limits e h k = rw (ne_eqb e 0 h, ne_eqb e 16 k)

-- a built type is the one asked for and valid, and one that is not built is refused by 1
module _ (wide : Bool) (limits : Limits) (e : ℕ) where
  pub built_is : (t : MemoryType) → build_memory wide limits e ≡ Ok t → memory_type wide (page_of e) limits ≡ t
  unfolding build_memory
  built_is t q =
      either (both (valid_exponent e) (valid_memory (memory_type wide (page_of e) limits)))
      (λ h. let d : Ok (memory_type wide (page_of e) limits) ≡ Ok t = sym (pick_true _ _ _ h) ∙ q in cc)
      (λ h. let d : Err (refusal 1 0) ≡ Ok t = sym (pick_false _ _ _ h) ∙ q in let z : ◌≡◌ {A = ℕ} 0 1 = cc in absurd (omega arith))

  pub built_valid : (t : MemoryType) → build_memory wide limits e ≡ Ok t → valid_memory t ≡ true
  unfolding build_memory
  built_valid t q =
      either (both (valid_exponent e) (valid_memory (memory_type wide (page_of e) limits)))
      (λ h. ap valid_memory (sym (built_is t q)) ∙ both_2 _ _ h)
      (λ h. let d : Err (refusal 1 0) ≡ Ok t = sym (pick_false _ _ _ h) ∙ q in let z : ◌≡◌ {A = ℕ} 0 1 = cc in absurd (omega arith))

  pub built_refused : (r : Refusal) → build_memory wide limits e ≡ Err r → r ≡ refusal 1 0
  unfolding build_memory
  built_refused r q =
      either (both (valid_exponent e) (valid_memory (memory_type wide (page_of e) limits)))
      (λ h. let d : Ok (memory_type wide (page_of e) limits) ≡ Err r = sym (pick_true _ _ _ h) ∙ q in let z : ◌≡◌ {A = ℕ} 0 1 = cc in absurd (omega arith))
      (λ h. let d : Err (refusal 1 0) ≡ Err r = sym (pick_false _ _ _ h) ∙ q in cc)

-- what building a type needs
pub ruleset built = (built_one, built_wasm, built_none)
