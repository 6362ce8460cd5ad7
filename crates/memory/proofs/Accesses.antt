-- Laws of an access: its address, and the bytes that a store leaves. Assumes nothing.
use Rattle.std.specs.Prelude.{Some, None, Option, Ok}
use Rattle.types.proofs.Prelude.{ℕ, ◌+◌, ◌-◌, ◌^◌, ◌≤◌, ◌<◌, ◌≡◌, refl, sym, ap, ◌∙◌, Bool, true, false, List, arith, ltb, lt-ltb, le-ltb, pick_true}
use Rattle.types.proofs.{Prelude.pick_false, Spans.within_is}
use Rattle.types.specs.{Pick.pick, Done.done, Span.inside, Span.cut, Span.over, Answer.accept}
use Rattle.memory.specs.LittleEndian.{le_bytes, le_value}
use Rattle.memory.specs.Access.{width_bytes, address_of, load_width, extend, loaded_of, load_found, load_at, store_width, store_found, store_at}
use Rattle.memory.specs.{declared.access.Width.Width, declared.access.LoadKind.LoadKind, declared.access.StoreKind.StoreKind}

-- the address of a sum that is no word, and of one that is
pub address_over : (size ptr offset n : ℕ) → 2 ^ 64 - 1 - ptr < offset → None ≡ address_of size ptr offset n
unfolding address_of
address_over size ptr offset n h =
    let g : 2 ^ 64 ≤ ptr + offset = omega arith in
    sym (pick_false _ _ _ (le-ltb _ _ g))

module _ (size ptr offset n : ℕ) (h : offset ≤ 2 ^ 64 - 1 - ptr) (g : ptr < 2 ^ 64) where
  word : address_of size ptr offset n ≡ pick (inside (ptr + offset) n size) (Some (ptr + offset)) None
  unfolding address_of
  word =
      let k : ptr + offset < 2 ^ 64 = omega arith in
      pick_true _ _ _ (lt-ltb _ _ k)

  pub address_at : inside (ptr + offset) n size ≡ true → Some (ptr + offset) ≡ address_of size ptr offset n
  address_at e = sym (word ∙ pick_true _ _ _ e)

  pub address_past : inside (ptr + offset) n size ≡ false → None ≡ address_of size ptr offset n
  address_past e = sym (word ∙ pick_false _ _ _ e)

-- an address that was found is the sum, and leaves room for the bytes
pub address_is : (size ptr offset n a : ℕ) → address_of size ptr offset n ≡ Some a → (a ≡ ptr + offset) × (a + n ≤ size)
unfolding address_of pick
address_is size ptr offset n a = go (ltb (ptr + offset) (2 ^ 64)) (inside (ptr + offset) n size) refl
  where
    go : (t u : Bool) → inside (ptr + offset) n size ≡ u → pick t (pick u (Some (ptr + offset)) None) None ≡ Some a → (a ≡ ptr + offset) × (a + n ≤ size)
    go true true e q =
        let k : a ≡ ptr + offset = cc in
        (k, omega (arith, within_is (ptr + offset) n size e))
    go true false e q = let z : ◌≡◌ {A = ℕ} 0 1 = cc in absurd (omega arith)
    go false u e q = let z : ◌≡◌ {A = ℕ} 0 1 = cc in absurd (omega arith)

-- an address that was found leaves room behind base for the bytes, however many
pub address_found : (size ptr offset n base len : ℕ) (r : Option ℕ) → r ≡ address_of size ptr offset n → base + size ≤ len → (a : ℕ) → r ≡ Some a → base + (a + n) ≤ len
address_found size ptr offset n base len r e h a q = omega (arith, (address_is size ptr offset n a (sym e ∙ q)).1)

-- what the code found of an access of width w, and where
module _ (size ptr offset : ℕ) {w v : Width} {n : ℕ} {r : Option ℕ} (p : w ≡ v) (q : n ≡ width_bytes w) (d : r ≡ address_of size ptr offset n) where
  pub asked : {x : Option ℕ} → r ≡ x → address_of size ptr offset (width_bytes v) ≡ x
  asked e = ap (λ (u : Width). address_of size ptr offset (width_bytes u)) (sym p) ∙ ap (address_of size ptr offset) (sym q) ∙ sym d ∙ e

-- a load by what was found
module _ (k : LoadKind) (bs : List ℕ) (base size ptr offset : ℕ) where
  pub loaded_at : {w : Width} {a v : ℕ} → w ≡ load_width k → address_of size ptr offset (width_bytes (load_width k)) ≡ Some a
      → v ≡ le_value (cut bs (base + a) (width_bytes w)) → Ok (extend k v) ≡ load_at k bs base size ptr offset
  unfolding load_at load_found loaded_of
  loaded_at {w} {a} p e q =
      ap (λ (x : ℕ). Ok (extend k x)) (q ∙ ap (λ (u : Width). le_value (cut bs (base + a) (width_bytes u))) p) ∙ ap (load_found k bs base) (sym e)

-- a store by what was found
module _ (k : StoreKind) (bs : List ℕ) (base size ptr offset v : ℕ) where
  pub stored_by : {w : Width} {a : ℕ} {cs : List ℕ} → w ≡ store_width k → address_of size ptr offset (width_bytes (store_width k)) ≡ Some a
      → cs ≡ over bs (base + a) (le_bytes (width_bytes w) v) → done (accept 0) cs ≡ store_at k bs base size ptr offset v
  unfolding store_at store_found
  stored_by {w} {a} p e q =
      ap (done (accept 0)) (q ∙ ap (λ (u : Width). over bs (base + a) (le_bytes (width_bytes u) v)) p) ∙ ap (store_found k bs base v) (sym e)

-- an accepted store, by where it goes
pub stored_at : (k : StoreKind) (bs : List ℕ) (base v a : ℕ) (f : Option ℕ) (w : Width) (cs : List ℕ) → f ≡ Some a → w ≡ store_width k
    → cs ≡ over bs (base + a) (le_bytes (width_bytes w) v) → done (accept 0) cs ≡ store_found k bs base v f
unfolding store_found
stored_at k bs base v a f w cs e q p =
    ap (done (accept 0)) (p ∙ ap (λ (x : Width). over bs (base + a) (le_bytes (width_bytes x) v)) q)
    ∙ ap (store_found k bs base v) (sym e)
