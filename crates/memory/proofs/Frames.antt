-- Laws for the layer above: what is stored is loaded; a refusal changes nothing; an acceptance changes its span alone; soundness is kept. Assumes nothing.
use Rattle.std.specs.Prelude.{Ok, Err, Some, None, Result, Option, ⊤}
use Rattle.types.proofs.Prelude.{ℕ, zero, suc, ◌+◌, ◌-◌, ◌*◌, ◌/◌, ◌%◌, ◌^◌, ◌≤◌, ◌<◌, ◌≡◌, refl, sym, ap, subst, ◌∙◌, true, false, List, [], ◌∷◌, arith, eqb}
use Rattle.types.proofs.Prelude.{leb, length, take, drop, get_or, replicate, length-replicate, leb-true, eqb-true, pick_true, pick_false, both_1, both_2, either}
use Rattle.types.proofs.{Spans.within_is, Spans.over_nil, Spans.over_span, Spans.over_after, Spans.cut_before, Spans.length_over, Moves.length_cut}
use Rattle.types.proofs.{Sizes.page_pos, Grants.Fair, Grants.creation_fair, Grants.growth_fair, Built.built_valid, Built.built_refused, Built.minimum_is}
use mathlib.Core.Logic.{◌⊎◌, inl, inr, ⊎_elim}
use native.Mathlib.Nat.{div-add-mod', mul-div_cancel, mul-mod_left}
use lib.{Arith.digits_mod, Arith.digits_div, Pow.mod-pow-add}
use Rattle.types.specs.{Pick.pick, Pick.both, Done.Done, Done.done, Span.inside, Span.cut, Span.over}
use Rattle.types.specs.{Answer.number_of, Answer.refusal, Answer.refuse, Answer.accept, Limits.admits_of, Limits.valid_maximum, Limits.valid_limits}
use Rattle.types.specs.MemoryType.{page_bytes, page_bound, valid_memory, build_memory, minimum_bytes}
use Rattle.types.specs.{Answer.Answer, declared.answer.Refusal.Refusal, declared.fuel.Fuel.Fuel, declared.limiter.Limiter.Limiter}
use Rattle.types.specs.{declared.memory_ty.MemoryType.MemoryType}
use Rattle.types.specs.declared.memory_ty.WantedMemory.{WantedMemory}
use Rattle.memory.specs.LittleEndian.{le_bytes, le_value}
use Rattle.memory.specs.Access.{width_bytes, address_of, load_width, extend, loaded_of, load_found, load_at, store_width, store_found, store_at}
use Rattle.memory.specs.Memory.{pages_of, resized, sound_memory, load_memory, store_memory}
use Rattle.memory.specs.{Host.read_used, Host.read_memory, Host.write_used, Host.write_memory, Grow.grown_size, declared.access.LoadKind.LoadKind}
use Rattle.memory.specs.{declared.access.StoreKind.StoreKind}
use Rattle.memory.specs.{declared.memory.Memory.Memory}
use Rattle.memory.specs.{declared.new.CreatedMemory.CreatedMemory, declared.grow.GrownMemory.GrownMemory}
use Rattle.memory.proofs.{Bytes.length_bytes, Accesses.address_is, Sounds.Sound, Sounds.sound_is, Sounds.is_sound, Growths.reach_is, Growths.reach_more}
use Rattle.memory.proofs.Readings.{grow_goes, grow_stops, new_goes, new_stops}
use Rattle.memory.specs.New as new
use Rattle.memory.specs.stages.New as new_stages
use Rattle.memory.specs.Grow as grow
use Rattle.memory.specs.stages.Grow as grow_stages

-- every cell a byte, past the end too
abbrev pub Octets : List ℕ → Type 0
Octets l = (i : ℕ) → get_or l i 0 < 256

-- the number of a number's bytes is its low bits
pub value_bytes : (n v : ℕ) → le_value (le_bytes n v) ≡ v % 2 ^ (8 * n)
unfolding le_bytes le_value
value_bytes zero v = omega arith
value_bytes (suc n) v =
    let e : 8 * suc n ≡ 8 * n + 8 = omega arith in
    let a : v % 2 ^ (8 * n + 8) ≡ (v / 2 ^ 8 % 2 ^ (8 * n)) * 2 ^ 8 + v % 2 ^ 8 = mod-pow-add v (8 * n) 8 in
    let h : le_value (le_bytes n (v / 256)) ≡ v / 256 % 2 ^ (8 * n) = value_bytes n (v / 256) in
    rw (h, e, a) (omega arith)

-- the bytes of the number of bytes are those
pub bytes_value : (bs : List ℕ) → Octets bs → le_bytes (length bs) (le_value bs) ≡ bs
unfolding le_bytes le_value
bytes_value [] h = refl
bytes_value (b ∷ bs) h =
    let s : b + 256 * le_value bs ≡ le_value bs * 256 + b = omega arith in
    let m : (le_value bs * 256 + b) % 256 ≡ b = digits_mod (le_value bs) (h 0) in
    let d : (le_value bs * 256 + b) / 256 ≡ le_value bs = digits_div (le_value bs) (h 0) in
    rw (s, m, d) (ap (λ (z : List ℕ). b ∷ z) (bytes_value bs (λ i. h (suc i))))

-- what was stored is loaded: the low bits, over the number of bytes
pub load_store : (bs : List ℕ) (at n v : ℕ) → at + n ≤ length bs → le_value (cut (over bs at (le_bytes n v)) at n) ≡ v % 2 ^ (8 * n)
unfolding cut
load_store bs at n v h =
    let ws = le_bytes n v in
    ap (λ (k : ℕ). le_value (take k (drop at (over bs at ws)))) (sym (length_bytes n v))
    ∙ ap le_value (over_span bs at ws (omega arith))
    ∙ value_bytes n v

-- only cells from lo up to hi differ
pub record Within (bs : List ℕ) (lo hi : ℕ) (cs : List ℕ) : Type 0 where
  pub at : ℕ
  pub vs : List ℕ
  pub low : lo ≤ at
  pub high : at + length vs ≤ hi
  pub cells : cs ≡ over bs at vs

within_none : (bs : List ℕ) (lo hi : ℕ) (cs : List ℕ) → lo ≤ hi → cs ≡ bs → Within bs lo hi cs
within_none bs lo hi cs h e =
    record { at = lo; vs = []; low = omega arith; high = omega arith; cells = e ∙ sym (over_nil bs lo) }

module _ (bs : List ℕ) (lo hi : ℕ) (cs : List ℕ) (w : Within bs lo hi cs) (h : hi ≤ length bs) where
  pub within_length : length cs ≡ length bs
  within_length = ap length w.cells ∙ length_over bs w.at w.vs (omega (arith, w.high))

  -- cells apart from the span are as they were
  pub within_before : (b k : ℕ) → b + k ≤ lo → cut cs b k ≡ cut bs b k
  within_before b k g =
      ap (λ (l : List ℕ). cut l b k) w.cells ∙ cut_before bs w.at w.vs b k (omega (arith, w.high)) (omega (arith, w.low))

  pub within_after : (b k : ℕ) → hi ≤ b → cut cs b k ≡ cut bs b k
  unfolding cut
  within_after b k g =
      ap (λ (l : List ℕ). take k (drop b l)) w.cells
      ∙ ap (take k) (over_after bs w.at w.vs b (omega (arith, w.high)) (omega (arith, w.high)))

-- a refused store, read or write
pub record Kept (bs : List ℕ) (s : Done Answer) : Type 0 where
  pub number : 0 < number_of s.out
  pub cells : s.cells ≡ bs

-- a store of v at the address a within the size bytes from base on
pub record Stores (k : StoreKind) (bs : List ℕ) (base size ptr offset v : ℕ) (s : Done Answer) : Type 0 where
  pub address : address_of size ptr offset (width_bytes (store_width k)) ≡ Some (ptr + offset)
  pub fits : ptr + offset + width_bytes (store_width k) ≤ size
  pub answer : s.out ≡ accept 0
  pub cells : s.cells ≡ over bs (base + (ptr + offset)) (le_bytes (width_bytes (store_width k)) v)

module _ (k : StoreKind) (bs : List ℕ) (base size ptr offset v : ℕ) where
  abbrev n : ℕ
  n = width_bytes (store_width k)

  by_address : (f : Option ℕ) → address_of size ptr offset n ≡ f
      → Kept bs (store_found k bs base v f) ⊎ Stores k bs base size ptr offset v (store_found k bs base v f)
  unfolding store_found number_of
  by_address None e = inl (record { number = omega arith; cells = refl })
  by_address (Some a) e =
      let q = address_is size ptr offset n a e in
      let p = q.0 in
      inr
      (record {
        address = e ∙ ap Some p;
        fits = omega (arith, q.1);
        answer = refl;
        cells = ap (λ (x : ℕ). over bs (base + x) (le_bytes n v)) p;
      })

  pub store_at_view : Kept bs (store_at k bs base size ptr offset v) ⊎ Stores k bs base size ptr offset v (store_at k bs base size ptr offset v)
  unfolding store_at
  store_at_view = by_address (address_of size ptr offset n) refl

  -- a load of as many bytes answers the stored value
  pub store_at_load : (j : LoadKind) → width_bytes (load_width j) ≡ width_bytes (store_width k) → base + size ≤ length bs → number_of (store_at k bs base size ptr offset v).out ≡ 0
      → load_at j (store_at k bs base size ptr offset v).cells base size ptr offset ≡ Ok (extend j (v % 2 ^ (8 * width_bytes (store_width k))))
  unfolding load_at load_found loaded_of
  store_at_load j e h z = ⊎_elim (λ w. absurd (omega (arith, w.number))) go store_at_view
    where
      go : Stores k bs base size ptr offset v (store_at k bs base size ptr offset v)
          → load_at j (store_at k bs base size ptr offset v).cells base size ptr offset ≡ Ok (extend j (v % 2 ^ (8 * n)))
      go w =
          let cs = (store_at k bs base size ptr offset v).cells in
          ap (λ (x : ℕ). load_found j cs base (address_of size ptr offset x)) e
          ∙ ap (load_found j cs base) w.address
          ∙ ap (λ (x : ℕ). Ok (extend j (le_value (cut cs (base + (ptr + offset)) x)))) e
          ∙ ap (λ (x : List ℕ). Ok (extend j (le_value (cut x (base + (ptr + offset)) n)))) w.cells
          ∙ ap (λ (x : ℕ). Ok (extend j x)) (load_store bs (base + (ptr + offset)) n v (omega (arith, w.fits)))

-- a store to a memory
pub record StoresTo (k : StoreKind) (m : Memory) (bs : List ℕ) (ptr offset v : ℕ) (s : Done Answer) : Type 0 where
  pub sound : Sound m (length bs)
  pub stores : Stores k bs m.start m.size ptr offset v s

module _ (k : StoreKind) (m : Memory) (bs : List ℕ) (ptr offset v : ℕ) where
  by_sound : sound_memory m (length bs) ≡ true → store_memory k m bs ptr offset v ≡ store_at k bs m.start m.size ptr offset v
  unfolding store_memory
  by_sound e = pick_true _ _ _ e

  store_unsound : sound_memory m (length bs) ≡ false → Kept bs (store_memory k m bs ptr offset v)
  unfolding store_memory number_of
  store_unsound e = subst (Kept bs) (sym (pick_false _ _ _ e)) (record { number = omega arith; cells = refl })

  pub store_view : Kept bs (store_memory k m bs ptr offset v) ⊎ StoresTo k m bs ptr offset v (store_memory k m bs ptr offset v)
  store_view =
      either (sound_memory m (length bs))
      (λ e. ⊎_elim
      (λ w. inl (subst (Kept bs) (sym (by_sound e)) w))
      (λ w. inr (record { sound = sound_is m (length bs) e; stores = subst (Stores k bs m.start m.size ptr offset v) (sym (by_sound e)) w }))
      (store_at_view k bs m.start m.size ptr offset v))
      (λ e. inl (store_unsound e))

  -- a refused store changes no byte
  pub store_kept : (number_of (store_memory k m bs ptr offset v).out ≡ 0 → ⊥) → (store_memory k m bs ptr offset v).cells ≡ bs
  unfolding number_of
  store_kept h = ⊎_elim (λ w. w.cells) (λ w. absurd (h (ap number_of w.stores.answer))) store_view

  -- an accepted one changes the bytes of its width alone
  pub store_done : number_of (store_memory k m bs ptr offset v).out ≡ 0 → StoresTo k m bs ptr offset v (store_memory k m bs ptr offset v)
  store_done h = ⊎_elim (λ w. absurd (omega (arith, w.number))) (λ w. w) store_view

  pub store_within : Within bs m.start (m.start + m.room) (store_memory k m bs ptr offset v).cells
  store_within =
      ⊎_elim
      (λ w. within_none bs _ _ _ (omega arith) w.cells)
      (λ w. record {
        at = m.start + (ptr + offset);
        vs = le_bytes (width_bytes (store_width k)) v;
        low = omega arith;
        high = omega (arith, length_bytes (width_bytes (store_width k)) v, w.stores.fits, w.sound.held);
        cells = w.stores.cells;
      })
      store_view

  pub store_length : length (store_memory k m bs ptr offset v).cells ≡ length bs
  store_length =
      ⊎_elim
      (λ w. ap length w.cells)
      (λ w. within_length bs _ _ _ store_within w.sound.inside)
      store_view

  pub store_load : (j : LoadKind) → width_bytes (load_width j) ≡ width_bytes (store_width k) → number_of (store_memory k m bs ptr offset v).out ≡ 0
      → load_memory j m (store_memory k m bs ptr offset v).cells ptr offset ≡ Ok (extend j (v % 2 ^ (8 * width_bytes (store_width k))))
  unfolding load_memory
  store_load j e z =
      let w = store_done z in
      let s = is_sound m (length bs) w.sound in
      let q = by_sound s in
      pick_true _ _ _ (ap (sound_memory m) store_length ∙ s)
      ∙ ap (λ (x : Done Answer). load_at j x.cells m.start m.size ptr offset) q
      ∙ store_at_load k bs m.start m.size ptr offset v j e (omega (arith, w.sound.inside, w.sound.held)) (ap (λ (x : Done Answer). number_of x.out) (sym q) ∙ z)

-- host reads and writes: refused, or the bytes from an offset on
pub record Copies (m : Memory) (bs : List ℕ) (offset len : ℕ) (cs : List ℕ) (s : Done Answer) : Type 0 where
  pub sound : Sound m (length bs)
  pub fits : offset + len ≤ m.size
  pub answer : s.out ≡ accept 0
  pub cells : s.cells ≡ cs

-- what both share: tests, then the accepted cells
copy_view : (m : Memory) (bs : List ℕ) (offset len : ℕ) (old cs : List ℕ)
    → (s : Done Answer) → s ≡ pick (sound_memory m (length bs)) (pick (inside offset len m.size) (done (accept 0) cs) (done (refuse 9 0) old)) (done (refuse 19 0) old)
    → Kept old s ⊎ Copies m bs offset len cs s
unfolding number_of
copy_view m bs offset len old cs s q =
    either (sound_memory m (length bs))
    (λ e. either (inside offset len m.size)
    (λ d. inr
    (subst (Copies m bs offset len cs) (sym (q ∙ pick_true _ _ _ e ∙ pick_true _ _ _ d))
    (record { sound = sound_is m (length bs) e; fits = within_is offset len m.size d; answer = refl; cells = refl })))
    (λ d. inl (subst (Kept old) (sym (q ∙ pick_true _ _ _ e ∙ pick_false _ _ _ d)) (record { number = omega arith; cells = refl }))))
    (λ e. inl (subst (Kept old) (sym (q ∙ pick_false _ _ _ e)) (record { number = omega arith; cells = refl })))

module _ (m : Memory) (bs : List ℕ) (offset : ℕ) (buf : List ℕ) where
  pub read_view : Kept buf (read_memory m bs offset buf) ⊎ Copies m bs offset (length buf) (cut bs (m.start + offset) (length buf)) (read_memory m bs offset buf)
  unfolding read_memory read_used
  read_view = copy_view m bs offset (length buf) buf _ _ refl

  pub write_view : Kept bs (write_memory m bs offset buf) ⊎ Copies m bs offset (length buf) (over bs (m.start + offset) buf) (write_memory m bs offset buf)
  unfolding write_memory write_used
  write_view = copy_view m bs offset (length buf) bs _ _ refl

  -- a refused read leaves the caller's buffer, an accepted one has the bytes
  pub read_kept : (number_of (read_memory m bs offset buf).out ≡ 0 → ⊥) → (read_memory m bs offset buf).cells ≡ buf
  unfolding number_of
  read_kept h = ⊎_elim (λ w. w.cells) (λ w. absurd (h (ap number_of w.answer))) read_view

  pub read_done : number_of (read_memory m bs offset buf).out ≡ 0 → Copies m bs offset (length buf) (cut bs (m.start + offset) (length buf)) (read_memory m bs offset buf)
  read_done h = ⊎_elim (λ w. absurd (omega (arith, w.number))) (λ w. w) read_view

  pub read_length : length (read_memory m bs offset buf).cells ≡ length buf
  read_length =
      ⊎_elim
      (λ w. ap length w.cells)
      (λ w. ap length w.cells ∙ length_cut bs (m.start + offset) (length buf) (omega (arith, w.fits, w.sound.inside, w.sound.held)))
      read_view

  -- a refused write changes no byte, an accepted one its span alone
  pub write_kept : (number_of (write_memory m bs offset buf).out ≡ 0 → ⊥) → (write_memory m bs offset buf).cells ≡ bs
  unfolding number_of
  write_kept h = ⊎_elim (λ w. w.cells) (λ w. absurd (h (ap number_of w.answer))) write_view

  pub write_done : number_of (write_memory m bs offset buf).out ≡ 0 → Copies m bs offset (length buf) (over bs (m.start + offset) buf) (write_memory m bs offset buf)
  write_done h = ⊎_elim (λ w. absurd (omega (arith, w.number))) (λ w. w) write_view

  pub write_within : Within bs m.start (m.start + m.room) (write_memory m bs offset buf).cells
  write_within =
      ⊎_elim
      (λ w. within_none bs _ _ _ (omega arith) w.cells)
      (λ w. record { at = m.start + offset; vs = buf; low = omega arith; high = omega (arith, w.fits, w.sound.held); cells = w.cells })
      write_view

  pub write_length : length (write_memory m bs offset buf).cells ≡ length bs
  write_length =
      ⊎_elim (λ w. ap length w.cells) (λ w. within_length bs _ _ _ write_within w.sound.inside) write_view

-- a refused growth: no byte and no size changes
pub record Stays (m : Memory) (bs : List ℕ) (g : Done GrownMemory) : Type 0 where
  pub number : 0 < number_of g.out.answer
  pub memory : g.out.memory ≡ m
  pub cells : g.cells ≡ bs

-- an accepted growth: the new bytes are 0, and all else is as it was
pub record Grows (m : Memory) (bs : List ℕ) (n : ℕ) (g : Done GrownMemory) : Type 0 where
  pub sound : Sound m (length bs)
  pub more : m.size ≤ grown_size m n
  pub held : grown_size m n ≤ m.room
  pub most : pages_of m + n ≤ page_bound m.ty
  pub admitted : admits_of m.ty.limits (pages_of m + n) ≡ true
  pub answer : g.out.answer ≡ accept (pages_of m)
  pub memory : g.out.memory ≡ resized m (grown_size m n)
  pub cells : g.cells ≡ over bs (m.start + m.size) (replicate (grown_size m n - m.size) 0)

-- what a size is once it was granted
record Enlarges (m : Memory) (bs : List ℕ) (size : ℕ) (g : Done GrownMemory) : Type 0 where
  held : size ≤ m.room
  answer : g.out.answer ≡ accept (pages_of m)
  memory : g.out.memory ≡ resized m size
  cells : g.cells ≡ over bs (m.start + m.size) (replicate (size - m.size) 0)

enlarged_view : (p : Result ⊤ Refusal) (f : Fuel) (l : Limiter) (m : Memory) (bs : List ℕ) (size : ℕ) → Fair p (both true (leb size m.room))
    → Stays m bs (grow_stages.enlarged_by p f l m bs size) ⊎ Enlarges m bs size (grow_stages.enlarged_by p f l m bs size)
unfolding grow_stages.enlarged_by number_of
enlarged_view (Err r) f l m bs size h = inl (record { number = h.1 r refl; memory = refl; cells = refl })
enlarged_view (Ok tt) f l m bs size h =
    inr (record { held = leb-true _ _ (both_2 _ _ (h.0 refl)); answer = refl; memory = refl; cells = refl })

-- the same type and place
pub record Same (a b : Memory) : Type 0 where
  pub ty : a.ty ≡ b.ty
  pub start : a.start ≡ b.start
  pub room : a.room ≡ b.room

module _ (m : Memory) (bs : List ℕ) (n : ℕ) (f : Fuel) (l : Limiter) where
  module _ (s : Sound m (length bs)) where
    -- by 0 pages
    none_grows : n ≡ 0 → Grows m bs n (done (grow.answered (accept (pages_of m)) m f l) bs)
    unfolding pages_of
    none_grows e =
        let b = page_bytes m.ty.page in
        let p : pages_of m + n ≡ pages_of m = omega arith in
        let q : grown_size m n ≡ m.size = ap (λ (x : ℕ). x * b) p ∙ omega (arith, div-add-mod' m.size b, s.pages) in
        let z : grown_size m n - m.size ≡ 0 = omega arith in
        record {
          sound = s;
          more = omega arith;
          held = omega (arith, s.held);
          most = omega (arith, s.most);
          admitted = ap (admits_of m.ty.limits) p ∙ s.admitted;
          answer = refl;
          memory = ap (resized m) (sym q);
          cells = sym (ap (λ (x : ℕ). over bs (m.start + m.size) (replicate x 0)) z ∙ over_nil bs (m.start + m.size));
        }

    to_view : (size : ℕ) → Stays m bs (grow_stages.grow_to m bs size f l) ⊎ Enlarges m bs size (grow_stages.grow_to m bs size f l)
    unfolding grow_stages.grow_to grow_stages.grant_of
    to_view size = enlarged_view _ _ _ m bs size (growth_fair l f true _ (leb size m.room))

    grows : (size : ℕ) (g : Done GrownMemory) → grow.may_have m.ty (pages_of m + n) ≡ true → grown_size m n ≡ size → Enlarges m bs size g → Grows m bs n g
    unfolding grow.may_have
    grows size g may q w =
        record {
          sound = s;
          more = reach_more m n (length bs) s;
          held = omega (arith, w.held);
          most = leb-true _ _ (both_1 _ _ may);
          admitted = both_1 _ _ (both_2 _ _ may);
          answer = w.answer;
          memory = w.memory ∙ ap (resized m) (sym q);
          cells = w.cells ∙ ap (λ (x : ℕ). over bs (m.start + m.size) (replicate (x - m.size) 0)) (sym q);
        }

    by_reach_lem : (to : Option ℕ) → grow_stages.reach_of m n ≡ to → Stays m bs (grow_stages.by_reach to m bs f l) ⊎ Grows m bs n (grow_stages.by_reach to m bs f l)
    unfolding grow_stages.by_reach number_of
    by_reach_lem None e = inl (record { number = omega arith; memory = refl; cells = refl })
    by_reach_lem (Some size) e =
        let r = reach_is m.ty (pages_of m + n) size e in
        ⊎_elim inl (λ w. inr (grows size _ r.0 r.1 w)) (to_view size)

    sound_view : Stays m bs (grow_stages.grow_sound m bs n f l) ⊎ Grows m bs n (grow_stages.grow_sound m bs n f l)
    unfolding grow_stages.grow_sound
    sound_view =
        either (eqb n 0)
        (λ e. inr (subst (Grows m bs n) (sym (pick_true _ _ _ e)) (none_grows (eqb-true _ _ e))))
        (λ e. subst (λ (g : Done GrownMemory). Stays m bs g ⊎ Grows m bs n g) (sym (pick_false _ _ _ e)) (by_reach_lem (grow_stages.reach_of m n) refl))

  pub grow_view : Stays m bs (grow.grow_memory m bs n f l) ⊎ Grows m bs n (grow.grow_memory m bs n f l)
  unfolding number_of
  grow_view =
      either (sound_memory m (length bs))
      (λ e. subst (λ (g : Done GrownMemory). Stays m bs g ⊎ Grows m bs n g) (grow_goes m bs n f l e refl) (sound_view (sound_is m (length bs) e)))
      (λ e. inl (subst (Stays m bs) (grow_stops m bs n f l e refl) (record { number = omega arith; memory = refl; cells = refl })))

  -- a refused growth changes no byte and no size
  pub grow_kept : (number_of (grow.grow_memory m bs n f l).out.answer ≡ 0 → ⊥) → Stays m bs (grow.grow_memory m bs n f l)
  unfolding number_of
  grow_kept h = ⊎_elim (λ w. w) (λ w. absurd (h (ap number_of w.answer))) grow_view

  -- an accepted one adds its pages, which are 0
  pub grow_done : number_of (grow.grow_memory m bs n f l).out.answer ≡ 0 → Grows m bs n (grow.grow_memory m bs n f l)
  grow_done h = ⊎_elim (λ w. absurd (omega (arith, w.number))) (λ w. w) grow_view

  pub grow_within : Within bs m.start (m.start + m.room) (grow.grow_memory m bs n f l).cells
  grow_within =
      ⊎_elim
      (λ w. within_none bs _ _ _ (omega arith) w.cells)
      (λ w. record {
        at = m.start + m.size;
        vs = replicate (grown_size m n - m.size) 0;
        low = omega arith;
        high = omega (arith, length-replicate {A = ℕ} (grown_size m n - m.size) 0, w.more, w.held);
        cells = w.cells;
      })
      grow_view

  pub grow_length : length (grow.grow_memory m bs n f l).cells ≡ length bs
  grow_length =
      ⊎_elim (λ w. ap length w.cells) (λ w. within_length bs _ _ _ grow_within w.sound.inside) grow_view

  -- type and place stay
  pub grow_same : Same (grow.grow_memory m bs n f l).out.memory m
  grow_same =
      let same : (x : Memory) → (grow.grow_memory m bs n f l).out.memory ≡ x → Same x m → Same (grow.grow_memory m bs n f l).out.memory m = λ x e. subst (λ (y : Memory). Same y m) (sym e) in
      ⊎_elim
      (λ w. same m w.memory (record { ty = refl; start = refl; room = refl }))
      (λ w. same (resized m (grown_size m n)) w.memory (record { ty = refl; start = refl; room = refl }))
      grow_view

  grown_sound : Grows m bs n (grow.grow_memory m bs n f l) → Sound (resized m (grown_size m n)) (length bs)
  unfolding pages_of
  grown_sound w =
      let s = w.sound in
      let pages : pages_of (resized m (grown_size m n)) ≡ pages_of m + n = mul-div_cancel (pages_of m + n) (page_pos m.ty.page) in
      record {
        inside = s.inside;
        held = w.held;
        valid = s.valid;
        pages = mul-mod_left (pages_of m + n) (page_bytes m.ty.page);
        least = omega (arith, s.least, pages);
        most = omega (arith, w.most, pages);
        admitted = ap (admits_of m.ty.limits) pages ∙ w.admitted;
      }

  -- a sound memory is sound after a growth, whatever the answer
  pub grow_sound_lem : sound_memory m (length bs) ≡ true → sound_memory (grow.grow_memory m bs n f l).out.memory (length (grow.grow_memory m bs n f l).cells) ≡ true
  grow_sound_lem h =
      ap (sound_memory (grow.grow_memory m bs n f l).out.memory) grow_length
      ∙ ⊎_elim
      (λ w. ap (λ (x : Memory). sound_memory x (length bs)) w.memory ∙ h)
      (λ w. ap (λ (x : Memory). sound_memory x (length bs)) w.memory ∙ is_sound _ (length bs) (grown_sound w))
      grow_view

-- a refused creation: no byte changes
pub record NotMade (bs : List ℕ) (c : Done CreatedMemory) : Type 0 where
  pub refusal : Refusal
  pub made : c.out.made ≡ Err refusal
  pub number : 0 < refusal.number
  pub cells : c.cells ≡ bs

-- a memory that was made: of a valid type, in its room, with the minimum's bytes, which are 0
pub record Makes (kind : Result MemoryType Refusal) (bs : List ℕ) (start room : ℕ) (c : Done CreatedMemory) : Type 0 where
  pub memory : Memory
  pub made : c.out.made ≡ Ok memory
  pub type : kind ≡ Ok memory.ty
  pub size : minimum_bytes memory.ty ≡ Some memory.size
  pub start_is : memory.start ≡ start
  pub room_is : memory.room ≡ room
  pub sound : Sound memory (length bs)
  pub cells : c.cells ≡ over bs start (replicate memory.size 0)

module _ (kind : Result MemoryType Refusal) (bs : List ℕ) (start room : ℕ) (h : start + room ≤ length bs) where
  abbrev View : Done CreatedMemory → Type 0
  View c = NotMade bs c ⊎ Makes kind bs start room c

  module _ (t : MemoryType) (v : valid_memory t ≡ true) (d : kind ≡ Ok t) where
    -- a memory of the minimum's size in its room is sound
    made_sound : (size : ℕ) → t.limits.minimum * page_bytes t.page ≡ size → size ≤ room → Sound (new.memory_of t start room size) (length bs)
    unfolding pages_of valid_memory valid_limits valid_maximum admits_of
    made_sound size e g =
        let b = page_bytes t.page in
        let p : pages_of (new.memory_of t start room size) ≡ t.limits.minimum = ap (λ (x : ℕ). x / b) (sym e) ∙ mul-div_cancel t.limits.minimum (page_pos t.page) in
        let q : t.limits.minimum ≤ page_bound t = leb-true _ _ (both_1 _ _ v) in
        record {
          inside = h;
          held = g;
          valid = v;
          pages = ap (λ (x : ℕ). x % b) (sym e) ∙ mul-mod_left t.limits.minimum b;
          least = omega (arith, p);
          most = omega (arith, p);
          admitted = ap (λ (x : ℕ). pick t.limits.bounded (leb x t.limits.maximum) true) p
              ∙ either t.limits.bounded
              (λ q. pick_true _ _ _ q ∙ both_2 _ _ (sym (pick_true _ _ _ q) ∙ both_2 _ _ v))
              (λ q. pick_false _ _ _ q);
        }

    made_by_lem : (p : Result ⊤ Refusal) (l : Limiter) (size : ℕ) → minimum_bytes t ≡ Some size → Fair p (leb size room) → View (new_stages.made_by p l (new.memory_of t start room size) bs)
    unfolding new_stages.made_by
    made_by_lem (Err r) l size e g = inl (record { refusal = r; made = refl; number = g.1 r refl; cells = refl })
    made_by_lem (Ok tt) l size e g =
        inr
        (record {
          memory = new.memory_of t start room size;
          made = refl;
          type = d;
          size = e;
          start_is = refl;
          room_is = refl;
          sound = made_sound size (minimum_is t size e) (leb-true _ _ (g.0 refl));
          cells = refl;
        })

    by_size_lem : (to : Option ℕ) (l : Limiter) → minimum_bytes t ≡ to → View (new_stages.by_size to l t start room bs)
    unfolding new_stages.by_size new_stages.made_of
    by_size_lem None l e = inl (record { refusal = refusal 2 0; made = refl; number = omega arith; cells = refl })
    by_size_lem (Some size) l e = made_by_lem _ _ size e (creation_fair l (leb size room))

  by_type_lem : (k : Result MemoryType Refusal) (l : Limiter) → kind ≡ k → ((t : MemoryType) → k ≡ Ok t → valid_memory t ≡ true) → ((r : Refusal) → k ≡ Err r → 0 < r.number)
      → View (new_stages.by_type k l start room bs)
  unfolding new_stages.by_type
  by_type_lem (Err r) l e p q = inl (record { refusal = r; made = refl; number = q r refl; cells = refl })
  by_type_lem (Ok t) l e p q = by_size_lem t (p t refl) e (minimum_bytes t) l refl

module _ (want : WantedMemory) (start room : ℕ) (bs : List ℕ) (l : Limiter) where
  pub new_view : NotMade bs (new.new_memory want start room bs l) ⊎ Makes (build_memory want.wide want.limits want.exponent) bs start room (new.new_memory want start room bs l)
  new_view =
      let kind = build_memory want.wide want.limits want.exponent in
      either (leb (start + room) (length bs))
      (λ e. subst (λ (c : Done CreatedMemory). NotMade bs c ⊎ Makes kind bs start room c) (new_goes want start room bs l e refl)
      (by_type_lem kind bs start room (leb-true _ _ e) kind l refl (built_valid want.wide want.limits want.exponent)
      (λ r q. let k : r.number ≡ 1 = ap (λ (x : Refusal). x.number) (built_refused want.wide want.limits want.exponent r q) in omega arith)))
      (λ e. inl (subst (NotMade bs) (new_stops want start room bs l e refl) (record { refusal = refusal 19 0; made = refl; number = omega arith; cells = refl })))

  -- a refused creation changes no byte, and its number is not 0
  pub new_kept : (r : Refusal) → (new.new_memory want start room bs l).out.made ≡ Err r
      → ((new.new_memory want start room bs l).cells ≡ bs) × (0 < r.number)
  new_kept r e =
      ⊎_elim
      (λ w. let d : Err w.refusal ≡ Err r = sym w.made ∙ e in let k : w.refusal ≡ r = cc in (w.cells, subst (λ (x : Refusal). 0 < x.number) k w.number))
      (λ w. let d : Ok w.memory ≡ Err r = sym w.made ∙ e in let z : ◌≡◌ {A = ℕ} 0 1 = cc in absurd (omega arith))
      new_view

  -- a memory that was made
  pub new_done : (m : Memory) → (new.new_memory want start room bs l).out.made ≡ Ok m
      → Makes (build_memory want.wide want.limits want.exponent) bs start room (new.new_memory want start room bs l)
  new_done m e =
      ⊎_elim
      (λ w. let d : Err w.refusal ≡ Ok m = sym w.made ∙ e in let z : ◌≡◌ {A = ℕ} 0 1 = cc in absurd (omega arith))
      (λ w. w)
      new_view

  pub new_within : Within bs start (start + room) (new.new_memory want start room bs l).cells
  new_within =
      ⊎_elim
      (λ w. within_none bs _ _ _ (omega arith) w.cells)
      (λ w. record {
        at = start;
        vs = replicate w.memory.size 0;
        low = omega arith;
        high = omega (arith, length-replicate {A = ℕ} w.memory.size 0, w.sound.held, w.room_is);
        cells = w.cells;
      })
      new_view

  pub new_length : length (new.new_memory want start room bs l).cells ≡ length bs
  new_length =
      ⊎_elim
      (λ w. ap length w.cells)
      (λ w. within_length bs _ _ _ new_within (omega (arith, w.sound.inside, w.start_is, w.room_is)))
      new_view

  -- a memory that was made is sound over the buffer
  pub new_sound : (m : Memory) → (new.new_memory want start room bs l).out.made ≡ Ok m
      → sound_memory m (length (new.new_memory want start room bs l).cells) ≡ true
  new_sound m e =
      let w = new_done m e in
      let d : Ok w.memory ≡ Ok m = sym w.made ∙ e in
      let k : w.memory ≡ m = cc in
      ap (sound_memory m) new_length ∙ ap (λ (x : Memory). sound_memory x (length bs)) (sym k) ∙ is_sound w.memory (length bs) w.sound
