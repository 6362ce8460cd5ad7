-- Floats and their bits, over the format. Assumes nothing.
use Rattle.types.proofs.Prelude.{◌≡◌, refl, sym, subst, ◌∙◌, Bool, true, false, ℕ, ◌*◌, ◌<◌, ◌^◌}
use mathlib.Core.Bool.{not}
use lib.Dec.{T}
use lib.Ieee.{Float, nan, inf, fin, Format, binary32, binary64, of_bits, to_bits, nan_bits, is_nan, ne, top}
use lib.{Ieee.Bits.to_bits-of_bits, Ieee.Bits.nan_bits_is, Ieee.Compare.differs_from_itself, Ieee.Compare.nan_differs}
use Rattle.types.specs.{Pick.pick, Answer.float32, Answer.float64, Answer.bits_of, declared.answer.Value.Value}
use Rattle.types.specs.declared.answer.Value.TheVariants.{F32, F64, Nan32, Nan64}

-- a float that does not differ from itself is no NaN, and one that does is the NaN
pub no_nan : (x : Float) → ne x x ≡ false → T (not (is_nan x))
unfolding is_nan
no_nan nan e = subst T (sym nan_differs ∙ e) tt
no_nan (inf s) e = tt
no_nan (fin s m z) e = tt

pub the_nan : (x : Float) → ne x x ≡ true → x ≡ nan
the_nan x e = differs_from_itself x (subst T (sym e) tt)

pub fails : (b : Bool) → b ≡ false → T (not b)
fails b e = subst (λ (x : Bool). T (not x)) (sym e) tt

-- the bits are kept, a NaN's payload too: over the format and its two cases of a value
kept : (f : Format) (n : ℕ) (odd : ℕ → Value) (even : Float → Value) → bits_of (odd n) ≡ n → ((x : Float) → bits_of (even x) ≡ to_bits f x) → n < 2 * top f
    → bits_of (pick (nan_bits f n) (odd n) (even (of_bits f n))) ≡ n
unfolding pick
kept f n odd even p q h = go (nan_bits f n) refl
  where
    go : (b : Bool) → nan_bits f n ≡ b → bits_of (pick b (odd n) (even (of_bits f n))) ≡ n
    go true e = p
    go false e = q (of_bits f n) ∙ to_bits-of_bits f n h (fails (is_nan (of_bits f n)) (sym (nan_bits_is f n) ∙ e))

pub kept32 : (n : ℕ) → n < 2 ^ 32 → bits_of (float32 n) ≡ n
unfolding float32 bits_of
kept32 n h = kept binary32 n Nan32 F32 refl (λ x. refl) h

pub kept64 : (n : ℕ) → n < 2 ^ 64 → bits_of (float64 n) ≡ n
unfolding float64 bits_of
kept64 n h = kept binary64 n Nan64 F64 refl (λ x. refl) h
