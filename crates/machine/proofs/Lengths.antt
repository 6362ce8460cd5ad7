-- How many words each record takes. Assumes nothing.
pub use Rattle.machine.specs.stages.Laws.{length_memory, length_table, length_segment}
use Rattle.types.proofs.Prelude.{◌≡◌, refl, length}
use Rattle.types.specs.{declared.fuel.Fuel.Fuel, declared.limiter.Limiter.Limiter}
use Rattle.machine.specs.declared.records.Counts.{Counts}
use Rattle.machine.specs.Words.{count_words, fuel_words, place_words, standing_words}

pub length_count : (k : Counts) → length (count_words k) ≡ 3
unfolding count_words
length_count k = refl

pub length_fuel : (f : Fuel) → length (fuel_words f) ≡ 5
unfolding fuel_words
length_fuel f = refl

pub length_standing : (k : Counts) (f : Fuel) (p : Limiter) → length (standing_words k f p) ≡ 10
unfolding count_words fuel_words place_words
length_standing k f p = refl
