-- What inner functions ask of each other, as records of plain facts; no public function asks any.
use Rattle.std.specs.Prelude.{ℕ, ◌+◌, ◌≤◌}

-- n cells of so many, at each of two places
pub record Two (to from n len : ℕ) : Type 0 where
  pub there : to + n ≤ len
  pub here : from + n ≤ len
