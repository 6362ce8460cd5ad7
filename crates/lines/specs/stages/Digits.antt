-- For the code alone: the digits of all 256 bytes, 16 where a byte is none.
use Rattle.std.specs.Prelude.{ℕ, List, [], ◌∷◌, ◌++◌, replicate}

-- 0 to 9 stand from 48 on, a to f from 97 on
unfoldable pub digit_table : List ℕ
digit_table =
    replicate 48 16 ++ ((0 ∷ 1 ∷ 2 ∷ 3 ∷ 4 ∷ 5 ∷ 6 ∷ 7 ∷ 8 ∷ 9 ∷ [])
    ++ (replicate 39 16 ++ ((10 ∷ 11 ∷ 12 ∷ 13 ∷ 14 ∷ 15 ∷ []) ++ replicate 153 16)))
