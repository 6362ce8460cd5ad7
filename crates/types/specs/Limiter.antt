-- Document 01, "Numbers given back": the limiter is a byte script, 0 yes, 1 no, 2 its own error; past its end it answers 0.
use Rattle.std.specs.Prelude.{ℕ, ◌+◌, Bool, true, List, [], ◌∷◌, ◌++◌, eqb, leb, ltb, length, take, drop, get_or, replicate, Ok, Err, Result, ⊤}
use Rattle.types.specs.{Pick.pick, Pick.both, Answer.refusal, Answer.refuse, Answer.accept}
use Rattle.types.specs.Answer.{Answer}
use Rattle.types.specs.declared.{answer.Refusal.Refusal, limiter.Limiter.Limiter}
use Rattle.types.specs.declared.{limiter.Asked.Asked, limiter.Noticed.Noticed, limiter.HandedOver.HandedOver}

-- the most answers that a script has
abbrev pub longest_script : ℕ
longest_script = 16

-- a script stands at the front of a row of zeros
unfoldable pub padded : List ℕ → List ℕ
padded script = script ++ drop (length script) (replicate longest_script 0)

-- the limiter of a script, at its start
abbrev pub limiter_of : List ℕ → Limiter
limiter_of script = record { script = padded script; count = length script; at = 0 }

-- no limiter is an empty script
unfoldable pub no_limiter : Limiter
unfolding padded
no_limiter = limiter_of []

-- the next answer
unfoldable pub says_of : Limiter → ℕ
says_of l = get_or (take l.count l.script) l.at 0

-- the script moves on by each question and notice, and stops at its end
unfoldable pub moved : Limiter → Limiter
moved l =
    record { script = l.script; count = l.count; at = pick (ltb l.at l.count) (l.at + 1) l.at }

-- a no has the number of its occasion, the limiter's own error is 4
unfoldable pub permit_of : ℕ → ℕ → Result ⊤ Refusal
permit_of said deny =
    pick (eqb said 1) (Err (refusal deny 0)) (pick (eqb said 2) (Err (refusal 4 0)) (Ok tt))

-- one question
unfoldable pub ask : Limiter → ℕ → Asked
ask l deny = record { permit = permit_of (says_of l) deny; limiter = moved l }

-- for a notice 0 and 1 both mean heard; the limiter's own error takes the refusal's place
unfoldable pub heard_of : ℕ → Refusal → Refusal
heard_of said r = pick (eqb said 2) (refusal 4 0) r

-- one notice
unfoldable pub notify : Limiter → Refusal → Noticed
notify l r = record { refusal = heard_of (says_of l) r; limiter = moved l }

-- a refusal of which the limiter is told: 4 where the notice is met by its own error
abbrev pub noticed : Limiter → ℕ → ℕ → Answer
noticed l number amount = Err (heard_of (says_of l) (refusal number amount))

-- every byte is an answer
unfoldable pub all_answers : List ℕ → Bool
unfolding both
all_answers [] = true
all_answers (b ∷ bs) = both (leb b 2) (all_answers bs)

-- a script has room in the row, and every byte is an answer
unfoldable pub well_formed : List ℕ → Bool
well_formed script = both (leb (length script) longest_script) (all_answers script)

-- a script that is taken stands at its start
abbrev pub taken_of : List ℕ → HandedOver
taken_of script = record { answer = accept 0; limiter = limiter_of script }

-- another byte, or more than 16, is 18, and the old script stays
unfoldable pub hand_over : Limiter → List ℕ → HandedOver
hand_over l script = pick (well_formed script) (taken_of script) (record { answer = refuse 18 0; limiter = l })
