-- Document 01, "Numbers given back" and "First check wins": the limiter script moves on by each question and notice; 04 replaces it, and at 18 the old one stays.
use Rattle.std.specs.Prelude.{ℕ, zero, suc, Bool, List, [], ◌∷◌}
use Rattle.types.specs.Names.{pick, both, says_of, moved, Limiter}
use Rattle.machine.specs.Names.{Buffers, sound_over, well_formed, step, Machine, Operation}
use Rattle.claims.specs.{Answers.accepted, Occasions.granted, Occasions.question, Effects.effect_of, Effects.spent}

-- the limiter is asked: nothing said wrongly, records and buffers sound, and the operation comes to its question
abbrev pub asks : ℕ → Machine → Buffers → Operation → Bool
asks r m b op = both (well_formed op) (both (sound_over m b) (question r m b op))

-- how many questions and notices: none unasked, no notice after the limiter's own refusal, one notice for each refusal after its grant
unfoldable pub heard : ℕ → Machine → Buffers → Operation → ℕ
heard r m b op = pick (asks r m b op) (pick (granted m) (pick (accepted (step r m b op).answer) 1 2) 1) 0

-- the script after n questions and notices
unfoldable pub moved_by : ℕ → Limiter → Limiter
moved_by zero l = l
moved_by (suc n) l = moved_by n (moved l)

-- its answers to them
unfoldable pub says_to : ℕ → Limiter → List ℕ
says_to zero l = []
says_to (suc n) l = says_of l ∷ says_to n (moved l)

-- an accepted 04 puts its script in the old one's place
abbrev pub replaced : ℕ → Machine → Buffers → Limiter → Operation → Limiter
replaced r m b l op = (effect_of m b (spent r m op) l op).out.limiter

-- the script after an operation: the old one moved on by what the limiter heard, or 04's where it is accepted
unfoldable pub script_after : ℕ → Machine → Buffers → Operation → Limiter
script_after r m b op =
    let l = moved_by (heard r m b op) m.limiter in
    pick (accepted (step r m b op).answer) (replaced r m b l op) l
