-- For the code alone: what the functions over any kind of record say, of which each kind's own words are instances.
use Rattle.std.specs.Prelude.{ℕ, ◌+◌, ◌-◌, ◌*◌, Bool, List, eqb, leb, ltb, length, get_or, Ok, Err, Result}
use Rattle.types.specs.{Pick.pick, Pick.unless, Answer.Answer, Answer.accept, Answer.refusal, declared.answer.Refusal.Refusal}
use Rattle.machine.specs.{Sound.sound_machine, Words.row_length, Words.machine_from}
use Rattle.machine.specs.declared.{records.Machine.Machine, records.Counts.Counts}

-- where a room ends
abbrev pub end_of : {A : Type 0} → (A → ℕ) → (A → ℕ) → A → ℕ
end_of start room r = start r + room r

-- where the next room starts: directly after the last one
abbrev pub next_room : {A : Type 0} → (A → ℕ) → A → ℕ → List A → ℕ
next_room end none n xs = pick (eqb n 0) 0 (end (get_or xs (n - 1) none))

-- the record of a number in use: 19 for a row too short or unsound, 16, 19 for that record's flags
unfoldable pub known : {A : Type 0} → (Counts → ℕ) → (List ℕ → ℕ → Bool) → ℕ → ℕ → (Machine → List A) → A → List ℕ → ℕ → ℕ → ℕ → ℕ → Result A Refusal
known used form place width listed none l bytes cells items i =
    unless (leb row_length (length l)) (Err (refusal 19 0))
    (unless (sound_machine (machine_from l) bytes cells items) (Err (refusal 19 0))
    (unless (ltb i (used (machine_from l).counts)) (Err (refusal 16 0))
    (unless (form l (place + width * i)) (Err (refusal 19 0)) (Ok (get_or (listed (machine_from l)) i none)))))

-- its size
unfoldable pub size_by : {A : Type 0} → (A → ℕ) → Result A Refusal → Answer
size_by size (Err r) = Err r
size_by size (Ok x) = accept (size x)
