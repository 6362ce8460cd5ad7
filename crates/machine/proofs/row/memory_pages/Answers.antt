use Rattle.types.proofs.Prelude.{◌+◌, ◌*◌, ◌≡◌, ◌∙◌, sym, ap, arith, rules, List, ℕ}
use Rattle.std.specs.Prelude.{Err}
use Rattle.memory.specs.Memory.{pages_of}
use Rattle.types.specs.Answer.{accept}
use Rattle.machine.specs.{Machine.no_memory, Words.record_length, Words.record_in_form, Row.row_pages, stages.Records.known, stages.Records.size_by, declared.records.Counts.Counts, declared.records.Machine.Machine}
use Rattle.machine.proofs.Sizes.{size_known}
use Rattle.machine.proofs.row.memory_pages.Goals as goal

pages_known : (l : List ℕ) (bytes cells items i : ℕ) → size_by pages_of (known (λ (k : Counts). k.memories) record_in_form 0 record_length (λ (m : Machine). m.memories) no_memory l bytes cells items i) ≡ row_pages l bytes cells items i
unfolding row_pages
pages_known l bytes cells items i =
    let e : 0 + record_length * i ≡ record_length * i = omega arith in
    rw e at (size_known pages_of (λ (k : Counts). k.memories) record_in_form 0 record_length (λ (m : Machine). m.memories) no_memory l bytes cells items i)

pub returns-in_err-memory : goal.returns-in_err-memory
unfolding size_by
returns-in_err-memory c =
    let a = c.args in
    let r : c.from_residual.result ≡ Err c.in_err-memory.field-0.0 = search rules in
    r ∙ ap (size_by pages_of) (sym c.in_err-memory.was ∙ c.known.ensures) ∙ pages_known (a.words.now) a.bytes a.cells a.items a.number

pub returns : goal.returns
unfolding size_by
returns c =
    let a = c.args in
    ap accept c.pages.ensures ∙ ap (size_by pages_of) (sym c.in_ok-memory.was ∙ c.known.ensures) ∙ pages_known (a.words.now) a.bytes a.cells a.items a.number
