use Rattle.types.proofs.Prelude.{◌≡◌, ◌≤◌, ◌-◌, length, replicate}
use Rattle.std.specs.Slice.Iter.{chunks_rest, chunks_size}
use Rattle.lines.specs.{Line.fields_of, stages.Back.filled}
use Rattle.lines.proofs.line.read_fields.Given as goal

abbrev pub invariant-loop-part : goal.invariant-loop-part
invariant-loop-part l =
    (l.count ≤ 8) × (length l.list ≡ 8) × (chunks_size l.part-iterator ≡ 17)
    × (filled l.code l.count l.list (fields_of (8 - l.count) (chunks_rest l.part-iterator)) ≡ filled l.code 0 (replicate 8 0) (fields_of 8 l.s))
