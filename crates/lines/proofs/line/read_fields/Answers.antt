use Rattle.types.proofs.Prelude.{◌≡◌, ◌∙◌, sym, length, arith, rules, ap, ℕ}
use Rattle.std.specs.Prelude.{Some, None, Option}
use Rattle.std.specs.Slice.Iter.{chunks_rest}
use Rattle.lines.proofs.FieldLaws.{part_many, fields_char, fields_short, fields_bad, fields_on, fields_end}
use Rattle.lines.proofs.line.read_fields.Goals.{then-count-eq-MOST_FIELDS-via-then-count-eq-MOST_FIELDS, then-count-eq-MOST_FIELDS-via-else-count-eq-MOST_FIELDS+then-part-lt-FIELD, then-count-eq-MOST_FIELDS-via-else-count-eq-MOST_FIELDS+else-part-lt-FIELD+then-part-ne-SPACE}
use Rattle.lines.proofs.line.read_fields.Goals as goal

pub returns-then-count-eq-MOST_FIELDS : goal.returns-then-count-eq-MOST_FIELDS
returns-then-count-eq-MOST_FIELDS c =
    let l = c.loop-part in
    let p = c.in-Some.part.now in
    let y = chunks_rest c.next.new.self in
    let s = c.in-Some.ensures.steps in
    let q = rw s.1.0 at l.invariant.3 in
    elim c.then-count-eq-MOST_FIELDS.branch [
      | then-count-eq-MOST_FIELDS-via-then-count-eq-MOST_FIELDS w ↦ part_many _ l.count p y l.list (omega arith) q (omega arith)
      | then-count-eq-MOST_FIELDS-via-else-count-eq-MOST_FIELDS+then-part-lt-FIELD w ↦ fields_short _ l.count p y l.list (omega arith) q (omega arith) (omega (arith, ap length s.1.0))
      | then-count-eq-MOST_FIELDS-via-else-count-eq-MOST_FIELDS+else-part-lt-FIELD+then-part-ne-SPACE w ↦ fields_char _ l.count p y l.list (omega arith) q (omega arith) w.if-part-ne-SPACE.true
    ]

pub returns-in_err-list : goal.returns-in_err-list
returns-in_err-list c =
    let l = c.loop-part in
    let s = c.in-Some.ensures.steps in
    let q = rw s.1.0 at l.invariant.3 in
    let was : ◌≡◌ {A = Option ℕ} c.hex.result None = c.in_err-list.was in
    c.from_residual.ensures
    ∙ fields_bad _ l.count c.in-Some.part.now (chunks_rest c.next.new.self) l.list (omega arith) q (omega arith) (omega (arith, s.1.1)) c.if-part-ne-SPACE.false (sym was ∙ c.hex.ensures)

pub loop-part-preserved : goal.loop-part-preserved
loop-part-preserved c =
    let l = c.loop-part in
    let s = c.in-Some.ensures.steps in
    let q = rw s.1.0 at l.invariant.3 in
    let was : ◌≡◌ {A = Option ℕ} c.hex.result (Some c.in_ok-list.field-0) = c.in_ok-list.was in (
      omega arith,
      search rules,
      omega arith,
      fields_on _ l.count c.in-Some.part.now (chunks_rest c.next.new.self) l.list (omega arith) q (omega arith) (omega (arith, s.1.1)) c.if-part-ne-SPACE.false _ l.invariant.1 (sym was ∙ c.hex.ensures),
    )

pub returns : goal.returns
returns c = fields_end _ _ _ _ c.in-None.ensures.steps.1.0 c.loop-part.invariant.3
