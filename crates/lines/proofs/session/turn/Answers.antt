use Rattle.std.specs.Prelude.{Some}
use Rattle.types.proofs.Prelude.{◌≡◌, ◌∙◌, ap, refl, arith}
use Rattle.machine.specs.{Words.machine_from, Machine.buffers}
use Rattle.lines.specs.declared.code.Read.{Read}
use Rattle.lines.specs.declared.code.Read.TheVariants as read
use Rattle.lines.proofs.Runs.{turn_does, turn_makes, turn_late, turn_none}
use Rattle.lines.proofs.Carried.{proceed_ready, proceed_behind, proceed_step, fresh_ready, fresh_behind, fresh_says}
use Rattle.lines.proofs.session.turn.Goals as goal

pub returns-in-Some-Operation : goal.returns-in-Some-Operation
returns-in-Some-Operation c =
    let a = c.args in
    let b = buffers (a.bytes.now) (a.cells.now) (a.items.now) in
    let r = c.requires in
    let p = c.proceed.ensures in
    let o = c.in-Some-Operation in
    let g : ◌≡◌ {A = Read} o.field-0 (read.Operation o.op) = rw o.is at o.field-0-is in
    record {
      is = turn_does (machine_from (a.words.now)) a.first b _ _ (o.is ∙ ap (λ (z : Read). Some z) g) (proceed_step (a.words.now) b _ r p);
      ready = proceed_ready (a.words.now) b _ r p;
      behind = proceed_behind (a.words.now) b _ r p;
    }

pub returns-else-not-first : goal.returns-else-not-first
returns-else-not-first c =
    let a = c.args in
    let b = buffers (a.bytes.now) (a.cells.now) (a.items.now) in
    let r = c.requires in
    let e = c.make.ensures.0 in
    let small = c.make.ensures.1 in
    let o = c.in-Some-Making in
    let g : ◌≡◌ {A = Read} o.field-0 (read.Making o.metering o.copied) = rw o.is at o.field-0-is in
    record {
      is = turn_makes (machine_from (a.words.now)) _ b a.first _ _ c.if-not-first.false (o.is ∙ ap (λ (z : Read). Some z) g) (fresh_says (a.words.now) b _ _ r small (omega arith) (omega arith) e);
      ready = fresh_ready (a.words.now) b _ _ r small (omega arith) (omega arith) e;
      behind = fresh_behind (a.words.now) b _ _ r small (omega arith) (omega arith) e;
    }

pub returns-then-not-first : goal.returns-then-not-first
returns-then-not-first c =
    let a = c.args in
    let o = c.in-Some-Making in
    let g : ◌≡◌ {A = Read} o.field-0 (read.Making o.metering o.copied) = rw o.is at o.field-0-is in
    record {
      is = rw c.from.ensures (turn_late (machine_from (a.words.now)) (buffers (a.bytes.now) (a.cells.now) (a.items.now)) a.first _ _ c.if-not-first.true (o.is ∙ ap (λ (z : Read). Some z) g) refl);
      ready = c.requires;
      behind = refl;
    }

pub returns-in-None : goal.returns-in-None
returns-in-None c =
    let a = c.args in
    record {
      is = rw c.from-in-None.ensures (turn_none (machine_from (a.words.now)) a.first (buffers (a.bytes.now) (a.cells.now) (a.items.now)) c.in-None.is refl);
      ready = c.requires;
      behind = refl;
    }
