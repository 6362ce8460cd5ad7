-- Uniqueness: each public function's contract names one answer, and one content of what it is lent to write, for each input. Assumes nothing.
use Rattle.std.specs.Prelude.{Option}
use Rattle.types.proofs.Prelude.{sym, ◌∙◌, ap, Bool, List, ℕ}
use Rattle.types.proofs.One.{One, OneWith}
use Rattle.types.specs.Done.{Done}
use Rattle.lines.proofs.line.no_line.Reads as no_line_reads
use Rattle.lines.proofs.line.no_line.Kinds as no_line_kinds
use Rattle.lines.proofs.code.operation_of.Reads as operation_of_reads
use Rattle.lines.proofs.code.operation_of.Kinds as operation_of_kinds
use Rattle.lines.proofs.code.read_line.Reads as read_line_reads
use Rattle.lines.proofs.code.read_line.Kinds as read_line_kinds
use Rattle.lines.proofs.write.write_line.Reads as write_line_reads
use Rattle.lines.proofs.write.write_line.Kinds as write_line_kinds
use Rattle.lines.proofs.write.write_making.Reads as write_making_reads
use Rattle.lines.proofs.write.write_making.Kinds as write_making_kinds
use Rattle.lines.proofs.answer_line.fuel_shown.Reads as fuel_shown_reads
use Rattle.lines.proofs.answer_line.fuel_shown.Kinds as fuel_shown_kinds
use Rattle.lines.proofs.answer_line.write_answer_line.Reads as write_answer_line_reads
use Rattle.lines.proofs.answer_line.write_answer_line.Kinds as write_answer_line_kinds
use Rattle.machine.specs.Machine.{Buffers, buffers}
use Rattle.lines.specs.Progress.{Progressed}
use Rattle.lines.proofs.session.Session.new.Reads as new_reads
use Rattle.lines.proofs.session.Session.new.Kinds as new_kinds
use Rattle.lines.proofs.session.piece.Reads as piece_reads
use Rattle.lines.proofs.session.piece.Kinds as piece_kinds
use Rattle.lines.proofs.input.keep.Reads as keep_reads
use Rattle.lines.proofs.input.keep.Kinds as keep_kinds
use Rattle.lines.proofs.input.end_line.Reads as end_line_reads
use Rattle.lines.proofs.input.end_line.Kinds as end_line_kinds

pub no_line_one : One 0 no_line_kinds.ps no_line_kinds.r no_line_reads.Pre no_line_reads.Post
no_line_one κs a x x' s s' z p q = p ∙ sym q

pub operation_of_one : One 0 operation_of_kinds.ps operation_of_kinds.r operation_of_reads.Pre operation_of_reads.Post
operation_of_one κs a x x' s s' z p q = p ∙ sym q

pub read_line_one : One 1 read_line_kinds.ps read_line_kinds.r read_line_reads.Pre read_line_reads.Post
read_line_one κs a x x' s s' z p q = p ∙ sym q

-- one length, and one content of the buffer
pub write_line_one : OneWith 1 write_line_kinds.ps write_line_kinds.r write_line_reads.Pre write_line_reads.Post (List ℕ) (λ κs s. s.1.0.now)
write_line_one κs a x x' s s' z p q = (ap (λ (o : Done (Option ℕ)). o.out) (p ∙ sym q), ap (λ (o : Done (Option ℕ)). o.cells) (p ∙ sym q))

pub write_making_one : OneWith 1 write_making_kinds.ps write_making_kinds.r write_making_reads.Pre write_making_reads.Post (List ℕ) (λ κs s. s.1.1.0.now)
write_making_one κs a x x' s s' z p q = (ap (λ (o : Done (Option ℕ)). o.out) (p ∙ sym q), ap (λ (o : Done (Option ℕ)). o.cells) (p ∙ sym q))

pub fuel_shown_one : One 0 fuel_shown_kinds.ps fuel_shown_kinds.r fuel_shown_reads.Pre fuel_shown_reads.Post
fuel_shown_one κs a x x' s s' z p q = p ∙ sym q

pub write_answer_line_one : OneWith 1 write_answer_line_kinds.ps write_answer_line_kinds.r write_answer_line_reads.Pre write_answer_line_reads.Post (List ℕ) (λ κs s. s.0.now)
write_answer_line_one κs a x x' s s' z p q = (ap (λ (o : Done Bool). o.out) (p ∙ sym q), ap (λ (o : Done Bool). o.cells) (p ∙ sym q))

pub session_new_one : One 0 new_kinds.ps new_kinds.r new_reads.Pre new_reads.Post
session_new_one κs a x x' s s' z p q = p ∙ sym q

-- one number, one session, one count of bytes used and written, and one content of the row, of each of the three buffers and of the output
pub piece_one : OneWith 6 piece_kinds.ps piece_kinds.r piece_reads.Pre piece_reads.Post (List ℕ × Buffers × List ℕ)
    (λ κs s. (s.1.0.now, buffers s.1.1.0.now s.1.1.1.0.now s.1.1.1.1.0.now, s.1.1.1.1.1.1.0.now))
piece_one κs a x x' s s' z p q = (ap (λ (o : Progressed). o.progress) (p ∙ sym q), ap lent (p ∙ sym q))
  where
    lent : Progressed → List ℕ × Buffers × List ℕ
    lent o = (o.words, o.buffers, o.out)

-- one number of bytes, and one content of the input
pub keep_one : OneWith 1 keep_kinds.ps keep_kinds.r keep_reads.Pre keep_reads.Post (List ℕ) (λ κs s. s.0.now)
keep_one κs a x x' s s' z p q = (ap (λ (o : Done ℕ). o.out) (p ∙ sym q), ap (λ (o : Done ℕ). o.cells) (p ∙ sym q))

pub end_line_one : OneWith 1 end_line_kinds.ps end_line_kinds.r end_line_reads.Pre end_line_reads.Post (List ℕ) (λ κs s. s.1.0.now)
end_line_one κs a x x' s s' z p q = (ap (λ (o : Done (Option ℕ)). o.out) (p ∙ sym q), ap (λ (o : Done (Option ℕ)). o.cells) (p ∙ sym q))
