-- Uniqueness: each public function's contract names one answer, and one content of what it is lent to write, for each input. Assumes nothing.
use Rattle.types.proofs.Prelude.{sym, ap, ◌∙◌, List, ℕ}
use Rattle.types.proofs.One.{One, OneWith}
use Rattle.machine.specs.Machine.{Buffers, buffers}
use Rattle.machine.specs.Row.{Rowed}
use Rattle.yshankelt.specs.Whole.{Call}
use Rattle.yshankelt.proofs.ysh_load_i32.Reads as ysh_load_i32_reads
use Rattle.yshankelt.proofs.ysh_load_i32.Kinds as ysh_load_i32_kinds
use Rattle.yshankelt.proofs.ysh_load_i64.Reads as ysh_load_i64_reads
use Rattle.yshankelt.proofs.ysh_load_i64.Kinds as ysh_load_i64_kinds
use Rattle.yshankelt.proofs.ysh_load_f32.Reads as ysh_load_f32_reads
use Rattle.yshankelt.proofs.ysh_load_f32.Kinds as ysh_load_f32_kinds
use Rattle.yshankelt.proofs.ysh_load_f64.Reads as ysh_load_f64_reads
use Rattle.yshankelt.proofs.ysh_load_f64.Kinds as ysh_load_f64_kinds
use Rattle.yshankelt.proofs.ysh_load_i32_8s.Reads as ysh_load_i32_8s_reads
use Rattle.yshankelt.proofs.ysh_load_i32_8s.Kinds as ysh_load_i32_8s_kinds
use Rattle.yshankelt.proofs.ysh_load_i32_8u.Reads as ysh_load_i32_8u_reads
use Rattle.yshankelt.proofs.ysh_load_i32_8u.Kinds as ysh_load_i32_8u_kinds
use Rattle.yshankelt.proofs.ysh_load_i32_16s.Reads as ysh_load_i32_16s_reads
use Rattle.yshankelt.proofs.ysh_load_i32_16s.Kinds as ysh_load_i32_16s_kinds
use Rattle.yshankelt.proofs.ysh_load_i32_16u.Reads as ysh_load_i32_16u_reads
use Rattle.yshankelt.proofs.ysh_load_i32_16u.Kinds as ysh_load_i32_16u_kinds
use Rattle.yshankelt.proofs.ysh_load_i64_8s.Reads as ysh_load_i64_8s_reads
use Rattle.yshankelt.proofs.ysh_load_i64_8s.Kinds as ysh_load_i64_8s_kinds
use Rattle.yshankelt.proofs.ysh_load_i64_8u.Reads as ysh_load_i64_8u_reads
use Rattle.yshankelt.proofs.ysh_load_i64_8u.Kinds as ysh_load_i64_8u_kinds
use Rattle.yshankelt.proofs.ysh_load_i64_16s.Reads as ysh_load_i64_16s_reads
use Rattle.yshankelt.proofs.ysh_load_i64_16s.Kinds as ysh_load_i64_16s_kinds
use Rattle.yshankelt.proofs.ysh_load_i64_16u.Reads as ysh_load_i64_16u_reads
use Rattle.yshankelt.proofs.ysh_load_i64_16u.Kinds as ysh_load_i64_16u_kinds
use Rattle.yshankelt.proofs.ysh_load_i64_32s.Reads as ysh_load_i64_32s_reads
use Rattle.yshankelt.proofs.ysh_load_i64_32s.Kinds as ysh_load_i64_32s_kinds
use Rattle.yshankelt.proofs.ysh_load_i64_32u.Reads as ysh_load_i64_32u_reads
use Rattle.yshankelt.proofs.ysh_load_i64_32u.Kinds as ysh_load_i64_32u_kinds
use Rattle.yshankelt.proofs.ysh_store_i32.Reads as ysh_store_i32_reads
use Rattle.yshankelt.proofs.ysh_store_i32.Kinds as ysh_store_i32_kinds
use Rattle.yshankelt.proofs.ysh_store_i64.Reads as ysh_store_i64_reads
use Rattle.yshankelt.proofs.ysh_store_i64.Kinds as ysh_store_i64_kinds
use Rattle.yshankelt.proofs.ysh_store_f32.Reads as ysh_store_f32_reads
use Rattle.yshankelt.proofs.ysh_store_f32.Kinds as ysh_store_f32_kinds
use Rattle.yshankelt.proofs.ysh_store_f64.Reads as ysh_store_f64_reads
use Rattle.yshankelt.proofs.ysh_store_f64.Kinds as ysh_store_f64_kinds
use Rattle.yshankelt.proofs.ysh_store_i32_8.Reads as ysh_store_i32_8_reads
use Rattle.yshankelt.proofs.ysh_store_i32_8.Kinds as ysh_store_i32_8_kinds
use Rattle.yshankelt.proofs.ysh_store_i32_16.Reads as ysh_store_i32_16_reads
use Rattle.yshankelt.proofs.ysh_store_i32_16.Kinds as ysh_store_i32_16_kinds
use Rattle.yshankelt.proofs.ysh_store_i64_8.Reads as ysh_store_i64_8_reads
use Rattle.yshankelt.proofs.ysh_store_i64_8.Kinds as ysh_store_i64_8_kinds
use Rattle.yshankelt.proofs.ysh_store_i64_16.Reads as ysh_store_i64_16_reads
use Rattle.yshankelt.proofs.ysh_store_i64_16.Kinds as ysh_store_i64_16_kinds
use Rattle.yshankelt.proofs.ysh_store_i64_32.Reads as ysh_store_i64_32_reads
use Rattle.yshankelt.proofs.ysh_store_i64_32.Kinds as ysh_store_i64_32_kinds
use Rattle.yshankelt.proofs.ysh_price.Reads as ysh_price_reads
use Rattle.yshankelt.proofs.ysh_price.Kinds as ysh_price_kinds
use Rattle.yshankelt.proofs.ysh_price_values.Reads as ysh_price_values_reads
use Rattle.yshankelt.proofs.ysh_price_values.Kinds as ysh_price_values_kinds
use Rattle.yshankelt.proofs.whole.ysh_machine_words.Reads as ysh_machine_words_reads
use Rattle.yshankelt.proofs.whole.ysh_machine_words.Kinds as ysh_machine_words_kinds
use Rattle.yshankelt.proofs.whole.ysh_machine_new.Reads as ysh_machine_new_reads
use Rattle.yshankelt.proofs.whole.ysh_machine_new.Kinds as ysh_machine_new_kinds
use Rattle.yshankelt.proofs.whole.ysh_operate.Reads as ysh_operate_reads
use Rattle.yshankelt.proofs.whole.ysh_operate.Kinds as ysh_operate_kinds
use Rattle.yshankelt.proofs.whole.ysh_memory_pages.Reads as ysh_memory_pages_reads
use Rattle.yshankelt.proofs.whole.ysh_memory_pages.Kinds as ysh_memory_pages_kinds
use Rattle.yshankelt.proofs.whole.ysh_table_cells.Reads as ysh_table_cells_reads
use Rattle.yshankelt.proofs.whole.ysh_table_cells.Kinds as ysh_table_cells_kinds

pub ysh_load_i32_one : OneWith 2 ysh_load_i32_kinds.ps ysh_load_i32_kinds.r ysh_load_i32_reads.Pre ysh_load_i32_reads.Post (ℕ) (λ κs s. s.1.1.1.0.now)
ysh_load_i32_one κs a x x' s s' z p q = (p.number ∙ sym q.number, p.out ∙ sym q.out)

pub ysh_load_i64_one : OneWith 2 ysh_load_i64_kinds.ps ysh_load_i64_kinds.r ysh_load_i64_reads.Pre ysh_load_i64_reads.Post (ℕ) (λ κs s. s.1.1.1.0.now)
ysh_load_i64_one κs a x x' s s' z p q = (p.number ∙ sym q.number, p.out ∙ sym q.out)

pub ysh_load_f32_one : OneWith 2 ysh_load_f32_kinds.ps ysh_load_f32_kinds.r ysh_load_f32_reads.Pre ysh_load_f32_reads.Post (ℕ) (λ κs s. s.1.1.1.0.now)
ysh_load_f32_one κs a x x' s s' z p q = (p.number ∙ sym q.number, p.out ∙ sym q.out)

pub ysh_load_f64_one : OneWith 2 ysh_load_f64_kinds.ps ysh_load_f64_kinds.r ysh_load_f64_reads.Pre ysh_load_f64_reads.Post (ℕ) (λ κs s. s.1.1.1.0.now)
ysh_load_f64_one κs a x x' s s' z p q = (p.number ∙ sym q.number, p.out ∙ sym q.out)

pub ysh_load_i32_8s_one : OneWith 2 ysh_load_i32_8s_kinds.ps ysh_load_i32_8s_kinds.r ysh_load_i32_8s_reads.Pre ysh_load_i32_8s_reads.Post (ℕ) (λ κs s. s.1.1.1.0.now)
ysh_load_i32_8s_one κs a x x' s s' z p q = (p.number ∙ sym q.number, p.out ∙ sym q.out)

pub ysh_load_i32_8u_one : OneWith 2 ysh_load_i32_8u_kinds.ps ysh_load_i32_8u_kinds.r ysh_load_i32_8u_reads.Pre ysh_load_i32_8u_reads.Post (ℕ) (λ κs s. s.1.1.1.0.now)
ysh_load_i32_8u_one κs a x x' s s' z p q = (p.number ∙ sym q.number, p.out ∙ sym q.out)

pub ysh_load_i32_16s_one : OneWith 2 ysh_load_i32_16s_kinds.ps ysh_load_i32_16s_kinds.r ysh_load_i32_16s_reads.Pre ysh_load_i32_16s_reads.Post (ℕ) (λ κs s. s.1.1.1.0.now)
ysh_load_i32_16s_one κs a x x' s s' z p q = (p.number ∙ sym q.number, p.out ∙ sym q.out)

pub ysh_load_i32_16u_one : OneWith 2 ysh_load_i32_16u_kinds.ps ysh_load_i32_16u_kinds.r ysh_load_i32_16u_reads.Pre ysh_load_i32_16u_reads.Post (ℕ) (λ κs s. s.1.1.1.0.now)
ysh_load_i32_16u_one κs a x x' s s' z p q = (p.number ∙ sym q.number, p.out ∙ sym q.out)

pub ysh_load_i64_8s_one : OneWith 2 ysh_load_i64_8s_kinds.ps ysh_load_i64_8s_kinds.r ysh_load_i64_8s_reads.Pre ysh_load_i64_8s_reads.Post (ℕ) (λ κs s. s.1.1.1.0.now)
ysh_load_i64_8s_one κs a x x' s s' z p q = (p.number ∙ sym q.number, p.out ∙ sym q.out)

pub ysh_load_i64_8u_one : OneWith 2 ysh_load_i64_8u_kinds.ps ysh_load_i64_8u_kinds.r ysh_load_i64_8u_reads.Pre ysh_load_i64_8u_reads.Post (ℕ) (λ κs s. s.1.1.1.0.now)
ysh_load_i64_8u_one κs a x x' s s' z p q = (p.number ∙ sym q.number, p.out ∙ sym q.out)

pub ysh_load_i64_16s_one : OneWith 2 ysh_load_i64_16s_kinds.ps ysh_load_i64_16s_kinds.r ysh_load_i64_16s_reads.Pre ysh_load_i64_16s_reads.Post (ℕ) (λ κs s. s.1.1.1.0.now)
ysh_load_i64_16s_one κs a x x' s s' z p q = (p.number ∙ sym q.number, p.out ∙ sym q.out)

pub ysh_load_i64_16u_one : OneWith 2 ysh_load_i64_16u_kinds.ps ysh_load_i64_16u_kinds.r ysh_load_i64_16u_reads.Pre ysh_load_i64_16u_reads.Post (ℕ) (λ κs s. s.1.1.1.0.now)
ysh_load_i64_16u_one κs a x x' s s' z p q = (p.number ∙ sym q.number, p.out ∙ sym q.out)

pub ysh_load_i64_32s_one : OneWith 2 ysh_load_i64_32s_kinds.ps ysh_load_i64_32s_kinds.r ysh_load_i64_32s_reads.Pre ysh_load_i64_32s_reads.Post (ℕ) (λ κs s. s.1.1.1.0.now)
ysh_load_i64_32s_one κs a x x' s s' z p q = (p.number ∙ sym q.number, p.out ∙ sym q.out)

pub ysh_load_i64_32u_one : OneWith 2 ysh_load_i64_32u_kinds.ps ysh_load_i64_32u_kinds.r ysh_load_i64_32u_reads.Pre ysh_load_i64_32u_reads.Post (ℕ) (λ κs s. s.1.1.1.0.now)
ysh_load_i64_32u_one κs a x x' s s' z p q = (p.number ∙ sym q.number, p.out ∙ sym q.out)

pub ysh_store_i32_one : OneWith 1 ysh_store_i32_kinds.ps ysh_store_i32_kinds.r ysh_store_i32_reads.Pre ysh_store_i32_reads.Post (List ℕ) (λ κs s. s.0.now)
ysh_store_i32_one κs a x x' s s' z p q = (p.number ∙ sym q.number, p.bytes ∙ sym q.bytes)

pub ysh_store_i64_one : OneWith 1 ysh_store_i64_kinds.ps ysh_store_i64_kinds.r ysh_store_i64_reads.Pre ysh_store_i64_reads.Post (List ℕ) (λ κs s. s.0.now)
ysh_store_i64_one κs a x x' s s' z p q = (p.number ∙ sym q.number, p.bytes ∙ sym q.bytes)

pub ysh_store_f32_one : OneWith 1 ysh_store_f32_kinds.ps ysh_store_f32_kinds.r ysh_store_f32_reads.Pre ysh_store_f32_reads.Post (List ℕ) (λ κs s. s.0.now)
ysh_store_f32_one κs a x x' s s' z p q = (p.number ∙ sym q.number, p.bytes ∙ sym q.bytes)

pub ysh_store_f64_one : OneWith 1 ysh_store_f64_kinds.ps ysh_store_f64_kinds.r ysh_store_f64_reads.Pre ysh_store_f64_reads.Post (List ℕ) (λ κs s. s.0.now)
ysh_store_f64_one κs a x x' s s' z p q = (p.number ∙ sym q.number, p.bytes ∙ sym q.bytes)

pub ysh_store_i32_8_one : OneWith 1 ysh_store_i32_8_kinds.ps ysh_store_i32_8_kinds.r ysh_store_i32_8_reads.Pre ysh_store_i32_8_reads.Post (List ℕ) (λ κs s. s.0.now)
ysh_store_i32_8_one κs a x x' s s' z p q = (p.number ∙ sym q.number, p.bytes ∙ sym q.bytes)

pub ysh_store_i32_16_one : OneWith 1 ysh_store_i32_16_kinds.ps ysh_store_i32_16_kinds.r ysh_store_i32_16_reads.Pre ysh_store_i32_16_reads.Post (List ℕ) (λ κs s. s.0.now)
ysh_store_i32_16_one κs a x x' s s' z p q = (p.number ∙ sym q.number, p.bytes ∙ sym q.bytes)

pub ysh_store_i64_8_one : OneWith 1 ysh_store_i64_8_kinds.ps ysh_store_i64_8_kinds.r ysh_store_i64_8_reads.Pre ysh_store_i64_8_reads.Post (List ℕ) (λ κs s. s.0.now)
ysh_store_i64_8_one κs a x x' s s' z p q = (p.number ∙ sym q.number, p.bytes ∙ sym q.bytes)

pub ysh_store_i64_16_one : OneWith 1 ysh_store_i64_16_kinds.ps ysh_store_i64_16_kinds.r ysh_store_i64_16_reads.Pre ysh_store_i64_16_reads.Post (List ℕ) (λ κs s. s.0.now)
ysh_store_i64_16_one κs a x x' s s' z p q = (p.number ∙ sym q.number, p.bytes ∙ sym q.bytes)

pub ysh_store_i64_32_one : OneWith 1 ysh_store_i64_32_kinds.ps ysh_store_i64_32_kinds.r ysh_store_i64_32_reads.Pre ysh_store_i64_32_reads.Post (List ℕ) (λ κs s. s.0.now)
ysh_store_i64_32_one κs a x x' s s' z p q = (p.number ∙ sym q.number, p.bytes ∙ sym q.bytes)

pub ysh_price_one : One 0 ysh_price_kinds.ps ysh_price_kinds.r ysh_price_reads.Pre ysh_price_reads.Post
ysh_price_one κs a x x' s s' z p q = p ∙ sym q

pub ysh_price_values_one : One 0 ysh_price_values_kinds.ps ysh_price_values_kinds.r ysh_price_values_reads.Pre ysh_price_values_reads.Post
ysh_price_values_one κs a x x' s s' z p q = p ∙ sym q

pub ysh_machine_words_one : One 0 ysh_machine_words_kinds.ps ysh_machine_words_kinds.r ysh_machine_words_reads.Pre ysh_machine_words_reads.Post
ysh_machine_words_one κs a x x' s s' z p q = p ∙ sym q

pub ysh_machine_new_one : OneWith 1 ysh_machine_new_kinds.ps ysh_machine_new_kinds.r ysh_machine_new_reads.Pre ysh_machine_new_reads.Post (List ℕ) (λ κs s. s.0.now)
ysh_machine_new_one κs a x x' s s' z p q = (ap (λ (o : Rowed). o.number) (p ∙ sym q), ap (λ (o : Rowed). o.words) (p ∙ sym q))

pub ysh_operate_one : OneWith 7 ysh_operate_kinds.ps ysh_operate_kinds.r ysh_operate_reads.Pre ysh_operate_reads.Post (ℕ × ℕ × List ℕ × Buffers)
    (λ κs s. (s.1.1.1.1.1.1.0.now, s.1.1.1.1.1.1.1.0.now, s.0.now, buffers s.1.0.now s.1.1.0.now s.1.1.1.0.now))
ysh_operate_one κs a x x' s s' z p q = (ap (λ (o : Call). o.number) (p ∙ sym q), ap lent (p ∙ sym q))
  where
    lent : Call → ℕ × ℕ × List ℕ × Buffers
    lent o = (o.value, o.fuel, o.words, o.buffers)

pub ysh_memory_pages_one : OneWith 2 ysh_memory_pages_kinds.ps ysh_memory_pages_kinds.r ysh_memory_pages_reads.Pre ysh_memory_pages_reads.Post (ℕ) (λ κs s. s.1.1.1.1.1.0.now)
ysh_memory_pages_one κs a x x' s s' z p q = (p.number ∙ sym q.number, p.out ∙ sym q.out)

pub ysh_table_cells_one : OneWith 2 ysh_table_cells_kinds.ps ysh_table_cells_kinds.r ysh_table_cells_reads.Pre ysh_table_cells_reads.Post (ℕ) (λ κs s. s.1.1.1.1.1.0.now)
ysh_table_cells_one κs a x x' s s' z p q = (p.number ∙ sym q.number, p.out ∙ sym q.out)
