-- The registers that a history leaves.
use Rattle.std.proofs.Common.{◌≡◌, ℕ, length, ap, sym, subst, ◌∙◌}
use Rattle.std.specs.Prelude.{All}
use Rattle.word_core.specs.History.{Memory, IsLegal, memory_of}
use Rattle.word_core.proofs.OfferedHistory.{history_rows}
use Rattle.stamp_table.specs.Passes.{TableView, PassView, memory_seen}

pub rows_left : (t : TableView) (m : Memory) (pass : PassView) → pass.table ≡ t → m ≡ memory_seen pass → m.rows ≡ (memory_of t.n t.rows pass.seen).rows
rows_left t m pass here same =
    ap (λ (x : Memory). x.rows) same ∙ ap (λ (u : TableView). (memory_of u.n u.rows pass.seen).rows) here

pub final_rows : (t : TableView) (count : ℕ) (m : Memory) (pass : PassView) → pass.table ≡ t → m ≡ memory_seen pass → IsLegal t.n t.rows pass.seen
    → t.n ≡ count → All (λ row. length row ≡ count) m.rows
final_rows t count m pass here same legal many =
    subst (All (λ row. length row ≡ count)) (sym (rows_left t m pass here same))
    (λ k d below. ((history_rows t.n t.rows pass.seen legal).each k d below).count ∙ many)
