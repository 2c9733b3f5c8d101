use Rattle.std.specs.Prelude.{slice_index}
use Rattle.std.proofs.Common.{◌≡◌, ◌*◌, ◌<◌, ◌≤◌, ap, sym, subst, ◌∙◌, arith}
use Rattle.std.specs.Mem.Slots.{slots_items}
use Rattle.word_core.specs.History.{memory_of, IsLegal}
use Rattle.stamp_table.specs.Passes.{TableView, PassView, memory_seen}
use Rattle.stamp_table.specs.Rule.{table_words}
use Rattle.stamp_table.proofs.Answering.{word_is}
use Rattle.stamp_table.proofs.Ends.{finished}
use Rattle.stamp_table.proofs.Rows.{got, closed_memory, closed_fits, length-rows_in, few_registers}
use Rattle.stamp_table.proofs.Here.{is_of}
use Rattle.stamp_table.proofs.table.StampTable.close.Goals as goal
use Rattle.stamp_table.proofs.table.StampTable.close.Goals.{After-word}

-- what the closed table has, and that the history was legal
done : (c : goal.After-word) → (slots_items c.close_with-closed.result.words ≡ table_words (memory_of c.self.inside.n c.self.inside.rows c.pass.inside.seat.me.0.seen))
    × IsLegal c.self.inside.n c.self.inside.rows c.pass.inside.seat.me.0.seen
done c =
    let of = is_of c.pass.inside c.args.pass c.pass.view_is c.pass.invariant c.self.inside c.args.self c.self.view_is c.self.invariant c.requires.here in
    finished c.pass.inside c.args.pass c.self.inside of (slots_items c.close_with-closed.result.words) (slots_items c.close_with-closed.result.slots)
    (λ p in_p. c.requires.all p (subst (λ (z : TableView). p < z.n) c.self.view_is in_p)) c.close_with-closed.ensures.values.2

pub from_bits-word-requires-clause-word : goal.from_bits-word-requires-clause-word
from_bits-word-requires-clause-word c =
    let seen = c.pass.inside.seat.me.0.seen in
    let items = slots_items c.close_with-closed.result.words in (
      (memory_of c.self.inside.n c.self.inside.rows seen).labels,
      word_is c.self.inside.n c.self.inside.rows seen c.word.result (sym (ap (λ l. slice_index l 0) (done c).0) ∙ got items 0 c.word.result c.word.ensures),
    )

pub copied-registers-requires-clause-small : goal.copied-registers-requires-clause-small
copied-registers-requires-clause-small c =
    let ended = done (goal.at.copied-registers-requires-clause-small c).After-word in
    closed_fits c.self.inside.n c.self.inside.rows c.pass.inside.seat.me.0.seen (slots_items c.close_with-closed.result.words) ended.1 ended.0

pub returns-clause-memory : goal.returns-clause-memory
returns-clause-memory c =
    let of = is_of c.pass.inside c.args.pass c.pass.view_is c.pass.invariant c.self.inside c.args.self c.self.view_is c.self.invariant c.requires.here in
    let ended = done (goal.at.returns-clause-memory c).After-word in
    let own = c.self.inside in
    let seen = c.pass.inside.seat.me.0.seen in
    let few : own.rows * own.n ≤ 48 = few_registers own.n own.rows c.self.invariant.5 c.self.invariant.6 in
    closed_memory own.n own.rows c.self.invariant.5 seen (slots_items c.close_with-closed.result.words) c.copied-registers.result c.word.result c.from_bits-word.result
    ended.1 ended.0 c.word.ensures c.from_bits-word.ensures (omega (arith, few, c.copied-registers.ensures.len)) c.copied-registers.ensures.copied
    ∙ ap (λ k. memory_of k own.rows seen) of.n ∙ ap (λ k. memory_of c.pass.inside.n k seen) of.rows
    ∙ ap memory_seen of.view

pub returns-clause-legal : goal.returns-clause-legal
returns-clause-legal c =
    let ended = done (goal.at.returns-clause-legal c).After-word in
    subst (λ (t : TableView). IsLegal t.n t.rows c.args.pass.seen) c.self.view_is
    (subst (λ (z : PassView). IsLegal c.self.inside.n c.self.inside.rows z.seen) c.pass.view_is ended.1)

pub returns-clause-rows : goal.returns-clause-rows
returns-clause-rows c =
    length-rows_in c.self.inside.rows c.self.inside.n c.copied-registers.result ∙ ap (λ (z : TableView). z.rows) c.self.view_is
