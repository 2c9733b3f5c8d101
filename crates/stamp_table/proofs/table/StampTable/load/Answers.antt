use Rattle.std.proofs.Common.{◌<◌, ◌≤◌, ap, subst, ◌≡◌, sym, ◌∙◌}
use Rattle.word_core.specs.Packed.{IsWordOf, word}
use Rattle.word_core.specs.History.{memory_of}
use Rattle.word_core.specs.declared.history.SharedAct.TheVariants.{Load}
use Rattle.stamp_table.specs.Passes.{by, Appends}
use Rattle.stamp_table.specs.Ordered.{AreInOrder}
use Rattle.stamp_table.proofs.Going.{load_goes}
use Rattle.stamp_table.proofs.Answering.{load_found, word_is, labels_are, ordered_labels}
use Rattle.stamp_table.proofs.Here.{in_own, IsOf, is_of, held_seat, in_key, extended, appended}
use Rattle.stamp_table.proofs.table.StampTable.load.Goals as goal
use Rattle.stamp_table.proofs.table.StampTable.load.Goals.{After-loaded-found}

of : (c : goal.After-loaded-arg-1) → IsOf c.pass.inside c.args.pass.now c.self.inside
of c = is_of c.pass.inside c.args.pass.now c.pass.view_is c.pass.invariant c.self.inside c.args.self.now c.self.view_is c.self.invariant c.requires.here

pub loaded-found-requires-clause-goes : goal.loaded-found-requires-clause-goes
loaded-found-requires-clause-goes c =
    let key = c.self.inside.table.shared.key in
    load_goes key.n key.rows c.pass.inside.seat.me.0.held c.args.p
    (in_key c.pass.inside c.args.pass.now c.self.inside (of c) c.args.p c.requires.held)
    (held_seat c.pass.inside c.args.pass.now c.self.inside (of c) c.args.p c.requires.held)

-- the word that was found is that of the labels in the end
found : (c : goal.After-loaded-found) → word (memory_of c.pass.inside.n c.pass.inside.rows c.loaded-found.new.seat.me.0.seen).labels ≡ c.loaded-found.result
found c =
    load_found c.pass.inside.n c.pass.inside.rows c.pass.inside.held c.pass.inside.seat.me.0.seen c.loaded-found.new.seat.me.0.seen c.args.p c.loaded-found.result
    (extended c.pass.inside c.args.pass.now c.self.inside
    (is_of c.pass.inside c.args.pass.now c.pass.view_is c.pass.invariant c.self.inside c.args.self.now c.self.view_is c.self.invariant c.requires.here)
    (by c.args.p (Load c.loaded-found.result)) c.loaded-found.new.seat.me c.loaded-found.ensures.did)

pub from_bits-requires-clause-word : goal.from_bits-requires-clause-word
from_bits-requires-clause-word c =
    let own = is_of c.pass.inside c.args.pass.now c.pass.view_is c.pass.invariant c.self.inside c.args.self.now c.self.view_is c.self.invariant c.requires.here in
    let seen = c.loaded-found.new.seat.me.0.seen in (
      (memory_of c.pass.inside.n c.pass.inside.rows seen).labels,
      subst (λ k. IsWordOf k c.loaded-found.result (memory_of c.pass.inside.n c.pass.inside.rows seen).labels) (sym own.n)
          (word_is c.pass.inside.n c.pass.inside.rows seen c.loaded-found.result (found c)),
    )

pub returns-clause-step : goal.returns-clause-step
returns-clause-step c =
    let own = is_of c.pass.inside c.args.pass.now c.pass.view_is c.pass.invariant c.self.inside c.args.self.now c.self.view_is c.self.invariant c.requires.here in
    let seat = c.loaded-found.new.seat in
    subst (λ w. Appends c.args.pass.now (by c.args.p (Load w)) (record {
      table = record { id = seat.table_id; n = c.pass.inside.n; rows = c.pass.inside.rows };
      held = c.pass.inside.held;
      seen = seat.me.0.seen;
    })) (sym c.from_bits.ensures.packs)
    (appended c.pass.inside c.args.pass.now c.self.inside own (by c.args.p (Load c.loaded-found.result)) seat.table_id seat.me
    c.loaded-found.ensures.same c.loaded-found.ensures.did)

pub returns-clause-labels : goal.returns-clause-labels
returns-clause-labels c =
    let own = is_of c.pass.inside c.args.pass.now c.pass.view_is c.pass.invariant c.self.inside c.args.self.now c.self.view_is c.self.invariant c.requires.here in
    labels_are c.pass.inside.n c.pass.inside.rows (subst (λ k. k ≤ 6) own.n c.self.invariant.5) c.loaded-found.new.seat.me.0.seen c.loaded-found.result c.from_bits.result
    (found (goal.at.returns-clause-labels c).After-loaded-found) (subst (λ k. IsWordOf k c.loaded-found.result c.from_bits.result) own.n c.from_bits.ensures)

pub returns-clause-ordered : goal.returns-clause-ordered
returns-clause-ordered c =
    let of = is_of c.pass.inside c.args.pass.now c.pass.view_is c.pass.invariant c.self.inside c.args.self.now c.self.view_is c.self.invariant c.requires.here in
    subst (λ k. AreInOrder k c.from_bits.result) (sym of.n ∙ ap (λ z. z.n) c.self.view_is)
    (ordered_labels c.pass.inside.n c.pass.inside.rows c.loaded-found.new.seat.me.0.seen c.from_bits.result (returns-clause-labels c))

pub returns-clause-range : goal.returns-clause-range
returns-clause-range c =
    let of = is_of c.pass.inside c.args.pass.now c.pass.view_is c.pass.invariant c.self.inside c.args.self.now c.self.view_is c.self.invariant c.requires.here in
    subst (λ k. c.args.p < k) (ap (λ z. z.n) c.self.view_is ∙ sym (returns-clause-ordered c).count)
    (in_own c.pass.inside c.args.pass.now c.self.inside of c.args.p c.requires.held)
