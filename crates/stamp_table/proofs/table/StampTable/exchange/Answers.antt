-- How the goals of `exchange` are met: what was exchanged are words, and what is told are labels.
-- The idea. The word found is the old one or another. `act_is` says by these two cases that the act of the words is that of
-- the answer. Where the exchange was lost, the word found is that of the labels in the end (`lost`), so labels can be read
-- from it. `told` is the step in the words of the answer, and the clauses come from it.
-- Read `act_is` first, then `told`.
use Rattle.std.proofs.Common.{◌≡◌, ◌≤◌, ◌==◌, ap, sym, ◌∙◌, subst, refl}
use Rattle.std.proofs.lemmas.Bool.{eq-eqb, ne_eqb}
use Rattle.word_core.specs.Packed.{AreLabels, IsWordOf, word}
use Rattle.word_core.specs.History.{memory_of}
use Rattle.stamp_table.specs.Passes.{by, Extends, Appends}
use Rattle.stamp_table.specs.Swapped.{swap_act, LostToOthers}
use Rattle.stamp_table.specs.prover.Steps.{exchange_act}
use Rattle.stamp_table.proofs.Going.{exchange_goes}
use Rattle.stamp_table.proofs.Answering.{lost_found, word_is}
use Rattle.stamp_table.proofs.Swapping.{LostAre, leaves, differs}
use Rattle.stamp_table.proofs.Here.{is_of, held_seat, in_key, extended, appended}
use Rattle.stamp_table.proofs.table.StampTable.exchange.Goals as goal
use Rattle.stamp_table.proofs.table.StampTable.exchange.Goals.{then-found-old, else-found-old}

pub exchanged-found-requires-clause-goes : goal.exchanged-found-requires-clause-goes
exchanged-found-requires-clause-goes c =
    let of = is_of c.pass.inside c.args.pass.now c.pass.view_is c.pass.invariant c.self.inside c.args.self.now c.self.view_is c.self.invariant c.requires.here in
    let key = c.self.inside.table.shared.key in
    let n_is : c.n-n.result ≡ key.n = c.n-n.ensures.count ∙ c.requires.ordered.count ∙ sym (ap (λ z. z.n) c.self.view_is) ∙ c.self.invariant.0 in
    rw (c.bits-old.ensures, c.bits.ensures)
    (exchange_goes key.n key.rows c.pass.inside.seat.me.0.held c.args.p c.args.old c.args.new
    (subst (λ k. k ≤ 6) n_is c.n-n.ensures.at_most_six)
    (in_key c.pass.inside c.args.pass.now c.self.inside of c.args.p c.requires.held)
    (held_seat c.pass.inside c.args.pass.now c.self.inside of c.args.p c.requires.held)
    (subst (λ k. AreLabels k c.args.old) n_is c.n-n.ensures.labels) c.requires.stamped)

-- the exchange was lost, and the word found is that of the labels in the end
lost : (c : goal.Else-found-old) → word (memory_of c.pass.inside.n c.pass.inside.rows c.exchanged-found.new.seat.me.0.seen).labels ≡ c.exchanged-found.result
lost c =
    let of = is_of c.pass.inside c.args.pass.now c.pass.view_is c.pass.invariant c.self.inside c.args.self.now c.self.view_is c.self.invariant c.requires.here in
    let old = c.bits-old.result in
    let new = c.bits.result in
    let found = c.exchanged-found.result in
    let before = c.pass.inside.seat.me.0.seen in
    let after = c.exchanged-found.new.seat.me.0.seen in
    let e : Extends c.pass.inside.n c.pass.inside.rows c.pass.inside.held before (by c.args.p (exchange_act (found == old) old new found)) after =
    extended c.pass.inside c.args.pass.now c.self.inside of (by c.args.p (exchange_act (found == old) old new found)) c.exchanged-found.new.seat.me c.exchanged-found.ensures.did in
    (lost_found c.pass.inside.n c.pass.inside.rows c.pass.inside.held before after c.args.p old found
    (subst (λ b. Extends c.pass.inside.n c.pass.inside.rows c.pass.inside.held before (by c.args.p (exchange_act b old new found)) after)
    (ne_eqb found old c.if-found-old.false) e)).0

pub from_bits-requires-clause-word : goal.from_bits-requires-clause-word
from_bits-requires-clause-word c =
    let of = is_of c.pass.inside c.args.pass.now c.pass.view_is c.pass.invariant c.self.inside c.args.self.now c.self.view_is c.self.invariant c.requires.here in
    let n_is : c.n-n.result ≡ c.pass.inside.n = c.n-n.ensures.count ∙ c.requires.ordered.count ∙ sym (ap (λ z. z.n) c.self.view_is) ∙ of.n in
    let seen = c.exchanged-found.new.seat.me.0.seen in
    let labels = (memory_of c.pass.inside.n c.pass.inside.rows seen).labels in (
      labels,
      subst (λ k. IsWordOf k c.exchanged-found.result labels) (sym n_is)
          (word_is c.pass.inside.n c.pass.inside.rows seen c.exchanged-found.result (lost c)),
    )

act_is : (c : goal.Joined-found-old) → exchange_act (c.exchanged-found.result == c.bits-old.result) c.bits-old.result c.bits.result c.exchanged-found.result
    ≡ swap_act c.args.old c.args.new c.if-found-old.result
act_is c =
    elim c.if-found-old.branch [
      | then-found-old w ↦ rw (eq-eqb c.exchanged-found.result c.bits-old.result w.if-found-old.true, w.result-is, c.bits-old.ensures, c.bits.ensures) refl
      | else-found-old w ↦ rw (ne_eqb c.exchanged-found.result c.bits-old.result w.if-found-old.false, w.result-is, c.bits-old.ensures, ← w.from_bits.ensures.packs) refl
    ]

pub returns-clause-step : goal.returns-clause-step
returns-clause-step c =
    let of = is_of c.pass.inside c.args.pass.now c.pass.view_is c.pass.invariant c.self.inside c.args.self.now c.self.view_is c.self.invariant c.requires.here in
    let seat = c.exchanged-found.new.seat in
    let found = c.exchanged-found.result in
    let old = c.bits-old.result in
    let act = exchange_act (found == old) old c.bits.result found in
    subst (λ a. Appends c.args.pass.now (by c.args.p a) (record {
      table = record { id = seat.table_id; n = c.pass.inside.n; rows = c.pass.inside.rows };
      held = c.pass.inside.held;
      seen = seat.me.0.seen;
    })) (act_is c)
    (appended c.pass.inside c.args.pass.now c.self.inside of (by c.args.p act) seat.table_id seat.me c.exchanged-found.ensures.same c.exchanged-found.ensures.did)

-- the step in the words of its answer
told : (c : goal.Joined-found-old) → Extends c.pass.inside.n c.pass.inside.rows c.pass.inside.held c.pass.inside.seat.me.0.seen
    (by c.args.p (swap_act c.args.old c.args.new c.if-found-old.result)) c.exchanged-found.new.seat.me.0.seen
told c =
    let of = is_of c.pass.inside c.args.pass.now c.pass.view_is c.pass.invariant c.self.inside c.args.self.now c.self.view_is c.self.invariant c.requires.here in
    let found = c.exchanged-found.result in
    let old = c.bits-old.result in
    let act = exchange_act (found == old) old c.bits.result found in
    let before = c.pass.inside.seat.me.0.seen in
    let after = c.exchanged-found.new.seat.me.0.seen in
    subst (λ a. Extends c.pass.inside.n c.pass.inside.rows c.pass.inside.held before (by c.args.p a) after) (act_is c)
    (extended c.pass.inside c.args.pass.now c.self.inside of (by c.args.p act) c.exchanged-found.new.seat.me c.exchanged-found.ensures.did)

pub returns-clause-labels : goal.returns-clause-labels
returns-clause-labels c =
    let of = is_of c.pass.inside c.args.pass.now c.pass.view_is c.pass.invariant c.self.inside c.args.self.now c.self.view_is c.self.invariant c.requires.here in
    let n_is : c.n-n.result ≡ c.pass.inside.n = c.n-n.ensures.count ∙ c.requires.ordered.count ∙ sym (ap (λ z. z.n) c.self.view_is) ∙ of.n in
    leaves c.pass.inside.n c.pass.inside.rows c.pass.inside.held c.pass.inside.seat.me.0.seen c.exchanged-found.new.seat.me.0.seen c.args.p c.args.old c.args.new
    c.if-found-old.result (subst (λ k. k ≤ 6) n_is c.n-n.ensures.at_most_six) (subst (λ k. AreLabels k c.args.old) n_is c.n-n.ensures.labels) c.requires.stamped
    (elim c.if-found-old.branch [
      | then-found-old w ↦ subst (LostAre c.pass.inside.n) (sym w.result-is) tt
      | else-found-old w ↦ subst (LostAre c.pass.inside.n) (sym w.result-is) (subst (λ k. AreLabels k w.from_bits.result) n_is w.from_bits.ensures.are)
    ])
    (told c)

pub returns-clause-lost : goal.returns-clause-lost
returns-clause-lost c =
    let of = is_of c.pass.inside c.args.pass.now c.pass.view_is c.pass.invariant c.self.inside c.args.self.now c.self.view_is c.self.invariant c.requires.here in
    subst (λ k. LostToOthers k c.args.old c.if-found-old.result) (sym of.n ∙ ap (λ z. z.n) c.self.view_is) (differs c.pass.inside.n c.pass.inside.rows c.pass.inside.held c.pass.inside.seat.me.0.seen c.exchanged-found.new.seat.me.0.seen c.args.p c.args.old c.args.new
    c.if-found-old.result (told c) (returns-clause-labels c))
