use Rattle.std.proofs.Common.{◌<◌, ◌≤◌, ap, subst, sym, ◌∙◌}
use Rattle.word_core.specs.Stamps.{cleared}
use Rattle.word_core.specs.Packed.{IsWordOf}
use Rattle.word_core.specs.declared.history.SharedAct.TheVariants.{Clear}
use Rattle.stamp_table.specs.Passes.{by, Extends}
use Rattle.stamp_table.specs.Ordered.{AreInOrder}
use Rattle.stamp_table.proofs.Going.{clear_goes}
use Rattle.stamp_table.proofs.Answering.{clear_found, clear_leaves, ordered_labels}
use Rattle.stamp_table.proofs.Here.{is_of, held_seat, in_key, extended}
use Rattle.stamp_table.proofs.table.StampTable.take_out.Goals as goal
use Rattle.stamp_table.proofs.table.StampTable.take_out.Goals.{After-masked-found}

pub masked-found-requires-clause-goes : goal.masked-found-requires-clause-goes
masked-found-requires-clause-goes c =
    let of = is_of c.pass.inside c.args.pass.now c.pass.view_is c.pass.invariant c.self.inside c.args.self.now c.self.view_is c.self.invariant c.requires.here in
    let key = c.self.inside.table.shared.key in
    let in_p : c.args.p < key.n = in_key c.pass.inside c.args.pass.now c.self.inside of c.args.p c.requires.held in
    let few : key.n ≤ 6 = subst (λ k. k ≤ 6) c.self.invariant.0 c.self.invariant.5 in
    clear_goes key.n key.rows c.pass.inside.seat.me.0.held c.args.p c.clear_mask.result in_p
    (held_seat c.pass.inside c.args.pass.now c.self.inside of c.args.p c.requires.held)
    (λ labels are. c.clear_mask.ensures key.n labels few are (subst (λ k. c.args.p < k) (sym are.count) in_p))

-- the step that was made
did : (c : After-masked-found) → Extends c.pass.inside.n c.pass.inside.rows c.pass.inside.held c.pass.inside.seat.me.0.seen
    (by c.args.p (Clear c.masked-found.result)) c.masked-found.new.seat.me.0.seen
did c =
    let of = is_of c.pass.inside c.args.pass.now c.pass.view_is c.pass.invariant c.self.inside c.args.self.now c.self.view_is c.self.invariant c.requires.here in
    extended c.pass.inside c.args.pass.now c.self.inside of (by c.args.p (Clear c.masked-found.result)) c.masked-found.new.seat.me c.masked-found.ensures.did

pub from_bits-requires-clause-word : goal.from_bits-requires-clause-word
from_bits-requires-clause-word c =
    let of = is_of c.pass.inside c.args.pass.now c.pass.view_is c.pass.invariant c.self.inside c.args.self.now c.self.view_is c.self.invariant c.requires.here in
    let found = clear_found c.pass.inside.n c.pass.inside.rows c.pass.inside.held c.pass.inside.seat.me.0.seen c.masked-found.new.seat.me.0.seen
    c.args.p c.masked-found.result (did c) in
    (found.0, subst (λ k. IsWordOf k c.masked-found.result found.0) (sym of.n) found.1)

pub returns-clause-left : goal.returns-clause-left
returns-clause-left c =
    let of = is_of c.pass.inside c.args.pass.now c.pass.view_is c.pass.invariant c.self.inside c.args.self.now c.self.view_is c.self.invariant c.requires.here in
    clear_leaves c.pass.inside.n c.pass.inside.rows c.pass.inside.held c.pass.inside.seat.me.0.seen c.masked-found.new.seat.me.0.seen
    c.args.p c.masked-found.result c.from_bits.result (subst (λ k. k ≤ 6) of.n c.self.invariant.5)
    (subst (λ k. IsWordOf k c.masked-found.result c.from_bits.result) of.n c.from_bits.ensures)
    (did (goal.at.returns-clause-left c).After-masked-found)

pub returns-clause-ordered : goal.returns-clause-ordered
returns-clause-ordered c =
    let of = is_of c.pass.inside c.args.pass.now c.pass.view_is c.pass.invariant c.self.inside c.args.self.now c.self.view_is c.self.invariant c.requires.here in
    subst (λ k. AreInOrder k (cleared c.args.p c.from_bits.result)) (sym of.n ∙ ap (λ z. z.n) c.self.view_is)
    (ordered_labels c.pass.inside.n c.pass.inside.rows c.masked-found.new.seat.me.0.seen (cleared c.args.p c.from_bits.result) (returns-clause-left c))
