use Rattle.std.proofs.Common.{◌^◌, ◌<◌, ◌+◌, ◌*◌, ap, ◌∙◌, rules}
use Rattle.word_core.specs.declared.history.SharedAct.TheVariants.{Read}
use Rattle.stamp_table.specs.Passes.{by, Extends}
use Rattle.stamp_table.proofs.Going.{read_goes}
use Rattle.stamp_table.proofs.Answering.{read_found, read_fits}
use Rattle.stamp_table.proofs.Here.{is_of, held_seat, in_key, row_in_key, index_in_key, extended, appended}
use Rattle.stamp_table.proofs.table.StampTable.read.Goals as goal

pub fetched-requires-clause-goes : goal.fetched-requires-clause-goes
fetched-requires-clause-goes c =
    let of = is_of c.pass.inside c.args.pass.now c.pass.view_is c.pass.invariant c.self.inside c.args.self.now c.self.view_is c.self.invariant c.requires.here in
    let key = c.self.inside.table.shared.key in
    read_goes key.n key.rows c.pass.inside.seat.me.0.held c.args.p c.args.r c.args.i c.register_place-place.result
    (in_key c.pass.inside c.args.pass.now c.self.inside of c.args.p c.requires.held)
    (held_seat c.pass.inside c.args.pass.now c.self.inside of c.args.p c.requires.held)
    (row_in_key c.pass.inside c.args.pass.now c.self.inside of c.args.self.now c.self.view_is c.self.invariant c.args.r c.requires.row)
    (index_in_key c.pass.inside c.args.pass.now c.self.inside of c.args.self.now c.self.view_is c.self.invariant c.args.i c.requires.index)
    (c.register_place-place.ensures.place ∙ ap (λ k. c.args.r * k + c.args.i) c.self.invariant.0)

-- the step that was made
did : (c : goal.After-fetched) → Extends c.pass.inside.n c.pass.inside.rows c.pass.inside.held c.pass.inside.seat.me.0.seen
    (by c.args.p (Read c.args.r c.args.i c.fetched.result)) c.fetched.new.seat.me.0.seen
did c =
    let of = is_of c.pass.inside c.args.pass.now c.pass.view_is c.pass.invariant c.self.inside c.args.self.now c.self.view_is c.self.invariant c.requires.here in
    extended c.pass.inside c.args.pass.now c.self.inside of (by c.args.p (Read c.args.r c.args.i c.fetched.result)) c.fetched.new.seat.me c.fetched.ensures.did

pub overflow_cast-result : goal.overflow_cast-result
overflow_cast-result c =
    let fits : c.fetched.result < 2 ^ 32 =
    read_fits c.pass.inside.n c.pass.inside.rows c.pass.inside.held c.pass.inside.seat.me.0.seen c.fetched.new.seat.me.0.seen c.args.p
    c.args.r c.args.i c.fetched.result (did c) in
    search rules

pub returns-clause-step : goal.returns-clause-step
returns-clause-step c =
    let of = is_of c.pass.inside c.args.pass.now c.pass.view_is c.pass.invariant c.self.inside c.args.self.now c.self.view_is c.self.invariant c.requires.here in
    appended c.pass.inside c.args.pass.now c.self.inside of (by c.args.p (Read c.args.r c.args.i c.fetched.result)) c.fetched.new.seat.table_id
    c.fetched.new.seat.me c.fetched.ensures.same c.fetched.ensures.did

pub returns-clause-value : goal.returns-clause-value
returns-clause-value c =
    read_found c.pass.inside.n c.pass.inside.rows c.pass.inside.held c.pass.inside.seat.me.0.seen c.fetched.new.seat.me.0.seen c.args.p
    c.args.r c.args.i c.fetched.result (did c)
