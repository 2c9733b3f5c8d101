use Rattle.std.proofs.Common.{◌^◌, ◌<◌, ◌+◌, ◌*◌, ap, ◌∙◌, rules}
use Rattle.word_core.specs.declared.history.SharedAct.TheVariants.{Write}
use Rattle.stamp_table.specs.Passes.{by}
use Rattle.stamp_table.proofs.Going.{write_goes}
use Rattle.stamp_table.proofs.Here.{is_of, held_seat, in_own, in_key, row_in_key, appended}
use Rattle.stamp_table.proofs.table.StampTable.write.Goals as goal

pub register_place-place-requires-clause-index : goal.register_place-place-requires-clause-index
register_place-place-requires-clause-index c =
    let of = is_of c.pass.inside c.args.pass.now c.pass.view_is c.pass.invariant c.self.inside c.args.self.now c.self.view_is c.self.invariant c.requires.here in
    in_own c.pass.inside c.args.pass.now c.self.inside of c.args.p c.requires.held

pub stored-requires-clause-goes : goal.stored-requires-clause-goes
stored-requires-clause-goes c =
    let of = is_of c.pass.inside c.args.pass.now c.pass.view_is c.pass.invariant c.self.inside c.args.self.now c.self.view_is c.self.invariant c.requires.here in
    let key = c.self.inside.table.shared.key in
    let small : c.args.v < 2 ^ 32 = search rules in
    write_goes key.n key.rows c.pass.inside.seat.me.0.held c.args.p c.args.r c.args.v c.register_place-place.result
    (in_key c.pass.inside c.args.pass.now c.self.inside of c.args.p c.requires.held)
    (held_seat c.pass.inside c.args.pass.now c.self.inside of c.args.p c.requires.held)
    (row_in_key c.pass.inside c.args.pass.now c.self.inside of c.args.self.now c.self.view_is c.self.invariant c.args.r c.requires.row)
    small
    (c.register_place-place.ensures.place ∙ ap (λ k. c.args.r * k + c.args.p) c.self.invariant.0)

pub returns : goal.returns
returns c =
    let of = is_of c.pass.inside c.args.pass.now c.pass.view_is c.pass.invariant c.self.inside c.args.self.now c.self.view_is c.self.invariant c.requires.here in
    appended c.pass.inside c.args.pass.now c.self.inside of (by c.args.p (Write c.args.r c.args.v)) c.stored.new.seat.table_id
    c.stored.new.seat.me c.stored.ensures.same c.stored.ensures.did
