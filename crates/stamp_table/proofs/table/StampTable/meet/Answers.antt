use Rattle.std.proofs.Common.{◌≡◌, ℕ, ◌<◌, [], ap, sym, subst, ◌∙◌, arith}
use Rattle.atomic_table.specs.Table.{Me}
use Rattle.stamp_table.specs.Passes.{Holds, together, Meets}
use Rattle.stamp_table.specs.Rule.{plain}
use Rattle.stamp_table.specs.declared.rule.View.{View}
use Rattle.stamp_table.proofs.Parting.{joins}
use Rattle.stamp_table.proofs.Here.{is_of, plain_seat}
use Rattle.stamp_table.proofs.Meeting.{met_few, met_me, met}
use Rattle.stamp_table.proofs.table.StampTable.meet.Goals as goal

pub join_seat-requires : goal.join_seat-requires
join_seat-requires c =
    let first = is_of c.first.inside c.args.first c.first.view_is c.first.invariant c.self.inside c.args.self.now c.self.view_is c.self.invariant c.requires.first_here in
    let second = is_of c.second.inside c.args.second c.second.view_is c.second.invariant c.self.inside c.args.self.now c.self.view_is c.self.invariant c.requires.second_here in
    let key = c.self.inside.table.shared.key in (
      first.id,
      second.id,
      ap (λ m. m.1) second.plain,
      omega (arith, c.self.invariant.2),
      joins key.n key.rows c.first.inside.seat.id c.first.inside.seat.me.0 c.second.inside.seat.id c.second.inside.seat.me.0
          (plain_seat c.first.inside c.args.first c.self.inside first) (plain_seat c.second.inside c.args.second c.self.inside second),
    )

pub invariant_of-result : goal.invariant_of-result
invariant_of-result c =
    let first = is_of c.first.inside c.args.first c.first.view_is c.first.invariant c.self.inside c.args.self.now c.self.view_is c.self.invariant c.requires.first_here in
    let second = is_of c.second.inside c.args.second c.second.view_is c.second.invariant c.self.inside c.args.self.now c.self.view_is c.self.invariant c.requires.second_here in
    let me = met_me c.first.inside c.second.inside c.args.first c.args.second c.self.inside first second c.join_seat.new.seat.me c.looked.new.seat.me
    c.join_seat.ensures.2 c.looked.ensures.did in
    let seen = c.looked.new.seat.me.0.seen in
    subst (λ h. (c.looked.new.seat.me ≡ (plain h seen, [])) × ((p : ℕ) → Holds h p → p < c.first.inside.n)) (sym c.either_held.ensures) (
      me ∙ ap (λ s. let r : Me ℕ View = (plain (together c.first.inside.held c.second.inside.held) s, []) in r) (sym (ap (λ (m : Me ℕ View). m.0.seen) me)),
      met_few c.first.inside c.second.inside c.args.first c.args.second c.self.inside first second,
    )

pub returns : goal.returns
returns c =
    let first = is_of c.first.inside c.args.first c.first.view_is c.first.invariant c.self.inside c.args.self.now c.self.view_is c.self.invariant c.requires.first_here in
    let second = is_of c.second.inside c.args.second c.second.view_is c.second.invariant c.self.inside c.args.self.now c.self.view_is c.self.invariant c.requires.second_here in
    let seat = c.looked.new.seat in
    subst (λ h. Meets c.args.first c.args.second (record { table = record { id = seat.table_id; n = c.first.inside.n; rows = c.first.inside.rows }; held = h; seen = seat.me.0.seen }))
    (sym c.either_held.ensures)
    (met c.first.inside c.second.inside c.args.first c.args.second c.self.inside first second c.join_seat.new.seat.me seat.me
    c.join_seat.ensures.2 c.looked.ensures.did seat.table_id (c.looked.ensures.same ∙ c.join_seat.ensures.0))
