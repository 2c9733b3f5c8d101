-- What a meeting of two passes makes of them.
use Rattle.std.proofs.Common.{◌≡◌, ℕ, ◌<◌, List, [], refl, sym, ap, ◌∙◌, subst, ⊎_elim}
use Rattle.atomic_table.specs.Table.{Me}
use Rattle.atomic_table.specs.Seated.{TableId}
use Rattle.word_core.specs.declared.history.Shared.{Shared}
use Rattle.stamp_table.specs.Passes.{Holds, together, longer, TableView, PassView, Meets}
use Rattle.stamp_table.specs.Rule.{plain}
use Rattle.stamp_table.specs.prover.Steps.{joined, settled, Learns, Settles}
use Rattle.stamp_table.specs.declared.rule.View.{View}
use Rattle.stamp_table.specs.declared.pass.Pass.TheInside as P
use Rattle.stamp_table.specs.declared.table.StampTable.TheInside as T
use Rattle.stamp_table.specs.contracts.pass.Pass as pass
use Rattle.stamp_table.proofs.Sets.{holds_together}
use Rattle.stamp_table.proofs.Here.{IsOf}

module _ (first second : P.Inside) (v w : PassView) (own : T.Inside) (of_first : IsOf first v own) (of_second : IsOf second w own) where
  -- whoever is held afterwards is a process of the table
  pub met_few : (p : ℕ) → Holds (together first.held second.held) p → p < first.n
  met_few p holds = ⊎_elim
      (λ one. of_first.few p one)
      (λ other. subst (λ k. p < k) (sym of_second.n ∙ of_first.n) (of_second.few p other))
      (holds_together first.held second.held p holds)

  module _ (both new : Me ℕ View) (both_is : both ≡ (joined first.seat.me.0 second.seat.me.0, first.seat.me.1))
      (did : Settles own.table.shared.key.n own.table.shared.key.rows both new) where
    pub met_me : new ≡ (plain (together first.held second.held) (longer first.seat.me.0.seen second.seat.me.0.seen), [])
    met_me =
        let first_held : first.seat.me.0.held ≡ first.held = ap (λ (m : Me ℕ View). m.0.held) of_first.plain in
        let second_held : second.seat.me.0.held ≡ second.held = ap (λ (m : Me ℕ View). m.0.held) of_second.plain in
        let long : List Shared = longer first.seat.me.0.seen second.seat.me.0.seen in
        did.0
        ∙ ap (λ (m : Me ℕ View). let r : Me ℕ View = (settled m.0, m.1) in r) both_is
        ∙ ap (λ (l : List (ℕ × ℕ)). let r : Me ℕ View = (plain (together first.seat.me.0.held second.seat.me.0.held) long, l) in r) (ap (λ (m : Me ℕ View). m.1) of_first.plain)
        ∙ ap (λ h. let r : Me ℕ View = (plain (together h second.seat.me.0.held) long, []) in r) first_held
        ∙ ap (λ h. let r : Me ℕ View = (plain (together first.held h) long, []) in r) second_held

    learned : Learns first.n first.rows (joined first.seat.me.0 second.seat.me.0)
    learned =
        subst (λ k. Learns k first.rows (joined first.seat.me.0 second.seat.me.0)) of_first.key_n
        (subst (λ k. Learns own.table.shared.key.n k (joined first.seat.me.0 second.seat.me.0)) of_first.key_rows
        (subst (λ (m : Me ℕ View). Learns own.table.shared.key.n own.table.shared.key.rows m.0) both_is did.1))

    pub met : (new_id : TableId) → new_id ≡ first.seat.table_id
        → Meets v w (record { table = record { id = new_id; n = first.n; rows = first.rows }; held = together first.held second.held; seen = new.0.seen })
    met new_id same =
        let agrees = learned in
        let long : List Shared = longer first.seat.me.0.seen second.seat.me.0.seen in
        let seen : new.0.seen ≡ long = ap (λ (m : Me ℕ View). m.0.seen) met_me in
        let first_held : first.seat.me.0.held ≡ first.held = ap (λ (m : Me ℕ View). m.0.held) of_first.plain in
        let second_held : second.seat.me.0.held ≡ second.held = ap (λ (m : Me ℕ View). m.0.held) of_second.plain in
        let after : List Shared → PassView = λ h. record { table = record { id = new_id; n = first.n; rows = first.rows }; held = together first.held second.held; seen = h } in
        subst (λ (z : PassView). Meets z w (after new.0.seen)) of_first.view
        (subst (λ (z : PassView). Meets (pass.the_view first) z (after new.0.seen)) of_second.view
        (subst (λ h. Meets (pass.the_view first) (pass.the_view second) (after h)) (sym seen) (record {
          table = ap (λ (i : TableId). let t : TableView = record { id = i; n = first.n; rows = first.rows } in t) same;
          held = refl;
          seen = refl;
          first_front = agrees.first;
          second_front = agrees.second;
          first_mine = λ p holds. agrees.own p (subst (λ h. Holds h p) (sym first_held) holds);
          second_mine = λ p holds. agrees.others p (subst (λ h. Holds h p) (sym second_held) holds);
          legal = agrees.legal;
        })))
