use Rattle.std.proofs.Common.{List, drop, subst, sym, ◌+◌, ◌++◌}
use Rattle.ticklab_explain.specs.Following.{AreFitting}
use Rattle.ticklab_explain.specs.declared.wanted.Wanted.{Wanted}
use Rattle.ticklab_explain.proofs.Fitting.{one_less, one_more, the_end}
use Rattle.ticklab_explain.proofs.expected.fitting.Goals as goal
use Rattle.ticklab_explain.proofs.expected.fitting.Goals.{then-branch+in_ok-push, else-branch}

pub loop-one-preserved : goal.loop-one-preserved
loop-one-preserved c =
    let front = c.args.front.now in
    let among = c.args.among.now in
    let index = c.loop-one.one-index in
    let items = c.loop-one.wanted.items in
    let So : List Wanted → Type 0 = λ ws. (rest : List Wanted) → AreFitting front (drop (index + 1) among) rest → AreFitting front among (ws ++ rest) in
    elim c.if-branch.branch [
      | then-branch+in_ok-push w ↦
          (rw w.wanted-is (subst So (sym w.in_ok-push.ensures.items)
          (one_more front among items index _ c.loop-one-test.true c.loop-one.invariant (rw w.if-branch.true at c.in_ok-fits.ensures))))
      | else-branch w ↦
          (rw w.wanted-is
          (one_less front among items index _ c.loop-one-test.true c.loop-one.invariant (rw w.if-branch.false at c.in_ok-fits.ensures)))
    ]

pub returns : goal.returns
returns c = the_end c.args.front.now c.args.among.now c.loop-one.wanted.items c.loop-one.one-index c.loop-one-test.false c.loop-one.invariant
