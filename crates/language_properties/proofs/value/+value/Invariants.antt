use Rattle.std.proofs.Common.{◌≡◌, drop}
use Rattle.language_properties.specs.Properties.{formula_of}
use Rattle.language_properties.specs.Values.{values, sum_from}
use Rattle.language_properties.specs.prover.Deciding.{decided}
use Rattle.language_properties.proofs.value.+value.Given as goal

-- the values that are left make what all make
abbrev pub invariant-decide-loop-process : goal.invariant-decide-loop-process
invariant-decide-loop-process g l =
    decided l.fn.wants_some (values (g.S.Visible.seen l.fn.state) l.fn.bound l.fn.number (formula_of l.fn.body))
    ≡ decided l.fn.wants_some (drop l.process (values (g.S.Visible.seen l.fn.state) l.fn.bound l.fn.number (formula_of l.fn.body)))

abbrev pub invariant-sum_of-loop-process : goal.invariant-sum_of-loop-process
invariant-sum_of-loop-process g l =
    sum_from 0 (values (g.S.Visible.seen l.fn.state) l.fn.bound l.fn.number (formula_of l.fn.body))
    ≡ sum_from l.total (drop l.process (values (g.S.Visible.seen l.fn.state) l.fn.bound l.fn.number (formula_of l.fn.body)))
