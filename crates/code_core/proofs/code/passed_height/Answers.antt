use Rattle.std.proofs.Common.{◌≡◌, [], arith, length, None}
use Rattle.code_core.specs.Heights.{placed, greatest_height}
use Rattle.code_core.specs.Verified.{first_fault}
use Rattle.code_core.proofs.Passing.{pass_end}
use Rattle.code_core.proofs.code.passed_height.Goals as goal

-- what is known once all places were passed
ended : (c : goal.After-drop-pass-2) → (first_fault c.args.sizes c.args.code.now [] (placed c.args.code.now) ≡ None) × (c.loop-place.pass.greatest ≡ greatest_height c.args.code.now)
ended c =
    let code = c.args.code.now in
    let pass = c.loop-place.pass in
    let done : c.loop-place.place ≡ length code = omega arith in
    pass_end c.args.sizes code c.loop-place.place pass.heights.items pass.before pass.greatest c.loop-place.invariant done

pub returns-clause-verified : goal.returns-clause-verified
returns-clause-verified c = (ended c).0

pub returns-clause-height : goal.returns-clause-height
returns-clause-height c = (ended c).1
