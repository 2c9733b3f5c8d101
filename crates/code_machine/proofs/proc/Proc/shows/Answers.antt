use Rattle.std.proofs.Common.{◌≡◌, Bool, true, false, refl, ap, sym, subst, ◌∙◌, arith}
use Rattle.std.specs.Prelude.{is_some, if◌then◌else◌}
use Rattle.code_machine.specs.declared.ask.Reply.TheVariants as R
use Rattle.word_core.specs.Packed.{AreLabels}
use Rattle.code_machine.specs.Machine.{exchanges, made, does, same_labels}
use Rattle.code_machine.proofs.Found.{found}
use Rattle.code_machine.proofs.proc.Proc.shows.Goals as goal

pub look-requires : goal.look-requires
look-requires c = omega (arith, (found c.requires.of c.requires.here c.in-Bin.is).operands)

pub look-requires-in-Bin : goal.look-requires-in-Bin
look-requires-in-Bin c = omega (arith, (found c.requires.of c.requires.here c.in-Bin.is).operands)

pub returns-in-Exchange : goal.returns-in-Exchange
returns-in-Exchange c = λ rows.
    let one = c.args.self.now in
    let labels = c.args.labels.now in
    let case : (b : Bool) → b ≡ is_some (exchanges one.process c.in-Exchange.field-0 (if b then R.Won else R.Lost labels)).act =
    λ b. elim b as (λ b. b ≡ is_some (exchanges one.process c.in-Exchange.field-0 (if b then R.Won else R.Lost labels)).act) [ true ↦ refl | false ↦ refl ] in
    c.are_same.ensures
    ∙ ap (λ x. same_labels labels x.process.scratch) c.self.view_is
    ∙ case (same_labels labels one.process.scratch)
    ∙ ap (λ i. is_some (made labels rows (does one.process c.args.code.now.sizes.processes one.me i)).act) (sym c.in-Exchange.is)

pub are_same-requires : goal.are_same-requires
are_same-requires c =
    let n = c.args.code.now.sizes.processes in
    (n, c.requires.labels.are, subst (λ x. AreLabels n x.process.scratch) (sym c.self.view_is) c.requires.of.safe.scratch.are)
