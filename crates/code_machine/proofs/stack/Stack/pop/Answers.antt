use Rattle.std.proofs.Common.{ap, ◌∙◌, sym, ◌∷◌, [], drop, reverse}
use Rattle.std.proofs.lemmas.List.{drop-drop, reverse-append}
use Rattle.code_machine.specs.prover.Held.{on_stack}
use Rattle.code_machine.proofs.stack.Stack.pop.Goals as goal

pub loop-preserved : goal.loop-preserved
loop-preserved c =
    let before = on_stack c.args.self.now in
    let top = ap reverse c.take_last.ensures.items ∙ reverse-append c.take_last.new.self.items (c.take_last.result ∷ []) in (
      ap (drop 1) (sym top ∙ c.loop.invariant.0) ∙ drop-drop 1 c.loop.counter before,
      c.take_last.ensures.capacity ∙ c.loop.invariant.1,
    )
