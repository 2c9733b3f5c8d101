use Rattle.std.proofs.Common.{◌-◌, ap, ◌∙◌, sym, subst, length, arith}
use Rattle.std.specs.Option.{option_map}
use Rattle.tick_source.specs.prover.Remaining.{first_of, joined, IsUndone}
use Rattle.tick_source.proofs.Open.{first_last, seen_first}
use Rattle.tick_kinds.specs.Resolved.{resolved_statement}
use Rattle.tick_source.proofs.remaining.Remaining.first.Goals as goal

pub returns : goal.returns
returns c =
    let blocks = c.deref.result.now in
    let same = c.deref.ensures.value in
    let last = c.in_ok-block.ensures.item in
    seen_first c.first.result ∙ ap (option_map resolved_statement) c.first.ensures.value
    ∙ first_last blocks (length blocks - 1) c.in_ok-block.block.now (omega (arith, last.3.0)) last.1 (subst IsUndone (sym same) c.self.invariant)
    ∙ ap (λ bs. first_of (joined bs)) same
    ∙ ap first_of c.self.view_is
