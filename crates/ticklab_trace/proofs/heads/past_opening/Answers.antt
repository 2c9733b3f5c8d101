use Rattle.std.proofs.Common.{◌+◌, ap, ◌∙◌, sym, drop, length, refl}
use Rattle.ticklab_trace.specs.prover.Heads.{names_count}
use Rattle.ticklab_trace.proofs.HeadTokens.{opening_long, past_two}
use Rattle.ticklab_trace.proofs.heads.past_opening.Goals as goal

pub returns : goal.returns
returns c =
    let v = names_count (length c.args.program.now.variables) in
    let s = names_count (length c.args.program.now.scans) in
    let r = names_count (length c.args.program.now.registers) in
    c.past-2.ensures
    ∙ ap (drop 1) (c.past_names.ensures ∙ ap (λ k. drop (names_count k) c.past_names-rest-2.result.now) c.registers.ensures.count
    ∙ ap (drop r) (c.past_names-rest-2.ensures ∙ ap (λ k. drop (names_count k) c.past_names-rest.result.now) c.scans.ensures.count
    ∙ ap (drop s) (c.past_names-rest.ensures ∙ ap (λ k. drop (names_count k) c.past.result.now) c.variables.ensures.count
    ∙ ap (drop v) c.past.ensures ∙ past_two 3 v (3 + v) c.args.tokens.now refl)
    ∙ past_two (3 + v) s (3 + v + s) c.args.tokens.now refl)
    ∙ past_two (3 + v + s) r (3 + v + s + r) c.args.tokens.now refl)
    ∙ past_two (3 + v + s + r) 1 (3 + v + s + r + 1) c.args.tokens.now refl
    ∙ ap (λ k. drop k c.args.tokens.now) (sym (opening_long c.args.program.now))
