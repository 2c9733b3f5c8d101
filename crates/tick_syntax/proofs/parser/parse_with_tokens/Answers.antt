use Rattle.std.proofs.Common.{Err, ap, inr, sym, subst}
use Rattle.std.proofs.lemmas.Result.{err_from_is_err_and}
use Rattle.base.specs.Plain.{tree_of}
use Rattle.tick_syntax.specs.prover.ValuedTokens.{AreValues}
use Rattle.tick_syntax.proofs.Decided.{one_program, never_both}
use Rattle.tick_syntax.proofs.Parsed.{answered_accepted, answered_first}
use Rattle.tick_syntax.proofs.SpelledInOrder.{spells_in_order}
use Rattle.tick_syntax.proofs.Stops.{first_is_refused}
use Rattle.tick_syntax.proofs.TokensTold.{plain_spelled, told_memory}
use Rattle.tick_syntax.proofs.parser.parse_with_tokens.Goals as goal

pub returns-clause-tokens : goal.returns-clause-tokens
returns-clause-tokens c = plain_spelled c.args.text.now _ _ _ c.in_ok-valued.ensures.ok.1 c.deref-2.ensures.value c.in_ok-tokens.ensures.ok

pub returns-clause-order : goal.returns-clause-order
returns-clause-order c =
    spells_in_order c.args.text.now _
    (plain_spelled c.args.text.now _ _ _ c.in_ok-valued.ensures.ok.1 c.deref-2.ensures.value c.in_ok-tokens.ensures.ok)

pub returns-clause-accepted : goal.returns-clause-accepted
returns-clause-accepted c = λ p short is shallow. one_program c.args.text.now p (tree_of c.in_ok-tree.tree) is c.in_ok-tree.ensures.within.1

pub returns-clause-first : goal.returns-clause-first
returns-clause-first c = λ first is. never_both c.args.text.now (tree_of c.in_ok-tree.tree) first c.in_ok-tree.ensures.within is

pub returns-in_err-valued-clause-refused : goal.returns-in_err-valued-clause-refused
returns-in_err-valued-clause-refused c =
    let told = err_from_is_err_and c.from_residual.result c.from_residual.ensures.1 in
    rw (told.1, told.2) (λ other. first_is_refused c.args.text.now _ (c.in_err-valued.ensures.err other))

pub returns-in_err-valued-clause-first : goal.returns-in_err-valued-clause-first
returns-in_err-valued-clause-first c =
    let told = err_from_is_err_and c.from_residual.result c.from_residual.ensures.1 in
    rw (told.1, told.2) (answered_first c.args.text.now tree_of (Err _) tt (λ other. first_is_refused c.args.text.now _ (c.in_err-valued.ensures.err other)))

pub returns-in_err-valued-clause-accepted : goal.returns-in_err-valued-clause-accepted
returns-in_err-valued-clause-accepted c =
    let told = err_from_is_err_and c.from_residual.result c.from_residual.ensures.1 in
    rw (told.1, told.2) (answered_accepted c.args.text.now tree_of (Err _) tt (λ other. first_is_refused c.args.text.now _ (c.in_err-valued.ensures.err other)))

pub returns-in_err-tree-clause-first : goal.returns-in_err-tree-clause-first
returns-in_err-tree-clause-first c =
    let told = err_from_is_err_and c.from_residual-in_err-tree.result c.from_residual-in_err-tree.ensures.1 in
    rw (told.1, told.2) (answered_first c.args.text.now tree_of (Err _) tt c.in_err-tree.ensures.refused)

pub returns-in_err-tree-clause-accepted : goal.returns-in_err-tree-clause-accepted
returns-in_err-tree-clause-accepted c =
    let told = err_from_is_err_and c.from_residual-in_err-tree.result c.from_residual-in_err-tree.ensures.1 in
    rw (told.1, told.2) (answered_accepted c.args.text.now tree_of (Err _) tt c.in_err-tree.ensures.refused)

pub returns-in_err-tokens-clause-memory : goal.returns-in_err-tokens-clause-memory
returns-in_err-tokens-clause-memory c = λ memory.
    let values = subst (AreValues c.args.text.now) (sym c.deref-2.ensures.value) c.in_ok-valued.ensures.ok.1 in
    told_memory c.args.text.now c.deref-2.result.now (Err _) c.in_ok-valued.ensures.ok.0 values c.in_err-tokens.ensures.none (ap Err c.in_err-tokens.ensures.err)

pub returns-in_err-tokens-clause-first : goal.returns-in_err-tokens-clause-first
returns-in_err-tokens-clause-first c =
    let told = err_from_is_err_and c.from_residual-in_err-tokens.result c.from_residual-in_err-tokens.ensures.1 in
    rw (told.1, told.2) (λ first is. inr c.in_err-tokens.ensures.err)
