use Rattle.std.proofs.Common.{Err}
use Rattle.std.proofs.lemmas.Result.{err_from_is_err_and}
use Rattle.base.specs.Plain.{tree_of}
use Rattle.tick_syntax.proofs.Parsed.{answered_tree, answered_limits, answered_accepted, answered_first}
use Rattle.tick_syntax.proofs.Stops.{first_is_refused}
use Rattle.tick_syntax.proofs.parser.parse.Goals as goal

pub returns-clause-tree : goal.returns-clause-tree
returns-clause-tree c = answered_tree c.args.text.now tree_of c.read_tree.result c.read_tree.ensures.within

pub returns-clause-limits : goal.returns-clause-limits
returns-clause-limits c = answered_limits c.args.text.now tree_of c.read_tree.result c.read_tree.ensures.within

pub returns-clause-accepted : goal.returns-clause-accepted
returns-clause-accepted c = answered_accepted c.args.text.now tree_of c.read_tree.result c.read_tree.ensures.within c.read_tree.ensures.refused

pub returns-clause-first : goal.returns-clause-first
returns-clause-first c = answered_first c.args.text.now tree_of c.read_tree.result c.read_tree.ensures.within c.read_tree.ensures.refused

pub returns-in_err-tokens-clause-refused : goal.returns-in_err-tokens-clause-refused
returns-in_err-tokens-clause-refused c =
    let told = err_from_is_err_and c.from_residual.result c.from_residual.ensures.1 in
    rw (told.1, told.2) (λ other. first_is_refused c.args.text.now _ (c.in_err-tokens.ensures.err other))

pub returns-in_err-tokens-clause-first : goal.returns-in_err-tokens-clause-first
returns-in_err-tokens-clause-first c =
    let told = err_from_is_err_and c.from_residual.result c.from_residual.ensures.1 in
    rw (told.1, told.2) (answered_first c.args.text.now tree_of (Err _) tt (λ other. first_is_refused c.args.text.now _ (c.in_err-tokens.ensures.err other)))

pub returns-in_err-tokens-clause-accepted : goal.returns-in_err-tokens-clause-accepted
returns-in_err-tokens-clause-accepted c =
    let told = err_from_is_err_and c.from_residual.result c.from_residual.ensures.1 in
    rw (told.1, told.2) (answered_accepted c.args.text.now tree_of (Err _) tt (λ other. first_is_refused c.args.text.now _ (c.in_err-tokens.ensures.err other)))
