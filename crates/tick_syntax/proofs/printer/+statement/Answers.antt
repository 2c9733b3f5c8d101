use Rattle.std.proofs.Common.{arith}
use Rattle.std.proofs.lemmas.Grind.{common_steps}
use Rattle.tick_syntax.proofs.PrintedParts.{tokens_branch, tokens_repeat}
use Rattle.tick_syntax.proofs.printer.+statement.Goals as goal

pub push_statement-returns-in_ok-push_terminal-in-If-2 :
    goal.push_statement-returns-in_ok-push_terminal-in-If-2
push_statement-returns-in_ok-push_terminal-in-If-2 t c = grind (arith, common_steps, tokens_branch _ _ _ _ c.in-If.is)

pub push_statement-returns-in_ok-push_expression-in-While :
    goal.push_statement-returns-in_ok-push_expression-in-While
push_statement-returns-in_ok-push_expression-in-While t c = grind (arith, common_steps, tokens_repeat _ _ _ c.in-While.is)
