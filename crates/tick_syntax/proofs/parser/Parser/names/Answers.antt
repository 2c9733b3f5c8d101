use Rattle.std.proofs.Common.{◌≡◌, ◌∷◌, [], ◌++◌, Err, rules, drop, map, arith}
use Rattle.std.proofs.lemmas.Result.{err_from_is_err_and}
use Rattle.std.proofs.lemmas.List.{map_push}
use Rattle.tick_syntax.specs.prover.Reading.{names_at, names_by}
use Rattle.tick_syntax.specs.declared.fault.TextFault.TheVariants.{Unexpected}
use Rattle.tick_syntax.specs.declared.valued_token.Meaning.TheVariants as M
use Rattle.tick_syntax.specs.declared.terminals.Terminal.TheVariants as T
use Rattle.base.specs.Plain.{name_of}
use Rattle.tick_syntax.proofs.Loops.{names_fail, names_fail_next, names_last, names_wrong, names_on, next_shorter, name_shorter}
use Rattle.tick_syntax.proofs.parser.Parser.names.Goals as goal

pub returns-in_err-name : goal.returns-in_err-name
returns-in_err-name c =
    let p = err_from_is_err_and c.from_residual.result c.from_residual.ensures.1 in
    rw (p.1, p.2) (names_fail c.args.self.now.end _ _ _ _ c.loop-names.invariant c.in_err-name.ensures)

pub returns-in_err-token : goal.returns-in_err-token
returns-in_err-token c =
    let p = err_from_is_err_and c.from_residual-in_err-token.result c.from_residual-in_err-token.ensures.1 in
    rw (p.1, p.2) (names_fail_next c.args.self.now.end _ _ _ _ _ _ c.loop-names.invariant c.in_ok-name.ensures c.in_err-token.ensures)

pub loop-names-smaller : goal.loop-names-smaller
loop-names-smaller c = omega (arith, name_shorter c.args.self.now.end _ _ c.in_ok-name.ensures, next_shorter c.args.self.now.end _ _ c.in_ok-token.ensures)

pub loop-names-preserved : goal.loop-names-preserved
loop-names-preserved c =
    let e : map name_of c.push.new.self.items ≡ map name_of c.loop-names.names.items ++ name_of c.in_ok-name.name ∷ [] =
    rw c.in_ok-push.ensures.items (map_push _ c.loop-names.names.items c.in_ok-name.name) in
    let k : c.in_ok-token.token.meaning ≡ M.Terminal T.Comma = search rules in
    rw e (names_on c.args.self.now.end _ _ _ _ _ _ c.loop-names.invariant c.in_ok-name.ensures c.in_ok-token.ensures k)

pub returns-in-Terminal-Semicolon : goal.returns-in-Terminal-Semicolon
returns-in-Terminal-Semicolon c =
    let e : map name_of c.push.new.self.items ≡ map name_of c.loop-names.names.items ++ name_of c.in_ok-name.name ∷ [] =
    rw c.in_ok-push.ensures.items (map_push _ c.loop-names.names.items c.in_ok-name.name) in
    let k : c.in_ok-token.token.meaning ≡ M.Terminal T.Semicolon = search rules in
    rw e (names_last c.args.self.now.end _ _ _ _ _ _ c.loop-names.invariant c.in_ok-name.ensures c.in_ok-token.ensures k)

pub returns-in_default : goal.returns-in_default
returns-in_default c =
    let k : names_by c.args.self.now.end c.in_ok-token.token.meaning c.in_ok-token.token.span (drop c.in_ok-token.after c.args.self.now.tokens.now)
    (name_of c.in_ok-name.name) (names_at c.args.self.now.end (drop c.in_ok-token.after c.args.self.now.tokens.now))
    ≡ Err (Unexpected c.in_ok-token.token.span) = search rules in
    names_wrong c.args.self.now.end _ _ _ _ _ _ c.loop-names.invariant c.in_ok-name.ensures c.in_ok-token.ensures k
