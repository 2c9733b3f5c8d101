-- The printed form of a program that some text is reads back as that program, and as no other.
use Rattle.std.proofs.Common.{◌≡◌, ℕ, List, [], sym, ap, ◌∙◌, subst}
use Rattle.tick_syntax.specs.declared.token.Token.{Token}
use Rattle.tick_syntax.specs.Grammar.{program_tokens, second_span, Derives}
use Rattle.tick_syntax.specs.Refusal.{AllCanStand}
use Rattle.tick_syntax.specs.Lexeme.{lexemes}
use Rattle.base.specs.Plain.{Name, WholeProgram, without_spans}
use Rattle.tick_syntax.specs.Printed.{printed}
use Rattle.tick_syntax.specs.RoundTrip.{IsTextOf, ReadsAs}
use Rattle.tick_syntax.proofs.DerivedAgain.{program_again}
use Rattle.tick_syntax.proofs.SpansAside.{same_printed}
use Rattle.tick_syntax.proofs.SpelledAgain.{spelled_again}
use Rattle.tick_syntax.proofs.SpelledInOrder.{spells_in_order}
use Rattle.tick_syntax.proofs.SpelledOnce.{spells_unique}
use Rattle.tick_syntax.proofs.Continuations.{derives_once}
use Rattle.tick_syntax.proofs.TokensThatStand.{all_stand}

pub reads_back : (text : List ℕ) (p : WholeProgram Name) → IsTextOf text p → ReadsAs (printed p) p
reads_back text p is =
    let stand : AllCanStand (program_tokens p) = subst AllCanStand is.2.0 (all_stand text 0 is.0 (spells_in_order text is.0 is.1)) in
    let again = spelled_again [] (program_tokens p) stand in
    let there = all_stand (printed p) 0 again.tokens (spells_in_order (printed p) again.tokens again.spelled) in
    let found = program_again (second_span again.tokens) p (lexemes (printed p) again.tokens) stand there again.says in
    record {
      back = (found.0, (again.tokens, again.spelled, (found.1, sym found.2)), found.3);
      only = λ q other.
          let tokens = spells_unique (printed p) other.0 again.tokens other.1 again.spelled in
          let derived = subst (λ (ts : List Token). Derives (printed p) ts q) tokens other.2 in
          ap without_spans (derives_once (printed p) again.tokens q found.0 there derived (found.1, sym found.2)) ∙ found.3;
    }

pub stays : (text : List ℕ) (p q : WholeProgram Name) → IsTextOf text p → IsTextOf (printed p) q → printed q ≡ printed p
stays text p q is other = same_printed q p ((reads_back text p is).only q other)
