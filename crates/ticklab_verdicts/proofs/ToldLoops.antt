-- The text about steps that repeat for ever, from its parts.
use Rattle.std.proofs.Common.{◌≡◌, ◌++◌, ◌+◌, ◌<◌, ℕ, List, arith, drop, length, length-append, refl, subst, sym, take}
use Rattle.std.specs.List.{All, list_any}
use Rattle.std.proofs.lemmas.List.Elements.{All-append}
use Rattle.base.specs.Plain.{Name, WholeProgram}
use Rattle.ticklab_trace.specs.Places.{Standing}
use Rattle.ticklab_trace.specs.declared.steps.StatementStep.{StatementStep}
use Rattle.ticklab_verdicts.specs.Lines.{cycle_line}
use Rattle.ticklab_json.specs.declared.found.Loop.{Loop}
use Rattle.ticklab_verdicts.specs.Sought.{AreLawful}
use Rattle.ticklab_verdicts.specs.Loops.{is_write, lead_in_text, loop_text, steps_text}

pub told_loop : (a : WholeProgram Name) (spots others : List Standing) (found schedule lead_in cycle words : List ℕ)
    (steps first more second third : List StatementStep) (one two out : List ℕ)
    → spots ≡ others → first ≡ take (length schedule) steps → more ≡ drop (length schedule) steps
    → second ≡ take (length lead_in) more → third ≡ drop (length lead_in) more
    → words ≡ cycle_line (list_any (λ step. is_write step.act) third)
    → one ≡ steps_text a spots found schedule first → two ≡ one ++ lead_in_text a spots lead_in second
    → out ≡ two ++ steps_text a spots words cycle third
    → out ≡ loop_text a others found schedule lead_in cycle steps
told_loop a spots others found schedule lead_in cycle words steps first more second third one two out same is_first is_more is_second is_third said starts goes ends =
    rw ends (rw goes (rw starts (rw said (rw is_third (rw is_second (rw is_more (rw is_first (rw same refl))))))))

-- there are as many steps as there are in the three
pub counted : (steps : List StatementStep) (all schedule lead_in cycle : List ℕ) → length steps ≡ length all → all ≡ schedule ++ lead_in ++ cycle
    → length steps ≡ length schedule + length lead_in + length cycle
counted steps all schedule lead_in cycle same joined =
    rw same (rw joined (omega (arith, length-append (schedule ++ lead_in) cycle, length-append schedule lead_in)))

-- one after the other they are of the program
pub all_lawful : (n : ℕ) (l : Loop) (all : List ℕ) → AreLawful n l → all ≡ l.schedule.now ++ l.lead_in.now ++ l.cycle.now → All (λ p. p < n) all
all_lawful n l all lawful joined =
    subst (λ (steps : List ℕ). All (λ p. p < n) steps) (sym joined)
    (All-append (λ p. p < n) (l.schedule.now ++ l.lead_in.now) l.cycle.now
    (All-append (λ p. p < n) l.schedule.now l.lead_in.now lawful.schedule lawful.lead_in) lawful.cycle)
