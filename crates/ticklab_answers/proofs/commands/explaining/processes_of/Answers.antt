use Rattle.std.proofs.Common.{◌≡◌, Result, Ok, Err, MatchResult, refl}
use Rattle.std.proofs.lemmas.Result.{IfOk-weaker}
use Rattle.ticketc_refusals.specs.Refusals.{BeginsCode}
use Rattle.ticklab_files.specs.Asking.{IsProgramFile}
use Rattle.ticklab_answers.specs.Explanations.{HasProcesses, IsFaultOf, IsLineFault, no_code, no_program, no_question, processes_of_code, processes_of_program}
use Rattle.ticklab_answers.proofs.commands.explaining.processes_of.Goals as goal

both_as : {A B : Type 0} {P R : A → Type 0} {Q S : B → Type 0} (r : Result A B) → ((a : A) → P a → R a) → ((b : B) → Q b → S b)
    → MatchResult r P Q → MatchResult r R S
both_as (Ok a) f g held = f a held
both_as (Err b) f g held = g b held

pub returns-in-Ok : goal.returns-in-Ok
returns-in-Ok c =
    let has = rw c.in-Ok.is at c.in_ok-n.ensures in
    processes_of_code (c.begins_code.ensures.yes c.if-begins_code.true) has.0 has.1

pub returns-in-Err : goal.returns-in-Err
returns-in-Err c = no_code c.in-Err.refusal (c.begins_code.ensures.yes c.if-begins_code.true) (rw c.in-Err.is at c.in_ok-n.ensures) refl

pub returns-in-Ok-2 : goal.returns-in-Ok-2
returns-in-Ok-2 c =
    let input = c.args.input.now in
    let a = c.in-Ok-2.program in
    let begins : BeginsCode input → ⊥ = c.begins_code.ensures.no c.if-begins_code.false in
    let is = rw c.in-Ok-2.is at c.in_ok-program.ensures in
    IfOk-weaker c.processes_of_program.result (λ found. MatchResult found (λ n. (is : IsProgramFile input) × (n ≡ is.program.processes)) (IsLineFault a input))
    (λ found. MatchResult found (HasProcesses input) (IsFaultOf input))
    (λ found h. both_as found (λ n has. processes_of_program begins has.0 has.1) (λ fault line. no_question a begins is line) h)
    c.processes_of_program.ensures

pub returns-in-Err-2 : goal.returns-in-Err-2
returns-in-Err-2 c =
    no_program c.in-Err-2.refusal (c.begins_code.ensures.no c.if-begins_code.false) (rw c.in-Err-2.is at c.in_ok-program.ensures) refl
