-- What is told of a run, of which each part is what it is said to be.
use Rattle.std.proofs.Common.{◌≡◌, ◌∙◌, ◌<◌, ℕ, Bool, List, Option, ap, subst}
use Rattle.std.specs.List.{All}
use Rattle.std.proofs.lemmas.List.Elements.{All-take}
use Rattle.base.specs.Plain.{Name, WholeProgram}
use Rattle.code_core.specs.Instructions.{StepCode}
use Rattle.ticklab_draw.specs.Never.{Broken}
use Rattle.ticklab_draw.specs.declared.look.Look.{Look}
use Rattle.ticklab_draw.specs.declared.mark.Mark.{Mark}
use Rattle.ticklab_page.specs.Pages.{code_page}
use Rattle.ticklab_trace.specs.declared.parts.Parts.{Parts}
use Rattle.ticklab_trace.specs.declared.steps.InstructionStep.{InstructionStep}
use Rattle.ticklab_trace.specs.declared.steps.StatementStep.{StatementStep}
use Rattle.ticklab_runs.specs.Pages.{IsPageOf}
use Rattle.ticklab_runs.specs.Pictures.{picture_of}
use Rattle.ticklab_runs.specs.Runs.{steps_told}
use Rattle.ticklab_runs.specs.declared.told_run.Telling.{Telling}
use Rattle.ticklab_runs.specs.declared.told_run.Telling.TheVariants.{Trace, Picture, Page}

-- the steps that are told are of the same processes
pub all_told : (telling : Telling (List ℕ)) (n : ℕ) (schedule : List ℕ) → All (λ p. p < n) schedule → All (λ p. p < n) (steps_told telling schedule)
all_told (Trace tracing) n schedule all = all
all_told (Picture drawing) n schedule all = All-take (λ p. p < n) drawing.to schedule all
all_told (Page paging) n schedule all = all

module _ (a : WholeProgram Name) (title other : List ℕ) (same_title : title ≡ other) (marks marked : List Mark) (same_marks : marks ≡ marked) where
  pub same_picture : (look like : Look) (parts : Option Parts) (mark never : Option Broken) → look ≡ like → mark ≡ never
      → picture_of a title look parts marks mark ≡ picture_of a other like parts marked never
  same_picture look like parts mark never same_look same_mark =
      ap (λ (t : List ℕ). picture_of a t look parts marks mark) same_title
      ∙ ap (λ (l : Look). picture_of a other l parts marks mark) same_look
      ∙ ap (λ (ms : List Mark). picture_of a other like parts ms mark) same_marks
      ∙ ap (picture_of a other like parts marked) same_mark

  pub same_page : (input out : List ℕ) (is_shared : Bool) (parts : Option Parts) (steps shown : List StatementStep) (mark never : Option Broken) → steps ≡ shown → mark ≡ never
      → IsPageOf title is_shared input a parts steps marks mark out → IsPageOf other is_shared input a parts shown marked never out
  same_page input out is_shared parts steps shown mark never same_steps same_mark page =
      subst (λ (t : List ℕ). IsPageOf t is_shared input a parts shown marked never out) same_title
      (subst (λ (ms : List Mark). IsPageOf title is_shared input a parts shown ms never out) same_marks
      (subst (λ (o : Option Broken). IsPageOf title is_shared input a parts shown marks o out) same_mark
      (subst (λ (ss : List StatementStep). IsPageOf title is_shared input a parts ss marks mark out) same_steps page)))

  pub same_code_page : (is_shared : Bool) (code lowered : StepCode) (steps shown : List InstructionStep) (drawn picture : List ℕ) → code ≡ lowered → steps ≡ shown → drawn ≡ picture
      → code_page title is_shared a code steps drawn ≡ code_page other is_shared a lowered shown picture
  same_code_page is_shared code lowered steps shown drawn picture same_code same_steps same_drawn =
      ap (λ (t : List ℕ). code_page t is_shared a code steps drawn) same_title
      ∙ ap (λ (c : StepCode). code_page other is_shared a c steps drawn) same_code
      ∙ ap (λ (ss : List InstructionStep). code_page other is_shared a lowered ss drawn) same_steps
      ∙ ap (code_page other is_shared a lowered shown) same_drawn
