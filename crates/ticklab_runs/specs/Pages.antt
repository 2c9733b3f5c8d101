-- What `page` answers: a page of a run of a program, or of its code, with its picture.
use Rattle.std.specs.Prelude.{◌≡◌, ℕ, Bool, List, Option}
use Rattle.base.specs.Plain.{Name, WholeProgram}
use Rattle.tick_syntax.specs.Spelling.{Spells}
use Rattle.tick_syntax.specs.declared.token.Token.{Token}
use Rattle.ticklab_draw.specs.Never.{Broken}
use Rattle.ticklab_draw.specs.declared.look.Look.{Look}
use Rattle.ticklab_draw.specs.declared.mark.Mark.{Mark}
use Rattle.ticklab_page.specs.Pages.{source_page}
use Rattle.ticklab_trace.specs.Places.{standings}
use Rattle.ticklab_trace.specs.declared.parts.Parts.{Parts}
use Rattle.ticklab_trace.specs.declared.steps.StatementStep.{StatementStep}
use Rattle.ticklab_runs.specs.Pictures.{picture_of}

-- how the picture of a page looks, which may show only what other processes can see
abbrev pub page_look : Bool → Look
page_look is_shared = record { from = 1; is_shared = is_shared; width = 1400 }

-- The page of these steps of the program that the input is, which have these parts and marks, and this of what must never
-- hold. Private steps may be folded.
abbrev pub IsPageOf : List ℕ → Bool → List ℕ → WholeProgram Name → Option Parts → List StatementStep → List Mark → Option Broken → List ℕ → Type 0
IsPageOf title is_shared input a parts steps marks mark out =
    (tokens : List Token) × Spells input tokens
    × (out ≡ source_page title is_shared input a (standings input tokens a) parts steps (picture_of a title (page_look is_shared) parts marks mark) mark)
