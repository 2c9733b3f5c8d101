-- What `draw` answers: a picture of a run of a program, or of its code.
use Rattle.std.specs.Prelude.{ℕ, List, map, unwrap_or, Option}
use Rattle.base.specs.Plain.{Name, WholeProgram}
use Rattle.ticklab_trace.specs.declared.parts.Parts.{Parts}
use Rattle.ticklab_draw.specs.Never.{Broken}
use Rattle.ticklab_draw.specs.Pictures.{file_name, picture}
use Rattle.ticklab_draw.specs.declared.look.Look.{Look}
use Rattle.ticklab_draw.specs.declared.mark.Mark.{Mark}
use Rattle.ticklab_line.specs.declared.commands.Drawing.{Drawing}

abbrev pub row_names : WholeProgram Name → List (List ℕ)
row_names a = map (λ row. row.letters) a.registers

-- the title of what is told of the program of this file, where this one is asked for or none
abbrev pub title_of : Option (List ℕ) → List ℕ → List ℕ
title_of title name = unwrap_or title (file_name name)

-- how a picture looks
abbrev pub look_of : Drawing (List ℕ) → Look
look_of drawing = record { from = drawing.from; is_shared = drawing.is_shared; width = drawing.width }

-- the picture of these marks of a run that has these parts
abbrev pub picture_of : WholeProgram Name → List ℕ → Look → Option Parts → List Mark → Option Broken → List ℕ
picture_of a title look parts marks mark = picture title look a.processes (row_names a) parts marks mark
