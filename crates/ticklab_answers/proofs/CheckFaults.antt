-- Why files are not checked to the last: one can't be read, or what is told of them can't be written.
use Rattle.std.proofs.Common.{Bor, ℕ, List, Result, Ok, Err, IfErr, map}
use Rattle.std.specs.Prelude.{Vec}
use Rattle.std.specs.Global.{Global}
use Rattle.std.specs.declared.io.Error.{Error}
use Rattle.ticklab_check.specs.Listening.{IsOfListener}
use Rattle.ticklab_check.specs.declared.fault.CheckFault.{CheckFault}
use Rattle.ticklab_check.specs.declared.fault.CheckFault.TheVariants.{Unheard, NoMemory}
use Rattle.ticklab_line.specs.declared.asking.Line.TheVariants as line
use Rattle.ticklab_line.specs.declared.asking.Output.{Output}
use Rattle.ticklab_line.specs.declared.asking.Output.TheVariants as output
use Rattle.ticklab_line.specs.declared.commands.Request.TheVariants.{Check}
use Rattle.ticklab_answers.specs.Answers.{IsOfLine, form_of}
use Rattle.ticklab_answers.specs.Checks.{IsUnderOne}
use Rattle.ticklab_answers.specs.Hearing.{IsFaultOf, IsOfCheck, IsText, IsUnwritten}
use Rattle.ticklab_files.specs.Faults.{Causes, IsOfFileThat, IsOfMemory, IsSaid}
use Rattle.ticklab_files.specs.declared.fault.LabFault.{LabFault}
use Rattle.ticklab_files.specs.declared.fault.LabFault.TheVariants.{Words, Unread, Unwritten, Answer}
use Rattle.ticklab_files.specs.declared.form.Form.{Form}

-- a file can't be read
pub of_reading : (U : Causes) (P Q : List ℕ → Type 0) (form : Form) → ((name : List ℕ) → P name → Q name) → (fault : LabFault) → IsOfFileThat U P fault
    → IsOfCheck U Q form fault
of_reading U P Q form f (Words cause) is = absurd is
of_reading U P Q form f (Unread name cause) is = (f _ is.0, is.1)
of_reading U P Q form f (Unwritten cause) is = absurd is
of_reading U P Q form f (Answer fault) is = tt

-- the lines of a file can't be written
pub of_writing : (U : Causes) (P : List ℕ → Type 0) (form : Form) (R : Type 0) → (R → IsText form) → (fault : LabFault) → IsUnwritten R fault → IsOfCheck U P form fault
of_writing U P form R f (Words cause) is = absurd is
of_writing U P form R f (Unread name cause) is = absurd is
of_writing U P form R f (Unwritten cause) is = f is
of_writing U P form R f (Answer fault) is = tt

-- what is told of a listener that heard no more
of_memory : (R : Type 0) (told : LabFault) → IsOfMemory told → IsUnwritten R told
of_memory R (Words cause) is = absurd is
of_memory R (Unread name cause) is = absurd is
of_memory R (Unwritten cause) is = absurd is
of_memory R (Answer fault) is = tt

of_said : (R : Type 0) (error : Error) (told : LabFault) → R → IsSaid error told → IsUnwritten R told
of_said R error (Words cause) refused is = absurd is
of_said R error (Unread name cause) refused is = absurd is
of_said R error (Unwritten cause) refused is = refused
of_said R error (Answer fault) refused is = tt

pub of_listener : (R : Type 0) (fault : CheckFault) (told : LabFault) → IsOfListener R fault → IsFaultOf fault told → IsUnwritten R told
of_listener R (Unheard error) told refused is = of_said R error told refused is
of_listener R NoMemory told refused is = of_memory R told is

-- it is one of the line that asks for the check
pub of_line : (U : Causes) (paths : Vec (Bor (List ℕ)) Global) (limit memory jobs : ℕ) (printed : Output) (fault : LabFault)
    → IsOfCheck U (IsUnderOne (map (λ text. text.now) paths.items)) (form_of printed) fault → IsOfLine U (line.Request (Check paths limit memory jobs) printed) fault
of_line U paths limit memory jobs printed (Words cause) is = absurd is
of_line U paths limit memory jobs printed (Unread name cause) is = is
of_line U paths limit memory jobs output.Text (Unwritten cause) is = tt
of_line U paths limit memory jobs output.ScheduleAlone (Unwritten cause) is = tt
of_line U paths limit memory jobs output.Json (Unwritten cause) is = absurd is
of_line U paths limit memory jobs printed (Answer fault) is = tt

pub then_err : {T E : Type 0} {P Q : E → Type 0} (r : Result T E) → ((e : E) → P e → Q e) → IfErr r P → IfErr r Q
then_err (Ok x) f held = tt
then_err (Err e) f held = f e held
