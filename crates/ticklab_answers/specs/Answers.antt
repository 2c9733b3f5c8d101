-- The answer to the words of a command line: each command, with what it reads, runs and tells.
use Rattle.std.specs.Prelude.{◌≡◌, ◌≤◌, ◌*◌, ◌||◌, ⊤, ℕ, Bool, true, false, List, [], Result, Ok, Err, String, Vec, map, max, string_bytes}
use Rattle.std.specs.Global.{Global}
use Rattle.std.specs.Vec.Iter.{into_iter_items}
use Rattle.std.specs.declared.io.Error.{Error}
use Rattle.std.specs.declared.vec.IntoIter.{IntoIter}
use Rattle.searches_states.specs.declared.limits.Limits.{Limits}
use Rattle.ticklab_line.specs.Commands.{Asked, plain_request}
use Rattle.ticklab_line.specs.Lines.{Answers}
use Rattle.ticklab_line.specs.declared.asking.Line.{Line}
use Rattle.ticklab_line.specs.declared.asking.Line.TheVariants as line
use Rattle.ticklab_line.specs.declared.asking.Output.{Output}
use Rattle.ticklab_line.specs.declared.asking.Output.TheVariants as output
use Rattle.ticklab_line.specs.declared.commands.Request.TheVariants.{Explore, Ends, Check, Lasso, Hunt, Runs, Trace, Draw, Page, Explain, Labels}
use Rattle.ticklab_answers.specs.Checks.{ChecksAll, IsUnderOne}
use Rattle.ticklab_files.specs.Reading.{ListsOf}
use Rattle.ticklab_verdicts.specs.Ends.{ExploresEnds}
use Rattle.ticklab_answers.specs.Explanations.{Explains}
use Rattle.ticklab_verdicts.specs.Exploring.{Explores}
use Rattle.ticklab_files.specs.Faults.{Causes, IsEither, IsOneOf}
use Rattle.ticklab_verdicts.specs.Hearing.{HearsOf}
use Rattle.ticklab_verdicts.specs.Hunting.{Hunts, plan_of}
use Rattle.ticklab_answers.specs.Labels.{DrawsLabels}
use Rattle.ticklab_verdicts.specs.Lasso.{IsOfThree, Lassoes}
use Rattle.ticklab_files.specs.Reading.{ReadsOf, ReadsInputOf}
use Rattle.ticklab_files.specs.Responses.{Gives, Refuses}
use Rattle.ticklab_runs.specs.Runs.{TellsRun}
use Rattle.ticklab_verdicts.specs.Tallies.{RunsOf, Tallies}
use Rattle.ticklab_runs.specs.declared.told_run.Telling.TheVariants as telling
use Rattle.ticklab_files.specs.declared.fault.LabFault.{LabFault}
use Rattle.ticklab_files.specs.declared.fault.LabFault.TheVariants.{Words, Unread, Unwritten, Answer}
use Rattle.ticklab_files.specs.declared.form.Form.{Form}
use Rattle.ticklab_files.specs.declared.form.Form.TheVariants.{Text, Json}
use Rattle.ticklab_files.specs.declared.response.Response.{Response}

-- the words that the host gave
abbrev pub GivenWords : Type 0
GivenWords = IntoIter (String Global) Global

abbrev pub GivesWords : Result GivenWords Error → Vec (String Global) Global → Type 0
GivesWords (Ok given) words = words.items ≡ into_iter_items given
GivesWords (Err error) words = ⊥

-- so many states, in so many megabytes of 1,000,000 bytes
abbrev pub limits_of : ℕ → ℕ → Limits
limits_of states megabytes = record { states = states; bytes = megabytes * 1000000 }

-- the form of an answer that has no schedule of its own
abbrev pub form_of : Output → Form
form_of output.Text = Text
form_of output.ScheduleAlone = Text
form_of output.Json = Json

-- a picture or a page is asked for
abbrev pub is_drawn : Asked → Bool
is_drawn (Draw run drawing) = true
is_drawn (Page run paging) = true
is_drawn (Labels processes moves) = true
is_drawn other = false

abbrev pub is_json : Output → Bool
is_json output.Json = true
is_json other = false

abbrev pub IsCheck : Asked → Type 0
IsCheck (Check paths limit memory jobs) = ⊤
IsCheck other = ⊥

-- the answer is JSON, SVG or HTML
abbrev pub is_data : Line → Bool
is_data (line.Request request printed) = is_drawn (plain_request request) || is_json printed
is_data (line.Help text) = false
is_data (line.Version text) = false
is_data (line.Refused text) = false

-- Files, a runner and a watch are as they are before and after. Nothing is read that the words don't name, or that isn't in
-- a folder that they name. The runner makes the runs of `hunt --threads` and no other, and the watch hears of the searches
-- of an `explore` and of nothing else.
module _ {F M W : Type 0} (Reads : ReadsOf F) (ReadsInput : ReadsInputOf F) (Lists : ListsOf F) (Ran : RunsOf M) (hears : HearsOf W)
    (before after : F) (rested ran : M) (quiet heard : W) where
  -- What is printed of it, where the command has such answers. Only `check` writes something before its answer.
  abbrev pub Responds : Output → Asked → List (List ℕ) → Response → Type 0
  Responds printed (Explore file never limit memory steps) written response =
      (written ≡ []) × (ran ≡ rested) × Explores Reads ReadsInput hears before after quiet heard file never (limits_of limit memory) steps printed response
  Responds printed (Ends file never process condition limit memory steps) written response =
      (written ≡ []) × (ran ≡ rested) × ExploresEnds Reads ReadsInput hears before after quiet heard file never process condition (limits_of limit memory) steps printed response
  Responds printed (Check paths limit memory jobs) written response =
      (ran ≡ rested) × (heard ≡ quiet) × (at_once : ℕ) × (at_once ≤ max 1 jobs)
      × ChecksAll Reads ReadsInput Lists before after paths (limits_of limit memory) at_once (form_of printed) written response
  Responds printed (Lasso file prefix cycle) written response =
      (written ≡ []) × (ran ≡ rested) × (heard ≡ quiet) × Lassoes Reads ReadsInput before after file prefix cycle response
  Responds printed (Hunt file never seed runs from steps is_uniform jobs) written response =
      (written ≡ []) × (ran ≡ rested) × (heard ≡ quiet) × Hunts Reads ReadsInput before after file never (plan_of seed runs steps is_uniform) from printed response
  Responds printed (Runs file times turns) written response = (written ≡ []) × (heard ≡ quiet) × Tallies Reads ReadsInput Ran before after rested ran file times turns response
  Responds printed (Trace run is_shared) written response = (written ≡ []) × (ran ≡ rested) × (heard ≡ quiet) × TellsRun (telling.Trace (record { form = form_of printed; is_shared = is_shared })) Reads ReadsInput before after run response
  Responds printed (Draw run drawing) written response = (written ≡ []) × (ran ≡ rested) × (heard ≡ quiet) × TellsRun (telling.Picture drawing) Reads ReadsInput before after run response
  Responds printed (Page run paging) written response = (written ≡ []) × (ran ≡ rested) × (heard ≡ quiet) × TellsRun (telling.Page paging) Reads ReadsInput before after run response
  Responds printed (Explain file schedule) written response = (written ≡ []) × (ran ≡ rested) × (heard ≡ quiet) × Explains Reads ReadsInput before after file schedule (form_of printed) response
  Responds printed (Labels processes moves) written response = (written ≡ []) × (ran ≡ rested) × (heard ≡ quiet) × (after ≡ before) × DrawsLabels processes moves response

  -- where nothing is read, run or told of a search
  abbrev pub RespondsAtOnce : (Response → Type 0) → List (List ℕ) → Response → Type 0
  RespondsAtOnce P written response = (written ≡ []) × (ran ≡ rested) × (heard ≡ quiet) × (after ≡ before) × P response

  -- help goes out, so does the version, and a line that is refused is told
  abbrev pub RespondsTo : Line → List (List ℕ) → Response → Type 0
  RespondsTo (line.Request request printed) = Responds printed (plain_request request)
  RespondsTo (line.Help text) = RespondsAtOnce (Gives 0 (λ out. out ≡ string_bytes text))
  RespondsTo (line.Version text) = RespondsAtOnce (Gives 0 (λ out. out ≡ string_bytes text))
  RespondsTo (line.Refused text) = RespondsAtOnce (Refuses 2 (λ told. told ≡ string_bytes text))

-- the names of files that a request has
abbrev pub NamesOf : Asked → List ℕ → Type 0
NamesOf (Explore file never limit memory steps) name = name ≡ file
NamesOf (Ends file never process condition limit memory steps) name = name ≡ file
NamesOf (Check paths limit memory jobs) name = IsUnderOne paths name
NamesOf (Lasso file prefix cycle) name = IsOfThree file prefix cycle name
NamesOf (Hunt file never seed runs from steps is_uniform jobs) name = name ≡ file
NamesOf (Runs file times turns) name = name ≡ file
NamesOf (Trace run is_shared) name = IsEither run.file run.schedule name
NamesOf (Draw run drawing) name = IsEither run.file run.schedule name
NamesOf (Page run paging) name = IsEither run.file run.schedule name
NamesOf (Explain file schedule) name = IsOneOf file schedule name
NamesOf (Labels processes moves) name = ⊥

abbrev pub NamesOfLine : Line → List ℕ → Type 0
NamesOfLine (line.Request request output) name = NamesOf (plain_request request) name
NamesOfLine (line.Help text) name = ⊥
NamesOfLine (line.Version text) name = ⊥
NamesOfLine (line.Refused text) name = ⊥

-- the words ask a program of this version for a line of which P holds
abbrev pub AsksLine : List ℕ → Result GivenWords Error → (Line → Type 0) → Type 0
AsksLine version (Ok given) P = (l : Line) × Answers version (map string_bytes (into_iter_items given)) l × P l
AsksLine version (Err error) P = ⊥

-- they ask for something that has this file
abbrev pub IsNamed : List ℕ → Result GivenWords Error → List ℕ → Type 0
IsNamed version given name = AsksLine version given (λ l. NamesOfLine l name)

-- the line asks for something that is written before the answer: for people what files come to
abbrev pub WritesBefore : Line → Type 0
WritesBefore (line.Request request output.Text) = IsCheck (plain_request request)
WritesBefore (line.Request request output.ScheduleAlone) = IsCheck (plain_request request)
WritesBefore (line.Request request output.Json) = ⊥
WritesBefore (line.Help text) = ⊥
WritesBefore (line.Version text) = ⊥
WritesBefore (line.Refused text) = ⊥

-- Memory or a thread was refused, a file can't be read that the line names, or what is written before the answer can't be.
abbrev pub IsOfLine : Causes → Line → LabFault → Type 0
IsOfLine U l (Words cause) = ⊥
IsOfLine U l (Unread name cause) = NamesOfLine l (string_bytes name) × U (string_bytes name) cause
IsOfLine U l (Unwritten cause) = WritesBefore l
IsOfLine U l (Answer fault) = ⊤

-- Memory or a thread was refused, the host says why the words can't be had, a file can't be read that they name, or what
-- is written before the answer can't be. The causes say why.
abbrev pub IsOfWordsOrFile : Causes → List ℕ → Result GivenWords Error → LabFault → Type 0
IsOfWordsOrFile U version given (Words cause) = given ≡ Err cause
IsOfWordsOrFile U version given (Unread name cause) = IsNamed version given (string_bytes name) × U (string_bytes name) cause
IsOfWordsOrFile U version given (Unwritten cause) = AsksLine version given WritesBefore
IsOfWordsOrFile U version given (Answer fault) = ⊤
