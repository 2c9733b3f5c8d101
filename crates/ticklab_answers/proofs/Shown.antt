-- What is written before an answer, and then the answer, is shown as one.
-- The idea. Only `check` writes something before its answer, and only for people, whose answers have colours (`first_or_plain`).
-- So it does not matter that the colours of an answer are chosen for it alone (`shown_alike`).
use Rattle.std.proofs.Common.{◌≡◌, ◌⊎◌, ◌∙◌, ℕ, Bool, true, false, List, [], ap, inl, inr, not, refl, subst, sym}
use Rattle.std.specs.Prelude.{◌&&◌, ◌||◌}
use Rattle.ticklab_files.specs.Reading.{ListsOf, ReadsOf, ReadsInputOf}
use Rattle.ticklab_files.specs.declared.response.Response.{Response}
use Rattle.ticklab_line.specs.Commands.{Asked, plain_request}
use Rattle.ticklab_line.specs.declared.asking.Line.{Line}
use Rattle.ticklab_line.specs.declared.asking.Line.TheVariants as line
use Rattle.ticklab_line.specs.declared.asking.Output.{Output}
use Rattle.ticklab_line.specs.declared.asking.Output.TheVariants as output
use Rattle.ticklab_line.specs.declared.commands.Request.TheVariants.{Explore, Ends, Check, Lasso, Hunt, Runs, Trace, Draw, Page, Explain, Labels}
use Rattle.ticklab_verdicts.specs.Hearing.{HearsOf}
use Rattle.ticklab_verdicts.specs.Tallies.{RunsOf}
use Rattle.ticklab_answers.specs.Answers.{Responds, RespondsTo, is_data, is_drawn, is_json}
use Rattle.ticklab_answers.specs.Colours.{colours_for, shown_as}
use Rattle.ticklab_answers.specs.Hearing.{WritesAll}
use Rattle.ticklab_answers.specs.Serving.{Grows, IsWritten, Known, all_shown}
use Rattle.ticklab_answers.specs.declared.colours.Colours.{Colours}
use Rattle.ticklab_answers.specs.declared.host.Host.{Host}
use Rattle.ticklab_answers.proofs.Heard.{grows_on}

module _ {F M W : Type 0} (Reads : ReadsOf F) (ReadsInput : ReadsInputOf F) (Lists : ListsOf F) (Ran : RunsOf M) (hears : HearsOf W)
    (before after : F) (rested ran : M) (quiet heard : W) (written : List (List ℕ)) (response : Response) where
  asked_plain : (printed : Output) (asked : Asked) → Responds Reads ReadsInput Lists Ran hears before after rested ran quiet heard printed asked written response
      → (written ≡ []) ⊎ ((is_drawn asked || is_json printed) ≡ false)
  asked_plain printed (Explore file never limit memory steps) h = inl h.0
  asked_plain printed (Ends file never process condition limit memory steps) h = inl h.0
  asked_plain output.Text (Check paths limit memory jobs) h = inr refl
  asked_plain output.ScheduleAlone (Check paths limit memory jobs) h = inr refl
  asked_plain output.Json (Check paths limit memory jobs) h = inl h.4.told.before
  asked_plain printed (Lasso file prefix cycle) h = inl h.0
  asked_plain printed (Hunt file never seed runs from steps is_uniform jobs) h = inl h.0
  asked_plain printed (Runs file times turns) h = inl h.0
  asked_plain printed (Trace run is_shared) h = inl h.0
  asked_plain printed (Draw run drawing) h = inl h.0
  asked_plain printed (Page run paging) h = inl h.0
  asked_plain printed (Explain file schedule) h = inl h.0
  asked_plain printed (Labels processes moves) h = inl h.0

  pub first_or_plain : (l : Line) → RespondsTo Reads ReadsInput Lists Ran hears before after rested ran quiet heard l written response
      → (written ≡ []) ⊎ (is_data l ≡ false)
  first_or_plain (line.Request request printed) h = asked_plain printed (plain_request request) h
  first_or_plain (line.Help text) h = inl h.0
  first_or_plain (line.Version text) h = inl h.0
  first_or_plain (line.Refused text) h = inl h.0

plain_out : (b : Bool) → (b && not false) ≡ b
plain_out true = refl
plain_out false = refl

-- either nothing is written before, or the answer has colours where that has them
pub shown_alike : (colours : Colours) (is_drawn : Bool) (written : List (List ℕ)) → (written ≡ []) ⊎ (is_drawn ≡ false)
    → all_shown (colours_for colours is_drawn).out written ≡ all_shown colours.out written
shown_alike colours is_drawn written (inl none) =
    subst (λ (w : List (List ℕ)). all_shown (colours_for colours is_drawn).out w ≡ all_shown colours.out w) (sym none) refl
shown_alike colours is_drawn written (inr plain) =
    ap (λ (d : Bool). all_shown (colours_for colours d).out written) plain ∙ ap (λ (b : Bool). all_shown b written) (plain_out colours.out)

-- what was written before, and then the answer
module _ {F O T : Type 0} (out_holds : O → Known) (err_holds : T → Known) (before between : Host F O T) (out : O) (err : T)
    (shown : Colours) (written : List (List ℕ)) (response : Response) (status : ℕ) where
  pub written_whole : WritesAll out_holds before between written → all_shown shown.out written ≡ all_shown before.colours.out written
      → status ≡ response.status → Grows (out_holds between.out) (out_holds out) (shown_as shown.out response.out.items)
      → Grows (err_holds between.err) (err_holds err) (shown_as shown.err response.told.items)
      → IsWritten shown (record { out = out_holds before.out; err = err_holds before.err }) (record { out = out_holds out; err = err_holds err }) written response status
  written_whole writes alike same outs errs = record {
    same = same;
    out =
        grows_on (out_holds before.out) (out_holds between.out) (out_holds out) (all_shown shown.out written) (shown_as shown.out response.out.items)
        (subst (λ (bytes : List ℕ). Grows (out_holds before.out) (out_holds between.out) bytes) (sym alike) writes.out) outs;
    err = subst (λ (e : T). Grows (err_holds e) (err_holds err) (shown_as shown.err response.told.items)) writes.err errs;
  }
